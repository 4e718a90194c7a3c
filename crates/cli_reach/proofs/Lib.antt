mod Replayed
mod TellingSteps
