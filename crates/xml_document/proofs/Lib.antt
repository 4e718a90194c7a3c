mod Runs
mod Productions
mod Ends
mod Adding
mod Growing
