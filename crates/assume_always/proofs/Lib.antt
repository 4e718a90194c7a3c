mod Opposites
mod Lines
