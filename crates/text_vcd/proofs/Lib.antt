mod Codes
mod Keeping
