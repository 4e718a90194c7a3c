mod Places
mod Ranges
