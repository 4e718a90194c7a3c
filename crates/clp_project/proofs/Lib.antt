mod Joining
mod Numbers
mod Ways
