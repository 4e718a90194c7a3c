mod Equivalent
mod Nothing
mod Running
