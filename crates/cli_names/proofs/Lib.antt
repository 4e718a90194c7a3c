mod Finding
mod Telling
mod Passing
