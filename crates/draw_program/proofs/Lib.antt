mod Ones
mod Sizes
mod Titles
