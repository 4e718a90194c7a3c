mod Endings
mod Names
