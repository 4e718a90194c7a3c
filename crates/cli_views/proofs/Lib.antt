mod Abouts
mod Endings
mod Growing
mod Names
mod Notes
mod Plain
