mod Settling
mod Rows
mod Words
mod Going
mod Tabling
