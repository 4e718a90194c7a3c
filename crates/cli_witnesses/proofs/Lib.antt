mod Kept
mod Named
mod Rows
