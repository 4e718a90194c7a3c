mod Blocks
mod Runs
mod Starts
mod Walks
