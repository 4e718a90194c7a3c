mod Starting
mod Merges
mod Told
mod Counts
mod Stepping
