mod Carrying
mod Listing
mod Opened
