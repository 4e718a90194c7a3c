mod Bytes
mod Fronts
mod Lists
mod Walks
mod Steps
