mod Ends
mod Finding
