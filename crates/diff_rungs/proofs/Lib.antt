mod Acting
mod Ending
mod Going
mod Lists
mod Linking
mod States
