mod Fitting
mod Gets
mod Noted
mod PlainTitles
mod Showings
mod Untagging
