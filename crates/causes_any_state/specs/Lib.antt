pub mod Numbers
pub mod Possible
pub mod Searching
pub mod Cursor
pub mod Judged
pub mod Truth
