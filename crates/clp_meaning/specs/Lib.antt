pub mod Meanings
pub mod Reach
pub mod Sheets
pub mod Carried
