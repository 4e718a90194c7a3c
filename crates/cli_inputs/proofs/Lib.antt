pub mod Ends
pub mod UnknownWords
