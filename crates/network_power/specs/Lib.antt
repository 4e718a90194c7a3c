pub mod Leading
pub mod Network
