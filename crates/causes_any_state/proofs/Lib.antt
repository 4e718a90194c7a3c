pub mod Asking
mod Assuming
mod Claims
mod Covering
mod Given
pub mod Rows
mod Words
mod GroupJudging
