pub mod Truth
pub mod Operands
