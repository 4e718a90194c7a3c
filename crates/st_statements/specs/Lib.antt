pub mod Operands
pub mod Run
