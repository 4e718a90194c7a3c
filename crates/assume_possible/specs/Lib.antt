pub mod Possible
pub mod Satisfiable
