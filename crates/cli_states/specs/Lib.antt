pub mod Query
pub mod AnyState
pub mod Never
