pub mod Routes
pub mod Trees
