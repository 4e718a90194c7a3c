pub mod Grammar
pub mod Laws
pub mod Steps
pub mod Value
