pub mod Comments
pub mod Front
