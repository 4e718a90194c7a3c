pub mod Carried
pub mod Sight
