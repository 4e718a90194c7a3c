pub mod Items
pub mod Characters
pub mod Markup
pub mod Elements
pub mod Documents
pub mod Refusals
pub mod Kinds
pub mod Reads
