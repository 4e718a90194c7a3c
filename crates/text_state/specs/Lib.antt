pub mod Item
pub mod Laws
pub mod Named
pub mod Parts
pub mod ReadState
pub mod StateText
