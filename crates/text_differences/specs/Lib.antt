pub mod DifferenceText
pub mod GroupText
pub mod Forms
