pub mod Kind
pub mod Lines
pub mod Reasons
pub mod Units
pub mod Xml
