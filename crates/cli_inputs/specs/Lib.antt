pub mod FaultLine
pub mod Explained
pub mod Variables
pub mod Setting
pub mod Reports
pub mod Reading
