pub mod Declarations
pub mod Exported
pub mod Refusals
