pub mod Witnessed
pub mod Naming
pub mod Stimulus
pub mod Saving
pub mod Ending
pub mod Laws
