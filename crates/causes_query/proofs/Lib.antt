pub mod SourceLaws
pub mod Asking
pub mod ListedPlaces
pub mod Refusals
pub mod Going
pub mod Imaging
pub mod Completions
