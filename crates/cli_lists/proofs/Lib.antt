mod Deciding
mod Forms
mod ProgressEnds
pub mod Assumed
