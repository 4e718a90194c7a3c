pub mod Lists
mod KeptParts
mod Guards
pub mod KnownKept
pub mod KnownPlain
mod Kept
mod Framed
mod LookLaws
mod Acting
mod StepWise
mod StepLaws
mod StepLooks
mod StepsKept
pub mod Likened
pub mod Exits
mod Values
mod Starts
mod Sizes
mod GoneSizes
mod Agreeing
mod Sliced
