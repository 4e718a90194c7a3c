pub mod FormLaws
pub mod ReadingOrder
mod CutLaws
mod UnclosedLaws
mod CutText
mod RunLaws
mod PartLaws
pub mod OverLaws
pub mod PageLaws
pub mod Examples
pub mod FitLaws
mod WordLaws
pub mod LabelLaws
