pub mod Flow
pub mod MoreHelpers
pub mod Trees
