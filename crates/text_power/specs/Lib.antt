pub mod Show
pub mod Why
pub mod Ends
pub mod Marks
pub mod Cuts
