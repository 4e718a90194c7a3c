pub mod Forms
pub mod Endings
pub mod Naming
pub mod Ordered
pub mod TellingEnds
pub mod AssumedEnds
pub mod InBothPrograms
