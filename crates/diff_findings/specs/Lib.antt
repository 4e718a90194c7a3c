pub mod Findings
pub mod Tally
pub mod Equivalence
