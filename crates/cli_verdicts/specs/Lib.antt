pub mod Ending
pub use Rattle.cli_assumed_both.specs.Together
