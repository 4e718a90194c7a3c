pub mod GivenLaws
pub mod Replaying
