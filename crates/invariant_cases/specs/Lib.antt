pub mod Allowing
pub mod AnswerLaws
pub mod Buffers
pub mod Assuming
pub mod Cases
pub mod OutcomeLaws
pub mod Outcomes
