pub mod Outcome
pub mod Refusal
pub mod Answers
