pub mod Index
pub mod Level
pub mod Answers
