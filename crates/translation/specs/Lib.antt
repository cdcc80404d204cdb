pub mod Walked
pub mod Translate
pub mod Step
