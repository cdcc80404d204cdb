pub mod Progress
pub mod Found
