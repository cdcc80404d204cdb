pub mod Entries
pub mod Images
