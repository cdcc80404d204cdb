pub mod Tables
pub mod Root
pub mod Search
pub mod Found
pub mod List
