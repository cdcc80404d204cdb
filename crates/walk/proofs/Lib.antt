pub mod Looks
pub mod Seen
pub mod Walked
pub mod Refused
pub mod Lowest
pub mod Upper
pub mod Segments
