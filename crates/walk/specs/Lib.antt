pub mod Rights
pub mod Look
pub mod Place
pub mod Segments
pub mod Root
