pub mod Widths
pub mod Displacement
pub mod Form
pub mod Steps
