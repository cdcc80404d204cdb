pub mod Choice
pub mod ListCalls
pub mod Indices
pub mod Before
