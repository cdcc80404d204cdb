pub mod Items
pub mod Choice
pub mod Ranges
pub mod Images
pub mod ListCalls
pub mod Before
