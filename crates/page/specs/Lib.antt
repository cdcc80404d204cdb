pub mod Page
pub mod Range
pub mod Gap
pub mod Length
pub mod Before
pub mod Half
