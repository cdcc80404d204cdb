pub mod Status
pub mod Convention
