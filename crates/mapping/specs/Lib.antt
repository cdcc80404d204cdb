pub mod Pages
pub mod Search
pub mod Agreement
pub mod Walk
pub mod PageNumbers
pub mod Pass
