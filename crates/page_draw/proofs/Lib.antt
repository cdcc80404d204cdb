pub mod Accepted
pub mod Room
pub mod Settled
pub mod First
