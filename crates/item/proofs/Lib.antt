pub mod Bytes
pub mod Checked
