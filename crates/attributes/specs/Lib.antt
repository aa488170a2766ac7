pub mod Attributes
pub mod Rows
