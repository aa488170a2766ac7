pub mod Kept
pub mod Brings
pub mod Examples
