pub mod Whole
pub mod Storing
pub mod Bench
pub mod Forms
pub mod Unfailing
pub mod Running
