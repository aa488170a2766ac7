pub mod Cause
pub mod States
pub mod Wrong
