pub mod Cause
pub mod Holds
pub mod Slots
pub mod Words
pub mod Wrong
