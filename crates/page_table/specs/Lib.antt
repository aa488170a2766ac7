pub mod Cause
pub mod Claims
pub mod Pages
pub mod Reading
pub mod Runs
pub mod Wrong
