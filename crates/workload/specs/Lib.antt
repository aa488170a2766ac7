pub mod Due
pub mod Lines
pub mod Rows
pub mod Summary
