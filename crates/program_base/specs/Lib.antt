pub mod Ending
pub mod World
pub mod Begins
pub mod Opening
pub mod Writing
pub mod Unfailing
