pub mod Images
pub mod MemImages
pub mod Memory
pub mod Schedule
pub mod Writing
