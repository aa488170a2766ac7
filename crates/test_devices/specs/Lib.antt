pub mod Starts
pub mod Recorder
pub mod Fuse
pub mod Schedule
pub mod Faulty
