pub mod Bounds
pub mod Layout
pub mod Words
pub mod Superblock
