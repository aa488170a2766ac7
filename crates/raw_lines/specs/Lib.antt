pub mod Kept
pub mod Lends
pub mod Lines
pub mod Ownership
pub mod RegionLends
