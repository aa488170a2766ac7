pub mod Refusals
pub mod Others
pub mod Lines
pub mod Calls
