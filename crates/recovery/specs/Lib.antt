pub mod Findings
pub mod Mounting
pub mod Examples
pub mod Fresh
pub mod Tables
pub mod Calls
