pub mod Walking
pub mod Holding
pub mod Steps
pub mod Counting
pub mod Numbers
