pub mod Refusals
pub mod Counting
pub mod Lines
pub mod Spans
