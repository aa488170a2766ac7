pub mod Spans
pub mod Refusals
