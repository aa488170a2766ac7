pub mod Action
pub mod Operands
pub mod Script
pub mod Streaming
pub mod StreamSteps
pub mod Parsing
