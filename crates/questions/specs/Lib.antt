pub mod Asked
pub mod Parts
pub mod Near
pub mod Question
pub mod Reading
pub mod Printed
pub mod Rows
