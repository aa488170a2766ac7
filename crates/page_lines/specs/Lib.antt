pub mod Placed
pub mod Turns
pub mod Shown
pub mod Sought
pub mod Stretches
