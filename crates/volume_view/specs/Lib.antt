pub mod Shown
pub mod ShownSound
pub mod View
