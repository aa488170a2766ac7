pub mod Stops
pub mod Telling
pub mod Tables
pub mod Showing
pub mod Calls
pub mod Lists
