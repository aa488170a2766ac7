pub mod Sparse
pub mod Units
pub mod Beside
