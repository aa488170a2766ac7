pub mod Text
pub mod WrongField
pub mod Fields
pub mod Results
pub mod Laws
pub mod Devices
