pub mod KeptLemmas
pub mod Leases
pub mod Memory
pub mod Opens
pub mod Sharing
