pub mod DisjointLemmas
pub mod LineLemmas
pub mod PlaceLemmas
