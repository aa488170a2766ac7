pub mod CountLemmas
pub mod SparseLemmas
pub mod BesideLemmas
