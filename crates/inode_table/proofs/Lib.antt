pub mod FirstLemmas
pub mod HeldLemmas
pub mod NameWordLemmas
pub mod ReadLemmas
pub mod SlotLemmas
pub mod TableLemmas
