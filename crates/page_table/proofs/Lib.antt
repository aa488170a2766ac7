pub mod ClaimLemmas
pub mod FirstLemmas
pub mod RightLemmas
pub mod RunLemmas
pub mod SetLemmas
pub mod TableLemmas
pub mod WrongLemmas
