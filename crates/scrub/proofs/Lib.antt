pub mod OthersLemmas
pub mod PageCountLemmas
pub mod LineLemmas
pub mod HealLemmas
pub mod PlacedLemmas
pub mod ChangedLemmas
pub mod FilePlaceLemmas
pub mod FileChangedLemmas
pub mod UnitLemmas
pub mod LostLemmas
mod MarkLemmas
