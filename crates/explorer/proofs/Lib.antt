pub mod ComesLemmas
pub mod PerformLemmas
pub mod BlockLookLemmas
pub mod LookLemmas
pub mod CauseLemmas
pub mod UntoldLemmas
pub mod ChoiceLemmas
pub mod MarkLemmas
pub mod FileMarkLemmas
mod SizeMarkLemmas
pub mod SoundLemmas
pub mod KeptLemmas
pub mod FoundLemmas
pub mod LookingLemmas
pub mod LookedLemmas
pub mod ResultLemmas
pub mod FollowedLemmas
pub mod LedLemmas
pub mod WentLemmas
pub mod ReportLemmas
pub mod FileListLemmas
pub mod NumberLemmas
pub mod FileLookLemmas
pub use Rattle.cut_places.proofs as CutPlaces
pub use Rattle.cut_places.proofs.Durable
pub use Rattle.machine_host.proofs as MachineHost
pub use Rattle.cut_places.proofs.MachineModel
pub use Rattle.value_tables.proofs.OutcomeRuns
pub use Rattle.cut_places.proofs.Outcomes
pub use Rattle.cut_places.proofs.SightsSeen
pub use Rattle.value_tables.proofs as ValueTables
pub use Rattle.witnesses.proofs as Witnesses
