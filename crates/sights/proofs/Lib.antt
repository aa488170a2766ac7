pub mod SeenLemmas
pub mod AsideLemmas
pub mod VolumeChangeLemmas
pub mod BlockChangeLemmas
pub mod PassLemmas
pub mod ShowLemmas
pub mod InsideLemmas
pub mod SizeLemmas
pub mod FitLemmas
mod ReachLemmas
pub use Rattle.asked_reads.proofs.Durable
pub use Rattle.asked_reads.proofs.MachineModel
pub use Rattle.asked_reads.proofs.Outcomes
