mod TestLemmas
mod AmongLemmas
pub mod FollowLemmas
pub mod StopLemmas
pub mod LookLemmas
mod LineLemmas
mod LeftLemmas
mod RestLemmas
mod BlockLemmas
mod FileLemmas
mod SeenLemmas
mod FoundLemmas
pub mod HistoryLemmas
pub mod FileHistoryLemmas
pub mod ValueLemmas
mod PickLemmas
mod WordLemmas
mod TellLemmas
pub mod ChooseLemmas
mod VolumeLemmas
mod BlockTellLemmas
mod BlocksShownLemmas
mod FileTellLemmas
mod FilesShownLemmas
pub use Rattle.durable.proofs as Durable
pub use Rattle.machine_model.proofs as MachineModel
