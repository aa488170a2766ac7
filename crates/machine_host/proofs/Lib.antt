mod InsideLemmas
pub mod VolumeLemmas
pub mod TellingLemmas
pub mod CostLemmas
pub mod LayoutLemmas
pub mod BadLineLemmas
pub mod ReadingLemmas
pub mod FilesAsideLemmas
pub mod RoomLemmas
pub mod ElsewhereLemmas
pub mod EventLemmas
pub mod ToldLemmas
pub mod StepLemmas
pub mod KeepLemmas
pub mod CallLemmas
pub mod BlockLemmas
pub mod BlockReadLemmas
pub mod ExistsLemmas
pub mod VolumeCallLemmas
pub mod DepictedLemmas
pub mod LogLineLemmas
pub mod MountLemmas
pub mod MountEffectLemmas
pub mod MountedLemmas
pub mod BackLemmas
pub mod RestartLemmas
pub mod RestartAnswerLemmas
pub mod RemountLemmas
pub mod SettlingLemmas
pub mod WaitingLemmas
pub mod VolumeFateLemmas
pub mod FilesFateLemmas
pub mod MappedLemmas
pub mod AsLemmas
pub mod HandleLemmas
pub mod HandledLemmas
pub mod MappedFateLemmas
pub mod MapFateLemmas
pub mod MapToldLemmas
pub mod MapLemmas
pub mod HandleCallLemmas
pub mod FlushFateLemmas
pub mod WholeFileLemmas
pub mod LostLineLemmas
pub mod SyncedLemmas
pub mod FlushLemmas
pub mod FilesLeftLemmas
pub mod FilesCallLemmas
mod ListingLemmas
pub mod FilePageFateLemmas
pub mod FilePageCallLemmas
pub mod FilePageLemmas
mod EitherFileLemmas
mod WeakMarkLemmas
mod WeakPageLemmas
pub mod FileChangeLemmas
pub mod FileStoreLemmas
pub mod FileActionFateLemmas
mod ActionAnswerLemmas
pub mod FileActionLemmas
mod FileSyncLemmas
pub mod LoadLemmas
pub mod MediaLemmas
pub mod PoisonLemmas
mod NextEventLemmas
mod AttributeLemmas
mod NewsLemmas
mod FileNewsLemmas
mod WeakenLemmas
pub mod LineLemmas
pub mod FileErrorLemmas
pub mod FileCheckLemmas
mod LineSumLemmas
mod WeakLineLemmas
mod WeakFileLemmas
mod WantingLemmas
mod WorkLemmas
pub use Rattle.machine_model.proofs.RunLemmas
