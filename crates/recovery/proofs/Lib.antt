pub mod WordLemmas
pub mod FindingLemmas
pub mod LogLemmas
pub mod LeaveLemmas
pub mod ReplayLemmas
pub mod TableLemmas
pub mod MountLemmas
pub mod AgainLemmas
pub mod SuperblockLemmas
mod LineLemmas
pub mod FreshPageLemmas
pub mod ZeroFileLemmas
pub mod FreshFileLemmas
pub mod SmallFileLemmas
pub mod FreshLemmas
