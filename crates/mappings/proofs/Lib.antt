pub mod HandleLemmas
pub mod ListedLemmas
pub mod KeptLemmas
pub mod CopyLemmas
pub mod FileLemmas
pub mod RefusedLemmas
pub mod OverwriteLemmas
