pub mod LastLemmas
pub mod PartStoreLemmas
pub mod CutLemmas
pub mod HoleFileLemmas
pub mod PartLemmas
pub mod PageRunLemmas
mod FailureRunLemmas
mod FileRunLemmas
mod PageStoreRunLemmas
mod FileActionRunLemmas
