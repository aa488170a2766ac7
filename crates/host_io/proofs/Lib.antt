pub mod SourceLemmas
pub mod WritingLemmas
