pub mod BytesLemmas
pub mod WritingLemmas
pub mod OpenLemmas
