pub mod PartLemmas
pub mod AskLemmas
pub mod TextLemmas
pub mod DecimalLemmas
pub mod DataLemmas
pub mod PrintedLemmas
pub mod CommentLemmas
