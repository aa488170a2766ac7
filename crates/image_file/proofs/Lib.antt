mod FieldLemmas
mod FirstLemmas
mod HeaderLemmas
mod LineLemmas
mod ByteLemmas
mod ReadingLemmas
mod TextLemmas
mod SetUpLemmas
mod InstallLemmas
mod ExtractLemmas
pub mod ShownLemmas
