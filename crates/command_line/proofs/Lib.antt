pub mod WordLemmas
pub mod LeafLemmas
pub mod ProgramLemmas
pub mod FormLemmas
