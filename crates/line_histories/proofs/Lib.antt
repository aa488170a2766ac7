pub mod WordLemmas
pub mod LogLemmas
pub mod HeldLemmas
