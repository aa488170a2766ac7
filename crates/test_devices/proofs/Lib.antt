pub mod RecorderLemmas
pub mod ScheduleLemmas
