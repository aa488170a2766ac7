pub mod FrameLemmas
pub mod BesideLemmas
pub mod CallLemmas
pub mod ToldLemmas
pub mod PositionLemmas
