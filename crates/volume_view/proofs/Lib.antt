pub mod FrameLemmas
pub mod PanelLemmas
pub mod ShownLemmas
