pub mod HistoryLemmas
pub mod TornLemmas
pub mod WordLemmas
pub mod PutLemmas
pub mod PanelLemmas
pub mod WriteBackLemmas
pub mod CellsLemmas
pub mod RestartLemmas
