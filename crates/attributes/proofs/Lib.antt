pub mod AttributeLemmas
