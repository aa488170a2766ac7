pub mod Left
pub mod Values
pub mod Rows
pub mod Sides
pub mod Adding
pub mod Looking
pub mod Tables
pub mod Walking
pub mod Listed
pub mod Worked
pub use Rattle.outcome_runs.specs as OutcomeRuns
