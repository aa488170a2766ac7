pub mod Program
pub mod Reads
pub mod Looking
pub mod Asking
pub mod Fitting
pub mod Rows
pub use Rattle.outcomes.specs.Durable
pub use Rattle.outcomes.specs.MachineModel
pub use Rattle.outcomes.specs as Outcomes
