pub use Rattle.outcomes.proofs.Durable
pub use Rattle.outcomes.proofs.MachineModel
pub use Rattle.outcomes.proofs as Outcomes
