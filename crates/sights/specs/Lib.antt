pub mod Seeing
pub mod BlockTelling
pub mod Changing
pub mod ChangingBlocks
pub mod Ways
pub mod Units
pub use Rattle.asked_reads.specs as AskedReads
pub use Rattle.asked_reads.specs.Durable
pub use Rattle.asked_reads.specs.MachineModel
pub use Rattle.asked_reads.specs.Outcomes
