pub mod Ways
pub mod Pages
pub mod Blocks
pub mod Files
pub mod Left
pub mod Seen
pub mod Stops
pub mod Outcome
pub mod Finds
pub mod Rows
pub use Rattle.durable.specs as Durable
pub use Rattle.machine_model.specs as MachineModel
