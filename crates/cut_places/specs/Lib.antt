pub mod FileChanges
pub mod Maps
pub mod FilesState
pub mod FileCommands
pub mod FileFitting
pub mod SeesFiles
pub mod FileLines
pub mod FileLeaving
pub mod FileMixing
pub mod Sights
pub mod Places
pub mod Enough
pub mod Following
pub use Rattle.sights.specs.AskedReads
pub use Rattle.sights.specs.Durable
pub use Rattle.sights.specs.MachineModel
pub use Rattle.sights.specs.Outcomes
pub use Rattle.sights.specs as SightsSeen
