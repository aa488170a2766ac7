pub mod Coming
pub mod Starting
pub mod Stopping
pub mod Leading
pub mod Performing
pub mod Choosing
pub mod Finding
pub mod Tabulating
pub mod Files
pub mod Reporting
pub mod Worked
pub use Rattle.cut_places.specs.AskedReads
pub use Rattle.cut_places.specs as CutPlaces
pub use Rattle.cut_places.specs.Durable
pub use Rattle.machine_host.specs as MachineHost
pub use Rattle.cut_places.specs.MachineModel
pub use Rattle.value_tables.specs.OutcomeRuns
pub use Rattle.cut_places.specs.Outcomes
pub use Rattle.cut_places.specs.SightsSeen
pub use Rattle.value_tables.specs as ValueTables
pub use Rattle.witnesses.specs as Witnesses
