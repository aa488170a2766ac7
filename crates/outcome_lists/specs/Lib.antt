pub mod Parts
pub mod Choices
pub mod Outcomes
pub mod Lists
pub mod Words
pub mod Asking
pub mod Courses
pub mod Listing
pub mod Mixing
pub mod Levels
pub mod Worked
pub mod Apart
pub mod ApartBlocks
pub mod ApartFiles
pub mod Together
pub mod Walks
pub use Rattle.explorer.specs.AskedReads
pub use Rattle.explorer.specs.CutPlaces
pub use Rattle.explorer.specs.Durable
pub use Rattle.explorer.specs as Explorer
pub use Rattle.explorer.specs.MachineHost
pub use Rattle.explorer.specs.MachineModel
pub use Rattle.explorer.specs.OutcomeRuns
pub use Rattle.explorer.specs.Outcomes as OutcomeTest
pub use Rattle.explorer.specs.ValueTables
pub use Rattle.explorer.specs.Witnesses
