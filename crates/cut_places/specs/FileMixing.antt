-- How a cut mixes old files with new ones.
use Rattle.std.specs.Prelude.{Option, Some, None}
use Rattle.sights.specs.MachineModel.Meaning.{FilesLeft}
use Rattle.sights.specs.MachineModel.Meaning.FilesLeft.{Unchanged, OldOrNew, StoredInPart, SyncedInPart}
use Rattle.sights.specs.declared.way.Way.{Way}
use Rattle.sights.specs.declared.way.Way.TheVariants.{Each, Together}

-- None where all are as they were
abbrev pub way_left : FilesLeft → Option Way
way_left Unchanged = None
way_left OldOrNew = Some Together
way_left (StoredInPart name offset bytes) = Some Each
way_left (SyncedInPart name spans) = Some Each
