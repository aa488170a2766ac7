use Rattle.std.proofs.Common.{◌≡◌, take}
use Rattle.std.specs.List.{flat_map}
use Rattle.file_journal.specs.Files.{files_of}
use Rattle.marked_lines.proofs.EventLemmas.{unit_events}
use Rattle.marked_lines.proofs.events.events_of.Given as goal

abbrev pub invariant-loop-file : goal.invariant-loop-file
invariant-loop-file g l =
    l.events.items ≡ flat_map (unit_events l.files.journal.geo (g.L.Lines.state l.dev).medium) (take l.file-index (files_of l.files.journal.tables))
