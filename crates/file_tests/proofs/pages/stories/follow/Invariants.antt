use Rattle.std.proofs.Common.{◌≡◌, IsTrue}
use Rattle.line_device.specs.Plain.{device_of}
use Rattle.file_journal.specs.Tables.{known_units}
use Rattle.file_pages.specs.Object.{PagesServe, is_settled}
use Rattle.file_tests.proofs.pages.stories.follow.Given as goal

abbrev pub invariant-loop-act : goal.invariant-loop-act
invariant-loop-act g l = (IsTrue (is_settled l.files) → PagesServe l.files (device_of l.device).medium)
    × (IsTrue (is_settled l.files) → known_units l.files.journal.tables.pages l.files.journal.free ≡ l.files.journal.geo.fpages)
