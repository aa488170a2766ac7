use Rattle.std.proofs.Common.{◌≡◌, ◌-◌, drop}
use Rattle.nvm_model.specs.Listing.{in_order}
use Rattle.file_journal.specs.Listing.{entry_name}
use Rattle.file_journal.proofs.Journal.list.Given as goal

abbrev pub invariant-loop-done : goal.invariant-loop-done
invariant-loop-done l = l.list.items ≡ in_order entry_name (drop (64 - l.done) l.self.tables.files)
