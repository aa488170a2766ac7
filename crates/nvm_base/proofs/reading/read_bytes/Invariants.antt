use Rattle.std.proofs.Common.{◌==◌, length, drop, []}
use Rattle.std.specs.List.{slice_split}
use Rattle.nvm_base.specs.Data.{items_of}
use Rattle.nvm_base.specs.Reading.{HasRead}
use Rattle.nvm_base.proofs.ReadingLemmas.{Taken}
use Rattle.nvm_base.proofs.reading.read_bytes.Given as goal

abbrev pub invariant-loop-item : goal.invariant-loop-item
invariant-loop-item l =
    let items = slice_split (λ c. c == 44) l.text in
    record {
      taken : Taken (items_of items) (items_of (drop (length l.yielded) items)) l.initial.reading l.reading;
      start : HasRead l.room [] l.initial.reading.bytes.items l.initial.reading.left;
    }
