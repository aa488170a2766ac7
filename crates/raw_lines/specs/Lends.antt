-- What room ends as, once a `&mut` to the bytes of one of its lines has ended.
use Rattle.std.specs.Prelude.{ℕ, List, slice_set, Some}
use Rattle.std.specs.Borrow.{Fml, MutBor, Lends}
use Rattle.raw_lines.specs.Ownership.{Bytes}
use Rattle.raw_lines.specs.declared.room.Room.{Room}
use Rattle.raw_lines.specs.contracts.room.Room.{the_row}

abbrev pub with_bytes : Room → ℕ → List ℕ → Room
with_bytes room i bytes = record { start = room.start; lines = slice_set room.lines i (Some bytes) }

-- that line has the bytes that r shows last
abbrev pub lends_bytes : MutBor Room → ℕ → MutBor (List ℕ) → Fml
lends_bytes room i r = Lends the_row Bytes room r (with_bytes room.now i)
