-- What a region ends as, once a `&mut` to the bytes of one of its lines has ended.
use Rattle.std.specs.Prelude.{ℕ, List, Option, Some, slice_set}
use Rattle.std.specs.Borrow.{Fml, MutBor, LendsIf}
use Rattle.raw_lines.specs.Ownership.{Bytes}
use Rattle.raw_lines.specs.contracts.region.Region.{the_row}

-- that line has the bytes that r shows last, and at None the region stays as it is
abbrev pub lends_line : MutBor (List (Option (List ℕ))) → ℕ → Option (MutBor (List ℕ)) → Fml
lends_line region i r = LendsIf the_row Bytes region r (λ bytes. slice_set region.now i (Some bytes)) region.now
