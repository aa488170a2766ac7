-- What is kept of a mapping, once a `&mut` to the bytes of its copy has ended.
use Rattle.std.specs.Prelude.{ℕ, List, length}
use Rattle.std.specs.Borrow.{Array, Fml, Lends, MutBor, u8}
use Rattle.std.specs.List.{refill}
use Rattle.mappings.specs.declared.mapping.Mapping.{Mapping}
use Rattle.mappings.specs.contracts.mapping.Mapping.{the_row}

-- with other bytes, as many as it had
abbrev pub with_bytes : Mapping → List ℕ → Mapping
with_bytes kept bytes = record kept { copy = record kept.copy { items = refill (length kept.copy.items) kept.copy.items bytes } }

-- its copy has the bytes that r shows last
abbrev pub lends_bytes : MutBor Mapping → MutBor (List ℕ) → Fml
lends_bytes kept r = Lends the_row (Array u8 0) kept r (with_bytes kept.now)
