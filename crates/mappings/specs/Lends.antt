-- What mappings end as, once a `&mut` to the bytes of a copy has ended.
use Rattle.std.specs.Prelude.{ℕ, List, length}
use Rattle.std.specs.Borrow.{Array, Fml, Lends, MutBor, u8}
use Rattle.std.specs.List.{refill}
use Rattle.nvm_model.specs.Mappings.{change_copy}
use Rattle.mappings.specs.Object.{MappingsState}
use Rattle.mappings.specs.contracts.Mappings.{the_row}

-- bytes in the place of others, as many as these are
abbrev pub in_place_of : List ℕ → List ℕ → List ℕ
in_place_of new old = refill (length old) old new

-- the copy has the bytes that r shows last
abbrev pub lends_copy : MutBor MappingsState → ℕ → MutBor (List ℕ) → Fml
lends_copy list handle r =
    Lends the_row (Array u8 0) list r
    (λ bytes. record list.now { mappings = change_copy handle (in_place_of bytes) list.now.mappings })
