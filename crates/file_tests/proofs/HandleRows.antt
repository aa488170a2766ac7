-- The last handle is given, and none behind it, as `map` answers by its clauses.
use Rattle.std.proofs.Common.{◌≡◌, ◌∷◌, ℕ, [], Some, None, refl}
use Rattle.nvm_base.specs.declared.files.Kind.TheVariants.{Shared}
use Rattle.nvm_base.specs.declared.units.Span.{Span}
use Rattle.nvm_model.specs.Mappings.{new_mapping}
use Rattle.nvm_model.specs.Page.Page.{Absent}
use Rattle.nvm_model.specs.Storage.{File}
use Rattle.mappings.specs.Object.{MappingsState, with_mapping}
use Rattle.mappings.specs.Refusals.{map_refusal}
use Rattle.mappings.specs.Refusals.MapRefusal.{Limit}

-- no mapping is left, and the next one gets that handle
abbrev with_next : ℕ → MappingsState
with_next next = record { mappings = []; next = next }

-- the file `a` of two holes, and all of its bytes
abbrev file : File
file = record { name = 97 ∷ []; pages = Absent ∷ Absent ∷ [] }

abbrev whole : Span
whole = record { start = 0; len = 8192 }

pub the_last_is_given : map_refusal (with_next 4294967295) (file ∷ []) file.name whole Shared ≡ None
the_last_is_given = refl

pub it_is_the_last : (with_mapping (new_mapping 4294967295 file.name whole Shared file.pages) (with_next 4294967295)).next ≡ 4294967296
it_is_the_last = refl

pub none_behind : map_refusal (with_next 4294967296) (file ∷ []) file.name whole Shared ≡ Some Limit
none_behind = refl
