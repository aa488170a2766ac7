-- Mappings as they are kept, and as they are listed.
use Rattle.std.proofs.Common.{◌≡◌, ◌+◌, ◌==◌, ◌∙◌, ℕ, Bool, true, false, List, [], ◌∷◌, ◌++◌, Some, None, nat_eq, refl, sym, ap, arith}
use Rattle.std.proofs.lemmas.Bool.{eqb-true, ne_eqb}
use Rattle.std.proofs.lemmas.List.{map-append}
use Rattle.std.specs.List.{list_any}
use Rattle.std.specs.Map.{lookup, remove_entry, values_of}
use Rattle.std.specs.Option.{option_map}
use Rattle.std.specs.Str.{bytes_eq}
use Rattle.indexmap.proofs.CallerLemmas.{insert_entry-new}
use Rattle.indexmap.specs.IndexMap.{IndexMap, insert_entry}
use Rattle.nvm_base.specs.declared.units.Span.{Span}
use Rattle.nvm_model.specs.Mappings.{is_mapped, is_shown, mapping_of, without_mapping}
use Rattle.mappings.specs.declared.mapping.Mapping.{Mapping}
use Rattle.mappings.specs.Object.{HandlesRise}
use Rattle.mappings.specs.Table.{kept_shows, listed, mapping_under}
use Rattle.mappings.proofs.HandleLemmas.{rise-below, without-below}

-- the mapping with a handle is the one that is kept under it
pub mapping_of-listed : (handle : ℕ) (entries : List (ℕ × Mapping))
    → mapping_of handle (listed entries) ≡ option_map (mapping_under handle) (lookup (nat_eq handle) entries)
mapping_of-listed handle [] = refl
mapping_of-listed handle (e ∷ es) = by (handle == e.0) refl (mapping_of-listed handle es)
  where
    by : (b : Bool) → (handle == e.0) ≡ b → mapping_of handle (listed es) ≡ option_map (mapping_under handle) (lookup (nat_eq handle) es)
        → mapping_of handle (listed (e ∷ es)) ≡ option_map (mapping_under handle) (lookup (nat_eq handle) (e ∷ es))
    by true p rest = rw p (ap (λ h. Some (mapping_under h e.1)) (sym (eqb-true handle e.0 p)))
    by false p rest = rw p rest

-- without one
pub without-listed : (handle low high : ℕ) (entries : List (ℕ × Mapping)) → HandlesRise low (listed entries) high
    → listed (remove_entry (nat_eq handle) entries) ≡ without_mapping handle (listed entries)
without-listed handle low high [] h = refl
without-listed handle low high (e ∷ es) h = by (handle == e.0) refl (without-listed handle (e.0 + 1) high es h.1)
  where
    by : (b : Bool) → (handle == e.0) ≡ b → listed (remove_entry (nat_eq handle) es) ≡ without_mapping handle (listed es)
        → listed (remove_entry (nat_eq handle) (e ∷ es)) ≡ without_mapping handle (listed (e ∷ es))
    by true p rest = rw p (sym (without-below handle (e.0 + 1) high (listed es) (omega (arith, eqb-true handle e.0 p)) h.1))
    by false p rest = rw p (ap (λ t. mapping_under e.0 e.1 ∷ t) rest)

-- one more
pub listed-more : (entries : List (ℕ × Mapping)) (handle : ℕ) (kept : Mapping)
    → listed (entries ++ (handle, kept) ∷ []) ≡ listed entries ++ mapping_under handle kept ∷ []
listed-more entries handle kept = map-append _ entries ((handle, kept) ∷ [])

-- no mapping has a handle to come
pub lookup-next : (low high : ℕ) (entries : List (ℕ × Mapping)) → HandlesRise low (listed entries) high → lookup (nat_eq high) entries ≡ None
lookup-next low high [] h = refl
lookup-next low high (e ∷ es) h =
    let other : (high == e.0) ≡ false = ne_eqb high e.0 (λ p. omega (arith, rise-below (e.0 + 1) high (listed es) h.1)) in
    rw other (lookup-next (e.0 + 1) high es h.1)

-- a file has a mapping where one of those that are kept is of it
pub is_mapped-listed : (name : List ℕ) (entries : List (ℕ × Mapping))
    → is_mapped name (listed entries) ≡ list_any (λ (m : Mapping). bytes_eq m.info.name name) (values_of entries)
is_mapped-listed name [] = refl
is_mapped-listed name (e ∷ es) = rw (is_mapped-listed name es) refl

-- and likewise for a stretch of it
pub is_shown-listed : (name : List ℕ) (span : Span) (entries : List (ℕ × Mapping))
    → is_shown name span (listed entries) ≡ list_any (λ (m : Mapping). kept_shows name span m) (values_of entries)
is_shown-listed name span [] = refl
is_shown-listed name span (e ∷ es) = rw (is_shown-listed name span es) refl

-- a mapping that is put under the next handle is listed last
pub inserted-next : {S : Type 0} (m : IndexMap ℕ Mapping S) (new : List (ℕ × Mapping)) (next : ℕ) (kept : Mapping) → HandlesRise 0 (listed m.entries) next
    → new ≡ insert_entry nat_eq m.entries next kept → listed new ≡ listed m.entries ++ mapping_under next kept ∷ []
inserted-next m new next kept h is =
    ap listed (is ∙ insert_entry-new nat_eq m next kept (lookup-next 0 next m.entries h)) ∙ listed-more m.entries next kept
