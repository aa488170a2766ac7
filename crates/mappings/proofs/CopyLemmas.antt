-- The copy of one mapping, changed.
use Rattle.std.proofs.Common.{◌≡◌, ◌+◌, ◌<◌, ◌≤◌, ◌==◌, ◌∙◌, ℕ, zero, suc, Bool, true, false, List, [], ◌∷◌, length, Option, Some, None, IsSome, nat_eq, get_or, slice_get, refl, sym, ap, subst, arith, eq-eqb, position, if◌then◌else◌, true≢false}
use Rattle.std.proofs.lemmas.Bool.{eqb-true, ne_eqb}
use Rattle.std.proofs.lemmas.List.{length-map}
use Rattle.std.proofs.lemmas.List.Elements.{All-map, All-weaker}
use Rattle.std.proofs.lemmas.List.Quantifiers.{position-Some}
use Rattle.std.specs.List.{length_refill}
use Rattle.std.specs.Map.{keys_of, lookup, values_of}
use Rattle.indexmap.specs.Layout.{set_value_at}
use Rattle.nvm_base.specs.declared.files.Kind.{Kind}
use Rattle.nvm_base.specs.declared.files.Kind.TheVariants.{Shared, Private}
use Rattle.nvm_model.specs.Mappings.{change_copy, copy_of, is_shared, own_bytes, recopied}
use Rattle.nvm_model.specs.Storage as model
use Rattle.mappings.specs.declared.mapping.Mapping.{Mapping}
use Rattle.mappings.specs.KeptLends.{with_bytes}
use Rattle.mappings.specs.Lends.{in_place_of}
use Rattle.mappings.specs.Object.{AreMappings, HandlesRise, IsMapping}
use Rattle.mappings.specs.Table.{listed, mapping_under}
use Rattle.mappings.proofs.ListedLemmas.{mapping_of-listed}

-- the handles stay
pub rise-recopied : (handle : ℕ) (f : List ℕ → List ℕ) (low high : ℕ) (ms : List model.Mapping) → HandlesRise low ms high
    → HandlesRise low (change_copy handle f ms) high
rise-recopied handle f low high [] h = h
rise-recopied handle f low high (m ∷ ms) h = (h.0, rise-recopied handle f (m.handle + 1) high ms h.1)

-- a handle below all of them changes none
pub recopied-below : (handle : ℕ) (f : List ℕ → List ℕ) (low high : ℕ) (ms : List model.Mapping) → handle < low → HandlesRise low ms high
    → change_copy handle f ms ≡ ms
recopied-below handle f low high [] l h = refl
recopied-below handle f low high (m ∷ ms) l h =
    let other : (handle == m.handle) ≡ false = ne_eqb handle m.handle (λ e. omega (arith, h.0)) in
    rw other (ap (λ t. m ∷ t) (recopied-below handle f (m.handle + 1) high ms (omega (arith, h.0)) h.1))

-- what is kept at any place has a handle that is not lower than the first
pub key-rises : (low high : ℕ) (entries : List (ℕ × Mapping)) (i : ℕ) (kept : Mapping) → HandlesRise low (listed entries) high
    → slice_get (values_of entries) i ≡ Some kept → low ≤ get_or (keys_of entries) i 0
key-rises low high [] i kept h at = cc
key-rises low high (e ∷ es) zero kept h at = h.0
key-rises low high (e ∷ es) (suc i) kept h at = omega (arith, h.0, key-rises (e.0 + 1) high es i kept h.1 at)

-- other bytes at the place of a handle
pub recopied-listed : (handle low high : ℕ) (bytes : List ℕ) (entries : List (ℕ × Mapping)) (i : ℕ) (kept : Mapping)
    → HandlesRise low (listed entries) high → slice_get (values_of entries) i ≡ Some kept → get_or (keys_of entries) i 0 ≡ handle
    → listed (set_value_at entries i (with_bytes kept bytes)) ≡ change_copy handle (in_place_of bytes) (listed entries)
recopied-listed handle low high bytes [] i kept h at is = refl
recopied-listed handle low high bytes (e ∷ es) zero kept h at is =
    let same : kept ≡ e.1 = cc in
    let own : (handle == e.0) ≡ true = eq-eqb handle e.0 (sym is) in
    rw (same, own, recopied-below handle (in_place_of bytes) (e.0 + 1) high (listed es) (omega arith) h.1) refl
recopied-listed handle low high bytes (e ∷ es) (suc i) kept h at is =
    let above : e.0 + 1 ≤ get_or (keys_of es) i 0 = key-rises (e.0 + 1) high es i kept h.1 at in
    let other : (handle == e.0) ≡ false = ne_eqb handle e.0 (λ p. omega arith) in
    rw other (ap (λ t. mapping_under e.0 e.1 ∷ t) (recopied-listed handle (e.0 + 1) high bytes es i kept h.1 at is))

-- where a search for the handle found it
pub recopied-found : (handle next : ℕ) (bytes : List ℕ) (entries : List (ℕ × Mapping)) (i : ℕ) (kept : Mapping) → HandlesRise 0 (listed entries) next
    → position (nat_eq handle) (keys_of entries) ≡ Some i → slice_get (values_of entries) i ≡ Some kept
    → listed (set_value_at entries i (with_bytes kept bytes)) ≡ change_copy handle (in_place_of bytes) (listed entries)
recopied-found handle next bytes entries i kept h found at =
    let own = position-Some (nat_eq handle) (keys_of entries) i 0 found in
    recopied-listed handle 0 next bytes entries i kept h at (sym (eqb-true handle (get_or (keys_of entries) i 0) own.1))

-- as many bytes as before
pub length-recopied : (handle : ℕ) (bytes : List ℕ) (m : model.Mapping) → length (recopied handle (in_place_of bytes) m).copy ≡ length m.copy
length-recopied handle bytes m = by (handle == m.handle) refl
  where
    by : (b : Bool) → (handle == m.handle) ≡ b → length (recopied handle (in_place_of bytes) m).copy ≡ length m.copy
    by true e = rw e (sym (length_refill (length m.copy) m.copy bytes refl))
    by false e = rw e refl

pub mappings-recopied : (handle : ℕ) (bytes : List ℕ) (next : ℕ) (ms : List model.Mapping) → AreMappings (record { mappings = ms; next = next })
    → AreMappings (record { mappings = change_copy handle (in_place_of bytes) ms; next = next })
mappings-recopied handle bytes next ms h = record {
  few = rw length-map h.few;
  rise = rise-recopied handle (in_place_of bytes) 0 next ms h.rise;
  next = h.next;
  each =
      All-map IsMapping (recopied handle (in_place_of bytes)) ms
      (All-weaker IsMapping (λ m. IsMapping (recopied handle (in_place_of bytes) m)) (λ m own. record {
        span = own.span;
        copy = length-recopied handle bytes m ∙ own.copy;
      }) ms h.each);
}

-- what has a copy is private
pub own-copy : (kind : Kind) (bytes : List ℕ) → IsSome (if is_shared kind then None else Some bytes) → (if is_shared kind then None else Some bytes) ≡ Some bytes
own-copy Shared bytes h = absurd (true≢false (sym h))
own-copy Private bytes h = refl

-- a mapping with a copy is kept
pub copied-kept : (handle : ℕ) (entries : List (ℕ × Mapping)) → IsSome (copy_of handle (listed entries)) → IsSome (lookup (nat_eq handle) entries)
copied-kept handle entries h = by (lookup (nat_eq handle) entries) refl
  where
    by : (r : Option Mapping) → lookup (nat_eq handle) entries ≡ r → IsSome (lookup (nat_eq handle) entries)
    by None e =
        let none : copy_of handle (listed entries) ≡ None = rw (mapping_of-listed, e) refl in
        absurd (true≢false (sym (subst IsSome none h)))
    by (Some kept) e = rw e refl

-- and its bytes are what is kept
pub copy-kept : (handle : ℕ) (entries : List (ℕ × Mapping)) (kept : Mapping) → lookup (nat_eq handle) entries ≡ Some kept
    → IsSome (copy_of handle (listed entries)) → copy_of handle (listed entries) ≡ Some kept.copy.items
copy-kept handle entries kept found h =
    let copy : copy_of handle (listed entries) ≡ own_bytes (mapping_under handle kept) = rw (mapping_of-listed, found) refl in
    copy ∙ own-copy kept.info.kind kept.copy.items (subst IsSome copy h)
