-- Bytes that were put into a copy.
use Rattle.std.proofs.Common.{◌≡◌, ◌+◌, ◌-◌, ◌≤◌, ◌==◌, ◌++◌, ◌∙◌, ℕ, Bool, true, false, List, [], ◌∷◌, length, take, drop, Option, Some, None, option_and_then, IfSome, refl, sym, ap, ap₂, subst, arith, eq-eqb, if◌then◌else◌}
use Rattle.std.proofs.lemmas.Bool.{eqb-true}
use Rattle.std.proofs.lemmas.List.{drop-drop, length-append, length-drop, length-take}
use Rattle.std.proofs.lemmas.Option.{same_Some}
use Rattle.nvm_base.specs.declared.files.Kind.{Kind}
use Rattle.nvm_base.specs.declared.files.Kind.TheVariants.{Shared, Private}
use Rattle.nvm_model.specs.Mappings.{change_copy, copy_of, is_shared, mapping_of, overwritten, own_bytes}
use Rattle.nvm_model.specs.Storage as model
use Rattle.file_journal.proofs.ListingLemmas.{refill-all}
use Rattle.mappings.specs.Lends.{in_place_of}
use Rattle.mappings.specs.Object.{HandlesRise}
use Rattle.mappings.proofs.CopyLemmas.{recopied-below}

-- two changes that make the same of a copy make the same of the mappings
change-alike : (handle low high : ℕ) (f g : List ℕ → List ℕ) (copy : List ℕ) (ms : List model.Mapping) → HandlesRise low ms high → copy_of handle ms ≡ Some copy → f copy ≡ g copy
    → change_copy handle f ms ≡ change_copy handle g ms
change-alike handle low high f g copy [] rise is same = refl
change-alike handle low high f g copy (m ∷ ms) rise is same = by_test (handle == m.handle) refl is (λ own. change-alike handle (m.handle + 1) high f g copy ms rise.1 own same)
  where
    own_copy : (kind : Kind) → m.kind ≡ kind → own_bytes m ≡ Some copy → m.copy ≡ copy
    own_copy Shared kind own = let none = ap (λ k. if is_shared k then None else Some m.copy) kind in cc (none, own)
    own_copy Private kind own = same_Some _ _ (sym (ap (λ k. if is_shared k then None else Some m.copy) kind) ∙ own)

    by_test : (b : Bool) → (handle == m.handle) ≡ b → option_and_then own_bytes (if b then Some m else mapping_of handle ms) ≡ Some copy
        → (copy_of handle ms ≡ Some copy → change_copy handle f ms ≡ change_copy handle g ms)
        → record m { copy = if b then f m.copy else m.copy } ∷ change_copy handle f ms ≡ record m { copy = if b then g m.copy else m.copy } ∷ change_copy handle g ms
    by_test true at own later =
        let below : handle ≤ m.handle = let e : handle ≡ m.handle = eqb-true handle m.handle at in omega (arith, e) in
        let here : f m.copy ≡ g m.copy = ap f (own_copy m.kind refl own) ∙ same ∙ ap g (sym (own_copy m.kind refl own)) in
        ap₂ (λ c t. let n : model.Mapping = record m { copy = c } in n ∷ t) here
        (recopied-below handle f (m.handle + 1) high ms (omega (arith, below)) rise.1 ∙ sym (recopied-below handle g (m.handle + 1) high ms (omega (arith, below)) rise.1))
    by_test false at own later = ap (λ t. m ∷ t) (later own)

-- what was put into a copy through a part of it
pub overwritten-put : (handle high offset n : ℕ) (bytes seen put rest : List ℕ) (ms : List model.Mapping) → HandlesRise 0 ms high → copy_of handle ms ≡ Some seen → put ≡ bytes → n ≡ length bytes
    → IfSome (copy_of handle ms) (λ copy. offset + length bytes ≤ length copy) → rest ≡ drop n (drop offset seen)
    → change_copy handle (in_place_of (take offset seen ++ (put ++ rest))) ms ≡ change_copy handle (overwritten offset bytes) ms
overwritten-put handle high offset n bytes seen put rest ms rise is is_put is_n fits is_rest =
    let within : offset + length bytes ≤ length seen = subst (λ o. IfSome o (λ copy. offset + length bytes ≤ length copy)) is fits in
    let whole : take offset seen ++ (put ++ rest) ≡ overwritten offset bytes seen =
    ap₂ (λ p r. take offset seen ++ (p ++ r)) is_put (is_rest ∙ ap (λ k. drop k (drop offset seen)) is_n ∙ drop-drop (length bytes) offset seen) in
    let long : length (overwritten offset bytes seen) ≡ length seen =
    length-append (take offset seen) (bytes ++ drop (offset + length bytes) seen) ∙ ap₂ (λ a b. a + b) (length-take offset seen) (length-append bytes (drop (offset + length bytes) seen) ∙ ap (λ k. length bytes + k) (length-drop (offset + length bytes) seen))
    ∙ omega (arith, within) in
    ap (λ w. change_copy handle (in_place_of w) ms) whole
    ∙ change-alike handle 0 high (in_place_of (overwritten offset bytes seen)) (overwritten offset bytes) seen ms rise is (refill-all (length seen) seen (overwritten offset bytes seen) long)
