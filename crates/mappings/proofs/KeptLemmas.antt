-- What is true of mappings stays true as one is made or ended.
use Rattle.std.proofs.Common.{◌≡◌, ◌+◌, ◌^◌, ◌≤◌, ◌==◌, ◌||◌, ◌∙◌, ℕ, Bool, true, false, not, List, [], ◌∷◌, ◌++◌, length, All, refl, sym, ap, arith, true≢false}
use Rattle.std.proofs.lemmas.Bool.{eqb-false}
use Rattle.std.proofs.lemmas.List.{length-append}
use Rattle.std.proofs.lemmas.List.Elements.{All-cons, All-filter, All-head, All-nil, All-push, All-tail}
use Rattle.std.specs.Map.{values_of}
use Rattle.nvm_model.specs.Mappings.{has_handle, is_full, without_mapping}
use Rattle.nvm_model.specs.Storage as model
use Rattle.mappings.specs.declared.mapping.Mapping.{Mapping}
use Rattle.mappings.specs.Object.{AreMappings, IsInReach, IsMapping}
use Rattle.mappings.specs.Table.{listed}
use Rattle.mappings.proofs.HandleLemmas.{length-without, rise-more, rise-without}

pub mappings-without : (handle next : ℕ) (ms : List model.Mapping) → AreMappings (record { mappings = ms; next = next })
    → AreMappings (record { mappings = without_mapping handle ms; next = next })
mappings-without handle next ms h = record {
  few = omega (arith, h.few, length-without handle ms);
  rise = rise-without handle 0 next ms h.rise;
  next = h.next;
  each = All-filter (λ m. not (has_handle handle m)) IsMapping ms h.each;
}

-- fewer than 256, and a handle is left
pub room-left : (n next : ℕ) → n ≤ 256 → next ≤ 2 ^ 32 → (n == 256 || next == 4294967296) ≡ false → (n + 1 ≤ 256) × (next + 1 ≤ 2 ^ 32)
room-left n next l m room = by (n == 256) refl
  where
    by : (b : Bool) → (n == 256) ≡ b → (n + 1 ≤ 256) × (next + 1 ≤ 2 ^ 32)
    by true e = absurd (true≢false (sym (ap (λ b. b || next == 4294967296) e) ∙ room))
    by false e =
        let other : (next == 4294967296) ≡ false = sym (ap (λ b. b || next == 4294967296) e) ∙ room in
        let few : n + 1 ≤ 256 = omega (arith, eqb-false n 256 e) in
        let left : next + 1 ≤ 4294967296 = omega (arith, eqb-false next 4294967296 other) in
        (few, left)

pub mappings-more : (m : model.Mapping) (next : ℕ) (ms : List model.Mapping) → AreMappings (record { mappings = ms; next = next })
    → is_full ms next ≡ false → m.handle ≡ next → IsMapping m → AreMappings (record { mappings = ms ++ m ∷ []; next = next + 1 })
mappings-more m next ms h room is own =
    let left = room-left (length ms) next h.few h.next room in
    record {
      few = rw length-append left.0;
      rise = rise-more 0 next ms m is h.rise;
      next = left.1;
      each = All-push IsMapping ms m h.each own;
    }

-- each that is kept is in reach
pub kept-reach : (entries : List (ℕ × Mapping)) → All IsMapping (listed entries) → All (λ (m : Mapping). IsInReach m.info.span) (values_of entries)
kept-reach [] h = All-nil (λ (m : Mapping). IsInReach m.info.span)
kept-reach (e ∷ es) h = All-cons (λ (m : Mapping). IsInReach m.info.span) e.1 (values_of es) (All-head IsMapping _ _ h).span (kept-reach es (All-tail IsMapping _ _ h))
