-- A new memory: lines of zeros, none dirty.
use Rattle.std.proofs.Common.{◌≡◌, inl, inr, ℕ, zero, suc, false, ◌+◌, ◌/◌, ◌%◌, ◌<◌, List, [], ◌∷◌, ◌++◌, length, set, replicate, nat_lt, if◌then◌else◌, refl, sym, ◌∙◌, ap, arith}
use Rattle.std.specs.Prelude.{Option, Some, None, slice_get}
use Rattle.std.proofs.lemmas.Bool.{cases_eq, cases_lt, lt-ltb, le-ltb}
use Rattle.std.proofs.lemmas.List.{length-replicate}
use Rattle.std.proofs.lemmas.Option.{slice_get_past}
use Rattle.line_device.specs.Medium.{zeros}
use Rattle.line_device.proofs.CellsLemmas.{word_at-zeros}
use Rattle.line_module.specs.Chains.{is_weak_state}
use Rattle.line_module.specs.Held.{is_bare, history_in, lines_in}
use Rattle.line_module.specs.Keeps.{KeepsLine, KeepsLines}
use Rattle.line_module.specs.declared.state.State.{State}
use Rattle.line_module.specs.declared.state.State.TheVariants.{Clean}
use Rattle.line_module.proofs.WordsLemmas.{true_is_not_false}
use Rattle.line_module.proofs.ChainLemmas.{slice_get-set_same, slice_get-set_other}
use Rattle.line_module.proofs.HeldLemmas.{Line, clean-quiet}
use Rattle.line_module.proofs.ChangeLemmas.{same_medium, keeps_line-moved}

-- one more line is as wanted
pub all-set : {X : Type 0} → (xs : List X) (line : ℕ) (x : X) → line < length xs → ((n : ℕ) → n < line → slice_get xs n ≡ Some x) → (n : ℕ) → n < line + 1 → slice_get (set xs line x) n ≡ Some x
all-set xs line x within all n below =
    elim (cases_eq n line) as (λ _. slice_get (set xs line x) n ≡ Some x) [
      | inl is ↦ ap (slice_get (set xs line x)) is ∙ slice_get-set_same xs line x within
      | inr other ↦ slice_get-set_other xs line n x other ∙ all n (omega arith)
    ]

slice_get-push_in : {X : Type 0} → (xs : List X) (x : X) (n : ℕ) → n < length xs → slice_get (xs ++ x ∷ []) n ≡ slice_get xs n
slice_get-push_in [] x n within = absurd (omega arith)
slice_get-push_in (y ∷ ys) x zero within = refl
slice_get-push_in (y ∷ ys) x (suc n) within = slice_get-push_in ys x n (omega arith)

slice_get-push_last : {X : Type 0} → (xs : List X) (x : X) → slice_get (xs ++ x ∷ []) (length xs) ≡ Some x
slice_get-push_last [] x = refl
slice_get-push_last (y ∷ ys) x = slice_get-push_last ys x

pub all-push : {X : Type 0} → (xs : List X) (count : ℕ) (x : X) → length xs ≡ count → ((n : ℕ) → n < count → slice_get xs n ≡ Some x) → (n : ℕ) → n < count + 1 → slice_get (xs ++ x ∷ []) n ≡ Some x
all-push xs count x long all n below =
    elim (cases_eq n count) as (λ _. slice_get (xs ++ x ∷ []) n ≡ Some x) [
      | inl is ↦ ap (slice_get (xs ++ x ∷ [])) (is ∙ sym long) ∙ slice_get-push_last xs x
      | inr other ↦ slice_get-push_in xs x n (omega arith) ∙ all n (omega arith)
    ]

bare-replicate : (count n : ℕ) → n < count → slice_get (replicate {A = Option (List ℕ)} count None) n ≡ Some None
bare-replicate zero n below = absurd (omega arith)
bare-replicate (suc count) zero below = refl
bare-replicate (suc count) (suc n) below = bare-replicate count n (omega arith)

abbrev nothing : Option (List ℕ)
nothing = None

pub keeps_lines-new : (count : ℕ) (durable cached : List (Option (List ℕ))) (states : List State) → length durable ≡ count → ((n : ℕ) → n < count → slice_get durable n ≡ Some (Some (replicate 64 0))) → cached ≡ replicate count nothing → length states ≡ count → ((n : ℕ) → n < count → slice_get states n ≡ Some Clean) → KeepsLines durable cached states []
keeps_lines-new count durable cached states long zeros_each bare states_long clean_each = record {
  caches = omega (arith, ap length bare, length-replicate count nothing);
  states_each = omega arith;
  each = λ n.
      elim (cases_lt n count) as (λ _. KeepsLine (slice_get durable n) (slice_get cached n) (slice_get states n) false) [
        | inl below ↦
            keeps_line-moved (Some (Some (replicate 64 0))) (slice_get durable n) (Some None) (slice_get cached n) (Some Clean) (slice_get states n) false false
            (zeros_each n below)
            (ap (λ l. slice_get l n) bare ∙ bare-replicate count n below)
            (clean_each n below)
            refl
            (record {
              held = sym (clean-quiet (Some Clean) refl);
              in_order = refl;
              dirty = λ listed. absurd (true_is_not_false (sym listed));
              lost = λ _. refl;
              last = λ b at. absurd (none_is_not_some b at);
            })
        | inr past ↦
            keeps_line-moved None (slice_get durable n) None (slice_get cached n) None (slice_get states n) false false
            (slice_get_past durable n (omega arith))
            (slice_get_past cached n (omega (arith, ap length bare, length-replicate count nothing)))
            (slice_get_past states n (omega arith))
            refl
            (record {
              held = sym (clean-quiet None refl);
              in_order = refl;
              dirty = λ listed. absurd (true_is_not_false (sym listed));
              lost = λ _. refl;
              last = λ b at. absurd (outside_is_not_some b at);
            })
      ];
}
  where
    none_is_not_some : (b : List ℕ) → ◌≡◌ {A = Line} (Some None) (Some (Some b)) → ⊥
    none_is_not_some b e = cc

    outside_is_not_some : (b : List ℕ) → ◌≡◌ {A = Line} None (Some (Some b)) → ⊥
    outside_is_not_some b e = cc

pub lines-new : (count : ℕ) (durable : List (Option (List ℕ))) (states : List State) → length durable ≡ count → ((n : ℕ) → n < count → slice_get durable n ≡ Some (Some (replicate 64 0))) → length states ≡ count → ((n : ℕ) → n < count → slice_get states n ≡ Some Clean) → lines_in durable states ≡ zeros count
lines-new count durable states long zeros_each states_long clean_each =
    same_medium (lines_in durable states) (zeros count) long
    (λ n. elim (cases_lt n count) as (λ _. is_bare (slice_get durable n) ≡ false) [ inl below ↦ ap is_bare (zeros_each n below) | inr past ↦ ap is_bare (slice_get_past durable n (omega arith)) ])
    (λ n. elim (cases_lt n count) as (λ _. is_weak_state (slice_get states n) ≡ false) [ inl below ↦ ap is_weak_state (clean_each n below) | inr past ↦ ap is_weak_state (slice_get_past states n (omega arith)) ])
    (λ p. elim (cases_lt (p / 8) count) as (λ _. history_in (slice_get durable (p / 8)) (slice_get states (p / 8)) (p % 8) ≡ (if nat_lt (p / 8) count then 0 ∷ [] else [])) [
      | inl below ↦
          ap (λ d. history_in d (slice_get states (p / 8)) (p % 8)) (zeros_each (p / 8) below)
          ∙ ap (λ s. history_in (Some (Some (replicate 64 0))) s (p % 8)) (clean_each (p / 8) below)
          ∙ ap (λ v. v ∷ []) (word_at-zeros 64 (p % 8))
          ∙ sym (ap (λ b. if b then 0 ∷ [] else []) (lt-ltb (p / 8) count below))
      | inr past ↦
          ap (λ d. history_in d (slice_get states (p / 8)) (p % 8)) (slice_get_past durable (p / 8) (omega arith))
          ∙ sym (ap (λ b. if b then 0 ∷ [] else []) (le-ltb (p / 8) count past))
    ])
