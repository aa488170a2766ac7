-- Lines that are written back: which stand in the way of a store, and the oldest ones.
use Rattle.std.proofs.Common.{◌≡◌, ◌⊎◌, inl, inr, ℕ, zero, suc, Bool, true, false, not, ◌<◌, ◌≤◌, ◌==◌, ◌&&◌, ◌||◌, List, [], ◌∷◌, length, if◌then◌else◌, refl, sym, ◌∙◌, ap, subst, arith, eqb, cond}
use Rattle.std.specs.Prelude.{Option, Some, None, slice_get}
use Rattle.std.proofs.lemmas.Bool.{cases_eq, cases_lt, eq-eqb, ne_eqb}
use Rattle.std.proofs.lemmas.Option.{slice_get_past}
use Rattle.line_module.specs.Memory.{Memory, has, without, is_full, in_the_way, with_back, memory_after_evict}
use Rattle.line_device.specs.Word.{word_at}
use Rattle.line_module.specs.Chains.{is_listed, is_clean, is_weak_state}
use Rattle.line_module.specs.Held.{is_bare, lines_in}
use Rattle.line_module.specs.Keeps.{KeepsLines}
use Rattle.line_module.specs.declared.state.State.{State}
use Rattle.line_module.specs.declared.state.State.TheVariants.{Clean, Dirty, Weak}
use Rattle.line_module.proofs.WordsLemmas.{true_is_not_false}
use Rattle.line_module.proofs.HeldLemmas.{clean-unlisted, held_bytes, full-line, one_is_not_full}

none_is_not_some : {A : Type 0} → (x : A) → None ≡ Some x → ⊥
none_is_not_some x e = cc

some_same : (x y : ℕ) → Some x ≡ Some y → x ≡ y
some_same x y e = cc

-- a line in the way is the one that is stored to, or the oldest of 1,024
pub in_the_way-is : (s : Memory) (line at len other : ℕ) → in_the_way s line at len ≡ Some other → ((other ≡ line) × (is_full s.medium line at len ≡ true)) ⊎ (slice_get s.order 0 ≡ Some other)
in_the_way-is s line at len other is = first (s.medium.is_weak line) (is_full s.medium line at len) (not (has line s.order) && (length s.order == 1024)) refl is
  where
    first : (weak full last : Bool) → is_full s.medium line at len ≡ full → (if weak then None else (if full then Some line else (if last then slice_get s.order 0 else None))) ≡ Some other → ((other ≡ line) × (is_full s.medium line at len ≡ true)) ⊎ (slice_get s.order 0 ≡ Some other)
    first true full last f e = absurd (none_is_not_some other e)
    first false true last f e = inl (some_same other line (sym e), f)
    first false false true f e = inr e
    first false false false f e = absurd (none_is_not_some other e)

pub in_the_way-strong : (s : Memory) (line at len other : ℕ) → in_the_way s line at len ≡ Some other → s.medium.is_weak line ≡ false
in_the_way-strong s line at len other is = decide (s.medium.is_weak line) refl
  where
    decide : (b : Bool) → s.medium.is_weak line ≡ b → s.medium.is_weak line ≡ false
    decide false strong = strong
    decide true weak =
        let last = if not (has line s.order) && (length s.order == 1024) then slice_get s.order 0 else None in
        absurd (none_is_not_some other (sym (ap (λ b. if b then None else (if is_full s.medium line at len then Some line else last)) weak) ∙ is))

-- where nothing is in the way of a line that is not listed, a chain is left
pub in_the_way-none : (s : Memory) (line at len : ℕ) → in_the_way s line at len ≡ None → s.medium.is_weak line ≡ false → has line s.order ≡ false → length s.order ≤ 1024 → length s.order < 1024
in_the_way-none s line at len is strong new few =
    elim (cases_eq (length s.order) 1024) as (λ _. length s.order < 1024) [
      | inl full ↦
          absurd (first (is_full s.medium line at len) (sym (ap (λ b. if b then None else way) strong ∙ inner full) ∙ is) full)
      | inr other ↦ omega arith
    ]
  where
    way : Option ℕ
    way = if is_full s.medium line at len then Some line else (if not (has line s.order) && (length s.order == 1024) then slice_get s.order 0 else None)

    inner : length s.order ≡ 1024 → way ≡ (if is_full s.medium line at len then Some line else slice_get s.order 0)
    inner full =
        ap (λ b. if is_full s.medium line at len then Some line else (if not b && (length s.order == 1024) then slice_get s.order 0 else None)) new
        ∙ ap (λ b. if is_full s.medium line at len then Some line else (if b then slice_get s.order 0 else None)) (eq-eqb (length s.order) 1024 full)

    oldest : (order : List ℕ) → slice_get order 0 ≡ None → length order ≡ 1024 → ⊥
    oldest [] e full = omega arith
    oldest (x ∷ xs) e full = none_is_not_some x (sym e)

    first : (full : Bool) → (if full then Some line else slice_get s.order 0) ≡ None → length s.order ≡ 1024 → ⊥
    first true e long = none_is_not_some line (sym e)
    first false e long = oldest s.order e long

-- a line that is full and not weak is listed
pub full-listed : (durable cached : List (Option (List ℕ))) (states : List State) (order : List ℕ) (line at len : ℕ) → KeepsLines durable cached states order → line < length durable → is_bare (slice_get durable line) ≡ false → is_weak_state (slice_get states line) ≡ false → is_full (lines_in durable states) line at len ≡ true → has line order ≡ true
full-listed durable cached states order line at len keeps within good strong full = decide (has line order) refl
  where
    neither : (state : Option State) → is_listed state ≡ false → is_weak_state state ≡ false → is_clean state ≡ true
    neither None l w = refl
    neither (Some Clean) l w = refl
    neither (Some (Dirty k)) l w = absurd (true_is_not_false l)
    neither (Some (Weak k)) l w = absurd (true_is_not_false w)

    decide : (b : Bool) → has line order ≡ b → has line order ≡ true
    decide true is = is
    decide false is =
        let held = held_bytes durable line within good in
        let clean = neither (slice_get states line) (sym (keeps.each line).in_order ∙ is) strong in
        absurd (true_is_not_false (sym full ∙ full-line durable states line at len held.0 held.1 ∙ one_is_not_full (word_at held.0) (slice_get states line) at len clean))

-- the list grows shorter where a line goes that was there
pub shorter : (n : ℕ) (xs : List ℕ) → length (without n xs) ≤ length xs
shorter n [] = omega arith
shorter n (x ∷ xs) = elim (eqb n x) as (λ b. length (cond (not b) (x ∷ without n xs) (without n xs)) ≤ suc (length xs)) [ true ↦ omega (arith, shorter n xs) | false ↦ omega (arith, shorter n xs) ]

pub shorter_by_one : (n : ℕ) (xs : List ℕ) → has n xs ≡ true → length (without n xs) < length xs
shorter_by_one n [] there = absurd (true_is_not_false (sym there))
shorter_by_one n (x ∷ xs) there =
    elim (cases_eq n x) as (λ _. length (cond (not (eqb n x)) (x ∷ without n xs) (without n xs)) < suc (length xs)) [
      | inl is ↦ subst (λ b. length (cond (not b) (x ∷ without n xs) (without n xs)) < suc (length xs)) (sym (eq-eqb n x is)) (omega (arith, shorter n xs))
      | inr other ↦
          let later : has n xs ≡ true = sym (ap (λ b. b || has n xs) (ne_eqb n x other)) ∙ there in
          subst (λ b. length (cond (not b) (x ∷ without n xs) (without n xs)) < suc (length xs)) (sym (ne_eqb n x other)) (omega (arith, shorter_by_one n xs later))
    ]

-- a listed line is there, and not bad
pub listed-within : (durable cached : List (Option (List ℕ))) (states : List State) (order : List ℕ) (n : ℕ) → KeepsLines durable cached states order → has n order ≡ true → n < length durable
listed-within durable cached states order n keeps there =
    elim (cases_lt n (length durable)) as (λ _. n < length durable) [
      | inl within ↦ within
      | inr past ↦
          absurd (true_is_not_false (sym there ∙ (keeps.each n).in_order ∙ ap is_listed (slice_get_past states n (omega (arith, keeps.states_each)))))
    ]

pub listed-good : (durable cached : List (Option (List ℕ))) (states : List State) (order : List ℕ) (n : ℕ) → KeepsLines durable cached states order → has n order ≡ true → is_bare (slice_get durable n) ≡ false
listed-good durable cached states order n keeps there = decide (is_bare (slice_get durable n)) refl
  where
    decide : (b : Bool) → is_bare (slice_get durable n) ≡ b → is_bare (slice_get durable n) ≡ false
    decide false is = is
    decide true is = absurd (true_is_not_false (sym there ∙ (keeps.each n).in_order ∙ clean-unlisted (slice_get states n) ((keeps.each n).lost is)))

-- nothing is written back where no line is dirty
pub memory_after_evict-none : (s : Memory) (n : ℕ) → slice_get s.order 0 ≡ None → memory_after_evict s n ≡ s
memory_after_evict-none s zero none = refl
memory_after_evict-none s (suc n) none = ap (λ o. memory_after_evict (with_back s o) n) none ∙ memory_after_evict-none s n none

pub memory_after_evict-one : (s t : Memory) (n m : ℕ) → n ≡ suc m → with_back s (slice_get s.order 0) ≡ t → memory_after_evict t m ≡ memory_after_evict s n
memory_after_evict-one s t n m is step = sym (ap (memory_after_evict s) is ∙ ap (λ u. memory_after_evict u m) step)
