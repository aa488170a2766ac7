-- The numbers of a range that pass a test are all of which it holds.
use Rattle.std.proofs.Common.{◌≡◌, ℕ, zero, suc, ◌+◌, ◌<◌, ◌≤◌, inl, inr, Bool, true, false, cond, List, [], ◌∷◌, refl, sym, ap, subst, ◌∙◌, arith}
use Rattle.std.proofs.lemmas.Bool.{cases_eq}
use Rattle.std.proofs.lemmas.List.FromFn.{get_or-range_with_len, length-range_with_len}
use Rattle.std.proofs.lemmas.List.Kept.{IsStrictlyIncreasing-filter}
use Rattle.std.specs.List.{Contains, filter, range_with_len}
use Rattle.std.specs.List.Sorted.{IsStrictlyIncreasing}
use Rattle.nvm_model.proofs.ListedLemmas.{contains-here, contains-later}
use Rattle.durable.specs.Events.{AreAll}
use Rattle.durable.proofs.MetadataLemmas.{contains-parts}

only_passing : (p : ℕ → Bool) (from count n : ℕ) → Contains (filter p (range_with_len from count)) n → p n ≡ true
only_passing p from zero n has = absurd (omega (arith, has.1))
only_passing p from (suc count) n has = by_test (p from) refl (only_passing p (from + 1) count n) has
  where
    rest : List ℕ
    rest = filter p (range_with_len (from + 1) count)

    by_test : (b : Bool) → p from ≡ b → (Contains rest n → p n ≡ true) → Contains (cond b (from ∷ rest) rest) n → p n ≡ true
    by_test true here later has = elim (contains-parts from n rest has) as (λ _. p n ≡ true) [ inl is ↦ ap p (sym is) ∙ here | inr more ↦ later more ]
    by_test false not later has = later has

each_passing : (p : ℕ → Bool) (from count n : ℕ) → from ≤ n → n < from + count → p n ≡ true → Contains (filter p (range_with_len from count)) n
each_passing p from zero n low high passes = absurd (omega (arith, low, high))
each_passing p from (suc count) n low high passes =
    elim (cases_eq from n) as (λ _. Contains (cond (p from) (from ∷ rest) rest) n) [
      | inl same ↦ subst (λ b. Contains (cond b (from ∷ rest) rest) n) (sym (ap p same ∙ passes)) (contains-here from rest n same)
      | inr other ↦ behind (p from) (each_passing p (from + 1) count n (omega (arith, low, other)) (omega (arith, high)) passes)
    ]
  where
    rest : List ℕ
    rest = filter p (range_with_len (from + 1) count)

    behind : (b : Bool) → Contains rest n → Contains (cond b (from ∷ rest) rest) n
    behind true has = contains-later from rest n has
    behind false has = has

range-rises : (from count : ℕ) → IsStrictlyIncreasing (range_with_len from count)
range-rises from count k within =
    let size = length-range_with_len from count in
    let here = get_or-range_with_len from count k 0 (omega (arith, within, size)) in
    let next = get_or-range_with_len from count (k + 1) 0 (omega (arith, within, size)) in
    omega (arith, here, next)

pub all_passing : (p : ℕ → Bool) (size : ℕ) → ((n : ℕ) → p n ≡ true → n < size) → AreAll (λ n. p n ≡ true) (filter p (range_with_len 0 size))
all_passing p size within = record {
  each = λ n has. only_passing p 0 size n has;
  all = λ n passes. each_passing p 0 size n (omega arith) (omega (arith, within n passes)) passes;
  rising = IsStrictlyIncreasing-filter p (range_with_len 0 size) (range-rises 0 size);
}

-- of which something else holds too
pub all_alike : (P Q : ℕ → Type 0) (numbers : List ℕ) → ((n : ℕ) → P n → Q n) → ((n : ℕ) → Q n → P n) → AreAll P numbers → AreAll Q numbers
all_alike P Q numbers to back are = record { each = λ n has. to n (are.each n has); all = λ n is. are.all n (back n is); rising = are.rising }

-- of none, and of one alone
pub all_none : (P : ℕ → Type 0) → ((n : ℕ) → P n → ⊥) → AreAll P []
all_none P none = record { each = λ n has. absurd (omega (arith, has.1)); all = λ n is. absurd (none n is); rising = λ k within. absurd (omega (arith, within)) }

pub all_one : (P : ℕ → Type 0) (n : ℕ) → P n → ((k : ℕ) → P k → k ≡ n) → AreAll P (n ∷ [])
all_one P n is only = record {
  each = λ k has. elim (contains-parts n k [] has) as (λ _. P k) [ inl same ↦ subst P same is | inr more ↦ absurd (omega (arith, more.1)) ];
  all = λ k also. contains-here n [] k (sym (only k also));
  rising = λ k within. absurd (omega (arith, within));
}
