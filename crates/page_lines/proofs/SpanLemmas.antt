-- The lines that a span touches, gone through from the first one on.
use Rattle.std.proofs.Common.{◌≡◌, ℕ, zero, suc, ◌+◌, ◌<◌, ◌≤◌, true, false, Option, Some, Result, Ok, Err, OnErr, sym, ap, subst, inl, inr, arith}
use Rattle.std.proofs.lemmas.Bool.{cases_Bool, cases_lt}
use Rattle.nvm_base.specs.Units.{units_of}
use Rattle.nvm_base.specs.declared.units.Span.{Span}
use Rattle.line_device.specs.Medium.{Medium}
use Rattle.nvm_model.specs.Cell.{Cell, touches}
use Rattle.page_lines.specs.Placed.{AreApart, IsPlaced, one_there, there_among, there_in}
use Rattle.page_lines.specs.Turns.{Turns, WritesBackOthers}
use Rattle.page_lines.proofs.OthersLemmas.{others-wider}
use Rattle.page_lines.proofs.LoopLemmas.{IsReached, Reached, reached-all, touches-within, within-touches}

pub on_err : {T E : Type 0} (r : Result T E) {P : Type 0} → P → OnErr r P
on_err (Ok x) p = tt
on_err (Err e) p = p

-- each of them is touched
pub touches-among : (span t : Span) (n : ℕ) → t ≡ units_of 64 span → 1 ≤ span.len → t.start ≤ n → n < t.start + t.len → touches span.start span.len n ≡ true
touches-among span t n is some from below =
    let first = ap (λ s. s.start) is in
    let count = ap (λ s. s.len) is in
    touches-within span.start span.len n some (omega (arith, first, from)) (omega (arith, first, count, below))

-- and no other one
pub untouched-others : (span t : Span) (limit n : ℕ) → t ≡ units_of 64 span → 1 ≤ span.len → t.start + t.len ≤ limit → (t.start ≤ n → n < limit → ⊥) → touches span.start span.len n ≡ false
untouched-others span t limit n is some past out =
    let first = ap (λ s. s.start) is in
    let count = ap (λ s. s.len) is in
    elim (cases_Bool (touches span.start span.len n)) as (λ _. touches span.start span.len n ≡ false) [
      | inl touched ↦
          let w = within-touches span.start span.len n some touched in
          absurd (out (omega (arith, first, w.0)) (omega (arith, first, count, w.1, past)))
      | inr not ↦ not
    ]

pub all_turned : (place : ℕ → Option ℕ) (f : ℕ → Cell → Cell) (span t : Span) (limit count : ℕ) (a b : Medium) → t ≡ units_of 64 span → 1 ≤ span.len → t.start + t.len ≤ limit
    → AreApart place count → Reached place f t.start limit a b → ((n line : ℕ) (m : Medium) → touches span.start span.len n ≡ false → Turns (f n) line m m)
    → (n line : ℕ) → place n ≡ Some line → Turns (f n) line a b
all_turned place f span t limit count a b is some past apart r idle =
    reached-all place f t.start limit count a b apart r (λ n line m out. idle n line m (untouched-others span t limit n is some past out))

pub others_placed : (place : ℕ → Option ℕ) (span t : Span) (limit : ℕ) (a b : Medium) → t ≡ units_of 64 span → 1 ≤ span.len → limit ≤ t.start + t.len
    → WritesBackOthers (IsReached place t.start limit) a b → WritesBackOthers (IsPlaced place span.start span.len) a b
others_placed place span t limit a b is some within x =
    others-wider (IsReached place t.start limit) (IsPlaced place span.start span.len) a b
    (λ line r. (r.0, touches-among span t r.0 is some r.1 (omega (arith, r.2, within)), r.3)) x

-- how many of them are there
pub there_among-next : (place : ℕ → Option ℕ) (first k : ℕ) → there_among place first (k + 1) ≡ there_among place first k + one_there (place (first + k))
there_among-next place first k = let next : k + 1 ≡ suc k = omega arith in ap (there_among place first) next

pub there_among-within : (place : ℕ → Option ℕ) (first k count : ℕ) → k ≤ count → there_among place first k ≤ there_among place first count
there_among-within place first k zero within = let none : k ≡ 0 = omega (arith, within) in subst (λ i. there_among place first i ≤ 0) (sym none) (omega arith)
there_among-within place first k (suc count) within =
    elim (cases_lt count k) as (λ _. there_among place first k ≤ there_among place first (suc count)) [
      | inl last ↦ let same : suc count ≡ k = omega (arith, within, last) in subst (λ i. there_among place first i ≤ there_among place first (suc count)) same (omega arith)
      | inr before ↦ omega (arith, there_among-within place first k count before)
    ]

pub there_in-next : (place : ℕ → Option ℕ) (span t : Span) (k : ℕ) → t ≡ units_of 64 span → k < t.len
    → there_among place t.start k + one_there (place (t.start + k)) ≤ there_in place span
there_in-next place span t k is within =
    subst (λ s. there_among place t.start k + one_there (place (t.start + k)) ≤ there_among place s.start s.len) is
    (omega (arith, there_among-next place t.start k, there_among-within place t.start (k + 1) t.len (omega (arith, within))))

pub there_in-all : (place : ℕ → Option ℕ) (span t : Span) (k : ℕ) → t ≡ units_of 64 span → k ≤ t.len → there_among place t.start k ≤ there_in place span
there_in-all place span t k is within = subst (λ s. there_among place t.start k ≤ there_among place s.start s.len) is (there_among-within place t.start k t.len within)
