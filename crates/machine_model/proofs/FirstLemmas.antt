-- The first of some numbers that pass a test, and what a search for it finds.
use Rattle.std.proofs.Common.{◌≡◌, inl, inr, ℕ, ◌+◌, ◌<◌, ◌≤◌, Bool, zero, suc, true, false, cond, List, [], ◌∷◌, Option, Some, None, position, slice_index, sym, refl, ◌∙◌, ap, arith}
use Rattle.std.specs.Prelude.{filter}
use Rattle.std.specs.List.{range_with_len}
use Rattle.std.proofs.lemmas.Bool.{cases_lt}
use Rattle.block_device.proofs.PositionLemmas.{first_below, none_below}

-- the first of some numbers that pass
pub record IsFirst (test : ℕ → Bool) (start len line : ℕ) : Type 0 where
  pub from : start ≤ line
  pub within : line < start + len
  pub here : test line ≡ true
  pub before : (k : ℕ) → start ≤ k → k < line → test k ≡ false

pub head_of : (x y : ℕ) (xs ys : List ℕ) → x ∷ xs ≡ y ∷ ys → x ≡ y
head_of x y xs ys is = ap (λ (ns : List ℕ). slice_index ns 0) is

module _ (test : ℕ → Bool) (start len : ℕ) where
  abbrev rest : List ℕ
  rest = filter test (range_with_len (start + 1) len)

  first_or_later : (line : ℕ) (lines : List ℕ) → (rest ≡ line ∷ lines → IsFirst test (start + 1) len line) → (b : Bool) → test start ≡ b → cond b (start ∷ rest) rest ≡ line ∷ lines → IsFirst test start (suc len) line
  first_or_later line lines later true e is =
      let at = head_of start line rest lines is in
      record { from = omega (arith, at); within = omega (arith, at); here = ap test (sym at) ∙ e; before = λ k from below. absurd (omega (arith, at, from, below)) }
  first_or_later line lines later false e is =
      let found = later is in
      record {
        from = omega (arith, found.from);
        within = omega (arith, found.within);
        here = found.here;
        before = λ k from below. elim (cases_lt start k) as (λ _. test k ≡ false) [
          | inl past ↦ found.before k (omega (arith, past)) below
          | inr up_to ↦ let at : start ≡ k = omega (arith, from, up_to) in ap test (sym at) ∙ e
        ];
      }

  none_or_later : (n : ℕ) → start ≤ n → (rest ≡ [] → start + 1 ≤ n → test n ≡ false) → (b : Bool) → test start ≡ b → cond b (start ∷ rest) rest ≡ [] → test n ≡ false
  none_or_later n from later true e is = cc is
  none_or_later n from later false e is = elim (cases_lt start n) as (λ _. test n ≡ false) [
    | inl past ↦ later is (omega (arith, past))
    | inr up_to ↦ let at : start ≡ n = omega (arith, from, up_to) in ap test (sym at) ∙ e
  ]

pub first_of : (test : ℕ → Bool) (start len line : ℕ) (lines : List ℕ) → filter test (range_with_len start len) ≡ line ∷ lines → IsFirst test start len line
first_of test start zero line lines is = cc is
first_of test start (suc len) line lines is = first_or_later test start len line lines (first_of test (start + 1) len line lines) (test start) refl is

-- where none passes, none of them does
pub none_of : (test : ℕ → Bool) (start len : ℕ) → filter test (range_with_len start len) ≡ [] → (n : ℕ) → start ≤ n → n < start + len → test n ≡ false
none_of test start zero is n from below = absurd (omega (arith, from, below))
none_of test start (suc len) is n from below =
    none_or_later test start len n from (λ none past. none_of test (start + 1) len none n past (omega (arith, below))) (test start) refl is

-- the first line that a search finds
abbrev pub head : List ℕ → Option ℕ
head [] = None
head (line ∷ lines) = Some line

pub searched : (test : ℕ → Bool) (len : ℕ) → position test (range_with_len 0 len) ≡ head (filter test (range_with_len 0 len))
searched test len = by_list (filter test (range_with_len 0 len)) refl
  where
    by_list : (lines : List ℕ) → filter test (range_with_len 0 len) ≡ lines → position test (range_with_len 0 len) ≡ head lines
    by_list [] is = none_below test len (λ k below. none_of test 0 len is k (omega arith) (omega (arith, below)))
    by_list (line ∷ lines) is =
        let first = first_of test 0 len line lines is in
        first_below test len line (let w = first.within in omega (arith, w)) (λ k below. first.before k (omega arith) below) first.here
