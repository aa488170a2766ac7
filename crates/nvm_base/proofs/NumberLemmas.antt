-- Numbers in text.
use Rattle.std.proofs.Common.{◌≡◌, ℕ, ◌+◌, ◌^◌, ◌<◌, ◌≤◌, ◌⊎◌, ◌&&◌, true, false, nat_lt, nat_le, get_or, drop, length, List, [], ◌∷◌, Some, None, if◌then◌else◌, refl, sym, ap, ◌∙◌, inl, inr, rules, tests, option_and_then}
use Rattle.std.proofs.lemmas.List.{at_drop_more}
use Rattle.std.proofs.Math.ListN.{drop_of_length-le}
use Rattle.std.proofs.lemmas.Bool.{cases_lt}
use Rattle.std.specs.Bool.{then_some}
use Rattle.std.specs.Char.{is_ascii_digit}
use Rattle.nvm_base.specs.Numbers.{digits_after, number_of}

pub number_of-outside : (text : List ℕ) → (length text ≡ 0) ⊎ (10 < length text) → number_of text ≡ None
unfolding number_of
number_of-outside text h =
    let e : (nat_le 1 (length text) && nat_le (length text) 10) ≡ false = elim h [ inl a ↦ search (rules, tests) | inr a ↦ search (rules, tests) ] in
    rw (e, number_of) refl

pub number_of-within : (text : List ℕ) → 0 < length text → length text ≤ 10 → number_of text ≡ option_and_then (λ n. if nat_lt n (2 ^ 32) then Some n else None) (digits_after 0 text)
unfolding number_of
number_of-within text some short =
    let e : (nat_le 1 (length text) && nat_le (length text) 10) ≡ true = search (rules, tests) in
    rw (e, number_of) refl

bad_digit : (value c : ℕ) (cs : List ℕ) → is_ascii_digit c ≡ false → digits_after value (c ∷ cs) ≡ None
bad_digit value c cs bad = rw (bad, digits_after) refl

-- a byte that is no digit, behind some digits
pub number_of-bad : (text : List ℕ) (value i : ℕ) → 0 < length text → length text ≤ 10 → digits_after value (drop i text) ≡ digits_after 0 text → i < length text → is_ascii_digit (get_or text i 0) ≡ false → number_of text ≡ None
number_of-bad text value i some short rest h bad =
    let none : digits_after 0 text ≡ None = sym rest ∙ at_drop_more (digits_after value) text i 0 h ∙ bad_digit value (get_or text i 0) (drop (i + 1) text) bad in
    number_of-within text some short ∙ rw none refl

-- the digits all read
pub number_of-all : (text : List ℕ) (value i : ℕ) → 0 < length text → length text ≤ 10 → digits_after value (drop i text) ≡ digits_after 0 text → length text ≤ i → number_of text ≡ (if nat_lt value (2 ^ 32) then Some value else None)
number_of-all text value i some short rest h =
    let end : drop i text ≡ [] = drop_of_length-le text h in
    let all : digits_after 0 text ≡ Some value = sym rest ∙ ap (digits_after value) end in
    number_of-within text some short ∙ rw all refl

pub then_some_fits : (value most : ℕ) → most ≡ 4294967295 → then_some (nat_le value most) value ≡ (if nat_lt value (2 ^ 32) then Some value else None)
then_some_fits value most m =
    elim (cases_lt value (2 ^ 32)) [
      | inl small ↦
          let a : nat_le value most ≡ true = search (rules, tests) in
          let b : nat_lt value (2 ^ 32) ≡ true = search (rules, tests) in
          rw (a, b) refl
      | inr large ↦
          let a : nat_le value most ≡ false = search (rules, tests) in
          let b : nat_lt value (2 ^ 32) ≡ false = search (rules, tests) in
          rw (a, b) refl
    ]
