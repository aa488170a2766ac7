-- Printed numbers are read back.
use Rattle.std.proofs.Common.{◌≡◌, ℕ, ◌+◌, ◌-◌, ◌*◌, ◌/◌, ◌%◌, ◌^◌, ◌<◌, ◌≤◌, Bool, true, false, List, [], ◌∷◌, ◌++◌, length, nat_lt, Some, None, decimal, option_and_then, if◌then◌else◌, refl, ap, ◌∙◌, arith, rules, tests}
use Rattle.std.specs.Char.{is_ascii_digit}
use Rattle.std.specs.List.{list_all}
use Rattle.std.proofs.lemmas.List.Folds.{list_all-append}
use Rattle.std.proofs.lemmas.Fmt.{decimal_by_steps, decimal_nonempty, length-decimal-le}
use Rattle.nvm_base.specs.Numbers.{digits_after, number_of}
use Rattle.nvm_base.proofs.NumberLemmas.{number_of-within}

digit : (d : ℕ) → d < 10 → is_ascii_digit (48 + d) ≡ true
digit d small = search (rules, tests)

-- one digit more
digits_after-more : (value n d : ℕ) (text : List ℕ) → d < 10 → digits_after value text ≡ Some n → digits_after value (text ++ (48 + d) ∷ []) ≡ Some (10 * n + d)
digits_after-more value n d [] small e =
    let same : value ≡ n = cc in
    let sum : 10 * value + (48 + d - 48) ≡ 10 * n + d = omega arith in
    rw (digit d small, digits_after) (ap Some sum)
digits_after-more value n d (c ∷ cs) small e = go (is_ascii_digit c) refl (digits_after-more (10 * value + (c - 48)) n d cs small)
  where
    go : (b : Bool) → is_ascii_digit c ≡ b → (digits_after (10 * value + (c - 48)) cs ≡ Some n → digits_after (10 * value + (c - 48)) (cs ++ (48 + d) ∷ []) ≡ Some (10 * n + d))
        → digits_after value ((c ∷ cs) ++ (48 + d) ∷ []) ≡ Some (10 * n + d)
    go true t more = rw (t, digits_after) (more (rw (t, digits_after) at e))
    go false t more = let none = rw (t, digits_after) at e in absurd (cc)

-- digits that spell a number
record Spells (n : ℕ) (text : List ℕ) : Type 0 where
  pub value : digits_after 0 text ≡ Some n
  pub digits : list_all is_ascii_digit text ≡ true

Spells-one : (n : ℕ) → n < 10 → Spells n ((48 + n) ∷ [])
Spells-one n small = record {
  value = let same : 10 * 0 + n ≡ n = omega arith in digits_after-more 0 0 n [] small refl ∙ ap Some same;
  digits = rw (digit n small) refl;
}

Spells-more : (n : ℕ) (text : List ℕ) → 10 ≤ n → Spells (n / 10) text → Spells n (text ++ (48 + n % 10) ∷ [])
Spells-more n text large s =
    let small : n % 10 < 10 = omega arith in
    record {
      value = let same : 10 * (n / 10) + n % 10 ≡ n = omega arith in digits_after-more 0 (n / 10) (n % 10) text small s.value ∙ ap Some same;
      digits = list_all-append is_ascii_digit text ((48 + n % 10) ∷ []) ∙ rw (s.digits, digit (n % 10) small) refl;
    }

Spells-decimal : (n : ℕ) → n < 2 ^ 64 → Spells n (decimal n)
Spells-decimal n small = decimal_by_steps Spells Spells-one Spells-more n small

-- a number below 2 ^ 32
pub number_of-decimal : (n : ℕ) → n < 2 ^ 32 → number_of (decimal n) ≡ Some n
number_of-decimal n small =
    let below : n < 2 ^ 64 = omega arith in
    let some : 0 < length (decimal n) = decimal_nonempty n below in
    let short : length (decimal n) ≤ 10 = length-decimal-le 10 n (omega arith) (omega arith) below in
    let fits : nat_lt n (2 ^ 32) ≡ true = search (rules, tests) in
    let spells = Spells-decimal n below in
    number_of-within (decimal n) some short ∙ ap (option_and_then (λ m. if nat_lt m (2 ^ 32) then Some m else None)) spells.value ∙ ap (λ b. if b then Some n else None) fits

pub digits_after-decimal : (n : ℕ) → n < 2 ^ 64 → digits_after 0 (decimal n) ≡ Some n
digits_after-decimal n small = let spells = Spells-decimal n small in spells.value

pub decimal-digits : (n : ℕ) → n < 2 ^ 64 → list_all is_ascii_digit (decimal n) ≡ true
decimal-digits n small = let spells = Spells-decimal n small in spells.digits
