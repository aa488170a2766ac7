-- Printed numbers are words.
use Rattle.std.proofs.Common.{◌≡◌, ℕ, ◌^◌, ◌<◌, true, not, length, decimal, arith, rules, tests}
use Rattle.std.specs.Char.{is_ascii_digit}
use Rattle.std.proofs.lemmas.Fmt.{decimal_nonempty}
use Rattle.nvm_base.proofs.DecimalLemmas.{decimal-digits}
use Rattle.nvm_base.proofs.SplitLemmas.{list_all-weaker}
use Rattle.script_text.specs.Script.{is_blank}
use Rattle.questions.proofs.TextLemmas.{is_word}

digit-solid : (c : ℕ) → is_ascii_digit c ≡ true → not (is_blank c) ≡ true
digit-solid c e = search (rules, tests)

pub decimal-word : (n : ℕ) → n < 2 ^ 32 → is_word (decimal n) ≡ true
decimal-word n small = list_all-weaker is_ascii_digit (λ c. not (is_blank c)) digit-solid (decimal n) (decimal-digits n (omega arith))

pub decimal-some : (n : ℕ) → n < 2 ^ 32 → 0 < length (decimal n)
decimal-some n small = let below : n < 2 ^ 64 = omega arith in decimal_nonempty n below
