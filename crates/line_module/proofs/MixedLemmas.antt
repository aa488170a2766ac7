-- What a word keeps by a seed is what a module of its unit may keep.
use Rattle.std.proofs.Common.{◌≡◌, inl, inr, ℕ, zero, suc, Bool, true, false, ◌+◌, ◌-◌, ◌*◌, ◌/◌, ◌%◌, ◌^◌, ◌<◌, ◌≤◌, ◌==◌, List, [], ◌∷◌, length, get_or, refl, sym, ◌∙◌, ap, arith}
use Rattle.std.specs.Int.{byte_at}
use Rattle.std.proofs.Math.Nat.{div-div-eq-div-mul}
use Rattle.std.proofs.lemmas.Bool.{cases_lt}
use Rattle.std.proofs.lemmas.Nat.{mod_below, pow-add}
use Rattle.line_device.specs.Word.{word_from}
use Rattle.line_device.specs.History.{IsIn, IsTorn, MayKeep, may_keep_by}
use Rattle.line_device.proofs.WordLemmas.{below_eight, byte_at-word_from}
use Rattle.line_module.specs.Survivors.{drawn, survivor_index, drawn_value, drawn_word, mixed_word}

byte_below : (k n : ℕ) → byte_at k n < 256
byte_below zero n = mod_below n 256 (omega arith)
byte_below (suc k) n = mod_below (n / 256 ^ suc k) 256 (omega arith)

pub word_from-below : (f : ℕ → ℕ) → ((k : ℕ) → k < 8 → f k < 256) → word_from f < 2 ^ 64
unfolding word_from
word_from-below f small =
    omega (arith, small 0 (omega arith), small 1 (omega arith), small 2 (omega arith), small 3 (omega arith), small 4 (omega arith), small 5 (omega arith), small 6 (omega arith), small 7 (omega arith))

-- the first eight bytes of a sum with what is beyond them
low_byte : (low rest k : ℕ) → k < 8 → byte_at k (low + 2 ^ 64 * rest) ≡ byte_at k low
low_byte low rest k below =
    below_eight (λ i. byte_at i (low + 2 ^ 64 * rest) ≡ byte_at i low) (omega arith) (omega arith) (omega arith) (omega arith) (omega arith) (omega arith) (omega arith) (omega arith) k below

-- and the others go by what is beyond
high_byte : (n m k : ℕ) → 8 ≤ k → n / 2 ^ 64 ≡ m / 2 ^ 64 → byte_at k n ≡ byte_at k m
high_byte n m zero high same = absurd (omega (arith, high))
high_byte n m (suc k) high same = split n ∙ ap (λ q. q / 256 ^ (suc k - 8) % 256) same ∙ sym (split m)
  where
    place : suc k ≡ 8 + (suc k - 8)
    place = omega (arith, high)

    split : (x : ℕ) → byte_at (suc k) x ≡ x / 2 ^ 64 / 256 ^ (suc k - 8) % 256
    split x =
        ap (λ i. x / 256 ^ i % 256) place
        ∙ ap (λ p. x / p % 256) (pow-add 256 8 (suc k - 8))
        ∙ ap (λ q. q % 256) (sym (div-div-eq-div-mul x (256 ^ 8) (256 ^ (suc k - 8))))

-- a mixed word of values of a history, and of one of them beyond 64 bits
pub mixed-torn : (value : ℕ → ℕ) (first : ℕ) (h : List ℕ) → IsIn first h → ((b : ℕ) → IsIn (value b) h) → IsTorn (mixed_word value first) h
unfolding IsTorn mixed_word
mixed-torn value first h at each k =
    elim (cases_lt k 8) as (λ _. (x : ℕ) × IsIn x h × (byte_at k (mixed_word value first) ≡ byte_at k x)) [
      | inl low ↦ (value k, each k, low_byte spelled (first / 2 ^ 64) k low ∙ byte_at-word_from bytes k (λ i _. byte_below i (value i)) low)
      | inr high ↦ (first, at, high_byte (mixed_word value first) first k high rest)
    ]
  where
    bytes : ℕ → ℕ
    bytes b = byte_at b (value b)

    spelled : ℕ
    spelled = word_from bytes

    small : spelled < 2 ^ 64
    small = word_from-below bytes (λ i _. byte_below i (value i))

    rest : mixed_word value first / 2 ^ 64 ≡ first / 2 ^ 64
    rest = omega (arith, small)

-- of a value of 64 bits nothing is beyond them
pub mixed-small : (value : ℕ → ℕ) (first : ℕ) → first < 2 ^ 64 → mixed_word value first ≡ word_from (λ b. byte_at b (value b))
unfolding mixed_word
mixed-small value first small = omega (arith, small)

-- a value of a history
pub is_in-at : (h : List ℕ) (i : ℕ) → i < length h → IsIn (get_or h i 0) h
is_in-at [] i within = absurd (omega arith)
is_in-at (x ∷ xs) zero within = inl refl
is_in-at (x ∷ xs) (suc i) within = inr (is_in-at xs i (omega arith))

pub drawn-in : (seed place first : ℕ) (h : List ℕ) → IsIn (drawn_value seed place (first ∷ h)) (first ∷ h)
drawn-in seed place first h = is_in-at (first ∷ h) (survivor_index seed place (length (first ∷ h))) (mod_below (drawn seed place) (length (first ∷ h)) (omega arith))

pub drawn-kept : (unit seed place first : ℕ) (h : List ℕ) → MayKeep unit (drawn_word (unit == 1) seed place first h) (first ∷ h)
drawn-kept unit seed place first h = by_unit (unit == 1)
  where
    by_unit : (bytes : Bool) → may_keep_by bytes (drawn_word bytes seed place first h) (first ∷ h)
    by_unit true = mixed-torn (λ b. drawn_value seed (8 * place + b) (first ∷ h)) first (first ∷ h) (inl refl) (λ b. drawn-in seed (8 * place + b) first h)
    by_unit false = drawn-in seed place first h
