-- Maximal runs and their text.
use Rattle.std.proofs.Common.{◌≡◌, ℕ, zero, suc, ◌+◌, ◌==◌, ◌<◌, ◌≤◌, Bool, true, false, List, [], ◌∷◌, ◌++◌, map, replicate, length, get_or, drop, refl, sym, ap, ◌∙◌, arith, rules, tests, append_assoc, length-append, ◌*◌, ◌/◌, ◌%◌, ◌^◌, ◌≢◌, inl, inr, decimal}
use Rattle.std.proofs.Math.ListN.{drop_of_length-le}
use Rattle.std.proofs.lemmas.List.{at_drop_more, replicate_more}
use Rattle.std.proofs.lemmas.Bool.{cases_lt}
use Rattle.std.proofs.lemmas.Fmt.{decimal_digit, length-decimal-le_succ}
use Rattle.std.specs.Fmt.{digits, digits_onto, digit_glyph}
use Rattle.std.specs.List.{join_with_byte}
use Rattle.nvm_base.specs.Data.{ByteRun, byte_count, onto, runs_in, run_text, data_text}
use Rattle.nvm_base.proofs.PrintedLemmas.{byte_count-onto}

-- the runs do not begin with that byte
abbrev pub Apart : ℕ → List ByteRun → Type 0
Apart byte [] = Unit {0}
Apart byte (r ∷ rs) = (byte == r.byte) ≡ false

same : (n : ℕ) → (n == n) ≡ true
same n = search (rules, tests)

onto-apart : (byte : ℕ) (rs : List ByteRun) → Apart byte rs → onto byte rs ≡ record { byte = byte; count = 1 } ∷ rs
onto-apart byte [] h = refl
onto-apart byte (r ∷ rs) h = rw (h, onto) refl

-- so many equal bytes before other ones are one run
runs_in-replicate : (n byte : ℕ) (bytes : List ℕ) → Apart byte (runs_in bytes) → runs_in (replicate (suc n) byte ++ bytes) ≡ record { byte = byte; count = suc n } ∷ runs_in bytes
runs_in-replicate zero byte bytes h = onto-apart byte (runs_in bytes) h
runs_in-replicate (suc n) byte bytes h =
    let more : suc n + 1 ≡ suc (suc n) = omega arith in
    ap (onto byte) (runs_in-replicate n byte bytes h) ∙ rw (same byte, onto) (ap (λ k. record { byte = byte; count = k } ∷ runs_in bytes) more)

-- the first run of bytes has the first byte
record Begins (byte : ℕ) (runs : List ByteRun) : Type 0 where
  pub first : ByteRun
  pub rest : List ByteRun
  pub is : runs ≡ first ∷ rest
  pub byte_is : first.byte ≡ byte

Begins-onto : (byte : ℕ) (rs : List ByteRun) → Begins byte (onto byte rs)
Begins-onto byte [] = record { first = record { byte = byte; count = 1 }; rest = []; is = refl; byte_is = refl }
Begins-onto byte (r ∷ rs) = go (byte == r.byte) refl
  where
    go : (b : Bool) → (byte == r.byte) ≡ b → Begins byte (onto byte (r ∷ rs))
    go true e = record { first = record r { count = r.count + 1 }; rest = rs; is = rw (e, onto) refl; byte_is = search (rules, tests) }
    go false e = record { first = record { byte = byte; count = 1 }; rest = r ∷ rs; is = rw (e, onto) refl; byte_is = refl }

joined : (r : ByteRun) (rs : List ByteRun) (byte : ℕ) → Begins byte rs → join_with_byte 44 (map run_text (r ∷ rs)) ≡ run_text r ++ ((44 ∷ []) ++ join_with_byte 44 (map run_text rs))
joined r rs byte b = rw b.is refl

-- the text of bytes that begin with a whole run
data_text-runs : (n byte next : ℕ) (bytes : List ℕ) → 0 < n → (next ≡ byte → ⊥) → data_text (replicate n byte ++ (next ∷ bytes)) ≡ run_text (record { byte = byte; count = n }) ++ ((44 ∷ []) ++ data_text (next ∷ bytes))
unfolding data_text
data_text-runs zero byte next bytes h ne = absurd (omega arith)
data_text-runs (suc n) byte next bytes h ne =
    let b = Begins-onto next (runs_in bytes) in
    let apart : Apart byte (onto next (runs_in bytes)) = rw b.is (search (rules, tests)) in
    ap (λ rs. join_with_byte 44 (map run_text rs)) (runs_in-replicate n byte (next ∷ bytes) apart) ∙ joined (record { byte = byte; count = suc n }) (onto next (runs_in bytes)) next b

-- the next byte ends the run
pub data_text-other : (count byte i : ℕ) (rest : List ℕ) → 0 < count → i < length rest → (get_or rest i 0 ≡ byte → ⊥) → data_text (replicate count byte ++ drop i rest) ≡ run_text (record { byte = byte; count = count }) ++ ((44 ∷ []) ++ data_text (replicate 1 (get_or rest i 0) ++ drop (i + 1) rest))
data_text-other count byte i rest some h ne =
    at_drop_more (λ bytes. data_text (replicate count byte ++ bytes)) rest i 0 h ∙ data_text-runs count byte (get_or rest i 0) (drop (i + 1) rest) some ne

-- the next byte goes on with it
pub data_text-same : (count byte i : ℕ) (rest : List ℕ) → i < length rest → get_or rest i 0 ≡ byte → data_text (replicate count byte ++ drop i rest) ≡ data_text (replicate (count + 1) byte ++ drop (i + 1) rest)
data_text-same count byte i rest h e =
    at_drop_more (λ bytes. data_text (replicate count byte ++ bytes)) rest i 0 h ∙ ap (λ b. data_text (replicate count byte ++ (b ∷ drop (i + 1) rest))) e ∙ ap data_text (sym (append_assoc (replicate count byte) (byte ∷ []) (drop (i + 1) rest)) ∙ ap (λ bytes. bytes ++ drop (i + 1) rest) (replicate_more count byte))

-- nothing follows the run
data_text-run : (n byte : ℕ) → 0 < n → data_text (replicate n byte ++ []) ≡ run_text (record { byte = byte; count = n })
unfolding data_text
data_text-run zero byte h = absurd (omega arith)
data_text-run (suc n) byte h = ap (λ rs. join_with_byte 44 (map run_text rs)) (runs_in-replicate n byte [] tt)

pub data_text-last : (count byte i : ℕ) (rest : List ℕ) → 0 < count → length rest ≤ i → data_text (replicate count byte ++ drop i rest) ≡ run_text (record { byte = byte; count = count })
data_text-last count byte i rest some h =
    ap (λ bytes. data_text (replicate count byte ++ bytes)) (drop_of_length-le rest h) ∙ data_text-run count byte some

pub data_text-none : (bytes : List ℕ) → length bytes < 1 → data_text bytes ≡ []
unfolding data_text
data_text-none [] h = refl
data_text-none (b ∷ bytes) h = absurd (omega arith)

-- each run of bytes has one at least
Counted : List ByteRun → Type 0
Counted [] = Unit {0}
Counted (r ∷ rs) = (1 ≤ r.count) × Counted rs

Counted-onto : (byte : ℕ) (rs : List ByteRun) → Counted rs → Counted (onto byte rs)
unfolding Counted
Counted-onto byte [] h = (omega arith, tt)
Counted-onto byte (r ∷ rs) h = go (byte == r.byte) refl
  where
    go : (b : Bool) → (byte == r.byte) ≡ b → Counted (onto byte (r ∷ rs))
    go true e = rw (e, onto) (omega arith, h.1)
    go false e = rw (e, onto) (omega arith, h)

Counted-runs_in : (bytes : List ℕ) → Counted (runs_in bytes)
unfolding Counted
Counted-runs_in [] = tt
Counted-runs_in (b ∷ bytes) = Counted-onto b (runs_in bytes) (Counted-runs_in bytes)

byte_count-runs_in : (bytes : List ℕ) → byte_count (runs_in bytes) ≡ length bytes
byte_count-runs_in [] = refl
byte_count-runs_in (b ∷ bytes) = byte_count-onto b (runs_in bytes) ∙ omega (arith, byte_count-runs_in bytes)

length-digits_onto : (k n : ℕ) (ds : List ℕ) → length (digits_onto k 10 false n ds) ≤ k + length ds
length-digits_onto zero n ds = omega arith
length-digits_onto (suc k) n ds = go (n / 10 == 0) refl (length-digits_onto k (n / 10) (digit_glyph false (n % 10) ∷ ds))
  where
    go : (b : Bool) → (n / 10 == 0) ≡ b → length (digits_onto k 10 false (n / 10) (digit_glyph false (n % 10) ∷ ds)) ≤ k + length (digit_glyph false (n % 10) ∷ ds) → length (digits_onto (suc k) 10 false n ds) ≤ suc k + length ds
    go true e h = rw (e, digits_onto) (omega arith)
    go false e h = rw (e, digits_onto) (omega (arith, h))

-- a number has no more digits than it counts
length-decimal : (n : ℕ) → 2 ≤ n → length (decimal n) + 4 ≤ 3 * n
unfolding digits
length-decimal n h =
    elim (cases_lt n 10) [
      | inl small ↦ omega (arith, ap length (decimal_digit n small))
      | inr large ↦
          elim (cases_lt n (2 ^ 64)) [
            | inl fits ↦ omega (arith, length-decimal-le_succ n fits)
            | inr huge ↦ omega (arith, length-digits_onto 64 n [])
          ]
    ]

-- a run's text and a comma take at most three bytes for each of its own
length-run_text : (r : ByteRun) → 1 ≤ r.count → length (run_text r) + 1 ≤ 3 * r.count
length-run_text r some = go (r.count == 1) refl
  where
    go : (b : Bool) → (r.count == 1) ≡ b → length (run_text r) + 1 ≤ 3 * r.count
    go true e = rw (e, run_text) (omega arith)
    go false e =
        let other : r.count ≢ 1 = search (rules, tests) in
        rw (e, run_text) (omega (arith, length-decimal r.count (omega arith)))

length-joined : (rs : List ByteRun) → Counted rs → length (join_with_byte 44 (map run_text rs)) ≤ 3 * byte_count rs
unfolding Counted
length-joined [] h = omega arith
length-joined (r ∷ []) h = let l = length-run_text r h.0 in omega arith
length-joined (r ∷ q ∷ rs) h =
    let l = length-run_text r h.0 in
    let m = length-joined (q ∷ rs) h.1 in
    omega (arith, length-append (run_text r) (44 ∷ join_with_byte 44 (map run_text (q ∷ rs))))

pub length-data_text : (bytes : List ℕ) → length (data_text bytes) ≤ 3 * length bytes
unfolding data_text
length-data_text bytes =
    let n = byte_count-runs_in bytes in
    let l = length-joined (runs_in bytes) (Counted-runs_in bytes) in
    omega arith
