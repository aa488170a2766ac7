-- Bytes that were printed are read back.
use Rattle.std.proofs.Common.{◌≡◌, ◌==◌, ◌||◌, ℕ, suc, ◌+◌, ◌^◌, ◌<◌, ◌≤◌, Bool, true, false, not, List, [], ◌∷◌, ◌++◌, map, length, get_or, replicate, nat_le, Some, Ok, refl, sym, ap, ◌∙◌, arith, rules, tests}
use Rattle.std.specs.List.{list_all, slice_split, join_with_byte}
use Rattle.std.proofs.lemmas.List.Folds.{list_all-append}
use Rattle.nvm_base.specs.Data.{ByteRun, byte_count, spelled, items_of, runs_of, within, data_within, onto, runs_in, run_text, data_text}
use Rattle.nvm_base.proofs.SplitLemmas.{list_all-weaker, split-alone, split-before}
use Rattle.nvm_base.proofs.RunTextLemmas.{is_item_byte, IsProper, item_of-run_text, run_text-items}

-- each run is
AreProper : List ByteRun → Type 0
AreProper [] = Unit {0}
AreProper (r ∷ rs) = IsProper r × AreProper rs

onto-proper : (byte : ℕ) (rs : List ByteRun) → byte < 256 → AreProper rs → AreProper (onto byte rs)
unfolding AreProper
onto-proper byte [] small h = (record { byte = small; some = omega arith }, tt)
onto-proper byte (r ∷ rs) small h = go (byte == r.byte) refl
  where
    go : (b : Bool) → (byte == r.byte) ≡ b → AreProper (onto byte (r ∷ rs))
    go true e = rw (e, onto) (record { byte = h.0.byte; some = omega arith }, h.1)
    go false e = rw (e, onto) (record { byte = small; some = omega arith }, h)

runs_in-proper : (bytes : List ℕ) → ((k : ℕ) → get_or bytes k 0 < 256) → AreProper (runs_in bytes)
unfolding AreProper
runs_in-proper [] small = tt
runs_in-proper (byte ∷ bytes) small = onto-proper byte (runs_in bytes) (small 0) (runs_in-proper bytes (λ k. small (suc k)))

pub byte_count-onto : (byte : ℕ) (rs : List ByteRun) → byte_count (onto byte rs) ≡ byte_count rs + 1
byte_count-onto byte [] = refl
byte_count-onto byte (r ∷ rs) = go (byte == r.byte) refl
  where
    go : (b : Bool) → (byte == r.byte) ≡ b → byte_count (onto byte (r ∷ rs)) ≡ byte_count (r ∷ rs) + 1
    go true e = rw (e, onto) (omega arith)
    go false e = rw (e, onto) (omega arith)

byte_count-runs_in : (bytes : List ℕ) → byte_count (runs_in bytes) ≡ length bytes
byte_count-runs_in [] = refl
byte_count-runs_in (byte ∷ bytes) = byte_count-onto byte (runs_in bytes) ∙ omega (arith, byte_count-runs_in bytes)

spelled-onto : (byte : ℕ) (rs : List ByteRun) → spelled (onto byte rs) ≡ byte ∷ spelled rs
spelled-onto byte [] = refl
spelled-onto byte (r ∷ rs) = go (byte == r.byte) refl
  where
    go : (b : Bool) → (byte == r.byte) ≡ b → spelled (onto byte (r ∷ rs)) ≡ byte ∷ spelled (r ∷ rs)
    go true e =
        let same : byte ≡ r.byte = search (rules, tests) in
        let more : r.count + 1 ≡ suc r.count = omega arith in
        rw (e, onto) (ap (λ n. replicate n r.byte ++ spelled rs) more ∙ ap (λ b. b ∷ replicate r.count r.byte ++ spelled rs) (sym same))
    go false e = rw (e, onto) refl

spelled-runs_in : (bytes : List ℕ) → spelled (runs_in bytes) ≡ bytes
spelled-runs_in [] = refl
spelled-runs_in (byte ∷ bytes) = spelled-onto byte (runs_in bytes) ∙ ap (λ rest. byte ∷ rest) (spelled-runs_in bytes)

-- the text of runs, one after the other
abbrev joined : List ByteRun → List ℕ
joined rs = join_with_byte 44 (map run_text rs)

no_comma : (c : ℕ) → is_item_byte c ≡ true → not (c == 44) ≡ true
no_comma c e = search (rules, tests)

items_of-runs : (rs : List ByteRun) → AreProper rs → byte_count rs < 2 ^ 32 → items_of (map run_text rs) ≡ Some rs
unfolding AreProper
items_of-runs [] h small = refl
items_of-runs (r ∷ rs) h small =
    let first = item_of-run_text r h.0 (omega arith) in
    let rest = items_of-runs rs h.1 (omega arith) in
    rw (first, rest) refl

split-joined : (r : ByteRun) (rs : List ByteRun) → AreProper (r ∷ rs) → byte_count (r ∷ rs) < 2 ^ 32 → slice_split (λ c. c == 44) (joined (r ∷ rs)) ≡ map run_text (r ∷ rs)
unfolding AreProper
split-joined r [] h small =
    split-alone (λ c. c == 44) (run_text r) (list_all-weaker is_item_byte _ no_comma (run_text r) (run_text-items r h.0 (omega arith)))
split-joined r (q ∷ rs) h small =
    let first = list_all-weaker is_item_byte _ no_comma (run_text r) (run_text-items r h.0 (omega arith)) in
    split-before (λ c. c == 44) (run_text r) 44 (joined (q ∷ rs)) first refl ∙ ap (λ parts. run_text r ∷ parts) (split-joined q rs h.1 (omega arith))

-- a byte of printed DATA
abbrev pub is_data_byte : ℕ → Bool
is_data_byte c = is_item_byte c || c == 44

item_data : (c : ℕ) → is_item_byte c ≡ true → is_data_byte c ≡ true
item_data c e = rw e refl

joined-bytes : (rs : List ByteRun) → AreProper rs → byte_count rs < 2 ^ 32 → list_all is_data_byte (joined rs) ≡ true
unfolding AreProper
joined-bytes [] h small = refl
joined-bytes (r ∷ []) h small = list_all-weaker is_item_byte is_data_byte item_data (run_text r) (run_text-items r h.0 (omega arith))
joined-bytes (r ∷ q ∷ rs) h small =
    let first = list_all-weaker is_item_byte is_data_byte item_data (run_text r) (run_text-items r h.0 (omega arith)) in
    let rest = joined-bytes (q ∷ rs) h.1 (omega arith) in
    list_all-append is_data_byte (run_text r) (44 ∷ joined (q ∷ rs)) ∙ rw (first, rest) refl

joined-some : (r : ByteRun) (rs : List ByteRun) → 0 < length (joined (r ∷ rs))
joined-some r [] = omega arith
joined-some r (q ∷ rs) = omega arith

-- they are DATA's bytes, also none
pub data_text-bytes : (bytes : List ℕ) → length bytes < 2 ^ 32 → ((k : ℕ) → get_or bytes k 0 < 256) → list_all is_data_byte (data_text bytes) ≡ true
unfolding data_text
data_text-bytes bytes few small = joined-bytes (runs_in bytes) (runs_in-proper bytes small) (omega (arith, byte_count-runs_in bytes))

-- printed bytes are DATA of these bytes
module _ (bytes : List ℕ) (some : 0 < length bytes) (most : length bytes < 2 ^ 32) (small : (k : ℕ) → get_or bytes k 0 < 256) where
  few : byte_count (runs_in bytes) < 2 ^ 32
  few = omega (arith, byte_count-runs_in bytes)

  pub data_within-text : (room : ℕ) → length bytes ≤ room → data_within room (data_text bytes) ≡ Ok bytes
  unfolding data_within runs_of data_text
  data_within-text room fit = go (runs_in bytes) (runs_in-proper bytes small) few (byte_count-runs_in bytes) (spelled-runs_in bytes)
    where
      go : (rs : List ByteRun) → AreProper rs → byte_count rs < 2 ^ 32 → byte_count rs ≡ length bytes → spelled rs ≡ bytes
          → within room (items_of (slice_split (λ c. c == 44) (joined rs))) ≡ Ok bytes
      go [] h few count is = absurd (omega arith)
      go (r ∷ rs) h few count is =
          let parts = split-joined r rs h few in
          let items = items_of-runs (r ∷ rs) h few in
          let fits : nat_le (byte_count (r ∷ rs)) room ≡ true = let low : byte_count (r ∷ rs) ≤ room = omega arith in search (rules, tests) in
          ap (λ items. within room (items_of items)) parts ∙ ap (within room) items ∙ rw (fits, within) (ap Ok is)

  pub data_text-some : 0 < length (data_text bytes)
  unfolding data_text
  data_text-some = go (runs_in bytes) (byte_count-runs_in bytes)
    where
      go : (rs : List ByteRun) → byte_count rs ≡ length bytes → 0 < length (joined rs)
      go [] count = absurd (omega arith)
      go (r ∷ rs) count = joined-some r rs
