-- What DATA spells are bytes.
use Rattle.std.proofs.Common.{ℕ, zero, suc, ◌+◌, ◌*◌, ◌<◌, ◌≡◌, ◌&&◌, ◌==◌, Bool, true, false, cond, ltb, Option, Some, None, option_map, Result, Ok, Err, List, [], ◌∷◌, ◌++◌, get_or, replicate, nat_lt, nat_le, refl, arith}
use Rattle.std.specs.Char.{digit_value}
use Rattle.std.specs.List.{slice_split}
use Rattle.std.proofs.lemmas.Bool.{and_parts, ltb-true}
use Rattle.nvm_base.specs.declared.reading.TextFault.{TextFault}
use Rattle.nvm_base.specs.declared.reading.TextFault.TheVariants.{TooLong}
use Rattle.nvm_base.specs.Data.{ByteRun, byte_count, data_of, data_within, followed, item_of, items_of, pair_of, pairs_of, repeated, run, runs_of, spelled, within}
use Rattle.nvm_base.specs.Numbers.{number_of}

-- each number is below 256, and that of each run
abbrev pub AllBytes : List ℕ → Type 0
AllBytes [] = Unit {0}
AllBytes (b ∷ bytes) = (b < 256) × AllBytes bytes

pub bytes-append : (xs ys : List ℕ) → AllBytes xs → AllBytes ys → AllBytes (xs ++ ys)
bytes-append [] ys first second = second
bytes-append (x ∷ xs) ys first second = (first.0, bytes-append xs ys first.1 second)

bytes-replicate : (n b : ℕ) → b < 256 → AllBytes (replicate n b)
bytes-replicate zero b small = tt
bytes-replicate (suc n) b small = (small, bytes-replicate n b small)

pub bytes-at : (bytes : List ℕ) → AllBytes bytes → (k : ℕ) → get_or bytes k 0 < 256
bytes-at [] small k = omega arith
bytes-at (b ∷ bytes) small zero = small.0
bytes-at (b ∷ bytes) small (suc k) = bytes-at bytes small.1 k

abbrev AllRuns : List ByteRun → Type 0
AllRuns [] = Unit {0}
AllRuns (r ∷ rs) = (r.byte < 256) × AllRuns rs

runs-append : (xs ys : List ByteRun) → AllRuns xs → AllRuns ys → AllRuns (xs ++ ys)
runs-append [] ys first second = second
runs-append (x ∷ xs) ys first second = (first.0, runs-append xs ys first.1 second)

abbrev AreByteRuns : Option (List ByteRun) → Type 0
AreByteRuns None = Unit {0}
AreByteRuns (Some runs) = AllRuns runs

runs-followed : (a b : Option (List ByteRun)) → AreByteRuns a → AreByteRuns b → AreByteRuns (followed a b)
runs-followed None b first second = tt
runs-followed (Some xs) None first second = tt
runs-followed (Some xs) (Some ys) first second = runs-append xs ys first second

abbrev IsOneByte : Option ℕ → Type 0
IsOneByte None = Unit {0}
IsOneByte (Some byte) = byte < 256

byte-pair : (high low : ℕ) → IsOneByte (pair_of high low)
byte-pair high low = by_test (ltb (digit_value high) 16 && ltb (digit_value low) 16) (λ t. t)
  where
    by_test : (b : Bool) → (b ≡ true → (ltb (digit_value high) 16 && ltb (digit_value low) 16) ≡ true)
        → IsOneByte (cond b (Some (16 * digit_value high + digit_value low)) None)
    by_test true is =
        let parts = and_parts (ltb (digit_value high) 16) (ltb (digit_value low) 16) (is refl) in
        omega (arith, ltb-true (digit_value high) 16 parts.0, ltb-true (digit_value low) 16 parts.1)
    by_test false is = tt

runs-pair : (o : Option ℕ) → IsOneByte o → AreByteRuns (option_map (λ byte. run byte 1) o)
runs-pair None small = tt
runs-pair (Some byte) small = (small, tt)

runs-pairs : (text : List ℕ) → AreByteRuns (pairs_of text)
runs-pairs [] = tt
runs-pairs (a ∷ []) = tt
runs-pairs (a ∷ b ∷ text) =
    runs-followed (option_map (λ byte. run byte 1) (pair_of a b)) (pairs_of text) (runs-pair (pair_of a b) (byte-pair a b)) (runs-pairs text)

runs-repeated : (byte count : Option ℕ) → IsOneByte byte → AreByteRuns (repeated byte count)
runs-repeated None count small = tt
runs-repeated (Some byte) None small = tt
runs-repeated (Some byte) (Some count) small = by_test (nat_lt 0 count)
  where
    by_test : (b : Bool) → AreByteRuns (cond b (Some (run byte count)) None)
    by_test true = (small, tt)
    by_test false = tt

runs-item : (item : List ℕ) → AreByteRuns (item_of item)
runs-item [] = tt
runs-item (a ∷ []) = tt
runs-item (a ∷ b ∷ []) = runs-pairs (a ∷ b ∷ [])
runs-item (a ∷ b ∷ c ∷ text) = by_test (c == 42)
  where
    by_test : (t : Bool) → AreByteRuns (elim t [ true ↦ repeated (pair_of a b) (number_of text) | false ↦ pairs_of (a ∷ b ∷ c ∷ text) ])
    by_test true = runs-repeated (pair_of a b) (number_of text) (byte-pair a b)
    by_test false = runs-pairs (a ∷ b ∷ c ∷ text)

runs-items : (items : List (List ℕ)) → AreByteRuns (items_of items)
runs-items [] = tt
runs-items (item ∷ items) = runs-followed (item_of item) (items_of items) (runs-item item) (runs-items items)

runs-text : (text : List ℕ) → AreByteRuns (runs_of text)
unfolding runs_of
runs-text text = runs-items (slice_split (λ c. c == 44) text)

bytes-spelled : (runs : List ByteRun) → AllRuns runs → AllBytes (spelled runs)
bytes-spelled [] small = tt
bytes-spelled (r ∷ rs) small = bytes-append (replicate r.count r.byte) (spelled rs) (bytes-replicate r.count r.byte small.0) (bytes-spelled rs small.1)

-- the bytes of DATA
abbrev pub AreBytes : Result (List ℕ) TextFault → Type 0
AreBytes (Ok bytes) = AllBytes bytes
AreBytes (Err fault) = Unit {0}

pub data-bytes : (room : ℕ) (text : List ℕ) → AreBytes (data_within room text)
unfolding data_within
data-bytes room text = by_runs (runs_of text) (runs-text text)
  where
    by_runs : (o : Option (List ByteRun)) → AreByteRuns o → AreBytes (within room o)
    by_runs None small = tt
    by_runs (Some runs) small = by_room (nat_le (byte_count runs) room)
      where
        by_room : (b : Bool) → AreBytes (elim b [ true ↦ Ok (spelled runs) | false ↦ Err TooLong ])
        by_room true = bytes-spelled runs small
        by_room false = tt

-- the same with no bound
abbrev pub AreSomeBytes : Option (List ℕ) → Type 0
AreSomeBytes None = Unit {0}
AreSomeBytes (Some bytes) = AllBytes bytes

pub some-bytes : (text : List ℕ) → AreSomeBytes (data_of text)
unfolding data_of
some-bytes text = by_runs (runs_of text) (runs-text text)
  where
    by_runs : (o : Option (List ByteRun)) → AreByteRuns o → AreSomeBytes (option_map spelled o)
    by_runs None small = tt
    by_runs (Some runs) small = bytes-spelled runs small
