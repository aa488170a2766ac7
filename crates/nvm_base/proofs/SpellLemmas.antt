-- DATA spells a byte at least.
use Rattle.std.proofs.Common.{Bool, ◌==◌, nat_lt, IfSome, length-append, nat_le, true, false, Ok, rules, tests, length, IsSomeAnd, ◌≡◌, ℕ, ◌<◌, ◌≤◌, List, [], ◌∷◌, replicate, Option, Some, None, refl, ap, arith}
use Rattle.std.specs.Option.{option_map}
use Rattle.std.specs.List.{slice_split}
use Rattle.std.proofs.lemmas.List.Splits.{length-slice_split}
use Rattle.nvm_base.specs.Numbers.{number_of}
use Rattle.std.proofs.lemmas.List.{length-replicate}
use Rattle.nvm_base.specs.Data.{ByteRun, byte_count, spelled, run, followed, pair_of, pairs_of, item_of, items_of, within, repeated, runs_of, data_within}
use Rattle.nvm_base.specs.Reading.{HasRead}
use Rattle.nvm_base.proofs.ReadingLemmas.{byte_count-append}

-- the runs, where there are some, have a byte
pub Spells : Option (List ByteRun) → Type 0
Spells o = IfSome o (λ runs. 1 ≤ byte_count runs)

Spells-followed : (o more : Option (List ByteRun)) → Spells o → Spells (followed o more)
unfolding Spells
Spells-followed None more h = tt
Spells-followed (Some runs) None h = tt
Spells-followed (Some runs) (Some more) h = omega (arith, byte_count-append runs more)

Spells-pair : (o : Option ℕ) → Spells (option_map (λ byte. run byte 1) o)
unfolding Spells
Spells-pair None = tt
Spells-pair (Some byte) = omega arith

Spells-repeated : (byte count : Option ℕ) → Spells (repeated byte count)
unfolding Spells
Spells-repeated None count = tt
Spells-repeated (Some byte) None = tt
Spells-repeated (Some byte) (Some count) = go (nat_lt 0 count) refl
  where
    go : (b : Bool) → nat_lt 0 count ≡ b → Spells (repeated (Some byte) (Some count))
    go true e = let some : 0 < count = search (rules, tests) in rw (e, repeated) (omega arith)
    go false e = rw (e, repeated) tt

Spells-item_of : (item : List ℕ) → Spells (item_of item)
unfolding Spells
Spells-item_of [] = tt
Spells-item_of (a ∷ []) = tt
Spells-item_of (a ∷ b ∷ []) = Spells-followed _ (Some []) (Spells-pair (pair_of a b))
Spells-item_of (a ∷ b ∷ c ∷ text) = go (c == 42) refl
  where
    go : (t : Bool) → (c == 42) ≡ t → Spells (item_of (a ∷ b ∷ c ∷ text))
    go true e = rw (e, item_of) (Spells-repeated (pair_of a b) (number_of text))
    go false e = rw (e, item_of) (Spells-followed _ (pairs_of (c ∷ text)) (Spells-pair (pair_of a b)))

-- DATA spells a byte at least
Spells-items_of : (items : List (List ℕ)) → 0 < length items → Spells (items_of items)
unfolding Spells
Spells-items_of [] h = absurd (omega arith)
Spells-items_of (item ∷ items) h = Spells-followed (item_of item) (items_of items) (Spells-item_of item)

length-spelled : (runs : List ByteRun) → length (spelled runs) ≡ byte_count runs
length-spelled [] = refl
length-spelled (r ∷ runs) = omega (arith, length-append (replicate r.count r.byte) (spelled runs), length-replicate r.count r.byte, length-spelled runs)

-- what is read has a byte at least
pub read_some : (room : ℕ) (o : Option (List ByteRun)) (bytes : List ℕ) (left : ℕ) → Spells o → IsSomeAnd o (λ runs. HasRead room runs bytes (Some left)) → 0 < length bytes
unfolding Spells
read_some room None bytes left h r = absurd r
read_some room (Some runs) bytes left h r = omega (arith, length-spelled runs, ap length r.1)

pub Spells-runs_of : (text : List ℕ) → Spells (runs_of text)
unfolding runs_of
Spells-runs_of text =
    let items = slice_split (λ c. c == 44) text in
    Spells-items_of items (omega (arith, length-slice_split (λ c. c == 44) text))

in_room : (room : ℕ) (runs : List ByteRun) (bytes : List ℕ) (b : Bool) → nat_le (byte_count runs) room ≡ b → within room (Some runs) ≡ Ok bytes → spelled runs ≡ bytes
in_room room runs bytes true t e = let f = rw (t, within) at e in cc
in_room room runs bytes false t e = let f = rw (t, within) at e in cc

some_within : (room : ℕ) (o : Option (List ByteRun)) (bytes : List ℕ) → Spells o → within room o ≡ Ok bytes → 0 < length bytes
unfolding Spells
some_within room None bytes h e = absurd (cc)
some_within room (Some runs) bytes h e =
    omega (arith, length-spelled runs, ap length (in_room room runs bytes _ refl e))

-- DATA spells one byte at least
pub data_within-some : (room : ℕ) (text bytes : List ℕ) → data_within room text ≡ Ok bytes → 0 < length bytes
unfolding data_within
data_within-some room text bytes e = some_within room (runs_of text) bytes (Spells-runs_of text) e
