-- How many bytes DATA spells.
use Rattle.std.proofs.Common.{◌≡◌, ◌==◌, ℕ, ◌<◌, ◌≤◌, Bool, true, false, nat_lt, nat_le, List, [], ◌∷◌, ◌++◌, length, replicate, Option, Some, None, Result, Ok, Err, option_map, if◌then◌else◌, refl, ap, arith, rules, tests, length-append}
use Rattle.std.specs.List.{slice_split}
use Rattle.std.proofs.lemmas.List.Splits.{length-slice_split}
use Rattle.std.proofs.lemmas.List.{length-replicate}
use Rattle.nvm_base.specs.Numbers.{number_of}
use Rattle.nvm_base.specs.declared.units.Span.{Span}
use Rattle.nvm_base.specs.declared.reading.TextFault.{TextFault}
use Rattle.nvm_base.specs.declared.reading.TextFault.TheVariants.{TooLong}
use Rattle.nvm_base.specs.Data.{ByteRun, byte_count, spelled, run, followed, pair_of, pairs_of, repeated, item_of, items_of, runs_of, data_of, within, data_within}
use Rattle.nvm_base.proofs.ReadingLemmas.{byte_count-append}
use Rattle.script_text.specs.Operands.{fitting, with_range}

followed-some : (first : List ByteRun) (o : Option (List ByteRun)) (runs : List ByteRun) → 0 < byte_count first → followed (Some first) o ≡ Some runs → 0 < byte_count runs
followed-some first None runs some e = absurd (cc)
followed-some first (Some more) runs some e =
    let is : first ++ more ≡ runs = cc in
    omega (arith, byte_count-append first more, ap byte_count is)

pairs_of-some : (a b : ℕ) (text : List ℕ) (runs : List ByteRun) → pairs_of (a ∷ b ∷ text) ≡ Some runs → 0 < byte_count runs
pairs_of-some a b text runs e = go (pair_of a b) e
  where
    go : (o : Option ℕ) → followed (option_map (λ byte. run byte 1) o) (pairs_of text) ≡ Some runs → 0 < byte_count runs
    go None e = absurd (cc)
    go (Some byte) e = followed-some (run byte 1) (pairs_of text) runs (omega arith) e

repeated-some : (byte count : Option ℕ) (runs : List ByteRun) → repeated byte count ≡ Some runs → 0 < byte_count runs
repeated-some None count runs e = absurd (cc)
repeated-some (Some byte) None runs e = absurd (cc)
repeated-some (Some byte) (Some count) runs e = go (nat_lt 0 count) refl e
  where
    go : (b : Bool) → nat_lt 0 count ≡ b → (if b then Some (run byte count) else None) ≡ Some runs → 0 < byte_count runs
    go true t e =
        let is : run byte count ≡ runs = cc in
        let some : 0 < count = search (rules, tests) in
        omega (arith, ap byte_count is)
    go false t e = absurd (cc)

item_of-some : (item : List ℕ) (runs : List ByteRun) → item_of item ≡ Some runs → 0 < byte_count runs
item_of-some [] runs e = absurd (cc)
item_of-some (a ∷ []) runs e = absurd (cc)
item_of-some (a ∷ b ∷ []) runs e = pairs_of-some a b [] runs e
item_of-some (a ∷ b ∷ c ∷ text) runs e = go (c == 42) e
  where
    go : (t : Bool) → elim t [ true ↦ repeated (pair_of a b) (number_of text) | false ↦ pairs_of (a ∷ b ∷ c ∷ text) ] ≡ Some runs → 0 < byte_count runs
    go true e = repeated-some (pair_of a b) (number_of text) runs e
    go false e = pairs_of-some a b (c ∷ text) runs e

items_of-some : (items : List (List ℕ)) (runs : List ByteRun) → 0 < length items → items_of items ≡ Some runs → 0 < byte_count runs
items_of-some [] runs some e = absurd (omega arith)
items_of-some (item ∷ items) runs some e = go (item_of item) refl e
  where
    go : (o : Option (List ByteRun)) → item_of item ≡ o → followed o (items_of items) ≡ Some runs → 0 < byte_count runs
    go None is e = absurd (cc)
    go (Some first) is e = followed-some first (items_of items) runs (item_of-some item first is) e

length-spelled : (runs : List ByteRun) → length (spelled runs) ≡ byte_count runs
length-spelled [] = refl
length-spelled (r ∷ rs) = omega (arith, length-append (replicate r.count r.byte) (spelled rs), length-replicate r.count r.byte, length-spelled rs)

-- DATA spells a byte or more
pub data_of-some : (text bytes : List ℕ) → data_of text ≡ Some bytes → 0 < length bytes
unfolding data_of runs_of
data_of-some text bytes e = go (items_of (slice_split (λ c. c == 44) text)) refl e
  where
    go : (o : Option (List ByteRun)) → items_of (slice_split (λ c. c == 44) text) ≡ o → option_map spelled o ≡ Some bytes → 0 < length bytes
    go None is e = absurd (cc)
    go (Some runs) is e =
        let some = items_of-some (slice_split (λ c. c == 44) text) runs (omega (arith, length-slice_split (λ c. c == 44) text)) is in
        let same : spelled runs ≡ bytes = cc in
        omega (arith, length-spelled runs, ap length same)

-- what was read where there is room is what the text spells
pub data_within-ok : (room : ℕ) (text bytes : List ℕ) → data_within room text ≡ Ok bytes → (data_of text ≡ Some bytes) × (length bytes ≤ room)
unfolding data_within data_of
data_within-ok room text bytes e = go (runs_of text) e
  where
    sized : (runs : List ByteRun) (b : Bool) → nat_le (byte_count runs) room ≡ b → ◌≡◌ {A = Result (List ℕ) TextFault} (elim b [ true ↦ Ok (spelled runs) | false ↦ Err TooLong ]) (Ok bytes) → (option_map spelled (Some runs) ≡ Some bytes) × (length bytes ≤ room)
    sized runs true t e =
        let is : spelled runs ≡ bytes = cc in
        let most : byte_count runs ≤ room = search (rules, tests) in
        let count = length-spelled runs in
        (ap Some is, omega (arith, ap length is))
    sized runs false t e = absurd (cc)

    go : (o : Option (List ByteRun)) → within room o ≡ Ok bytes → (option_map spelled o ≡ Some bytes) × (length bytes ≤ room)
    go None e = absurd (cc)
    go (Some runs) e = sized runs (nat_le (byte_count runs) room) refl e

-- ranges whose first DATA is refused are none that fit
pub data_within-err : (room start : ℕ) (text : List ℕ) (fault : TextFault) (more : Option (List Span × List ℕ)) → data_within room text ≡ Err fault → fitting room (with_range (Some start) (data_of text) more) ≡ None
unfolding data_within data_of
data_within-err room start text fault more e = go (runs_of text) more e
  where
    passed : (runs : List ByteRun) (rest : List ℕ) (spans : List Span) → nat_le (byte_count runs) room ≡ false → fitting room (Some (spans, spelled runs ++ rest)) ≡ None
    passed runs rest spans t =
        let over : room < byte_count runs = search (rules, tests) in
        let count : room < length (spelled runs ++ rest) = omega (arith, length-spelled runs, length-append (spelled runs) rest) in
        let no : nat_le (length (spelled runs ++ rest)) room ≡ false = search (rules, tests) in
        rw no refl

    sized : (runs : List ByteRun) (more : Option (List Span × List ℕ)) (b : Bool) → nat_le (byte_count runs) room ≡ b → ◌≡◌ {A = Result (List ℕ) TextFault} (elim b [ true ↦ Ok (spelled runs) | false ↦ Err TooLong ]) (Err fault) → fitting room (with_range (Some start) (Some (spelled runs)) more) ≡ None
    sized runs more true t e = absurd (cc)
    sized runs None false t e = refl
    sized runs (Some p) false t e = passed runs p.1 _ t

    go : (o : Option (List ByteRun)) (more : Option (List Span × List ℕ)) → within room o ≡ Err fault → fitting room (with_range (Some start) (option_map spelled o) more) ≡ None
    go None more e = refl
    go (Some runs) more e = sized runs more (nat_le (byte_count runs) room) refl e
