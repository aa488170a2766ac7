-- Runs that are read part by part, and what is left of the room.
use Rattle.std.proofs.Common.{◌⊎◌, inl, inr, nat_le, true, false, Ok, Err, rules, tests, append-nil, take, length, get_or, drop, IsSomeAnd, ◌≡◌, ℕ, ◌+◌, ◌-◌, ◌<◌, ◌≤◌, List, [], ◌∷◌, ◌++◌, replicate, Option, Some, None, refl, sym, ap, ◌∙◌, arith, append_assoc}
use Rattle.std.proofs.lemmas.Grind.{common_steps}
use Rattle.std.proofs.lemmas.List.{at_drop_more}
use Rattle.nvm_base.specs.declared.reading.TextFault.TheVariants.{Bad, TooLong, Memory}
use Rattle.nvm_base.specs.declared.reading.TextFault.{TextFault}
use Rattle.std.proofs.Math.ListN.{drop_of_length-le}
use Rattle.nvm_base.specs.declared.reading.Reading.{Reading}
use Rattle.nvm_base.specs.Data.{ByteRun, byte_count, spelled, run, followed, pair_of, pairs_of, item_of, items_of, within}
use Rattle.nvm_base.specs.Reading.{HasRead, Adds, Refuses}

pub byte_count-append : (xs ys : List ByteRun) → byte_count (xs ++ ys) ≡ byte_count xs + byte_count ys
byte_count-append [] ys = omega arith
byte_count-append (x ∷ xs) ys = omega (arith, byte_count-append xs ys)

pub spelled-append : (xs ys : List ByteRun) → spelled (xs ++ ys) ≡ spelled xs ++ spelled ys
spelled-append [] ys = refl
spelled-append (x ∷ xs) ys = ap (λ s. replicate x.count x.byte ++ s) (spelled-append xs ys) ∙ sym (append_assoc (replicate x.count x.byte) (spelled xs) (spelled ys))

-- a slice's tail, as the code takes it
pub tail : (xs : List ℕ) (k : ℕ) → take (length xs - k) (drop k xs) ≡ drop k xs
tail xs k = grind (arith, common_steps)

-- a run that the room holds
kept : (room byte count left : ℕ) (before : List ByteRun) (bytes more : List ℕ) → count ≤ left → more ≡ bytes ++ replicate count byte → HasRead room before bytes (Some left) → HasRead room (before ++ run byte count) more (Some (left - count))
kept room byte count left before bytes more fits e h =
    let s = byte_count-append before (run byte count) in
    let k = h.0 in
    (omega arith, e ∙ ap (λ b. b ++ replicate count byte) h.1 ∙ ap (λ t. spelled before ++ t) (sym (append-nil (replicate count byte))) ∙ sym (spelled-append before (run byte count)))

-- a run that passes it
passed : (room byte count left : ℕ) (before : List ByteRun) (bytes more : List ℕ) → left < count → HasRead room before bytes (Some left) → HasRead room (before ++ run byte count) more None
passed room byte count left before bytes more h r =
    let s = byte_count-append before (run byte count) in
    let k = r.0 in
    omega arith

gone : (room : ℕ) (before runs : List ByteRun) (bytes more : List ℕ) → HasRead room before bytes None → HasRead room (before ++ runs) more None
gone room before runs bytes more h = let s = byte_count-append before runs in omega arith

pub Adds-kept : (old new : Reading) (byte count left : ℕ) → old.left ≡ Some left → new.left ≡ Some (left - count) → count ≤ left → new.bytes.items ≡ old.bytes.items ++ replicate count byte → Adds (run byte count) old new
Adds-kept old new byte count left was is fits e = record {
  reads = λ room before h.
      rw is (kept room byte count left before old.bytes.items new.bytes.items fits e (rw was at h));
}

pub Adds-passed : (old new : Reading) (byte count left : ℕ) → old.left ≡ Some left → new.left ≡ None → left < count → Adds (run byte count) old new
Adds-passed old new byte count left was is h = record {
  reads = λ room before r. rw is (passed room byte count left before old.bytes.items new.bytes.items h (rw was at r));
}

pub Adds-gone : (old new : Reading) (runs : List ByteRun) → old.left ≡ None → new.left ≡ None → Adds runs old new
Adds-gone old new runs was is = record {
  reads = λ room before r. rw is (gone room before runs old.bytes.items new.bytes.items (rw was at r));
}

pub Adds-nothing : (reading : Reading) → Adds [] reading reading
Adds-nothing reading = record { reads = λ room before h. rw (append-nil before) h }

pub Adds-then : (a b c : Reading) (xs ys : List ByteRun) → Adds xs a b → Adds ys b c → Adds (xs ++ ys) a c
Adds-then a b c xs ys p q = record {
  reads = λ room before h. rw (← append_assoc) (q.reads room (before ++ xs) (p.reads room before h));
}

-- the whole text spells some runs, which were read, and then what the rest spells
pub record Taken (whole rest : Option (List ByteRun)) (old new : Reading) : Type 0 where
  pub done : List ByteRun
  pub split : whole ≡ followed (Some done) rest
  pub adds : Adds done old new

nothing_followed : (o : Option (List ByteRun)) → o ≡ followed (Some []) o
nothing_followed None = refl
nothing_followed (Some runs) = refl

followed_assoc : (xs ys : List ByteRun) (o : Option (List ByteRun)) → followed (Some xs) (followed (Some ys) o) ≡ followed (Some (xs ++ ys)) o
followed_assoc xs ys None = refl
followed_assoc xs ys (Some zs) = ap Some (sym (append_assoc xs ys zs))

pub Taken-none : (whole : Option (List ByteRun)) (reading : Reading) → Taken whole whole reading reading
Taken-none whole reading = record { done = []; split = nothing_followed whole; adds = Adds-nothing reading }

pub Taken-more : (whole rest next : Option (List ByteRun)) (more : List ByteRun) (a b c : Reading) → Taken whole rest a b → rest ≡ followed (Some more) next → Adds more b c → Taken whole next a c
Taken-more whole rest next more a b c t e p = record {
  done = t.done ++ more;
  split = t.split ∙ ap (followed (Some t.done)) e ∙ followed_assoc t.done more next;
  adds = Adds-then a b c t.done more t.adds p;
}

pub Taken-bad : (whole rest : Option (List ByteRun)) (a b : Reading) → Taken whole rest a b → rest ≡ None → whole ≡ None
Taken-bad whole rest a b t e = t.split ∙ ap (followed (Some t.done)) e

pub Taken-all : (whole rest : Option (List ByteRun)) (a b : Reading) → Taken whole rest a b → rest ≡ Some [] → IsSomeAnd whole (λ runs. Adds runs a b)
Taken-all whole rest a b t e =
    let all : whole ≡ Some t.done = t.split ∙ ap (followed (Some t.done)) e ∙ ap Some (append-nil t.done) in
    rw all t.adds

pub pairs_of-more : (text : List ℕ) (byte : ℕ) → 2 ≤ length text → pair_of (get_or text 0 0) (get_or text 1 0) ≡ Some byte → pairs_of text ≡ followed (Some (run byte 1)) (pairs_of (drop 2 text))
pairs_of-more [] byte h e = absurd (omega arith)
pairs_of-more (a ∷ []) byte h e = absurd (omega arith)
pairs_of-more (a ∷ b ∷ text) byte h e = rw e refl

pub pairs_of-bad : (text : List ℕ) → 2 ≤ length text → pair_of (get_or text 0 0) (get_or text 1 0) ≡ None → pairs_of text ≡ None
pairs_of-bad [] h e = absurd (omega arith)
pairs_of-bad (a ∷ []) h e = absurd (omega arith)
pairs_of-bad (a ∷ b ∷ text) h e = rw e refl

pub pairs_of-odd : (text : List ℕ) → length text ≡ 1 → pairs_of text ≡ None
pairs_of-odd [] h = absurd (omega arith)
pairs_of-odd (a ∷ []) h = refl
pairs_of-odd (a ∷ b ∷ text) h = absurd (omega arith)

pub pairs_of-end : (text : List ℕ) → length text ≡ 0 → pairs_of text ≡ Some []
pairs_of-end [] h = refl
pairs_of-end (a ∷ text) h = absurd (omega arith)

pub items_of-more : (items : List (List ℕ)) (n : ℕ) (item : List ℕ) → (n < length items) × (item ≡ get_or items n item) → items_of (drop n items) ≡ followed (item_of item) (items_of (drop (n + 1) items))
items_of-more items n item h = at_drop_more items_of items n item h.0 ∙ ap (λ i. followed (item_of i) (items_of (drop (n + 1) items))) (sym h.1)

bad_first : (o more : Option (List ByteRun)) → o ≡ None → followed o more ≡ None
bad_first o more e = rw e refl

-- one more item, read or refused
pub Taken-item : (whole : Option (List ByteRun)) (items : List (List ℕ)) (n : ℕ) (item : List ℕ) (a b c : Reading) → Taken whole (items_of (drop n items)) a b → (n < length items) × (item ≡ get_or items n item) → IsSomeAnd (item_of item) (λ runs. Adds runs b c) → Taken whole (items_of (drop (n + 1) items)) a c
Taken-item whole items n item a b c t at p =
    let step = items_of-more items n item at in
    go (item_of item) p step
  where
    go : (o : Option (List ByteRun)) → IsSomeAnd o (λ runs. Adds runs b c) → items_of (drop n items) ≡ followed o (items_of (drop (n + 1) items)) → Taken whole (items_of (drop (n + 1) items)) a c
    go None p step = absurd p
    go (Some runs) p step = Taken-more whole _ _ runs a b c t step p

pub Taken-refused : (whole : Option (List ByteRun)) (items : List (List ℕ)) (n : ℕ) (item : List ℕ) (a b : Reading) → Taken whole (items_of (drop n items)) a b → (n < length items) × (item ≡ get_or items n item) → item_of item ≡ None → whole ≡ None
Taken-refused whole items n item a b t at e = Taken-bad whole _ a b t (items_of-more items n item at ∙ bad_first (item_of item) _ e)

-- what the reading has at its end
pub read_all : (room : ℕ) (whole rest : Option (List ByteRun)) (a b : Reading) → Taken whole rest a b → rest ≡ Some [] → HasRead room [] a.bytes.items a.left → IsSomeAnd whole (λ runs. HasRead room runs b.bytes.items b.left)
read_all room whole rest a b t e start = go whole (Taken-all whole rest a b t e)
  where
    go : (o : Option (List ByteRun)) → IsSomeAnd o (λ runs. Adds runs a b) → IsSomeAnd o (λ runs. HasRead room runs b.bytes.items b.left)
    go None p = absurd p
    go (Some runs) p = p.reads room [] start

pub within-ok : (room : ℕ) (o : Option (List ByteRun)) (bytes : List ℕ) (left : ℕ) → IsSomeAnd o (λ runs. HasRead room runs bytes (Some left)) → within room o ≡ Ok bytes
within-ok room None bytes left h = absurd h
within-ok room (Some runs) bytes left h =
    let k = h.0 in
    let e : nat_le (byte_count runs) room ≡ true = search (rules, tests) in
    rw (e, within) (ap Ok (sym h.1))

pub within-long : (room : ℕ) (o : Option (List ByteRun)) (bytes : List ℕ) → IsSomeAnd o (λ runs. HasRead room runs bytes None) → within room o ≡ Err TooLong
within-long room None bytes h = absurd h
within-long room (Some runs) bytes h =
    let e : nat_le (byte_count runs) room ≡ false = search (rules, tests) in
    rw (e, within) refl

pub items_of-all : (items : List (List ℕ)) (n : ℕ) → n ≡ length items → items_of (drop n items) ≡ Some []
items_of-all items n e = ap items_of (drop_of_length-le items (omega arith))

-- a refusal of the whole, from that of one item
pub refused : (room : ℕ) (whole item : Option (List ByteRun)) (fault : TextFault) → (item ≡ None → whole ≡ None) → Refuses item fault → (fault ≡ Memory) ⊎ (within room whole ≡ Err fault)
refused room whole item Bad bad r = inr (ap (within room) (bad r))
refused room whole item TooLong bad r = absurd r
refused room whole item Memory bad r = inl refl
