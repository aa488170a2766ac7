-- How long the words of a line can be.
use Rattle.std.proofs.Common.{All, ◌≡◌, ℕ, ◌-◌, ◌<◌, ◌≤◌, Bool, true, false, cond, nat_lt, List, [], ◌∷◌, length, take, filter, if◌then◌else◌, refl, subst, arith, rules, tests}
use Rattle.std.specs.List.{slice_split, onto_first}
use Rattle.std.specs.Io.BufRead.{ends_with_byte, strip_last}
use Rattle.std.proofs.lemmas.List.{length-take-le}
use Rattle.std.proofs.lemmas.List.Elements.{All-nil, All-cons, All-head, All-tail}
use Rattle.script_text.specs.Action.{Action}
use Rattle.script_text.specs.Operands.{word_action}
use Rattle.script_text.specs.Parsing.{InBounds}
use Rattle.script_text.specs.Script.{is_blank, words_of}
use Rattle.script_text.proofs.OperandLemmas.{Keeps}

-- it has a byte or more, and no more than a line has
abbrev pub IsWord : List ℕ → Type 0
IsWord word = (0 < length word) × (length word ≤ 65536)

-- it has no more bytes than that
abbrev IsWithin : ℕ → List ℕ → Type 0
IsWithin most word = length word ≤ most

parts-within : (p : ℕ → Bool) (text : List ℕ) → All (IsWithin (length text)) (slice_split p text)
parts-within p [] = All-cons (IsWithin 0) [] [] (omega arith) (All-nil (IsWithin 0))
parts-within p (c ∷ cs) = go (p c) (slice_split p cs) (parts-within p cs)
  where
    wider : (parts : List (List ℕ)) → All (IsWithin (length cs)) parts → All (IsWithin (length (c ∷ cs))) parts
    wider parts within k d inside = omega (arith, within k d inside)

    go : (b : Bool) (parts : List (List ℕ)) → All (IsWithin (length cs)) parts → All (IsWithin (length (c ∷ cs))) (cond b ([] ∷ parts) (onto_first c parts))
    go true parts within = All-cons (IsWithin (length (c ∷ cs))) [] parts (omega arith) (wider parts within)
    go false [] within = All-cons (IsWithin (length (c ∷ cs))) (c ∷ []) [] (omega arith) (All-nil (IsWithin (length (c ∷ cs))))
    go false (part ∷ parts) within =
        All-cons (IsWithin (length (c ∷ cs))) (c ∷ part) parts (omega (arith, All-head (IsWithin (length cs)) part parts within)) (wider parts (All-tail (IsWithin (length cs)) part parts within))

full-words : (parts : List (List ℕ)) → All (IsWithin 65536) parts → All IsWord (filter (λ word. nat_lt 0 (length word)) parts)
full-words [] within = All-nil IsWord
full-words (part ∷ parts) within =
    go (nat_lt 0 (length part)) refl (All-head (IsWithin 65536) part parts within) (filter (λ word. nat_lt 0 (length word)) parts) (full-words parts (All-tail (IsWithin 65536) part parts within))
  where
    go : (b : Bool) → nat_lt 0 (length part) ≡ b → length part ≤ 65536 → (others : List (List ℕ)) → All IsWord others → All IsWord (cond b (part ∷ others) others)
    go true t most others each =
        let some : 0 < length part = search (rules, tests) in
        All-cons IsWord part others (some, most) each
    go false t most others each = each

-- the words of a text that is no longer than a line
pub words_of-bounds : (text : List ℕ) → length text ≤ 65536 → All IsWord (words_of text)
unfolding words_of
words_of-bounds text most = full-words (slice_split is_blank text) (λ k d inside. omega (arith, most, parts-within is_blank text k d inside))

-- a line is no longer without its last byte
pub length-strip_last : (byte : ℕ) (line : List ℕ) → length (strip_last byte line) ≤ length line
length-strip_last byte line = go (ends_with_byte byte line)
  where
    go : (b : Bool) → length (if b then take (length line - 1) line else line) ≤ length line
    go true = omega (arith, length-take-le (length line - 1) line (omega arith))
    go false = omega arith

-- one word of any bytes
pub word_action-bounds : (make : List ℕ → Action) → ((word : List ℕ) → 0 < length word → length word ≤ 65536 → InBounds (make word)) → (words : List (List ℕ)) → All IsWord words → Keeps (word_action make words)
word_action-bounds make small [] each action e = absurd (cc)
word_action-bounds make small (x ∷ []) each action e =
    let same : make x ≡ action = cc in
    let bound = All-head IsWord x [] each in
    subst InBounds same (small x bound.0 bound.1)
word_action-bounds make small (x ∷ y ∷ more) each action e = absurd (cc)
