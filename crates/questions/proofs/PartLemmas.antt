-- Words between bars.
use Rattle.std.proofs.Common.{◌≡◌, ℕ, ◌+◌, ◌<◌, Bool, true, false, List, [], ◌∷◌, length, Option, Some, None, if◌then◌else◌, Bor, refl, ap, arith}
use Rattle.std.specs.List.{onto_first}
use Rattle.script_text.specs.Script.{words_of}
use Rattle.questions.specs.Parts.{is_bar, parts_of, part_of, after_bar}

-- the parts of what comes after a bar, where there is one
abbrev pub parts_after : Option (List (List ℕ)) → List (List (List ℕ))
parts_after None = []
parts_after (Some words) = parts_of words

-- the first part, and those after it
pub parts_of-first : (words : List (List ℕ)) → parts_of words ≡ part_of words ∷ parts_after (after_bar words)
parts_of-first [] = refl
parts_of-first (word ∷ words) = go (is_bar word) (parts_of-first words)
  where
    go : (b : Bool) → parts_of words ≡ part_of words ∷ parts_after (after_bar words) → (if b then [] ∷ parts_of words else onto_first word (parts_of words))
        ≡ (if b then [] else word ∷ part_of words) ∷ parts_after (if b then Some words else after_bar words)
    go true more = refl
    go false more = ap (onto_first word) more

-- fewer words come after a bar
pub after_bar-shorter : (words rest : List (List ℕ)) → after_bar words ≡ Some rest → length rest < length words
after_bar-shorter [] rest e = absurd (cc)
after_bar-shorter (word ∷ words) rest e = go (is_bar word) (after_bar-shorter words rest) e
  where
    go : (b : Bool) → (after_bar words ≡ Some rest → length rest < length words) → (if b then Some words else after_bar words) ≡ Some rest → length rest < length (word ∷ words)
    go true more e = let same : words ≡ rest = cc in omega (arith, ap length same)
    go false more e = omega (arith, more e)

-- the words that are left
abbrev pub words_left : Option (Bor (List ℕ)) → Option (List (List ℕ))
words_left None = None
words_left (Some text) = Some (words_of text.now)

-- how many they are, and one more
abbrev pub left_count : Option (List (List ℕ)) → ℕ
left_count None = 0
left_count (Some words) = 1 + length words
