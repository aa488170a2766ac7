-- The first line of a text.
use Rattle.std.proofs.Common.{◌≡◌, ℕ, ◌+◌, ◌-◌, ◌<◌, List, [], ◌∷◌, length, take, drop, refl, ap, ◌∙◌, length-drop, arith}
use Rattle.std.proofs.Math.Seq.{take-length, drop-length}
use Rattle.memchr.specs.Find.{NoneBefore, Nowhere, Passes, is_byte}
use Rattle.script_text.specs.Script.{lines_of}
use Rattle.script_text.proofs.StreamLemmas.{from_nowhere, lines_of-ended, lines_of-unended, split-at, unbroken-take}

pub lines_of-nil : (text : List ℕ) → length text ≡ 0 → lines_of text ≡ []
unfolding lines_of
lines_of-nil [] none = refl
lines_of-nil (c ∷ cs) none = absurd (omega arith)

-- it ends at the first newline
pub lines_of-cut : (text : List ℕ) (n : ℕ) → NoneBefore (Passes (is_byte 10) text) 0 (length text) n → Passes (is_byte 10) text n
    → lines_of text ≡ take n text ∷ lines_of (drop (n + 1) text)
lines_of-cut text n before here =
    ap lines_of (split-at text n before.high here) ∙ lines_of-ended (take n text) (drop (n + 1) text) (unbroken-take text n (omega (arith, before.high)) before.before)

-- or with the text
pub lines_of-whole : (text : List ℕ) → 0 < length text → Nowhere (Passes (is_byte 10) text) 0 (length text) → lines_of text ≡ text ∷ []
lines_of-whole text some none = lines_of-unended text (from_nowhere text none) some

pub take-rest : (text : List ℕ) (n : ℕ) → take (length text - n) (drop n text) ≡ drop n text
take-rest text n = rw (← length-drop n text) (take-length (drop n text))

-- the whole text, and nothing behind it
pub lines_of-all : (text whole none : List ℕ) → 0 < length text → Nowhere (Passes (is_byte 10) text) 0 (length text)
    → whole ≡ take (length text) text → none ≡ drop (length text) text → (lines_of text ≡ whole ∷ lines_of none) × (length none < length text)
unfolding lines_of
lines_of-all text whole none some nowhere front back =
    let first : whole ≡ text = front ∙ take-length text in
    let rest : none ≡ [] = back ∙ drop-length text in
    rw (first, rest) (lines_of-whole text some nowhere, some)
