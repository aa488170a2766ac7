-- The piece of some bytes that falls on one line.
use Rattle.std.proofs.Common.{◌≡◌, ◌⊎◌, inl, inr, ℕ, ◌+◌, ◌-◌, ◌*◌, ◌/◌, ◌%◌, ◌<◌, ◌≤◌, min, max, Bool, true, false, cond, ltb, List, [], ◌∷◌, ◌++◌, length, length-take, length-drop, take, drop, get_or, refl, sym, ap, ◌∙◌, arith}
use Rattle.std.proofs.lemmas.Bool.Decides.{nat_tests}
use Rattle.std.proofs.lemmas.Bool.{cases_lt, and_parts, ltb-true}
use Rattle.std.proofs.lemmas.List.{get_or-take, get_or-drop}
use Rattle.line_device.specs.Word.{word_over, reaches}
use Rattle.line_device.specs.History.{newest}
use Rattle.line_device.specs.Medium.{word_stored}
use Rattle.nvm_model.specs.Cell.{touches}
use Rattle.line_device.proofs.WordLemmas.{word_over-line, word_over-piece, reaches-out}

ltb-same : (a b c d : ℕ) → (a < b → c < d) → (c < d → a < b) → ltb a b ≡ ltb c d
ltb-same a b c d there back = by_tests (ltb a b) (ltb c d) refl refl
  where
    by_tests : (x y : Bool) → ltb a b ≡ x → ltb c d ≡ y → x ≡ y
    by_tests true true e f = refl
    by_tests false false e f = refl
    by_tests true false e f = let lt : a < b = grind (arith, nat_tests) in let other : c < d = there lt in absurd (grind (arith, nat_tests))
    by_tests false true e f = let lt : c < d = grind (arith, nat_tests) in let other : a < b = back lt in absurd (grind (arith, nat_tests))

-- bytes that don't reach a word leave its values
pub word_stored-out : (at p : ℕ) (bytes h : List ℕ) → (8 * p + 8 ≤ at) ⊎ (at + length bytes ≤ 8 * p) → word_stored at bytes p h ≡ h
word_stored-out at p bytes h out = rw (reaches-out at (length bytes) p out) refl

-- The piece of some bytes that lies in a line reaches the words there that all of them reach.
reaches-piece : (at m p line len part : ℕ) → m + part ≤ len → p / 8 ≡ line → (at + m) / 64 ≡ line → (m ≡ 0) ⊎ (at + m ≡ 64 * line)
    → (m + part ≡ len) ⊎ (at + m + part ≡ 64 * line + 64) → at + m + part ≤ 64 * line + 64
    → reaches ((at + m) % 64) part (p % 8) ≡ reaches at len p
unfolding reaches
reaches-piece at m p line len part fits in_line from front back inside =
    let e : ltb ((at + m) % 64) (8 * (p % 8) + 8) ≡ ltb at (8 * p + 8) = ltb-same _ _ _ _ (λ lt. omega arith) (λ lt. omega arith) in
    let f : ltb (8 * (p % 8)) ((at + m) % 64 + part) ≡ ltb (8 * p) (at + len) = ltb-same _ _ _ _ (λ lt. omega arith) (λ lt. omega arith) in
    rw (e, f) refl

-- The piece of the bytes that lies in a line does there what all of them do.
pub word_stored-piece : (at m p line : ℕ) (bytes piece h : List ℕ) → ((k : ℕ) → k < length piece → get_or piece k 0 ≡ get_or bytes (m + k) 0)
    → m + length piece ≤ length bytes → p / 8 ≡ line → (at + m) / 64 ≡ line → (m ≡ 0) ⊎ (at + m ≡ 64 * line)
    → (m + length piece ≡ length bytes) ⊎ (at + m + length piece ≡ 64 * line + 64) → at + m + length piece ≤ 64 * line + 64
    → word_stored ((at + m) % 64) piece (p % 8) h ≡ word_stored at bytes p h
word_stored-piece at m p line bytes piece h same fits in_line from front back inside =
    ap (λ b. cond b (h ++ word_over ((at + m) % 64) piece (p % 8) (newest h) ∷ []) h) reach
    ∙ ap (λ v. cond (reaches at (length bytes) p) (h ++ v ∷ []) h) word
  where
    reach : reaches ((at + m) % 64) (length piece) (p % 8) ≡ reaches at (length bytes) p
    reach = reaches-piece at m p line (length bytes) (length piece) fits in_line from front back inside

    place : p ≡ p % 8 + 8 * line
    place = omega arith

    start : at + m ≡ (at + m) % 64 + 64 * line
    start = omega arith

    word : word_over ((at + m) % 64) piece (p % 8) (newest h) ≡ word_over at bytes p (newest h)
    word =
        let far : (m ≡ 0) ⊎ (at + m ≤ 8 * p) = elim front [ inl z ↦ inl z | inr e ↦ inr (omega arith) ] in
        let near : (m + length piece ≡ length bytes) ⊎ (8 * p + 8 ≤ at + m + length piece) = elim back [ inl z ↦ inl z | inr e ↦ inr (omega arith) ] in
        sym (word_over-line line ((at + m) % 64) (p % 8) (newest h) piece)
        ∙ ap (λ a. word_over a piece (p % 8 + 8 * line) (newest h)) (sym start)
        ∙ ap (λ w. word_over (at + m) piece w (newest h)) (sym place)
        ∙ word_over-piece at m p (newest h) bytes piece same fits far near

-- an item of a stretch of bytes
pub get_or-stretch : (from len k : ℕ) (bytes : List ℕ) → k < length (take len (drop from bytes)) → get_or (take len (drop from bytes)) k 0 ≡ get_or bytes (from + k) 0
get_or-stretch from len k bytes lt = get_or-take len (drop from bytes) k 0 (omega (arith, length-take {A = ℕ})) ∙ get_or-drop from bytes k 0

-- what is done to a word of line n where the piece that falls on it is stored at a line
pub word_stored-part : (at n w start : ℕ) (bytes piece h : List ℕ) → w < 8 → start ≡ max at (64 * n)
    → start + length piece ≡ min (at + length bytes) (64 * n + 64) → 64 * n < at + length bytes → at < 64 * n + 64
    → ((k : ℕ) → k < length piece → get_or piece k 0 ≡ get_or bytes (start - at + k) 0)
    → word_stored (start % 64) piece w h ≡ word_stored at bytes (8 * n + w) h
word_stored-part at n w start bytes piece h small from to high low same =
    ap (λ v. word_stored (start % 64) piece v h) (sym word)
    ∙ ap (λ x. word_stored (x % 64) piece ((8 * n + w) % 8) h) (sym back_at)
    ∙ word_stored-piece at (start - at) (8 * n + w) n bytes piece h same (omega arith) (omega arith) (omega arith) front back (omega arith)
  where
    word : (8 * n + w) % 8 ≡ w
    word = omega arith

    back_at : at + (start - at) ≡ start
    back_at = omega arith

    front : (start - at ≡ 0) ⊎ (at + (start - at) ≡ 64 * n)
    front = elim (cases_lt at (64 * n)) [ inl later ↦ inr (omega arith) | inr first ↦ inl (omega arith) ]

    back : (start - at + length piece ≡ length bytes) ⊎ (at + (start - at) + length piece ≡ 64 * n + 64)
    back = elim (cases_lt (64 * n + 64) (at + length bytes)) [ inl more ↦ inr (omega arith) | inr last ↦ inl (omega arith) ]

-- the piece reaches from its first byte to its last, and has some
pub piece_size : (at n start end : ℕ) (bytes : List ℕ) → 1 ≤ length bytes → start ≡ max at (64 * n) → end ≡ min (at + length bytes) (64 * n + 64) → touches at (length bytes) n ≡ true
    → (start + length (take (start - at + (end - start) - (start - at)) (drop (start - at) bytes)) ≡ end) × (start < end)
piece_size at n start end bytes some from to touched =
    let parts = and_parts _ _ touched in
    let low = ltb-true at (64 * n + 64) parts.0 in
    let high = ltb-true (64 * n) (at + length bytes) parts.1 in
    let skipped = length-drop (start - at) bytes in
    (omega (arith, length-take {A = ℕ}, skipped, from, to, low, high), omega (arith, some, from, to, low, high))
