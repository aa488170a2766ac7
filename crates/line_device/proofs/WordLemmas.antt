-- Words and their eight bytes.
use Rattle.std.proofs.Common.{◌≡◌, ◌⊎◌, inl, inr, ℕ, zero, suc, true, false, ◌+◌, ◌-◌, ◌*◌, ◌/◌, ◌%◌, ◌^◌, ◌<◌, ◌≤◌, List, [], ◌∷◌, length, take, drop, get_or, refl, sym, ◌∙◌, ap, arith}
use Rattle.std.proofs.lemmas.Bool.{cases_lt}
use Rattle.std.proofs.lemmas.Bool.Decides.{nat_tests}
use Rattle.std.proofs.lemmas.List.{get_or-drop, get_or-take}
use Rattle.std.proofs.lemmas.Nat.{le_bytes_8, from_le_bytes-to_le_bytes_8}
use Rattle.std.specs.Int.{w64, to_le_bytes, from_le_bytes, sum_through, byte_worth, byte_at}
use Rattle.byteorder.specs.Endian.{little_number}
use Rattle.line_device.specs.Word.{word_from, word_at, byte_over, word_over, reaches, IsPut}

-- what holds of each of eight holds of all
pub below_eight : (P : ℕ → Type 0) → P 0 → P 1 → P 2 → P 3 → P 4 → P 5 → P 6 → P 7 → (k : ℕ) → k < 8 → P k
below_eight P a b c d e f g h zero _ = a
below_eight P a b c d e f g h (suc zero) _ = b
below_eight P a b c d e f g h (suc (suc zero)) _ = c
below_eight P a b c d e f g h (suc (suc (suc zero))) _ = d
below_eight P a b c d e f g h (suc (suc (suc (suc zero)))) _ = e
below_eight P a b c d e f g h (suc (suc (suc (suc (suc zero))))) _ = f
below_eight P a b c d e f g h (suc (suc (suc (suc (suc (suc zero)))))) _ = g
below_eight P a b c d e f g h (suc (suc (suc (suc (suc (suc (suc zero))))))) _ = h
below_eight P a b c d e f g h (suc (suc (suc (suc (suc (suc (suc (suc k)))))))) below = absurd (omega arith)

sum_through-cong : (f g : ℕ → ℕ) (k : ℕ) → ((i : ℕ) → i ≤ k → f i ≡ g i) → sum_through f k ≡ sum_through g k
sum_through-cong f g zero same = same 0 (omega arith)
sum_through-cong f g (suc k) same =
    let front = sum_through-cong f g k (λ i h. same i (omega arith)) in
    let last = same (suc k) (omega arith) in
    ap (λ s. s + f (suc k)) front ∙ ap (λ s. sum_through g k + s) last

-- a word goes by its eight bytes
pub word_from-cong : (f g : ℕ → ℕ) → ((k : ℕ) → k < 8 → f k ≡ g k) → word_from f ≡ word_from g
unfolding word_from
word_from-cong f g same = sum_through-cong (λ k. byte_worth k (f k)) (λ k. byte_worth k (g k)) 7 (λ k h. ap (byte_worth k) (same k (omega arith)))

pub word_at-cong : (a b : List ℕ) (v w : ℕ) → ((k : ℕ) → k < 8 → get_or a (8 * v + k) 0 ≡ get_or b (8 * w + k) 0) → word_at a v ≡ word_at b w
word_at-cong a b v w same = word_from-cong (λ k. get_or a (8 * v + k) 0) (λ k. get_or b (8 * w + k) 0) same

eight : (ℕ → ℕ) → List ℕ
eight f = f 0 ∷ f 1 ∷ f 2 ∷ f 3 ∷ f 4 ∷ f 5 ∷ f 6 ∷ f 7 ∷ []

eight-below : (f : ℕ → ℕ) → ((k : ℕ) → k < 8 → f k < 256) → (i : ℕ) → get_or (eight f) i 0 < 256
unfolding eight
eight-below f small zero = small 0 (omega arith)
eight-below f small (suc zero) = small 1 (omega arith)
eight-below f small (suc (suc zero)) = small 2 (omega arith)
eight-below f small (suc (suc (suc zero))) = small 3 (omega arith)
eight-below f small (suc (suc (suc (suc zero)))) = small 4 (omega arith)
eight-below f small (suc (suc (suc (suc (suc zero))))) = small 5 (omega arith)
eight-below f small (suc (suc (suc (suc (suc (suc zero)))))) = small 6 (omega arith)
eight-below f small (suc (suc (suc (suc (suc (suc (suc zero))))))) = small 7 (omega arith)
eight-below f small (suc (suc (suc (suc (suc (suc (suc (suc i)))))))) = omega arith

-- byte k of the word that bytes spell is byte k
pub byte_at-word_from : (f : ℕ → ℕ) (k : ℕ) → ((i : ℕ) → i < 8 → f i < 256) → k < 8 → byte_at k (word_from f) ≡ f k
unfolding word_from eight
byte_at-word_from f k small below =
    let bytes : to_le_bytes w64 (word_from f) ≡ eight f = le_bytes_8 (eight f) (word_from f) refl (eight-below f small) refl in
    below_eight (λ i. byte_at i (word_from f) ≡ f i)
    (ap (λ l. get_or l 0 0) bytes)
    (ap (λ l. get_or l 1 0) bytes)
    (ap (λ l. get_or l 2 0) bytes)
    (ap (λ l. get_or l 3 0) bytes)
    (ap (λ l. get_or l 4 0) bytes)
    (ap (λ l. get_or l 5 0) bytes)
    (ap (λ l. get_or l 6 0) bytes)
    (ap (λ l. get_or l 7 0) bytes)
    k
    below

-- the word that a number's eight bytes spell is that number
pub word_from-byte_at : (n : ℕ) → n < 2 ^ 64 → word_from (λ k. byte_at k n) ≡ n
unfolding word_from
word_from-byte_at n small = from_le_bytes-to_le_bytes_8 n small

-- the two readings of eight bytes
pub word_at-from_le_bytes : (bytes : List ℕ) → word_at bytes 0 ≡ from_le_bytes w64 bytes
unfolding word_from
word_at-from_le_bytes bytes = refl

-- a word is the number that its bytes spell from its offset on
pub word_spelled : (bytes : List ℕ) (w : ℕ) → little_number 8 (drop (8 * w) bytes) ≡ word_at bytes w
unfolding word_from
word_spelled bytes w =
    let at = λ (k : ℕ). get_or-drop (8 * w) bytes k 0 in
    omega (arith, at 0, at 1, at 2, at 3, at 4, at 5, at 6, at 7)

-- and so where what is read ends later
pub word_spelled-part : (bytes : List ℕ) (w n : ℕ) → 8 ≤ n → little_number 8 (take n (drop (8 * w) bytes)) ≡ word_at bytes w
word_spelled-part bytes w n enough =
    let at = λ (k : ℕ) (h : k < n). get_or-take n (drop (8 * w) bytes) k 0 h in
    omega (arith, word_spelled bytes w, at 0 (omega arith), at 1 (omega arith), at 2 (omega arith), at 3 (omega arith), at 4 (omega arith), at 5 (omega arith), at 6 (omega arith), at 7 (omega arith))

pub byte_over-in : (at i old : ℕ) (bytes : List ℕ) → at ≤ i → i < at + length bytes → byte_over at bytes i old ≡ get_or bytes (i - at) 0
unfolding byte_over
byte_over-in at i old bytes from to = grind (arith, nat_tests)

pub byte_over-out : (at i old : ℕ) (bytes : List ℕ) → (i < at) ⊎ (at + length bytes ≤ i) → byte_over at bytes i old ≡ old
unfolding byte_over
byte_over-out at i old bytes out = grind (arith, nat_tests)

-- bytes put over those that spell a word, and over the word
pub word_at-over : (at w : ℕ) (bytes old new : List ℕ) → ((k : ℕ) → k < 8 → get_or old (8 * w + k) 0 < 256) → ((k : ℕ) → k < 8 → get_or new (8 * w + k) 0 ≡ byte_over at bytes (8 * w + k) (get_or old (8 * w + k) 0)) → word_at new w ≡ word_over at bytes w (word_at old w)
unfolding word_over
word_at-over at w bytes old new small over =
    word_from-cong (λ k. get_or new (8 * w + k) 0) (λ k. byte_over at bytes (8 * w + k) (byte_at k (word_at old w)))
    (λ k h. over k h ∙ ap (λ b. byte_over at bytes (8 * w + k) b) (sym (byte_at-word_from (λ i. get_or old (8 * w + i) 0) k small h)))

-- the same bytes put further on
pub byte_over-shift : (s at i old : ℕ) (bytes : List ℕ) → byte_over (at + s) bytes (i + s) old ≡ byte_over at bytes i old
byte_over-shift s at i old bytes =
    elim (cases_lt i at) as (λ _. byte_over (at + s) bytes (i + s) old ≡ byte_over at bytes i old) [
      | inl before ↦ byte_over-out (at + s) (i + s) old bytes (inl (omega arith)) ∙ sym (byte_over-out at i old bytes (inl before))
      | inr from ↦
          elim (cases_lt i (at + length bytes)) as (λ _. byte_over (at + s) bytes (i + s) old ≡ byte_over at bytes i old) [
            | inl to ↦
                let place : (i + s) - (at + s) ≡ i - at = omega arith in
                byte_over-in (at + s) (i + s) old bytes (omega arith) (omega arith) ∙ ap (λ k. get_or bytes k 0) place ∙ sym (byte_over-in at i old bytes from to)
            | inr past ↦ byte_over-out (at + s) (i + s) old bytes (inr (omega arith)) ∙ sym (byte_over-out at i old bytes (inr past))
          ]
    ]

-- a word of a later line, seen from that line
pub word_over-line : (j at w old : ℕ) (bytes : List ℕ) → word_over (at + 64 * j) bytes (w + 8 * j) old ≡ word_over at bytes w old
unfolding word_over
word_over-line j at w old bytes =
    word_from-cong (λ k. byte_over (at + 64 * j) bytes (8 * (w + 8 * j) + k) (byte_at k old)) (λ k. byte_over at bytes (8 * w + k) (byte_at k old))
    (λ k h.
    let place : 8 * (w + 8 * j) + k ≡ (8 * w + k) + 64 * j = omega arith in
    ap (λ i. byte_over (at + 64 * j) bytes i (byte_at k old)) place ∙ byte_over-shift (64 * j) at (8 * w + k) (byte_at k old) bytes)

-- A piece of the bytes, from byte m on, does at a byte what all of them do, if it reaches as far there.
pub byte_over-piece : (at m i old : ℕ) (bytes piece : List ℕ) → ((k : ℕ) → k < length piece → get_or piece k 0 ≡ get_or bytes (m + k) 0) → m + length piece ≤ length bytes → (m ≡ 0) ⊎ (at + m ≤ i) → (m + length piece ≡ length bytes) ⊎ (i < at + m + length piece) → byte_over (at + m) piece i old ≡ byte_over at bytes i old
byte_over-piece at m i old bytes piece same within front back =
    elim (cases_lt i (at + m)) as (λ _. byte_over (at + m) piece i old ≡ byte_over at bytes i old) [
      | inl before ↦ byte_over-out (at + m) i old piece (inl before) ∙ sym (byte_over-out at i old bytes (inl (elim front as (λ _. i < at) [ inl is ↦ omega arith | inr no_room ↦ absurd (omega arith) ])))
      | inr from ↦
          elim (cases_lt i (at + m + length piece)) as (λ _. byte_over (at + m) piece i old ≡ byte_over at bytes i old) [
            | inl to ↦
                let place : m + (i - (at + m)) ≡ i - at = omega arith in
                byte_over-in (at + m) i old piece from to
                ∙ same (i - (at + m)) (omega arith)
                ∙ ap (λ k. get_or bytes k 0) place
                ∙ sym (byte_over-in at i old bytes (omega arith) (omega arith))
            | inr past ↦ byte_over-out (at + m) i old piece (inr past) ∙ sym (byte_over-out at i old bytes (inr (elim back as (λ _. at + length bytes ≤ i) [ inl is ↦ omega arith | inr no_room ↦ absurd (omega arith) ])))
          ]
    ]

pub word_over-piece : (at m w old : ℕ) (bytes piece : List ℕ) → ((k : ℕ) → k < length piece → get_or piece k 0 ≡ get_or bytes (m + k) 0) → m + length piece ≤ length bytes → (m ≡ 0) ⊎ (at + m ≤ 8 * w) → (m + length piece ≡ length bytes) ⊎ (8 * w + 8 ≤ at + m + length piece) → word_over (at + m) piece w old ≡ word_over at bytes w old
unfolding word_over
word_over-piece at m w old bytes piece same within front back =
    word_from-cong (λ k. byte_over (at + m) piece (8 * w + k) (byte_at k old)) (λ k. byte_over at bytes (8 * w + k) (byte_at k old))
    (λ k h. byte_over-piece at m (8 * w + k) (byte_at k old) bytes piece same within
    (elim front as (λ _. (m ≡ 0) ⊎ (at + m ≤ 8 * w + k)) [ inl is ↦ inl is | inr far ↦ inr (omega arith) ])
    (elim back as (λ _. (m + length piece ≡ length bytes) ⊎ (8 * w + k < at + m + length piece)) [ inl is ↦ inl is | inr far ↦ inr (omega arith) ]))

-- bytes that don't reach a word leave it
pub word_over-out : (at w old : ℕ) (bytes : List ℕ) → old < 2 ^ 64 → (8 * w + 8 ≤ at) ⊎ (at + length bytes ≤ 8 * w) → word_over at bytes w old ≡ old
unfolding word_over
word_over-out at w old bytes small out =
    word_from-cong (λ k. byte_over at bytes (8 * w + k) (byte_at k old)) (λ k. byte_at k old)
    (λ k h. byte_over-out at (8 * w + k) (byte_at k old) bytes (elim out as (λ _. (8 * w + k < at) ⊎ (at + length bytes ≤ 8 * w + k)) [ inl far ↦ inl (omega arith) | inr far ↦ inr (omega arith) ]))
    ∙ word_from-byte_at old small

pub reaches-in : (at len w : ℕ) → at < 8 * w + 8 → 8 * w < at + len → reaches at len w ≡ true
unfolding reaches
reaches-in at len w from to = grind (arith, nat_tests)

pub reaches-out : (at len w : ℕ) → (8 * w + 8 ≤ at) ⊎ (at + len ≤ 8 * w) → reaches at len w ≡ false
unfolding reaches
reaches-out at len w out = grind (arith, nat_tests)

pub reaches-false : (at len w : ℕ) → reaches at len w ≡ false → (8 * w + 8 ≤ at) ⊎ (at + len ≤ 8 * w)
unfolding reaches
reaches-false at len w out =
    elim (cases_lt at (8 * w + 8)) as (λ _. (8 * w + 8 ≤ at) ⊎ (at + len ≤ 8 * w)) [
      | inl from ↦
          elim (cases_lt (8 * w) (at + len)) as (λ _. (8 * w + 8 ≤ at) ⊎ (at + len ≤ 8 * w)) [
            | inl to ↦ absurd (true_is_not_false (sym (reaches-in at len w from to) ∙ out))
            | inr past ↦ inr past
          ]
      | inr before ↦ inl before
    ]
  where
    true_is_not_false : true ≡ false → ⊥
    true_is_not_false h = cc

length-word : (v : ℕ) → length (to_le_bytes w64 v) ≡ 8
length-word v = refl

-- byte k of the eight bytes of a number
pub to_le_bytes-at : (v k : ℕ) → k < 8 → get_or (to_le_bytes w64 v) k 0 ≡ byte_at k v
to_le_bytes-at v k below = below_eight (λ i. get_or (to_le_bytes w64 v) i 0 ≡ byte_at i v) refl refl refl refl refl refl refl refl k below

-- a word stored whole
pub word_over-word : (w v old : ℕ) → v < 2 ^ 64 → word_over (8 * w) (to_le_bytes w64 v) w old ≡ v
unfolding word_over
word_over-word w v old small =
    word_from-cong (λ k. byte_over (8 * w) (to_le_bytes w64 v) (8 * w + k) (byte_at k old)) (λ k. byte_at k v)
    (λ k h.
    let place : (8 * w + k) - 8 * w ≡ k = omega arith in
    byte_over-in (8 * w) (8 * w + k) (byte_at k old) (to_le_bytes w64 v) (omega arith) (omega (arith, length-word v))
    ∙ ap (λ i. get_or (to_le_bytes w64 v) i 0) place
    ∙ to_le_bytes-at v k h)
    ∙ word_from-byte_at v small

pub reaches-word : (w : ℕ) → reaches (8 * w) 8 w ≡ true
reaches-word w = reaches-in (8 * w) 8 w (omega arith) (omega arith)

pub reaches-other_word : (w v : ℕ) → (w ≡ v → ⊥) → reaches (8 * w) 8 v ≡ false
reaches-other_word w v other =
    elim (cases_lt w v) as (λ _. reaches (8 * w) 8 v ≡ false) [ inl less ↦ reaches-out (8 * w) 8 v (inr (omega arith)) | inr not_less ↦ reaches-out (8 * w) 8 v (inl (omega arith)) ]

-- a word that lies wholly under the bytes
pub word_over-whole : (at w old : ℕ) (bytes : List ℕ) → at ≤ 8 * w → 8 * w + 8 ≤ at + length bytes → word_over at bytes w old ≡ word_from (λ k. get_or bytes (8 * w + k - at) 0)
unfolding word_over
word_over-whole at w old bytes from to =
    word_from-cong (λ k. byte_over at bytes (8 * w + k) (byte_at k old)) (λ k. get_or bytes (8 * w + k - at) 0)
    (λ k h. byte_over-in at (8 * w + k) (byte_at k old) bytes (omega arith) (omega arith))

-- bytes that are put into a line: the words of the other lines
pub word_at-put_out : (line at p : ℕ) (bytes old new : List ℕ) → at + length bytes ≤ 64 → IsPut (64 * line + at) bytes old new → (p / 8 ≡ line → ⊥) → word_at new p ≡ word_at old p
word_at-put_out line at p bytes old new fits put out =
    word_at-cong new old p p
    (λ k h.
    put (8 * p + k)
    ∙ byte_over-out (64 * line + at) (8 * p + k) (get_or old (8 * p + k) 0) bytes
    (elim (cases_lt (p / 8) line) as (λ _. (8 * p + k < 64 * line + at) ⊎ (64 * line + at + length bytes ≤ 8 * p + k)) [ inl before ↦ inl (omega arith) | inr not_before ↦ inr (omega arith) ]))

-- and the words of that line
pub word_at-put_in : (line at p : ℕ) (bytes old new : List ℕ) → ((k : ℕ) → get_or old k 0 < 256) → IsPut (64 * line + at) bytes old new → p / 8 ≡ line → word_at new p ≡ word_over at bytes (p % 8) (word_at old p)
word_at-put_in line at p bytes old new small put on =
    let place : p ≡ p % 8 + 8 * line = omega arith in
    let first : 64 * line + at ≡ at + 64 * line = omega arith in
    word_at-over (64 * line + at) p bytes old new (λ k h. small (8 * p + k)) (λ k h. put (8 * p + k))
    ∙ ap (λ a. word_over a bytes p (word_at old p)) first
    ∙ ap (λ q. word_over (at + 64 * line) bytes q (word_at old p)) place
    ∙ word_over-line line at (p % 8) (word_at old p) bytes

-- a word of that line that the bytes don't reach
pub word_at-put_past : (line at p : ℕ) (bytes old new : List ℕ) → IsPut (64 * line + at) bytes old new → p / 8 ≡ line → reaches at (length bytes) (p % 8) ≡ false → word_at new p ≡ word_at old p
word_at-put_past line at p bytes old new put on past =
    let out = reaches-false at (length bytes) (p % 8) past in
    word_at-cong new old p p
    (λ k h.
    put (8 * p + k)
    ∙ byte_over-out (64 * line + at) (8 * p + k) (get_or old (8 * p + k) 0) bytes
    (elim out as (λ _. (8 * p + k < 64 * line + at) ⊎ (64 * line + at + length bytes ≤ 8 * p + k)) [ inl before ↦ inl (omega arith) | inr after ↦ inr (omega arith) ]))

-- the words of a line that is put whole
pub word_at-put_line : (line p : ℕ) (bytes old new : List ℕ) → length bytes ≡ 64 → IsPut (64 * line) bytes old new → p / 8 ≡ line → word_at new p ≡ word_at bytes (p % 8)
word_at-put_line line p bytes old new whole put on =
    word_at-cong new bytes p (p % 8)
    (λ k h.
    let place : 8 * p + k - 64 * line ≡ 8 * (p % 8) + k = omega arith in
    put (8 * p + k)
    ∙ byte_over-in (64 * line) (8 * p + k) (get_or old (8 * p + k) 0) bytes (omega arith) (omega arith)
    ∙ ap (λ i. get_or bytes i 0) place)
