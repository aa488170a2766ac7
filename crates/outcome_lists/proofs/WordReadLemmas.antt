-- Reads of one word each, and what they tell of a line.
use Rattle.std.proofs.Common.{◌≡◌, inl, inr, ℕ, ◌+◌, ◌-◌, ◌*◌, ◌/◌, ◌%◌, ◌<◌, ◌≤◌, ◌==◌, ◌&&◌, ◌||◌, nat_le, nat_lt, Bool, true, false, not, Some, List, [], ◌∷◌, length, refl, sym, ap, subst, ◌∙◌, arith}
use Rattle.std.specs.Prelude.{slice_index, slice_index_or}
use Rattle.std.specs.Int.{byte_at}
use Rattle.std.specs.List.{list_all, list_any, range_with_len}
use Rattle.std.proofs.lemmas.Bool.{and_from, eqb-false, eqb-true, leb-true, ltb-true, ne_eqb}
use Rattle.std.proofs.lemmas.List.Folds.{list_all-append}
use Rattle.nvm_model.specs.Cell.{Cell, touches}
use Rattle.nvm_model.specs.Cell.Cell.{Bad, Kept}
use Rattle.nvm_model.specs.Numbered.{is_among}
use Rattle.explorer.specs.Outcomes.Pages.{PageRead, PageReply, agrees, all_agree, all_allow_good, all_lines_read, allows_bad, allows_good, line_fits, lines_read, words_fit}
use Rattle.explorer.specs.Outcomes.Pages.PageReply.{Shows, Poison, Refuses}
use Rattle.explorer.proofs.CutPlaces.AllLemmas.{same_test}
use Rattle.explorer.specs.ValueTables.Listed.{HasWords}
use Rattle.explorer.proofs.ValueTables.HistoryLemmas.{word_has}
use Rattle.explorer.proofs.Witnesses.ListLemmas.{IsAmong, all_from, all_of, range_all, range_each}
use Rattle.outcome_lists.specs.ApartFiles.{IsOfOneWord, NamesItsLine}
use Rattle.outcome_lists.proofs.ApartBlocksLemmas.{all_same, and_true}
use Rattle.outcome_lists.proofs.ApartLemmas.{all_both, any_same, some_value}

-- one of some items passes, or none does
pub by_any : {A : Type 0} (f : A → Bool) (xs : List A) (b : Bool) → ((x : A) → IsAmong x xs → f x ≡ true → b ≡ true) → (((x : A) → IsAmong x xs → f x ≡ false) → b ≡ true) → b ≡ true
by_any f [] b one none = none (λ x is. absurd is)
by_any {A = A} f (x ∷ xs) b one none = by_first (f x) refl (by_any f xs b (λ y is. one y (inr is)))
  where
    by_place : f x ≡ false → ((y : A) → IsAmong y xs → f y ≡ false) → (y : A) → IsAmong y (x ∷ xs) → f y ≡ false
    by_place out later y (inl same) = ap f same ∙ out
    by_place out later y (inr among) = later y among

    by_first : (t : Bool) → f x ≡ t → ((((y : A) → IsAmong y xs → f y ≡ false) → b ≡ true) → b ≡ true) → b ≡ true
    by_first true is rest = one x (inl refl) is
    by_first false is rest = rest (λ later. none (by_place is later))

-- a read of one word asks nothing of other words and of other lines
module _ (start len : ℕ) (aligned : start % 8 ≡ 0) (eight : len ≡ 8) where
  -- no other line is touched
  untouched : (n : ℕ) → (n ≡ start / 64 → ⊥) → touches start len n ≡ false
  untouched n other = by_tests (nat_lt start (64 * n + 64)) (nat_lt (64 * n) (start + len)) refl refl
    where
      by_tests : (a b : Bool) → nat_lt start (64 * n + 64) ≡ a → nat_lt (64 * n) (start + len) ≡ b → (a && b) ≡ false
      by_tests true true low high = absurd (other (omega (arith, aligned, eight, ltb-true start (64 * n + 64) low, ltb-true (64 * n) (start + len) high)))
      by_tests true false low high = refl
      by_tests false b low high = refl

  -- no byte of another word is read
  outside : (p i : ℕ) → (start / 8 ≡ p → ⊥) → 8 * p ≤ i → i < 8 * p + 8 → is_among start len i ≡ false
  outside p i other from to = by_tests (nat_le start i) (nat_lt i (start + len)) refl refl
    where
      by_tests : (a b : Bool) → nat_le start i ≡ a → nat_lt i (start + len) ≡ b → (a && b) ≡ false
      by_tests true true low high = absurd (other (omega (arith, aligned, eight, from, to, leb-true start i low, ltb-true i (start + len) high)))
      by_tests true false low high = refl
      by_tests false b low high = refl

  -- another word may have any value
  beside : (p v : ℕ) (reply : PageReply) → (start / 8 ≡ p → ⊥) → agrees p v start len reply ≡ true
  beside p v (Shows bytes) other =
      range_all (λ i. not (is_among start len i) || (slice_index bytes (i - start) == byte_at (i % 8) v)) (8 * p) 8
      (λ i from to. ap (λ b. not b || (slice_index bytes (i - start) == byte_at (i % 8) v)) (outside p i other from to))
  beside p v (Poison at) other = refl
  beside p v (Refuses why) other = refl

  -- another line may be bad, and it may be good
  other_bad : (n : ℕ) (reply : PageReply) → (n ≡ start / 64 → ⊥) → allows_bad n start len reply ≡ true
  other_bad n (Shows bytes) other = ap not (untouched n other)
  other_bad n (Poison at) other = ap (λ b. not (b && nat_lt n (at / 64))) (untouched n other)
  other_bad n (Refuses why) other = refl

  other_good : (n : ℕ) (reply : PageReply) → NamesItsLine start reply → (n ≡ start / 64 → ⊥) → allows_good n reply ≡ true
  other_good n (Shows bytes) names other = refl
  other_good n (Poison at) names other = ap not (ne_eqb n (at / 64) (λ same. other (omega (arith, same, names))))
  other_good n (Refuses why) names other = refl

-- a line with a value of each word, of which a read asks nothing
words_free : (r : PageRead) (n : ℕ) (words : List (List ℕ)) → HasWords (Kept false words) → ((w v : ℕ) → w < 8 → agrees (8 * n + w) v r.start r.len r.reply ≡ true) → words_fit (r ∷ []) n words ≡ true
words_free r n words have free =
    range_all (λ w. list_any (all_agree (r ∷ []) (8 * n + w)) (slice_index_or words w [])) 0 8
    (λ w from to. some_value (all_agree (r ∷ []) (8 * n + w)) (slice_index_or words w []) (word_has words w (subst (λ m. w < m) (sym have.0) to) have.1)
    (λ v. ap (λ b. b && true) (free w v to)))

-- a read asks nothing of a line that is not that of its word
pub other_line : (r : PageRead) → IsOfOneWord r → (n : ℕ) (cell : Cell) → HasWords cell → (n ≡ r.start / 64 → ⊥) → line_fits (r ∷ []) n (Some cell) ≡ true
other_line r word n Bad have other = ap (λ b. b && true) (other_bad r.start r.len word.0 word.1 n r.reply other)
other_line r word n (Kept weak words) have other =
    and_from (all_allow_good (r ∷ []) n) (words_fit (r ∷ []) n words) (ap (λ b. b && true) (other_good r.start r.len word.0 word.1 n r.reply word.2 other))
    (words_free r n words have (λ w v lt. beside r.start r.len word.0 word.1 (8 * n + w) v r.reply (λ same. other (omega (arith, same, lt)))))

-- neither does one that looks at no line
abbrev pub is_looking : PageReply → Bool
is_looking (Shows bytes) = true
is_looking (Poison at) = true
is_looking (Refuses why) = false

pub unlooking : (start len : ℕ) (reply : PageReply) → is_looking reply ≡ false → (n : ℕ) (cell : Cell) → HasWords cell → line_fits (record { start = start; len = len; reply = reply } ∷ []) n (Some cell) ≡ true
unlooking start len (Shows bytes) not_so n cell have = cc not_so
unlooking start len (Poison at) not_so n cell have = cc not_so
unlooking start len (Refuses why) not_so n Bad have = refl
unlooking start len (Refuses why) not_so n (Kept weak words) have = words_free (record { start = start; len = len; reply = Refuses why }) n words have (λ w v lt. refl)

-- Reads of one word each, no two of the same one.
abbrev pub AreApart : List PageRead → Type 0
AreApart [] = Unit {0}
AreApart (r ∷ rs) = IsOfOneWord r × (list_all (λ (s : PageRead). not (r.start == s.start)) rs ≡ true) × AreApart rs

-- each of them is of one word
pub each_word : (rs : List PageRead) → AreApart rs → (r : PageRead) → IsAmong r rs → IsOfOneWord r
each_word [] are r is = absurd is
each_word (q ∷ rs) are r (inl same) = subst IsOfOneWord (sym same) are.0
each_word (q ∷ rs) are r (inr later) = each_word rs are.2 r later

-- on a line with a value of each word
module _ (n : ℕ) (words : List (List ℕ)) (have : HasWords (Kept false words)) where
  abbrev fits_word : List PageRead → ℕ → Bool
  fits_word rs w = list_any (all_agree rs (8 * n + w)) (slice_index_or words w [])

  word_there : (w : ℕ) → w < 8 → 1 ≤ length (slice_index_or words w [])
  word_there w lt = word_has words w (subst (λ m. w < m) (sym have.0) lt) have.1

  -- one of the reads asks of a word what it asks alone, or the others ask nothing of it
  word_apart : (r : PageRead) (rs : List PageRead) → AreApart (r ∷ rs) → (w : ℕ) → w < 8 → fits_word (r ∷ rs) w ≡ (fits_word (r ∷ []) w && fits_word rs w)
  word_apart r rs are w lt = by_word (r.start / 8 == 8 * n + w) refl
    where
      values : List ℕ
      values = slice_index_or words w []

      by_word : (b : Bool) → (r.start / 8 == 8 * n + w) ≡ b → fits_word (r ∷ rs) w ≡ (fits_word (r ∷ []) w && fits_word rs w)
      by_word true same =
          any_same (all_agree (r ∷ rs) (8 * n + w)) (all_agree (r ∷ []) (8 * n + w)) values (λ v. ap (λ b. agrees (8 * n + w) v r.start r.len r.reply && b) (others v))
          ∙ sym (and_true (fits_word (r ∷ []) w))
          ∙ ap (λ b. fits_word (r ∷ []) w && b) (sym (some_value (all_agree rs (8 * n + w)) values (word_there w lt) others))
        where
          not_same : (b : Bool) → not b ≡ true → b ≡ false
          not_same true so = cc so
          not_same false so = refl

          others : (v : ℕ) → all_agree rs (8 * n + w) v ≡ true
          others v =
              all_from (λ (s : PageRead). agrees (8 * n + w) v s.start s.len s.reply) rs
              (λ s is. let word = each_word rs are.2 s is in
              let unlike = eqb-false r.start s.start (not_same (r.start == s.start) (all_of (λ (t : PageRead). not (r.start == t.start)) s rs are.1 is)) in
              beside s.start s.len word.0 word.1 (8 * n + w) v s.reply
              (λ here. unlike (omega (arith, here, eqb-true (r.start / 8) (8 * n + w) same, word.0, are.0.0))))
      by_word false other =
          any_same (all_agree (r ∷ rs) (8 * n + w)) (all_agree rs (8 * n + w)) values (λ v. ap (λ b. b && all_agree rs (8 * n + w) v) (free v))
          ∙ ap (λ b. b && fits_word rs w) (sym (some_value (all_agree (r ∷ []) (8 * n + w)) values (word_there w lt) (λ v. ap (λ b. b && true) (free v))))
        where
          free : (v : ℕ) → agrees (8 * n + w) v r.start r.len r.reply ≡ true
          free v = beside r.start r.len are.0.0 are.0.1 (8 * n + w) v r.reply (eqb-false (r.start / 8) (8 * n + w) other)

  -- so it is of all words of the line
  words_apart_first : (r : PageRead) (rs : List PageRead) → AreApart (r ∷ rs) → words_fit (r ∷ rs) n words ≡ (words_fit (r ∷ []) n words && words_fit rs n words)
  words_apart_first r rs are =
      same_range (fits_word (r ∷ rs)) (λ w. fits_word (r ∷ []) w && fits_word rs w) (word_apart r rs are)
      ∙ all_both (fits_word (r ∷ [])) (fits_word rs) (range_with_len 0 8)
    where
      same_range : (f g : ℕ → Bool) → ((w : ℕ) → w < 8 → f w ≡ g w) → list_all f (range_with_len 0 8) ≡ list_all g (range_with_len 0 8)
      same_range f g same =
          same_test (list_all f (range_with_len 0 8)) (list_all g (range_with_len 0 8))
          (λ all. range_all g 0 8 (λ w from to. sym (same w to) ∙ range_each f 0 8 all w from to)) (λ all. range_all f 0 8 (λ w from to. same w to ∙ range_each g 0 8 all w from to))

  -- and of a line that can be read
  kept_apart : (weak : Bool) (rs : List PageRead) → AreApart rs → line_fits rs n (Some (Kept weak words)) ≡ list_all (λ r. line_fits (r ∷ []) n (Some (Kept weak words))) rs
  kept_apart weak [] are = range_all (fits_word []) 0 8 (λ w from to. some_value (all_agree [] (8 * n + w)) (slice_index_or words w []) (word_there w to) (λ v. refl))
  kept_apart weak (r ∷ rs) are =
      ap (λ b. (allows_good n r.reply && all_allow_good rs n) && b) (words_apart_first r rs are)
      ∙ turned (allows_good n r.reply) (all_allow_good rs n) (words_fit (r ∷ []) n words) (words_fit rs n words)
      ∙ ap (λ b. ((allows_good n r.reply && true) && words_fit (r ∷ []) n words) && b) (kept_apart weak rs are.2)
    where
      turned : (a b c d : Bool) → ((a && b) && (c && d)) ≡ (((a && true) && c) && (b && d))
      turned false b c d = refl
      turned true true c d = refl
      turned true false true d = refl
      turned true false false d = refl

-- a line fits reads where it fits each of them
pub cell_apart : (rs : List PageRead) → AreApart rs → (n : ℕ) (cell : Cell) → HasWords cell → line_fits rs n (Some cell) ≡ list_all (λ r. line_fits (r ∷ []) n (Some cell)) rs
cell_apart rs are n Bad have =
    all_same (λ (r : PageRead). allows_bad n r.start r.len r.reply) (λ (r : PageRead). allows_bad n r.start r.len r.reply && true) rs
    (λ r is. sym (and_true (allows_bad n r.start r.len r.reply)))
cell_apart rs are n (Kept weak words) have = kept_apart n words have weak rs are

-- the lines that are looked at are those of the reads that look at one
word_lines : (start len : ℕ) → start % 8 ≡ 0 → len ≡ 8 → range_with_len (start / 64) ((start + len - 1) / 64 + 1 - start / 64) ≡ start / 64 ∷ []
word_lines start len aligned eight =
    let one : (start + len - 1) / 64 + 1 - start / 64 ≡ 1 = omega (arith, aligned, eight) in
    ap (range_with_len (start / 64)) one

-- a test of those that one read looks at, and all
lines_of_word : (f : ℕ → Bool) (start len : ℕ) (reply : PageReply) → start % 8 ≡ 0 → len ≡ 8 → list_all f (lines_read start len reply) ≡ (not (is_looking reply) || f (start / 64))
lines_of_word f start len (Shows bytes) aligned eight = ap (list_all f) (word_lines start len aligned eight) ∙ and_true (f (start / 64))
lines_of_word f start len (Poison at) aligned eight = ap (list_all f) (word_lines start len aligned eight) ∙ and_true (f (start / 64))
lines_of_word f start len (Refuses why) aligned eight = refl

pub lines_apart : (f : ℕ → Bool) (rs : List PageRead) → AreApart rs → list_all f (all_lines_read rs) ≡ list_all (λ (r : PageRead). not (is_looking r.reply) || f (r.start / 64)) rs
lines_apart f [] are = refl
lines_apart f (r ∷ rs) are =
    list_all-append f (lines_read r.start r.len r.reply) (all_lines_read rs)
    ∙ ap (λ b. b && list_all f (all_lines_read rs)) (lines_of_word f r.start r.len r.reply are.0.0 are.0.1)
    ∙ ap (λ b. (not (is_looking r.reply) || f (r.start / 64)) && b) (lines_apart f rs are.2)
