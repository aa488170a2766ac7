-- What a read of one word shows of a line.
use Rattle.std.proofs.Common.{◌≡◌, ℕ, ◌+◌, ◌-◌, ◌*◌, ◌/◌, ◌%◌, ◌<◌, ◌≤◌, ◌==◌, ◌&&◌, ◌||◌, nat_le, nat_lt, not, Bool, true, false, Some, List, [], ◌∷◌, length, get_or, refl, sym, ap, subst, ◌∙◌, arith}
use Rattle.std.specs.Prelude.{slice_index, slice_index_or}
use Rattle.std.specs.Int.{byte_at, w64, to_le_bytes}
use Rattle.std.specs.List.{list_any, range_with_len}
use Rattle.std.proofs.lemmas.Bool.{eq-eqb, eqb-true, le-ltb, leb-true, lt-ltb, ltb-true}
use Rattle.std.proofs.lemmas.Bool.Decides.{same_from_decides}
use Rattle.std.proofs.lemmas.Grind.{same_number_lists}
use Rattle.std.proofs.lemmas.Slice.Eq.{bytes_eq-Decides}
use Rattle.line_device.proofs.WordLemmas.{to_le_bytes-at}
use Rattle.nvm_model.specs.Cell.{Cell, touches}
use Rattle.nvm_model.specs.Cell.Cell.{Bad, Kept}
use Rattle.nvm_model.specs.Numbered.{is_among}
use Rattle.nvm_model.specs.Page.{is_bad_cell}
use Rattle.cut_places.specs.Outcomes.Pages.{PageRead, PageReply, agrees, all_agree, is_given, words_fit}
use Rattle.cut_places.specs.Outcomes.Pages.PageReply.{Shows, Poison}
use Rattle.cut_places.specs.AskedReads.Fitting.{cell_fits}
use Rattle.value_tables.specs.Listed.{HasWords, has_bytes, lists_bytes}
use Rattle.value_tables.specs.Values.{history_of}
use Rattle.value_tables.proofs.HistoryLemmas.{word_has}
use Rattle.value_tables.proofs.RangeLemmas.{only_one, range_all, range_each}

abbrev pub read_of : ℕ → PageReply → List PageRead
read_of p reply = record { start = 8 * p; len = 8; reply = reply } ∷ []

module _ (p : ℕ) (bytes : List ℕ) where
  abbrev agrees_at : ℕ → ℕ → ℕ → Bool
  agrees_at q v i = not (is_among (8 * p) 8 i) || (slice_index bytes (i - 8 * p) == byte_at (i % 8) v)

  outside : (i : ℕ) → (8 * p ≤ i → i < 8 * p + 8 → ⊥) → is_among (8 * p) 8 i ≡ false
  outside i out = by_tests (nat_le (8 * p) i) (nat_lt i (8 * p + 8)) refl refl
    where
      by_tests : (a b : Bool) → nat_le (8 * p) i ≡ a → nat_lt i (8 * p + 8) ≡ b → (a && b) ≡ false
      by_tests true true low high = absurd (out (leb-true (8 * p) i low) (ltb-true i (8 * p + 8) high))
      by_tests true false low high = refl
      by_tests false b low high = refl

  -- a word beside it has any value
  beside : (q v : ℕ) → (q ≡ p → ⊥) → agrees q v (8 * p) 8 (Shows bytes) ≡ true
  beside q v other = range_all (agrees_at q v) (8 * q) 8 (λ k lt. ap (λ b. not b || (slice_index bytes (8 * q + k - 8 * p) == byte_at ((8 * q + k) % 8) v))
      (outside (8 * q + k) (λ low high. other (omega (arith, lt, low, high)))))

  inside_it : (k : ℕ) → k < 8 → is_among (8 * p) 8 (8 * p + k) ≡ true
  inside_it k lt = by_tests (nat_le (8 * p) (8 * p + k)) (nat_lt (8 * p + k) (8 * p + 8)) refl refl
    where
      by_tests : (a b : Bool) → nat_le (8 * p) (8 * p + k) ≡ a → nat_lt (8 * p + k) (8 * p + 8) ≡ b → (a && b) ≡ true
      by_tests true true low high = refl
      by_tests true false low high = grind (arith, lt)
      by_tests false b low high = grind arith

  byte_is : (v k : ℕ) → k < 8 → agrees_at p v (8 * p + k) ≡ (get_or bytes k 0 == byte_at k v)
  byte_is v k lt =
      let place : 8 * p + k - 8 * p ≡ k = omega arith in
      let byte : (8 * p + k) % 8 ≡ k = omega (arith, lt) in
      ap (λ b. not b || (slice_index bytes (8 * p + k - 8 * p) == byte_at ((8 * p + k) % 8) v)) (inside_it k lt)
      ∙ ap (λ i. slice_index bytes i == byte_at ((8 * p + k) % 8) v) place ∙ ap (λ i. get_or bytes k 0 == byte_at i v) byte

  -- it has the value whose bytes are shown
  shown : (v : ℕ) → length bytes ≡ 8 → agrees p v (8 * p) 8 (Shows bytes) ≡ has_bytes bytes v
  shown v eight = same_from_decides {P = to_le_bytes w64 v ≡ bytes} (agrees p v (8 * p) 8 (Shows bytes)) (has_bytes bytes v) (
    λ all. same_number_lists (to_le_bytes w64 v) bytes (sym eight) (λ k lt. to_le_bytes-at v k lt
        ∙ sym (eqb-true (get_or bytes k 0) (byte_at k v) (sym (byte_is v k lt) ∙ range_each (agrees_at p v) (8 * p) 8 all (8 * p + k) (omega arith) (omega (arith, lt))))),
    λ same. range_all (agrees_at p v) (8 * p) 8 (λ k lt. byte_is v k lt ∙ eq-eqb (get_or bytes k 0) (byte_at k v) (ap (λ l. get_or l k 0) (sym same) ∙ to_le_bytes-at v k lt)),
  )
      (bytes_eq-Decides (to_le_bytes w64 v) bytes)

  and_all : (b : Bool) → (b && true) ≡ b
  and_all true = refl
  and_all false = refl

  any_same : (f g : ℕ → Bool) (values : List ℕ) → ((v : ℕ) → f v ≡ g v) → list_any f values ≡ list_any g values
  any_same f g [] same = refl
  any_same f g (v ∷ values) same = ap (λ b. b || list_any f values) (same v) ∙ ap (λ b. g v || b) (any_same f g values same)

  some_value : (f : ℕ → Bool) (values : List ℕ) → 1 ≤ length values → ((v : ℕ) → f v ≡ true) → list_any f values ≡ true
  some_value f [] some each = absurd (omega (arith, some))
  some_value f (v ∷ values) some each = ap (λ b. b || list_any f values) (each v)

  -- a line shows it where a value of the word has its bytes
  pub shows_word : (cell : Cell) → HasWords cell → length bytes ≡ 8 → cell_fits (read_of p (Shows bytes)) (p / 8) cell ≡ lists_bytes bytes (history_of (p % 8) cell)
  shows_word Bad have eight = touched (touches (8 * p) 8 (p / 8)) (touched_is)
    where
      touched_is : touches (8 * p) 8 (p / 8) ≡ true
      touched_is = by_tests (nat_lt (8 * p) (64 * (p / 8) + 64)) (nat_lt (64 * (p / 8)) (8 * p + 8)) refl refl
        where
          by_tests : (a b : Bool) → nat_lt (8 * p) (64 * (p / 8) + 64) ≡ a → nat_lt (64 * (p / 8)) (8 * p + 8) ≡ b → (a && b) ≡ true
          by_tests true true low high = refl
          by_tests true false low high = grind arith
          by_tests false b low high = grind arith

      touched : (t : Bool) → t ≡ true → (not t && true) ≡ false
      touched true is = refl
      touched false is = cc is
  shows_word (Kept weak words) have eight =
      only_one (λ w. list_any (all_agree (read_of p (Shows bytes)) (8 * (p / 8) + w)) (slice_index_or words w [])) 8 (p % 8) (omega arith)
      (λ k lt other. some_value (all_agree (read_of p (Shows bytes)) (8 * (p / 8) + k)) (slice_index_or words k []) (word_has words k (subst (λ m. k < m) (sym have.0) lt) have.1)
      (λ v. ap (λ b. b && true) (beside (8 * (p / 8) + k) v (λ same. other (omega (arith, same, lt))))))
      ∙ any_same (all_agree (read_of p (Shows bytes)) (8 * (p / 8) + p % 8)) (has_bytes bytes) (slice_index_or words (p % 8) [])
      (λ v. and_all (agrees (8 * (p / 8) + p % 8) v (8 * p) 8 (Shows bytes)) ∙ ap (λ q. agrees q v (8 * p) 8 (Shows bytes)) (omega arith) ∙ shown v eight)

-- a line shows that it is bad where it is
pub shows_poison : (p : ℕ) (cell : Cell) → cell_fits (read_of p (Poison (64 * (p / 8)))) (p / 8) cell ≡ is_bad_cell (Some cell)
shows_poison p Bad = not_below (touches (8 * p) 8 (p / 8)) (nat_lt (p / 8) (64 * (p / 8) / 64)) (le-ltb (p / 8) (64 * (p / 8) / 64) (omega arith))
  where
    not_below : (t b : Bool) → b ≡ false → (not (t && b) && true) ≡ true
    not_below true b is = ap (λ c. not c && true) is
    not_below false b is = refl
shows_poison p (Kept weak words) =
    ap (λ b. (not b && true) && words_fit (read_of p (Poison (64 * (p / 8)))) (p / 8) words) (eq-eqb (p / 8) (64 * (p / 8) / 64) (omega arith))

-- a read of one word looks at one line, and may name it
pub word_line : (p : ℕ) → range_with_len (8 * p / 64) ((8 * p + 8 - 1) / 64 + 1 - 8 * p / 64) ≡ p / 8 ∷ []
word_line p =
    let first : 8 * p / 64 ≡ p / 8 = omega arith in
    let one : (8 * p + 8 - 1) / 64 + 1 - 8 * p / 64 ≡ 1 = omega arith in
    ap (range_with_len (8 * p / 64)) one ∙ ap (λ n. range_with_len n 1) first

pub poison_given : (p : ℕ) → is_given (8 * p) 8 (Poison (64 * (p / 8))) ≡ true
poison_given p = ap (λ b. b && (64 * (p / 8) == 64 * (64 * (p / 8) / 64))) touched ∙ eq-eqb (64 * (p / 8)) (64 * (64 * (p / 8) / 64)) (omega arith)
  where
    touched : touches (8 * p) 8 (64 * (p / 8) / 64) ≡ true
    touched =
        ap (λ b. b && nat_lt (64 * (64 * (p / 8) / 64)) (8 * p + 8)) (lt-ltb (8 * p) (64 * (64 * (p / 8) / 64) + 64) (omega arith))
        ∙ lt-ltb (64 * (64 * (p / 8) / 64)) (8 * p + 8) (omega arith)
