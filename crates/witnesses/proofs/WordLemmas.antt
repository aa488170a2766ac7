-- The words that are kept of a line, and reads of all its bytes.
use Rattle.std.proofs.Common.{◌≡◌, ℕ, zero, suc, ◌+◌, ◌-◌, ◌*◌, ◌/◌, ◌%◌, ◌<◌, ◌≤◌, ◌==◌, ◌&&◌, ◌||◌, nat_le, nat_lt, Bool, true, false, not, List, [], ◌∷◌, slice_index, refl, sym, ap, ◌∙◌, arith, eq-eqb}
use Rattle.std.specs.Int.{byte_at}
use Rattle.std.proofs.lemmas.Bool.{and_from, and_parts, and_right, eqb-true, le-leb, le-ltb, leb-true, lt-ltb, ltb-true, ne_eqb}
use Rattle.nvm_model.specs.Cell.{touches}
use Rattle.nvm_model.specs.Numbered.{is_among, list_from}
use Rattle.cut_places.specs.Outcomes.Pages.{PageRead, PageReply, agrees, all_agree, allows_bad, allows_good}
use Rattle.cut_places.specs.Outcomes.Pages.PageReply.{Shows, Poison, Refuses}
use Rattle.witnesses.specs.declared.line_kept.LineLeft.{LineLeft}
use Rattle.witnesses.specs.declared.line_kept.LineLeft.TheVariants as left
use Rattle.witnesses.specs.Telling.{bytes_of_words, line_reply}
use Rattle.witnesses.proofs.ListLemmas.{range_all, range_each}

-- item k of f's numbers
pub item_from : (f : ℕ → ℕ) (n count k : ℕ) → k < count → slice_index (list_from f n count) k ≡ f (n + k)
item_from f n zero k lt = absurd (omega (arith, lt))
item_from f n (suc count) zero lt = ap f (omega arith)
item_from f n (suc count) (suc k) lt = item_from f (suc n) count k (omega (arith, lt)) ∙ ap f (omega arith)

-- byte k of word w of a line
pub byte_of_words : (words : List ℕ) (w k : ℕ) → w < 8 → k < 8 → slice_index (bytes_of_words words) (8 * w + k) ≡ byte_at k (slice_index words w)
byte_of_words words w k word byte =
    item_from (λ i. byte_at (i % 8) (slice_index words (i / 8))) 0 64 (8 * w + k) (omega (arith, word, byte))
    ∙ ap (λ j. byte_at j (slice_index words ((0 + (8 * w + k)) / 8))) (omega (arith, word, byte))
    ∙ ap (λ j. byte_at k (slice_index words j)) (omega (arith, word, byte))

-- a read of line m touches no other
touches_other : (m n : ℕ) → (m ≡ n → ⊥) → touches (64 * m) 64 n ≡ false
touches_other m n other = by_tests (nat_lt (64 * m) (64 * n + 64)) (nat_lt (64 * n) (64 * m + 64)) refl refl
  where
    by_tests : (a b : Bool) → nat_lt (64 * m) (64 * n + 64) ≡ a → nat_lt (64 * n) (64 * m + 64) ≡ b → (a && b) ≡ false
    by_tests true true low high = absurd (other (omega (arith, ltb-true _ _ low, ltb-true _ _ high)))
    by_tests true false low high = refl
    by_tests false b low high = refl

touches_own : (n : ℕ) → touches (64 * n) 64 n ≡ true
touches_own n = ap (λ b. b && nat_lt (64 * n) (64 * n + 64)) (lt-ltb (64 * n) (64 * n + 64) (omega arith)) ∙ lt-ltb (64 * n) (64 * n + 64) (omega arith)

line_at : (n : ℕ) → 64 * n / 64 ≡ n
line_at n = omega arith

module _ (m n : ℕ) (other : m ≡ n → ⊥) where
  -- what is told of another line allows all of this one
  pub other_bad : (kept : LineLeft) → allows_bad n (64 * m) 64 (line_reply m kept) ≡ true
  other_bad left.Bad = ap (λ b. not (b && nat_lt n (64 * m / 64))) (touches_other m n other)
  other_bad (left.Words words) = ap not (touches_other m n other)

  pub other_good : (kept : LineLeft) → allows_good n (line_reply m kept) ≡ true
  other_good left.Bad = ap not (ne_eqb n (64 * m / 64) (λ same. other (omega (arith, same))))
  other_good (left.Words words) = refl

  pub other_agrees : (kept : LineLeft) (w v : ℕ) → w < 8 → agrees (8 * n + w) v (64 * m) 64 (line_reply m kept) ≡ true
  other_agrees left.Bad w v word = refl
  other_agrees (left.Words words) w v word =
      range_all (λ i. not (is_among (64 * m) 64 i) || (slice_index (bytes_of_words words) (i - 64 * m) == byte_at (i % 8) v)) (8 * (8 * n + w)) 8
      (λ i from to. ap (λ b. not b || (slice_index (bytes_of_words words) (i - 64 * m) == byte_at (i % 8) v)) (outside i from to))
    where
      outside : (i : ℕ) → 8 * (8 * n + w) ≤ i → i < 8 * (8 * n + w) + 8 → is_among (64 * m) 64 i ≡ false
      outside i from to = by_tests (nat_le (64 * m) i) (nat_lt i (64 * m + 64)) refl refl
        where
          by_tests : (a b : Bool) → nat_le (64 * m) i ≡ a → nat_lt i (64 * m + 64) ≡ b → (a && b) ≡ false
          by_tests true true low high = absurd (other (omega (arith, leb-true _ _ low, ltb-true _ _ high, from, to, word)))
          by_tests true false low high = refl
          by_tests false b low high = refl

module _ (n : ℕ) where
  -- what is told of a bad line allows it to be bad, and not to be good; and the other way round
  pub bad_told : allows_bad n (64 * n) 64 (Poison (64 * n)) ≡ true
  bad_told = ap not (and_right (touches (64 * n) 64 n) (nat_lt n (64 * n / 64)) (le-ltb n (64 * n / 64) (omega arith)))

  pub not_good : allows_good n (Poison (64 * n)) ≡ true → ⊥
  not_good is = wrong (sym (ap not (eq-eqb n (64 * n / 64) (omega arith))) ∙ is)
    where
      wrong : false ≡ true → ⊥
      wrong e = cc

  pub not_bad : (bytes : List ℕ) → allows_bad n (64 * n) 64 (Shows bytes) ≡ true → ⊥
  not_bad bytes is = wrong (sym (ap not (touches_own n)) ∙ is)
    where
      wrong : false ≡ true → ⊥
      wrong e = cc

  module _ (words : List ℕ) (w : ℕ) (word : w < 8) where
    test : ℕ → ℕ → Bool
    test v i = not (is_among (64 * n) 64 i) || (slice_index (bytes_of_words words) (i - 64 * n) == byte_at (i % 8) v)

    -- byte k of word w, as it is told
    inside : (k : ℕ) → k < 8 → is_among (64 * n) 64 (8 * (8 * n + w) + k) ≡ true
    inside k byte =
        ap (λ b. b && nat_lt (8 * (8 * n + w) + k) (64 * n + 64)) (le-leb (64 * n) (8 * (8 * n + w) + k) (omega (arith, word, byte)))
        ∙ lt-ltb (8 * (8 * n + w) + k) (64 * n + 64) (omega (arith, word, byte))

    told_byte : (k : ℕ) → k < 8 → slice_index (bytes_of_words words) (8 * (8 * n + w) + k - 64 * n) ≡ byte_at k (slice_index words w)
    told_byte k byte =
        let at : 8 * (8 * n + w) + k - 64 * n ≡ 8 * w + k = omega (arith, word, byte) in ap (slice_index (bytes_of_words words)) at ∙ byte_of_words words w k word byte

    digit : (k : ℕ) → k < 8 → (8 * (8 * n + w) + k) % 8 ≡ k
    digit k byte = omega (arith, byte)

    -- all values that have the bytes of the word agree with what is told, and no others
    pub agrees_told : (v : ℕ) → ((k : ℕ) → k < 8 → byte_at k (slice_index words w) ≡ byte_at k v) → agrees (8 * n + w) v (64 * n) 64 (Shows (bytes_of_words words)) ≡ true
    unfolding test
    agrees_told v bytes = range_all (test v) (8 * (8 * n + w)) 8 (λ i from to. at i (i - 8 * (8 * n + w)) (omega (arith, from)) (omega (arith, from, to)))
      where
        at : (i k : ℕ) → 8 * (8 * n + w) + k ≡ i → k < 8 → test v i ≡ true
        at i k is byte =
            sym (ap (test v) is)
            ∙ ap (λ b. not b || (slice_index (bytes_of_words words) (8 * (8 * n + w) + k - 64 * n) == byte_at ((8 * (8 * n + w) + k) % 8) v)) (inside k byte)
            ∙ eq-eqb _ _ (told_byte k byte ∙ bytes k byte ∙ ap (λ d. byte_at d v) (sym (digit k byte)))

    pub bytes_told : (v : ℕ) → agrees (8 * n + w) v (64 * n) 64 (Shows (bytes_of_words words)) ≡ true → (k : ℕ) → k < 8 → byte_at k (slice_index words w) ≡ byte_at k v
    unfolding test
    bytes_told v all k byte =
        sym (told_byte k byte)
        ∙ eqb-true _ _ (sym (ap (λ b. not b || (slice_index (bytes_of_words words) (8 * (8 * n + w) + k - 64 * n) == byte_at ((8 * (8 * n + w) + k) % 8) v)) (inside k byte))
        ∙ range_each (test v) (8 * (8 * n + w)) 8 all (8 * (8 * n + w) + k) (omega arith) (omega (arith, byte)))
        ∙ ap (λ d. byte_at d v) (digit k byte)

-- reads agree on values of the same bytes alike
module _ (v x : ℕ) (same : (k : ℕ) → k < 8 → byte_at k x ≡ byte_at k v) where
  agrees_same : (p start len : ℕ) (reply : PageReply) → agrees p x start len reply ≡ true → agrees p v start len reply ≡ true
  agrees_same p start len (Shows bytes) all =
      range_all (λ i. not (is_among start len i) || (slice_index bytes (i - start) == byte_at (i % 8) v)) (8 * p) 8
      (λ i from to. sym (ap (λ b. not (is_among start len i) || (slice_index bytes (i - start) == b)) (same (i % 8) (omega arith)))
      ∙ range_each (λ i. not (is_among start len i) || (slice_index bytes (i - start) == byte_at (i % 8) x)) (8 * p) 8 all i from to)
  agrees_same p start len (Poison at) all = refl
  agrees_same p start len (Refuses why) all = refl

  pub all_agree_same : (reads : List PageRead) (p : ℕ) → all_agree reads p x ≡ true → all_agree reads p v ≡ true
  all_agree_same [] p all = refl
  all_agree_same (r ∷ reads) p all =
      let parts = and_parts (agrees p x r.start r.len r.reply) (all_agree reads p x) all in
      and_from (agrees p v r.start r.len r.reply) (all_agree reads p v) (agrees_same p r.start r.len r.reply parts.0) (all_agree_same reads p parts.1)
