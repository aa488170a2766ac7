-- A line that a restart left is read as its replies tell, so it fits them.
use Rattle.std.proofs.Common.{◌≡◌, inl, ℕ, ◌+◌, ◌-◌, ◌*◌, ◌/◌, ◌%◌, ◌<◌, ◌≤◌, ◌==◌, Bool, true, false, not, ◌&&◌, ◌||◌, nat_lt, Option, Some, None, option_map, List, [], ◌∷◌, replicate, slice_index_or, position, refl, sym, ap, subst, ◌∙◌, arith}
use Rattle.std.specs.Prelude.{slice_index}
use Rattle.std.specs.Int.{byte_at}
use Rattle.std.specs.List.{list_all, list_any, range_with_len}
use Rattle.std.proofs.lemmas.Bool.{and_from, and_parts, both_ways, eq-eqb, eqb-true, false_from_ne_true}
use Rattle.std.proofs.lemmas.Bool.Decides.{nat_tests}
use Rattle.std.proofs.lemmas.List.{get_or-replicate}
use Rattle.std.proofs.lemmas.Option.{get_or_from_slice_get}
use Rattle.line_device.specs.History.{IsIn, newest}
use Rattle.line_words.proofs.PositionLemmas.{one_found}
use Rattle.nvm_model.specs.Cell.{Cell, cell_byte, touches}
use Rattle.nvm_model.specs.Cell.Cell.{Bad, Kept}
use Rattle.nvm_model.specs.Numbered.{is_among, list_from}
use Rattle.nvm_model.specs.Page.{Page, byte_in, cell_of, first_bad_line, is_bad_cell, look}
use Rattle.nvm_model.proofs.NumberedLemmas.{slice_get-list_from}
use Rattle.page_lines.proofs.LoopLemmas.{touches-within, within-touches}
use Rattle.page_lines.proofs.SearchLemmas.{none_touched}
use Rattle.reply_text.specs.declared.reply.Why.{Why}
use Rattle.durable.specs.Naming.{IsLowestBad}
use Rattle.durable.proofs.LineLemmas.{byte_at-zero}
use Rattle.outcomes.specs.Pages.{PageRead, agrees, all_agree, all_allow_good, allows_bad, allows_good, line_fits, words_fit}
use Rattle.outcomes.specs.Pages.PageReply.{Shows, Poison, Refuses}
use Rattle.outcomes.proofs.TestLemmas.{any_in, below_all, range_all}

-- what a restart left of a line: one of its values of each word
abbrev pub Survives : Option Cell → Option Cell → Type 0
Survives None None = Unit {0}
Survives None (Some now) = ⊥
Survives (Some Bad) None = ⊥
Survives (Some Bad) (Some Bad) = Unit {0}
Survives (Some Bad) (Some (Kept mark values)) = ⊥
Survives (Some (Kept weak words)) None = ⊥
Survives (Some (Kept weak words)) (Some Bad) = ⊥
Survives (Some (Kept weak words)) (Some (Kept mark values)) =
    (w : ℕ) → w < 8 → (v : ℕ) × IsIn v (slice_index_or words w []) × (slice_index_or values w [] ≡ v ∷ [])

-- what a read of pages is answered: that it is refused, the lowest bad line, or its bytes
pub data Answered (pages : List Page) (r : PageRead) : Type 0 where
  refused : (why : Why) → r.reply ≡ Refuses why → Answered pages r
  named : (n : ℕ) → 1 ≤ r.len → first_bad_line pages r.start r.len ≡ Some n → r.reply ≡ Poison (64 * n) → Answered pages r
  shown : 1 ≤ r.len → first_bad_line pages r.start r.len ≡ None → r.reply ≡ Shows (look pages r.start r.len) → Answered pages r

abbrev pub AllAnswered : List Page → List PageRead → Type 0
AllAnswered pages [] = Unit {0}
AllAnswered pages (r ∷ reads) = Answered pages r × AllAnswered pages reads

-- the line that a search names is bad, and none before it is
pub lowest_of : (pages : List Page) (start len n : ℕ) → 1 ≤ len → first_bad_line pages start len ≡ Some n → IsLowestBad pages start len n
unfolding first_bad_line
lowest_of pages start len n some found = by_place (position p (range_with_len (start / 64) ((start + len - 1) / 64 + 1 - start / 64))) refl found
  where
    p : ℕ → Bool
    p = λ m. is_bad_cell (cell_of pages m)

    by_place : (o : Option ℕ) → position p (range_with_len (start / 64) ((start + len - 1) / 64 + 1 - start / 64)) ≡ o
        → option_map (λ k. start / 64 + k) o ≡ Some n → IsLowestBad pages start len n
    by_place None is none = cc none
    by_place (Some k) is same =
        let first = one_found p (start / 64) ((start + len - 1) / 64 + 1 - start / 64) k is in
        let at : start / 64 + k ≡ n = cc same in
        subst (IsLowestBad pages start len) at (record {
          touched = touches-within start len (start / 64 + k) some (omega arith) (omega (arith, first.within));
          bad = first.here;
          before = λ m lt touched.
              let from = (within-touches start len m some touched).0 in
              let back : start / 64 + (m - start / 64) ≡ m = omega (arith, from) in
              sym (ap p back) ∙ first.before (m - start / 64) (omega (arith, from, lt));
        })

-- a read that is not refused, of a line that it touches
pub none_bad : (pages : List Page) (start len n : ℕ) → 1 ≤ len → first_bad_line pages start len ≡ None → touches start len n ≡ true → is_bad_cell (cell_of pages n) ≡ false
unfolding first_bad_line
none_bad pages start len n some none touched = none_touched (λ m. is_bad_cell (cell_of pages m)) start len n some none touched

module _ (pages : List Page) where
  good_allowed : (n : ℕ) (r : PageRead) → is_bad_cell (cell_of pages n) ≡ false → Answered pages r → allows_good n r.reply ≡ true
  good_allowed n r good (refused why is) = ap (allows_good n) is
  good_allowed n r good (shown some found is) = ap (allows_good n) is
  good_allowed n r good (named m some found is) = ap (allows_good n) is ∙ ap not (false_from_ne_true (n == 64 * m / 64) (λ same.
      let at : n ≡ m = let e = eqb-true n (64 * m / 64) same in omega (arith, e) in
      both_ways (is_bad_cell (cell_of pages m)) (sym (ap (λ k. is_bad_cell (cell_of pages k)) at) ∙ good)
      (lowest_of pages r.start r.len m some found).bad))

  bad_allowed : (n : ℕ) (r : PageRead) → is_bad_cell (cell_of pages n) ≡ true → Answered pages r → allows_bad n r.start r.len r.reply ≡ true
  bad_allowed n r bad (refused why is) = ap (allows_bad n r.start r.len) is
  bad_allowed n r bad (shown some found is) = ap (allows_bad n r.start r.len) is ∙ ap not (false_from_ne_true (touches r.start r.len n) (λ touched.
      both_ways (is_bad_cell (cell_of pages n)) (none_bad pages r.start r.len n some found touched) bad))
  bad_allowed n r bad (named m some found is) = ap (allows_bad n r.start r.len) is ∙ ap not (false_from_ne_true (touches r.start r.len n && nat_lt n (64 * m / 64)) (λ both.
      let touched : touches r.start r.len n ≡ true = (and_parts (touches r.start r.len n) (nat_lt n (64 * m / 64)) both).0 in
      let before : n < 64 * m / 64 = let e : nat_lt n (64 * m / 64) ≡ true = (and_parts (touches r.start r.len n) (nat_lt n (64 * m / 64)) both).1 in grind (arith, nat_tests, e) in
      both_ways (is_bad_cell (cell_of pages n))
      ((lowest_of pages r.start r.len m some found).before n (omega (arith, before)) touched) bad))

  -- a byte that is read
  byte_read : (start len i : ℕ) → is_among start len i ≡ true → slice_index (look pages start len) (i - start) ≡ byte_in pages i
  unfolding look
  byte_read start len i among =
      let from : start ≤ i = grind (arith, nat_tests) in
      let to : i < start + len = grind (arith, nat_tests) in
      let there : start + (i - start) ≡ i = omega (arith, from) in
      get_or_from_slice_get (list_from (byte_in pages) start len) (i - start) (byte_in pages (start + (i - start))) 0
      (slice_get-list_from (byte_in pages) start len (i - start) (omega (arith, from, to))) ∙ ap (byte_in pages) there

  -- word w of line n shows the value v, where each of its bytes is that of v
  word_agrees : (n w v : ℕ) (r : PageRead) → w < 8 → ((j : ℕ) → j < 8 → byte_in pages (8 * (8 * n + w) + j) ≡ byte_at j v)
      → Answered pages r → agrees (8 * n + w) v r.start r.len r.reply ≡ true
  word_agrees n w v r lt bytes (refused why is) = ap (agrees (8 * n + w) v r.start r.len) is
  word_agrees n w v r lt bytes (named m some found is) = ap (agrees (8 * n + w) v r.start r.len) is
  word_agrees n w v r lt bytes (shown some found is) =
      ap (agrees (8 * n + w) v r.start r.len) is ∙ range_all test (8 * (8 * n + w)) 8 each
    where
      test : ℕ → Bool
      test = λ i. not (is_among r.start r.len i) || (slice_index (look pages r.start r.len) (i - r.start) == byte_at (i % 8) v)

      by_among : (i j : ℕ) → i ≡ 8 * (8 * n + w) + j → j < 8 → (b : Bool) → is_among r.start r.len i ≡ b
          → (not b || (slice_index (look pages r.start r.len) (i - r.start) == byte_at (i % 8) v)) ≡ true
      by_among i j at less false out = refl
      by_among i j at less true among =
          let digit : j ≡ i % 8 = omega (arith, at, less) in
          eq-eqb (slice_index (look pages r.start r.len) (i - r.start)) (byte_at (i % 8) v)
          (byte_read r.start r.len i among ∙ ap (byte_in pages) at ∙ bytes j less ∙ ap (λ d. byte_at d v) digit)

      each : (k : ℕ) → k < 8 → test (8 * (8 * n + w) + k) ≡ true
      each k less = by_among (8 * (8 * n + w) + k) k refl less (is_among r.start r.len (8 * (8 * n + w) + k)) refl

  -- over all reads
  over_reads : (f : PageRead → Bool) (reads : List PageRead) → AllAnswered pages reads → ((r : PageRead) → Answered pages r → f r ≡ true) → list_all f reads ≡ true
  over_reads f [] all each = refl
  over_reads f (r ∷ reads) all each = and_from (f r) (list_all f reads) (each r all.0) (over_reads f reads all.1 each)

  -- where byte i lies
  pub byte_of_line : (n w j : ℕ) → w < 8 → j < 8 → (o : Option Cell) → cell_of pages n ≡ o
      → byte_in pages (8 * (8 * n + w) + j) ≡ elim o [ None ↦ 0 | Some cell ↦ cell_byte cell (8 * w + j) ]
  byte_of_line n w j lt less o is =
      let line : (8 * (8 * n + w) + j) / 64 ≡ n = omega (arith, lt, less) in
      let place : (8 * (8 * n + w) + j) % 64 ≡ 8 * w + j = omega (arith, lt, less) in
      ap (λ m. elim (cell_of pages m) [ None ↦ 0 | Some cell ↦ cell_byte cell ((8 * (8 * n + w) + j) % 64) ]) line
      ∙ ap (λ k. elim (cell_of pages n) [ None ↦ 0 | Some cell ↦ cell_byte cell k ]) place
      ∙ ap (λ (c : Option Cell). elim c [ None ↦ 0 | Some cell ↦ cell_byte cell (8 * w + j) ]) is

  pub kept_byte : (mark : Bool) (values : List (List ℕ)) (w j v : ℕ) → w < 8 → j < 8 → slice_index_or values w [] ≡ v ∷ [] → cell_byte (Kept mark values) (8 * w + j) ≡ byte_at j v
  kept_byte mark values w j v lt less is =
      let digit : (8 * w + j) % 8 ≡ j = omega (arith, less) in
      let word : (8 * w + j) / 8 ≡ w = omega (arith, less) in
      ap (λ d. byte_at d (newest (slice_index_or values ((8 * w + j) / 8) []))) digit
      ∙ ap (λ k. byte_at j (newest (slice_index_or values k []))) word
      ∙ ap (λ h. byte_at j (newest h)) is

  pub fits : (reads : List PageRead) (n : ℕ) (old : Option Cell) → AllAnswered pages reads → Survives old (cell_of pages n) → line_fits reads n old ≡ true
  fits reads n old all left = by_cells old (cell_of pages n) refl left
    where
      all_good : is_bad_cell (cell_of pages n) ≡ false → all_allow_good reads n ≡ true
      all_good good = over_reads (λ (r : PageRead). allows_good n r.reply) reads all (λ r is. good_allowed n r good is)

      agree : (w v : ℕ) → w < 8 → ((j : ℕ) → j < 8 → byte_in pages (8 * (8 * n + w) + j) ≡ byte_at j v) → all_agree reads (8 * n + w) v ≡ true
      agree w v lt bytes = over_reads (λ (r : PageRead). agrees (8 * n + w) v r.start r.len r.reply) reads all (λ r is. word_agrees n w v r lt bytes is)

      by_cells : (old now : Option Cell) → cell_of pages n ≡ now → Survives old now → line_fits reads n old ≡ true
      by_cells None None is left = and_from (all_allow_good reads n) (words_fit reads n (replicate 8 (0 ∷ []))) (all_good (ap is_bad_cell is))
          (below_all (λ w. list_any (all_agree reads (8 * n + w)) (slice_index_or (replicate 8 (0 ∷ [])) w [])) 8 (λ w lt.
          let zeros : slice_index_or (replicate 8 (0 ∷ [])) w [] ≡ 0 ∷ [] = get_or-replicate 8 w (0 ∷ []) [] lt in
          ap (list_any (all_agree reads (8 * n + w))) zeros
          ∙ any_in (all_agree reads (8 * n + w)) 0 (0 ∷ []) (inl refl)
          (agree w 0 lt (λ j less. byte_of_line n w j lt less None is ∙ sym (byte_at-zero j)))))
      by_cells None (Some now) is left = absurd left
      by_cells (Some Bad) None is left = absurd left
      by_cells (Some Bad) (Some Bad) is left =
          over_reads (λ (r : PageRead). allows_bad n r.start r.len r.reply) reads all (λ r at. bad_allowed n r (ap is_bad_cell is) at)
      by_cells (Some Bad) (Some (Kept mark values)) is left = absurd left
      by_cells (Some (Kept weak words)) None is left = absurd left
      by_cells (Some (Kept weak words)) (Some Bad) is left = absurd left
      by_cells (Some (Kept weak words)) (Some (Kept mark values)) is left = and_from (all_allow_good reads n) (words_fit reads n words) (all_good (ap is_bad_cell is))
          (below_all (λ w. list_any (all_agree reads (8 * n + w)) (slice_index_or words w [])) 8 (λ w lt.
          let one = left w lt in
          any_in (all_agree reads (8 * n + w)) one.0 (slice_index_or words w []) one.1
          (agree w one.0 lt (λ j less. byte_of_line n w j lt less (Some (Kept mark values)) is ∙ kept_byte mark values w j one.0 lt less one.2))))
