-- What an interruption leaves of pages passes where each of its lines does.
use Rattle.std.proofs.Common.{◌≡◌, ◌⊎◌, inl, inr, ℕ, zero, suc, ◌+◌, ◌*◌, ◌/◌, ◌%◌, ◌==◌, Bool, true, false, cond, not, ◌&&◌, ◌||◌, Option, Some, None, option_map, option_and_then, List, [], ◌∷◌, ◌++◌, length, replicate, slice_get, slice_index_or, refl, sym, ap, ◌∙◌}
use Rattle.std.specs.List.{list_all, list_any}
use Rattle.std.proofs.lemmas.Bool.{and_from, and_parts, eqb-true, or_left, or_right}
use Rattle.std.proofs.lemmas.List.Folds.{list_any-append}
use Rattle.line_device.specs.History.{newest}
use Rattle.line_device.specs.Medium.{word_stored}
use Rattle.line_device.specs.Word.{reaches, word_over}
use Rattle.word_tables.specs.declared.geometry.Geometry.{Geometry}
use Rattle.nvm_model.specs.Cell.{Cell, persist_cell, put_cell}
use Rattle.nvm_model.specs.Cell.Cell.{Bad, Kept}
use Rattle.nvm_base.specs.declared.units.Span.{Span}
use Rattle.nvm_model.specs.Interrupted.{Became, MayPut, MayStore, MaySyncAll}
use Rattle.nvm_model.specs.Touched.{persist_spans, persist_touched}
use Rattle.nvm_model.proofs.SeveralLemmas.{cell_of-spans}
use Rattle.nvm_model.specs.Numbered.{AreMixed, map_from}
use Rattle.nvm_model.specs.Page.{Page, cell_in, cell_of, fill, persist, put}
use Rattle.nvm_model.proofs.NumberedLemmas.{slice_get-map_from}
use Rattle.nvm_model.proofs.PageLemmas.{cell_of-persist, cell_of-put}
use Rattle.script_text.specs.Action.{Action}
use Rattle.machine_model.specs.Commands.{LeavesVolume, MayLeaveVolume, meaning}
use Rattle.machine_model.specs.Meaning.{VolumeLeft}
use Rattle.machine_model.specs.Meaning.VolumeLeft.{Kept as Unchanged, PartStored, PartSynced, AllOrNone, PageByPage}
use Rattle.outcomes.specs.Pages.{PageRead, all_agree, all_allow_good, line_fits, words_fit}
use Rattle.outcomes.specs.Left.{stored_passes, volume_may_pass, volume_passes}
use Rattle.outcomes.specs.Ways.{each_passes, group_passes}
use Rattle.outcomes.proofs.TestLemmas.{below_all, below_each, each_all}

-- an item by its place
abbrev pub or_default : {A : Type 0} → A → Option A → A
or_default d None = d
or_default d (Some x) = x

pub get_or_is : {A : Type 0} (xs : List A) (i : ℕ) (d : A) → slice_index_or xs i d ≡ or_default d (slice_get xs i)
get_or_is [] i d = refl
get_or_is (x ∷ xs) zero d = refl
get_or_is (x ∷ xs) (suc i) d = get_or_is xs i d

module _ (reads : List PageRead) where
  -- a word that has one value more
  more_values : (p at : ℕ) (bytes : List ℕ) (history : List ℕ) → list_any (all_agree reads p) history ≡ true → list_any (all_agree reads p) (word_stored at bytes p history) ≡ true
  more_values p at bytes history some = by_test (reaches at (length bytes) p)
    where
      by_test : (b : Bool) → list_any (all_agree reads p) (cond b (history ++ word_over at bytes p (newest history) ∷ []) history) ≡ true
      by_test false = some
      by_test true = list_any-append (all_agree reads p) history (word_over at bytes p (newest history) ∷ []) ∙ or_left _ _ some

  -- a line of which some words were stored to fits where one whose words all were does
  mixed_fit : (n at : ℕ) (bytes : List ℕ) (words mixed : List (List ℕ)) → AreMixed (List ℕ) words (map_from (word_stored at bytes) (8 * n) words) mixed
      → words_fit reads n mixed ≡ true → words_fit reads n (map_from (word_stored at bytes) (8 * n) words) ≡ true
  mixed_fit n at bytes words mixed are fit =
      below_all (λ w. list_any (all_agree reads (8 * n + w)) (slice_index_or stored w [])) 8 (λ w lt. each w (below_each (λ k. list_any (all_agree reads (8 * n + k)) (slice_index_or mixed k [])) 8 fit w lt))
    where
      stored : List (List ℕ)
      stored = map_from (word_stored at bytes) (8 * n) words

      from_old : (w : ℕ) (o : Option (List ℕ)) → slice_get words w ≡ o → list_any (all_agree reads (8 * n + w)) (or_default [] o) ≡ true
          → list_any (all_agree reads (8 * n + w)) (slice_index_or stored w []) ≡ true
      from_old w None is some = cc some
      from_old w (Some history) is some =
          let now : slice_index_or stored w [] ≡ word_stored at bytes (8 * n + w) history =
          get_or_is stored w [] ∙ ap (or_default []) (slice_get-map_from (word_stored at bytes) (8 * n) words w ∙ ap (option_map (word_stored at bytes (8 * n + w))) is) in
          ap (list_any (all_agree reads (8 * n + w))) now ∙ more_values (8 * n + w) at bytes history some

      each : (w : ℕ) → list_any (all_agree reads (8 * n + w)) (slice_index_or mixed w []) ≡ true → list_any (all_agree reads (8 * n + w)) (slice_index_or stored w []) ≡ true
      each w some = elim (are.each w) as (λ _. list_any (all_agree reads (8 * n + w)) (slice_index_or stored w []) ≡ true) [
        | inl old ↦ from_old w (slice_get words w) refl (sym (ap (list_any (all_agree reads (8 * n + w))) (get_or_is mixed w [] ∙ ap (or_default []) old)) ∙ some)
        | inr new ↦ sym (ap (list_any (all_agree reads (8 * n + w))) (get_or_is mixed w [] ∙ ap (or_default []) new ∙ sym (get_or_is stored w []))) ∙ some
      ]

  kept_fit : (n at : ℕ) (bytes : List ℕ) (words mixed : List (List ℕ)) → AreMixed (List ℕ) words (map_from (word_stored at bytes) (8 * n) words) mixed
      → (all_allow_good reads n && words_fit reads n mixed) ≡ true → (all_allow_good reads n && words_fit reads n (map_from (word_stored at bytes) (8 * n) words)) ≡ true
  kept_fit n at bytes words mixed are fit =
      let parts = and_parts (all_allow_good reads n) (words_fit reads n mixed) fit in
      and_from (all_allow_good reads n) (words_fit reads n (map_from (word_stored at bytes) (8 * n) words)) parts.0 (mixed_fit n at bytes words mixed are parts.1)

  -- what a store that was interrupted left of a line
  put_fits : (n at : ℕ) (bytes : List ℕ) (old left : Option Cell) → Became (MayPut at bytes n) old left → line_fits reads n left ≡ true
      → (line_fits reads n old || line_fits reads n (option_map (put_cell at bytes n) old)) ≡ true
  put_fits n at bytes None None may fit = or_left _ _ fit
  put_fits n at bytes None (Some new) may fit = absurd may
  put_fits n at bytes (Some old) None may fit = absurd may
  put_fits n at bytes (Some Bad) (Some new) (inl same) fit = or_left _ _ (sym (ap (λ c. line_fits reads n (Some c)) same) ∙ fit)
  put_fits n at bytes (Some Bad) (Some Bad) (inr may) fit = absurd may.1
  put_fits n at bytes (Some Bad) (Some (Kept mark mixed)) (inr may) fit = or_right _ _ (
      ap (λ b. line_fits reads n (Some (cond b (Kept false (map_from (word_stored at bytes) (8 * n) (replicate 8 (0 ∷ [])))) Bad))) may.0
      ∙ kept_fit n at bytes (replicate 8 (0 ∷ [])) mixed may.1.1 fit)
  put_fits n at bytes (Some (Kept weak words)) (Some Bad) may fit = absurd may
  put_fits n at bytes (Some (Kept weak words)) (Some (Kept mark mixed)) may fit = or_right _ _ (kept_fit n at bytes words mixed may.1 fit)

  -- and a line that was made durable, or not
  flush_fits : (n : ℕ) (made : Cell → Cell) (old left : Option Cell) → Became (λ cell new. (new ≡ cell) ⊎ (new ≡ made cell)) old left → line_fits reads n left ≡ true
      → (line_fits reads n old || line_fits reads n (option_map made old)) ≡ true
  flush_fits n made None None may fit = or_left _ _ fit
  flush_fits n made None (Some new) may fit = absurd may
  flush_fits n made (Some old) None may fit = absurd may
  flush_fits n made (Some old) (Some new) (inl same) fit = or_left _ _ (sym (ap (λ c. line_fits reads n (Some c)) same) ∙ fit)
  flush_fits n made (Some old) (Some new) (inr same) fit = or_right _ _ (sym (ap (λ c. line_fits reads n (Some c)) same) ∙ fit)

  -- of all lines that are looked at
  module _ (left : List Page) (fit : (n : ℕ) → line_fits reads n (cell_of left n) ≡ true) (lines : List ℕ) where
    pub as_one : (one : List Page) → left ≡ one → list_all (λ n. line_fits reads n (cell_of one n)) lines ≡ true
    as_one one is = each_all (λ n. line_fits reads n (cell_of one n)) lines (λ n. sym (ap (λ p. line_fits reads n (cell_of p n)) is) ∙ fit n)

    page_line : (n k : ℕ) (one : List Page) → slice_get left (n / 64) ≡ slice_get one (n / 64) → (k / 64 == n / 64) ≡ true → cell_of left k ≡ cell_of one k
    page_line n k one same group =
        let at : k / 64 ≡ n / 64 = eqb-true (k / 64) (n / 64) group in
        ap (λ q. option_and_then (λ page. cell_in page (k % 64)) (slice_get left q)) at
        ∙ ap (option_and_then (λ page. cell_in page (k % 64))) same
        ∙ sym (ap (λ q. option_and_then (λ page. cell_in page (k % 64)) (slice_get one q)) at)

    group_fits : (n : ℕ) (one : List Page) → slice_get left (n / 64) ≡ slice_get one (n / 64) → group_passes (line_fits reads) (λ k. k / 64) (n / 64) (cell_of one) lines ≡ true
    group_fits n one same = each_all (λ k. not (k / 64 == n / 64) || line_fits reads k (cell_of one k)) lines (λ k. by_group k (k / 64 == n / 64) refl)
      where
        by_group : (k : ℕ) (b : Bool) → (k / 64 == n / 64) ≡ b → (not b || line_fits reads k (cell_of one k)) ≡ true
        by_group k false out = refl
        by_group k true within = sym (ap (line_fits reads k) (page_line n k one same within)) ∙ fit k

    pub stored_pass : (at : ℕ) (bytes : List ℕ) (old : List Page) → MayStore at bytes old left → stored_passes at bytes (line_fits reads) old lines ≡ true
    stored_pass at bytes old (inl is) = or_left _ _ (as_one old is)
    stored_pass at bytes old (inr may) = or_right (list_all (λ n. line_fits reads n (cell_of old n)) lines) _
        (each_all (λ n. line_fits reads n (cell_of (fill at (length bytes) old) n) || line_fits reads n (cell_of (put at bytes (fill at (length bytes) old)) n)) lines (λ n.
        ap (λ o. line_fits reads n (cell_of (fill at (length bytes) old) n) || line_fits reads n o) (cell_of-put at bytes (fill at (length bytes) old) n)
        ∙ put_fits n at bytes (cell_of (fill at (length bytes) old) n) (cell_of left n) (may.each n) (fit n)))

    pub synced_pass : (spans : List Span) (old : List Page) → MaySyncAll spans old left
        → each_passes (line_fits reads) (cell_of old) (cell_of (persist_spans spans old)) lines ≡ true
    synced_pass spans old may =
        each_all (λ n. line_fits reads n (cell_of old n) || line_fits reads n (cell_of (persist_spans spans old) n)) lines (λ n.
        ap (λ o. line_fits reads n (cell_of old n) || line_fits reads n o) (cell_of-spans spans old n)
        ∙ flush_fits n (persist_touched spans n) (cell_of old n) (cell_of left n) (may.each n) (fit n))

    leaves_pass : (old to : List Page) (kind : VolumeLeft) → LeavesVolume kind old to left → volume_passes kind (line_fits reads) old to lines ≡ true
    leaves_pass old to Unchanged is = as_one old is
    leaves_pass old to (PartStored at bytes) may = stored_pass at bytes old may
    leaves_pass old to (PartSynced start len) may =
        each_all (λ n. line_fits reads n (cell_of old n) || line_fits reads n (cell_of (persist start len old) n)) lines (λ n.
        ap (λ o. line_fits reads n (cell_of old n) || line_fits reads n o) (cell_of-persist start len old n)
        ∙ flush_fits n (persist_cell start len n) (cell_of old n) (cell_of left n) (may.each n) (fit n))
    leaves_pass old to AllOrNone (inl is) = or_left _ _ (as_one old is)
    leaves_pass old to AllOrNone (inr is) = or_right (list_all (λ n. line_fits reads n (cell_of old n)) lines) _ (as_one to is)
    leaves_pass old to PageByPage are = each_all (λ n. group_passes (line_fits reads) (λ k. k / 64) (n / 64) (cell_of old) lines || group_passes (line_fits reads) (λ k. k / 64) (n / 64) (cell_of to) lines) lines (λ n.
        elim (are.each (n / 64)) as (λ _. (group_passes (line_fits reads) (λ k. k / 64) (n / 64) (cell_of old) lines || group_passes (line_fits reads) (λ k. k / 64) (n / 64) (cell_of to) lines) ≡ true) [
          | inl same ↦ or_left _ _ (group_fits n old same)
          | inr same ↦ or_right _ _ (group_fits n to same)
        ])

  pub left_passes : (geo : Geometry) (o : Option Action) (old left : List Page) → MayLeaveVolume geo o old left → ((n : ℕ) → line_fits reads n (cell_of left n) ≡ true)
      → (lines : List ℕ) → volume_may_pass geo o (line_fits reads) old lines ≡ true
  left_passes geo None old left is fit lines = as_one left fit lines old is
  left_passes geo (Some action) old left may fit lines =
      leaves_pass left fit lines old ((meaning action).volume geo old) ((meaning action).volume_left geo) may
