-- Where a test of what may be left of pages passes, there is such a state whose lines all fit.
use Rattle.std.proofs.Common.{◌≡◌, ◌⊎◌, inl, inr, ℕ, zero, suc, ◌+◌, ◌*◌, ◌/◌, ◌%◌, ◌==◌, Bool, true, false, cond, not, ◌||◌, Option, Some, None, option_map, option_and_then, List, [], ◌∷◌, length, replicate, slice_get, refl, sym, ap, subst, ◌∙◌, arith}
use Rattle.std.proofs.lemmas.Bool.{eq-eqb}
use Rattle.line_device.specs.Medium.{word_stored}
use Rattle.word_tables.specs.declared.geometry.Geometry.{Geometry}
use Rattle.nvm_model.specs.Cell.{Cell, covers, persist_cell, put_cell, touches}
use Rattle.nvm_model.specs.Cell.Cell.{Bad, Kept}
use Rattle.nvm_model.specs.Interrupted.{Became, LineByLine, MayPut, MayStore}
use Rattle.nvm_model.specs.Numbered.{AreMixed, map_from}
use Rattle.nvm_model.specs.Page.{Page, cell_in, cell_of, fill, map_lines, persist, put}
use Rattle.nvm_model.proofs.NumberedLemmas.{length-map_from}
use Rattle.nvm_model.proofs.PageLemmas.{cell_of-map, cell_of-persist, cell_of-put, presence_of-lines}
use Rattle.script_text.specs.Action.{Action}
use Rattle.machine_model.specs.Commands.{LeavesVolume, MayLeaveVolume, meaning}
use Rattle.machine_model.specs.Meaning.{VolumeLeft}
use Rattle.machine_model.specs.Meaning.VolumeLeft.{Kept as Unchanged, PartStored, PartSynced, AllOrNone, PageByPage}
use Rattle.durable.proofs.WholeLemmas.{pages-made}
use Rattle.outcomes.specs.Left.{stored_passes, volume_may_pass, volume_passes}
use Rattle.outcomes.specs.Outcome.{HasValues, HaveValues}
use Rattle.outcomes.specs.Pages.{PageRead, line_fits}
use Rattle.outcomes.specs.Ways.{all_pass, each_passes, group_passes, groups_pass}
use Rattle.outcomes.proofs.AmongLemmas.{IsAmong, all_of}
use Rattle.outcomes.proofs.ValueLemmas.{all_map, fill_have, flushed_has, made_have, put_has}

pub either : (a b : Bool) → (a || b) ≡ true → (a ≡ true) ⊎ (b ≡ true)
either true b is = inl refl
either false b is = inr is

pub within : (same : Bool) (fits : Bool) → (not same || fits) ≡ true → same ≡ true → fits ≡ true
within true fits passes is = passes
within false fits passes is = cc is

-- each item of the one list or of the other, as c says by its number
pub mix : {A : Type 0} → (ℕ → Bool) → ℕ → List A → List A → List A
mix c n [] ys = []
mix c n (x ∷ xs) [] = x ∷ xs
mix c n (x ∷ xs) (y ∷ ys) = cond (c n) x y ∷ mix c (suc n) xs ys

pub length-mix : {A : Type 0} (c : ℕ → Bool) (n : ℕ) (xs ys : List A) → length (mix c n xs ys) ≡ length xs
unfolding mix
length-mix c n [] ys = refl
length-mix c n (x ∷ xs) [] = refl
length-mix c n (x ∷ xs) (y ∷ ys) = ap suc (length-mix c (suc n) xs ys)

pub mix_each : {A : Type 0} (c : ℕ → Bool) (n : ℕ) (xs ys : List A) (i : ℕ) → (slice_get (mix c n xs ys) i ≡ slice_get xs i) ⊎ (slice_get (mix c n xs ys) i ≡ slice_get ys i)
unfolding mix
mix_each c n [] ys i = inl refl
mix_each c n (x ∷ xs) [] i = inl refl
mix_each c n (x ∷ xs) (y ∷ ys) zero = by_choice (c n)
  where
    by_choice : (b : Bool) → (Some (cond b x y) ≡ Some x) ⊎ (Some (cond b x y) ≡ Some y)
    by_choice true = inl refl
    by_choice false = inr refl
mix_each c n (x ∷ xs) (y ∷ ys) (suc i) = mix_each c (suc n) xs ys i

-- an item that was taken from the first, and one from the second of two lists that are as long
pub mix_first : {A : Type 0} (c : ℕ → Bool) (n : ℕ) (xs ys : List A) (i : ℕ) → c (n + i) ≡ true → slice_get (mix c n xs ys) i ≡ slice_get xs i
unfolding mix
mix_first c n [] ys i is = refl
mix_first c n (x ∷ xs) [] i is = refl
mix_first c n (x ∷ xs) (y ∷ ys) zero is = let at : n + 0 ≡ n = omega arith in ap (λ b. Some (cond b x y)) (sym (ap c at) ∙ is)
mix_first c n (x ∷ xs) (y ∷ ys) (suc i) is = mix_first c (suc n) xs ys i (let at : suc n + i ≡ n + suc i = omega arith in ap c at ∙ is)

pub mix_second : {A : Type 0} (c : ℕ → Bool) (n : ℕ) (xs ys : List A) (i : ℕ) → length ys ≡ length xs → c (n + i) ≡ false → slice_get (mix c n xs ys) i ≡ slice_get ys i
unfolding mix
mix_second c n [] [] i size is = refl
mix_second c n [] (y ∷ ys) i size is = cc size
mix_second c n (x ∷ xs) [] i size is = cc size
mix_second c n (x ∷ xs) (y ∷ ys) zero size is = let at : n + 0 ≡ n = omega arith in ap (λ b. Some (cond b x y)) (sym (ap c at) ∙ is)
mix_second c n (x ∷ xs) (y ∷ ys) (suc i) size is =
    mix_second c (suc n) xs ys i (cc size) (let at : suc n + i ≡ n + suc i = omega arith in ap c at ∙ is)

-- the words of a line as they were, and as they all are stored to
none_mixed : (A : Type 0) (one other : List A) → AreMixed A one other one
none_mixed A one other = record { length = refl; each = λ i. inl refl }

all_mixed : (A : Type 0) (one other : List A) → length other ≡ length one → AreMixed A one other other
all_mixed A one other size = record { length = size; each = λ i. inr refl }

-- a line may be left as it was, or as it is put
pub may_leave : (at : ℕ) (bytes : List ℕ) (n : ℕ) (cell : Cell) → MayPut at bytes n cell cell
may_leave at bytes n Bad = inl refl
may_leave at bytes n (Kept weak words) = (refl, none_mixed (List ℕ) words (map_from (word_stored at bytes) (8 * n) words))

pub may_put : (at : ℕ) (bytes : List ℕ) (n : ℕ) (cell : Cell) → MayPut at bytes n cell (put_cell at bytes n cell)
may_put at bytes n Bad = by_test (covers at (length bytes) n) refl
  where
    zeros : List (List ℕ)
    zeros = replicate 8 (0 ∷ [])

    by_test : (b : Bool) → covers at (length bytes) n ≡ b → MayPut at bytes n Bad (cond b (Kept false (map_from (word_stored at bytes) (8 * n) (replicate 8 (0 ∷ [])))) Bad)
    by_test true covered =
        inr (covered, (refl, all_mixed (List ℕ) (replicate 8 (0 ∷ [])) (map_from (word_stored at bytes) (8 * n) (replicate 8 (0 ∷ []))) (length-map_from (word_stored at bytes) (8 * n) (replicate 8 (0 ∷ [])))))
    by_test false out = inl refl
may_put at bytes n (Kept weak words) =
    (refl, all_mixed (List ℕ) words (map_from (word_stored at bytes) (8 * n) words) (length-map_from (word_stored at bytes) (8 * n) words))

module _ (reads : List PageRead) where
  -- the cell as it was where that fits, and else as it is made
  abbrev pub keep : (ℕ → Cell → Cell) → ℕ → Cell → Cell
  keep made n cell = cond (line_fits reads n (Some cell)) cell (made n cell)

  pub keep_fits : (made : ℕ → Cell → Cell) (n : ℕ) (o : Option Cell) → (line_fits reads n o || line_fits reads n (option_map (made n) o)) ≡ true
      → line_fits reads n (option_map (keep made n) o) ≡ true
  keep_fits made n None passes = elim (either (line_fits reads n None) (line_fits reads n None) passes) as (λ _. line_fits reads n None ≡ true) [ inl is ↦ is | inr is ↦ is ]
  keep_fits made n (Some cell) passes = by_fit (line_fits reads n (Some cell)) refl passes
    where
      by_fit : (b : Bool) → line_fits reads n (Some cell) ≡ b → (b || line_fits reads n (Some (made n cell))) ≡ true → line_fits reads n (Some (cond b cell (made n cell))) ≡ true
      by_fit true is either_way = is
      by_fit false is either_way = either_way

  pub keep_has : (made : ℕ → Cell → Cell) → ((n : ℕ) (cell : Cell) → HasValues cell → HasValues (made n cell)) → (n : ℕ) (cell : Cell) → HasValues cell → HasValues (keep made n cell)
  keep_has made each n cell has = by_fit (line_fits reads n (Some cell))
    where
      by_fit : (b : Bool) → HasValues (cond b cell (made n cell))
      by_fit true = has
      by_fit false = each n cell has

  -- lines that are kept or made one by one
  pub keep_lines : (R : ℕ → Cell → Cell → Type 0) (made : ℕ → Cell → Cell) (old : List Page) → ((n : ℕ) (cell : Cell) → R n cell cell) → ((n : ℕ) (cell : Cell) → R n cell (made n cell))
      → LineByLine R old (map_from (map_lines (keep made)) 0 old)
  keep_lines R made old same new = record {
    there = presence_of-lines (keep made) 0 old;
    each = λ n. subst (Became (R n) (cell_of old n)) (sym (cell_of-map (keep made) old n)) (by_cell n (cell_of old n));
  }
    where
      by_fit : (n : ℕ) (cell : Cell) (b : Bool) → R n cell (cond b cell (made n cell))
      by_fit n cell true = same n cell
      by_fit n cell false = new n cell

      by_cell : (n : ℕ) (o : Option Cell) → Became (R n) o (option_map (keep made n) o)
      by_cell n None = tt
      by_cell n (Some cell) = by_fit n cell (line_fits reads n (Some cell))

  module _ (lines : List ℕ) where
    -- pages that may be left of these, and whose lines fit
    pub record Leaves (May : List Page → Type 0) : Type 0 where
      pub left : List Page
      pub may : May left
      pub fit : (n : ℕ) → IsAmong n lines → line_fits reads n (cell_of left n) ≡ true
      pub values : HaveValues left

    as_it_is : (May : List Page → Type 0) (pages : List Page) → May pages → HaveValues pages → all_pass (line_fits reads) (cell_of pages) lines ≡ true → Leaves May
    as_it_is May pages may have passes =
        record { left = pages; may = may; fit = λ n among. all_of (λ k. line_fits reads k (cell_of pages k)) n lines passes among; values = have }

    line_by_line : (May : List Page → Type 0) (made : ℕ → Cell → Cell) (old other : List Page) → May (map_from (map_lines (keep made)) 0 old)
        → ((n : ℕ) → cell_of other n ≡ option_map (made n) (cell_of old n)) → HaveValues old → ((n : ℕ) (cell : Cell) → HasValues cell → HasValues (made n cell))
        → each_passes (line_fits reads) (cell_of old) (cell_of other) lines ≡ true → Leaves May
    line_by_line May made old other may are have each passes = record {
      left = map_from (map_lines (keep made)) 0 old;
      may = may;
      fit = λ n among. ap (line_fits reads n) (cell_of-map (keep made) old n) ∙ keep_fits made n (cell_of old n)
          (sym (ap (λ o. line_fits reads n (cell_of old n) || line_fits reads n o) (are n))
          ∙ all_of (λ k. line_fits reads k (cell_of old k) || line_fits reads k (cell_of other k)) n lines passes among);
      values = all_map (keep made) old (keep_has made each) have;
    }

    stored : (at : ℕ) (bytes : List ℕ) (old : List Page) → HaveValues old → stored_passes at bytes (line_fits reads) old lines ≡ true → Leaves (MayStore at bytes old)
    stored at bytes old have passes =
        elim (either (all_pass (line_fits reads) (cell_of old) lines) (each_passes (line_fits reads) (cell_of (fill at (length bytes) old)) (cell_of (put at bytes (fill at (length bytes) old))) lines) passes) as (λ _. Leaves (MayStore at bytes old)) [
          | inl none ↦ as_it_is (MayStore at bytes old) old (inl refl) have none
          | inr part ↦ line_by_line (MayStore at bytes old) (put_cell at bytes) (fill at (length bytes) old) (put at bytes (fill at (length bytes) old))
              (inr (keep_lines (MayPut at bytes) (put_cell at bytes) (fill at (length bytes) old) (may_leave at bytes) (may_put at bytes)))
              (cell_of-put at bytes (fill at (length bytes) old)) (fill_have at (length bytes) old have) (λ n cell has. put_has at bytes n cell has) part
        ]

    -- page by page
    chosen_pages : List Page → ℕ → Bool
    chosen_pages old i = group_passes (line_fits reads) (λ n. n / 64) i (cell_of old) lines

    page_by_page : (old to : List Page) → length to ≡ length old → HaveValues old → HaveValues to
        → groups_pass (line_fits reads) (λ n. n / 64) (cell_of old) (cell_of to) lines ≡ true → Leaves (AreMixed Page old to)
    unfolding chosen_pages
    page_by_page old to size have have_to passes = record {
      left = mixed;
      may = record { length = length-mix (chosen_pages old) 0 old to; each = mix_each (chosen_pages old) 0 old to };
      fit = λ n among. by_choice n among (chosen_pages old (n / 64)) refl;
      values = λ n cell is. by_origin n cell is (mix_each (chosen_pages old) 0 old to (n / 64));
    }
      where
        mixed : List Page
        mixed = mix (chosen_pages old) 0 old to

        line_in : ℕ → Option Page → Option Cell
        line_in n o = option_and_then (λ page. cell_in page (n % 64)) o

        by_origin : (n : ℕ) (cell : Cell) → cell_of mixed n ≡ Some cell → (slice_get mixed (n / 64) ≡ slice_get old (n / 64)) ⊎ (slice_get mixed (n / 64) ≡ slice_get to (n / 64)) → HasValues cell
        by_origin n cell is (inl same) = have n cell (sym (ap (line_in n) same) ∙ is)
        by_origin n cell is (inr same) = have_to n cell (sym (ap (line_in n) same) ∙ is)

        in_group : (n : ℕ) (pages : List Page) → IsAmong n lines → group_passes (line_fits reads) (λ k. k / 64) (n / 64) (cell_of pages) lines ≡ true → line_fits reads n (cell_of pages n) ≡ true
        in_group n pages among group =
            within (n / 64 == n / 64) (line_fits reads n (cell_of pages n)) (all_of (λ k. not (k / 64 == n / 64) || line_fits reads k (cell_of pages k)) n lines group among) (eq-eqb (n / 64) (n / 64) refl)

        by_choice : (n : ℕ) → IsAmong n lines → (b : Bool) → chosen_pages old (n / 64) ≡ b → line_fits reads n (cell_of mixed n) ≡ true
        by_choice n among true is =
            let at : 0 + n / 64 ≡ n / 64 = omega arith in
            let same : cell_of mixed n ≡ cell_of old n = ap (line_in n) (mix_first (chosen_pages old) 0 old to (n / 64) (ap (chosen_pages old) at ∙ is)) in
            ap (line_fits reads n) same ∙ in_group n old among is
        by_choice n among false is =
            let at : 0 + n / 64 ≡ n / 64 = omega arith in
            let same : cell_of mixed n ≡ cell_of to n = ap (line_in n) (mix_second (chosen_pages old) 0 old to (n / 64) size (ap (chosen_pages old) at ∙ is)) in
            ap (line_fits reads n) same ∙ in_group n to among
            (sym (ap (λ b. b || group_passes (line_fits reads) (λ k. k / 64) (n / 64) (cell_of to) lines) is)
            ∙ all_of (λ k. group_passes (line_fits reads) (λ m. m / 64) (k / 64) (cell_of old) lines || group_passes (line_fits reads) (λ m. m / 64) (k / 64) (cell_of to) lines) n lines passes among)

    by_kind : (kind : VolumeLeft) (old to : List Page) → length to ≡ length old → HaveValues old → HaveValues to → volume_passes kind (line_fits reads) old to lines ≡ true
        → Leaves (LeavesVolume kind old to)
    by_kind Unchanged old to size have have_to passes = as_it_is (λ left. left ≡ old) old refl have passes
    by_kind (PartStored at bytes) old to size have have_to passes = stored at bytes old have passes
    by_kind (PartSynced start len) old to size have have_to passes =
        line_by_line (LeavesVolume (PartSynced start len) old to) (persist_cell start len) old (persist start len old)
        (keep_lines (λ n cell new. (new ≡ cell) ⊎ (new ≡ persist_cell start len n cell)) (persist_cell start len) old (λ n cell. inl refl) (λ n cell. inr refl))
        (cell_of-persist start len old) have (λ n cell has. flushed_has (touches start len n) cell has) passes
    by_kind AllOrNone old to size have have_to passes =
        elim (either (all_pass (line_fits reads) (cell_of old) lines) (all_pass (line_fits reads) (cell_of to) lines) passes) as (λ _. Leaves (LeavesVolume AllOrNone old to)) [
          | inl none ↦ as_it_is (LeavesVolume AllOrNone old to) old (inl refl) have none
          | inr all ↦ as_it_is (LeavesVolume AllOrNone old to) to (inr refl) have_to all
        ]
    by_kind PageByPage old to size have have_to passes = page_by_page old to size have have_to passes

    pub volume_left : (geo : Geometry) (o : Option Action) (old : List Page) → HaveValues old → volume_may_pass geo o (line_fits reads) old lines ≡ true → Leaves (MayLeaveVolume geo o old)
    volume_left geo None old have passes = as_it_is (λ left. left ≡ old) old refl have passes
    volume_left geo (Some action) old have passes =
        by_kind ((meaning action).volume_left geo) old ((meaning action).volume geo old) (pages-made geo action old) have (made_have geo action old have) passes
