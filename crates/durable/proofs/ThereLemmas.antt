-- Pages that are there have their lines, whatever is done to them.
use Rattle.std.proofs.Common.{◌≡◌, ◌⊎◌, inl, inr, ℕ, zero, suc, ◌+◌, ◌*◌, ◌/◌, ◌%◌, ◌==◌, Bool, true, false, cond, Option, Some, None, option_map, List, [], ◌∷◌, length, replicate, slice_get, slice_index_or, refl, sym, ap, subst, ◌∙◌, arith}
use Rattle.std.proofs.lemmas.List.{length-map}
use Rattle.nvm_base.specs.declared.units.Span.{Span}
use Rattle.line_device.specs.History.{latest}
use Rattle.line_device.specs.Medium.{word_stored}
use Rattle.line_device.specs.Panel.{Image}
use Rattle.word_tables.specs.declared.geometry.Geometry.{Geometry}
use Rattle.nvm_model.specs.Numbered.{AreMixed, is_among, list_from, map_from}
use Rattle.nvm_model.specs.Interrupted.{Became, LineByLine, MayPersist, MayPersistTouched, MayPut, MaySyncAll}
use Rattle.nvm_model.specs.Cell.{Cell, clear_cell, covers, flush_cell, lose_cell, put_cell, touches, weaken_cell, zero_cell}
use Rattle.nvm_model.specs.Cell.Cell.{Bad, Kept}
use Rattle.nvm_model.specs.Page.{Page, at_line, cell_in, cell_of, change_line, discard, discard_page, fill, fill_page, is_present, persist, presence_of, put, read_pages, touches_page}
use Rattle.nvm_model.specs.Page.Page.{Absent as Missing, Present}
use Rattle.nvm_model.specs.Touched.{persist_spans, touches_any}
use Rattle.nvm_model.proofs.NumberedLemmas.{length-list_from, length-map_from, slice_get-map_from}
use Rattle.nvm_model.proofs.PageLemmas.{cell_of-persist, cell_of-put, cell_of-read_pages, presence_of-persist, presence_of-put, presence_of-read_pages}
use Rattle.nvm_model.proofs.MediaLemmas.{cell_of-change, presence_of-change}
use Rattle.nvm_model.proofs.SeveralLemmas.{cell_of-spans, presence_of-spans}
use Rattle.script_text.specs.Action.{Action}
use Rattle.script_text.specs.Action.Action.{VStore, VSync, VPSync, VDiscard, VDiscardIf, PoisonVolume, WeakenVolume, ClearVolume}
use Rattle.machine_model.specs.Commands.{LeavesVolume, MayLeaveVolume, meaning}
use Rattle.machine_model.specs.Meaning.{VolumeLeft}
use Rattle.machine_model.specs.Meaning.VolumeLeft.{Kept as Unchanged, PartStored, PartSynced, AllOrNone, PageByPage}
use Rattle.machine_model.specs.OnVolume.{persist_at}
use Rattle.pm_volume.specs.Refusals.{physical_offset}
use Rattle.durable.specs.Durable.{HaveLines, IsLineThere}
use Rattle.durable.proofs.PresenceLemmas.{has_lines, line_in, page_present, zero_at}
use Rattle.durable.proofs.StepKinds.{volume_after}

there-flush : (touched : Bool) (cell : Cell) → IsLineThere (Some cell) → IsLineThere (Some (cond touched (flush_cell cell) cell))
there-flush false cell size = size
there-flush true Bad size = tt
there-flush true (Kept true words) size = tt
there-flush true (Kept false words) size = length-map words latest ∙ size

there-put : (at n : ℕ) (bytes : List ℕ) (o : Option Cell) → IsLineThere o → IsLineThere (option_map (put_cell at bytes n) o)
there-put at n bytes None there = there
there-put at n bytes (Some (Kept weak words)) there = length-map_from (word_stored at bytes) (8 * n) words ∙ there
there-put at n bytes (Some Bad) there = by_test (covers at (length bytes) n)
  where
    by_test : (b : Bool) → IsLineThere (Some (cond b (Kept false (map_from (word_stored at bytes) (8 * n) (replicate 8 (0 ∷ [])))) Bad))
    by_test true = length-map_from (word_stored at bytes) (8 * n) (replicate 8 (0 ∷ []))
    by_test false = tt

-- pages each of which was changed by its number
pub by_pages : (f : ℕ → Page → Page) (pages : List Page) → HaveLines pages
    → ((i n : ℕ) (page : Page) → (is_present page ≡ true → IsLineThere (cell_in page (n % 64))) → is_present (f i page) ≡ true → IsLineThere (cell_in (f i page) (n % 64)))
    → HaveLines (map_from f 0 pages)
by_pages f pages whole each n there =
    subst (λ o. IsLineThere (line_in n o)) (sym found)
    (by_page (slice_get pages (n / 64)) refl (sym (ap has_lines found) ∙ sym (page_present (map_from f 0 pages) n) ∙ there))
  where
    found : slice_get (map_from f 0 pages) (n / 64) ≡ option_map (f (0 + n / 64)) (slice_get pages (n / 64))
    found = slice_get-map_from f 0 pages (n / 64)

    by_page : (o : Option Page) → slice_get pages (n / 64) ≡ o → has_lines (option_map (f (0 + n / 64)) o) ≡ true
        → IsLineThere (line_in n (option_map (f (0 + n / 64)) o))
    by_page None is none = cc none
    by_page (Some page) is some = each (0 + n / 64) n page (λ was. subst (λ o. IsLineThere (line_in n o)) is (whole n (page_present pages n ∙ ap has_lines is ∙ was))) some

pub lines-fill : (at len : ℕ) (pages : List Page) → HaveLines pages → HaveLines (fill at len pages)
unfolding fill
lines-fill at len pages whole = by_pages (fill_page at len) pages whole by_page
  where
    by_page : (i n : ℕ) (page : Page) → (is_present page ≡ true → IsLineThere (cell_in page (n % 64))) → is_present (fill_page at len i page) ≡ true
        → IsLineThere (cell_in (fill_page at len i page) (n % 64))
    by_page i n Missing was there = by_test (touches_page at len i) there
      where
        by_test : (t : Bool) → is_present (cond t (Present (replicate 64 zero_cell)) Missing) ≡ true → IsLineThere (cell_in (cond t (Present (replicate 64 zero_cell)) Missing) (n % 64))
        by_test true there = subst IsLineThere (sym (zero_at 64 (n % 64) (omega arith))) refl
        by_test false none = cc none
    by_page i n (Present cells) was there = was refl

pub lines-discard : (first count : ℕ) (pages : List Page) → HaveLines pages → HaveLines (discard first count pages)
unfolding discard
lines-discard first count pages whole = by_pages (discard_page first count) pages whole by_page
  where
    by_page : (i n : ℕ) (page : Page) → (is_present page ≡ true → IsLineThere (cell_in page (n % 64))) → is_present (discard_page first count i page) ≡ true
        → IsLineThere (cell_in (discard_page first count i page) (n % 64))
    by_page i n page was there = by_test (is_among first count i) there
      where
        by_test : (t : Bool) → is_present (cond t Missing page) ≡ true → IsLineThere (cell_in (cond t Missing page) (n % 64))
        by_test true none = cc none
        by_test false there = was there

-- pages of which the same are there, and each line is flushed where this tells it
lines-flush : (touched : ℕ → Bool) (pages new : List Page) → presence_of new ≡ presence_of pages
    → ((n : ℕ) → cell_of new n ≡ option_map (λ cell. cond (touched n) (flush_cell cell) cell) (cell_of pages n)) → HaveLines pages → HaveLines new
lines-flush touched pages new same line whole n there =
    subst IsLineThere (sym (line n)) (by_cell (cell_of pages n) (whole n (ap (λ bs. slice_index_or bs (n / 64) false) (sym same) ∙ there)))
  where
    by_cell : (o : Option Cell) → IsLineThere o → IsLineThere (option_map (λ cell. cond (touched n) (flush_cell cell) cell) o)
    by_cell None none = none
    by_cell (Some cell) size = there-flush (touched n) cell size

lines-persist : (start len : ℕ) (pages : List Page) → HaveLines pages → HaveLines (persist start len pages)
lines-persist start len pages whole =
    lines-flush (touches start len) pages (persist start len pages) (presence_of-persist start len pages) (cell_of-persist start len pages) whole

pub lines-spans : (spans : List Span) (pages : List Page) → HaveLines pages → HaveLines (persist_spans spans pages)
lines-spans spans pages whole = lines-flush (touches_any spans) pages (persist_spans spans pages) (presence_of-spans spans pages) (cell_of-spans spans pages) whole

pub lines-put : (at : ℕ) (bytes : List ℕ) (pages : List Page) → HaveLines pages → HaveLines (put at bytes pages)
lines-put at bytes pages whole n there =
    subst IsLineThere (sym (cell_of-put at bytes pages n))
    (there-put at n bytes (cell_of pages n) (whole n (ap (λ bs. slice_index_or bs (n / 64) false) (sym (presence_of-put at bytes pages)) ∙ there)))

lines-persist_at : (o : Option ℕ) (len : ℕ) (pages : List Page) → HaveLines pages → HaveLines (persist_at o len pages)
lines-persist_at None len pages whole = whole
lines-persist_at (Some start) len pages whole = lines-persist start len pages whole

pub is_there : (there : List Bool) (k : ℕ) → slice_index_or there k false ≡ true → slice_get there k ≡ Some true
is_there [] k none = cc none
is_there (b ∷ there) zero is = ap Some is
is_there (b ∷ there) (suc k) is = is_there there k is

pub lines-read : (place : ℕ → ℕ) (image : Image) (there : List Bool) → HaveLines (read_pages place image there)
lines-read place image there n present =
    subst IsLineThere (sym (cell_of-read_pages place image there n (is_there there (n / 64) at))) (by_mark (image.is_bad (place n)))
  where
    at : slice_index_or there (n / 64) false ≡ true
    at = ap (λ bs. slice_index_or bs (n / 64) false) (sym (presence_of-read_pages place image there)) ∙ present

    by_mark : (b : Bool) → IsLineThere (Some (cond b Bad (Kept (image.is_weak (place n)) (list_from (λ p. image.word p ∷ []) (8 * place n) 8))))
    by_mark true = tt
    by_mark false = length-list_from (λ p. image.word p ∷ []) (8 * place n) 8

pub lines-change : (f : Cell → Cell) (n : ℕ) (pages : List Page) → ((cell : Cell) → IsLineThere (Some cell) → IsLineThere (Some (f cell))) → HaveLines pages
    → HaveLines (change_line f n pages)
lines-change f n pages each whole k there =
    subst IsLineThere (sym (cell_of-change f n pages k))
    (by_cell (cell_of pages k) (whole k (ap (λ bs. slice_index_or bs (k / 64) false) (sym (presence_of-change f n pages)) ∙ there)))
  where
    by_test : (b : Bool) (cell : Cell) → IsLineThere (Some cell) → IsLineThere (Some (cond b (f cell) cell))
    by_test true cell has = each cell has
    by_test false cell has = has

    by_cell : (o : Option Cell) → IsLineThere o → IsLineThere (option_map (at_line f n k) o)
    by_cell None none = absurd none
    by_cell (Some cell) has = by_test (k == n) cell has

pub there-weaken : (cell : Cell) → IsLineThere (Some cell) → IsLineThere (Some (weaken_cell cell))
there-weaken Bad has = tt
there-weaken (Kept weak words) has = has

pub there-clear : (cell : Cell) → IsLineThere (Some cell) → IsLineThere (Some (clear_cell cell))
there-clear Bad has = refl
there-clear (Kept weak words) has = has

lines-made : (geo : Geometry) (action : Action) (pages : List Page) → HaveLines pages → HaveLines ((meaning action).volume geo pages)
lines-made geo (VStore offset bytes) pages whole = lines-put offset bytes (fill offset (length bytes) pages) (lines-fill offset (length bytes) pages whole)
lines-made geo (VSync offset len) pages whole = lines-persist offset len pages whole
lines-made geo (VPSync address len) pages whole = lines-persist_at (physical_offset geo address len) len pages whole
lines-made geo (VDiscard page count) pages whole = lines-discard page count pages whole
lines-made geo (VDiscardIf page count) pages whole = lines-discard page count pages whole
lines-made geo (ClearVolume offset) pages whole = lines-change clear_cell (offset / 64) pages there-clear whole
lines-made geo action pages whole = whole

pub lines-altered : (geo : Geometry) (action : Action) (pages : List Page) → HaveLines pages → HaveLines (volume_after geo action pages)
lines-altered geo (PoisonVolume offset) pages whole = lines-change lose_cell (offset / 64) pages (λ cell has. tt) whole
lines-altered geo (WeakenVolume offset) pages whole = lines-change weaken_cell (offset / 64) pages there-weaken whole
lines-altered geo action pages whole = lines-made geo action pages whole

-- pages that an interruption leaves
became : (R : Cell → Cell → Type 0) (old new : Option Cell) → ((cell c : Cell) → IsLineThere (Some cell) → R cell c → IsLineThere (Some c)) → IsLineThere old → Became R old new
    → IsLineThere new
became R None new each there may = absurd there
became R (Some old) None each there may = absurd may
became R (Some old) (Some new) each there may = each old new there may

by_lines : (R : ℕ → Cell → Cell → Type 0) (pages left : List Page) → ((n : ℕ) (cell c : Cell) → IsLineThere (Some cell) → R n cell c → IsLineThere (Some c))
    → HaveLines pages → LineByLine R pages left → HaveLines left
by_lines R pages left each whole lines n there =
    became (R n) (cell_of pages n) (cell_of left n) (each n) (whole n (ap (λ bs. slice_index_or bs (n / 64) false) (sym lines.there) ∙ there)) (lines.each n)

there-may_put : (at : ℕ) (bytes : List ℕ) (n : ℕ) (cell c : Cell) → IsLineThere (Some cell) → MayPut at bytes n cell c → IsLineThere (Some c)
there-may_put at bytes n Bad c there (inl is) = subst (λ o. IsLineThere (Some o)) {x = Bad} (sym is) tt
there-may_put at bytes n Bad Bad there (inr may) = tt
there-may_put at bytes n Bad (Kept mark mixed) there (inr may) = may.1.1.length
there-may_put at bytes n (Kept weak words) Bad there may = tt
there-may_put at bytes n (Kept weak words) (Kept mark mixed) there may = may.1.length ∙ there

there-may_flush : (touched : Bool) (cell c : Cell) → IsLineThere (Some cell) → (c ≡ cell) ⊎ (c ≡ cond touched (flush_cell cell) cell) → IsLineThere (Some c)
there-may_flush touched cell c there (inl is) = subst (λ o. IsLineThere (Some o)) {x = cell} (sym is) there
there-may_flush touched cell c there (inr is) =
    subst (λ o. IsLineThere (Some o)) {x = cond touched (flush_cell cell) cell} (sym is) (there-flush touched cell there)

pub lines-may_spans : (spans : List Span) (pages new : List Page) → HaveLines pages → MaySyncAll spans pages new → HaveLines new
lines-may_spans spans pages new whole lines = by_lines (MayPersistTouched spans) pages new (λ n cell c there may. there-may_flush (touches_any spans n) cell c there may) whole lines

lines-mixed : (pages to left : List Page) → HaveLines pages → HaveLines to → AreMixed Page pages to left → HaveLines left
lines-mixed pages to left whole made may n there = elim (may.each (n / 64)) as (λ _. IsLineThere (cell_of left n)) [ inl is ↦ taken pages whole is | inr is ↦ taken to made is ]
  where
    taken : (other : List Page) → HaveLines other → slice_get left (n / 64) ≡ slice_get other (n / 64) → IsLineThere (cell_of left n)
    taken other has is =
        subst (λ o. IsLineThere (line_in n o)) (sym is) (has n (page_present other n ∙ ap has_lines (sym is) ∙ sym (page_present left n) ∙ there))

pub lines-leaves : (left : VolumeLeft) (pages to new : List Page) → HaveLines pages → HaveLines to → LeavesVolume left pages to new → HaveLines new
lines-leaves Unchanged pages to new whole made is = subst HaveLines {x = pages} (sym is) whole
lines-leaves (PartStored offset bytes) pages to new whole made (inl is) = subst HaveLines {x = pages} (sym is) whole
lines-leaves (PartStored offset bytes) pages to new whole made (inr lines) =
    by_lines (MayPut offset bytes) (fill offset (length bytes) pages) new (there-may_put offset bytes) (lines-fill offset (length bytes) pages whole) lines
lines-leaves (PartSynced offset len) pages to new whole made lines = by_lines (MayPersist offset len) pages new (λ n cell c there may. there-may_flush (touches offset len n) cell c there may) whole lines
lines-leaves AllOrNone pages to new whole made (inl is) = subst HaveLines {x = pages} (sym is) whole
lines-leaves AllOrNone pages to new whole made (inr is) = subst HaveLines {x = to} (sym is) made
lines-leaves PageByPage pages to new whole made may = lines-mixed pages to new whole made may

pub lines-left : (geo : Geometry) (o : Option Action) (pages new : List Page) → HaveLines pages → MayLeaveVolume geo o pages new → HaveLines new
lines-left geo None pages new whole is = subst HaveLines {x = pages} (sym is) whole
lines-left geo (Some action) pages new whole may =
    lines-leaves ((meaning action).volume_left geo) pages ((meaning action).volume geo pages) new whole (lines-made geo action pages whole) may
