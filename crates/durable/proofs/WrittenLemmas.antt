-- What was written is what lasts.
use Rattle.std.proofs.Common.{◌≡◌, inl, inr, ℕ, not, ◌&&◌, ◌||◌, ◌==◌, ◌+◌, ◌-◌, ◌*◌, ◌/◌, ◌%◌, ◌<◌, ◌≤◌, Bool, true, false, cond, Option, Some, None, option_map, option_and_then, List, [], ◌∷◌, length, replicate, get_or, nat_lt, slice_get, slice_index_or, refl, sym, ap, subst, ◌∙◌, arith}
use Rattle.std.specs.Prelude.{slice_index}
use Rattle.std.proofs.lemmas.Bool.{both_ways, eq-eqb, eqb-false}
use Rattle.std.proofs.lemmas.Bool.Decides.{nat_tests}
use Rattle.std.proofs.lemmas.Option.{get_or_from_slice_get, slice_get-get_or}
use Rattle.line_device.specs.Medium.{word_stored}
use Rattle.line_device.proofs.WordLemmas.{byte_over-in}
use Rattle.nvm_model.specs.Blocks.{data_from, first_there, nth, write, write_block}
use Rattle.nvm_model.specs.Cell.{Cell, TakesPut, cell_byte, clear_cell, zero_cell, covers as holds_line, flush_cell, persist_cell, put_cell, touches}
use Rattle.nvm_model.specs.Cell.Cell.{Bad, Kept}
use Rattle.nvm_model.specs.Numbered.{is_among, list_from, map_from}
use Rattle.nvm_model.specs.Page.{Page, byte_in, cell_in, cell_of, change_line, fill, fill_page, first_bad_line, first_uncovered_line, is_bad_cell, is_present, persist, presence_of, put, touches_page}
use Rattle.nvm_model.specs.Page.Page.{Absent as Missing, Present}
use Rattle.nvm_model.specs.Storage.{Block}
use Rattle.nvm_model.specs.Storage.Block.{Absent}
use Rattle.nvm_model.proofs.NumberedLemmas.{slice_get-list_from, slice_get-map_from}
use Rattle.nvm_model.proofs.PageLemmas.{cell_of-fill, cell_of-persist, cell_of-put}
use Rattle.nvm_model.proofs.FillLemmas.{presence_of-fill}
use Rattle.std.proofs.lemmas.List.{length-map}
use Rattle.word_tables.specs.declared.geometry.Geometry.{Geometry}
use Rattle.nvm_model.proofs.MediaLemmas.{cell_of-changed}
use Rattle.page_lines.proofs.SearchLemmas.{none_touched}
use Rattle.pm_volume.specs.Refusals.{VolumeRefusal, extent_refusal, physical_offset, poisoned_at, refused_if}
use Rattle.pm_volume.specs.Refusals.VolumeRefusal.{Range as Past, Length as Empty}
use Rattle.nvm_model.proofs.PutLemmas.{byte_in-put}
use Rattle.block_device.specs.Refusals.{Refusal, blocks_touched, bytes_refusal, where_}
use Rattle.block_device.specs.Refusals.Refusal.{Range, Limit}
use Rattle.reply_text.specs.Answer.{Answer}
use Rattle.reply_text.specs.Answer.Answer.{Done}
use Rattle.script_text.specs.Action.{Action}
use Rattle.script_text.specs.Action.Action.{BWrite, BAtomic, VStore, VSync, VPSync, ClearVolume}
use Rattle.machine_model.specs.Machine.{Machine}
use Rattle.machine_model.specs.Machine.Fate.{Works}
use Rattle.machine_model.specs.Commands.{meaning, refusal, unless_refused}
use Rattle.machine_model.specs.OnBlocks.{refusal_answer}
use Rattle.machine_model.specs.OnVolume.{persist_at, volume_answer}
use Rattle.machine_model.specs.Run.{Takes}
use Rattle.durable.specs.Place.{block_has, byte_at_place, is_line_present, is_weak_line, line_has}
use Rattle.durable.specs.Place.Place.{of_volume, of_blocks}
use Rattle.durable.specs.Region.{touched_lines_at}
use Rattle.durable.specs.Touching.{is_made_durable}
use Rattle.durable.specs.Durable.{Does, HaveLines, IsComplete, IsLineThere, Lasts, LastsPowered}
use Rattle.script_text.specs.Script.Input.{Asked}
use Rattle.durable.proofs.PresenceLemmas.{has_lines, line_in, page_present, zero_at}
use Rattle.durable.proofs.RefusalLemmas.{first_none, is_on, places_none, refused_told, unreadable_none}
use Rattle.durable.proofs.RefusedAnswerLemmas.{is_refused}
use Rattle.durable.proofs.CoverLemmas.{was_bad}
use Rattle.durable.proofs.LawLemmas.{durable, lasts_powered, stop_done}
use Rattle.durable.proofs.LineLemmas.{flush_shown, zero_shown}
use Rattle.durable.proofs.ThereLemmas.{lines-fill}
use Rattle.durable.proofs.WholeLemmas.{counted_on, whole-heard}

-- a command that was done
pub works_done : (h : Machine) (action : Action) (to next : Machine) → (meaning action).comes h ≡ Works Done to → Does h action next → (refusal h action ≡ None) × (next ≡ to)
works_done h action to next works does = by_refusal (refusal h action) refl does.came
  where
    by_refusal : (o : Option Answer) → refusal h action ≡ o → Takes h action (unless_refused h o ((meaning action).comes h)) does.said next
        → (refusal h action ≡ None) × (next ≡ to)
    by_refusal (Some answer) is took =
        let same : answer ≡ Done = cc (ap (λ s. s.answers) took.0, does.done) in
        absurd (both_ways (is_refused answer) (ap is_refused same) (refused_told h action answer is))
    by_refusal None is took =
        let t = subst (λ f. Takes h action f does.said next) works took in
        let same : t.0 ≡ Done = cc (ap (λ s. s.answers) t.1, does.done) in
        elim t.2 as (λ _. (refusal h action ≡ None) × (next ≡ to)) [ inl end ↦ (is, end.1) | inr end ↦ absurd (stop_done end.0 (sym same ∙ end.1)) ]

-- blocks that are there
blocks_none : (o : Option Refusal) → option_map refusal_answer o ≡ None → o ≡ None
blocks_none None none = refl
blocks_none (Some why) none = cc none

bytes_within : (count block len : ℕ) → bytes_refusal count block len ≡ None → block + len / 512 ≤ count
bytes_within count block len none = by_test (nat_lt count (block + blocks_touched len)) refl (first_none (where_ (nat_lt count (block + blocks_touched len)) Range) _ none).0
  where
    by_test : (b : Bool) → nat_lt count (block + blocks_touched len) ≡ b → where_ b Range ≡ None → block + len / 512 ≤ count
    by_test true is none_there = cc none_there
    by_test false is none_there =
        let le : block + blocks_touched len ≤ count = grind (arith, nat_tests) in
        let more : len / 512 ≤ blocks_touched len = omega arith in omega arith

-- a byte that was written
pub written_byte : (block i : ℕ) (bytes : List ℕ) (blocks : List Block) → is_among block (length bytes / 512) (i / 512) ≡ true → block + length bytes / 512 ≤ length blocks
    → block_has (nth (write block bytes blocks) (i / 512)) (i % 512) ≡ Some (slice_index bytes (i - 512 * block))
unfolding write
written_byte block i bytes blocks among fits =
    let low : block ≤ i / 512 = grind (arith, nat_tests) in
    let high : i / 512 < block + length bytes / 512 = grind (arith, nat_tests) in
    let old = nth blocks (i / 512) in
    let found : slice_get (map_from (write_block block bytes) 0 blocks) (i / 512) ≡ Some (write_block block bytes (0 + i / 512) old) =
    slice_get-map_from (write_block block bytes) 0 blocks (i / 512)
    ∙ ap (option_map (write_block block bytes (0 + i / 512))) (slice_get-get_or blocks (i / 512) Absent (omega arith)) in
    let number : 0 + i / 512 ≡ i / 512 = omega arith in
    let is : nth (map_from (write_block block bytes) 0 blocks) (i / 512) ≡ data_from bytes (i / 512 - block) =
    get_or_from_slice_get _ (i / 512) _ Absent found
    ∙ ap (λ j. write_block block bytes j old) number
    ∙ ap (λ b. cond b (data_from bytes (i / 512 - block)) old) among in
    ap (λ b. block_has b (i % 512)) is ∙ of_data (i / 512 - block) ((i % 512) / 64) ((i % 512) % 64) (omega arith) (omega arith)
    ∙ ap (λ k. Some (slice_index bytes k)) (place low)
  where
    place : block ≤ i / 512 → 64 * (8 * (i / 512 - block) + (i % 512) / 64) + (i % 512) % 64 ≡ i - 512 * block
    place low = omega arith

    of_data : (n m k : ℕ) → m < 8 → k < 64
        → option_map (λ b. slice_index b k) (slice_index_or (list_from (λ j. Some (list_from (slice_index bytes) (64 * j) 64)) (8 * n) 8) m None)
        ≡ Some (slice_index bytes (64 * (8 * n + m) + k))
    of_data n m k lt small =
        ap (option_map (λ b. slice_index b k))
        (get_or_from_slice_get (list_from (λ j. Some (list_from (slice_index bytes) (64 * j) 64)) (8 * n) 8) m (Some (list_from (slice_index bytes) (64 * (8 * n + m)) 64)) None
        (slice_get-list_from (λ j. Some (list_from (slice_index bytes) (64 * j) 64)) (8 * n) 8 m lt))
        ∙ ap Some (get_or_from_slice_get (list_from (slice_index bytes) (64 * (8 * n + m)) 64) k _ 0 (slice_get-list_from (slice_index bytes) (64 * (8 * n + m)) 64 k small))

or_true : (b : Bool) → b ≡ true → (b || false) ≡ true
or_true true is = refl
or_true false is = cc is

pub written : (h next : Machine) (block i : ℕ) (bytes : List ℕ) → Does h (BWrite block bytes) next → is_among block (length bytes / 512) (i / 512) ≡ true
    → Lasts next (of_blocks i) (Some (slice_index bytes (i - 512 * block)))
written h next block i bytes does among =
    let done = works_done h (BWrite block bytes) (record h { blocks = write block bytes h.blocks }) next refl does in
    let fits = bytes_within h.geometry.blocks block (length bytes) (blocks_none _ (places_none h (BWrite block bytes) done.0)) in
    let is : byte_at_place next (of_blocks i) ≡ Some (slice_index bytes (i - 512 * block)) =
    ap (λ m. byte_at_place m (of_blocks i)) done.1 ∙ written_byte block i bytes h.blocks among (omega (arith, fits, (counted_on h does.whole (is_on h (BWrite block bytes) refl done.0)).blocks)) in
    subst (Lasts next (of_blocks i)) is (durable h next (BWrite block bytes) (of_blocks i) does (or_true _ among))

-- blocks that are written as a whole are there
pub atomic_within : (h : Machine) (block : ℕ) (bytes : List ℕ) → IsComplete h → refusal h (BAtomic block bytes) ≡ None → block + length bytes / 512 ≤ length h.blocks
atomic_within h block bytes whole none =
    let places = blocks_none _ (places_none h (BAtomic block bytes) none) in
    let fits = bytes_within h.geometry.blocks block (length bytes)
    (first_none (bytes_refusal h.geometry.blocks block (length bytes)) (where_ (nat_lt 64 (length bytes / 512)) Limit) places).0 in
    omega (arith, fits, (counted_on h whole (is_on h (BAtomic block bytes) refl none)).blocks)

pub written_together : (h next : Machine) (block i : ℕ) (bytes : List ℕ) → Does h (BAtomic block bytes) next → is_among block (length bytes / 512) (i / 512) ≡ true
    → Lasts next (of_blocks i) (Some (slice_index bytes (i - 512 * block)))
written_together h next block i bytes does among =
    let done = works_done h (BAtomic block bytes) (record h { blocks = write block bytes h.blocks }) next refl does in
    let is : byte_at_place next (of_blocks i) ≡ Some (slice_index bytes (i - 512 * block)) =
    ap (λ m. byte_at_place m (of_blocks i)) done.1 ∙ written_byte block i bytes h.blocks among (atomic_within h block bytes does.whole done.0) in
    subst (Lasts next (of_blocks i)) is (durable h next (BAtomic block bytes) (of_blocks i) does (or_true _ among))

-- a byte that was stored in a line that takes it
put_byte : (at i : ℕ) (bytes : List ℕ) (pages : List Page) (cell : Cell) → ((k : ℕ) → get_or bytes k 0 < 256) → is_among at (length bytes) i ≡ true
    → cell_of pages (i / 64) ≡ Some cell → TakesPut at (length bytes) (i / 64) cell → cell_byte (put_cell at bytes (i / 64) cell) (i % 64) ≡ slice_index bytes (i - at)
put_byte at i bytes pages cell small among is takes =
    let put_is : cell_of (put at bytes pages) (i / 64) ≡ Some (put_cell at bytes (i / 64) cell) =
    cell_of-put at bytes pages (i / 64) ∙ ap (option_map (put_cell at bytes (i / 64))) is in
    let from : at ≤ i = grind (arith, nat_tests) in
    let to : i < at + length bytes = grind (arith, nat_tests) in
    sym (ap seen put_is) ∙ byte_in-put at i bytes pages cell small is takes ∙ byte_over-in at i (byte_in pages i) bytes from to
  where
    seen : Option Cell → ℕ
    seen None = 0
    seen (Some cell) = cell_byte cell (i % 64)

-- a byte that was stored in a line that is there, and then synced
synced_byte : (at start len i : ℕ) (bytes : List ℕ) (pages : List Page) → ((k : ℕ) → get_or bytes k 0 < 256) → is_among at (length bytes) i ≡ true
    → touches start len (i / 64) ≡ true → IsLineThere (cell_of pages (i / 64)) → is_bad_cell (cell_of (put at bytes pages) (i / 64)) ≡ false
    → is_weak_line (cell_of (put at bytes pages) (i / 64)) ≡ false
    → line_has (cell_of (persist start len (put at bytes pages)) (i / 64)) (i % 64) ≡ Some (slice_index bytes (i - at))
synced_byte at start len i bytes pages small among touched there good strong = by_line (cell_of pages (i / 64)) refl there
  where
    stored : List Page
    stored = put at bytes pages

    synced : (cell : Cell) → cell_of stored (i / 64) ≡ Some cell → cell_of (persist start len stored) (i / 64) ≡ Some (flush_cell cell)
    synced cell is =
        cell_of-persist start len stored (i / 64) ∙ ap (option_map (persist_cell start len (i / 64))) is ∙ ap (λ t. Some (cond t (flush_cell cell) cell)) touched

    taken : (cell : Cell) → cell_of pages (i / 64) ≡ Some cell → TakesPut at (length bytes) (i / 64) cell
        → line_has (cell_of (persist start len stored) (i / 64)) (i % 64) ≡ Some (slice_index bytes (i - at))
    taken cell is takes =
        let put_is : cell_of stored (i / 64) ≡ Some (put_cell at bytes (i / 64) cell) =
        cell_of-put at bytes pages (i / 64) ∙ ap (option_map (put_cell at bytes (i / 64))) is in
        let byte = put_byte at i bytes pages cell small among is takes in
        ap (λ o. line_has o (i % 64)) (synced (put_cell at bytes (i / 64) cell) put_is)
        ∙ flush_shown (put_cell at bytes (i / 64) cell) (i % 64) (sym (ap is_bad_cell put_is) ∙ good) (sym (ap is_weak_line put_is) ∙ strong) ∙ ap Some byte

    left_bad : cell_of pages (i / 64) ≡ Some Bad → holds_line at (length bytes) (i / 64) ≡ false → ⊥
    left_bad is out =
        let put_is : cell_of stored (i / 64) ≡ Some Bad =
        cell_of-put at bytes pages (i / 64) ∙ ap (option_map (put_cell at bytes (i / 64))) is
        ∙ ap (λ b. Some (cond b (Kept false (map_from (word_stored at bytes) (8 * (i / 64)) (replicate 8 (0 ∷ [])))) Bad)) out in
        both_ways (is_bad_cell (cell_of stored (i / 64))) good (ap is_bad_cell put_is)

    by_line : (o : Option Cell) → cell_of pages (i / 64) ≡ o → IsLineThere o
        → line_has (cell_of (persist start len stored) (i / 64)) (i % 64) ≡ Some (slice_index bytes (i - at))
    by_line None is none = absurd none
    by_line (Some (Kept weak words)) is size = taken (Kept weak words) is size
    by_line (Some Bad) is size = by_cover (holds_line at (length bytes) (i / 64)) refl
      where
        by_cover : (b : Bool) → holds_line at (length bytes) (i / 64) ≡ b → line_has (cell_of (persist start len stored) (i / 64)) (i % 64) ≡ Some (slice_index bytes (i - at))
        by_cover true covered = taken Bad is covered
        by_cover false out = absurd (left_bad is out)

-- a sync that is not refused finds no bad line
no_bad_line : (o : Option ℕ) → option_map volume_answer (poisoned_at o) ≡ None → o ≡ None
no_bad_line None none = refl
no_bad_line (Some n) none = cc none

good_line : (pages : List Page) (start len n : ℕ) → 1 ≤ len → option_map volume_answer (poisoned_at (first_bad_line pages start len)) ≡ None → touches start len n ≡ true
    → is_bad_cell (cell_of pages n) ≡ false
unfolding first_bad_line
good_line pages start len n some none touched = none_touched (λ k. is_bad_cell (cell_of pages k)) start len n some (no_bad_line _ none) touched

-- a store that is not refused ends within the volume
volume_none : (o : Option VolumeRefusal) → option_map volume_answer o ≡ None → o ≡ None
volume_none None none = refl
volume_none (Some why) none = cc none

first_there_none : (a b : Option VolumeRefusal) → first_there a b ≡ None → (a ≡ None) × (b ≡ None)
first_there_none None b none = (refl, none)
first_there_none (Some why) b none = cc none

some_length : (len : ℕ) → refused_if (len == 0) Empty ≡ None → 1 ≤ len
some_length len none = by_test (len == 0) refl none
  where
    by_test : (b : Bool) → (len == 0) ≡ b → cond b (Some Empty) None ≡ None → 1 ≤ len
    by_test true is refused = cc refused
    by_test false is allowed = let some : len ≡ 0 → ⊥ = eqb-false len 0 is in omega (arith, some)

stored_within : (geo : Geometry) (at len : ℕ) → extent_refusal (4096 * geo.vpages) at len ≡ None → at + len ≤ 4096 * geo.vpages
stored_within geo at len none = by_test (nat_lt (4096 * geo.vpages) (at + len)) refl none
  where
    by_test : (b : Bool) → nat_lt (4096 * geo.vpages) (at + len) ≡ b → first_there (refused_if b Past) (refused_if (len == 0) Empty) ≡ None → at + len ≤ 4096 * geo.vpages
    by_test true is refused = cc refused
    by_test false is allowed = grind (arith, nat_tests)

-- the pages that it touches are there
pub filled_there : (at len i : ℕ) (pages : List Page) → is_among at len i ≡ true → i / 4096 < length pages → is_line_present (fill at len pages) (i / 64) ≡ true
filled_there at len i pages among within =
    let page = i / 64 / 64 in
    let lt : page < length (presence_of pages) = omega (arith, length-map pages is_present) in
    let was = slice_index_or (presence_of pages) page false in
    let found : slice_get (presence_of (fill at len pages)) page ≡ Some (was || touches_page at len (0 + page)) =
    ap (λ bs. slice_get bs page) (presence_of-fill at len pages)
    ∙ slice_get-map_from (λ j b. b || touches_page at len j) 0 (presence_of pages) page
    ∙ ap (option_map (λ b. b || touches_page at len (0 + page))) (slice_get-get_or (presence_of pages) page false lt) in
    get_or_from_slice_get (presence_of (fill at len pages)) page (was || touches_page at len (0 + page)) false found ∙ either was (touches_page at len (0 + page)) touched
  where
    touched : touches_page at len (0 + i / 64 / 64) ≡ true
    touched = grind (arith, nat_tests)

    either : (a b : Bool) → b ≡ true → (a || b) ≡ true
    either true b is = refl
    either false b is = is

-- pages that it fills have zeros
filled_zero : (at len n : ℕ) (pages : List Page) → is_line_present pages n ≡ false → is_line_present (fill at len pages) n ≡ true
    → cell_of (fill at len pages) n ≡ Some zero_cell
unfolding fill
filled_zero at len n pages absent there =
    ap (line_in n) found
    ∙ by_page (slice_get pages (n / 64)) (sym (page_present pages n) ∙ absent) (sym (ap has_lines found) ∙ sym (page_present (fill at len pages) n) ∙ there)
  where
    found : slice_get (fill at len pages) (n / 64) ≡ option_map (fill_page at len (0 + n / 64)) (slice_get pages (n / 64))
    found = slice_get-map_from (fill_page at len) 0 pages (n / 64)

    by_page : (o : Option Page) → has_lines o ≡ false → has_lines (option_map (fill_page at len (0 + n / 64)) o) ≡ true
        → line_in n (option_map (fill_page at len (0 + n / 64)) o) ≡ Some zero_cell
    by_page None none there = cc there
    by_page (Some Missing) none there = by_test (touches_page at len (0 + n / 64)) there
      where
        by_test : (t : Bool) → is_present (cond t (Present (replicate 64 zero_cell)) Missing) ≡ true
            → cell_in (cond t (Present (replicate 64 zero_cell)) Missing) (n % 64) ≡ Some zero_cell
        by_test true there = zero_at 64 (n % 64) (omega arith)
        by_test false none = cc none
    by_page (Some (Present cells)) none there = cc none

-- a store that is not refused covers each bad line that it touches
pub bad_covered : (at len n : ℕ) (pages : List Page) → HaveLines pages → 1 ≤ len → first_uncovered_line pages at len ≡ None
    → touches at len n ≡ true → is_line_present (fill at len pages) n ≡ true → cell_of (fill at len pages) n ≡ Some Bad → holds_line at len n ≡ true
unfolding first_uncovered_line
bad_covered at len n pages lines some none touched present bad = by_page (is_line_present pages n) refl
  where
    covered : (b c : Bool) → b ≡ true → (b && not c) ≡ false → c ≡ true
    covered b true is out = refl
    covered true false is out = cc out
    covered false false is out = cc is

    by_cell : (o : Option Cell) → cell_of pages n ≡ o → IsLineThere o → holds_line at len n ≡ true
    by_cell None is none_there = absurd none_there
    by_cell (Some cell) is size =
        covered (is_bad_cell (cell_of pages n)) (holds_line at len n) (ap is_bad_cell (is ∙ sym (cell_of-fill at len pages n cell is) ∙ bad))
        (none_touched (λ k. is_bad_cell (cell_of pages k) && not (holds_line at len k)) at len n some none touched)

    by_page : (b : Bool) → is_line_present pages n ≡ b → holds_line at len n ≡ true
    by_page true there = by_cell (cell_of pages n) refl (lines n there)
    by_page false absent = absurd (both_ways (is_bad_cell (cell_of (fill at len pages) n)) (ap is_bad_cell (filled_zero at len n pages absent present)) (ap is_bad_cell bad))

-- it shows what was stored
pub stored_byte : (at i : ℕ) (bytes : List ℕ) (pages : List Page) → ((k : ℕ) → get_or bytes k 0 < 256) → is_among at (length bytes) i ≡ true → IsLineThere (cell_of pages (i / 64))
    → (cell_of pages (i / 64) ≡ Some Bad → holds_line at (length bytes) (i / 64) ≡ true) → line_has (cell_of (put at bytes pages) (i / 64)) (i % 64) ≡ Some (slice_index bytes (i - at))
stored_byte at i bytes pages small among there covers = by_line (cell_of pages (i / 64)) refl there
  where
    shown : (cell : Cell) → TakesPut at (length bytes) (i / 64) cell → line_has (Some (put_cell at bytes (i / 64) cell)) (i % 64) ≡ Some (cell_byte (put_cell at bytes (i / 64) cell) (i % 64))
    shown (Kept weak words) takes = refl
    shown Bad takes = by_cover (holds_line at (length bytes) (i / 64)) takes
      where
        by_cover : (c : Bool) → c ≡ true
            → line_has (Some (cond c (Kept false (map_from (word_stored at bytes) (8 * (i / 64)) (replicate 8 (0 ∷ [])))) Bad)) (i % 64)
            ≡ Some (cell_byte (cond c (Kept false (map_from (word_stored at bytes) (8 * (i / 64)) (replicate 8 (0 ∷ [])))) Bad) (i % 64))
        by_cover true is = refl
        by_cover false is = cc is

    taken : (cell : Cell) → cell_of pages (i / 64) ≡ Some cell → TakesPut at (length bytes) (i / 64) cell
        → line_has (cell_of (put at bytes pages) (i / 64)) (i % 64) ≡ Some (slice_index bytes (i - at))
    taken cell is takes =
        ap (λ o. line_has o (i % 64)) (cell_of-put at bytes pages (i / 64) ∙ ap (option_map (put_cell at bytes (i / 64))) is) ∙ shown cell takes
        ∙ ap Some (put_byte at i bytes pages cell small among is takes)

    by_line : (o : Option Cell) → cell_of pages (i / 64) ≡ o → IsLineThere o → line_has (cell_of (put at bytes pages) (i / 64)) (i % 64) ≡ Some (slice_index bytes (i - at))
    by_line None is none = absurd none
    by_line (Some (Kept weak words)) is size = taken (Kept weak words) is size
    by_line (Some Bad) is size = taken Bad is (covers is)

pub stored_powered : (h stored : Machine) (at i : ℕ) (bytes : List ℕ) → ((k : ℕ) → get_or bytes k 0 < 256) → Does h (VStore at bytes) stored → is_among at (length bytes) i ≡ true
    → is_weak_line (cell_of stored.volume (i / 64)) ≡ false → LastsPowered stored (of_volume i) (Some (slice_index bytes (i - at)))
stored_powered h stored at i bytes small stores among strong =
    let filled = fill at (length bytes) h.volume in
    let put_is = works_done h (VStore at bytes) (record h { volume = put at bytes filled }) stored refl stores in
    let on = is_on h (VStore at bytes) refl put_is.0 in
    let within = stored_within h.geometry at (length bytes) (volume_none _ (places_none h (VStore at bytes) put_is.0)) in
    let to : i < at + length bytes = grind (arith, nat_tests) in
    let from : at ≤ i = grind (arith, nat_tests) in
    let present = filled_there at (length bytes) i h.volume among (omega (arith, within, to, (counted_on h stores.whole on).pages)) in
    let covers = bad_covered at (length bytes) (i / 64) h.volume stores.whole.lines (omega (arith, from, to)) (no_bad_line _ (unreadable_none h (VStore at bytes) put_is.0)) (touched at (length bytes) i among) present in
    let shown : byte_at_place stored (of_volume i) ≡ Some (slice_index bytes (i - at)) =
    ap (λ m. byte_at_place m (of_volume i)) put_is.1
    ∙ stored_byte at i bytes filled small among (lines-fill at (length bytes) h.volume stores.whole.lines (i / 64) present) covers in
    subst (LastsPowered stored (of_volume i)) shown
    (lasts_powered stored (of_volume i) (whole-heard h (Asked (VStore at bytes)) stores.said stored stores.whole stores.came) (ap (λ m. m.mode) put_is.1 ∙ on) strong)
  where
    touched : (at len i : ℕ) → is_among at len i ≡ true → touches at len (i / 64) ≡ true
    touched at len i among = grind (arith, nat_tests)

-- a store, and a command after it that syncs a line of it
synced_by : (h stored next : Machine) (action : Action) (at start len i : ℕ) (bytes : List ℕ) → ((k : ℕ) → get_or bytes k 0 < 256) → Does h (VStore at bytes) stored
    → Does stored action next → next.volume ≡ persist start len stored.volume
    → is_bad_cell (cell_of stored.volume (i / 64)) ≡ false → is_made_durable stored action (of_volume i) ≡ true
    → is_among at (length bytes) i ≡ true → touches start len (i / 64) ≡ true → is_weak_line (cell_of stored.volume (i / 64)) ≡ false
    → Lasts next (of_volume i) (Some (slice_index bytes (i - at)))
synced_by h stored next action at start len i bytes small stores syncs is good covers among touched strong =
    let filled = fill at (length bytes) h.volume in
    let put_is = works_done h (VStore at bytes) (record h { volume = put at bytes filled }) stored refl stores in
    let within = stored_within h.geometry at (length bytes) (volume_none _ (places_none h (VStore at bytes) put_is.0)) in
    let to : i < at + length bytes = grind (arith, nat_tests) in
    let there = filled_there at (length bytes) i h.volume among (omega (arith, within, to, (counted_on h stores.whole (is_on h (VStore at bytes) refl put_is.0)).pages)) in
    let volume : stored.volume ≡ put at bytes filled = ap (λ m. m.volume) put_is.1 in
    let shown : byte_at_place next (of_volume i) ≡ line_has (cell_of (persist start len (put at bytes filled)) (i / 64)) (i % 64) =
    ap (λ p. line_has (cell_of p (i / 64)) (i % 64)) (is ∙ ap (persist start len) volume) in
    let byte = synced_byte at start len i bytes filled small among touched (lines-fill at (length bytes) h.volume stores.whole.lines (i / 64) there)
    (sym (ap (λ p. is_bad_cell (cell_of p (i / 64))) volume) ∙ good) (sym (ap (λ p. is_weak_line (cell_of p (i / 64))) volume) ∙ strong) in
    subst (Lasts next (of_volume i)) (shown ∙ byte) (durable stored next action (of_volume i) syncs covers)

pub synced : (h stored next : Machine) (at start len i : ℕ) (bytes : List ℕ) → ((k : ℕ) → get_or bytes k 0 < 256) → Does h (VStore at bytes) stored → Does stored (VSync start len) next
    → is_among at (length bytes) i ≡ true → touches start len (i / 64) ≡ true → is_weak_line (cell_of stored.volume (i / 64)) ≡ false
    → Lasts next (of_volume i) (Some (slice_index bytes (i - at)))
synced h stored next at start len i bytes small stores syncs among touched strong =
    let sync_is = works_done stored (VSync start len) (record stored { volume = persist start len stored.volume }) next refl syncs in
    let some = some_length len (first_there_none _ _ (volume_none _ (places_none stored (VSync start len) sync_is.0))).1 in
    synced_by h stored next (VSync start len) at start len i bytes small stores syncs (ap (λ m. m.volume) sync_is.1)
    (good_line stored.volume start len (i / 64) some (unreadable_none stored (VSync start len) sync_is.0) touched) touched among touched strong

pub synced_by_address : (h stored next : Machine) (at address start len i : ℕ) (bytes : List ℕ) → ((k : ℕ) → get_or bytes k 0 < 256) → Does h (VStore at bytes) stored
    → Does stored (VPSync address len) next → physical_offset h.geometry address len ≡ Some start
    → is_among at (length bytes) i ≡ true → touches start len (i / 64) ≡ true → is_weak_line (cell_of stored.volume (i / 64)) ≡ false
    → Lasts next (of_volume i) (Some (slice_index bytes (i - at)))
synced_by_address h stored next at address start len i bytes small stores syncs begins among touched strong =
    let put_is = works_done h (VStore at bytes) (record h { volume = put at bytes (fill at (length bytes) h.volume) }) stored refl stores in
    let offset : physical_offset stored.geometry address len ≡ Some start = ap (λ m. physical_offset m.geometry address len) put_is.1 ∙ begins in
    let sync_is = works_done stored (VPSync address len) (record stored { volume = persist_at (physical_offset stored.geometry address len) len stored.volume }) next refl syncs in
    let some = some_length len (first_there_none _ _ (volume_none _ (places_none stored (VPSync address len) sync_is.0))).0 in
    let found = sym (ap (option_and_then (λ o. option_map volume_answer (poisoned_at (first_bad_line stored.volume o len)))) offset) ∙ unreadable_none stored (VPSync address len) sync_is.0 in
    synced_by h stored next (VPSync address len) at start len i bytes small stores syncs
    (ap (λ m. m.volume) sync_is.1 ∙ ap (λ o. persist_at o len stored.volume) offset)
    (good_line stored.volume start len (i / 64) some found touched)
    (ap (λ o. (touched_lines_at o len).volume i) offset ∙ touched) among touched strong

-- a line that is cleared has zeros
pub cleared : (h next : Machine) (offset i : ℕ) → Does h (ClearVolume offset) next → i / 64 ≡ offset / 64 → Lasts next (of_volume i) (Some 0)
cleared h next offset i does same =
    let done = works_done h (ClearVolume offset) (record h { volume = change_line clear_cell (offset / 64) h.volume }) next refl does in
    let line : cell_of (change_line clear_cell (offset / 64) h.volume) (i / 64) ≡ Some zero_cell =
    ap (cell_of (change_line clear_cell (offset / 64) h.volume)) same ∙ cell_of-changed clear_cell (offset / 64) h.volume
    ∙ ap (option_map clear_cell) (was_bad h offset done.0) in
    let is : byte_at_place next (of_volume i) ≡ Some 0 =
    ap (λ m. byte_at_place m (of_volume i)) done.1 ∙ ap (λ o. line_has o (i % 64)) line ∙ zero_shown (i % 64) (omega arith) in
    subst (Lasts next (of_volume i)) is (durable h next (ClearVolume offset) (of_volume i) does (eq-eqb (i / 64) (offset / 64) same))
