-- What a cut inside a command may leave of what a question looks at.
use Rattle.std.proofs.Common.{◌≡◌, ℕ, ◌+◌, ◌*◌, ◌/◌, ◌<◌, ◌&&◌, ◌||◌, nat_lt, Bool, true, false, cond, Option, Some, None, option_map, List, [], ◌∷◌, length, refl, sym, ap, ◌∙◌, arith}
use borrow.Author.Tests.{ltb-true}
use Rattle.std.specs.List.{list_all}
use Rattle.word_tables.specs.declared.geometry.Geometry.{Geometry}
use Rattle.nvm_model.specs.Blocks.{change, nth, write, write_ranges}
use Rattle.nvm_model.specs.Cell.{Cell, clear_cell, flush_cell, persist_cell, touches}
use Rattle.nvm_model.specs.Page.{Page, cell_of, change_line, discard, fill, persist, put}
use Rattle.nvm_model.specs.Storage.{Block}
use Rattle.nvm_model.specs.Storage.Block.{Absent, Scarred}
use Rattle.nvm_model.proofs.PageLemmas.{cell_of-persist}
use Rattle.pm_volume.specs.Refusals.{physical_offset}
use Rattle.block_sights.specs.Sights.{sight}
use Rattle.script_text.specs.Action.{Action}
use Rattle.script_text.specs.Action.Action.{BRead, BWrite, BAtomic, BMulti, BDiscard, BDiscardIf, BExists, BScar, VLoad, VStore, VSync, VRanges, VPSync, VDiscard, VDiscardIf, VExists, Create, Delete, Rename, Resize, ListFiles, FRead, FWrite, FAtomic, FMulti, FDiscard, FSync, Map, Unmap, Load, Store, Sync, Flush, FlushVerify, DeepFlush, NextEvent, CheckFile, PoisonBlock, PoisonVolume, PoisonFile, PoisonMeta, WeakenFile, WeakenVolume, ClearFile, ClearVolume, Cut, CutIn, FailIn, Restart, Recover, Attr, Evict}
use Rattle.asked_reads.specs.MachineModel.Machine.{Machine}
use Rattle.asked_reads.specs.MachineModel.Commands.{meaning, refusal}
use Rattle.asked_reads.specs.MachineModel.OnBlocks.{blocks_from}
use Rattle.asked_reads.specs.MachineModel.OnVolume.{part_synced_at, persist_at}
use Rattle.asked_reads.specs.Durable.Durable.{HaveEightLines, HaveLines}
use Rattle.asked_reads.specs.Outcomes.Blocks.{block_fits}
use Rattle.asked_reads.specs.Outcomes.Left.{blocks_pass, stored_passes, volume_passes}
use Rattle.asked_reads.specs.Outcomes.Pages.{line_fits}
use Rattle.asked_reads.specs.Outcomes.Stops.{led_to}
use Rattle.asked_reads.specs.Outcomes.Ways.{groups_pass}
use Rattle.asked_reads.specs.declared.question.Question.{Question}
use Rattle.sights.specs.declared.line_seen.LineSeen.{LineSeen}
use Rattle.sights.specs.declared.block_seen.BlockSeen.{BlockSeen}
use Rattle.sights.specs.declared.way.Way.TheVariants.{ByPage}
use Rattle.asked_reads.specs.Asking.{blocks_of, volume_asked}
use Rattle.sights.specs.Changing.{line_changed, volume_change}
use Rattle.sights.specs.ChangingBlocks.{block_changed}
use Rattle.asked_reads.specs.Fitting.{cell_fits, sight_fits}
use Rattle.sights.specs.Seeing.{seen}
use Rattle.sights.specs.Units.{AreBlocks, AreLines, block_may_fit, block_numbers, block_once_done, line_may_fit, line_numbers, line_once_done}
use Rattle.sights.specs.Ways.{blocks_way, lines_way, passes_by, passes_inside}
use Rattle.sights.proofs.BlockChangeLemmas.{blocks_changed}
use Rattle.sights.proofs.PassLemmas.{EachUnit, all_same, each_same, groups_same, one_of_two}
use Rattle.sights.proofs.SeenLemmas.{seen-fill}
use Rattle.sights.proofs.ShowLemmas.{block_seen, blocks_now, fits_seen, lines_now, tests_same}
use Rattle.sights.proofs.VolumeChangeLemmas.{volume_changed}

-- lines that would be others
pub lines_then : (q : Question) (geo : Geometry) (action : Action) (old to : List Page) (lines : List LineSeen) → AreLines (seen old) lines
    → EachUnit (λ (s : LineSeen). seen to s.number ≡ line_changed (volume_change geo action) s.number (seen old s.number)) lines
    → EachUnit (λ (s : LineSeen). line_fits (volume_asked q) s.number (cell_of to s.number) ≡ line_may_fit q (line_once_done geo action s)) lines
lines_then q geo action old to [] are made = tt
lines_then q geo action old to (s ∷ lines) are made = (
  fits_seen (volume_asked q) s.number (cell_of to s.number)
      ∙ ap (cell_fits (volume_asked q) s.number) (made.0 ∙ ap (line_changed (volume_change geo action) s.number) (sym are.0)),
  lines_then q geo action old to lines are.1 made.1,
)

pub blocks_then : (q : Question) (geo : Geometry) (action : Action) (old to : List Block) (units : List BlockSeen) → AreBlocks (λ b. sight (nth old b)) units
    → EachUnit (λ (s : BlockSeen). sight (nth to s.number) ≡ block_changed action s.number (sight (nth old s.number))) units
    → EachUnit (λ (s : BlockSeen). block_fits (blocks_of q) s.number (nth to s.number) ≡ block_may_fit q (block_once_done geo action s)) units
blocks_then q geo action old to [] are made = tt
blocks_then q geo action old to (s ∷ units) are made = (
  block_seen s.number (nth to s.number) (blocks_of q)
      ∙ ap (sight_fits (blocks_of q) s.number) (made.0 ∙ ap (block_changed action s.number) (sym are.0)),
  blocks_then q geo action old to units are.1 made.1,
)

pub each_by : {A : Type 0} (P Q : A → Type 0) (units : List A) → ((u : A) → P u → Q u) → EachUnit P units → EachUnit Q units
each_by P Q [] more each = tt
each_by P Q (u ∷ units) more each = (more u each.0, each_by P Q units more each.1)

-- the lines are of pages that the volume has, and the blocks are among those of the machine
abbrev pub HaveLine : List Page → List LineSeen → Type 0
HaveLine pages lines = EachUnit (λ (s : LineSeen). s.number / 64 < length pages) lines

abbrev pub AreThere : List Block → List BlockSeen → Type 0
AreThere blocks units = EachUnit (λ (s : BlockSeen). s.number < length blocks) units

-- a span of no bytes makes nothing durable
nothing_persisted : (n : ℕ) (cell : Cell) → persist_cell 0 0 n cell ≡ cell
nothing_persisted n cell = ap (λ b. cond b (flush_cell cell) cell) untouched
  where
    untouched : touches 0 0 n ≡ false
    untouched = by_test (nat_lt (64 * n) 0) refl
      where
        by_test : (b : Bool) → nat_lt (64 * n) 0 ≡ b → (nat_lt 0 (64 * n + 64) && b) ≡ false
        by_test true is = absurd (omega (arith, ltb-true (64 * n) 0 is))
        by_test false is = by_first (nat_lt 0 (64 * n + 64))
          where
            by_first : (c : Bool) → (c && false) ≡ false
            by_first true = refl
            by_first false = refl

module _ (h : Machine) (q : Question) where
  -- the lines of a question
  module _ (lines : List LineSeen) (are : AreLines (seen h.volume) lines) (whole : HaveLines h.volume) (within : HaveLine h.volume lines) where
    abbrev fits : ℕ → Option Cell → Bool
    fits n o = line_fits (volume_asked q) n o

    olds : EachUnit (λ (s : LineSeen). line_fits (volume_asked q) s.number (cell_of h.volume s.number) ≡ line_may_fit q s) lines
    olds = lines_now q h.volume lines are

    news : (action : Action) → refusal h action ≡ None
        → EachUnit (λ (s : LineSeen). line_fits (volume_asked q) s.number (cell_of (led_to h ((meaning action).comes h)).volume s.number) ≡ line_may_fit q (line_once_done h.geometry action s)) lines
    news action allowed =
        lines_then q h.geometry action h.volume (led_to h ((meaning action).comes h)).volume lines are
        (each_by (λ s. s.number / 64 < length h.volume) (λ s. seen (led_to h ((meaning action).comes h)).volume s.number ≡ line_changed (volume_change h.geometry action) s.number (seen h.volume s.number)) lines
        (λ s lt. volume_changed h action s.number allowed whole lt) within)

    kept : list_all (λ n. fits n (cell_of h.volume n)) (line_numbers lines) ≡ list_all (line_may_fit q) lines
    kept = all_same (λ (s : LineSeen). s.number) (λ n. fits n (cell_of h.volume n)) (line_may_fit q) lines olds

    each_of : (action : Action) (to : List Page)
        → EachUnit (λ (s : LineSeen). line_fits (volume_asked q) s.number (cell_of to s.number) ≡ line_may_fit q (line_once_done h.geometry action s)) lines
        → list_all (λ n. fits n (cell_of h.volume n) || fits n (cell_of to n)) (line_numbers lines)
        ≡ list_all (λ s. line_may_fit q s || line_may_fit q (line_once_done h.geometry action s)) lines
    each_of action to made =
        each_same (λ (s : LineSeen). s.number) (λ n. n / 64) (λ n. fits n (cell_of h.volume n)) (λ n. fits n (cell_of to n)) (line_may_fit q)
        (λ s. line_may_fit q (line_once_done h.geometry action s)) lines olds made

    either_of : (action : Action) (to : List Page)
        → EachUnit (λ (s : LineSeen). line_fits (volume_asked q) s.number (cell_of to s.number) ≡ line_may_fit q (line_once_done h.geometry action s)) lines
        → (list_all (λ n. fits n (cell_of h.volume n)) (line_numbers lines) || list_all (λ n. fits n (cell_of to n)) (line_numbers lines))
        ≡ (list_all (line_may_fit q) lines || list_all (λ s. line_may_fit q (line_once_done h.geometry action s)) lines)
    either_of action to made =
        ap (λ b. b || list_all (λ n. fits n (cell_of to n)) (line_numbers lines)) kept
        ∙ ap (λ b. list_all (line_may_fit q) lines || b)
        (all_same (λ (s : LineSeen). s.number) (λ n. fits n (cell_of to n)) (λ s. line_may_fit q (line_once_done h.geometry action s)) lines made)

    by_page_of : (action : Action) (to : List Page)
        → EachUnit (λ (s : LineSeen). line_fits (volume_asked q) s.number (cell_of to s.number) ≡ line_may_fit q (line_once_done h.geometry action s)) lines
        → groups_pass fits (λ n. n / 64) (cell_of h.volume) (cell_of to) (line_numbers lines)
        ≡ passes_by ByPage (line_may_fit q) (λ s. line_may_fit q (line_once_done h.geometry action s)) (λ (s : LineSeen). s.number / 64) lines
    by_page_of action to made =
        groups_same (λ (s : LineSeen). s.number) (λ n. n / 64) (λ n. fits n (cell_of h.volume n)) (λ n. fits n (cell_of to n)) (line_may_fit q)
        (λ s. line_may_fit q (line_once_done h.geometry action s)) lines olds made

    -- a store fills the pages first that it touches, which no read sees
    filled : (at len : ℕ) (units : List LineSeen) → AreLines (seen h.volume) units → HaveLine h.volume units → AreLines (seen (fill at len h.volume)) units
    filled at len [] sees inside = tt
    filled at len (s ∷ units) sees inside = (sees.0 ∙ sym (seen-fill at len h.volume s.number whole inside.0), filled at len units sees.1 inside.1)

    stored : (offset : ℕ) (bytes : List ℕ) → refusal h (VStore offset bytes) ≡ None
        → stored_passes offset bytes fits h.volume (line_numbers lines)
        ≡ list_all (λ s. line_may_fit q s || line_may_fit q (line_once_done h.geometry (VStore offset bytes) s)) lines
    stored offset bytes allowed =
        let first = fill offset (length bytes) h.volume in
        let to = put offset bytes first in
        let then : LineSeen → Bool = λ s. line_may_fit q (line_once_done h.geometry (VStore offset bytes) s) in
        ap (λ b. b || list_all (λ n. fits n (cell_of first n) || fits n (cell_of to n)) (line_numbers lines)) kept
        ∙ ap (λ b. list_all (line_may_fit q) lines || b)
        (each_same (λ (s : LineSeen). s.number) (λ n. n / 64) (λ n. fits n (cell_of first n)) (λ n. fits n (cell_of to n)) (line_may_fit q) then lines
        (lines_now q first lines (filled offset (length bytes) lines are within)) (news (VStore offset bytes) allowed))
        ∙ one_of_two (line_may_fit q) then lines

    synced_at : (address len : ℕ) (o : Option ℕ)
        → EachUnit (λ (s : LineSeen). line_fits (volume_asked q) s.number (cell_of (persist_at o len h.volume) s.number) ≡ line_may_fit q (line_once_done h.geometry (VPSync address len) s)) lines
        → volume_passes (part_synced_at o len) fits h.volume (persist_at o len h.volume) (line_numbers lines)
        ≡ list_all (λ s. line_may_fit q s || line_may_fit q (line_once_done h.geometry (VPSync address len) s)) lines
    synced_at address len None made =
        tests_same (λ n. fits n (cell_of h.volume n) || fits n (cell_of (persist 0 0 h.volume) n)) (λ n. fits n (cell_of h.volume n) || fits n (cell_of h.volume n)) (line_numbers lines)
        (λ n. ap (λ o. fits n (cell_of h.volume n) || fits n o) (cell_of-persist 0 0 h.volume n ∙ by_line n (cell_of h.volume n)))
        ∙ each_of (VPSync address len) h.volume made
      where
        by_line : (n : ℕ) (o : Option Cell) → option_map (persist_cell 0 0 n) o ≡ o
        by_line n None = refl
        by_line n (Some cell) = ap Some (nothing_persisted n cell)
    synced_at address len (Some offset) made = each_of (VPSync address len) (persist offset len h.volume) made

    pub volume_inside : (action : Action) → refusal h action ≡ None
        → volume_passes ((meaning action).volume_left h.geometry) fits h.volume ((meaning action).volume h.geometry h.volume) (line_numbers lines)
        ≡ passes_inside (lines_way action) (line_may_fit q) (λ s. line_may_fit q (line_once_done h.geometry action s)) (λ (s : LineSeen). s.number / 64) lines
    volume_inside (BRead block count) allowed = kept
    volume_inside (BWrite block bytes) allowed = kept
    volume_inside (BAtomic block bytes) allowed = kept
    volume_inside (BMulti ranges bytes) allowed = kept
    volume_inside (BDiscard block count) allowed = kept
    volume_inside (BDiscardIf block count) allowed = kept
    volume_inside (BExists block) allowed = kept
    volume_inside (BScar ranges) allowed = kept
    volume_inside (VLoad offset len) allowed = kept
    volume_inside (VStore offset bytes) allowed = stored offset bytes allowed
    volume_inside (VSync offset len) allowed = each_of (VSync offset len) (persist offset len h.volume) (news (VSync offset len) allowed)
    volume_inside VRanges allowed = kept
    volume_inside (VPSync address len) allowed = synced_at address len (physical_offset h.geometry address len) (news (VPSync address len) allowed)
    volume_inside (VDiscard page count) allowed = either_of (VDiscard page count) (discard page count h.volume) (news (VDiscard page count) allowed)
    volume_inside (VDiscardIf page count) allowed = by_page_of (VDiscardIf page count) (discard page count h.volume) (news (VDiscardIf page count) allowed)
    volume_inside (VExists page) allowed = kept
    volume_inside (Create name pages) allowed = kept
    volume_inside (Delete name) allowed = kept
    volume_inside (Rename name to) allowed = kept
    volume_inside (Resize name pages) allowed = kept
    volume_inside ListFiles allowed = kept
    volume_inside (FRead name offset len) allowed = kept
    volume_inside (FWrite name offset bytes) allowed = kept
    volume_inside (FAtomic name offset bytes) allowed = kept
    volume_inside (FMulti name ranges bytes) allowed = kept
    volume_inside (FDiscard name page count) allowed = kept
    volume_inside (FSync name) allowed = kept
    volume_inside (Map name span kind) allowed = kept
    volume_inside (Unmap handle) allowed = kept
    volume_inside (Load handle offset len) allowed = kept
    volume_inside (Store handle offset bytes) allowed = kept
    volume_inside (Sync handle offset len) allowed = kept
    volume_inside (Flush handle spans) allowed = kept
    volume_inside (FlushVerify handle spans) allowed = kept
    volume_inside (DeepFlush handle spans) allowed = kept
    volume_inside NextEvent allowed = kept
    volume_inside (CheckFile name offset len) allowed = kept
    volume_inside (PoisonBlock block line) allowed = kept
    volume_inside (PoisonVolume offset) allowed = kept
    volume_inside (PoisonFile name offset) allowed = kept
    volume_inside (PoisonMeta line) allowed = kept
    volume_inside (WeakenFile name offset) allowed = kept
    volume_inside (WeakenVolume offset) allowed = kept
    volume_inside (ClearFile name offset) allowed = kept
    volume_inside (ClearVolume offset) allowed = either_of (ClearVolume offset) (change_line clear_cell (offset / 64) h.volume) (news (ClearVolume offset) allowed)
    volume_inside Cut allowed = kept
    volume_inside (CutIn calls) allowed = kept
    volume_inside (FailIn calls) allowed = kept
    volume_inside (Restart choice) allowed = kept
    volume_inside Recover allowed = kept
    volume_inside (Attr name) allowed = kept
    volume_inside (Evict lines) allowed = kept

  -- and its blocks
  module _ (units : List BlockSeen) (are : AreBlocks (λ b. sight (nth h.blocks b)) units) (eight : HaveEightLines h.blocks) (among : AreThere h.blocks units) where
    abbrev block : ℕ → Block → Bool
    block b it = block_fits (blocks_of q) b it

    block_olds : EachUnit (λ (s : BlockSeen). block_fits (blocks_of q) s.number (nth h.blocks s.number) ≡ block_may_fit q s) units
    block_olds = blocks_now q h.blocks units are

    block_news : (action : Action) → refusal h action ≡ None
        → EachUnit (λ (s : BlockSeen). block_fits (blocks_of q) s.number (nth (led_to h ((meaning action).comes h)).blocks s.number) ≡ block_may_fit q (block_once_done h.geometry action s)) units
    block_news action allowed =
        blocks_then q h.geometry action h.blocks (led_to h ((meaning action).comes h)).blocks units are
        (each_by (λ s. s.number < length h.blocks) (λ s. sight (nth (led_to h ((meaning action).comes h)).blocks s.number) ≡ block_changed action s.number (sight (nth h.blocks s.number))) units
        (λ s lt. blocks_changed h action s.number allowed eight lt) among)

    blocks_kept : list_all (λ n. block n (nth h.blocks n)) (block_numbers units) ≡ list_all (block_may_fit q) units
    blocks_kept = all_same (λ (s : BlockSeen). s.number) (λ n. block n (nth h.blocks n)) (block_may_fit q) units block_olds

    mixed_of : (action : Action) (to : List Block)
        → EachUnit (λ (s : BlockSeen). block_fits (blocks_of q) s.number (nth to s.number) ≡ block_may_fit q (block_once_done h.geometry action s)) units
        → list_all (λ n. block n (nth h.blocks n) || block n (nth to n)) (block_numbers units)
        ≡ list_all (λ s. block_may_fit q s || block_may_fit q (block_once_done h.geometry action s)) units
    mixed_of action to made =
        each_same (λ (s : BlockSeen). s.number) (λ n. n) (λ n. block n (nth h.blocks n)) (λ n. block n (nth to n)) (block_may_fit q)
        (λ s. block_may_fit q (block_once_done h.geometry action s)) units block_olds made

    together_of : (action : Action) (to : List Block)
        → EachUnit (λ (s : BlockSeen). block_fits (blocks_of q) s.number (nth to s.number) ≡ block_may_fit q (block_once_done h.geometry action s)) units
        → (list_all (λ n. block n (nth h.blocks n)) (block_numbers units) || list_all (λ n. block n (nth to n)) (block_numbers units))
        ≡ (list_all (block_may_fit q) units || list_all (λ s. block_may_fit q (block_once_done h.geometry action s)) units)
    together_of action to made =
        ap (λ b. b || list_all (λ n. block n (nth to n)) (block_numbers units)) blocks_kept
        ∙ ap (λ b. list_all (block_may_fit q) units || b)
        (all_same (λ (s : BlockSeen). s.number) (λ n. block n (nth to n)) (λ s. block_may_fit q (block_once_done h.geometry action s)) units made)

    pub blocks_inside : (action : Action) → refusal h action ≡ None
        → blocks_pass (meaning action).blocks_left block h.blocks ((meaning action).blocks h.blocks) (block_numbers units)
        ≡ passes_inside (blocks_way action) (block_may_fit q) (λ s. block_may_fit q (block_once_done h.geometry action s)) (λ (s : BlockSeen). s.number) units
    blocks_inside (BRead block count) allowed = blocks_kept
    blocks_inside (BWrite block bytes) allowed = mixed_of (BWrite block bytes) (write block bytes h.blocks) (block_news (BWrite block bytes) allowed)
    blocks_inside (BAtomic block bytes) allowed = together_of (BAtomic block bytes) (write block bytes h.blocks) (block_news (BAtomic block bytes) allowed)
    blocks_inside (BMulti ranges bytes) allowed = together_of (BMulti ranges bytes) (write_ranges ranges bytes h.blocks) (block_news (BMulti ranges bytes) allowed)
    blocks_inside (BDiscard block count) allowed = together_of (BDiscard block count) (change (blocks_from block count) Absent h.blocks) (block_news (BDiscard block count) allowed)
    blocks_inside (BDiscardIf block count) allowed = mixed_of (BDiscardIf block count) (change (blocks_from block count) Absent h.blocks) (block_news (BDiscardIf block count) allowed)
    blocks_inside (BExists block) allowed = blocks_kept
    blocks_inside (BScar ranges) allowed = together_of (BScar ranges) (change ranges Scarred h.blocks) (block_news (BScar ranges) allowed)
    blocks_inside (VLoad offset len) allowed = blocks_kept
    blocks_inside (VStore offset bytes) allowed = blocks_kept
    blocks_inside (VSync offset len) allowed = blocks_kept
    blocks_inside VRanges allowed = blocks_kept
    blocks_inside (VPSync address len) allowed = blocks_kept
    blocks_inside (VDiscard page count) allowed = blocks_kept
    blocks_inside (VDiscardIf page count) allowed = blocks_kept
    blocks_inside (VExists page) allowed = blocks_kept
    blocks_inside (Create name pages) allowed = blocks_kept
    blocks_inside (Delete name) allowed = blocks_kept
    blocks_inside (Rename name to) allowed = blocks_kept
    blocks_inside (Resize name pages) allowed = blocks_kept
    blocks_inside ListFiles allowed = blocks_kept
    blocks_inside (FRead name offset len) allowed = blocks_kept
    blocks_inside (FWrite name offset bytes) allowed = blocks_kept
    blocks_inside (FAtomic name offset bytes) allowed = blocks_kept
    blocks_inside (FMulti name ranges bytes) allowed = blocks_kept
    blocks_inside (FDiscard name page count) allowed = blocks_kept
    blocks_inside (FSync name) allowed = blocks_kept
    blocks_inside (Map name span kind) allowed = blocks_kept
    blocks_inside (Unmap handle) allowed = blocks_kept
    blocks_inside (Load handle offset len) allowed = blocks_kept
    blocks_inside (Store handle offset bytes) allowed = blocks_kept
    blocks_inside (Sync handle offset len) allowed = blocks_kept
    blocks_inside (Flush handle spans) allowed = blocks_kept
    blocks_inside (FlushVerify handle spans) allowed = blocks_kept
    blocks_inside (DeepFlush handle spans) allowed = blocks_kept
    blocks_inside NextEvent allowed = blocks_kept
    blocks_inside (CheckFile name offset len) allowed = blocks_kept
    blocks_inside (PoisonBlock block line) allowed = blocks_kept
    blocks_inside (PoisonVolume offset) allowed = blocks_kept
    blocks_inside (PoisonFile name offset) allowed = blocks_kept
    blocks_inside (PoisonMeta line) allowed = blocks_kept
    blocks_inside (WeakenFile name offset) allowed = blocks_kept
    blocks_inside (WeakenVolume offset) allowed = blocks_kept
    blocks_inside (ClearFile name offset) allowed = blocks_kept
    blocks_inside (ClearVolume offset) allowed = blocks_kept
    blocks_inside Cut allowed = blocks_kept
    blocks_inside (CutIn calls) allowed = blocks_kept
    blocks_inside (FailIn calls) allowed = blocks_kept
    blocks_inside (Restart choice) allowed = blocks_kept
    blocks_inside Recover allowed = blocks_kept
    blocks_inside (Attr name) allowed = blocks_kept
    blocks_inside (Evict lines) allowed = blocks_kept
