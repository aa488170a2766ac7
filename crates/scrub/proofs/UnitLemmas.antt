-- Lines of blocks: where they lie, what each call says of them, and how many are bad.
use Rattle.std.proofs.Common.{◌≡◌, ◌+◌, ◌<◌, ◌≤◌, ◌||◌, ℕ, zero, suc, Bool, false, cond, is_none, count_by, if◌then◌else◌, Option, Some, Ok, Err, length, slice_get, slice_index_or, refl, sym, ap, ap₂, subst, ◌∙◌, arith}
use Rattle.std.specs.List.{range_with_len}
use Rattle.std.proofs.lemmas.Bool.{lt-leb}
use Rattle.std.proofs.lemmas.List.{length-map}
use Rattle.std.proofs.lemmas.Option.{slice_get-get_or}
use Rattle.nvm_base.specs.declared.units.LineNo.{LineNo}
use Rattle.line_device.specs.Medium.{Medium, last_image}
use Rattle.line_words.specs.Told.{Checks}
use Rattle.word_tables.specs.declared.geometry.Geometry.{Geometry}
use Rattle.word_tables.specs.Bounds.{IsValid}
use Rattle.word_tables.specs.Layout.{block_line, blocks, first_line, size, HasLine}
use Rattle.block_map.specs.declared.state.BlockState.{BlockState}
use Rattle.block_map.specs.declared.state.BlockState.TheVariants as state
use Rattle.block_map.specs.States.{IsAt, IsMap}
use Rattle.nvm_model.specs.Numbered.{list_from}
use Rattle.nvm_model.specs.Blocks.{bad_lines_in, nth}
use Rattle.block_device.specs.Reading.{block_read, line_read}
use Rattle.block_device.specs.Object.{BlocksServe, BlocksState, blocks_of, is_at}
use Rattle.block_device.proofs.AreaLemmas.{unit_within}
use Rattle.block_device.proofs.BlockLemmas.{nth-map_read}
use Rattle.block_device.proofs.BufferLemmas.{is_none-line_read}
use Rattle.scrub.specs.declared.fault.PlaceFault.TheVariants as fault
use Rattle.marked_lines.specs.Refusals.{ScrubRefusal, block_refusal, unit_refusal}
use Rattle.scrub.specs.Refusals.{place_says}
use Rattle.marked_lines.specs.Refusals.ScrubRefusal.{Range}
use Rattle.marked_lines.proofs.CountLemmas.{count-cons}

-- a line of a block is one of the blocks' area, which is on the device
pub unit_line : (geo : Geometry) (unit line n : ℕ) → IsValid geo → unit < geo.blocks + 64 → line < 8 → n ≡ block_line geo unit + line → HasLine geo blocks n × (n < 118016)
unfolding first_line size
unit_line geo unit line n valid below small is = ((omega arith, omega arith), omega arith)

pub unit_of : (s : BlocksState) (block unit : ℕ) → length s.map ≡ s.geo.blocks → IsMap s.map → IsAt s.map block unit → unit < s.geo.blocks + 64
unit_of s block unit all is_map at = omega (arith, is_map.within block unit at, all)

pub block_on_device : (s : BlocksState) (m : Medium) (block unit first : ℕ) → BlocksServe s m → IsAt s.map block unit → first ≡ block_line s.geo unit → first + 8 ≤ m.count
block_on_device s m block unit first serves at is = omega (arith, unit_within s.geo unit (unit_of s block unit serves.all serves.is_map at), is, serves.count)

pub length-blocks_of : (s : BlocksState) (m : Medium) → length (blocks_of s m) ≡ length s.map
length-blocks_of s m = length-map s.map (block_read s.geo m.is_bad (last_image m))

-- a block with no lines
bare_state : (s : BlocksState) (block : ℕ) → block < length s.map → is_at (slice_index_or s.map block state.Absent) ≡ false
    → (st : BlockState) × (slice_get s.map block ≡ Some st) × (is_at st ≡ false)
bare_state s block below bare = (slice_index_or s.map block state.Absent, slice_get-get_or s.map block state.Absent below, bare)

-- how many lines of a block are bad
lines_bad : (bad : ℕ → Bool) (word : ℕ → ℕ) (first count : ℕ) → count_by is_none (list_from (line_read bad word) first count) ≡ count_by bad (range_with_len first count)
lines_bad bad word first zero = refl
lines_bad bad word first (suc count) =
    let e : first + 1 ≡ suc first = omega arith in
    count-cons is_none (line_read bad word first) (list_from (line_read bad word) (suc first) count)
    ∙ ap₂ (λ b n. cond b 1 0 + n) (is_none-line_read bad word first)
    (lines_bad bad word (suc first) count ∙ ap (λ k. count_by bad (range_with_len k count)) (sym e))
    ∙ sym (count-cons bad first (range_with_len (first + 1) count))

pub block_bad : (s : BlocksState) (m : Medium) (block unit first : ℕ) → IsAt s.map block unit → first ≡ block_line s.geo unit
    → bad_lines_in (nth (blocks_of s m) block) ≡ count_by m.is_bad (range_with_len first 8)
block_bad s m block unit first at is =
    ap bad_lines_in (nth-map_read s.geo m.is_bad (last_image m) s.map block (state.At unit) at)
    ∙ lines_bad m.is_bad (last_image m) (block_line s.geo unit) 8
    ∙ ap (λ k. count_by m.is_bad (range_with_len k 8)) (sym is)

pub block_bad-none : (s : BlocksState) (m : Medium) (block : ℕ) → block < length s.map → is_at (slice_index_or s.map block state.Absent) ≡ false
    → bad_lines_in (nth (blocks_of s m) block) ≡ 0
block_bad-none s m block below bare =
    let found = bare_state s block below bare in
    ap bad_lines_in (nth-map_read s.geo m.is_bad (last_image m) s.map block found.0 found.1) ∙ by_state found.0 found.2
  where
    by_state : (st : BlockState) → is_at st ≡ false → bad_lines_in (block_read s.geo m.is_bad (last_image m) st) ≡ 0
    by_state state.Absent is = refl
    by_state state.Scarred is = refl
    by_state (state.At unit) is = cc

-- what a place of a block refuses
module _ (s : BlocksState) (m : Medium) (block line : ℕ) where
  inside : block < s.geo.blocks → line < 8 → block_refusal s.geo.blocks (blocks_of s m) block line ≡ unit_refusal (nth (blocks_of s m) block)
  inside below small =
      ap₂ (λ a b. if a || b then Some Range else unit_refusal (nth (blocks_of s m) block)) (lt-leb s.geo.blocks block below) (lt-leb 8 line small)

  pub there_in_block : (unit : ℕ) (found : LineNo) → block < s.geo.blocks → line < 8 → IsAt s.map block unit
      → Checks place_says (block_refusal s.geo.blocks (blocks_of s m) block line) (Ok found)
  there_in_block unit found below small at =
      subst (λ (o : Option ScrubRefusal). Checks place_says o (Ok found))
      (sym (inside below small ∙ ap unit_refusal (nth-map_read s.geo m.is_bad (last_image m) s.map block (state.At unit) at))) tt

  pub nothing_in_block : length s.map ≡ s.geo.blocks → block < s.geo.blocks → line < 8 → is_at (slice_index_or s.map block state.Absent) ≡ false
      → Checks {T = LineNo} place_says (block_refusal s.geo.blocks (blocks_of s m) block line) (Err fault.Nothing)
  nothing_in_block all below small bare =
      let found = bare_state s block (omega (arith, all)) bare in
      subst (λ (o : Option ScrubRefusal). Checks {T = LineNo} place_says o (Err fault.Nothing))
      (sym (inside below small ∙ ap unit_refusal (nth-map_read s.geo m.is_bad (last_image m) s.map block found.0 found.1)))
      (by_state found.0 found.2)
    where
      by_state : (st : BlockState) → is_at st ≡ false → Checks {T = LineNo} place_says (unit_refusal (block_read s.geo m.is_bad (last_image m) st)) (Err fault.Nothing)
      by_state state.Absent is = refl
      by_state state.Scarred is = refl
      by_state (state.At unit) is = cc
