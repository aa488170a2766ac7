-- One prepared change more, on a unit that was free.
use Rattle.std.proofs.Common.{◌≡◌, inl, inr, ℕ, Bool, false, cond, ◌+◌, ◌*◌, ◌/◌, ◌<◌, ◌≤◌, List, [], ◌∷◌, ◌++◌, length, map, get_or, set, take, drop, Option, Some, Ok, is_some, refl, sym, ◌∙◌, ap, subst, arith}
use Rattle.std.proofs.lemmas.Bool.{ne_eqb, or_from}
use Rattle.std.proofs.lemmas.List.{map-append, map-set, length-map}
use Rattle.std.proofs.lemmas.List.Sums.{sum_by-append}
use Rattle.line_device.specs.Device.{Device}
use Rattle.line_device.specs.Medium.{Medium, IsSound, last_image}
use Rattle.line_device.specs.Panel.{Runs}
use Rattle.line_device.specs.Panel.Outcome.{went}
use Rattle.line_words.specs.Words.{HoldsLine, WritesBackBeside}
use Rattle.line_words.proofs.BesideLemmas.{beside-wider}
use Rattle.word_tables.specs.declared.geometry.Geometry.{Geometry}
use Rattle.word_tables.specs.Layout.{block_line, first_line, total_lines}
use Rattle.block_map.specs.declared.state.BlockState.{BlockState}
use Rattle.block_map.specs.declared.state.BlockState.TheVariants.{Absent, Scarred, At}
use Rattle.block_map.specs.States.{IsAt}
use Rattle.free_pool.specs.Units.{IsFree, IsTaken}
use Rattle.free_pool.specs.Beside.{used_units}
use Rattle.free_pool.proofs.BesideLemmas.{free_not_taken, still_taken}
use Rattle.nvm_model.specs.Storage.{Block}
use Rattle.nvm_model.specs.Blocks.{data_from, write}
use Rattle.block_device.specs.declared.change.Change.{Change}
use Rattle.block_device.specs.Area.{IsBlockLine}
use Rattle.block_device.specs.Calls.{MayPrepare, PreparesBlocks}
use Rattle.block_device.specs.Object.{BlocksState, IsInStep, BlocksServe, AreDurable, unit_on}
use Rattle.block_device.specs.Reading.{block_read, map_read}
use Rattle.block_device.specs.Changes.{MayChange, AreTaken, changed_map, is_on, names, takes, units_in, units_named}
use Rattle.block_device.specs.Prepared.{ArePrepared, AreAsBefore, blocks_with, numbers_of}
use Rattle.block_device.proofs.ReadLemmas.{map_read-beside, durable-beside}
use Rattle.block_device.proofs.ServesLemmas.{serves-beside}
use Rattle.block_device.proofs.ChangeLemmas.{is_at-set, length-changed_map, may_change-later, may_change-push}
use Rattle.block_device.proofs.FreeUnitLemmas.{IsUnitLine, HoldsBlock, durable-set, free_is_vacant, holds_block, in_step-taken, is_unit_line, taken-set, unit_is_block, unit_off_area, unit_off_named, unit_reads}
use Rattle.block_device.proofs.UnitsOfLemmas.{on_unit, taken_first, taken_none, taken_rest, taken_with}
use Rattle.block_device.proofs.WriteLemmas.{write_one}

abbrev pub put : ℕ → ℕ → Change
put block unit = record { block = block; state = At unit }

pub changed_map-push : (cs : List Change) (c : Change) (states : List BlockState) → changed_map (cs ++ c ∷ []) states ≡ set (changed_map cs states) c.block c.state
changed_map-push [] c states = refl
changed_map-push (d ∷ ds) c states = changed_map-push ds c (set states d.block d.state)

pub units_named-push : (cs : List Change) (block unit : ℕ) → units_named (cs ++ put block unit ∷ []) ≡ units_named cs + 1
units_named-push cs block unit =
    ap used_units (map-append (λ (c : Change). unit_on c.state) cs (put block unit ∷ [])) ∙ sum_by-append (λ (o : Option ℕ). cond (is_some o) 1 0) (units_in cs) (Some unit ∷ [])

-- changes to units that are taken put no block on a free one
takes-free : (free : List Bool) (unit : ℕ) (cs : List Change) → IsFree free unit → AreTaken free cs → takes cs (At unit) ≡ false
takes-free free unit [] is_free taken = refl
takes-free free unit (c ∷ cs) is_free taken =
    or_from (is_on unit c.state) (takes cs (At unit)) (off c.state (taken_first free c cs taken)) (takes-free free unit cs is_free (taken_rest free c cs taken))
  where
    off : (s : BlockState) → ((u : ℕ) → s ≡ At u → IsTaken free u) → is_on unit s ≡ false
    off Absent of = refl
    off Scarred of = refl
    off (At u) of = ne_eqb u unit (λ e. free_not_taken free unit u is_free (of u refl) e)

taken-push : (free : List Bool) (block unit : ℕ) (cs : List Change) → IsFree free unit → AreTaken free cs → AreTaken (set free unit false) (cs ++ put block unit ∷ [])
taken-push free block unit [] is_free taken = taken_with (set free unit false) (put block unit) [] (λ u is. taken-set free unit u is_free is) (taken_none (set free unit false))
taken-push free block unit (c ∷ cs) is_free taken =
    taken_with (set free unit false) c (cs ++ put block unit ∷ [])
    (λ u is. let was = taken_first free c cs taken u is in still_taken free unit u false (free_not_taken free unit u is_free was) was)
    (taken-push free block unit cs is_free (taken_rest free c cs taken))

-- what the map names after them is taken
changed_taken : (free : List Bool) (cs : List Change) (states : List BlockState) → MayChange states cs → AreTaken free cs → ((block unit : ℕ) → IsAt states block unit → IsTaken free unit) → (block unit : ℕ) → IsAt (changed_map cs states) block unit → IsTaken free unit
changed_taken free [] states may taken named = named
changed_taken free (c ∷ cs) states may taken named =
    changed_taken free cs (set states c.block c.state) (may_change-later states c cs may) (taken_rest free c cs taken)
    (λ block unit at. elim (is_at-set states c.block block unit c.state may.0 at) as (λ _. IsTaken free unit) [
      | inl here ↦ taken_first free c cs taken unit here.1
      | inr there ↦ named block unit there.1
    ])

-- the unit has the block's bytes
pub record HasBytes (s : BlocksState) (unit : ℕ) (n : Medium) (block : ℕ) (bytes : List ℕ) : Type 0 where
  pub there : block < s.geo.blocks
  pub holds : HoldsBlock s.geo n unit bytes
  pub sound : IsSound n
  pub small : (k : ℕ) → get_or bytes k 0 < 256
  pub whole : length bytes ≡ 512

pub unit_there : (geo : Geometry) (unit first len count : ℕ) → unit < geo.blocks + 64 → first ≡ block_line geo unit → len ≡ 512 → count ≡ total_lines geo → first + len / 64 ≤ count
unfolding first_line total_lines
unit_there geo unit first len count within at whole all = omega arith

-- a free unit beside prepared changes, its lines made new
pub record HasSpare (s : BlocksState) (d : Device) (n : Medium) (cs : List Change) (unit : ℕ) : Type 0 where
  pub may : MayPrepare s d cs
  pub within : unit < s.geo.blocks + 64
  pub was_free : IsFree s.free unit
  pub lines : WritesBackBeside (IsUnitLine s.geo unit) d.medium n

-- the object once the unit is taken
abbrev pub without : BlocksState → ℕ → BlocksState
without s unit = record s { free = set s.free unit false }

module _ (s : BlocksState) (d : Device) (n : Medium) (cs : List Change) (unit : ℕ) (x : HasSpare s d n cs unit) where
  vacant : (block : ℕ) → IsAt s.map block unit → ⊥
  vacant = free_is_vacant s.map s.free (units_named cs) unit x.may.prepared.in_step x.was_free

  vacant_then : (block : ℕ) → IsAt (changed_map cs s.map) block unit → ⊥
  vacant_then block at =
      free_not_taken s.free unit unit x.was_free (changed_taken s.free cs s.map x.may.prepared.may x.may.prepared.taken (λ b u is. x.may.prepared.in_step.taken b u (on_unit s.map b u is)) block unit at) refl

  serves_then : BlocksServe s n
  serves_then =
      serves-beside s (IsUnitLine s.geo unit) d.medium n x.may.serves.valid (unit_off_area s.geo x.may.serves.valid unit x.within) (unit_off_named s.geo s.map unit vacant) x.lines x.may.serves

  pub spare_before : AreAsBefore s (without s unit) d.medium n
  spare_before =
      let now = serves_then in
      record {
        geo = refl;
        map = refl;
        quiet = refl;
        unsettled = x.may.unsettled;
        blocks = map_read-beside s.geo s.map d.medium n (IsUnitLine s.geo unit) x.lines (unit_off_named s.geo s.map unit vacant);
        serves = record { valid = now.valid; all = now.all; is_map = now.is_map; count = now.count; strong = now.strong; rest = now.rest; durable = now.durable };
        good = λ k below. x.lines.stays_good k (x.may.good k below);
        outside = beside-wider (IsUnitLine s.geo unit) (IsBlockLine s.geo) d.medium n (unit_is_block s.geo x.may.serves.valid unit x.within) x.lines;
      }

  module _ (block : ℕ) (bytes : List ℕ) (b : HasBytes s unit n block bytes) where
    pub spare_prepared : names cs block ≡ false → ArePrepared (without s unit) n (cs ++ put block unit ∷ [])
    spare_prepared fresh = record {
      may =
          may_change-push s.map cs (put block unit) (omega (arith, x.may.serves.all, b.there)) (omega (arith, x.may.serves.all, x.within), vacant) fresh
          (takes-free s.free unit cs x.was_free x.may.prepared.taken) x.may.prepared.may;
      taken = taken-push s.free block unit cs x.was_free x.may.prepared.taken;
      in_step =
          subst (λ k. IsInStep s.map (set s.free unit false) k) (sym (units_named-push cs block unit))
          (in_step-taken s.map s.free unit (units_named cs) x.may.prepared.in_step x.was_free);
      durable =
          let states : List BlockState = changed_map cs s.map in
          subst (AreDurable s.geo n) (sym (changed_map-push cs (put block unit) s.map))
          (durable-set s.geo d.medium n states block unit bytes (omega (arith, b.there, x.may.serves.all, length-changed_map cs s.map))
          (durable-beside s.geo states d.medium n (IsUnitLine s.geo unit) x.lines (unit_off_named s.geo states unit vacant_then) x.may.prepared.durable) b.holds);
    }

    pub spare_written : blocks_with (cs ++ put block unit ∷ []) (without s unit) n ≡ write block bytes (blocks_with cs s d.medium)
    spare_written =
        let states : List BlockState = changed_map cs s.map in
        let read : BlockState → Block = block_read s.geo n.is_bad (last_image n) in
        ap (map_read s.geo n.is_bad (last_image n)) (changed_map-push cs (put block unit) s.map)
        ∙ map-set read states block (At unit)
        ∙ ap (λ new. set (map read states) block new) (unit_reads s.geo n unit bytes b.sound b.small b.holds)
        ∙ ap (λ bs. set bs block (data_from bytes 0)) (map_read-beside s.geo states d.medium n (IsUnitLine s.geo unit) x.lines (unit_off_named s.geo states unit vacant_then))
        ∙ sym
        (write_one bytes block (blocks_with cs s d.medium) b.whole
        (omega (arith, x.may.serves.all, b.there, length-map states (block_read s.geo d.medium.is_bad (last_image d.medium)), length-changed_map cs s.map)))

-- as code finds them
pub unit_at : (v s : BlocksState) (unit first : ℕ) → v ≡ s → first ≡ block_line v.geo unit → first ≡ block_line s.geo unit
unit_at v s unit first same at = at ∙ ap (λ (z : BlocksState). block_line z.geo unit) same

pub has_spare : (v s : BlocksState) (d : Device) (n : Medium) (cs : List Change) (unit first len : ℕ) → v ≡ s → MayPrepare s d cs → unit < s.geo.blocks + 64 → IsFree s.free unit → first ≡ block_line v.geo unit → len ≡ 512 → WritesBackBeside (λ k. (first ≤ k) × (k < first + len / 64)) d.medium n → HasSpare s d n cs unit
has_spare v s d n cs unit first len same may within was_free at whole lines = record {
  may = may;
  within = within;
  was_free = was_free;
  lines = beside-wider _ _ d.medium n (λ k h. is_unit_line s.geo unit first (len / 64) k (unit_at v s unit first same at) (omega arith) h) lines;
}

pub spare_bytes : (v s : BlocksState) (n : Medium) (unit first block : ℕ) (bytes : List ℕ) → v ≡ s → first ≡ block_line v.geo unit → block < s.geo.blocks → IsSound n → ((k : ℕ) → get_or bytes k 0 < 256) → length bytes ≡ 512 → ((k : ℕ) → k < length bytes / 64 → HoldsLine n (first + k) (take 64 (drop (64 * k) bytes))) → HasBytes s unit n block bytes
spare_bytes v s n unit first block bytes same at there sound small whole holds = record {
  there = there;
  holds = holds_block s.geo n unit first (length bytes / 64) bytes (unit_at v s unit first same at) (omega arith) holds;
  sound = sound;
  small = small;
  whole = whole;
}

-- one block more is prepared
pub spare_prepares : {D : Type 0} (state : D → Device) (s : BlocksState) (before after : D) (cs : List Change) (unit block : ℕ) (bytes : List ℕ) → HasSpare s (state before) (state after).medium cs unit → HasBytes s unit (state after).medium block bytes → names cs block ≡ false
    → Runs 24 8 went (state before).panel (state after).panel → PreparesBlocks state s (without s unit) before after (Ok tt) cs (cs ++ put block unit ∷ []) (numbers_of cs ++ block ∷ []) (write block bytes) 24 8
spare_prepares state s before after cs unit block bytes x b fresh runs = record {
  as_before = spare_before s (state before) (state after).medium cs unit x;
  prepared = spare_prepared s (state before) (state after).medium cs unit x block bytes b fresh;
  numbered = map-append (λ (c : Change). c.block) cs (put block unit ∷ []);
  written = spare_written s (state before) (state after).medium cs unit x block bytes b;
  runs = runs;
}
