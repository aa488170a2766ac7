-- What is said of the line of a byte: whether it is there, and whether it is bad.
use Rattle.std.proofs.Common.{◌≡◌, ℕ, ◌+◌, ◌*◌, ◌/◌, ◌%◌, ◌<◌, Bool, true, false, if◌then◌else◌, nat_le, Option, Some, None, Result, Ok, Err, List, length, slice_get, refl, sym, ap, subst, ◌∙◌, arith}
use Rattle.std.proofs.lemmas.Bool.{lt-leb}
use Rattle.std.specs.Result.{IsErrAnd}
use Rattle.nvm_base.specs.declared.units.LineNo.{LineNo}
use Rattle.line_device.specs.Medium.{Medium}
use Rattle.line_words.specs.Told.{Answers, Checks, refusal_of}
use Rattle.word_tables.specs.declared.geometry.Geometry.{Geometry}
use Rattle.word_tables.specs.Bounds.{IsValid}
use Rattle.word_tables.specs.Layout.{total_lines, volume_line}
use Rattle.nvm_model.specs.Cell.{Cell, CellStands}
use Rattle.nvm_model.specs.Cell.Cell.{Bad, Kept}
use Rattle.nvm_model.specs.Page.{Page, PagesStand, cell_of, presence_of}
use Rattle.page_lines.proofs.StandingLemmas.{Located}
use Rattle.pm_volume.specs.Object.{VolumeServes, VolumeState, is_wanted, volume_place}
use Rattle.pm_volume.proofs.PlaceLemmas.{place_of, placed_line, unplaced, volume_behind_metadata}
use Rattle.scrub.specs.declared.fault.PlaceFault.{PlaceFault}
use Rattle.scrub.specs.declared.fault.PlaceFault.TheVariants as place_fault
use Rattle.scrub.specs.declared.fault.ScrubFault.{ScrubFault}
use Rattle.marked_lines.specs.Refusals.{ScrubRefusal, byte_refusal, cell_refusal, healing_refusal, line_refusal, mark_refusal}
use Rattle.scrub.specs.Refusals.{place_says, scrub_says}
use Rattle.marked_lines.specs.Refusals.ScrubRefusal.{Range}
use Rattle.scrub.proofs.LineLemmas.{cell_here, no_cell}

-- the lines of the volume's pages have places, and no others have
pub volume_located : (geo : Geometry) (there : List Bool) → Located (volume_place geo there true) (volume_line geo) there
volume_located geo there = record {
  here = λ n is. place_of geo there true n is;
  nowhere = λ n out. unplaced geo there true n (lacking (slice_get there (n / 64)) out);
}
  where
    lacking : (o : Option Bool) → (o ≡ Some true → ⊥) → is_wanted true o ≡ false
    lacking None out = refl
    lacking (Some false) out = refl
    lacking (Some true) out = absurd (out refl)

-- the line of a byte of the volume, by the first line of its page
pub at_offset : (s : VolumeState) (offset first : ℕ) → ((k : ℕ) → k < 64 → volume_place s.geo s.present true (64 * (offset / 4096) + k) ≡ Some (first + k))
    → volume_place s.geo s.present true (offset / 64) ≡ Some (first + offset % 4096 / 64)
at_offset s offset first lines =
    let e : 64 * (offset / 4096) + offset % 4096 / 64 ≡ offset / 64 = omega arith in
    subst (λ n. volume_place s.geo s.present true n ≡ Some (first + offset % 4096 / 64)) e (lines (offset % 4096 / 64) (omega arith))

pub nowhere_at : (s : VolumeState) (offset : ℕ) → ((k : ℕ) → k < 64 → volume_place s.geo s.present true (64 * (offset / 4096) + k) ≡ None)
    → volume_place s.geo s.present true (offset / 64) ≡ None
nowhere_at s offset lines =
    let e : 64 * (offset / 4096) + offset % 4096 / 64 ≡ offset / 64 = omega arith in
    subst (λ n. volume_place s.geo s.present true n ≡ None) e (lines (offset % 4096 / 64) (omega arith))

-- it is on the device, which is small
pub placed_below : (s : VolumeState) (n line : ℕ) → IsValid s.geo → length s.present ≡ s.geo.vpages → volume_place s.geo s.present true n ≡ Some line → line < 118016
unfolding total_lines
placed_below s n line valid all at = omega (arith, (volume_behind_metadata s.geo valid line (placed_line s.geo valid s.present true n line all at)).1)

pub on_device : (s : VolumeState) (m : Medium) (n line : ℕ) → VolumeServes s m → volume_place s.geo s.present true n ≡ Some line → line < m.count
on_device s m n line serves at =
    omega (arith, (volume_behind_metadata s.geo serves.valid line (placed_line s.geo serves.valid s.present true n line serves.all at)).1, serves.count)

marked : (m : Medium) (line : ℕ) (cell : Cell) → CellStands m line cell → line_refusal (Some cell) ≡ mark_refusal (m.is_bad line)
marked m line Bad stands = ap mark_refusal (sym stands)
marked m line (Kept weak words) stands = ap mark_refusal (sym stands.0)

-- a byte of pages that lie at given places
module _ (place : ℕ → Option ℕ) (at : ℕ → ℕ) (there : List Bool) (located : Located place at there) (m : Medium) (pages : List Page) (is_there : presence_of pages ≡ there) (stand : PagesStand at m pages)
    (size offset : ℕ) where
  -- what is told where its line is looked for
  pub told_nothing : offset < 4096 * size → place (offset / 64) ≡ None → Checks {T = LineNo} place_says (byte_refusal size pages offset) (Err place_fault.Nothing)
  told_nothing below none =
      subst (λ (o : Option ScrubRefusal). Checks {T = LineNo} place_says o (Err place_fault.Nothing))
      (sym (ap (λ b. if b then Some Range else cell_refusal (cell_of pages (offset / 64))) (lt-leb (4096 * size) offset below)
      ∙ ap cell_refusal (no_cell place at there located m pages is_there stand (offset / 64) none)))
      refl

  pub told_there : (line : ℕ) (found : LineNo) → offset < 4096 * size → place (offset / 64) ≡ Some line → Checks place_says (byte_refusal size pages offset) (Ok found)
  told_there line found below here =
      subst (λ (o : Option ScrubRefusal). Checks place_says o (Ok found))
      (sym (ap (λ b. if b then Some Range else cell_refusal (cell_of pages (offset / 64))) (lt-leb (4096 * size) offset below)
      ∙ ap cell_refusal (cell_here place at there located (offset / 64) line here m pages is_there stand).1))
      tt

  -- a clear goes by the mark of the line that was found
  pub clear_there : (found : LineNo) {T : Type 0} (r : Result T ScrubFault) → Checks place_says (byte_refusal size pages offset) (Ok found) → place (offset / 64) ≡ Some found.0
      → Answers scrub_says (mark_refusal (m.is_bad found.0)) r → Answers scrub_says (healing_refusal size pages offset) r
  clear_there found {T} r passes here told =
      let cell = cell_here place at there located (offset / 64) found.0 here m pages is_there stand in
      subst (λ (o : Option ScrubRefusal). Answers scrub_says o r) (sym (by_test (nat_le (4096 * size) offset) passes ∙ ap line_refusal cell.1 ∙ marked m found.0 cell.0 cell.2)) told
    where
      by_test : (b : Bool) → Checks place_says (if b then Some Range else cell_refusal (cell_of pages (offset / 64))) (Ok found)
          → (if b then Some Range else line_refusal (cell_of pages (offset / 64))) ≡ line_refusal (cell_of pages (offset / 64))
      by_test true passes = absurd passes
      by_test false passes = refl

-- and is refused where there is none
pub clear_nowhere : (size : ℕ) (pages : List Page) (offset : ℕ) (why : PlaceFault) {T : Type 0} (r : Result T ScrubFault) → Checks {T = LineNo} place_says (byte_refusal size pages offset) (Err why)
    → IsErrAnd r (λ fault. scrub_says fault ≡ place_says why) → Answers scrub_says (healing_refusal size pages offset) r
clear_nowhere size pages offset why {T} (Ok x) told same = absurd same
clear_nowhere size pages offset why {T} (Err fault) told same = by_cases (nat_le (4096 * size) offset) (cell_of pages (offset / 64)) told
  where
    by_cases : (b : Bool) (o : Option Cell) → Checks {T = LineNo} place_says (if b then Some Range else cell_refusal o) (Err why)
        → Answers {T = T} scrub_says (if b then Some Range else line_refusal o) (Err fault)
    by_cases true o told = ap refusal_of same ∙ told
    by_cases false None told = ap refusal_of same ∙ told
    by_cases false (Some cell) told = absurd told
