-- What may be left of one line, or of one block, passes a test where what is listed of it does.
use Rattle.std.proofs.Common.{◌≡◌, ℕ, ◌+◌, ◌*◌, ◌/◌, ◌<◌, ◌==◌, ◌&&◌, ◌||◌, nat_lt, not, Bool, true, false, cond, Option, Some, None, List, [], ◌∷◌, length, refl, ap, ◌∙◌, arith}
use Rattle.std.specs.List.{list_any}
use Rattle.std.proofs.lemmas.Bool.{eq-eqb, ltb-true}
use Rattle.word_tables.specs.declared.geometry.Geometry.{Geometry}
use Rattle.nvm_model.specs.Blocks.{nth}
use Rattle.nvm_model.specs.Cell.{Cell, flush_cell, persist_cell}
use Rattle.nvm_model.specs.Page.{Page, cell_of, fill, persist, put}
use Rattle.nvm_model.specs.Storage.{Block}
use Rattle.pm_volume.specs.Refusals.{physical_offset}
use Rattle.block_sights.specs.Sights.{sight}
use Rattle.script_text.specs.Action.{Action}
use Rattle.script_text.specs.Action.Action.{VStore, VSync, VPSync, VDiscard, VDiscardIf, ClearVolume}
use Rattle.cut_places.specs.MachineModel.Commands.{meaning}
use Rattle.cut_places.specs.MachineModel.Meaning.{BlocksLeft}
use Rattle.cut_places.specs.MachineModel.Meaning.BlocksLeft.{Same, Either, Mixed}
use Rattle.cut_places.specs.MachineModel.OnVolume.{part_synced_at, persist_at}
use Rattle.cut_places.specs.Durable.Durable.{HaveLines}
use Rattle.cut_places.specs.Outcomes.Blocks.{BlockRead, block_fits}
use Rattle.cut_places.specs.Outcomes.Left.{blocks_may_pass, blocks_pass, volume_may_pass, volume_passes}
use Rattle.cut_places.specs.Outcomes.Pages.{PageRead, line_fits}
use Rattle.cut_places.specs.AskedReads.Fitting.{cell_fits, sight_fits}
use Rattle.cut_places.specs.SightsSeen.Seeing.{seen}
use Rattle.cut_places.proofs.SightsSeen.SeenLemmas.{seen-fill, seen-persist}
use Rattle.cut_places.proofs.SightsSeen.ShowLemmas.{block_seen, fits_seen}
use Rattle.value_tables.specs.Left.{blocks_left, lines_left, of_blocks, of_lines}

one_of : (a : Bool) → (a && true) ≡ (a || false)
one_of true = refl
one_of false = refl

one_of_two : (a b : Bool) → ((a || b) && true) ≡ (a || (b || false))
one_of_two true b = refl
one_of_two false true = refl
one_of_two false false = refl

either_of : (a b : Bool) → ((a && true) || (b && true)) ≡ (a || (b || false))
either_of true b = refl
either_of false true = refl
either_of false false = refl

stored_of : (a b : Bool) → ((a && true) || ((a || b) && true)) ≡ (a || (b || false))
stored_of true b = refl
stored_of false true = refl
stored_of false false = refl

grouped_of : (g a b : Bool) → g ≡ true → ((((not g || a) && true) || ((not g || b) && true)) && true) ≡ (a || (b || false))
grouped_of true true b is = refl
grouped_of true false true is = refl
grouped_of true false false is = refl
grouped_of false a b is = cc is

-- a span of no bytes makes nothing durable
nothing_persisted : (n : ℕ) (cell : Cell) → persist_cell 0 0 n cell ≡ cell
nothing_persisted n cell = ap (λ b. cond b (flush_cell cell) cell) (untouched (nat_lt 0 (64 * n + 64)) (nat_lt (64 * n) 0) refl)
  where
    untouched : (a b : Bool) → nat_lt (64 * n) 0 ≡ b → (a && b) ≡ false
    untouched a true is = absurd (omega (arith, ltb-true (64 * n) 0 is))
    untouched true false is = refl
    untouched false false is = refl

module _ (reads : List PageRead) (geo : Geometry) (old : List Page) (n : ℕ) where
  abbrev fits : List Page → Bool
  fits pages = line_fits reads n (cell_of pages n)

  was : fits old ≡ cell_fits reads n (seen old n)
  was = fits_seen reads n (cell_of old n)

  both : (f : Bool → Bool → Bool) (old_to to : List Page) → seen old_to n ≡ seen old n → f (fits old_to) (fits to) ≡ f (cell_fits reads n (seen old n)) (cell_fits reads n (seen to n))
  both f old_to to same =
      ap (λ a. f a (fits to)) (fits_seen reads n (cell_of old_to n) ∙ ap (cell_fits reads n) same)
      ∙ ap (f (cell_fits reads n (seen old n))) (fits_seen reads n (cell_of to n))

  kept : (fits old && true) ≡ (cell_fits reads n (seen old n) || false)
  kept = ap (λ a. a && true) was ∙ one_of (cell_fits reads n (seen old n))

  synced : (o : Option ℕ) (len : ℕ) → volume_passes (part_synced_at o len) (line_fits reads) old (persist_at o len old) (n ∷ [])
      ≡ list_any (cell_fits reads n) (of_lines (part_synced_at o len) (seen old n) (seen (persist_at o len old) n))
  synced None len =
      both (λ a b. (a || b) && true) old (persist 0 0 old) refl
      ∙ ap (λ cell. (cell_fits reads n (seen old n) || cell_fits reads n cell) && true) (seen-persist 0 0 old n ∙ nothing_persisted n (seen old n))
      ∙ one_of_two (cell_fits reads n (seen old n)) (cell_fits reads n (seen old n))
  synced (Some start) len = both (λ a b. (a || b) && true) old (persist start len old) refl
      ∙ one_of_two (cell_fits reads n (seen old n)) (cell_fits reads n (seen (persist start len old) n))

  module _ (whole : HaveLines old) (within : n / 64 < length old) where
    passes : (action : Action) → volume_passes ((meaning action).volume_left geo) (line_fits reads) old ((meaning action).volume geo old) (n ∷ [])
        ≡ list_any (cell_fits reads n) (of_lines ((meaning action).volume_left geo) (seen old n) (seen ((meaning action).volume geo old) n))
    passes (VStore offset bytes) =
        let first = fill offset (length bytes) old in
        let to = put offset bytes first in
        ap (λ a. (a && true) || ((fits first || fits to) && true)) was
        ∙ both (λ a b. (cell_fits reads n (seen old n) && true) || ((a || b) && true)) first to (seen-fill offset (length bytes) old n whole within)
        ∙ stored_of (cell_fits reads n (seen old n)) (cell_fits reads n (seen to n))
    passes (VSync offset len) = synced (Some offset) len
    passes (VPSync address len) = synced (physical_offset geo address len) len
    passes (VDiscard page count) =
        let to = (meaning (VDiscard page count)).volume geo old in
        both (λ a b. (a && true) || (b && true)) old to refl ∙ either_of (cell_fits reads n (seen old n)) (cell_fits reads n (seen to n))
    passes (VDiscardIf page count) =
        let to = (meaning (VDiscardIf page count)).volume geo old in
        both (λ a b. (((not (n / 64 == n / 64) || a) && true) || ((not (n / 64 == n / 64) || b) && true)) && true) old to refl
        ∙ grouped_of (n / 64 == n / 64) (cell_fits reads n (seen old n)) (cell_fits reads n (seen to n)) (eq-eqb (n / 64) (n / 64) refl)
    passes (ClearVolume offset) =
        let to = (meaning (ClearVolume offset)).volume geo old in
        both (λ a b. (a && true) || (b && true)) old to refl ∙ either_of (cell_fits reads n (seen old n)) (cell_fits reads n (seen to n))
    passes action = kept

    -- a line of a state
    pub line_passes : (o : Option Action) → volume_may_pass geo o (line_fits reads) old (n ∷ []) ≡ list_any (cell_fits reads n) (lines_left geo o old n)
    line_passes None = kept
    line_passes (Some action) = passes action

module _ (reads : List BlockRead) (b : ℕ) (old to : List Block) where
  seen_so : (blocks : List Block) → block_fits reads b (nth blocks b) ≡ sight_fits reads b (sight (nth blocks b))
  seen_so blocks = block_seen b (nth blocks b) reads

  two : (f : Bool → Bool → Bool) → f (block_fits reads b (nth old b)) (block_fits reads b (nth to b)) ≡ f (sight_fits reads b (sight (nth old b))) (sight_fits reads b (sight (nth to b)))
  two f = ap (λ a. f a (block_fits reads b (nth to b))) (seen_so old) ∙ ap (f (sight_fits reads b (sight (nth old b)))) (seen_so to)

  block_left_passes : (left : BlocksLeft) → blocks_pass left (block_fits reads) old to (b ∷ []) ≡ list_any (sight_fits reads b) (of_blocks left (sight (nth old b)) (sight (nth to b)))
  block_left_passes Same = ap (λ a. a && true) (seen_so old) ∙ one_of (sight_fits reads b (sight (nth old b)))
  block_left_passes Either = two (λ a c. (a && true) || (c && true)) ∙ either_of (sight_fits reads b (sight (nth old b))) (sight_fits reads b (sight (nth to b)))
  block_left_passes Mixed = two (λ a c. (a || c) && true) ∙ one_of_two (sight_fits reads b (sight (nth old b))) (sight_fits reads b (sight (nth to b)))

-- a block of a state
pub block_passes : (reads : List BlockRead) (b : ℕ) (old : List Block) (o : Option Action) → blocks_may_pass o (block_fits reads) old (b ∷ []) ≡ list_any (sight_fits reads b) (blocks_left o old b)
block_passes reads b old None = ap (λ a. a && true) (block_seen b (nth old b) reads) ∙ one_of (sight_fits reads b (sight (nth old b)))
block_passes reads b old (Some action) = block_left_passes reads b old ((meaning action).blocks old) (meaning action).blocks_left
