-- What is looked at is what may be left of it where a cut falls.
use Rattle.std.proofs.Common.{◌≡◌, ℕ, ◌/◌, ◌<◌, Option, Some, None, List, [], ◌∷◌, length, map, refl, sym, ap, ◌∙◌}
use Rattle.word_tables.specs.declared.geometry.Geometry.{Geometry}
use Rattle.nvm_model.specs.Blocks.{nth}
use Rattle.nvm_model.specs.Cell.{Cell}
use Rattle.pm_volume.specs.Refusals.{physical_offset}
use Rattle.block_sights.specs.Sights.{Sight, sight}
use Rattle.script_text.specs.Action.{Action}
use Rattle.script_text.specs.Action.Action.{BWrite, BAtomic, BMulti, BDiscard, BDiscardIf, BScar, VStore, VSync, VPSync, VDiscard, VDiscardIf, ClearVolume}
use Rattle.cut_places.specs.MachineModel.Machine.{Machine}
use Rattle.cut_places.specs.MachineModel.Commands.{meaning, refusal, while_interrupted}
use Rattle.cut_places.specs.MachineModel.OnVolume.{part_synced_at}
use Rattle.cut_places.specs.Durable.Durable.{HaveEightLines, HaveLines}
use Rattle.cut_places.specs.SightsSeen.declared.line_seen.LineSeen.{LineSeen}
use Rattle.cut_places.specs.SightsSeen.declared.block_seen.BlockSeen.{BlockSeen}
use Rattle.cut_places.specs.SightsSeen.declared.way.Way.{Way}
use Rattle.cut_places.specs.SightsSeen.Changing.{line_changed, volume_change}
use Rattle.cut_places.specs.SightsSeen.ChangingBlocks.{block_changed}
use Rattle.cut_places.specs.SightsSeen.Seeing.{seen}
use Rattle.cut_places.specs.SightsSeen.Units.{AreBlocks, AreLines, block_once_done, line_once_done}
use Rattle.cut_places.specs.SightsSeen.Ways.{blocks_way, lines_way}
use Rattle.cut_places.proofs.SightsSeen.BlockChangeLemmas.{blocks_changed}
use Rattle.cut_places.proofs.SightsSeen.InsideLemmas.{AreThere, HaveLine}
use Rattle.cut_places.proofs.SightsSeen.PassLemmas.{EachUnit}
use Rattle.cut_places.proofs.SightsSeen.VolumeChangeLemmas.{volume_changed}
use Rattle.value_tables.specs.Left.{block_left, blocks_left, line_left, lines_left, of_blocks, of_lines}
use Rattle.value_tables.specs.Sides.{AreBlocksLeft, AreLeft, where_mixed}

module _ (h : Machine) (settled : h.interrupted ≡ None) where
  -- at rest
  pub lines_rest : (lines : List LineSeen) → AreLines (seen h.volume) lines → AreLeft (line_left h) lines []
  lines_rest [] are = tt
  lines_rest (s ∷ lines) are = (at_rest h.interrupted settled ∙ ap (λ cell. cell ∷ []) (sym are.0), lines_rest lines are.1)
    where
      at_rest : (o : Option Action) → o ≡ None → lines_left h.geometry o h.volume s.number ≡ seen h.volume s.number ∷ []
      at_rest None is = refl
      at_rest (Some action) is = cc is

  pub blocks_rest : (blocks : List BlockSeen) → AreBlocks (λ b. sight (nth h.blocks b)) blocks → AreBlocksLeft (block_left h) blocks []
  blocks_rest [] are = tt
  blocks_rest (s ∷ blocks) are = (at_rest h.interrupted settled ∙ ap (λ one. one ∷ []) (sym are.0), blocks_rest blocks are.1)
    where
      at_rest : (o : Option Action) → o ≡ None → blocks_left o h.blocks s.number ≡ sight (nth h.blocks s.number) ∷ []
      at_rest None is = refl
      at_rest (Some action) is = cc is

-- the old one, or both, as the way has it
abbrev by_way : {A : Type 0} → Option Way → A → A → List A
by_way None old new = old ∷ []
by_way (Some way) old new = old ∷ new ∷ []

synced_two : (o : Option ℕ) (len : ℕ) (old new : Cell) → of_lines (part_synced_at o len) old new ≡ old ∷ new ∷ []
synced_two None len old new = refl
synced_two (Some start) len old new = refl

module _ (h : Machine) (n : ℕ) (whole : HaveLines h.volume) (within : n / 64 < length h.volume) where
  -- a line inside a command
  line_inside : (action : Action) → refusal h action ≡ None
      → of_lines ((meaning action).volume_left h.geometry) (seen h.volume n) (seen ((meaning action).volume h.geometry h.volume) n)
      ≡ by_way (lines_way action) (seen h.volume n) (line_changed (volume_change h.geometry action) n (seen h.volume n))
  line_inside (VStore offset bytes) allowed = ap (λ cell. seen h.volume n ∷ cell ∷ []) (volume_changed h (VStore offset bytes) n allowed whole within)
  line_inside (VSync offset len) allowed = ap (λ cell. seen h.volume n ∷ cell ∷ []) (volume_changed h (VSync offset len) n allowed whole within)
  line_inside (VPSync address len) allowed =
      synced_two (physical_offset h.geometry address len) len (seen h.volume n) (seen ((meaning (VPSync address len)).volume h.geometry h.volume) n)
      ∙ ap (λ cell. seen h.volume n ∷ cell ∷ []) (volume_changed h (VPSync address len) n allowed whole within)
  line_inside (VDiscard page count) allowed = ap (λ cell. seen h.volume n ∷ cell ∷ []) (volume_changed h (VDiscard page count) n allowed whole within)
  line_inside (VDiscardIf page count) allowed = ap (λ cell. seen h.volume n ∷ cell ∷ []) (volume_changed h (VDiscardIf page count) n allowed whole within)
  line_inside (ClearVolume offset) allowed = ap (λ cell. seen h.volume n ∷ cell ∷ []) (volume_changed h (ClearVolume offset) n allowed whole within)
  line_inside action allowed = refl

module _ (h : Machine) (b : ℕ) (eight : HaveEightLines h.blocks) (within : b < length h.blocks) where
  -- and a block
  block_inside : (action : Action) → refusal h action ≡ None
      → of_blocks (meaning action).blocks_left (sight (nth h.blocks b)) (sight (nth ((meaning action).blocks h.blocks) b))
      ≡ by_way (blocks_way action) (sight (nth h.blocks b)) (block_changed action b (sight (nth h.blocks b)))
  block_inside (BWrite block bytes) allowed = ap (λ one. sight (nth h.blocks b) ∷ one ∷ []) (blocks_changed h (BWrite block bytes) b allowed eight within)
  block_inside (BAtomic block bytes) allowed = ap (λ one. sight (nth h.blocks b) ∷ one ∷ []) (blocks_changed h (BAtomic block bytes) b allowed eight within)
  block_inside (BMulti ranges bytes) allowed = ap (λ one. sight (nth h.blocks b) ∷ one ∷ []) (blocks_changed h (BMulti ranges bytes) b allowed eight within)
  block_inside (BDiscard block count) allowed = ap (λ one. sight (nth h.blocks b) ∷ one ∷ []) (blocks_changed h (BDiscard block count) b allowed eight within)
  block_inside (BDiscardIf block count) allowed = ap (λ one. sight (nth h.blocks b) ∷ one ∷ []) (blocks_changed h (BDiscardIf block count) b allowed eight within)
  block_inside (BScar ranges) allowed = ap (λ one. sight (nth h.blocks b) ∷ one ∷ []) (blocks_changed h (BScar ranges) b allowed eight within)
  block_inside action allowed = refl

module _ (way : Option Way) (geo : Geometry) (action : Action) where
  mixed_lines : (f : ℕ → List Cell) (old : ℕ → Cell) (limit : ℕ) (lines : List LineSeen) → AreLines old lines → EachUnit (λ (s : LineSeen). s.number / 64 < limit) lines
      → ((n : ℕ) → n / 64 < limit → f n ≡ by_way way (old n) (line_changed (volume_change geo action) n (old n)))
      → AreLeft f lines (where_mixed way (map (line_once_done geo action) lines))
  mixed_lines f old limit lines are within each = by_kind way each lines are within
    where
      by_kind : (way : Option Way) → ((n : ℕ) → n / 64 < limit → f n ≡ by_way way (old n) (line_changed (volume_change geo action) n (old n)))
          → (lines : List LineSeen) → AreLines old lines → EachUnit (λ (s : LineSeen). s.number / 64 < limit) lines
          → AreLeft f lines (where_mixed way (map (line_once_done geo action) lines))
      by_kind None each [] are within = tt
      by_kind None each (s ∷ lines) are within = (each s.number within.0 ∙ ap (λ cell. cell ∷ []) (sym are.0), by_kind None each lines are.1 within.1)
      by_kind (Some way) each [] are within = tt
      by_kind (Some way) each (s ∷ lines) are within = (
        each s.number within.0 ∙ ap (λ cell. cell ∷ line_changed (volume_change geo action) s.number cell ∷ []) (sym are.0),
        by_kind (Some way) each lines are.1 within.1,
      )

  mixed_blocks : (f : ℕ → List Sight) (old : ℕ → Sight) (limit : ℕ) (blocks : List BlockSeen) → AreBlocks old blocks → EachUnit (λ (s : BlockSeen). s.number < limit) blocks
      → ((b : ℕ) → b < limit → f b ≡ by_way way (old b) (block_changed action b (old b)))
      → AreBlocksLeft f blocks (where_mixed way (map (block_once_done geo action) blocks))
  mixed_blocks f old limit blocks are within each = by_kind way each blocks are within
    where
      by_kind : (way : Option Way) → ((b : ℕ) → b < limit → f b ≡ by_way way (old b) (block_changed action b (old b)))
          → (blocks : List BlockSeen) → AreBlocks old blocks → EachUnit (λ (s : BlockSeen). s.number < limit) blocks
          → AreBlocksLeft f blocks (where_mixed way (map (block_once_done geo action) blocks))
      by_kind None each [] are within = tt
      by_kind None each (s ∷ blocks) are within = (each s.number within.0 ∙ ap (λ one. one ∷ []) (sym are.0), by_kind None each blocks are.1 within.1)
      by_kind (Some way) each [] are within = tt
      by_kind (Some way) each (s ∷ blocks) are within = (
        each s.number within.0 ∙ ap (λ one. one ∷ block_changed action s.number one ∷ []) (sym are.0),
        by_kind (Some way) each blocks are.1 within.1,
      )

module _ (h : Machine) (action : Action) where
  -- inside a command
  pub lines_cut : (lines : List LineSeen) → refusal h action ≡ None → HaveLines h.volume → AreLines (seen h.volume) lines → HaveLine h.volume lines
      → AreLeft (line_left (while_interrupted h action)) lines (where_mixed (lines_way action) (map (line_once_done h.geometry action) lines))
  lines_cut lines allowed whole are within =
      mixed_lines (lines_way action) h.geometry action (line_left (while_interrupted h action)) (seen h.volume) (length h.volume) lines are within
      (λ n lt. line_inside h n whole lt action allowed)

  pub blocks_cut : (blocks : List BlockSeen) → refusal h action ≡ None → HaveEightLines h.blocks → AreBlocks (λ b. sight (nth h.blocks b)) blocks → AreThere h.blocks blocks
      → AreBlocksLeft (block_left (while_interrupted h action)) blocks (where_mixed (blocks_way action) (map (block_once_done h.geometry action) blocks))
  blocks_cut blocks allowed eight are within =
      mixed_blocks (blocks_way action) h.geometry action (block_left (while_interrupted h action)) (λ b. sight (nth h.blocks b)) (length h.blocks) blocks are within
      (λ b lt. block_inside h b eight lt action allowed)
