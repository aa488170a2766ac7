-- What a command makes of the volume: each word keeps a value.
use Rattle.std.proofs.Common.{ℕ, ◌*◌, ◌/◌, ◌<◌, ◌==◌, Option, Some, None, option_map, List, length, sym, ap, subst}
use Rattle.word_tables.specs.declared.geometry.Geometry.{Geometry}
use Rattle.nvm_model.specs.Cell.{Cell, clear_cell, touches}
use Rattle.nvm_model.specs.Numbered.{is_among}
use Rattle.nvm_model.specs.Page.{Page, at_line, cell_of, change_line}
use Rattle.nvm_model.proofs.MediaLemmas.{cell_of-change}
use Rattle.pm_volume.specs.Refusals.{physical_offset}
use Rattle.script_text.specs.Action.{Action}
use Rattle.script_text.specs.Action.Action.{VStore, VSync, VPSync, VDiscard, VDiscardIf, ClearVolume}
use Rattle.cut_places.specs.MachineModel.Commands.{meaning}
use Rattle.cut_places.specs.MachineModel.OnVolume.{persist_at}
use Rattle.cut_places.specs.Durable.Durable.{HaveLines}
use Rattle.cut_places.specs.SightsSeen.Seeing.{or_zeros, seen}
use Rattle.cut_places.proofs.SightsSeen.SeenLemmas.{seen-discard, seen-persist, seen-put}
use Rattle.cut_places.proofs.ValueLemmas.{cleared_has, flushed_has, gone_has, put_has}
pub use Rattle.cut_places.proofs.ValueLemmas.{changed_has, word_has, zero_has}
use Rattle.value_tables.specs.Listed.{HasWords}

module _ (pages : List Page) (whole : HaveLines pages) (n : ℕ) (have : HasWords (seen pages n)) where
  synced_has : (o : Option ℕ) (len : ℕ) → HasWords (seen (persist_at o len pages) n)
  synced_has None len = have
  synced_has (Some start) len = subst HasWords (sym (seen-persist start len pages n)) (flushed_has (touches start len n) (seen pages n) have)

  cleared : (line : ℕ) → HasWords (seen (change_line clear_cell line pages) n)
  cleared line = subst HasWords (sym (ap or_zeros (cell_of-change clear_cell line pages n))) (by_line (cell_of pages n) have)
    where
      by_line : (o : Option Cell) → HasWords (or_zeros o) → HasWords (or_zeros (option_map (at_line clear_cell line n) o))
      by_line None has = zero_has
      by_line (Some cell) has = cleared_has (n == line) cell has

  pub made_has : (geo : Geometry) (action : Action) → n / 64 < length pages → HasWords (seen ((meaning action).volume geo pages) n)
  made_has geo (VStore offset bytes) within = subst HasWords (sym (seen-put offset bytes pages n whole within)) (put_has offset bytes n (seen pages n) have)
  made_has geo (VSync offset len) within = synced_has (Some offset) len
  made_has geo (VPSync address len) within = synced_has (physical_offset geo address len) len
  made_has geo (VDiscard page count) within = subst HasWords (sym (seen-discard page count pages n)) (gone_has (is_among (64 * page) (64 * count) n) (seen pages n) have)
  made_has geo (VDiscardIf page count) within = subst HasWords (sym (seen-discard page count pages n)) (gone_has (is_among (64 * page) (64 * count) n) (seen pages n) have)
  made_has geo (ClearVolume offset) within = cleared (offset / 64)
  made_has geo action within = have
