-- Worked scripts on pages that are absent, there and discarded, and on physical addresses.
use Rattle.std.specs.Prelude.{◌≡◌, ◌⊎◌, ℕ, Bool, true, false, List, [], ◌∷◌, codes, replicate}
use Rattle.line_device.specs.Panel.{Image}
use Rattle.line_device.specs.declared.line.Choice.{Choice}
use Rattle.line_device.specs.declared.line.Choice.TheVariants.{Firsts}
use Rattle.word_tables.specs.declared.geometry.Geometry.{Geometry}
use Rattle.nvm_model.specs.Page.{fill, put}
use Rattle.pm_volume.specs.Presence.{presence_read}
use Rattle.script_text.specs.Action.{Action}
use Rattle.script_text.specs.Action.Action.{VStore, VDiscard}
use Rattle.machine_model.specs.declared.mode.Mode.TheVariants.{Off}
use Rattle.machine_model.specs.Machine.{Machine}
use Rattle.machine_model.specs.Commands.{while_interrupted}
use Rattle.machine_model.specs.Restarting.{RestartMayLeave, fresh}
use Rattle.machine_rows.specs.CutRows.{MayWrite}
use Rattle.machine_model.specs.WorkedScripts.{small, text}
use Rattle.machine_rows.specs.Rows.{leaving, Writes, WritesOn}

-- more than a load may ask for
abbrev pub twenty_pages : Geometry
twenty_pages = record { blocks = 8; vpages = 20; fpages = 32 }

-- both pages are there; the second one lies behind the blocks, at line 2944
abbrev pub with_both_pages : List (ℕ × ℕ)
with_both_pages = (672, 1) ∷ (673, 1) ∷ []

pub record VolumeRows : Type 0 where
  pub half_synced_by_its_address : Writes
      (text (codes "vranges" ∷ codes "vstore 4092 11*8" ∷ codes "vpsync 151548 4" ∷ codes "vpsync 151552 1" ∷ codes "cut" ∷ codes "restart none"
      ∷ codes "vload 4092 8" ∷ []))
      (leaving Firsts ((18943, 1229782937960972288) ∷ with_both_pages) ∷ [])
      (codes "ranges 0 147456 4096 4096 188416 4096" ∷ codes "ok" ∷ codes "ok" ∷ codes "refused address" ∷ codes "ok" ∷ codes "ok bad 0"
      ∷ codes "data 11*4,00*4" ∷ [])
  pub store_over_the_end_of_a_range : Writes
      (text (codes "vstore 4095 aabb" ∷ codes "vload 4094 4" ∷ codes "vpsync 151551 1" ∷ codes "vpsync 188416 1" ∷ []))
      [] (codes "ok" ∷ codes "data 00,aa,bb,00" ∷ codes "ok" ∷ codes "ok" ∷ [])
  pub discarded_page : Writes
      (text (codes "vstore 0 07*8" ∷ codes "vexists 0" ∷ codes "vdiscard 0 1" ∷ codes "vload 0 8" ∷ codes "vexists 0" ∷ codes "vstore 64 05"
      ∷ codes "vload 0 65" ∷ []))
      []
      (codes "ok" ∷ codes "yes" ∷ codes "ok" ∷ codes "data 00*8" ∷ codes "no" ∷ codes "ok" ∷ codes "data 00*64,05" ∷ [])
  pub hint_over_both : Writes
      (text (codes "vstore 0 07" ∷ codes "vdiscardif 0 2" ∷ codes "vexists 0" ∷ codes "vexists 1" ∷ codes "vload 0 1" ∷ []))
      [] (codes "ok" ∷ codes "ok" ∷ codes "no" ∷ codes "no" ∷ codes "data 00" ∷ [])
  pub sync_of_an_absent_page : Writes (text (codes "vsync 4096 64" ∷ codes "vexists 1" ∷ codes "vload 4096 1" ∷ []))
      [] (codes "ok" ∷ codes "no" ∷ codes "data 00" ∷ [])
  pub refusals_of_pages : Writes
      (text (codes "vexists 1" ∷ codes "vexists 2" ∷ codes "vdiscard 1 2" ∷ codes "vdiscard 0 0" ∷ codes "vdiscard 2 0" ∷ codes "vdiscardif 2 1"
      ∷ codes "vdiscardif 0 0" ∷ []))
      []
      (codes "no" ∷ codes "refused range" ∷ codes "refused range" ∷ codes "refused length" ∷ codes "refused length" ∷ codes "refused range"
      ∷ codes "refused length" ∷ [])
  pub refusals_of_addresses : Writes
      (text (codes "vpsync 0 0" ∷ codes "vpsync 0 1" ∷ codes "vpsync 147455 1" ∷ codes "vpsync 147456 4096" ∷ codes "vpsync 147456 4097"
      ∷ codes "vpsync 188416 4096" ∷ codes "vpsync 192511 2" ∷ codes "vpsync 151000 40000" ∷ []))
      []
      (codes "refused length" ∷ codes "refused address" ∷ codes "refused address" ∷ codes "ok" ∷ codes "refused address" ∷ codes "ok"
      ∷ codes "refused address" ∷ codes "refused address" ∷ [])
  pub most_that_a_load_asks_for : WritesOn twenty_pages
      (text (codes "vload 0 65537" ∷ codes "vload 81919 65537" ∷ codes "vload 81919 1" ∷ [])) []
      (codes "refused limit" ∷ codes "refused range" ∷ codes "data 00" ∷ [])
  pub synced_page_kept : Writes
      (text (codes "vstore 4096 11*8" ∷ codes "vsync 4096 8" ∷ codes "cut" ∷ codes "restart none" ∷ codes "vexists 0" ∷ codes "vexists 1"
      ∷ codes "vload 4095 9" ∷ []))
      (leaving Firsts ((673, 1) ∷ (23552, 1229782938247303441) ∷ []) ∷ [])
      (codes "ok" ∷ codes "ok" ∷ codes "ok" ∷ codes "ok bad 0" ∷ codes "no" ∷ codes "yes" ∷ codes "data 00,11*8" ∷ [])

-- a store over two absent pages, cut in some call of it; and what is written, up to which pages are there
abbrev pub with_cut_fill : List ℕ
with_cut_fill = text (codes "cut in 7" ∷ codes "vstore 4092 11*8" ∷ codes "restart none" ∷ codes "vexists 0" ∷ codes "vexists 1" ∷ [])

abbrev pub cut_fill_lines : List ℕ → List ℕ → List (List ℕ)
cut_fill_lines first second = codes "ok" ∷ codes "power lost" ∷ codes "ok bad 0" ∷ first ∷ second ∷ []

-- a discard of both pages, cut in some call of it
abbrev pub with_cut_discard : List ℕ
with_cut_discard =
    text (codes "vstore 4092 11*8" ∷ codes "cut in 7" ∷ codes "vdiscard 0 2" ∷ codes "restart none" ∷ codes "vexists 0" ∷ codes "vexists 1" ∷ [])

abbrev pub cut_discard_lines : List ℕ → List ℕ → List (List ℕ)
cut_discard_lines first second = codes "ok" ∷ cut_fill_lines first second

-- the machine where such a store, or such a discard after it, was interrupted
abbrev pub the_fill : Action
the_fill = VStore 4092 (replicate 8 17)

abbrev pub both_stored : Machine
both_stored = record (fresh small) { volume = put 4092 (replicate 8 17) (fill 4092 8 (fresh small).volume) }

abbrev pub cut_in : Machine → Action → Machine
cut_in h action = record (while_interrupted h action) { mode = Off }

-- the pages are all there, or all absent
abbrev pub AreTogether : List Bool → Type 0
AreTogether there = (there ≡ true ∷ true ∷ []) ⊎ (there ≡ false ∷ false ∷ [])

-- what may come of a cut while pages are filled or discarded: both of it, and never one page of two
pub record VolumeRuns : Type 0 where
  pub fill_lost : MayWrite with_cut_fill (leaving Firsts [] ∷ []) (cut_fill_lines (codes "no") (codes "no"))
  pub fill_kept : MayWrite with_cut_fill (leaving Firsts with_both_pages ∷ []) (cut_fill_lines (codes "yes") (codes "yes"))
  pub filled_together : (choice : Choice) (image : Image) → RestartMayLeave choice image (cut_in (fresh small) the_fill) → AreTogether (presence_read small image.word)
  pub discard_lost : MayWrite with_cut_discard (leaving Firsts ((18943, 1229782937960972288) ∷ (23552, 286331153) ∷ with_both_pages) ∷ [])
      (cut_discard_lines (codes "yes") (codes "yes"))
  pub discard_kept : MayWrite with_cut_discard (leaving Firsts [] ∷ []) (cut_discard_lines (codes "no") (codes "no"))
  pub discarded_together : (choice : Choice) (image : Image) → RestartMayLeave choice image (cut_in both_stored (VDiscard 0 2)) → AreTogether (presence_read small image.word)
