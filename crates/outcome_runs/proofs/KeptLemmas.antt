-- Commands keep the storage of which an image can be made.
use Rattle.std.proofs.Common.{◌≡◌, Option, Some, None, List, sym, subst}
use Rattle.word_tables.specs.declared.geometry.Geometry.{Geometry}
use Rattle.word_tables.specs.Bounds.{IsValid}
use Rattle.nvm_model.specs.Page.{Page}
use Rattle.nvm_model.specs.Storage.{Block, File}
use Rattle.reply_text.specs.Answer.{Answer}
use Rattle.script_text.specs.Action.{Action}
use Rattle.script_text.specs.Script.Input.{Asked}
use Rattle.machine_model.specs.declared.mode.Mode.TheVariants.{On}
use Rattle.machine_model.specs.Machine.{Machine}
use Rattle.machine_model.specs.Commands.{MayLeaveBlocks, MayLeaveFiles, MayLeaveVolume, meaning, refusal}
use Rattle.machine_model.specs.Run.{Hears, Transcript}
use Rattle.durable.proofs.StepKinds.{Step, blocks_after, files_made, volume_after}
use Rattle.durable.proofs.StepKinds.Step.{idles, alters, stops, returns, remounts, empties}
use Rattle.durable.proofs.StepLemmas.{step_of}
use Rattle.outcomes.specs.Finds.{IsReady}
use Rattle.outcomes.specs.Outcome.{AllHaveValues, HaveValues, MadeHaveValues}
use Rattle.state_images.specs.Storable.{AreWholeBlocks}
use Rattle.outcome_runs.specs.Brings.{BringsRight}
use Rattle.outcome_runs.specs.Kept.{AreListed, IsKept}
use Rattle.outcome_runs.proofs.BlockKeptLemmas.{whole_after, whole_made}
use Rattle.outcome_runs.proofs.FileValueLemmas.{files_after_have, files_made_have}
use Rattle.outcome_runs.proofs.LeftLemmas.{BlocksMade}
use Rattle.outcome_runs.proofs.ListedLeftLemmas.{listed_left}
use Rattle.outcome_runs.proofs.ListedStepLemmas.{listed_after}
use Rattle.outcomes.proofs.ValueLemmas.{volume_have}

-- What a command that may be interrupted would make of blocks and files, and may leave of these.
pub record MakesKept (h : Machine) (action : Action) : Type 0 where
  pub blocks : AreWholeBlocks ((meaning action).blocks h.blocks)
  pub values : AllHaveValues ((meaning action).files h.mappings h.files)
  pub listed : (left : List File) → MayLeaveFiles h.mappings (Some action) h.files left → AreListed h.geometry left

pub makes_kept : (h : Machine) (action : Action) → IsKept h → BringsRight action → refusal h action ≡ None → MakesKept h action
makes_kept h action kept right done = record {
  blocks = whole_made action h.blocks right kept.blocks;
  values = files_made_have action h.mappings h.files kept.file_values;
  listed = λ left may. listed_left h action left kept.listed right done may;
}

-- a state with such storage
pub kept_with : (geo : Geometry) (blocks : List Block) (volume : List Page) (files : List File) (next : Machine) → IsValid geo → AreWholeBlocks blocks → HaveValues volume → AllHaveValues files
    → AreListed geo files → next.geometry ≡ geo → next.blocks ≡ blocks → next.volume ≡ volume → next.files ≡ files → IsKept next
kept_with geo blocks volume files next valid whole values file_values listed at_geo at_blocks at_volume at_files = record {
  valid = subst IsValid (sym at_geo) valid;
  blocks = subst AreWholeBlocks {x = blocks} (sym at_blocks) whole;
  values = subst HaveValues {x = volume} (sym at_volume) values;
  file_values = subst AllHaveValues {x = files} (sym at_files) file_values;
  listed = subst (λ (g : Geometry). AreListed g next.files) (sym at_geo) (subst (AreListed geo) (sym at_files) listed);
}

pub kept_step : (h : Machine) (action : Action) (said : Transcript) (next : Machine) → IsReady h → IsKept h → BringsRight action
    → Hears h (Asked action) said next → next.mode ≡ On → IsKept next
kept_step h action said next ready kept right heard on = let taken = step_of h action said next heard in by_step taken.answer taken.step
  where
    by_step : (answer : Answer) → Step h action answer next → IsKept next
    by_step answer (idles why to) =
        kept_with h.geometry h.blocks h.volume h.files next kept.valid kept.blocks kept.values kept.file_values kept.listed to.geometry to.blocks to.volume to.files
    by_step answer (alters begun none to) =
        kept_with h.geometry (blocks_after action h.blocks) (volume_after h.geometry action h.volume) (files_made h.mappings action h.files) next kept.valid
        (whole_after action h.blocks right kept.blocks) (volume_have h.geometry action h.volume kept.values) (files_after_have action h.mappings h.files kept.file_values)
        (listed_after h action kept.listed right none) to.geometry to.blocks to.volume to.files
    by_step answer (stops by is none to) = absurd (to.mode on)
    by_step answer (returns covered back) = cc (back.off, ready.mode)
    by_step answer (remounts covered back) =
        kept_with h.geometry h.blocks h.volume h.files next kept.valid kept.blocks kept.values kept.file_values kept.listed back.geometry
        (subst (λ (o : Option Action). MayLeaveBlocks o h.blocks next.blocks) ready.settled back.blocks)
        (subst (λ (o : Option Action). MayLeaveVolume h.geometry o h.volume next.volume) ready.settled back.volume)
        (subst (λ (o : Option Action). MayLeaveFiles h.mappings o h.files next.files) ready.settled back.files)
    by_step answer (empties covered to) = absurd (to.nothing.mode on)

-- the interrupted command, if there is one, would make what commands keep
abbrev pub MayMake : Machine → Option Action → Type 0
MayMake off None = Unit {0}
MayMake off (Some action) = MakesKept off action

module _ (off : Machine) where
  pub blocks_made : (o : Option Action) → MayMake off o → BlocksMade o off.blocks
  blocks_made None makes = tt
  blocks_made (Some action) makes = makes.blocks

  pub values_made : (o : Option Action) → MayMake off o → MadeHaveValues off.mappings o off.files
  values_made None makes = tt
  values_made (Some action) makes = makes.values

  pub left_listed : (o : Option Action) (left : List File) → AreListed off.geometry off.files → MayMake off o → MayLeaveFiles off.mappings o off.files left → AreListed off.geometry left
  left_listed None left listed makes is = subst (AreListed off.geometry) (sym is) listed
  left_listed (Some action) left listed makes may = makes.listed left may
