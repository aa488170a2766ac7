-- What spares a place.
use Rattle.std.proofs.Common.{◌≡◌, ◌*◌, true, false, Option, Some, None, List, [], ◌∷◌, length}
use Rattle.word_tables.specs.declared.geometry.Geometry.{Geometry}
use Rattle.nvm_base.proofs.FirstLemmas.{not_mapped}
use Rattle.nvm_model.specs.Storage.{File, Mapping}
use Rattle.file_actions.specs.Refusals.ActionRefusal.{Poison}
use Rattle.file_actions.specs.Rewriting.{first_lost}
use Rattle.script_text.specs.Action.{Action}
use Rattle.script_text.specs.Action.Action.{FAtomic, FMulti}
use Rattle.machine_model.specs.Commands.{refusal}
use Rattle.machine_model.specs.Machine.{Machine}
use Rattle.machine_model.specs.OnFileActions.{action_answer}
use Rattle.machine_model.specs.OnPages.{pages_named}
use Rattle.durable.specs.Place.{Place}
use Rattle.durable.specs.Touching.{changes, poisons, weakens, wears_with}
use Rattle.durable.specs.Durable.{BringsBytes}
use Rattle.durable.proofs.LineLemmas.{MayBe}
use Rattle.durable.proofs.RefusalLemmas.{unreadable_none}

-- An action that spares the place: it doesn't change it, stores bytes, and makes its line weak or lost only where it may be.
pub record SparesPlace (since : MayBe) (geo : Geometry) (mappings : List Mapping) (action : Action) (x : Place) : Type 0 where
  pub change : changes mappings action x ≡ false
  pub brings : BringsBytes action
  pub poison : poisons action x ≡ true → since.lost ≡ true
  pub weaken : weakens action x ≡ true → since.weak ≡ true
  pub cover : wears_with geo mappings action x ≡ true → since.weak ≡ true → since.lost ≡ true

-- no bad line of files is rewritten by an action whose bytes can't be kept
abbrev pub KeepsBytes : Action → List File → Type 0
KeepsBytes (FAtomic name offset bytes) files = first_lost (record { start = offset; len = length bytes } ∷ []) (pages_named name files) ≡ None
KeepsBytes (FMulti name ranges bytes) files = first_lost ranges (pages_named name files) ≡ None
KeepsBytes action files = Unit {0}

-- nor by the one that is interrupted, if there is one
abbrev pub KeptBy : Option Action → List File → Type 0
KeptBy None files = Unit {0}
KeptBy (Some action) files = KeepsBytes action files

-- so it is of one that is not refused
pub keeps_bytes : (h : Machine) (action : Action) → refusal h action ≡ None → KeepsBytes action h.files
keeps_bytes h (FAtomic name offset bytes) none =
    not_mapped (λ n. Poison (64 * n)) (first_lost (record { start = offset; len = length bytes } ∷ []) (pages_named name h.files))
    (not_mapped (action_answer name) _ (unreadable_none h (FAtomic name offset bytes) none))
keeps_bytes h (FMulti name ranges bytes) none =
    not_mapped (λ n. Poison (64 * n)) (first_lost ranges (pages_named name h.files)) (not_mapped (action_answer name) _ (unreadable_none h (FMulti name ranges bytes) none))
keeps_bytes h action none = tt

-- the one that is interrupted, if there is one, does
abbrev pub SparedBy : MayBe → Geometry → List Mapping → Option Action → Place → Type 0
SparedBy since geo mappings None x = Unit {0}
SparedBy since geo mappings (Some action) x = SparesPlace since geo mappings action x
