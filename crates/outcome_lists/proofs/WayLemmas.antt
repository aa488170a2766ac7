-- What a place may show of one part is what some state of the program has.
use Rattle.std.proofs.Common.{◌≡◌, ◌||◌, ℕ, suc, Bool, true, false, Option, Some, None, List, [], ◌∷◌, ◌++◌, map, refl, ap, subst, ◌∙◌, inl, inr}
use Rattle.std.specs.Prelude.{All}
use Rattle.std.specs.List.{list_any}
use Rattle.std.proofs.lemmas.Bool.{or_cases, or_left, or_right}
use Rattle.std.proofs.lemmas.List.Elements.{All-cons, All-nil, All-weaker}
use Rattle.word_tables.specs.declared.geometry.Geometry.{Geometry}
use Rattle.nvm_model.specs.Blocks.{nth}
use Rattle.nvm_model.specs.Cell.{Cell}
use Rattle.nvm_model.specs.Page.{Page}
use Rattle.nvm_model.specs.Storage.{Block, File, Mapping}
use Rattle.block_sights.specs.Sights.{Sight, sight}
use Rattle.reply_text.specs.Answer.{Answer}
use Rattle.script_text.specs.Action.{Action}
use Rattle.script_text.specs.Action.Action.{PoisonBlock, PoisonFile, PoisonVolume, WeakenFile, WeakenVolume}
use Rattle.script_text.specs.Script.{Input}
use Rattle.script_text.specs.Script.Input.{Skipped, Malformed, Overlong, Asked}
use Rattle.explorer.specs.MachineModel.Machine.{Fate, Machine}
use Rattle.explorer.specs.MachineModel.Machine.Fate.{Gives, Works, Orders, Cuts, Restarts, Recovers}
use Rattle.explorer.specs.MachineModel.Commands.{fate, meaning, refusal, unless_refused, while_interrupted}
use Rattle.explorer.specs.MachineModel.Meaning.{BlocksLeft, FilesLeft, VolumeLeft}
use Rattle.explorer.specs.MachineModel.Meaning.BlocksLeft.{Same, Either, Mixed}
use Rattle.explorer.specs.MachineModel.Meaning.FilesLeft.{Unchanged, OldOrNew, StoredInPart, SyncedInPart}
use Rattle.explorer.specs.MachineModel.Meaning.VolumeLeft.{Kept, PartStored, PartSynced, AllOrNone, PageByPage}
use Rattle.explorer.proofs.Durable.StepKinds.{Alters, blocks_after, files_made, volume_after}
use Rattle.explorer.proofs.Durable.SuitLemmas.{Suits, suits}
use Rattle.explorer.specs.Outcomes.Finds.{IsReady}
use Rattle.explorer.specs.Outcomes.Stops.{IsProgram, inside, led_to}
use Rattle.explorer.specs.SightsSeen.Seeing.{seen}
use Rattle.explorer.proofs.SightsSeen.SizeLemmas.{geometry_stays}
use Rattle.explorer.specs.CutPlaces.declared.place.CutPlace.{CutPlace}
use Rattle.explorer.specs.CutPlaces.declared.place.CutPlace.TheVariants.{Before, Inside}
use Rattle.explorer.specs.CutPlaces.Places.{Stop, cut_places}
use Rattle.explorer.specs.ValueTables.Left.{FileSide, blocks_left, file_side, files_left, lines_left, of_blocks, of_files, of_lines}
use Rattle.explorer.specs.ValueTables.Listed.{IsSound}
use Rattle.explorer.proofs.ValueTables.SoundLemmas.{next}
use Rattle.outcome_lists.specs.Choices.{states}

-- one, or one of two
first_only : (a b : Bool) → (a || false) ≡ true → (a || b) ≡ true
first_only true b some = refl
first_only false b some = cc some

pub one_only : (a : Bool) → (a || false) ≡ true → a ≡ true
one_only true some = refl
one_only false some = cc some

one_of_two : (a b : Bool) → (a || (b || false)) ≡ true → (a || b) ≡ true
one_of_two true b some = refl
one_of_two false true some = refl
one_of_two false false some = cc some

-- What may be left of a line, a block or a word of a file is what it was, or what the command makes of it.
module _ (test : Cell → Bool) where
  old_or_new_line : (left : VolumeLeft) (old new : Cell) → list_any test (of_lines left old new) ≡ true → (test old || test new) ≡ true
  old_or_new_line Kept old new some = first_only (test old) (test new) some
  old_or_new_line (PartStored offset bytes) old new some = one_of_two (test old) (test new) some
  old_or_new_line (PartSynced offset len) old new some = one_of_two (test old) (test new) some
  old_or_new_line AllOrNone old new some = one_of_two (test old) (test new) some
  old_or_new_line PageByPage old new some = one_of_two (test old) (test new) some

  pub line_made : (geo : Geometry) (action : Action) (pages : List Page) (n : ℕ) → list_any test (lines_left geo (Some action) pages n) ≡ true
      → (test (seen pages n) || test (seen (volume_after geo action pages) n)) ≡ true
  line_made geo (PoisonVolume offset) pages n some = first_only (test (seen pages n)) _ some
  line_made geo (WeakenVolume offset) pages n some = first_only (test (seen pages n)) _ some
  line_made geo action pages n some =
      old_or_new_line ((meaning action).volume_left geo) (seen pages n) (seen ((meaning action).volume geo pages) n) some

module _ (test : Sight → Bool) where
  old_or_new_block : (left : BlocksLeft) (old new : Sight) → list_any test (of_blocks left old new) ≡ true → (test old || test new) ≡ true
  old_or_new_block Same old new some = first_only (test old) (test new) some
  old_or_new_block Either old new some = one_of_two (test old) (test new) some
  old_or_new_block Mixed old new some = one_of_two (test old) (test new) some

  pub block_made : (action : Action) (blocks : List Block) (b : ℕ) → list_any test (blocks_left (Some action) blocks b) ≡ true
      → (test (sight (nth blocks b)) || test (sight (nth (blocks_after action blocks) b))) ≡ true
  block_made (PoisonBlock block line) blocks b some = first_only (test (sight (nth blocks b))) _ some
  block_made action blocks b some = old_or_new_block (meaning action).blocks_left (sight (nth blocks b)) (sight (nth ((meaning action).blocks blocks) b)) some

module _ (test : FileSide → Bool) where
  old_or_new_side : (left : FilesLeft) (old new : FileSide) → list_any test (of_files left old new) ≡ true → (test old || test new) ≡ true
  old_or_new_side Unchanged old new some = first_only (test old) (test new) some
  old_or_new_side OldOrNew old new some = one_of_two (test old) (test new) some
  old_or_new_side (StoredInPart name offset bytes) old new some = one_of_two (test old) (test new) some
  old_or_new_side (SyncedInPart name spans) old new some = one_of_two (test old) (test new) some

  pub side_made : (mappings : List Mapping) (action : Action) (files : List File) (name : List ℕ) (p : ℕ) → list_any test (files_left mappings (Some action) files name p) ≡ true
      → (test (file_side name p files) || test (file_side name p (files_made mappings action files))) ≡ true
  side_made mappings (PoisonFile text offset) files name p some = first_only (test (file_side name p files)) _ some
  side_made mappings (WeakenFile text offset) files name p some = first_only (test (file_side name p files)) _ some
  side_made mappings action files name p some =
      old_or_new_side ((meaning action).files_left mappings) (file_side name p files) (file_side name p ((meaning action).files mappings files)) some

-- what a command that is work leads to
pub works_so : (h : Machine) (action : Action) (answer : Answer) (to : Machine) → fate h action ≡ Works answer to → Alters h action to
works_so h action answer to is = by_refusal (refusal h action) is
  where
    by_refusal : (o : Option Answer) → unless_refused h o ((meaning action).comes h) ≡ Works answer to → Alters h action to
    by_refusal None comes = (subst (Suits h action) comes (suits h action)).1
    by_refusal (Some why) comes = cc comes

pub sizes_led : (h : Machine) (action : Action) (o : Option Answer) → (led_to h (unless_refused h o ((meaning action).comes h))).geometry ≡ h.geometry
sizes_led h action None = geometry_stays h action
sizes_led h action (Some why) = refl

-- Where what a place may show is what a state has, of one at rest, and of what comes before a command or after it inside one, it is what some state has.
module _ (geo : Geometry) (has may : Machine → Bool) where
  abbrev IsAtRest : Type 0
  IsAtRest = (h : Machine) → IsReady h → IsSound h → h.geometry ≡ geo → may h ≡ true → has h ≡ true

  abbrev IsWithin : Type 0
  IsWithin = (h to : Machine) (action : Action) → IsReady h → IsSound (while_interrupted h action) → h.geometry ≡ geo → Alters h action to
      → may (while_interrupted h action) ≡ true → (has h || has to) ≡ true

  abbrev IsHad : List Machine → Stop → Type 0
  IsHad hs stop = may stop.state ≡ true → list_any has hs ≡ true

  -- the state that a program begins in
  begins : (inputs : List Input) (h : Machine) → has h ≡ true → list_any has (states h inputs) ≡ true
  begins [] h is = or_left (has h) false is
  begins (Skipped ∷ inputs) h is = begins inputs h is
  begins (Malformed ∷ inputs) h is = begins inputs h is
  begins (Overlong ∷ inputs) h is = begins inputs h is
  begins (Asked action ∷ inputs) h is = or_left (has h) (list_any has (states (led_to h (fate h action)) inputs)) is

  module _ (rest : IsAtRest) (within : IsWithin) where
    module _ (h : Machine) (ready : IsReady h) (sound : IsSound h) (size : h.geometry ≡ geo) (action : Action) (inputs : List Input) where
      abbrev later : List Machine
      later = states (led_to h (fate h action)) inputs

      now_or_later : (to : Machine) → led_to h (fate h action) ≡ to → (has h || has to) ≡ true → (has h || list_any has later) ≡ true
      now_or_later to is some = elim (or_cases (has h) (has to) some) as (λ _. (has h || list_any has later) ≡ true) [
        | inl now ↦ or_left (has h) (list_any has later) now
        | inr made ↦ or_right (has h) (list_any has later) (begins inputs (led_to h (fate h action)) (ap has is ∙ made))
      ]

      inside_had : (place : CutPlace) (to : Fate) (stops : List Stop) → fate h action ≡ to → All (IsHad (h ∷ later)) stops
          → All (IsHad (h ∷ later)) (map (λ m. record { place = place; state = m }) (inside h action to) ++ stops)
      inside_had place (Gives answer to) stops is all = all
      inside_had place (Works answer to) stops is all =
          All-cons (IsHad (h ∷ later)) (record { place = place; state = while_interrupted h action }) stops
          (λ shown. now_or_later to (ap (led_to h) is) (within h to action ready
          (record { counted = record { blocks = sound.counted.blocks; pages = sound.counted.pages }; lines = sound.lines; words = sound.words; file_lines = sound.file_lines; file_values = sound.file_values })
          size (works_so h action answer to is) shown)) all
      inside_had place (Orders order to) stops is all = all
      inside_had place (Cuts to) stops is all = all
      inside_had place (Restarts choice) stops is all = all
      inside_had place Recovers stops is all = all

    pub all_had : (inputs : List Input) (n : ℕ) (h : Machine) → IsReady h → IsSound h → h.geometry ≡ geo → IsProgram inputs → All (IsHad (states h inputs)) (cut_places n h inputs)
    all_had [] n h ready sound size program =
        All-cons (IsHad (h ∷ [])) (record { place = Before n; state = h }) [] (λ shown. begins [] h (rest h ready sound size shown)) (All-nil (IsHad (h ∷ [])))
    all_had (Skipped ∷ inputs) n h ready sound size program = all_had inputs (suc n) h ready sound size program
    all_had (Malformed ∷ inputs) n h ready sound size program = all_had inputs (suc n) h ready sound size program
    all_had (Overlong ∷ inputs) n h ready sound size program = all_had inputs (suc n) h ready sound size program
    all_had (Asked action ∷ inputs) n h ready sound size program =
        let to = led_to h (fate h action) in
        let step = next h action ready sound program.0 in
        let more = cut_places (suc n) (led_to h (fate h action)) inputs in
        All-cons (IsHad (h ∷ states to inputs)) (record { place = Before n; state = h }) (map (λ m. record { place = Inside n; state = m }) (inside h action (fate h action)) ++ more)
        (λ shown. or_left (has h) (list_any has (states to inputs)) (rest h ready sound size shown))
        (inside_had h ready sound size action inputs (Inside n) (fate h action) more refl
        (All-weaker (IsHad (states to inputs)) (IsHad (h ∷ states to inputs)) (λ stop had shown. or_right (has h) (list_any has (states to inputs)) (had shown)) more
        (all_had inputs (suc n) to step.0 step.1 (sizes_led h action (refusal h action) ∙ size) program.1)))
