-- The places of a cut are found line by line.
use Rattle.std.proofs.Common.{◌≡◌, ◌+◌, ◌<◌, ◌≤◌, ℕ, suc, Bool, false, Option, Some, None, List, [], ◌∷◌, ◌++◌, length, get_or, refl, sym, ap, ap₂, subst, ◌∙◌, arith}
use Rattle.std.specs.Option.{is_none}
use Rattle.word_tables.specs.declared.geometry.Geometry.{Geometry}
use Rattle.script_text.specs.declared.command.Command.{Command}
use Rattle.script_text.specs.Action.{Action, action_of}
use Rattle.explorer.specs.MachineModel.Machine.{Machine}
use Rattle.explorer.specs.MachineModel.Commands.{fate, meaning, refusal}
use Rattle.explorer.specs.Outcomes.Stops.{led_to}
use Rattle.explorer.specs.AskedReads.Program.{inputs_of_lines}
use Rattle.explorer.specs.CutPlaces.declared.sight.Sight.{Sight}
use Rattle.explorer.specs.CutPlaces.FileChanges.{left_by}
use Rattle.explorer.specs.CutPlaces.FileCommands.{files_change}
use Rattle.explorer.specs.CutPlaces.FileMixing.{way_left}
use Rattle.explorer.specs.CutPlaces.FilesState.{FilesState}
use Rattle.explorer.specs.CutPlaces.Following.{AreDone, Follows}
use Rattle.explorer.specs.CutPlaces.SeesFiles.{SeesFiles}
use Rattle.explorer.proofs.CutPlaces.LeftLemmas.{left_same}
use Rattle.explorer.specs.SightsSeen.declared.way.Way.{Way}
use Rattle.explorer.specs.SightsSeen.Ways.{blocks_way, lines_way}
use Rattle.explorer.specs.SightsSeen.Units.{AreBlocks, AreLines, block_numbers, line_numbers}
use Rattle.explorer.specs.ValueTables.Looking.{IsOf}
use Rattle.outcome_lists.specs.declared.place.Place.{Place}
use Rattle.outcome_lists.specs.Levels.{before_place, inside_places, places, places_from}
use Rattle.outcome_lists.specs.Mixing.{ways_inside}
use Rattle.outcome_lists.proofs.SightLemmas.{follows_part}
use Rattle.outcome_lists.proofs.CourseLemmas.{Reaches, grown_by, reaches_first, reaches_on, reaches_past, told_last}
use Rattle.outcome_lists.proofs.MappedLemmas.{suc_is}

-- how a cut leaves files goes by the mappings that are held of them
way_is : (h : Machine) (files : FilesState) (action : Action) → SeesFiles files h
    → way_left (left_by (files_change files.mappings.mappings action)) ≡ way_left ((meaning action).files_left h.mappings)
way_is h files action sees =
    ap (λ ms. way_left (left_by (files_change ms action))) sees.mappings
    ∙ sym (left_same (λ left to. way_left left) h.files (λ to. refl) h.mappings action)

-- what a command mixes
pub ways_are : (h : Machine) (files : FilesState) (action : Action) (lines blocks left : Option Way) → lines ≡ lines_way action → blocks ≡ blocks_way action
    → left ≡ way_left (left_by (files_change files.mappings.mappings action)) → SeesFiles files h
    → record { lines = lines; blocks = blocks; files = left } ≡ ways_inside h.mappings action
ways_are h files action lines blocks left of_lines of_blocks of_files sees =
    ap (λ way. record { lines = way; blocks = blocks; files = left }) of_lines
    ∙ ap₂ (λ way others. record { lines = lines_way action; blocks = way; files = others }) of_blocks (of_files ∙ way_is h files action sees)

-- those of a command
abbrev places_of : ℕ → ℕ → Bool → Machine → Action → List Place
places_of n k done h action = before_place n k ∷ inside_places n k done (ways_inside h.mappings action)

-- what is found, and behind it what comes from this line on, are all places
abbrev AreWhole : List Place → ℕ → ℕ → List Place → Machine → List (Option Command) → Type 0
AreWhole all n k found to lines = found ++ places_from n k to (inputs_of_lines lines) ≡ all

-- The places of the lines up to this one are found, with so many commands among them.
pub record AreFound (program : List (Option Command)) (done : List Bool) (geo : Geometry) (began : Sight) (i : ℕ) (now : Sight) (k : ℕ) (found : List Place) : Type 0 where
  pub looks : IsOf now geo []
  pub few : k ≤ i
  pub comes : (h : Machine) → Follows began geo h → AreDone h program done → Reaches program done geo i now (AreWhole (places h (inputs_of_lines program)) (i + 1) k found)

module _ (program : List (Option Command)) (done : List Bool) (geo : Geometry) (began : Sight) where
  pub found_first : (found : List Place) → IsOf began geo [] → found ≡ [] → AreFound program done geo began 0 began 0 found
  found_first found looks none = record {
    looks = looks;
    few = omega arith;
    comes = λ h follows all. reaches_first program done geo began (AreWhole (places h (inputs_of_lines program)) 1 0 found) h follows all
        (ap (λ ps. ps ++ places h (inputs_of_lines program)) none);
  }

  module _ (i : ℕ) (now : Sight) (k : ℕ) (found : List Place) (so_far : AreFound program done geo began i now k found) where
    module _ (line : Option Command) (is_done : Bool) (lt : i < length program) (same : length done ≡ length program) (is : line ≡ get_or program i line)
        (told : is_done ≡ get_or done i false) where
      -- a line without a command
      pub found_past : line ≡ None → AreFound program done geo began (i + 1) now k found
      found_past none = record {
        looks = so_far.looks;
        few = let few = so_far.few in omega (arith, few);
        comes = λ h follows all.
            let whole = places h (inputs_of_lines program) in
            reaches_past program done geo i now (AreWhole whole (i + 1) k found) (so_far.comes h follows all) line is_done lt same is told (AreWhole whole (i + 1 + 1) k found) none
            (λ to lines were. ap (λ n. found ++ places_from n k to (inputs_of_lines lines)) (sym (suc_is (i + 1))) ∙ were);
      }

      module _ (command : Command) (some : line ≡ Some command) (after : Sight) (k2 : ℕ) (found2 : List Place) (counted : k2 ≡ k + 1)
          (adds : (h : Machine) → SeesFiles now.files h → found2 ≡ found ++ places_of (i + 1) k is_done h (action_of command)) where
        whole_next : (all : List Place) (to : Machine) (lines : List (Option Command)) → Follows now geo to → is_none (refusal to (action_of command)) ≡ is_done
            → AreWhole all (i + 1) k found to (Some command ∷ lines) → AreWhole all (i + 1 + 1) k2 found2 (led_to to (fate to (action_of command))) lines
        whole_next all to lines follows allowed were =
            let action = action_of command in
            let inputs = inputs_of_lines lines in
            let later = led_to to (fate to action) in
            let here = places_of (i + 1) k is_done to action in
            ap (λ n. found2 ++ places_from n k2 later inputs) (sym (suc_is (i + 1)))
            ∙ ap (λ m. found2 ++ places_from (suc (i + 1)) m later inputs) (counted ∙ sym (suc_is k))
            ∙ grown_by found found2 here (places_from (suc (i + 1)) (suc k) later inputs) all (adds to follows.sees.files)
            (ap (λ b. found ++ (places_of (i + 1) k b to action ++ places_from (suc (i + 1)) (suc k) later inputs)) (sym allowed) ∙ were)

        -- a command
        pub found_on : IsOf after geo []
            → ((h : Machine) → Follows now geo h → is_none (refusal h (action_of command)) ≡ is_done → Follows after geo (led_to h (fate h (action_of command))))
            → AreFound program done geo began (i + 1) after k2 found2
        found_on looks leads = record {
          looks = looks;
          few = let few = so_far.few in omega (arith, few, counted);
          comes = λ h follows all.
              let whole = places h (inputs_of_lines program) in
              reaches_on program done geo i now (AreWhole whole (i + 1) k found) (so_far.comes h follows all) line is_done lt same is told (AreWhole whole (i + 1 + 1) k2 found2)
              command some after leads (whole_next whole);
        }

    -- the end
    pub all_found : (found2 : List Place) (end : Place) → length program ≤ i → i ≤ length program → end ≡ before_place (length program + 1) k → found2 ≡ found ++ end ∷ []
        → (h : Machine) → Follows began geo h → AreDone h program done → found2 ≡ places h (inputs_of_lines program)
    all_found found2 end ends last is adds h follows all =
        let at : length program ≡ i = omega (arith, ends, last) in
        adds ∙ ap (λ place. found ++ place ∷ []) (is ∙ ap (λ n. before_place (n + 1) k) at)
        ∙ told_last program done geo i now (AreWhole (places h (inputs_of_lines program)) (i + 1) k found) (so_far.comes h follows all) ends

-- where no line and no block is looked at
pub files_alone : (seen : Sight) (geo : Geometry) → seen.lines.items ≡ [] → seen.blocks.items ≡ [] → IsOf seen geo []
files_alone seen geo lines blocks = record { lines = ap line_numbers lines; blocks = ap block_numbers blocks; files = refl }

pub files_follow : (all seen : Sight) (geo : Geometry) (h : Machine) → seen.lines.items ≡ [] → seen.blocks.items ≡ [] → seen.files ≡ all.files
    → Follows all geo h → Follows seen geo h
files_follow all seen geo h lines blocks files follows =
    follows_part all seen geo h (λ f are. subst (AreLines f) (sym lines) tt) (λ f are. subst (AreBlocks f) (sym blocks) tt) files follows
