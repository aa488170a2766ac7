-- What is held agrees with the state that a command leads to.
use Rattle.std.proofs.Common.{◌≡◌, None, map, subst, sym, ap, ◌∙◌}
use Rattle.nvm_model.specs.Listing.{AreAlike, file_name, rises}
use Rattle.script_text.specs.Action.{Action}
use Rattle.mappings.specs.Object.{MappingsState}
use Rattle.sights.specs.MachineModel.Commands.{meaning, refusal}
use Rattle.sights.specs.MachineModel.Machine.{Machine}
use Rattle.sights.specs.Durable.Durable.{IsComplete}
use Rattle.sights.specs.Outcomes.Stops.{led_to}
use Rattle.cut_places.specs.FileChanges.{FilesChange}
use Rattle.cut_places.specs.FileCommands.{files_change}
use Rattle.cut_places.specs.Maps.{uncopied}
use Rattle.cut_places.specs.SeesFiles.{SeesFile, SeesFiles}
use Rattle.cut_places.specs.FilesState.{FilesState, after, files_after, mappings_after, name_seen}
use Rattle.cut_places.proofs.CommandLemmas.{Follows, command_follows, maps_of}
use Rattle.cut_places.proofs.HeldLemmas.{files_follow, files_rise}

pub same_maps : (held : FilesState) (h : Machine) → SeesFiles held h → held.mappings ≡ maps_of h
same_maps held h sees = ap (λ ms. record { mappings = ms; next = held.mappings.next }) sees.mappings ∙ ap (λ n. record { mappings = map uncopied h.mappings; next = n }) sees.next

pub sees_after : (held : FilesState) (h to : Machine) (change : FilesChange) → SeesFiles held h → IsComplete h → Follows h to change → SeesFiles (after change held) to
sees_after held h to change sees complete follows =
    let maps : mappings_after change held.mappings ≡ maps_of to = ap (mappings_after change) (same_maps held h sees) ∙ sym follows.maps in
    record {
      files = subst (AreAlike name_seen file_name (SeesFile held.numbers) (files_after change held.numbers held.files)) (sym follows.files)
          (files_follow change held.numbers held.files h.files follows.may complete.file_lines sees.in_order sees.files);
      in_order = ap (rises file_name) follows.files ∙ files_rise change h.files follows.may sees.in_order;
      mappings = ap (λ (s : MappingsState). s.mappings) maps;
      next = ap (λ (s : MappingsState). s.next) maps;
      handles = follows.handles;
    }

-- a command by the mappings that are held
pub sees_done : (held : FilesState) (h : Machine) (action : Action) (new : FilesState) → new ≡ after (files_change held.mappings.mappings action) held
    → SeesFiles held h → IsComplete h → refusal h action ≡ None → SeesFiles new (led_to h ((meaning action).comes h))
sees_done held h action new is sees complete allowed =
    subst (λ s. SeesFiles s (led_to h ((meaning action).comes h))) (sym (is ∙ ap (λ ms. after (files_change ms action) held) sees.mappings))
    (sees_after held h (led_to h ((meaning action).comes h)) (files_change (map uncopied h.mappings) action) sees complete (command_follows h sees.handles action allowed))
