-- The states of a program's places are sound where the one that it begins in is.
use Rattle.std.proofs.Common.{◌≡◌, inl, inr, ℕ, suc, ◌/◌, ◌<◌, IsTrue, Option, Some, None, List, [], ◌∷◌, ◌++◌, length, map, refl, sym, ap, subst, ◌∙◌}
use Rattle.std.specs.Prelude.{All}
use Rattle.std.proofs.lemmas.List.Elements.{All-cons, All-nil}
use Rattle.reply_text.specs.Answer.{Answer}
use Rattle.script_text.specs.Action.{Action}
use Rattle.script_text.specs.Script.{Input}
use Rattle.script_text.specs.Script.Input.{Skipped, Malformed, Overlong, Asked}
use Rattle.cut_places.specs.MachineModel.Machine.{Machine, Fate}
use Rattle.cut_places.specs.MachineModel.Machine.Fate.{Gives, Works, Orders, Cuts, Restarts, Recovers}
use Rattle.cut_places.specs.MachineModel.Commands.{fate, meaning, refusal, unless_refused, while_interrupted}
use Rattle.cut_places.specs.Durable.Durable.{IsCounted}
use Rattle.cut_places.proofs.Durable.StepKinds.{files_made}
use Rattle.cut_places.proofs.Durable.SuitLemmas.{Suits, suits}
use Rattle.cut_places.specs.Outcomes.Finds.{IsReady}
use Rattle.cut_places.specs.Outcomes.Outcome.{AllHaveValues}
use Rattle.cut_places.specs.Outcomes.Stops.{IsProgram, inside, is_of_program, led_to}
use Rattle.outcome_runs.proofs.FileValueLemmas.{files_after_have}
use Rattle.cut_places.specs.declared.place.CutPlace.{CutPlace}
use Rattle.cut_places.specs.declared.place.CutPlace.TheVariants.{Before, Inside}
use Rattle.cut_places.specs.SightsSeen.Changing.{volume_change}
use Rattle.cut_places.specs.Places.{Stop, cut_places}
use Rattle.cut_places.specs.SightsSeen.Seeing.{seen}
use Rattle.cut_places.proofs.SightsSeen.SizeLemmas.{geometry_stays}
use Rattle.cut_places.proofs.StepLemmas.{ready_after}
use Rattle.cut_places.proofs.SightsSeen.VolumeChangeLemmas.{volume_changed}
use Rattle.value_tables.specs.Listed.{HasWords, IsSound}
use Rattle.value_tables.proofs.HistoryLemmas.{changed_has}

counted : (h : Machine) → IsReady h → IsCounted h
counted h ready = elim ready.whole.counted as (λ _. IsCounted h) [ inl is ↦ is | inr nothing ↦ absurd (nothing.mode ready.mode) ]

-- words of files have values still
values_after : (h : Machine) (action : Action) → AllHaveValues h.files → AllHaveValues (led_to h ((meaning action).comes h)).files
values_after h action values = by_fate ((meaning action).comes h) (suits h action)
  where
    made : AllHaveValues (files_made h.mappings action h.files)
    made = files_after_have action h.mappings h.files values

    by_fate : (to : Fate) → Suits h action to → AllHaveValues (led_to h to).files
    by_fate (Gives answer to) (inl idle) = subst AllHaveValues (sym idle.1.files) values
    by_fate (Gives answer to) (inr done) = subst AllHaveValues (sym done.1.files) made
    by_fate (Works answer to) done = subst AllHaveValues (sym done.1.files) made
    by_fate (Orders order to) idle = subst AllHaveValues (sym idle.1.files) values
    by_fate (Cuts to) idle = subst AllHaveValues (sym idle.1.files) values
    by_fate (Restarts choice) restarts = values
    by_fate Recovers recovers = values

module _ (h : Machine) (action : Action) (ready : IsReady h) (sound : IsSound h) (program : IsTrue (is_of_program action)) where
  -- a state, and what a command leads to
  after : refusal h action ≡ None → IsReady (led_to h ((meaning action).comes h)) × IsSound (led_to h ((meaning action).comes h))
  after allowed =
      let to = led_to h ((meaning action).comes h) in
      let still : IsReady (led_to h ((meaning action).comes h)) = ready_after h action ready program allowed in
      let all = counted (led_to h ((meaning action).comes h)) still in (
        still,
        record {
          counted = all;
          lines = still.whole.lines;
          words = λ n lt.
              let there : n / 64 < length h.volume = subst (λ m. n / 64 < m) (all.pages ∙ ap (λ geo. geo.vpages) (geometry_stays h action) ∙ sym sound.counted.pages) lt in
              subst HasWords (sym (volume_changed h action n allowed sound.lines there)) (changed_has (volume_change h.geometry action) n (seen h.volume n) (sound.words n there));
          file_lines = still.whole.file_lines;
          file_values = values_after h action sound.file_values;
        },
      )

  pub next : IsReady (led_to h (fate h action)) × IsSound (led_to h (fate h action))
  next = by_refusal (refusal h action) refl
    where
      by_refusal : (o : Option Answer) → refusal h action ≡ o → IsReady (led_to h (unless_refused h o ((meaning action).comes h))) × IsSound (led_to h (unless_refused h o ((meaning action).comes h)))
      by_refusal None is = after is
      by_refusal (Some why) is = (ready, sound)

  within : (place : CutPlace) (to : Fate) (rest : List Stop) → All (λ (stop : Stop). IsSound stop.state) rest
      → All (λ (stop : Stop). IsSound stop.state) (map (λ m. record { place = place; state = m }) (inside h action to) ++ rest)
  within place (Gives answer to) rest all = all
  within place (Works answer to) rest all =
      All-cons (λ (stop : Stop). IsSound stop.state) (record { place = place; state = while_interrupted h action }) rest
      (record { counted = record { blocks = sound.counted.blocks; pages = sound.counted.pages }; lines = sound.lines; words = sound.words; file_lines = sound.file_lines; file_values = sound.file_values }) all
  within place (Orders order to) rest all = all
  within place (Cuts to) rest all = all
  within place (Restarts choice) rest all = all
  within place Recovers rest all = all

pub places_sound : (inputs : List Input) (n : ℕ) (h : Machine) → IsReady h → IsSound h → IsProgram inputs → All (λ (stop : Stop). IsSound stop.state) (cut_places n h inputs)
places_sound [] n h ready sound program =
    All-cons (λ (stop : Stop). IsSound stop.state) (record { place = Before n; state = h }) [] sound (All-nil (λ (stop : Stop). IsSound stop.state))
places_sound (Skipped ∷ inputs) n h ready sound program = places_sound inputs (suc n) h ready sound program
places_sound (Malformed ∷ inputs) n h ready sound program = places_sound inputs (suc n) h ready sound program
places_sound (Overlong ∷ inputs) n h ready sound program = places_sound inputs (suc n) h ready sound program
places_sound (Asked action ∷ inputs) n h ready sound program =
    let step = next h action ready sound program.0 in
    All-cons (λ (stop : Stop). IsSound stop.state) (record { place = Before n; state = h })
    (map (λ m. record { place = Inside n; state = m }) (inside h action (fate h action)) ++ cut_places (suc n) (led_to h (fate h action)) inputs) sound
    (within h action ready sound program.0 (Inside n) (fate h action) (cut_places (suc n) (led_to h (fate h action)) inputs)
    (places_sound inputs (suc n) (led_to h (fate h action)) step.0 step.1 program.1))
