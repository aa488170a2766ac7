-- Which kind of step a command takes.
use Rattle.std.proofs.Common.{◌≡◌, ◌⊎◌, inl, inr, ℕ, Option, Some, None, List, [], ◌∷◌, refl, sym, ap, subst, ◌∙◌}
use Rattle.std.specs.Prelude.{◌≢◌}
use Rattle.line_device.specs.Panel.{Image}
use Rattle.line_device.specs.declared.line.Choice.{Choice}
use Rattle.line_words.specs.declared.interruption.Interruption.{Interruption}
use Rattle.line_words.specs.declared.interruption.Interruption.TheVariants.{Failed, PowerLost as Lost}
use Rattle.reply_text.specs.Answer.{Answer}
use Rattle.reply_text.specs.Answer.Answer.{Done}
use Rattle.script_text.specs.Action.{Action}
use Rattle.machine_model.specs.declared.mode.Mode.TheVariants.{On, Off, Stopped}
use Rattle.machine_model.specs.Machine.{Machine, Fate}
use Rattle.machine_model.specs.Machine.Fate.{Gives, Works, Orders, Cuts, Restarts, Recovers}
use Rattle.machine_model.specs.Commands.{fate, meaning, refusal, unless_refused, while_interrupted}
use Rattle.machine_model.specs.Interrupted.{Interrupts, interrupted_mode}
use Rattle.machine_model.specs.Restarting.{RestartMayLeave, mounted_answer, read_with, reading, restarted}
use Rattle.machine_model.specs.Recovering.{RecoversTo}
use Rattle.machine_model.specs.Run.{Ends, Hears, Run, Takes, Transcript}
use Rattle.script_text.specs.Script.{Input}
use Rattle.script_text.specs.Script.Input.{Skipped, Malformed, Overlong, Asked}
use Rattle.durable.specs.Durable.{HasNothing, IsDone}
use Rattle.durable.proofs.RefusalLemmas.{is_off, is_on}
use Rattle.durable.proofs.StepKinds.{Alters, CoversNothing, Empties, Idles, Remounts, Returns, Stops, Step, TouchesNothing}
use Rattle.durable.specs.Whole.{IsMount}
use Rattle.durable.proofs.StepKinds.Step.{idles, alters, stops, returns, remounts, empties}
use Rattle.durable.proofs.SuitLemmas.{Suits, same, suits}

pub stops_on : (by : Interruption) → interrupted_mode by ≡ On → ⊥
stops_on Failed on = cc on
stops_on Lost on = cc on

stops_stopped : (by : Interruption) → interrupted_mode by ≡ Stopped → ⊥
stops_stopped Failed is = cc is
stops_stopped Lost is = cc is

-- the step that a command takes, and its answer
pub record Taken (h : Machine) (action : Action) (said : Transcript) (next : Machine) : Type 0 where
  pub answer : Answer
  pub answers : said.answers ≡ answer ∷ []
  pub step : Step h action answer next

idle_at : (h to next : Machine) → Idles h to → next ≡ to → Idles h next
idle_at h to next idle is = record {
  geometry = ap (λ m. m.geometry) is ∙ idle.geometry;
  unit = ap (λ m. m.unit) is ∙ idle.unit;
  blocks = ap (λ m. m.blocks) is ∙ idle.blocks;
  volume = ap (λ m. m.volume) is ∙ idle.volume;
  files = ap (λ m. m.files) is ∙ idle.files;
  mappings = ap (λ m. m.mappings) is ∙ idle.mappings;
  interrupted = ap (λ m. m.interrupted) is ∙ idle.interrupted;
  metadata = λ bad none. idle.metadata bad (sym (ap (λ m. m.bad_meta) is) ∙ none);
  mode = λ on. idle.mode (sym (ap (λ m. m.mode) is) ∙ on);
  stopped = λ at. idle.stopped (sym (ap (λ m. m.mode) is) ∙ at);
}

altered_at : (h : Machine) (action : Action) (to next : Machine) → Alters h action to → next ≡ to → Alters h action next
altered_at h action to next done is = record {
  geometry = ap (λ m. m.geometry) is ∙ done.geometry;
  unit = ap (λ m. m.unit) is ∙ done.unit;
  blocks = ap (λ m. m.blocks) is ∙ done.blocks;
  volume = ap (λ m. m.volume) is ∙ done.volume;
  files = ap (λ m. m.files) is ∙ done.files;
  interrupted = ap (λ m. m.interrupted) is ∙ done.interrupted;
  mode = ap (λ m. m.mode) is ∙ done.mode;
  needs = done.needs;
}

ended : (h : Machine) (action : Action) (good : Answer) (to : Machine) (answer : Answer) (next : Machine) → refusal h action ≡ None → IsDone good ⊎ TouchesNothing action → Alters h action to
    → Ends good to (while_interrupted h action) answer next → Step h action answer next
ended h action good to answer next none begun done (inl end) =
    alters (elim begun as (λ _. IsDone answer ⊎ TouchesNothing action) [ inl is ↦ inl (subst IsDone (sym end.0) is) | inr none ↦ inr none ]) none (altered_at h action to next done end.1)
ended h action good to answer next none begun done (inr end) = stops end.0 end.1 none (record {
  geometry = ap (λ m. m.geometry) end.2.state;
  unit = ap (λ m. m.unit) end.2.state;
  blocks = ap (λ m. m.blocks) end.2.state;
  volume = ap (λ m. m.volume) end.2.state;
  files = ap (λ m. m.files) end.2.state;
  mappings = ap (λ m. m.mappings) end.2.state;
  interrupted = ap (λ m. m.interrupted) end.2.state;
  metadata = ap (λ m. m.bad_meta) end.2.state;
  mode = λ on. stops_on end.0 (sym (ap (λ m. m.mode) end.2.state) ∙ on);
  stopped = λ is. stops_stopped end.0 (sym (ap (λ m. m.mode) end.2.state) ∙ is);
  needs = done.needs;
})

-- a state that is read from a medium, or was interrupted there
record IsRead (read next : Machine) : Type 0 where
  unit : next.unit ≡ read.unit
  geometry : next.geometry ≡ read.geometry
  blocks : next.blocks ≡ read.blocks
  volume : next.volume ≡ read.volume
  files : next.files ≡ read.files
  metadata : next.bad_meta ≡ read.bad_meta
  interrupted : next.interrupted ≡ read.interrupted
  mode : (next.mode ≡ read.mode) ⊎ ((by : Interruption) × (next.mode ≡ interrupted_mode by))

is_read : (read to : Machine) (good answer : Answer) (next : Machine) → to ≡ record read { cut_armed = to.cut_armed; fail_armed = to.fail_armed } → Ends good to to answer next → IsRead read next
is_read read to good answer next of (inl end) =
    let is = end.1 ∙ of in
    record {
      unit = ap (λ m. m.unit) is;
      geometry = ap (λ m. m.geometry) is;
      blocks = ap (λ m. m.blocks) is;
      volume = ap (λ m. m.volume) is;
      files = ap (λ m. m.files) is;
      metadata = ap (λ m. m.bad_meta) is;
      interrupted = ap (λ m. m.interrupted) is;
      mode = inl (ap (λ m. m.mode) is);
    }
is_read read to good answer next of (inr end) = record {
  unit = ap (λ m. m.unit) end.2.state ∙ ap (λ m. m.unit) of;
  geometry = ap (λ m. m.geometry) end.2.state ∙ ap (λ m. m.geometry) of;
  blocks = ap (λ m. m.blocks) end.2.state ∙ ap (λ m. m.blocks) of;
  volume = ap (λ m. m.volume) end.2.state ∙ ap (λ m. m.volume) of;
  files = ap (λ m. m.files) end.2.state ∙ ap (λ m. m.files) of;
  metadata = ap (λ m. m.bad_meta) end.2.state ∙ ap (λ m. m.bad_meta) of;
  interrupted = ap (λ m. m.interrupted) end.2.state ∙ ap (λ m. m.interrupted) of;
  mode = inr (end.0, ap (λ m. m.mode) end.2.state);
}

-- a restart, as it was asked for
abbrev pub ReadsBack : Choice → Machine → Machine → Type 0
ReadsBack choice h next = ((back : Returns h next) × (back.choice ≡ choice)) ⊎ Empties h next

pub reads_back : (h : Machine) (choice : Choice) (image : Image) (answer : Answer) (next : Machine) → h.mode ≡ Off → RestartMayLeave choice image h
    → Ends (mounted_answer (restarted h image)) (restarted h image) (restarted h image) answer next → ReadsBack choice h next
unfolding reading
reads_back h choice image answer next off may ends = by_metadata h.bad_meta refl
  where
    from : IsRead (reading h.geometry image) next
    from = is_read (reading h.geometry image) (restarted h image) (mounted_answer (restarted h image)) answer next refl ends

    read_as : (bad : List ℕ) → h.bad_meta ≡ bad → IsRead (record (read_with bad h.geometry image) { unit = image.unit }) next
    read_as bad is = subst (λ b. IsRead (record (read_with b h.geometry image) { unit = image.unit }) next) (may.metadata ∙ is) from

    by_metadata : (bad : List ℕ) → h.bad_meta ≡ bad → ReadsBack choice h next
    by_metadata [] is =
        let read = read_as [] is in
        let back : Returns h next = record {
          off = off;
          metadata = is;
          choice = choice;
          image = image;
          may = may.storage is;
          image_unit = read.unit;
          geometry = read.geometry;
          unit = read.unit ∙ may.unit;
          blocks = read.blocks;
          volume = read.volume;
          files = read.files;
          interrupted = read.interrupted;
          stopped = λ at. elim read.mode as (λ _. ⊥) [ inl on ↦ cc (at, on) | inr by ↦ stops_stopped by.0 (sym by.1 ∙ at) ];
        } in
        inl (back, refl)
    by_metadata (line ∷ lines) is =
        let read = read_as (line ∷ lines) is in
        inr (record {
          geometry = read.geometry;
          unit = read.unit ∙ may.unit;
          nothing = record {
            metadata = λ none. cc (none, read.metadata);
            mode = λ on. elim read.mode as (λ _. ⊥) [ inl at ↦ cc (at, on) | inr by ↦ stops_on by.0 (sym by.1 ∙ on) ];
            blocks = read.blocks;
            volume = read.volume;
            files = read.files;
          };
        })

returned : (h : Machine) (action : Action) (choice : Choice) (image : Image) (answer : Answer) (next : Machine) → CoversNothing h action × IsMount action → h.mode ≡ Off → RestartMayLeave choice image h
    → Ends (mounted_answer (restarted h image)) (restarted h image) (restarted h image) answer next → Step h action answer next
returned h action choice image answer next covers off may ends =
    elim (reads_back h choice image answer next off may ends) as (λ _. Step h action answer next) [ inl back ↦ returns covers back.0 | inr gone ↦ empties covers gone ]

-- a recovery
pub mounts_anew : (h next : Machine) (bad : List ℕ) → h.bad_meta ≡ bad → RecoversTo bad h next → Remounts h next ⊎ Empties h next
mounts_anew h next [] is to = inl (record {
  metadata = is;
  geometry = ap (λ m. m.geometry) to.state;
  unit = ap (λ m. m.unit) to.state;
  blocks = to.blocks;
  volume = to.volume;
  files = to.files;
  interrupted = ap (λ m. m.interrupted) to.state;
  stopped = λ at. cc (at, ap (λ m. m.mode) to.state);
})
mounts_anew h next (line ∷ lines) is to = inr (record {
  geometry = ap (λ m. m.geometry) to;
  unit = ap (λ m. m.unit) to;
  nothing = record {
    metadata = λ none. cc (none, ap (λ m. m.bad_meta) to);
    mode = λ on. cc (on, ap (λ m. m.mode) to);
    blocks = ap (λ m. m.blocks) to;
    volume = ap (λ m. m.volume) to;
    files = ap (λ m. m.files) to;
  };
})

remounted : (h : Machine) (action : Action) (answer : Answer) (next : Machine) → CoversNothing h action × IsMount action → (bad : List ℕ) → h.bad_meta ≡ bad → RecoversTo bad h next
    → Step h action answer next
remounted h action answer next covers bad is to =
    elim (mounts_anew h next bad is to) as (λ _. Step h action answer next) [ inl back ↦ remounts covers back | inr gone ↦ empties covers gone ]

-- or one that was interrupted
unmounted : (by : Interruption) (h next : Machine) → Interrupts by h next → Idles h next
unmounted by h next at = record {
  geometry = ap (λ m. m.geometry) at.state;
  unit = ap (λ m. m.unit) at.state;
  blocks = ap (λ m. m.blocks) at.state;
  volume = ap (λ m. m.volume) at.state;
  files = ap (λ m. m.files) at.state;
  mappings = ap (λ m. m.mappings) at.state;
  interrupted = ap (λ m. m.interrupted) at.state;
  metadata = λ bad none. bad (sym (ap (λ m. m.bad_meta) at.state) ∙ none);
  mode = λ on. absurd (stops_on by (sym (ap (λ m. m.mode) at.state) ∙ on));
  stopped = λ is. absurd (stops_stopped by (sym (ap (λ m. m.mode) at.state) ∙ is));
}

by_fate : (h : Machine) (action : Action) (f : Fate) (said : Transcript) (next : Machine) → refusal h action ≡ None → Suits h action f → Takes h action f said next
    → Taken h action said next
by_fate h action (Gives good to) said next none (inl suit) takes =
    record { answer = good; answers = ap (λ s. s.answers) takes.0; step = idles (inr suit.0) (idle_at h to next suit.1 takes.1) }
by_fate h action (Gives good to) said next none (inr suit) takes =
    record { answer = good; answers = ap (λ s. s.answers) takes.0; step = alters suit.0 none (altered_at h action to next suit.1 takes.1) }
by_fate h action (Works good to) said next none suit takes =
    record { answer = takes.0; answers = ap (λ s. s.answers) takes.1; step = ended h action good to takes.0 next none suit.0 suit.1 takes.2 }
by_fate h action (Orders order to) said next none suit takes =
    record { answer = Done; answers = ap (λ s. s.answers) takes.0; step = idles (inr suit.0) (idle_at h to next suit.1 takes.1) }
by_fate h action (Cuts to) said next none suit takes =
    record { answer = Done; answers = ap (λ s. s.answers) takes.0; step = idles (inr suit.0) (idle_at h to next suit.1 takes.1) }
by_fate h action (Restarts choice) said next none suit takes =
    record { answer = takes.1; answers = ap (λ s. s.answers) takes.2; step = returned h action choice takes.0.image takes.1 next (suit.0, inl (choice, suit.2)) (is_off h action suit.1 none) takes.4 takes.5 }
by_fate h action Recovers said next none suit takes = record {
  answer = takes.0;
  answers = ap (λ s. s.answers) takes.1;
  step = elim takes.2 as (λ _. Step h action takes.0 next) [
    | inl end ↦ remounted h action takes.0 next (suit.0, inr suit.1) h.bad_meta refl end.1
    | inr end ↦ idles (inr suit.0) (unmounted end.0 h next end.2)
  ];
}

pub step_of : (h : Machine) (action : Action) (said : Transcript) (next : Machine) → Takes h action (fate h action) said next → Taken h action said next
step_of h action said next = by_refusal (refusal h action) refl
  where
    by_refusal : (o : Option Answer) → refusal h action ≡ o → Takes h action (unless_refused h o ((meaning action).comes h)) said next → Taken h action said next
    by_refusal None none takes = by_fate h action ((meaning action).comes h) said next none (suits h action) takes
    by_refusal (Some answer) some takes =
        record { answer = answer; answers = ap (λ s. s.answers) takes.0; step = idles (inl some) (idle_at h h next (same h) takes.1) }

-- the geometry stays
pub geometry_step : (h : Machine) (action : Action) (answer : Answer) (next : Machine) → Step h action answer next → next.geometry ≡ h.geometry
geometry_step h action answer next (idles why to) = to.geometry
geometry_step h action answer next (alters begun none to) = to.geometry
geometry_step h action answer next (stops by is none to) = to.geometry
geometry_step h action answer next (returns none back) = back.geometry
geometry_step h action answer next (remounts none back) = back.geometry
geometry_step h action answer next (empties none to) = to.geometry

-- and the unit
pub unit_step : (h : Machine) (action : Action) (answer : Answer) (next : Machine) → Step h action answer next → next.unit ≡ h.unit
unit_step h action answer next (idles why to) = to.unit
unit_step h action answer next (alters begun none to) = to.unit
unit_step h action answer next (stops by is none to) = to.unit
unit_step h action answer next (returns none back) = back.unit
unit_step h action answer next (remounts none back) = back.unit
unit_step h action answer next (empties none to) = to.unit

-- nothing is there any more, and nothing comes back
nothing_as : (h next : Machine) → next.blocks ≡ h.blocks → next.volume ≡ h.volume → next.files ≡ h.files → (h.bad_meta ≢ [] → next.bad_meta ≢ []) → (next.mode ≡ On → h.mode ≡ On) → HasNothing h → HasNothing next
nothing_as h next blocks volume files metadata mode gone = record {
  metadata = metadata gone.metadata;
  mode = λ on. gone.mode (mode on);
  blocks = blocks ∙ gone.blocks;
  volume = volume ∙ gone.volume;
  files = files ∙ gone.files;
}

pub nothing_idle : (h next : Machine) → Idles h next → HasNothing h → HasNothing next
nothing_idle h next to gone = nothing_as h next to.blocks to.volume to.files to.metadata to.mode gone

pub nothing_stopped : (h : Machine) (action : Action) (next : Machine) → Stops h action next → HasNothing h → HasNothing next
nothing_stopped h action next to gone =
    nothing_as h next to.blocks to.volume to.files (λ bad none. bad (sym to.metadata ∙ none)) (λ on. absurd (to.mode on)) gone

pub nothing_step : (h : Machine) (action : Action) (answer : Answer) (next : Machine) → HasNothing h → Step h action answer next → HasNothing next
nothing_step h action answer next gone (idles why to) = nothing_idle h next to gone
nothing_step h action answer next gone (alters begun none to) = absurd (gone.mode (is_on h action to.needs none))
nothing_step h action answer next gone (stops by is none to) = nothing_stopped h action next to gone
nothing_step h action answer next gone (returns none back) = absurd (gone.metadata back.metadata)
nothing_step h action answer next gone (remounts none back) = absurd (gone.metadata back.metadata)
nothing_step h action answer next gone (empties none to) = to.nothing

pub nothing_heard : (h : Machine) (input : Input) (said : Transcript) (next : Machine) → HasNothing h → Hears h input said next → HasNothing next
nothing_heard h Skipped said next gone heard = subst HasNothing (sym heard.1) gone
nothing_heard h Malformed said next gone heard = subst HasNothing (sym heard.1) gone
nothing_heard h Overlong said next gone heard = subst HasNothing (sym heard.1) gone
nothing_heard h (Asked action) said next gone heard =
    let taken = step_of h action said next heard in nothing_step h action taken.answer next gone taken.step

pub nothing_run : (h later : Machine) (inputs : List Input) (said : Transcript) → HasNothing h → Run h inputs said later → HasNothing later
nothing_run h later [] said gone run = subst HasNothing (sym run.1) gone
nothing_run h later (input ∷ inputs) said gone run =
    nothing_run run.2 later inputs run.1 (nothing_heard h input run.0 run.2 gone run.4) run.5

geometry_heard : (h : Machine) (input : Input) (said : Transcript) (next : Machine) → Hears h input said next → next.geometry ≡ h.geometry
geometry_heard h Skipped said next heard = ap (λ m. m.geometry) heard.1
geometry_heard h Malformed said next heard = ap (λ m. m.geometry) heard.1
geometry_heard h Overlong said next heard = ap (λ m. m.geometry) heard.1
geometry_heard h (Asked action) said next heard = let taken = step_of h action said next heard in geometry_step h action taken.answer next taken.step

pub geometry_run : (inputs : List Input) (h later : Machine) (said : Transcript) → Run h inputs said later → later.geometry ≡ h.geometry
geometry_run [] h later said run = ap (λ m. m.geometry) run.1
geometry_run (input ∷ inputs) h later said run = geometry_run inputs run.2 later run.1 run.5 ∙ geometry_heard h input run.0 run.2 run.4

unit_heard : (h : Machine) (input : Input) (said : Transcript) (next : Machine) → Hears h input said next → next.unit ≡ h.unit
unit_heard h Skipped said next heard = ap (λ m. m.unit) heard.1
unit_heard h Malformed said next heard = ap (λ m. m.unit) heard.1
unit_heard h Overlong said next heard = ap (λ m. m.unit) heard.1
unit_heard h (Asked action) said next heard = let taken = step_of h action said next heard in unit_step h action taken.answer next taken.step

pub unit_run : (inputs : List Input) (h later : Machine) (said : Transcript) → Run h inputs said later → later.unit ≡ h.unit
unit_run [] h later said run = ap (λ m. m.unit) run.1
unit_run (input ∷ inputs) h later said run = unit_run inputs run.2 later run.1 run.5 ∙ unit_heard h input run.0 run.2 run.4
