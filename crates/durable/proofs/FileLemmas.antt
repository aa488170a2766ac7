-- Which files there are: by induction over a run.
use Rattle.std.proofs.Common.{◌≡◌, ◌⊎◌, inl, inr, true, false, Option, Some, None, List, [], ◌∷◌, ◌++◌, map, refl, sym, ap, subst, ◌∙◌}
use Rattle.std.proofs.lemmas.Bool.{both_ways}
use Rattle.nvm_base.specs.declared.files.FileEntry.{FileEntry}
use Rattle.nvm_model.specs.Files.{entry_of_file}
use Rattle.nvm_model.specs.Storage.{File, Mapping}
use Rattle.nvm_model.specs.Interrupted.{MayStore, MaySyncAll}
use Rattle.nvm_model.proofs.FileLeftLemmas.{may_store-length, one_left-entries}
use Rattle.reply_text.specs.Answer.{Answer}
use Rattle.reply_text.specs.Answer.Answer.{Files as FilesAre}
use Rattle.script_text.specs.Action.{Action}
use Rattle.script_text.specs.Action.Action.{ListFiles}
use Rattle.script_text.specs.Script.{Input}
use Rattle.script_text.specs.Script.Input.{Skipped, Malformed, Overlong, Asked}
use Rattle.machine_model.specs.declared.mode.Mode.TheVariants.{On}
use Rattle.machine_model.specs.Machine.{Machine}
use Rattle.machine_model.specs.Commands.{MayLeaveFiles, meaning, refusal, unless_refused, LeavesFiles as LeftFiles}
use Rattle.machine_model.specs.Meaning.{FilesLeft}
use Rattle.machine_model.specs.Meaning.FilesLeft.{Unchanged, OldOrNew, StoredInPart, SyncedInPart}
use Rattle.machine_model.specs.Run.{Hears, Run, Takes, Transcript}
use Rattle.durable.specs.Touching.{is_begun}
use Rattle.durable.specs.Mapped.{Begun, but_for_copies, commands_begun, mappings_then}
use Rattle.durable.specs.Durable.{Does, HasNothing, IsComplete, IsDone, NoneBegun}
use Rattle.durable.specs.Files.{BreaksOff, FilesLast, FilesSettle, FilesThrough, IsStopped, LeavesFiles, changes_files, files_after, files_listed}
use Rattle.durable.proofs.StepKinds.{Step, Stops}
use Rattle.durable.proofs.StepKinds.Step.{idles, alters, stops, returns, remounts, empties}
use Rattle.durable.proofs.StepLemmas.{nothing_run, step_of}
use Rattle.durable.proofs.EntryLemmas.{entries_made, entries_read, entries_same, files_meant, may_spans-length}
use Rattle.durable.proofs.KeepLemmas.{done_begun, stop_begun}
use Rattle.durable.proofs.LawLemmas.{came_of, finishes}
use Rattle.durable.proofs.MappedLemmas.{begun_on, none-asked}
use Rattle.durable.proofs.PassLemmas.{pass}
use Rattle.durable.proofs.RefusalLemmas.{is_on, refused_told}
use Rattle.durable.proofs.RefusedAnswerLemmas.{is_refused}
use Rattle.durable.proofs.WholeLemmas.{whole-heard, whole-run}

module _ (P : List FileEntry → Type 0) where
  -- So they are listed, and so are those that a mount may find. In mode On no change of them is interrupted.
  record Lists (h : Machine) : Type 0 where
    now : P (files_listed h)
    left : (files : List File) → MayLeaveFiles h.mappings h.interrupted h.files files → P (map entry_of_file files)
    settled : h.mode ≡ On → LeavesFiles h.interrupted

  lists_left : (mappings : List Mapping) (o : Option Action) (old files : List File) → LeavesFiles o → P (map entry_of_file old) → MayLeaveFiles mappings o old files → P (map entry_of_file files)
  lists_left mappings None old files free now is = subst (λ fs. P (map entry_of_file fs)) {x = old} (sym is) now
  lists_left mappings (Some action) old files none now may = by_how ((meaning action).files_left mappings) may
    where
      by_how : (how : FilesLeft) → LeftFiles how old ((meaning action).files mappings old) files → P (map entry_of_file files)
      by_how Unchanged is = subst (λ fs. P (map entry_of_file fs)) {x = old} (sym is) now
      by_how OldOrNew (inl is) = subst (λ fs. P (map entry_of_file fs)) {x = old} (sym is) now
      by_how OldOrNew (inr is) = subst P (sym (ap (map entry_of_file) is ∙ entries_same action mappings old none)) now
      by_how (StoredInPart name offset bytes) left = subst P (sym (one_left-entries name (MayStore offset bytes) (may_store-length offset bytes) old files left)) now
      by_how (SyncedInPart name spans) left = subst P (sym (one_left-entries name (MaySyncAll spans) (may_spans-length spans) old files left)) now

  lists_free : (h : Machine) → LeavesFiles h.interrupted → P (files_listed h) → Lists h
  lists_free h free now = record { now = now; left = λ files may. lists_left h.mappings h.interrupted h.files files free now may; settled = λ on. free }

  -- a step that leaves files
  lists_same : (h next : Machine) → next.files ≡ h.files → next.mappings ≡ h.mappings → next.interrupted ≡ h.interrupted → (next.mode ≡ On → h.mode ≡ On) → Lists h → Lists next
  lists_same h next files mappings interrupted mode lists = record {
    now = subst (λ fs. P (map entry_of_file fs)) {x = h.files} (sym files) lists.now;
    left = λ fs may.
        lists.left fs (subst (λ o. MayLeaveFiles h.mappings o h.files fs) interrupted
        (subst (λ ms. MayLeaveFiles ms next.interrupted h.files fs) mappings (subst (λ old. MayLeaveFiles next.mappings next.interrupted old fs) files may)));
    settled = λ on. subst LeavesFiles (sym interrupted) (lists.settled (mode on));
  }

  -- and any that begins no change of them
  lists_step : (h : Machine) (action : Action) (answer : Answer) (next : Machine) → (is_begun answer ≡ true → changes_files action ≡ false) → Lists h
      → Step h action answer next → Lists next ⊎ HasNothing next
  lists_step h action answer next spares lists (idles why to) = inl (lists_same h next to.files to.mappings to.interrupted to.mode lists)
  lists_step h action answer next spares lists (alters begun none to) =
      let leaves : changes_files action ≡ false =
      elim begun as (λ _. changes_files action ≡ false) [ inl done ↦ spares (done_begun answer done) | inr touches ↦ touches.files ] in
      inl (lists_free next (subst LeavesFiles (sym to.interrupted) (lists.settled (is_on h action to.needs none)))
      (subst P (sym (ap (map entry_of_file) to.files ∙ entries_made action h.mappings h.files leaves)) lists.now))
  lists_step h action answer next spares lists (stops by is none to) =
      inl (lists_free next (subst LeavesFiles {x = Some action} (sym to.interrupted) (spares (ap is_begun is ∙ stop_begun by)))
      (subst (λ fs. P (map entry_of_file fs)) {x = h.files} (sym to.files) lists.now))
  lists_step h action answer next spares lists (returns covers back) =
      inl (lists_free next (subst LeavesFiles {x = None} (sym back.interrupted) tt)
      (subst P (sym (ap (map entry_of_file) back.files ∙ entries_read back.choice h.geometry back.image back.may.files_left back.may.files))
      (lists.left back.may.files_left back.may.may_files)))
  lists_step h action answer next spares lists (remounts covers back) =
      inl (lists_free next (subst LeavesFiles {x = None} (sym back.interrupted) tt) (lists.left next.files back.files))
  lists_step h action answer next spares lists (empties covers to) = inr to.nothing

  lists_heard : (input : Input) (inputs : List Input) (h next : Machine) (mappings : List Mapping) (first : Transcript) (answers : List Answer) → Hears h input first next
      → NoneBegun (λ (c : Begun). changes_files c.action) (begun_on mappings (input ∷ inputs) (first.answers ++ answers)) → Lists h
      → (Lists next ⊎ HasNothing next) × ((told : List Mapping) × NoneBegun (λ (c : Begun). changes_files c.action) (begun_on told inputs answers))
  lists_heard Skipped inputs h next mappings first answers heard none lists =
      (inl (subst Lists (sym heard.1) lists), (mappings, subst (λ (s : Transcript). NoneBegun (λ (c : Begun). changes_files c.action) (begun_on mappings inputs (s.answers ++ answers))) heard.0 none))
  lists_heard Malformed inputs h next mappings first answers heard none lists = (
    inl (subst Lists (sym heard.1) lists),
    (mappings, subst (λ (s : Transcript). NoneBegun (λ (c : Begun). changes_files c.action) (begun_on mappings (Malformed ∷ inputs) (s.answers ++ answers))) heard.0 none),
  )
  lists_heard Overlong inputs h next mappings first answers heard none lists = (
    inl (subst Lists (sym heard.1) lists),
    (mappings, subst (λ (s : Transcript). NoneBegun (λ (c : Begun). changes_files c.action) (begun_on mappings (Overlong ∷ inputs) (s.answers ++ answers))) heard.0 none),
  )
  lists_heard (Asked action) inputs h next mappings first answers heard none lists =
      let taken = step_of h action first next heard in
      let each = none-asked (λ (c : Begun). changes_files c.action) mappings action inputs first taken.answer answers taken.answers none in
      (lists_step h action taken.answer next each.0 lists taken.step, (mappings_then mappings action taken.answer, each.1))

  lists_run : (inputs : List Input) (h later : Machine) (mappings : List Mapping) (said : Transcript) → Run h inputs said later → NoneBegun (λ (c : Begun). changes_files c.action) (begun_on mappings inputs said.answers)
      → Lists h ⊎ HasNothing h → Lists later ⊎ HasNothing later
  lists_run inputs h later mappings said run none (inr nothing) = inr (nothing_run h later inputs said nothing run)
  lists_run [] h later mappings said run none (inl lists) = inl (subst Lists (sym run.1) lists)
  lists_run (input ∷ inputs) h later mappings said run none (inl lists) =
      let split = subst (λ (s : Transcript). NoneBegun (λ (c : Begun). changes_files c.action) (begun_on mappings (input ∷ inputs) s.answers)) run.3 none in
      let heard = lists_heard input inputs h run.2 mappings run.0 run.1.answers run.4 split lists in
      lists_run inputs run.2 later heard.1.0 run.1 run.5 heard.1.1 heard.0

  listed_later : (inputs : List Input) (h later : Machine) (said : Transcript) → Run h inputs said later
      → NoneBegun (λ (c : Begun). changes_files c.action) (commands_begun h.mappings inputs said.answers) → Lists h → P (files_listed later) ⊎ HasNothing later
  listed_later inputs h later said run none lists = elim (lists_run inputs h later (but_for_copies h.mappings) said run none (inl lists)) as (λ _. P (files_listed later) ⊎ HasNothing later) [
    | inl ls ↦ inl ls.now
    | inr nothing ↦ inr nothing
  ]

-- where no change of them is interrupted
pub files_last : (h : Machine) → LeavesFiles h.interrupted → FilesLast h (files_listed h)
files_last h free inputs said later run none =
    listed_later (λ es. es ≡ files_listed h) inputs h later said run none (lists_free (λ es. es ≡ files_listed h) h free refl)

settled_free : (h : Machine) → IsComplete h → h.mode ≡ On → LeavesFiles h.interrupted
settled_free h whole on = subst LeavesFiles {x = None} (sym (whole.settled on)) tt

-- a change that was done
pub files_done : (h next : Machine) (action : Action) → Does h action next → changes_files action ≡ true → FilesLast next (files_after h action)
files_done h next action does change =
    let came = came_of h next action (finishes h next action does) (λ none. both_ways (changes_files action) none.files change) in
    let free = came.to.interrupted ∙ does.whole.settled (is_on h action came.to.needs came.none) in
    subst (FilesLast next) (ap (map entry_of_file) (came.to.files ∙ files_meant action h.mappings h.files change)) (files_last next (subst LeavesFiles {x = None} (sym free) tt))

-- and one that was stopped
pub not_stopped : (answer : Answer) → IsStopped (answer ∷ []) → is_refused answer ≡ false
not_stopped answer (inl is) = cc is
not_stopped answer (inr is) = cc is

pub done_or_stopped : (answer : Answer) → IsStopped (answer ∷ []) → IsDone answer → ⊥
done_or_stopped answer (inl is) (inl done) = cc (is, done)
done_or_stopped answer (inl is) (inr done) = cc (is, done.2)
done_or_stopped answer (inr is) (inl done) = cc (is, done)
done_or_stopped answer (inr is) (inr done) = cc (is, done.2)

stopped_by : (h : Machine) (action : Action) (answer : Answer) (next : Machine) → changes_files action ≡ true → IsStopped (answer ∷ []) → Step h action answer next
    → Stops h action next
stopped_by h action answer next change was (idles (inl why) to) = absurd (both_ways (is_refused answer) (not_stopped answer was) (refused_told h action answer why))
stopped_by h action answer next change was (idles (inr none) to) = absurd (both_ways (changes_files action) none.files change)
stopped_by h action answer next change was (alters (inl done) none to) = absurd (done_or_stopped answer was done)
stopped_by h action answer next change was (alters (inr touches) none to) = absurd (both_ways (changes_files action) touches.files change)
stopped_by h action answer next change was (stops by is none to) = to
stopped_by h action answer next change was (returns covers back) = absurd (both_ways (changes_files action) covers.0.files change)
stopped_by h action answer next change was (remounts covers back) = absurd (both_ways (changes_files action) covers.0.files change)
stopped_by h action answer next change was (empties covers to) = absurd (both_ways (changes_files action) covers.0.files change)

lists_stopped : (h : Machine) (action : Action) (next : Machine) → Stops h action next
    → Lists (λ es. (es ≡ files_listed h) ⊎ (es ≡ files_after h action)) next
lists_stopped h action next to = record {
  now = inl (ap (map entry_of_file) to.files);
  left = λ files may. by_may files (subst (λ o. MayLeaveFiles h.mappings o h.files files) to.interrupted (subst (λ ms. MayLeaveFiles ms next.interrupted h.files files) to.mappings (subst (λ old. MayLeaveFiles next.mappings next.interrupted old files) to.files may)));
  settled = λ on. absurd (to.mode on);
}
  where
    by_how : (files : List File) (how : FilesLeft) → LeftFiles how h.files ((meaning action).files h.mappings h.files) files → (map entry_of_file files ≡ files_listed h) ⊎ (map entry_of_file files ≡ files_after h action)
    by_how files Unchanged is = inl (ap (map entry_of_file) is)
    by_how files OldOrNew (inl is) = inl (ap (map entry_of_file) is)
    by_how files OldOrNew (inr is) = inr (ap (map entry_of_file) is)
    by_how files (StoredInPart name offset bytes) left = inl (one_left-entries name (MayStore offset bytes) (may_store-length offset bytes) h.files files left)
    by_how files (SyncedInPart name spans) left = inl (one_left-entries name (MaySyncAll spans) (may_spans-length spans) h.files files left)

    by_may : (files : List File) → MayLeaveFiles h.mappings (Some action) h.files files → (map entry_of_file files ≡ files_listed h) ⊎ (map entry_of_file files ≡ files_after h action)
    by_may files may = by_how files ((meaning action).files_left h.mappings) may

pub files_settle : (h next : Machine) (action : Action) → BreaksOff h action next → changes_files action ≡ true → FilesSettle next (files_listed h) (files_after h action)
files_settle h next action breaks change inputs said later run none =
    let taken = step_of h action breaks.said next breaks.came in
    let to = stopped_by h action taken.answer next change (subst IsStopped taken.answers breaks.stopped) taken.step in
    let whole = whole-run inputs next later said (whole-heard h (Asked action) breaks.said next breaks.whole breaks.came) run in
    record {
      listed = listed_later (λ es. (es ≡ files_listed h) ⊎ (es ≡ files_after h action)) inputs next later said run none (lists_stopped h action next to);
      lasts = λ on. files_last later (settled_free later whole on);
    }

-- the list that is told
pub files_told : (h next : Machine) (files : List FileEntry) (said : Transcript) → Hears h (Asked ListFiles) said next → said.answers ≡ FilesAre files ∷ [] → files ≡ files_listed h
files_told h next files said heard told = by_refusal (refusal h ListFiles) refl heard
  where
    by_refusal : (o : Option Answer) → refusal h ListFiles ≡ o → Takes h ListFiles (unless_refused h o ((meaning ListFiles).comes h)) said next → files ≡ files_listed h
    by_refusal None is takes = cc (ap (λ s. s.answers) takes.0, told)
    by_refusal (Some answer) is takes =
        let same : answer ≡ FilesAre files = cc (ap (λ s. s.answers) takes.0, told) in
        absurd (both_ways (is_refused answer) (ap is_refused same) (refused_told h ListFiles answer is))

-- a run as it comes to a command that changes them
pub files_through : (h end : Machine) (before after : List Input) (action : Action) (said : Transcript) → IsComplete h → changes_files action ≡ true
    → Run h (before ++ Asked action ∷ after) said end → FilesThrough h before action after said end
files_through h end before after action said whole change run =
    let passes = pass before h end action after said run in
    let here = whole-run before h passes.here passes.early whole passes.run in
    record {
      passes = passes;
      done = λ done. files_done passes.here passes.next action (record { whole = here; said = passes.middle; came = passes.came; done = done }) change;
      stopped = λ was. files_settle passes.here passes.next action (record { whole = here; said = passes.middle; came = passes.came; stopped = was }) change;
    }
