-- The mappings of a state are those that the answers of a run tell, but for the bytes of copies.
use Rattle.std.proofs.Common.{◌≡◌, ◌⊎◌, inl, inr, ℕ, ◌&&◌, ◌||◌, ◌++◌, Bool, true, false, cond, not, Option, Some, None, option_map, List, [], ◌∷◌, length, refl, sym, ap, subst, ◌∙◌, if◌then◌else◌}
use Rattle.std.specs.Prelude.{is_none}
use Rattle.std.specs.List.{list_any}
use Rattle.std.proofs.lemmas.Bool.{or_parts}
use Rattle.std.proofs.lemmas.List.{map-append}
use Rattle.line_device.specs.Panel.{Image}
use Rattle.line_device.specs.declared.line.Choice.{Choice}
use Rattle.line_words.specs.declared.interruption.Interruption.{Interruption}
use Rattle.line_words.specs.declared.interruption.Interruption.TheVariants.{Failed, PowerLost as Lost}
use Rattle.word_tables.specs.declared.geometry.Geometry.{Geometry}
use Rattle.nvm_base.specs.declared.units.Span.{Span}
use Rattle.nvm_model.specs.Mappings.{change_copy, has_handle, mapping_of, new_mapping, overwritten, without_mapping}
use Rattle.nvm_model.specs.Storage.{Mapping}
use Rattle.reply_text.specs.Answer.{Answer}
use Rattle.reply_text.specs.Answer.Answer.{Done, DoneBad, Handle, VerifyFile, DeviceFailed, PowerLost, Stopped}
use Rattle.script_text.specs.Action.{Action}
use Rattle.script_text.specs.Action.Action.{Map, Unmap, Load, Store, Sync, Flush, FlushVerify, DeepFlush, Cut, CutIn, FailIn, Evict, Restart, Recover}
use Rattle.script_text.specs.Script.{Input}
use Rattle.script_text.specs.Script.Input.{Skipped, Malformed, Overlong, Asked}
use Rattle.machine_model.specs.declared.look.Look.TheVariants.{Once, Again}
use Rattle.machine_model.specs.Commands.{fate, meaning, refusal, unless_refused}
use Rattle.machine_model.specs.Interrupted.{interrupted_answer, stop_in}
use Rattle.machine_model.specs.Lines.{bad_metadata}
use Rattle.machine_model.specs.Machine.{Fate, Machine}
use Rattle.machine_model.specs.Machine.Fate.{Gives, Works, Orders, Cuts, Restarts, Recovers}
use Rattle.machine_model.specs.Recovering.{RecoversTo}
use Rattle.machine_model.specs.Restarting.{answer_with, read_with, reading, restarted}
use Rattle.machine_model.specs.OnMappings.{with_mapping}
use Rattle.machine_model.specs.OnPages.{pages_named}
use Rattle.machine_model.specs.Run.{Hears, Run, Takes, Transcript}
use Rattle.durable.specs.Region.{flushed_by, flushed_through, stored_by, stored_through}
use Rattle.durable.specs.Touching.{in_place, is_begun, made_durable, region_changed}
use Rattle.durable.specs.Durable.{NoneBegun}
use Rattle.durable.specs.Mapped.{Begun, all_begun, but_for_copies, exchanges, handle_in, is_done, is_mounted, mapping_told, mappings_after, mappings_then, with_told}
use Rattle.durable.proofs.HandleLemmas.{of_flush, of_load, of_map, of_store}
use Rattle.durable.proofs.RefusalLemmas.{refused_told}
use Rattle.durable.proofs.RefusedAnswerLemmas.{is_refused}

-- mappings that are the same but for the bytes of copies
abbrev pub AreAlike : List Mapping → List Mapping → Type 0
AreAlike one other = but_for_copies one ≡ but_for_copies other

-- the one that has a handle
mapping_of-uncopied : (handle : ℕ) (mappings : List Mapping) → mapping_of handle (but_for_copies mappings) ≡ option_map (λ (m : Mapping). record m { copy = [] }) (mapping_of handle mappings)
mapping_of-uncopied handle [] = refl
mapping_of-uncopied handle (m ∷ mappings) = by_test (has_handle handle m) (mapping_of-uncopied handle mappings)
  where
    by_test : (b : Bool) → mapping_of handle (but_for_copies mappings) ≡ option_map (λ (n : Mapping). record n { copy = [] }) (mapping_of handle mappings)
        → cond b (Some (record m { copy = [] })) (mapping_of handle (but_for_copies mappings)) ≡ option_map (λ (n : Mapping). record n { copy = [] }) (cond b (Some m) (mapping_of handle mappings))
    by_test true rest = refl
    by_test false rest = rest

-- what looks at no copy is the same of alike ones
alike_of : {X : Type 0} (of : Option Mapping → X) (handle : ℕ) (one other : List Mapping) → ((o : Option Mapping) → of o ≡ of (option_map (λ (m : Mapping). record m { copy = [] }) o)) → AreAlike one other
    → of (mapping_of handle one) ≡ of (mapping_of handle other)
alike_of of handle one other blind alike =
    blind (mapping_of handle one) ∙ ap of (sym (mapping_of-uncopied handle one) ∙ ap (mapping_of handle) alike ∙ mapping_of-uncopied handle other)
    ∙ sym (blind (mapping_of handle other))

flushed_alike : (handle : ℕ) (spans : List Span) (one other : List Mapping) → AreAlike one other → flushed_through one handle spans ≡ flushed_through other handle spans
flushed_alike handle spans one other alike = alike_of (flushed_by spans) handle one other blind alike
  where
    blind : (o : Option Mapping) → flushed_by spans o ≡ flushed_by spans (option_map (λ (m : Mapping). record m { copy = [] }) o)
    blind None = refl
    blind (Some m) = refl

stored_alike : (handle offset len : ℕ) (one other : List Mapping) → AreAlike one other → stored_through one handle offset len ≡ stored_through other handle offset len
stored_alike handle offset len one other alike = alike_of (stored_by offset len) handle one other blind alike
  where
    blind : (o : Option Mapping) → stored_by offset len o ≡ stored_by offset len (option_map (λ (m : Mapping). record m { copy = [] }) o)
    blind None = refl
    blind (Some m) = refl

pub changed_alike : (action : Action) (one other : List Mapping) → AreAlike one other → region_changed one action ≡ region_changed other action
changed_alike (Store handle offset bytes) one other alike = stored_alike handle offset (length bytes) one other alike
changed_alike action one other alike = refl

pub durable_alike : (geo : Geometry) (action : Action) (one other : List Mapping) → AreAlike one other → made_durable geo one action ≡ made_durable geo other action
durable_alike geo (Sync handle offset len) one other alike = ap in_place (flushed_alike handle (record { start = offset; len = len } ∷ []) one other alike)
durable_alike geo (Flush handle spans) one other alike = ap in_place (flushed_alike handle spans one other alike)
durable_alike geo (FlushVerify handle spans) one other alike = ap in_place (flushed_alike handle spans one other alike)
durable_alike geo (DeepFlush handle spans) one other alike = ap in_place (flushed_alike handle spans one other alike)
durable_alike geo action one other alike = refl

-- and they stay alike
without-uncopied : (handle : ℕ) (mappings : List Mapping) → but_for_copies (without_mapping handle mappings) ≡ without_mapping handle (but_for_copies mappings)
without-uncopied handle [] = refl
without-uncopied handle (m ∷ mappings) = by_test (not (has_handle handle m)) (without-uncopied handle mappings)
  where
    by_test : (b : Bool) → but_for_copies (without_mapping handle mappings) ≡ without_mapping handle (but_for_copies mappings)
        → but_for_copies (cond b (m ∷ without_mapping handle mappings) (without_mapping handle mappings))
        ≡ cond b (record m { copy = [] } ∷ without_mapping handle (but_for_copies mappings)) (without_mapping handle (but_for_copies mappings))
    by_test true rest = ap (λ ms. record m { copy = [] } ∷ ms) rest
    by_test false rest = rest

then-uncopied : (action : Action) (answer : Answer) (mappings : List Mapping) → but_for_copies (mappings_then mappings action answer) ≡ mappings_then (but_for_copies mappings) action answer
then-uncopied (Map name span kind) answer mappings = by_handle (handle_in answer)
  where
    by_handle : (o : Option ℕ) → but_for_copies (with_told mappings name span kind o) ≡ with_told (but_for_copies mappings) name span kind o
    by_handle None = refl
    by_handle (Some handle) = map-append (λ (m : Mapping). record m { copy = [] }) mappings (mapping_told handle name span kind ∷ [])
then-uncopied (Unmap handle) answer mappings = by_test (is_done answer)
  where
    by_test : (b : Bool) → but_for_copies (if b then without_mapping handle mappings else mappings) ≡ (if b then without_mapping handle (but_for_copies mappings) else but_for_copies mappings)
    by_test true = without-uncopied handle mappings
    by_test false = refl
then-uncopied (Restart choice) answer mappings = by_test (is_mounted answer || is_begun answer)
  where
    by_test : (b : Bool) → but_for_copies (if b then [] else mappings) ≡ (if b then [] else but_for_copies mappings)
    by_test true = refl
    by_test false = refl
then-uncopied Recover answer mappings = by_test (is_mounted answer)
  where
    by_test : (b : Bool) → but_for_copies (if b then [] else mappings) ≡ (if b then [] else but_for_copies mappings)
    by_test true = refl
    by_test false = refl
then-uncopied action answer mappings = refl

pub alike_then : (action : Action) (answer : Answer) (one other : List Mapping) → AreAlike one other → AreAlike (mappings_then one action answer) (mappings_then other action answer)
alike_then action answer one other alike =
    then-uncopied action answer one ∙ ap (λ ms. mappings_then ms action answer) alike ∙ sym (then-uncopied action answer other)

-- a store in a copy
recopied-alike : (handle : ℕ) (f : List ℕ → List ℕ) (mappings : List Mapping) → AreAlike (change_copy handle f mappings) mappings
recopied-alike handle f [] = refl
recopied-alike handle f (m ∷ mappings) = ap (λ ms. record m { copy = [] } ∷ ms) (recopied-alike handle f mappings)

-- what a command that is not refused comes to has the mappings that its answer tells; one that was stopped leaves them
abbrev Maps : Machine → Action → Fate → Type 0
Maps h action (Gives good to) = AreAlike to.mappings (mappings_then h.mappings action good) × ((by : Interruption) → mappings_then h.mappings action (interrupted_answer by) ≡ h.mappings)
Maps h action (Works good to) = AreAlike to.mappings (mappings_then h.mappings action good) × ((by : Interruption) → mappings_then h.mappings action (interrupted_answer by) ≡ h.mappings)
Maps h action (Orders order to) = AreAlike to.mappings (mappings_then h.mappings action Done)
Maps h action (Cuts to) = AreAlike to.mappings (mappings_then h.mappings action Done)
Maps h action (Restarts choice) = action ≡ Restart choice
Maps h action Recovers = action ≡ Recover

maps : (h : Machine) (action : Action) → Maps h action ((meaning action).comes h)
maps h (Map name span kind) = of_map (Maps h (Map name span kind)) h name span kind (made, stops) (made, stops)
  where
    made : AreAlike (with_mapping name span kind h).mappings (with_told h.mappings name span kind (Some h.next_handle))
    made =
        map-append (λ (m : Mapping). record m { copy = [] }) h.mappings (new_mapping h.next_handle name span kind (pages_named name h.files) ∷ [])
        ∙ sym (map-append (λ (m : Mapping). record m { copy = [] }) h.mappings (mapping_told h.next_handle name span kind ∷ []))

    stops : (by : Interruption) → with_told h.mappings name span kind (handle_in (interrupted_answer by)) ≡ h.mappings
    stops Failed = refl
    stops Lost = refl
maps h (Unmap handle) = (refl, stops)
  where
    stops : (by : Interruption) → mappings_then h.mappings (Unmap handle) (interrupted_answer by) ≡ h.mappings
    stops Failed = refl
    stops Lost = refl
maps h (Load handle offset len) = of_load (Maps h (Load handle offset len)) h handle offset len (refl, λ by. refl) (λ name place. (refl, λ by. refl)) (λ m. (refl, λ by. refl))
maps h (Store handle offset bytes) =
    of_store (Maps h (Store handle offset bytes)) h handle offset bytes (refl, λ by. refl) (λ name place. (refl, λ by. refl)) (recopied-alike handle (overwritten offset bytes) h.mappings, λ by. refl)
maps h (Sync handle offset len) =
    of_flush (Maps h (Sync handle offset len)) h Once handle (record { start = offset; len = len } ∷ []) (refl, λ by. refl) (λ name moved. (refl, λ by. refl))
maps h (Flush handle spans) = of_flush (Maps h (Flush handle spans)) h Once handle spans (refl, λ by. refl) (λ name moved. (refl, λ by. refl))
maps h (FlushVerify handle spans) = of_flush (Maps h (FlushVerify handle spans)) h Again handle spans (refl, λ by. refl) (λ name moved. (refl, λ by. refl))
maps h (DeepFlush handle spans) = of_flush (Maps h (DeepFlush handle spans)) h Once handle spans (refl, λ by. refl) (λ name moved. (refl, λ by. refl))
maps h Cut = refl
maps h (CutIn calls) = refl
maps h (FailIn calls) = refl
maps h (Evict lines) = refl
maps h (Restart choice) = refl
maps h Recover = refl
maps h action = (refl, λ by. refl)

-- a refusal leaves them
no_handle : (answer : Answer) → is_refused answer ≡ true → handle_in answer ≡ None
no_handle (Handle n) is = cc is
no_handle answer is = refl

pub not_begun : (answer : Answer) → is_refused answer ≡ true → is_begun answer ≡ false
not_begun Done is = cc is
not_begun (VerifyFile name offset) is = cc is
not_begun DeviceFailed is = cc is
not_begun PowerLost is = cc is
not_begun answer is = refl

not_mounted : (answer : Answer) → is_refused answer ≡ true → is_mounted answer ≡ false
not_mounted (DoneBad n) is = cc is
not_mounted (Stopped line) is = cc is
not_mounted answer is = refl

refused-then : (mappings : List Mapping) (action : Action) (answer : Answer) → is_refused answer ≡ true → mappings_then mappings action answer ≡ mappings
refused-then mappings (Map name span kind) answer is = ap (with_told mappings name span kind) (no_handle answer is)
refused-then mappings (Unmap handle) answer is =
    ap (λ b. if b && is_none (stop_in answer) then without_mapping handle mappings else mappings) (not_begun answer is)
refused-then mappings (Restart choice) answer is =
    ap (λ b. if b || is_begun answer then [] else mappings) (not_mounted answer is) ∙ ap (λ b. if false || b then [] else mappings) (not_begun answer is)
refused-then mappings Recover answer is = ap (λ b. if b then [] else mappings) (not_mounted answer is)
refused-then mappings action answer is = refl

-- a mount takes all
mounted : (bad : List ℕ) (h : Machine) → is_mounted (answer_with bad h) ≡ true
mounted [] h = refl
mounted (line ∷ lines) h = refl

pub read-unmapped : (geo : Geometry) (image : Image) → (reading geo image).mappings ≡ []
unfolding reading
read-unmapped geo image = by_list (bad_metadata geo image.is_bad)
  where
    by_list : (bad : List ℕ) → (read_with bad geo image).mappings ≡ []
    by_list [] = refl
    by_list (line ∷ lines) = refl

pub recovered-unmapped : (h next : Machine) (bad : List ℕ) → RecoversTo bad h next → next.mappings ≡ []
recovered-unmapped h next [] to = ap (λ m. m.mappings) to.state
recovered-unmapped h next (line ∷ lines) to = ap (λ m. m.mappings) to

restart-takes : (mappings : List Mapping) (choice : Choice) (answer : Answer) → (is_mounted answer ≡ true) ⊎ (is_begun answer ≡ true) → mappings_then mappings (Restart choice) answer ≡ []
restart-takes mappings choice answer (inl is) = ap (λ b. if b || is_begun answer then [] else mappings) is
restart-takes mappings choice answer (inr is) = by_test (is_mounted answer) is
  where
    by_test : (b : Bool) → is_begun answer ≡ true → (if b || is_begun answer then [] else mappings) ≡ []
    by_test true begun = refl
    by_test false begun = ap (λ b. if b then [] else mappings) begun

stop_unmounted : (by : Interruption) → is_mounted (interrupted_answer by) ≡ false
stop_unmounted Failed = refl
stop_unmounted Lost = refl

stop_was_begun : (by : Interruption) → is_begun (interrupted_answer by) ≡ true
stop_was_begun Failed = refl
stop_was_begun Lost = refl

-- what was answered, and the mappings that it tells
pub record Told (h : Machine) (action : Action) (said : Transcript) (next : Machine) : Type 0 where
  pub answer : Answer
  pub answers : said.answers ≡ answer ∷ []
  pub mappings : AreAlike next.mappings (mappings_then h.mappings action answer)

told_by_fate : (h : Machine) (action : Action) (f : Fate) (said : Transcript) (next : Machine) → Maps h action f → Takes h action f said next → Told h action said next
told_by_fate h action (Gives good to) said next of takes =
    record { answer = good; answers = ap (λ s. s.answers) takes.0; mappings = ap (λ (m : Machine). but_for_copies m.mappings) takes.1 ∙ of.0 }
told_by_fate h action (Works good to) said next of takes = record {
  answer = takes.0;
  answers = ap (λ s. s.answers) takes.1;
  mappings = elim takes.2 as (λ _. AreAlike next.mappings (mappings_then h.mappings action takes.0)) [
    | inl end ↦ ap (λ (m : Machine). but_for_copies m.mappings) end.1 ∙ of.0 ∙ ap (λ a. but_for_copies (mappings_then h.mappings action a)) (sym end.0)
    | inr end ↦ ap (λ (m : Machine). but_for_copies m.mappings) end.2.state ∙ sym (ap but_for_copies (ap (mappings_then h.mappings action) end.1 ∙ of.1 end.0))
  ];
}
told_by_fate h action (Orders order to) said next of takes =
    record { answer = Done; answers = ap (λ s. s.answers) takes.0; mappings = ap (λ (m : Machine). but_for_copies m.mappings) takes.1 ∙ of }
told_by_fate h action (Cuts to) said next of takes =
    record { answer = Done; answers = ap (λ s. s.answers) takes.0; mappings = ap (λ (m : Machine). but_for_copies m.mappings) takes.1 ∙ of }
told_by_fate h action (Restarts choice) said next of takes =
    let none : next.mappings ≡ [] = elim takes.5 as (λ _. next.mappings ≡ []) [
      | inl end ↦ ap (λ m. m.mappings) end.1 ∙ read-unmapped h.geometry takes.0.image
      | inr end ↦ ap (λ m. m.mappings) end.2.state ∙ read-unmapped h.geometry takes.0.image
    ] in
    let all = elim takes.5 as (λ _. (is_mounted takes.1 ≡ true) ⊎ (is_begun takes.1 ≡ true)) [
      | inl end ↦ inl (ap is_mounted end.0 ∙ mounted (restarted h takes.0.image).bad_meta (restarted h takes.0.image))
      | inr end ↦ inr (ap is_begun end.1 ∙ stop_was_begun end.0)
    ] in
    record {
      answer = takes.1;
      answers = ap (λ s. s.answers) takes.2;
      mappings = ap but_for_copies (none ∙ sym (ap (λ a. mappings_then h.mappings a takes.1) of ∙ restart-takes h.mappings choice takes.1 all));
    }
told_by_fate h action Recovers said next of takes = record {
  answer = takes.0;
  answers = ap (λ s. s.answers) takes.1;
  mappings = elim takes.2 as (λ _. AreAlike next.mappings (mappings_then h.mappings action takes.0)) [
    | inl end ↦ ap but_for_copies (recovered-unmapped h next h.bad_meta end.1
        ∙ sym (ap (λ a. mappings_then h.mappings a takes.0) of ∙ ap (λ b. if b then [] else h.mappings) (ap is_mounted end.0 ∙ mounted next.bad_meta next)))
    | inr end ↦ ap (λ (m : Machine). but_for_copies m.mappings) end.2.state
        ∙ sym (ap but_for_copies (ap (λ a. mappings_then h.mappings a takes.0) of ∙ ap (λ b. if b then [] else h.mappings) (ap is_mounted end.1 ∙ stop_unmounted end.0)))
  ];
}

told_by : (h : Machine) (action : Action) (said : Transcript) (next : Machine) → Takes h action (fate h action) said next → Told h action said next
told_by h action said next = by_refusal (refusal h action) refl
  where
    by_refusal : (o : Option Answer) → refusal h action ≡ o → Takes h action (unless_refused h o ((meaning action).comes h)) said next → Told h action said next
    by_refusal None is takes = told_by_fate h action ((meaning action).comes h) said next (maps h action) takes
    by_refusal (Some answer) is takes = record {
      answer = answer;
      answers = ap (λ s. s.answers) takes.0;
      mappings = ap (λ (m : Machine). but_for_copies m.mappings) takes.1 ∙ sym (ap but_for_copies (refused-then h.mappings action answer (refused_told h action answer is)));
    }

-- so of one answer that is known
pub mappings-heard : (h next : Machine) (action : Action) (said : Transcript) (answer : Answer) → said.answers ≡ answer ∷ [] → Hears h (Asked action) said next
    → AreAlike next.mappings (mappings_then h.mappings action answer)
mappings-heard h next action said answer is heard =
    let told = told_by h action said next heard in
    let same : told.answer ≡ answer = cc (told.answers, is) in
    told.mappings ∙ ap (λ a. but_for_copies (mappings_then h.mappings action a)) same

-- and of a run
mappings-run : (h later : Machine) (mappings : List Mapping) (inputs : List Input) (said : Transcript) → AreAlike h.mappings mappings → Run h inputs said later
    → AreAlike later.mappings (mappings_after mappings (exchanges inputs said.answers))
mappings-run h later mappings [] said alike run = ap (λ (m : Machine). but_for_copies m.mappings) run.1 ∙ alike
mappings-run h later mappings (Skipped ∷ inputs) said alike run =
    mappings-run run.2 later mappings inputs run.1 (ap (λ (m : Machine). but_for_copies m.mappings) run.4.1 ∙ alike) run.5
    ∙ sym (ap (λ (s : Transcript). but_for_copies (mappings_after mappings (exchanges inputs s.answers))) run.3
    ∙ ap (λ (s : Transcript). but_for_copies (mappings_after mappings (exchanges inputs (s.answers ++ run.1.answers)))) run.4.0)
mappings-run h later mappings (Malformed ∷ inputs) said alike run =
    mappings-run run.2 later mappings inputs run.1 (ap (λ (m : Machine). but_for_copies m.mappings) run.4.1 ∙ alike) run.5
    ∙ sym (ap (λ (s : Transcript). but_for_copies (mappings_after mappings (exchanges (Malformed ∷ inputs) s.answers))) run.3
    ∙ ap (λ (s : Transcript). but_for_copies (mappings_after mappings (exchanges (Malformed ∷ inputs) (s.answers ++ run.1.answers)))) run.4.0)
mappings-run h later mappings (Overlong ∷ inputs) said alike run =
    mappings-run run.2 later mappings inputs run.1 (ap (λ (m : Machine). but_for_copies m.mappings) run.4.1 ∙ alike) run.5
    ∙ sym (ap (λ (s : Transcript). but_for_copies (mappings_after mappings (exchanges (Overlong ∷ inputs) s.answers))) run.3
    ∙ ap (λ (s : Transcript). but_for_copies (mappings_after mappings (exchanges (Overlong ∷ inputs) (s.answers ++ run.1.answers)))) run.4.0)
mappings-run h later mappings (Asked action ∷ inputs) said alike run =
    let told = told_by h action run.0 run.2 run.4 in
    mappings-run run.2 later (mappings_then mappings action told.answer) inputs run.1 (told.mappings ∙ alike_then action told.answer h.mappings mappings alike) run.5
    ∙ sym (ap (λ (s : Transcript). but_for_copies (mappings_after mappings (exchanges (Asked action ∷ inputs) s.answers))) run.3
    ∙ ap (λ answers. but_for_copies (mappings_after mappings (exchanges (Asked action ∷ inputs) (answers ++ run.1.answers)))) told.answers)

pub mapped_as_told : (h later : Machine) (inputs : List Input) (said : Transcript) → Run h inputs said later
    → but_for_copies later.mappings ≡ but_for_copies (mappings_after h.mappings (exchanges inputs said.answers))
mapped_as_told h later inputs said run = mappings-run h later h.mappings inputs said refl run

-- copies have no bytes then
pub once : (mappings : List Mapping) → AreAlike mappings (but_for_copies mappings)
once [] = refl
once (m ∷ mappings) = ap (λ ms. record m { copy = [] } ∷ ms) (once mappings)

-- the commands of a script that were begun, with mappings that have copies too
abbrev pub begun_on : List Mapping → List Input → List Answer → List Begun
begun_on mappings inputs answers = all_begun mappings (exchanges inputs answers)

-- what none of the commands that were begun does the first one does not, and none of the rest
first-begun : (does : Begun → Bool) (begun : Bool) (one : Begun) (rest : List Begun) → NoneBegun does ((if begun then one ∷ [] else []) ++ rest)
    → (begun ≡ true → does one ≡ false) × NoneBegun does rest
first-begun does true one rest none = let parts = or_parts (does one) (list_any does rest) none in (λ is. parts.0, parts.1)
first-begun does false one rest none = (λ is. cc is, none)

pub none-asked : (does : Begun → Bool) (mappings : List Mapping) (action : Action) (inputs : List Input) (first : Transcript) (answer : Answer) (answers : List Answer)
    → first.answers ≡ answer ∷ [] → NoneBegun does (begun_on mappings (Asked action ∷ inputs) (first.answers ++ answers))
    → (is_begun answer ≡ true → does (record { action = action; mappings = mappings }) ≡ false) × NoneBegun does (begun_on (mappings_then mappings action answer) inputs answers)
none-asked does mappings action inputs first answer answers is none =
    first-begun does (is_begun answer) (record { action = action; mappings = mappings }) (begun_on (mappings_then mappings action answer) inputs answers)
    (subst (λ s. NoneBegun does (begun_on mappings (Asked action ∷ inputs) (s ++ answers))) is none)
