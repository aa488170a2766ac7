-- What an answer tells of what came of a command.
use Rattle.std.proofs.Common.{◌≡◌, inl, inr, if◌then◌else◌, ℕ, ◌+◌, Bool, true, false, Option, Some, None, List, [], ◌∷◌, IsTrue, refl, sym, ap, ◌∙◌}
use Rattle.nvm_base.specs.declared.files.Kind.{Kind}
use Rattle.nvm_base.specs.declared.units.Span.{Span}
use Rattle.line_device.specs.Device.{Device}
use Rattle.line_words.specs.declared.interruption.Interruption.{Interruption}
use Rattle.line_words.specs.declared.interruption.Interruption.TheVariants.{Failed, PowerLost as Lost}
use Rattle.nvm_model.specs.Blocks.{is_there, nth}
use Rattle.nvm_model.specs.Mappings.{is_shared, mapping_of}
use Rattle.nvm_model.specs.Storage.{Event, Mapping}
use Rattle.attributes.specs.Attributes.{attribute}
use Rattle.reply_text.specs.Answer.{Answer}
use Rattle.reply_text.specs.Answer.Answer.{Done as Right, DoneBad, Bytes, Ranges, Files, Yes, No, Handle, Happened, NoEvent, BadLines, Attribute, Scarred, PoisonBlock as PoisonedBlock, PoisonVolume as PoisonedVolume, PoisonFile as PoisonedFile, VerifyFile, DeviceFailed, PowerLost, Stopped as MountStopped, Refused as IsRefused, RefusedMeta}
use Rattle.script_text.specs.Action.{Action}
use Rattle.script_text.specs.Action.Action.{BRead, BWrite, BAtomic, BMulti, BDiscard, BDiscardIf, BExists, BScar, VLoad, VStore, VSync, VRanges, VPSync, VDiscard, VDiscardIf, VExists, Create, Delete, Rename, Resize, ListFiles, FRead, FWrite, FAtomic, FMulti, FDiscard, FSync, Map, Unmap, Load, Store, Sync, Flush, FlushVerify, DeepFlush, NextEvent, CheckFile, PoisonBlock, PoisonVolume, PoisonFile, PoisonMeta, WeakenFile, WeakenVolume, ClearFile, ClearVolume, Cut, CutIn, FailIn, Restart, Recover, Attr, Evict}
use Rattle.cut_places.specs.MachineModel.declared.look.Look.{Look}
use Rattle.cut_places.specs.MachineModel.declared.look.Look.TheVariants.{Once, Again}
use Rattle.cut_places.specs.MachineModel.Machine.{Machine, Fate}
use Rattle.cut_places.specs.MachineModel.Machine.Fate.{Gives, Works, Orders, Cuts, Restarts, Recovers}
use Rattle.cut_places.specs.MachineModel.Commands.{fate, meaning, refusal, unless_refused, while_interrupted}
use Rattle.cut_places.specs.MachineModel.Interrupted.{interrupted_answer}
use Rattle.cut_places.specs.MachineModel.Meaning.{Meaning, mode_refusal}
use Rattle.cut_places.specs.MachineModel.OnAttributes.{told_value, unknown}
use Rattle.cut_places.specs.MachineModel.OnEvents.{told_event}
use Rattle.cut_places.specs.MachineModel.OnFlushes.{all_moved, flush_file, flush_through, nothing_done, second_look}
use Rattle.cut_places.specs.MachineModel.OnMappings.{load_through, read_copy, store_through, with_mapping, write_copy}
use Rattle.cut_places.specs.MachineModel.OnPages.{fread, fwrite}
use Rattle.cut_places.specs.MachineModel.Run.{Ends, Takes, Transcript}
use Rattle.machine_host.specs.Stands.{Comes, HostState}
use Rattle.cut_places.proofs.Durable.RefusalLemmas.{refused_told}
use Rattle.cut_places.proofs.Durable.RefusedAnswerLemmas.{is_refused}
use Rattle.cut_places.specs.Outcomes.Stops.{is_of_program, led_to}
use Rattle.explorer.specs.declared.came.Came.TheVariants.{Done, Refused, Stopped}
use Rattle.explorer.specs.Coming.{came_of}
use Rattle.cut_places.proofs.SightsSeen.VolumeChangeLemmas.{none_first, none_second}

refused_came : (answer : Answer) → is_refused answer ≡ true → came_of answer ≡ Refused
refused_came Right is = cc is
refused_came (DoneBad n) is = cc is
refused_came (Bytes bytes) is = cc is
refused_came (Ranges ranges) is = cc is
refused_came (Files files) is = cc is
refused_came Yes is = cc is
refused_came No is = cc is
refused_came (Handle n) is = cc is
refused_came (Happened event) is = cc is
refused_came NoEvent is = cc is
refused_came (BadLines offsets) is = cc is
refused_came (Attribute n) is = cc is
refused_came (Scarred block) is = refl
refused_came (PoisonedBlock block line) is = refl
refused_came (PoisonedVolume offset) is = refl
refused_came (PoisonedFile name offset) is = refl
refused_came (VerifyFile name offset) is = cc is
refused_came DeviceFailed is = cc is
refused_came PowerLost is = cc is
refused_came (MountStopped line) is = cc is
refused_came (IsRefused why) is = refl
refused_came (RefusedMeta line) is = refl

stop_came : (by : Interruption) → came_of (interrupted_answer by) ≡ Stopped
stop_came Failed = refl
stop_came Lost = refl

-- what comes of it is answered as done
abbrev AnswersDone : Fate → Type 0
AnswersDone (Gives answer to) = came_of answer ≡ Done
AnswersDone (Works answer to) = came_of answer ≡ Done
AnswersDone (Orders order to) = Unit {0}
AnswersDone (Cuts to) = ⊥
AnswersDone (Restarts choice) = ⊥
AnswersDone Recovers = ⊥

yes_done : (b : Bool) → came_of (if b then Yes else No) ≡ Done
yes_done true = refl
yes_done false = refl

event_done : (events : List Event) → came_of (told_event events) ≡ Done
event_done [] = refl
event_done (event ∷ events) = refl

look_done : (look : Look) (name : List ℕ) (lost : Option ℕ) → came_of (second_look look name lost) ≡ Done
look_done Once name lost = refl
look_done Again name None = refl
look_done Again name (Some n) = refl

module _ (h : Machine) where
  by_handle : (handle : ℕ) (of : Mapping → Meaning) → ((m : Mapping) → AnswersDone ((of m).comes h))
      → AnswersDone (elim (mapping_of handle h.mappings) [ None ↦ Gives Right h | Some m ↦ (of m).comes h ])
  by_handle handle of each = by_found (mapping_of handle h.mappings)
    where
      by_found : (o : Option Mapping) → AnswersDone (elim o [ None ↦ Gives Right h | Some m ↦ (of m).comes h ])
      by_found None = refl
      by_found (Some m) = each m

  load_done : (offset len : ℕ) (m : Mapping) → AnswersDone ((load_through offset len m).comes h)
  load_done offset len m = by_kind (is_shared m.kind)
    where
      by_kind : (shared : Bool) → AnswersDone ((if shared then fread m.name (m.start + offset) len else read_copy m offset len).comes h)
      by_kind true = refl
      by_kind false = refl

  store_done : (handle offset : ℕ) (bytes : List ℕ) (m : Mapping) → AnswersDone ((store_through handle offset bytes m).comes h)
  store_done handle offset bytes m = by_kind (is_shared m.kind)
    where
      by_kind : (shared : Bool) → AnswersDone ((if shared then fwrite m.name (m.start + offset) bytes else write_copy handle offset bytes).comes h)
      by_kind true = refl
      by_kind false = refl

  flush_done : (look : Look) (spans : List Span) (m : Mapping) → AnswersDone ((flush_through look spans m).comes h)
  flush_done look spans m = by_kind (is_shared m.kind)
    where
      by_kind : (shared : Bool) → AnswersDone ((if shared then flush_file look m.name (all_moved m.start spans) else nothing_done).comes h)
      by_kind true = look_done look m.name _
      by_kind false = refl

  map_done : (name : List ℕ) (span : Span) (kind : Kind)
      → AnswersDone (if is_shared kind then Gives (Handle h.next_handle) (with_mapping name span kind h) else Works (Handle h.next_handle) (with_mapping name span kind h))
  map_done name span kind = by_kind (is_shared kind)
    where
      by_kind : (shared : Bool)
          → AnswersDone (if shared then Gives (Handle h.next_handle) (with_mapping name span kind h) else Works (Handle h.next_handle) (with_mapping name span kind h))
      by_kind true = refl
      by_kind false = refl

  -- an attribute that the table has
  known_done : (name : List ℕ) → refusal h (Attr name) ≡ None → came_of (told_value (attribute name h.geometry h.unit)) ≡ Done
  unfolding refusal
  known_done name allowed = by_value (attribute name h.geometry h.unit) (none_first (unknown (attribute name h.geometry h.unit)) _ (none_second (mode_refusal h.mode h.bad_meta (meaning (Attr name)).needs) _ allowed))
    where
      by_value : (o : Option ℕ) → unknown o ≡ None → came_of (told_value o) ≡ Done
      by_value None is = cc is
      by_value (Some value) is = refl

  answers_done : (action : Action) → IsTrue (is_of_program action) → refusal h action ≡ None → AnswersDone ((meaning action).comes h)
  answers_done (BRead block count) is allowed = refl
  answers_done (BWrite block bytes) is allowed = refl
  answers_done (BAtomic block bytes) is allowed = refl
  answers_done (BMulti ranges bytes) is allowed = refl
  answers_done (BDiscard block count) is allowed = refl
  answers_done (BDiscardIf block count) is allowed = refl
  answers_done (BExists block) is allowed = yes_done (is_there (nth h.blocks block))
  answers_done (BScar ranges) is allowed = refl
  answers_done (VLoad offset len) is allowed = refl
  answers_done (VStore offset bytes) is allowed = refl
  answers_done (VSync offset len) is allowed = refl
  answers_done VRanges is allowed = refl
  answers_done (VPSync address len) is allowed = refl
  answers_done (VDiscard page count) is allowed = refl
  answers_done (VDiscardIf page count) is allowed = refl
  answers_done (VExists page) is allowed = yes_done _
  answers_done (Create name pages) is allowed = refl
  answers_done (Delete name) is allowed = refl
  answers_done (Rename name to) is allowed = refl
  answers_done (Resize name pages) is allowed = refl
  answers_done ListFiles is allowed = refl
  answers_done (FRead name offset len) is allowed = refl
  answers_done (FWrite name offset bytes) is allowed = refl
  answers_done (FAtomic name offset bytes) is allowed = refl
  answers_done (FMulti name ranges bytes) is allowed = refl
  answers_done (FDiscard name page count) is allowed = refl
  answers_done (FSync name) is allowed = refl
  answers_done (Map name span kind) is allowed = map_done name span kind
  answers_done (Unmap handle) is allowed = refl
  answers_done (Load handle offset len) is allowed = by_handle handle (load_through offset len) (load_done offset len)
  answers_done (Store handle offset bytes) is allowed = by_handle handle (store_through handle offset bytes) (store_done handle offset bytes)
  answers_done (Sync handle offset len) is allowed = by_handle handle (flush_through Once (record { start = offset; len = len } ∷ [])) (flush_done Once (record { start = offset; len = len } ∷ []))
  answers_done (Flush handle spans) is allowed = by_handle handle (flush_through Once spans) (flush_done Once spans)
  answers_done (FlushVerify handle spans) is allowed = by_handle handle (flush_through Again spans) (flush_done Again spans)
  answers_done (DeepFlush handle spans) is allowed = by_handle handle (flush_through Once spans) (flush_done Once spans)
  answers_done NextEvent is allowed = event_done h.events
  answers_done (CheckFile name offset len) is allowed = refl
  answers_done (PoisonBlock block line) is allowed = refl
  answers_done (PoisonVolume offset) is allowed = refl
  answers_done (PoisonFile name offset) is allowed = refl
  answers_done (PoisonMeta line) is allowed = cc is
  answers_done (WeakenFile name offset) is allowed = refl
  answers_done (WeakenVolume offset) is allowed = refl
  answers_done (ClearFile name offset) is allowed = refl
  answers_done (ClearVolume offset) is allowed = refl
  answers_done Cut is allowed = cc is
  answers_done (CutIn calls) is allowed = tt
  answers_done (FailIn calls) is allowed = cc is
  answers_done (Restart choice) is allowed = cc is
  answers_done Recover is allowed = cc is
  answers_done (Attr name) is allowed = known_done name allowed
  answers_done (Evict lines) is allowed = tt

-- what came of a command, as its answer tells
pub data CameTo (h : Machine) (action : Action) (answer : Answer) (next : Machine) : Type 0 where
  refused : came_of answer ≡ Refused → refusal h action ≡ Some answer → next ≡ h → CameTo h action answer next
  done : came_of answer ≡ Done → refusal h action ≡ None → next ≡ led_to h ((meaning action).comes h) → CameTo h action answer next
  stopped : (by : Interruption) → answer ≡ interrupted_answer by → CameTo h action answer next

same_answer : (a b : Answer) → a ∷ [] ≡ b ∷ [] → a ≡ b
same_answer a b is = cc is

pub came_to : (host : HostState) (h : Machine) (action : Action) (answer : Answer) (old new : Device) → IsTrue (is_of_program action)
    → (comes : Comes h action (fate h action) answer host old new) → CameTo h action answer comes.next
came_to host h action answer old new program comes = by_refusal (refusal h action) refl comes.takes
  where
    told : (given : Answer) → comes.said.answers ≡ given ∷ [] → answer ≡ given
    told given is = same_answer answer given (sym comes.answers ∙ is)

    by_fate : (to : Fate) → (meaning action).comes h ≡ to → refusal h action ≡ None → AnswersDone to → Takes h action to comes.said comes.next → CameTo h action answer comes.next
    by_fate (Gives good to) is allowed answers took =
        done (ap came_of (told good (ap (λ (t : Transcript). t.answers) took.0)) ∙ answers) allowed (took.1 ∙ sym (ap (led_to h) is))
    by_fate (Works good to) is allowed answers took = by_end took.2
      where
        given : answer ≡ took.0
        given = told took.0 (ap (λ (t : Transcript). t.answers) took.1)

        by_end : Ends good to (while_interrupted h action) took.0 comes.next → CameTo h action answer comes.next
        by_end (inl end) = done (ap came_of (given ∙ end.0) ∙ answers) allowed (end.1 ∙ sym (ap (led_to h) is))
        by_end (inr end) = stopped end.0 (given ∙ end.1)
    by_fate (Orders order to) is allowed answers took =
        done (ap came_of (told Right (ap (λ (t : Transcript). t.answers) took.0))) allowed (took.1 ∙ sym (ap (led_to h) is))
    by_fate (Cuts to) is allowed answers took = absurd answers
    by_fate (Restarts choice) is allowed answers took = absurd answers
    by_fate Recovers is allowed answers took = absurd answers

    by_refusal : (o : Option Answer) → refusal h action ≡ o → Takes h action (unless_refused h o ((meaning action).comes h)) comes.said comes.next → CameTo h action answer comes.next
    by_refusal (Some why) is took =
        let given = told why (ap (λ (t : Transcript). t.answers) took.0) in
        refused (ap came_of given ∙ refused_came why (refused_told h action why is)) (is ∙ ap Some (sym given)) took.1
    by_refusal None is took = by_fate ((meaning action).comes h) refl is (answers_done h action program is) took

pub was_done : (h : Machine) (action : Action) (answer : Answer) (next : Machine) → CameTo h action answer next → Done ≡ came_of answer
    → (refusal h action ≡ None) × (next ≡ led_to h ((meaning action).comes h))
was_done h action answer next (refused is why same) told = cc (told ∙ is)
was_done h action answer next (done is allowed same) told = (allowed, same)
was_done h action answer next (stopped by is) told = cc (told ∙ ap came_of is ∙ stop_came by)

pub was_refused : (h : Machine) (action : Action) (answer : Answer) (next : Machine) → CameTo h action answer next → Refused ≡ came_of answer
    → (refusal h action ≡ Some answer) × (next ≡ h)
was_refused h action answer next (refused is why same) told = (why, same)
was_refused h action answer next (done is allowed same) told = cc (told ∙ is)
was_refused h action answer next (stopped by is) told = cc (told ∙ ap came_of is ∙ stop_came by)

pub was_stopped : (h : Machine) (action : Action) (answer : Answer) (next : Machine) → CameTo h action answer next → Stopped ≡ came_of answer
    → (by : Interruption) × (answer ≡ interrupted_answer by)
was_stopped h action answer next (refused is why same) told = cc (told ∙ is)
was_stopped h action answer next (done is allowed same) told = cc (told ∙ is)
was_stopped h action answer next (stopped by is) told = (by, is)
