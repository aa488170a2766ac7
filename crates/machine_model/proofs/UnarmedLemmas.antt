-- Where nothing is armed, a run is what the machine performs.
use Rattle.std.proofs.Common.{◌≡◌, ◌≢◌, ◌⊎◌, inl, inr, ℕ, ◌+◌, Bool, true, false, Option, Some, None, List, [], ◌∷◌, IsTrue, refl, sym, ap, subst, ◌∙◌, if◌then◌else◌}
use Rattle.std.proofs.lemmas.Bool.{both_ways}
use Rattle.line_device.specs.Panel.{Image, Start}
use Rattle.line_device.specs.declared.line.Choice.{Choice}
use Rattle.line_words.specs.declared.interruption.Interruption.{Interruption}
use Rattle.line_words.specs.declared.interruption.Interruption.TheVariants.{Failed, PowerLost}
use Rattle.nvm_base.specs.declared.units.Span.{Span}
use Rattle.nvm_model.specs.Mappings.{is_shared, mapping_of}
use Rattle.nvm_model.specs.Storage.{Mapping}
use Rattle.reply_text.specs.Answer.{Answer}
use Rattle.reply_text.specs.Answer.Answer.{Done, Handle, Refused}
use Rattle.reply_text.specs.declared.reply.Why.TheVariants.{Syntax, TooLong}
use Rattle.script_text.specs.Action.{Action}
use Rattle.script_text.specs.Action.Action.{Map, Load, Store, Sync, Flush, FlushVerify, DeepFlush, Cut, CutIn, FailIn, Restart, Recover, Attr}
use Rattle.script_text.specs.Script.{Input}
use Rattle.script_text.specs.Script.Input.{Skipped, Malformed, Overlong, Asked}
use Rattle.machine_model.specs.declared.look.Look.{Look}
use Rattle.machine_model.specs.declared.look.Look.TheVariants.{Once, Again}
use Rattle.machine_model.specs.declared.mode.Mode.{Mode}
use Rattle.machine_model.specs.declared.mode.Mode.TheVariants as modes
use Rattle.machine_model.specs.declared.needs.Needs.TheVariants.{Failed as AfterAFailure}
use Rattle.machine_model.specs.Commands.{fate, meaning, refusal, spending, unless_refused, while_interrupted}
use Rattle.machine_model.specs.Interrupted.{Interrupts, may_come}
use Rattle.machine_model.specs.Lines.{bad_metadata}
use Rattle.machine_model.specs.Machine.{Machine, Fate}
use Rattle.machine_model.specs.Machine.Fate.{Gives, Works, Orders, Cuts, Restarts, Recovers}
use Rattle.machine_model.specs.Meaning.{Reasons, first_reason, mode_refusal}
use Rattle.machine_model.specs.OnFlushes.{all_moved, flush_file, flush_through, flush_with, nothing_done}
use Rattle.machine_model.specs.OnMappings.{load_through, read_copy, store_through, with_mapping, write_copy}
use Rattle.machine_model.specs.OnPages.{fread, fwrite}
use Rattle.machine_model.specs.Performing.{Performance, after, perform}
use Rattle.machine_model.specs.Restarting.{mounted_answer, read_with, reading, restarted}
use Rattle.machine_model.specs.Run.{Ends, Run, Takes, Transcript, answered, followed_by, silence, with_cut, with_order, with_start, worked}
use Rattle.machine_model.specs.Unarmed.{ArmNothing, IsUnarmed, arms_nothing}
use Rattle.machine_model.proofs.RunLemmas.{followed_by-silence, performed}

-- what comes of a command leaves nothing armed, and waits for no recovery
abbrev StaysUnarmed : Machine → Fate → Type 0
StaysUnarmed h (Gives answer to) = IsUnarmed to
StaysUnarmed h (Works answer to) = IsUnarmed to
StaysUnarmed h (Orders order to) = IsUnarmed to
StaysUnarmed h (Cuts to) = IsUnarmed to
StaysUnarmed h (Restarts choice) = (image : Image) → IsUnarmed (restarted h image)
StaysUnarmed h Recovers = ⊥

-- the same things armed, and the same mode
as_before : (h to : Machine) → IsUnarmed h → to.cut_armed ≡ h.cut_armed → to.fail_armed ≡ h.fail_armed → to.mode ≡ h.mode → IsUnarmed to
as_before h to un cut fail mode = record { cut = cut ∙ un.cut; failure = fail ∙ un.failure; settled = λ is. un.settled (sym mode ∙ is) }

-- a mount comes to a host that is on, or stopped
mounted : (h : Machine) (image : Image) → IsUnarmed h → IsUnarmed (restarted h image)
unfolding reading
mounted h image un = by_bad (bad_metadata h.geometry image.is_bad)
  where
    by_bad : (bad : List ℕ) → IsUnarmed (record (read_with bad h.geometry image) { unit = image.unit; cut_armed = h.cut_armed; fail_armed = h.fail_armed })
    by_bad [] = record { cut = un.cut; failure = un.failure; settled = λ is. cc is }
    by_bad (line ∷ lines) = record { cut = un.cut; failure = un.failure; settled = λ is. cc is }

flush_unarmed : (h : Machine) (look : Look) (handle : ℕ) (spans : List Span) → IsUnarmed h → StaysUnarmed h ((flush_with look handle spans).comes h)
flush_unarmed h look handle spans un = by_mapping (mapping_of handle h.mappings)
  where
    by_kind : (m : Mapping) (shared : Bool) → StaysUnarmed h ((if shared then flush_file look m.name (all_moved m.start spans) else nothing_done).comes h)
    by_kind m true = as_before h _ un refl refl refl
    by_kind m false = as_before h h un refl refl refl

    by_mapping : (o : Option Mapping) → StaysUnarmed h (elim o [ None ↦ Gives Done h | Some m ↦ (flush_through look spans m).comes h ])
    by_mapping None = as_before h h un refl refl refl
    by_mapping (Some m) = by_kind m (is_shared m.kind)

-- a command that is not refused, but for a recovery
comes_unarmed : (h : Machine) (action : Action) → IsUnarmed h → IsTrue (arms_nothing action) → action ≢ Recover → StaysUnarmed h ((meaning action).comes h)
comes_unarmed h (Map name span kind) un is other = by_kind (is_shared kind)
  where
    to : Machine
    to = with_mapping name span kind h

    by_kind : (shared : Bool) → StaysUnarmed h (if shared then Gives (Handle h.next_handle) to else Works (Handle h.next_handle) to)
    by_kind true = as_before h to un refl refl refl
    by_kind false = as_before h to un refl refl refl
comes_unarmed h (Load handle offset len) un is other = by_mapping (mapping_of handle h.mappings)
  where
    by_kind : (m : Mapping) (shared : Bool) → StaysUnarmed h ((if shared then fread m.name (m.start + offset) len else read_copy m offset len).comes h)
    by_kind m true = as_before h h un refl refl refl
    by_kind m false = as_before h h un refl refl refl

    by_mapping : (o : Option Mapping) → StaysUnarmed h (elim o [ None ↦ Gives Done h | Some m ↦ (load_through offset len m).comes h ])
    by_mapping None = as_before h h un refl refl refl
    by_mapping (Some m) = by_kind m (is_shared m.kind)
comes_unarmed h (Store handle offset bytes) un is other = by_mapping (mapping_of handle h.mappings)
  where
    by_kind : (m : Mapping) (shared : Bool) → StaysUnarmed h ((if shared then fwrite m.name (m.start + offset) bytes else write_copy handle offset bytes).comes h)
    by_kind m true = as_before h _ un refl refl refl
    by_kind m false = as_before h _ un refl refl refl

    by_mapping : (o : Option Mapping) → StaysUnarmed h (elim o [ None ↦ Gives Done h | Some m ↦ (store_through handle offset bytes m).comes h ])
    by_mapping None = as_before h h un refl refl refl
    by_mapping (Some m) = by_kind m (is_shared m.kind)
comes_unarmed h (Sync handle offset len) un is other = flush_unarmed h Once handle (record { start = offset; len = len } ∷ []) un
comes_unarmed h (Flush handle spans) un is other = flush_unarmed h Once handle spans un
comes_unarmed h (FlushVerify handle spans) un is other = flush_unarmed h Again handle spans un
comes_unarmed h (DeepFlush handle spans) un is other = flush_unarmed h Once handle spans un
comes_unarmed h Cut un is other = record { cut = refl; failure = refl; settled = λ on. cc on }
comes_unarmed h (CutIn calls) un is other = cc is
comes_unarmed h (FailIn calls) un is other = cc is
comes_unarmed h (Restart choice) un is other = λ image. mounted h image un
comes_unarmed h Recover un is other = absurd (other refl)
comes_unarmed h (Attr name) un is other = as_before h h un refl refl refl
comes_unarmed h action un is other = as_before h _ un refl refl refl

-- where none waits for it, a recovery is refused
recover_refused : (h : Machine) → h.mode ≢ modes.Unsettled → (answer : Answer) × (refusal h Recover ≡ Some answer)
unfolding refusal
recover_refused h settled = by_mode h.mode refl
  where
    by_mode : (mode : Mode) → h.mode ≡ mode → (answer : Answer) × (refusal h Recover ≡ Some answer)
    by_mode modes.On is = (_, ap (λ m. first_reason (mode_refusal m h.bad_meta AfterAFailure) h.bad_meta ((meaning Recover).reasons h)) is)
    by_mode modes.Off is = (_, ap (λ m. first_reason (mode_refusal m h.bad_meta AfterAFailure) h.bad_meta ((meaning Recover).reasons h)) is)
    by_mode modes.Unsettled is = absurd (settled is)
    by_mode modes.Stopped is = (_, ap (λ m. first_reason (mode_refusal m h.bad_meta AfterAFailure) h.bad_meta ((meaning Recover).reasons h)) is)

is_recover : (action : Action) → (action ≡ Recover) ⊎ (action ≢ Recover)
is_recover Recover = inl refl
is_recover action = inr (λ is. cc is)

fate_unarmed : (h : Machine) (action : Action) → IsUnarmed h → IsTrue (arms_nothing action) → StaysUnarmed h (fate h action)
fate_unarmed h action un is = by_action (is_recover action)
  where
    by_refusal : action ≢ Recover → (o : Option Answer) → StaysUnarmed h (unless_refused h o ((meaning action).comes h))
    by_refusal other None = comes_unarmed h action un is other
    by_refusal other (Some answer) = un

    by_action : (action ≡ Recover) ⊎ (action ≢ Recover) → StaysUnarmed h (fate h action)
    by_action (inl same) =
        let refused = recover_refused h un.settled in
        subst (λ a. StaysUnarmed h (fate h a)) (sym same) (subst (λ o. StaysUnarmed h (unless_refused h o ((meaning Recover).comes h))) (sym refused.1) un)
    by_action (inr other) = by_refusal other (refusal h action)

-- no interruption comes
none_comes : (h at next : Machine) (by : Interruption) → IsUnarmed h → at.cut_armed ≡ h.cut_armed → at.fail_armed ≡ h.fail_armed → Interrupts by at next → ⊥
none_comes h at next Failed un cut fail came = both_ways at.fail_armed (fail ∙ un.failure) came.armed
none_comes h at next PowerLost un cut fail came = both_ways at.cut_armed (cut ∙ un.cut) came.armed

-- a run of what is said, and where it comes to
abbrev IsPerformed : Machine → List Input → Transcript → Machine → Type 0
IsPerformed h inputs said end = perform h inputs said.starts ≡ record { said = said; state = end }

-- one command, and a run from there on
command_performed : (h : Machine) (action : Action) (inputs : List Input) (f : Fate) (first rest : Transcript) (next end : Machine) → IsUnarmed h → StaysUnarmed h f
    → Takes h action f first next → (IsUnarmed next → IsPerformed next inputs rest end)
    → performed h action f inputs (followed_by first rest).starts ≡ record { said = followed_by first rest; state = end }
command_performed h action inputs (Gives good to) first rest next end un stays takes more =
    let went = subst (λ m. IsPerformed m inputs rest end) takes.1 (more (subst IsUnarmed (sym takes.1) stays)) in
    subst (λ (t : Transcript). after (answered good) (perform to inputs (followed_by t rest).starts) ≡ record { said = followed_by t rest; state = end }) (sym takes.0) (ap (after (answered good)) went)
command_performed h action inputs (Works good to) first rest next end un stays takes more = by_end takes.2
  where
    by_end : Ends good to (while_interrupted h action) takes.0 next
        → after (worked (spending h action) good) (perform to inputs (followed_by first rest).starts) ≡ record { said = followed_by first rest; state = end }
    by_end (inl whole) =
        let went = subst (λ m. IsPerformed m inputs rest end) whole.1 (more (subst IsUnarmed (sym whole.1) stays)) in
        subst (λ (t : Transcript). after (worked (spending h action) good) (perform to inputs (followed_by t rest).starts) ≡ record { said = followed_by t rest; state = end })
        (sym (takes.1 ∙ ap (worked (spending h action)) whole.0)) (ap (after (worked (spending h action) good)) went)
    by_end (inr cut) = absurd (none_comes h (while_interrupted h action) next cut.0 un refl refl cut.2)
command_performed h action inputs (Orders order to) first rest next end un stays takes more =
    let went = subst (λ m. IsPerformed m inputs rest end) takes.1 (more (subst IsUnarmed (sym takes.1) stays)) in
    subst (λ (t : Transcript). after (with_order order Done) (perform to inputs (followed_by t rest).starts) ≡ record { said = followed_by t rest; state = end }) (sym takes.0) (ap (after (with_order order Done)) went)
command_performed h action inputs (Cuts to) first rest next end un stays takes more =
    let went = subst (λ m. IsPerformed m inputs rest end) takes.1 (more (subst IsUnarmed (sym takes.1) stays)) in
    subst (λ (t : Transcript). after (with_cut Done) (perform to inputs (followed_by t rest).starts) ≡ record { said = followed_by t rest; state = end }) (sym takes.0) (ap (after (with_cut Done)) went)
command_performed h action inputs (Restarts choice) first rest next end un stays takes more = by_end takes.5
  where
    to : Machine
    to = restarted h takes.0.image

    said : Transcript
    said = with_start (spending h action) takes.0 (mounted_answer to)

    by_end : Ends (mounted_answer to) to to takes.1 next → performed h action (Restarts choice) inputs (followed_by first rest).starts ≡ record { said = followed_by first rest; state = end }
    by_end (inl whole) =
        let went = subst (λ m. IsPerformed m inputs rest end) whole.1 (more (subst IsUnarmed (sym whole.1) (stays takes.0.image))) in
        subst (λ (t : Transcript). performed h action (Restarts choice) inputs (followed_by t rest).starts ≡ record { said = followed_by t rest; state = end })
        (sym (takes.2 ∙ ap (with_start (spending h action) takes.0) whole.0)) (ap (after said) went)
    by_end (inr cut) = absurd (none_comes h to next cut.0 un refl refl cut.2)
command_performed h action inputs Recovers first rest next end un stays takes more = absurd stays

-- Where nothing is armed, and no line arms anything, a run is what the machine performs, given what each restart left.
pub unarmed_performs : (h : Machine) (inputs : List Input) (said : Transcript) (end : Machine) → IsUnarmed h → ArmNothing inputs → Run h inputs said end → IsPerformed h inputs said end
unarmed_performs h [] said end un arm run = λ i. record { said = sym run.0 i; state = sym run.1 i }
unarmed_performs h (Skipped ∷ inputs) said end un arm run =
    let rest = unarmed_performs h inputs run.1 end un arm (subst (λ m. Run m inputs run.1 end) run.4.1 run.5) in
    subst (λ (t : Transcript). IsPerformed h inputs t end) (sym (run.3 ∙ ap (λ f. followed_by f run.1) run.4.0 ∙ followed_by-silence run.1)) rest
unarmed_performs h (Malformed ∷ inputs) said end un arm run =
    let rest = unarmed_performs h inputs run.1 end un arm (subst (λ m. Run m inputs run.1 end) run.4.1 run.5) in
    subst (λ (t : Transcript). IsPerformed h (Malformed ∷ inputs) t end) (sym (run.3 ∙ ap (λ f. followed_by f run.1) run.4.0)) (ap (after (answered (Refused Syntax))) rest)
unarmed_performs h (Overlong ∷ inputs) said end un arm run =
    let rest = unarmed_performs h inputs run.1 end un arm (subst (λ m. Run m inputs run.1 end) run.4.1 run.5) in
    subst (λ (t : Transcript). IsPerformed h (Overlong ∷ inputs) t end) (sym (run.3 ∙ ap (λ f. followed_by f run.1) run.4.0)) (ap (after (answered (Refused TooLong))) rest)
unarmed_performs h (Asked action ∷ inputs) said end un arm run =
    subst (λ (t : Transcript). IsPerformed h (Asked action ∷ inputs) t end) (sym run.3)
    (command_performed h action inputs (fate h action) run.0 run.1 run.2 end un (fate_unarmed h action un arm.0) run.4 (λ next. unarmed_performs run.2 inputs run.1 end next arm.1 run.5))
