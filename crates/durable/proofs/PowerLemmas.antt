-- The power stays on in a run that cuts it nowhere.
use Rattle.std.proofs.Common.{◌≡◌, inl, inr, ℕ, ◌+◌, Option, Some, None, List, [], ◌∷◌, ◌++◌, refl, sym, ap, subst, ◌∙◌, arith}
use Rattle.std.specs.Prelude.{◌≢◌}
use Rattle.line_device.specs.Panel.{Image}
use Rattle.line_words.specs.declared.interruption.Interruption.{Interruption}
use Rattle.line_words.specs.declared.interruption.Interruption.TheVariants.{Failed, PowerLost as Lost}
use Rattle.word_tables.specs.declared.geometry.Geometry.{Geometry}
use Rattle.reply_text.specs.Answer.{Answer}
use Rattle.script_text.specs.Action.{Action}
use Rattle.script_text.specs.Action.Action.{Cut, DeepFlush, Flush, FlushVerify, Load, Map, Recover, Restart, Store, Sync}
use Rattle.script_text.specs.Script.{Input}
use Rattle.script_text.specs.Script.Input.{Skipped, Malformed, Overlong, Asked}
use Rattle.machine_model.specs.declared.look.Look.TheVariants.{Once, Again}
use Rattle.machine_model.specs.declared.mode.Mode.TheVariants.{Off}
use Rattle.machine_model.specs.Machine.{Machine, Fate}
use Rattle.machine_model.specs.Machine.Fate.{Gives, Works, Orders, Cuts, Restarts, Recovers}
use Rattle.machine_model.specs.Commands.{meaning, refusal, unless_refused}
use Rattle.machine_model.specs.Interrupted.{Interrupts, interrupted_answer}
use Rattle.machine_model.specs.Restarting.{read_with, reading}
use Rattle.machine_model.specs.Recovering.{RecoversTo}
use Rattle.machine_model.specs.Lines.{bad_metadata}
use Rattle.machine_model.specs.Run.{Hears, Takes, Transcript, followed_by}
use Rattle.durable.specs.Durable.{LostNone, StaysPowered}
use Rattle.durable.proofs.HandleLemmas.{of_flush, of_load, of_map, of_store}

-- the parts of a run that stays powered
lost_first : (one other : List Answer) → LostNone (one ++ other) → LostNone one
lost_first [] other none = tt
lost_first (answer ∷ one) other none = (none.0, lost_first one other none.1)

lost_rest : (one other : List Answer) → LostNone (one ++ other) → LostNone other
lost_rest [] other none = none
lost_rest (answer ∷ one) other none = lost_rest one other none.1

pub powered_first : (first rest : Transcript) → StaysPowered (followed_by first rest) → StaysPowered first
powered_first first rest powered =
    let uncut : first.cuts + rest.cuts ≡ 0 = powered.uncut in
    record { uncut = omega (arith, uncut); kept = lost_first first.answers rest.answers powered.kept }

pub powered_rest : (first rest : Transcript) → StaysPowered (followed_by first rest) → StaysPowered rest
powered_rest first rest powered =
    let uncut : first.cuts + rest.cuts ≡ 0 = powered.uncut in
    record { uncut = omega (arith, uncut); kept = lost_rest first.answers rest.answers powered.kept }

-- what comes of a command leaves the mode, or is a cut or a mount
abbrev KeepsMode : Machine → Fate → Type 0
KeepsMode h (Gives good to) = to.mode ≡ h.mode
KeepsMode h (Works good to) = to.mode ≡ h.mode
KeepsMode h (Orders order to) = to.mode ≡ h.mode
KeepsMode h (Cuts to) = Unit {0}
KeepsMode h (Restarts choice) = Unit {0}
KeepsMode h Recovers = Unit {0}

keeps_mode : (h : Machine) (action : Action) → KeepsMode h ((meaning action).comes h)
keeps_mode h Cut = tt
keeps_mode h (Restart choice) = tt
keeps_mode h Recover = tt
keeps_mode h (Map name span kind) = of_map (KeepsMode h) h name span kind refl refl
keeps_mode h (Load handle offset len) = of_load (KeepsMode h) h handle offset len refl (λ name place. refl) (λ m. refl)
keeps_mode h (Store handle offset bytes) = of_store (KeepsMode h) h handle offset bytes refl (λ name place. refl) refl
keeps_mode h (Sync handle offset len) = of_flush (KeepsMode h) h Once handle (record { start = offset; len = len } ∷ []) refl (λ name moved. refl)
keeps_mode h (Flush handle spans) = of_flush (KeepsMode h) h Once handle spans refl (λ name moved. refl)
keeps_mode h (FlushVerify handle spans) = of_flush (KeepsMode h) h Again handle spans refl (λ name moved. refl)
keeps_mode h (DeepFlush handle spans) = of_flush (KeepsMode h) h Once handle spans refl (λ name moved. refl)
keeps_mode h action = refl

-- an interruption that took no power
by_failure : (by : Interruption) (h next : Machine) (answer : Answer) (answers : List Answer) → answers ≡ answer ∷ [] → LostNone answers → answer ≡ interrupted_answer by
    → Interrupts by h next → next.mode ≢ Off
by_failure Failed h next answer answers are none is at off = cc (off, ap (λ m. m.mode) at.state)
by_failure Lost h next answer answers are none is at off = (subst LostNone are none).0 is

read_on : (geo : Geometry) (image : Image) → (reading geo image).mode ≢ Off
unfolding reading
read_on geo image off = by_list (bad_metadata geo image.is_bad) off
  where
    by_list : (bad : List ℕ) → (read_with bad geo image).mode ≡ Off → ⊥
    by_list [] is = cc is
    by_list (line ∷ lines) is = cc is

recovered_on : (h next : Machine) (bad : List ℕ) → RecoversTo bad h next → next.mode ≢ Off
recovered_on h next [] to off = cc (off, ap (λ m. m.mode) to.state)
recovered_on h next (line ∷ lines) to off = cc (off, ap (λ m. m.mode) to)

by_fate : (h : Machine) (action : Action) (f : Fate) (said : Transcript) (next : Machine) → KeepsMode h f → h.mode ≢ Off → StaysPowered said → Takes h action f said next
    → next.mode ≢ Off
by_fate h action (Gives good to) said next same on powered takes off = on (sym (ap (λ m. m.mode) takes.1 ∙ same) ∙ off)
by_fate h action (Works good to) said next same on powered takes off = elim takes.2 as (λ _. ⊥) [
  | inl end ↦ on (sym (ap (λ m. m.mode) end.1 ∙ same) ∙ off)
  | inr end ↦ by_failure end.0 _ next takes.0 said.answers (ap (λ s. s.answers) takes.1) powered.kept end.1 end.2 off
]
by_fate h action (Orders order to) said next same on powered takes off = on (sym (ap (λ m. m.mode) takes.1 ∙ same) ∙ off)
by_fate h action (Cuts to) said next same on powered takes off = let one : said.cuts ≡ 1 = ap (λ s. s.cuts) takes.0 in omega (arith, one, powered.uncut)
by_fate h action (Restarts choice) said next same on powered takes off = elim takes.5 as (λ _. ⊥) [
  | inl end ↦ read_on h.geometry takes.0.image (sym (ap (λ m. m.mode) end.1) ∙ off)
  | inr end ↦ by_failure end.0 _ next takes.1 said.answers (ap (λ s. s.answers) takes.2) powered.kept end.1 end.2 off
]
by_fate h action Recovers said next same on powered takes off = elim takes.2 as (λ _. ⊥) [
  | inl end ↦ recovered_on h next h.bad_meta end.1 off
  | inr end ↦ by_failure end.0 h next takes.0 said.answers (ap (λ s. s.answers) takes.1) powered.kept end.1 end.2 off
]

pub powered_heard : (h next : Machine) (input : Input) (said : Transcript) → h.mode ≢ Off → StaysPowered said → Hears h input said next → next.mode ≢ Off
powered_heard h next Skipped said on powered heard = λ off. on (sym (ap (λ m. m.mode) heard.1) ∙ off)
powered_heard h next Malformed said on powered heard = λ off. on (sym (ap (λ m. m.mode) heard.1) ∙ off)
powered_heard h next Overlong said on powered heard = λ off. on (sym (ap (λ m. m.mode) heard.1) ∙ off)
powered_heard h next (Asked action) said on powered heard = by_refusal (refusal h action) heard
  where
    by_refusal : (o : Option Answer) → Takes h action (unless_refused h o ((meaning action).comes h)) said next → next.mode ≢ Off
    by_refusal None takes = by_fate h action ((meaning action).comes h) said next (keeps_mode h action) on powered takes
    by_refusal (Some answer) takes = λ off. on (sym (ap (λ m. m.mode) takes.1) ∙ off)
