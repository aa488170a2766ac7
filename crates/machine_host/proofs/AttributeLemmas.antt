-- What comes of a question for an attribute: what the table tells of the host's sizes.
use Rattle.std.proofs.Common.{◌≡◌, ◌∙◌, ◌≤◌, ℕ, Option, Some, None, List, refl, sym, ap, ap₂, subst, arith}
use Rattle.line_device.specs.Device.{Device}
use Rattle.attributes.specs.Attributes.{attribute}
use Rattle.script_text.specs.Action.Action.{Attr}
use Rattle.reply_text.specs.Answer.{Answer, IsPrintable}
use Rattle.reply_text.specs.Room.{most_of}
use Rattle.machine_model.specs.Machine.{Machine}
use Rattle.machine_model.specs.Machine.Fate.{Gives}
use Rattle.machine_model.specs.Commands.{fate, refusal, unless_refused}
use Rattle.machine_model.specs.Interrupted.{stop_in}
use Rattle.machine_model.specs.Meaning.{first_reason, no_reasons}
use Rattle.machine_model.specs.OnAttributes.{told_value, unknown}
use Rattle.machine_host.specs.Responding.{Answered}
use Rattle.machine_host.specs.Stands.{HostServes, HostState, Comes}
use Rattle.machine_host.proofs.ExistsLemmas.{same_state}
use Rattle.machine_model.proofs.RefusalLemmas.{always_allowed}
use Rattle.line_device.proofs.WriteBackLemmas.{write_back-refl}
use Rattle.machine_host.specs.Keeping.{Keeps, is_refusal}
use Rattle.machine_host.proofs.KeepLemmas.{left_all}

-- refused or told, by what the table has
by_value : (h : Machine) (o : Option ℕ) → unless_refused h (first_reason None h.bad_meta (record no_reasons { named = unknown o })) (Gives (told_value o) h) ≡ Gives (told_value o) h
by_value h None = refl
by_value h (Some value) = refl

fate_attr : (h : Machine) (name : List ℕ) → fate h (Attr name) ≡ Gives (told_value (attribute name h.geometry h.unit)) h
unfolding refusal
fate_attr h name =
    let o = attribute name h.geometry h.unit in
    ap (λ m. unless_refused h (first_reason m h.bad_meta (record no_reasons { named = unknown o })) (Gives (told_value o) h)) (always_allowed h.mode h.bad_meta) ∙ by_value h o

quiet : (o : Option ℕ) → stop_in (told_value o) ≡ None
quiet None = refl
quiet (Some value) = refl

printable : (o : Option ℕ) → IsPrintable (told_value o)
printable None = tt
printable (Some value) = tt

few : (o : Option ℕ) → most_of (told_value o) ≤ 72
few None = omega arith
few (Some value) = omega arith

keeps_value : (host : HostState) (d : Device) (name : List ℕ) (o : Option ℕ) → Keeps (is_refusal (told_value o)) (Attr name) host host d d
keeps_value host d name None = left_all host d
keeps_value host d name (Some value) = write_back-refl d.medium

pub attr_answered : (host : HostState) (d : Device) (name : List ℕ) (answer : Answer) → HostServes host d → answer ≡ told_value (attribute name host.geometry host.unit) → Answered (Attr name) answer host host d d
attr_answered host d name answer serves is = subst (λ a. Answered (Attr name) a host host d d) (sym is) (record {
  step = λ h stands.
      let o = attribute name host.geometry host.unit in
      let same : fate h (Attr name) ≡ Gives (told_value o) h = fate_attr h name ∙ ap₂ (λ geo unit. Gives (told_value (attribute name geo unit)) h) (sym stands.geometry) (sym stands.unit) in
      subst (λ f. Comes h (Attr name) f (told_value o) host d d) (sym same) (same_state host d h (Attr name) (told_value o) (quiet o) stands);
  keeps = keeps_value host d name (attribute name host.geometry host.unit);
  printable = printable (attribute name host.geometry host.unit);
  room = few (attribute name host.geometry host.unit);
  serves = serves;
})
