-- One line of a script, by what it asks for.
use Rattle.std.proofs.Common.{◌≡◌, ℕ, ◌<◌, List, ◌++◌, length, arith, refl, sym, ap, subst, ◌∙◌, append-nil}
use Rattle.std.proofs.lemmas.Bool.Decides.{nat_tests}
use Rattle.line_device.specs.Device.{Device}
use Rattle.reply_text.specs.declared.reply.Why.{Why}
use Rattle.reply_text.specs.declared.reply.Why.TheVariants.{Syntax, TooLong}
use Rattle.script_text.specs.Action.{Action}
use Rattle.reply_text.specs.Answer.{answer_line, reply_text}
use Rattle.reply_text.specs.Answer.Answer.{Refused}
use Rattle.script_text.specs.Script.{Input, line_input}
use Rattle.script_text.specs.Script.Input.{Skipped, Malformed, Overlong, Asked}
use Rattle.machine_host.specs.Machine.{Machine}
use Rattle.machine_host.specs.Run.{Hears, answered, silence}
use Rattle.machine_host.specs.Stands.{HostState, Stands}
use Rattle.machine_host.specs.Responding.{Steps}
use Rattle.machine_host.proofs.RunLemmas.{tells_silence}
use Rattle.machine_host.proofs.TellingLemmas.{tells_nothing}
use Rattle.host_program.specs.Running.{LineGoes}

pub line_goes-skipped : (h : Machine) (input : Input) (out : List ℕ) (host : HostState) (d : Device) → input ≡ Skipped → Stands host d h → LineGoes h input out out host d d
line_goes-skipped h input out host d is stands = subst (λ i. LineGoes h i out out host d d) (sym is) (record {
  said = silence;
  next = h;
  hears = (refl, refl);
  text = sym (append-nil out);
  tells = tells_silence d.panel;
  stands = stands;
})

-- a line that asks for nothing is refused for a reason, and no more is done
line_goes-refused : (h : Machine) (input : Input) (why : Why) (old new : List ℕ) (host : HostState) (d : Device) → Hears h input (answered (Refused why)) h → Stands host d h
    → new ≡ old ++ answer_line (Refused why) → LineGoes h input old new host d d
line_goes-refused h input why old new host d hears stands line = record {
  said = answered (Refused why);
  next = h;
  hears = hears;
  text = line ∙ ap (λ t. old ++ t) (sym (append-nil (answer_line (Refused why))));
  tells = tells_nothing (Refused why) refl d.panel;
  stands = stands;
}

pub line_goes-malformed : (h : Machine) (input : Input) (old new : List ℕ) (host : HostState) (d : Device) → input ≡ Malformed → Stands host d h
    → new ≡ old ++ answer_line (Refused Syntax) → LineGoes h input old new host d d
line_goes-malformed h input old new host d is =
    subst (λ i. Stands host d h → new ≡ old ++ answer_line (Refused Syntax) → LineGoes h i old new host d d) (sym is) (line_goes-refused h Malformed Syntax old new host d (refl, refl))

pub line_goes-overlong : (h : Machine) (input : Input) (old new : List ℕ) (host : HostState) (d : Device) → input ≡ Overlong → Stands host d h
    → new ≡ old ++ answer_line (Refused TooLong) → LineGoes h input old new host d d
line_goes-overlong h input old new host d is =
    subst (λ i. Stands host d h → new ≡ old ++ answer_line (Refused TooLong) → LineGoes h i old new host d d) (sym is) (line_goes-refused h Overlong TooLong old new host d (refl, refl))

-- a line that is longer than a line may be
pub overlong-line : (line : List ℕ) → 65536 < length line → line_input line ≡ Overlong
unfolding line_input
overlong-line line long = grind (arith, nat_tests)

pub line_goes-asked : (h : Machine) (input : Input) (action : Action) (out out' : List ℕ) (before host : HostState) (old new : Device) → input ≡ Asked action
    → Steps h action out out' before host old new → LineGoes h input out out' host old new
line_goes-asked h input action out out' before host old new is steps = subst (λ i. LineGoes h i out out' host old new) (sym is) (record {
  said = steps.comes.said;
  next = steps.comes.next;
  hears = steps.comes.takes;
  text = steps.line ∙ ap (λ t. out ++ t) (sym (append-nil (answer_line steps.answer)) ∙ ap reply_text (sym steps.comes.answers));
  tells = steps.comes.tells;
  stands = steps.comes.stands;
})
