-- Lines that are performed one after the other, and what a summary counts of their replies.
use Rattle.std.proofs.Common.{◌≡◌, ℕ, List, [], ◌∷◌, ◌++◌, Ok, Err, refl, sym, ap, ap₂, subst, ◌∙◌, append_assoc, append-nil}
use Rattle.line_device.specs.Device.{Device}
use Rattle.reply_text.specs.Answer.{Answer, answer_line, answer_text, reply_text}
use Rattle.script_text.specs.Action.{Action}
use Rattle.script_text.specs.Script.{Input, inputs_of, line_input}
use Rattle.script_text.specs.Script.Input.{Skipped, Malformed, Overlong, Asked}
use Rattle.machine_host.specs.Commands.{fate}
use Rattle.machine_host.specs.Machine.{Machine, Fate}
use Rattle.machine_host.specs.Machine.Fate.{Gives, Works, Orders, Cuts, Restarts, Recovers}
use Rattle.machine_host.specs.Run.{Hears, Run, Takes, Transcript, followed_by, silence}
use Rattle.machine_host.specs.Stands.{HostState, Stands}
use Rattle.machine_host.specs.Telling.{Tells}
use Rattle.machine_host.proofs.RunLemmas.{run_of_one, run_then, tells_silence, tells_then}
use Rattle.workload.specs.Summary.{added}
use Rattle.workload.specs.declared.summary.Summary.{Summary}
use Rattle.host_program.specs.Bench.{AddsReply, PerformsAll, nothing_counted, summed}
use Rattle.host_program.specs.Running.{LineGoes}
use Rattle.host_program.specs.Whole.{GoesUnanswered}
use Rattle.host_program.proofs.GoingLemmas.{inputs_of-append}

-- the lines that were performed, and their summary
pub record CountsSo (first : Machine) (performed : List (List ℕ)) (host : HostState) (summary : Summary) (old now : Device) : Type 0 where
  pub said : Transcript
  pub state : Machine
  pub run : Run first (inputs_of performed) said state
  pub tells : Tells said old.panel now.panel
  pub stands : Stands host now state
  pub sums : (more : List (List ℕ)) (answers : List Answer) → summed nothing_counted (performed ++ more) (said.answers ++ answers) ≡ summed summary more answers

-- some first lines were performed, from the host that was there first; these are left
pub record Counting (all rest : List (List ℕ)) (before host : HostState) (summary : Summary) (old now : Device) : Type 0 where
  pub performed : List (List ℕ)
  pub split : all ≡ performed ++ rest
  pub says : (first : Machine) → Stands before old first → CountsSo first performed host summary old now

pub counting-start : (all : List (List ℕ)) (host : HostState) (d : Device) → Counting all all host host nothing_counted d d
counting-start all host d = record {
  performed = [];
  split = refl;
  says = λ first stands. record {
    said = silence;
    state = first;
    run = (refl, refl);
    tells = tells_silence d.panel;
    stands = stands;
    sums = λ more answers. refl;
  };
}

-- a command has one answer
takes-one : (h : Machine) (action : Action) (fate : Fate) (said : Transcript) (next : Machine) → Takes h action fate said next → (answer : Answer) × (said.answers ≡ answer ∷ [])
takes-one h action (Gives good to) said next takes = (good, ap (λ (s : Transcript). s.answers) takes.0)
takes-one h action (Works good to) said next takes = (takes.0, ap (λ (s : Transcript). s.answers) takes.1)
takes-one h action (Orders order to) said next takes = (_, ap (λ (s : Transcript). s.answers) takes.0)
takes-one h action (Cuts to) said next takes = (_, ap (λ (s : Transcript). s.answers) takes.0)
takes-one h action (Restarts choice) said next takes = (takes.1, ap (λ (s : Transcript). s.answers) takes.2)
takes-one h action Recovers said next takes = (takes.0, ap (λ (s : Transcript). s.answers) takes.1)

no_more : (s : Summary) (lines : List (List ℕ)) → summed s lines [] ≡ s
no_more s [] = refl
no_more s (line ∷ lines) = refl

-- a line that is answered nothing, and one that is answered
sums-none : (line : List ℕ) (s : Summary) (more : List (List ℕ)) (answers : List Answer) → line_input line ≡ Skipped → summed s (line ∷ more) answers ≡ summed s more answers
sums-none line s more [] is = sym (no_more s more)
sums-none line s more (answer ∷ answers) is = rw is refl

sums-one : (line : List ℕ) (s : Summary) (answer : Answer) (more : List (List ℕ)) (answers : List Answer) (input : Input) → line_input line ≡ input → (input ≡ Skipped → ⊥)
    → summed s (line ∷ more) (answer ∷ answers) ≡ summed (added s line (answer_text answer)) more answers
sums-one line s answer more answers Skipped is other = absurd (other refl)
sums-one line s answer more answers Malformed is other = rw is refl
sums-one line s answer more answers Overlong is other = rw is refl
sums-one line s answer more answers (Asked action) is other = rw is refl

answered_one : (line out : List ℕ) (old new : Summary) (input : Input) (given : List Answer) (answer : Answer) → line_input line ≡ input → (input ≡ Skipped → ⊥) → given ≡ answer ∷ []
    → out ≡ reply_text given → AddsReply line out old new → (more : List (List ℕ)) (answers : List Answer) → summed old (line ∷ more) (given ++ answers) ≡ summed new more answers
unfolding answer_line
answered_one line out old new input given answer is other one text adds more answers =
    let reply : out ≡ answer_text answer ++ 10 ∷ [] = text ∙ ap reply_text one ∙ append-nil (answer_line answer) in
    ap (λ a. summed old (line ∷ more) (a ++ answers)) one ∙ sums-one line old answer more answers input is other ∙ ap (λ s. summed s more answers) (sym (adds.reply (answer_text answer) reply))

-- what a line's answers add
one_line : (h : Machine) (line out : List ℕ) (old new : Summary) (input : Input) (said : Transcript) (next : Machine) → line_input line ≡ input → Hears h input said next
    → out ≡ reply_text said.answers → AddsReply line out old new → (more : List (List ℕ)) (answers : List Answer) → summed old (line ∷ more) (said.answers ++ answers) ≡ summed new more answers
one_line h line out old new Skipped said next is hears text adds more answers =
    let silent : said.answers ≡ [] = ap (λ (s : Transcript). s.answers) hears.0 in
    ap (λ a. summed old (line ∷ more) (a ++ answers)) silent ∙ sums-none line old more answers is
    ∙ ap (λ s. summed s more answers) (sym (adds.none (text ∙ ap reply_text silent)))
one_line h line out old new Malformed said next is hears text adds more answers =
    answered_one line out old new Malformed said.answers _ is (λ no. cc no) (ap (λ (s : Transcript). s.answers) hears.0) text adds more answers
one_line h line out old new Overlong said next is hears text adds more answers =
    answered_one line out old new Overlong said.answers _ is (λ no. cc no) (ap (λ (s : Transcript). s.answers) hears.0) text adds more answers
one_line h line out old new (Asked action) said next is hears text adds more answers =
    let one = takes-one h action (fate h action) said next hears in
    answered_one line out old new (Asked action) said.answers one.0 is (λ no. cc no) one.1 text adds more answers

-- one line more
pub counting-line : (all : List (List ℕ)) (line : List ℕ) (rest : List (List ℕ)) (before host host' : HostState) (out : List ℕ) (summary summary' : Summary) (old now next : Device)
    → Counting all (line ∷ rest) before host summary old now → ((h : Machine) → Stands host now h → LineGoes h (line_input line) [] out host' now next) → AddsReply line out summary summary'
    → Counting all rest before host' summary' old next
counting-line all line rest before host host' out summary summary' old now next counting goes adds = record {
  performed = counting.performed ++ line ∷ [];
  split = counting.split ∙ sym (append_assoc counting.performed (line ∷ []) rest);
  says = λ first stands.
      let was = counting.says first stands in
      let step = goes was.state was.stands in
      record {
        said = followed_by was.said step.said;
        state = step.next;
        run = subst (λ i. Run first i (followed_by was.said step.said) step.next) (sym (inputs_of-append counting.performed (line ∷ [])))
            (run_then first was.state step.next (inputs_of counting.performed) (line_input line ∷ []) was.said step.said was.run (run_of_one was.state step.next (line_input line) step.said step.hears));
        tells = tells_then was.said step.said old.panel now.panel next.panel was.tells step.tells;
        stands = step.stands;
        sums = λ more answers.
            ap₂ (λ ls given. summed nothing_counted ls given) (append_assoc counting.performed (line ∷ []) more) (append_assoc was.said.answers step.said.answers answers)
            ∙ was.sums (line ∷ more) (step.said.answers ++ answers)
            ∙ one_line was.state line out summary summary' (line_input line) step.said step.next refl step.hears step.text adds more answers;
      };
}

-- all lines are performed
pub counting-end : (all : List (List ℕ)) (before host : HostState) (summary : Summary) (old now : Device) {E : Type 0} → Counting all [] before host summary old now
    → PerformsAll before host all {E = E} (Ok summary) old now
counting-end all before host summary old now counting = record {
  says = λ first stands.
      let was = counting.says first stands in
      record {
        performed = counting.performed;
        others = [];
        said = was.said;
        end = was.state;
        split = counting.split;
        run = was.run;
        outcome = (
          refl,
          sym (was.sums [] []) ∙ ap₂ (λ ls given. summed nothing_counted ls given) (append-nil counting.performed) (append-nil was.said.answers),
          was.tells,
          was.stands,
        );
      };
}

-- there was no memory for the next line, or for its answer
pub counting-broken : (all rest : List (List ℕ)) (before host after : HostState) (summary : Summary) (old now next : Device) {E : Type 0} (e : E) → Counting all rest before host summary old now
    → GoesUnanswered now.panel next.panel → PerformsAll before after all (Err e) old next
counting-broken all rest before host after summary old now next e counting left = record {
  says = λ first stands.
      let was = counting.says first stands in
      record {
        performed = counting.performed;
        others = rest;
        said = was.said;
        end = was.state;
        split = counting.split;
        run = was.run;
        outcome = record {
          between = now.panel;
          tells = was.tells;
          cut_armed = was.stands.device.cut_armed;
          fail_armed = was.stands.device.fail_armed;
          left = left;
        };
      };
}
