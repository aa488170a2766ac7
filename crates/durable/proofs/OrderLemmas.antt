-- What a run tells, in the order in which it came.
use Rattle.std.proofs.Common.{◌≡◌, inl, inr, Bool, true, false, List, [], ◌∷◌, ◌++◌, refl, sym, ap, subst, ◌∙◌}
use Rattle.std.specs.Prelude.{ℕ}
use Rattle.std.specs.List.{All}
use Rattle.std.proofs.lemmas.Grind.{flat_map-append}
use Rattle.std.proofs.lemmas.List.{append-nil, append_assoc}
use Rattle.std.proofs.lemmas.List.Elements.{All-append, All-cons, All-nil}
use Rattle.nvm_model.specs.Storage.{Event, Mapping}
use Rattle.reply_text.specs.Answer.{Answer}
use Rattle.script_text.specs.Action.{Action}
use Rattle.script_text.specs.Script.{Input}
use Rattle.script_text.specs.Script.Input.{Skipped, Malformed, Overlong, Asked}
use Rattle.machine_model.specs.Machine.{Machine}
use Rattle.machine_model.specs.Run.{Hears, Run, Transcript}
use Rattle.durable.specs.Events.{Mounts, NoneMounts, TellsInOrder, all_told, is_line_mapped, line_told, live_events, told_by}
use Rattle.durable.specs.Files.{changes_files}
use Rattle.durable.proofs.ToldLemmas.{kept, told}

abbrev IsLive : Event → Type 0
IsLive event = event.live ≡ true

all_live : (mappings : List Mapping) (name : List ℕ) (lines : List ℕ) → All IsLive (live_events mappings name lines)
all_live mappings name [] = All-nil IsLive
all_live mappings name (n ∷ lines) =
    All-cons IsLive (line_told name (is_line_mapped mappings name n) true n) (live_events mappings name lines) refl (all_live mappings name lines)

-- nothing came
still : (h next : Machine) (answers : List Answer) → all_told answers ≡ [] → next.events ≡ h.events → TellsInOrder h answers next
still h next answers silent same =
    record { came = []; live = All-nil IsLive; order = append-nil h.events ∙ sym same ∙ sym (ap (λ es. es ++ next.events) silent) }

-- one step after another
joined : (h middle later : Machine) (one other : List Answer) → TellsInOrder h one middle → TellsInOrder middle other later → TellsInOrder h (one ++ other) later
joined h middle later one other first second = record {
  came = first.came ++ second.came;
  live = All-append IsLive first.came second.came first.live second.live;
  order =
      sym (append_assoc h.events first.came second.came) ∙ ap (λ es. es ++ second.came) first.order ∙ append_assoc (all_told one) middle.events second.came
      ∙ ap (λ es. all_told one ++ es) second.order ∙ sym (append_assoc (all_told one) (all_told other) later.events)
      ∙ ap (λ es. es ++ later.events) (sym (flat_map-append told_by one other));
}

-- a step of a run
record Ordered (h : Machine) (action : Action) (said : Transcript) (next : Machine) : Type 0 where
  answer : Answer
  answers : said.answers ≡ answer ∷ []
  order : (Mounts action (answer ∷ []) → ⊥) → TellsInOrder h (answer ∷ []) next

ordered : (h next : Machine) (action : Action) (said : Transcript) → Hears h (Asked action) said next → Ordered h action said next
ordered h next action said heard = by_change (changes_files action) refl
  where
    by_change : (b : Bool) → changes_files action ≡ b → Ordered h action said next
    by_change true change =
        let step = kept h next action said heard change in
        record { answer = step.answer; answers = step.answers; order = λ mounts. still h next (step.answer ∷ []) (ap (λ es. es ++ []) step.silent) step.events }
    by_change false stay =
        let step = told h next action said heard stay in
        record {
          answer = step.answer;
          answers = step.answers;
          order = λ mounts. elim step.tells as (λ _. TellsInOrder h (step.answer ∷ []) next) [
            | inl mount ↦ absurd (mounts mount)
            | inr lines ↦ record { came = live_events h.mappings lines.name lines.lines; live = all_live h.mappings lines.name lines.lines; order = lines.order }
          ];
        }

-- an input of a run, and those after it
record Split (h : Machine) (inputs : List Input) (one other : List Answer) (next : Machine) : Type 0 where
  first : TellsInOrder h one next
  rest : NoneMounts inputs other

split : (h next : Machine) (input : Input) (inputs : List Input) (said : Transcript) (other : List Answer) → Hears h input said next → NoneMounts (input ∷ inputs) (said.answers ++ other)
    → Split h inputs said.answers other next
split h next Skipped inputs said other heard mounts = record {
  first = still h next said.answers (ap (λ (s : Transcript). all_told s.answers) heard.0) (ap (λ m. m.events) heard.1);
  rest = subst (λ (s : Transcript). NoneMounts inputs (s.answers ++ other)) heard.0 mounts;
}
split h next Malformed inputs said other heard mounts = record {
  first = still h next said.answers (ap (λ (s : Transcript). all_told s.answers) heard.0) (ap (λ m. m.events) heard.1);
  rest = subst (λ (s : Transcript). NoneMounts (Malformed ∷ inputs) (s.answers ++ other)) heard.0 mounts;
}
split h next Overlong inputs said other heard mounts = record {
  first = still h next said.answers (ap (λ (s : Transcript). all_told s.answers) heard.0) (ap (λ m. m.events) heard.1);
  rest = subst (λ (s : Transcript). NoneMounts (Overlong ∷ inputs) (s.answers ++ other)) heard.0 mounts;
}
split h next (Asked action) inputs said other heard mounts =
    let step = ordered h next action said heard in
    let each = subst (λ answers. NoneMounts (Asked action ∷ inputs) (answers ++ other)) step.answers mounts in
    record { first = subst (λ answers. TellsInOrder h answers next) (sym step.answers) (step.order each.0); rest = each.1 }

pub told_in_order : (h later : Machine) (inputs : List Input) (said : Transcript) → Run h inputs said later → NoneMounts inputs said.answers → TellsInOrder h said.answers later
told_in_order h later [] said run mounts = still h later said.answers (ap (λ (s : Transcript). all_told s.answers) run.0) (ap (λ m. m.events) run.1)
told_in_order h later (input ∷ inputs) said run mounts =
    let parts = split h run.2 input inputs run.0 run.1.answers run.4 (subst (λ (s : Transcript). NoneMounts (input ∷ inputs) s.answers) run.3 mounts) in
    subst (λ (s : Transcript). TellsInOrder h s.answers later) (sym run.3)
    (joined h run.2 later run.0.answers run.1.answers parts.first (told_in_order run.2 later inputs run.1 run.5 parts.rest))
