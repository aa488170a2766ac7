-- A program that is performed: what came of its commands.
use Rattle.std.proofs.Common.{◌≡◌, ◌≢◌, if◌then◌else◌, option_map, ℕ, ◌+◌, ◌<◌, ◌≤◌, zero, suc, Bool, true, false, not, Option, Some, None, List, [], ◌∷◌, ◌++◌, length, drop, get_or, IsTrue, refl, sym, ap, subst, ◌∙◌, arith, ne_eqb}
use Rattle.std.specs.Option.{is_none, is_some}
use Rattle.std.proofs.lemmas.List.{append-nil, append_assoc, drop_all}
use Rattle.line_device.specs.Device.{Device}
use Rattle.nvm_model.specs.Blocks.{first_there}
use Rattle.reply_text.specs.Answer.{Answer, answer_of}
use Rattle.reply_text.specs.declared.reply.Reply.{Reply}
use Rattle.reply_text.specs.Answer.Answer.{Refused}
use Rattle.reply_text.specs.declared.reply.Why.TheVariants as because
use Rattle.script_text.specs.declared.command.Command.{Command}
use Rattle.script_text.specs.Action.{Action, action_of}
use Rattle.script_text.specs.Action.Action.{CutIn}
use Rattle.cut_places.specs.MachineModel.declared.mode.Mode.{Mode}
use Rattle.cut_places.specs.MachineModel.declared.mode.Mode.TheVariants.{On, Off, Unsettled, Stopped}
use Rattle.cut_places.specs.MachineModel.declared.needs.Needs.TheVariants.{Anytime}
use Rattle.cut_places.specs.MachineModel.Machine.{Machine}
use Rattle.cut_places.specs.MachineModel.Commands.{fate, meaning, refusal, unless_refused}
use Rattle.cut_places.specs.MachineModel.Meaning.{first_reason, metadata_refusal, mode_refusal, placed}
use Rattle.cut_places.specs.MachineModel.OnPower.{in_calls}
use Rattle.machine_host.specs.Settling.{GoesOn}
use Rattle.machine_host.specs.Stands.{Comes, HostState, Stands}
use Rattle.cut_places.specs.Outcomes.Finds.{IsReady, armed}
use Rattle.cut_places.specs.Outcomes.Stops.{IsProgram, is_of_program, led_to}
use Rattle.cut_places.specs.AskedReads.Program.{input_of, inputs_of_lines}
use Rattle.cut_places.specs.Following.{AreDone}
use Rattle.cut_places.proofs.GoingLemmas.{at_line}
use Rattle.cut_places.proofs.StepLemmas.{ready_after}
use Rattle.explorer.specs.declared.came.Came.TheVariants as came_as
use Rattle.explorer.specs.Coming.{came_of}
use Rattle.explorer.specs.Performing.{IsAfter, LineDone}
use Rattle.explorer.specs.Stopping.{NoneFell}
use Rattle.explorer.proofs.ComesLemmas.{CameTo, came_to, was_done, was_refused}

-- a cut that is armed in some calls is done, and in none refused
cut_in_told : (h : Machine) (calls : ℕ) (o : Option Answer) → option_map Refused (in_calls calls h.geometry) ≡ o → refusal h (CutIn calls) ≡ first_there o None
unfolding refusal
cut_in_told h calls o is = by_mode h.mode
  where
    places : first_there {A = Answer} None (first_there (option_map Refused (in_calls calls h.geometry)) (first_there None (first_there (metadata_refusal false h.bad_meta) None))) ≡ first_there o None
    places = ap (λ x. first_there x None) is

    by_mode : (mode : Mode) → first_reason (mode_refusal mode h.bad_meta Anytime) h.bad_meta (placed (in_calls calls) h) ≡ first_there o None
    by_mode On = places
    by_mode Off = places
    by_mode Unsettled = places
    by_mode Stopped = places

pub cut_in_allowed : (h : Machine) (calls : ℕ) → calls ≢ 0 → refusal h (CutIn calls) ≡ None
cut_in_allowed h calls some = cut_in_told h calls None (ap (λ b. option_map Refused (if b then Some because.Range else None)) (ne_eqb calls 0 some))

cut_in_refused : (h : Machine) (calls : ℕ) → calls ≡ 0 → refusal h (CutIn calls) ≡ Some (Refused because.Range)
cut_in_refused h calls none = cut_in_told h calls (Some (Refused because.Range)) (ap (λ n. option_map Refused (in_calls n h.geometry)) none)

pub ready_armed : (h : Machine) → IsReady h → IsReady (armed h)
ready_armed h ready = ready_after h (CutIn 1) ready refl (cut_in_allowed h 1 (λ e. cc e))

-- the state behind a command, by whether it is refused
led_on : (h : Machine) (action : Action) (o : Option Answer) → refusal h action ≡ o → led_to h (fate h action) ≡ led_to h (unless_refused h o ((meaning action).comes h))
led_on h action o is = ap (λ x. led_to h (unless_refused h x ((meaning action).comes h))) is

-- that state, and what refused the command
abbrev pub WasAnswered : Machine → Action → HostState → Device → Option Answer → Type 0
WasAnswered h action host d refused = (refusal h action ≡ refused) × IsAfter h action host d

at_led : (h : Machine) (action : Action) (host : HostState) (d : Device) (refused : Option Answer) (to : Machine) → led_to h (fate h action) ≡ to → refusal h action ≡ refused → Stands host d to → IsReady to
    → WasAnswered h action host d refused
at_led h action host d refused to led told stands ready = (told, record { stands = subst (Stands host d) (sym led) stands; ready = subst IsReady (sym led) ready })

-- the program's own cut in no calls, and in some
pub none_armed : (h : Machine) (calls : ℕ) (host : HostState) (d : Device) → calls ≡ 0 → Stands host d h → IsReady h → WasAnswered h (CutIn calls) host d (Some (Refused because.Range))
none_armed h calls host d none stands ready =
    let refused = cut_in_refused h calls none in
    at_led h (CutIn calls) host d (Some (Refused because.Range)) h (led_on h (CutIn calls) (Some (Refused because.Range)) refused) refused stands ready

pub some_armed : (h : Machine) (calls : ℕ) (host : HostState) (d : Device) → calls ≢ 0 → Stands host d (armed h) → IsReady h → WasAnswered h (CutIn calls) host d None
some_armed h calls host d some stands ready =
    let allowed = cut_in_allowed h calls some in
    at_led h (CutIn calls) host d None (armed h) (led_on h (CutIn calls) None allowed) allowed stands (ready_armed h ready)

-- a command that the host was asked for
module _ (h : Machine) (action : Action) (answer : Answer) (host : HostState) (old new : Device) (program : IsTrue (is_of_program action)) (ready : IsReady h)
    (comes : Comes h action (fate h action) answer host old new) where
  came : CameTo h action answer comes.next
  came = came_to host h action answer old new program comes

  pub was_not_done : came_as.Refused ≡ came_of answer → WasAnswered h action host new (Some answer)
  was_not_done was =
      let why = was_refused h action answer comes.next came was in
      at_led h action host new (Some answer) h (led_on h action (Some answer) why.0) why.0 (subst (Stands host new) why.1 comes.stands) ready

  pub was_all_done : came_as.Done ≡ came_of answer → WasAnswered h action host new None
  was_all_done was =
      let done = was_done h action answer comes.next came was in
      at_led h action host new None (led_to h ((meaning action).comes h)) (led_on h action None done.0) done.0
      (subst (Stands host new) done.1 comes.stands) (ready_after h action ready program done.0)

-- by the reply that refuses it
pub none_mapped : (refused : Option Reply) → is_none (option_map answer_of refused) ≡ is_none refused
none_mapped None = refl
none_mapped (Some reply) = refl

pub none_there : (refused : Option Reply) (b : Bool) → not b ≡ is_some refused → is_none refused ≡ b
none_there None true is = refl
none_there None false is = cc is
none_there (Some reply) true is = cc is
none_there (Some reply) false is = refl

-- The lines before this one were performed: what is done of those behind it is told behind what was told.
pub record Performs (program : List (Option Command)) (first : HostState) (begun : Device) (i : ℕ) (done : List Bool) (host : HostState) (d : Device) : Type 0 where
  pub known : GoesOn host d
  pub counts : NoneFell begun.panel d.panel
  pub size : length done ≡ i
  pub comes : (h : Machine) → Stands first begun h → IsReady h
      → (to : Machine) × Stands host d to × IsReady to × ((rest : List Bool) → AreDone to (drop i program) rest → AreDone h program (done ++ rest))

pub performs_first : (program : List (Option Command)) (first : HostState) (begun : Device) → GoesOn first begun → NoneFell begun.panel begun.panel → Performs program first begun 0 [] first begun
performs_first program first begun known counts = record { known = known; counts = counts; size = refl; comes = λ h stands ready. (h, stands, ready, λ rest told. told) }

told_behind : (h : Machine) (program : List (Option Command)) (done rest : List Bool) (is : Bool) → AreDone h program (done ++ is ∷ rest) → AreDone h program ((done ++ is ∷ []) ++ rest)
told_behind h program done rest is told = subst (AreDone h program) (sym (append_assoc done (is ∷ []) rest)) told

size_behind : (done : List Bool) (is : Bool) (i : ℕ) → length done ≡ i → length (done ++ is ∷ []) ≡ i + 1
size_behind [] is i size = ap (λ n. n + 1) size
size_behind (x ∷ done) is zero size = cc size
size_behind (x ∷ done) is (suc i) size = let fewer : length done ≡ i = omega (arith, size) in ap suc (size_behind done is i fewer) ∙ omega arith

pub performs_on : (program : List (Option Command)) (first host next : HostState) (begun old new : Device) (i : ℕ) (done : List Bool) (line : Option Command) (is : Bool)
    → Performs program first begun i done host old → i < length program → line ≡ get_or program i line → GoesOn next new → NoneFell begun.panel new.panel
    → ((h : Machine) → Stands host old h → IsReady h → LineDone h line next new is) → Performs program first begun (i + 1) (done ++ is ∷ []) next new
performs_on program first host next begun old new i done line is performs lt at known counts comes = record {
  known = known;
  counts = counts;
  size = size_behind done is i performs.size;
  comes = λ h stands ready.
      let before = performs.comes h stands ready in
      by_line h before.0 line (at_line program i line lt at) (comes before.0 before.1 before.2) before.3;
}
  where
    by_line : (h to : Machine) (l : Option Command) → drop i program ≡ l ∷ drop (i + 1) program → LineDone to l next new is
        → ((rest : List Bool) → AreDone to (drop i program) rest → AreDone h program (done ++ rest))
        → (end : Machine) × Stands next new end × IsReady end × ((rest : List Bool) → AreDone end (drop (i + 1) program) rest → AreDone h program ((done ++ is ∷ []) ++ rest))
    by_line h to None lines came told =
        (to, came.0, came.1, λ rest behind. told_behind h program done rest is (told (is ∷ rest) (subst (λ xs. AreDone to xs (is ∷ rest)) (sym lines) behind)))
    by_line h to (Some command) lines came told = (
      led_to to (fate to (action_of command)),
      came.1.stands,
      came.1.ready,
      λ rest behind. told_behind h program done rest is (told (is ∷ rest) (subst (λ xs. AreDone to xs (is ∷ rest)) (sym lines) (came.0, behind))),
    )

pub performed : (program : List (Option Command)) (first host : HostState) (begun d : Device) (i : ℕ) (done : List Bool) → Performs program first begun i done host d → length program ≤ i
    → (h : Machine) → Stands first begun h → IsReady h → AreDone h program done
performed program first host begun d i done performs past h stands ready =
    let before = performs.comes h stands ready in
    subst (AreDone h program) (append-nil done) (before.3 [] (subst (λ xs. AreDone before.0 xs []) (sym (drop_all i program past)) tt))

-- a line of a program, by itself
pub line_at : (program : List (Option Command)) (i : ℕ) (line d : Option Command) → i < length program → line ≡ get_or program i d → IsProgram (inputs_of_lines program) → IsProgram (input_of line ∷ [])
line_at [] i line d lt is all = absurd (omega (arith, lt))
line_at (None ∷ program) zero line d lt is all = subst (λ l. IsProgram (input_of l ∷ [])) (sym is) tt
line_at (Some first ∷ program) zero line d lt is all = subst (λ l. IsProgram (input_of l ∷ [])) (sym is) (all.0, tt)
line_at (None ∷ program) (suc i) line d lt is all = line_at program i line d (omega (arith, lt)) is all
line_at (Some first ∷ program) (suc i) line d lt is all = line_at program i line d (omega (arith, lt)) is all.1
