-- A program is followed, line by line, with what is looked at.
use Rattle.std.proofs.Common.{◌≡◌, ◌+◌, ◌<◌, ◌≤◌, ℕ, suc, Bool, false, Option, Some, None, List, [], ◌∷◌, ◌++◌, length, drop, drop-cons, get_or, sym, ap, subst, ◌∙◌, append_assoc, arith}
use Rattle.std.specs.Option.{is_none}
use Rattle.std.proofs.lemmas.List.{drop_all}
use Rattle.word_tables.specs.declared.geometry.Geometry.{Geometry}
use Rattle.script_text.specs.declared.command.Command.{Command}
use Rattle.script_text.specs.Action.{action_of}
use Rattle.explorer.specs.MachineModel.Machine.{Machine}
use Rattle.explorer.specs.MachineModel.Commands.{fate, refusal}
use Rattle.explorer.specs.Outcomes.Stops.{led_to}
use Rattle.explorer.specs.CutPlaces.declared.sight.Sight.{Sight}
use Rattle.explorer.specs.CutPlaces.Following.{AreDone, Follows}
use Rattle.explorer.proofs.CutPlaces.GoingLemmas.{at_line}
use Rattle.outcome_lists.proofs.MappedLemmas.{suc_is}

-- The state before a line, which is followed; so much is told of it and of the lines from this one on.
pub record Reaches (program : List (Option Command)) (done : List Bool) (geo : Geometry) (i : ℕ) (now : Sight) (Told : Machine → List (Option Command) → Type 0) : Type 0 where
  pub to : Machine
  pub follows : Follows now geo to
  pub are_done : AreDone to (drop i program) (drop i done)
  pub told : Told to (drop i program)

pub reaches_first : (program : List (Option Command)) (done : List Bool) (geo : Geometry) (now : Sight) (Told : Machine → List (Option Command) → Type 0) (h : Machine)
    → Follows now geo h → AreDone h program done → Told h program → Reaches program done geo 0 now Told
reaches_first program done geo now Told h follows all told = record { to = h; follows = follows; are_done = all; told = told }

module _ (program : List (Option Command)) (done : List Bool) (geo : Geometry) (i : ℕ) (now : Sight) (Told : Machine → List (Option Command) → Type 0)
    (reaches : Reaches program done geo i now Told) where
  module _ (line : Option Command) (is_done : Bool) (lt : i < length program) (same : length done ≡ length program) (is : line ≡ get_or program i line)
      (told : is_done ≡ get_or done i false)
      (Later : Machine → List (Option Command) → Type 0) where
    lines_next : drop i program ≡ line ∷ drop (i + 1) program
    lines_next = at_line program i line lt is

    done_next : drop i done ≡ is_done ∷ drop (i + 1) done
    done_next =
        drop-cons done i false (omega (arith, lt, same)) ∙ ap (λ b. b ∷ drop (suc i) done) (sym told) ∙ ap (λ n. is_done ∷ drop n done) (suc_is i)

    done_from : AreDone reaches.to (line ∷ drop (i + 1) program) (is_done ∷ drop (i + 1) done)
    done_from = subst (λ lines. AreDone reaches.to lines (is_done ∷ drop (i + 1) done)) lines_next (subst (AreDone reaches.to (drop i program)) done_next reaches.are_done)

    told_from : Told reaches.to (line ∷ drop (i + 1) program)
    told_from = subst (Told reaches.to) lines_next reaches.told

    -- a line without a command
    pub reaches_past : line ≡ None → ((to : Machine) (lines : List (Option Command)) → Told to (None ∷ lines) → Later to lines) → Reaches program done geo (i + 1) now Later
    reaches_past none later = record {
      to = reaches.to;
      follows = reaches.follows;
      are_done = subst (λ l. AreDone reaches.to (l ∷ drop (i + 1) program) (is_done ∷ drop (i + 1) done)) none done_from;
      told = later reaches.to (drop (i + 1) program) (subst (λ l. Told reaches.to (l ∷ drop (i + 1) program)) none told_from);
    }

    -- a command
    pub reaches_on : (command : Command) → line ≡ Some command → (after : Sight)
        → ((h : Machine) → Follows now geo h → is_none (refusal h (action_of command)) ≡ is_done → Follows after geo (led_to h (fate h (action_of command))))
        → ((to : Machine) (lines : List (Option Command)) → Follows now geo to → is_none (refusal to (action_of command)) ≡ is_done
        → Told to (Some command ∷ lines) → Later (led_to to (fate to (action_of command))) lines)
        → Reaches program done geo (i + 1) after Later
    reaches_on command some after leads later =
        let of : AreDone reaches.to (Some command ∷ drop (i + 1) program) (is_done ∷ drop (i + 1) done) =
        subst (λ l. AreDone reaches.to (l ∷ drop (i + 1) program) (is_done ∷ drop (i + 1) done)) some done_from in
        record {
          to = led_to reaches.to (fate reaches.to (action_of command));
          follows = leads reaches.to reaches.follows of.0;
          are_done = of.1;
          told = later reaches.to (drop (i + 1) program) reaches.follows of.0 (subst (λ l. Told reaches.to (l ∷ drop (i + 1) program)) some told_from);
        }

  -- behind the last line
  pub told_last : length program ≤ i → Told reaches.to []
  told_last ends = subst (Told reaches.to) (drop_all i program ends) reaches.told

-- what was found grows by what is here, before what is behind it
pub grown_by : {A : Type 0} (found grown here later all : List A) → grown ≡ found ++ here → found ++ (here ++ later) ≡ all → grown ++ later ≡ all
grown_by found grown here later all more were = ap (λ xs. xs ++ later) more ∙ append_assoc found here later ∙ were
