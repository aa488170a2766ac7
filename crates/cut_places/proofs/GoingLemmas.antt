-- A program is followed, line by line.
use Rattle.std.proofs.Common.{◌≡◌, ◌+◌, ◌-◌, ◌<◌, ◌≤◌, ℕ, zero, suc, Bool, true, false, cond, IsTrue, Option, Some, None, List, [], ◌∷◌, length, drop, drop-cons, get_or, slice_get, refl, sym, ap, subst, ◌∙◌, arith}
use Rattle.std.specs.Option.{IfSome, is_none, is_some}
use Rattle.std.proofs.lemmas.List.{drop_all}
use Rattle.word_tables.specs.declared.geometry.Geometry.{Geometry}
use Rattle.script_text.specs.declared.command.Command.{Command}
use Rattle.script_text.specs.Action.{action_of}
use Rattle.sights.specs.MachineModel.Machine.{Machine}
use Rattle.sights.specs.MachineModel.Commands.{fate, refusal}
use Rattle.sights.specs.Outcomes.Seen.{Seen, may_show}
use Rattle.sights.specs.Outcomes.Stops.{IsProgram, is_of_program, led_to}
use Rattle.sights.specs.AskedReads.declared.question.Question.{Question}
use Rattle.sights.specs.AskedReads.Asking.{IsLook, may_be_replies}
use Rattle.sights.specs.AskedReads.Program.{inputs_of_lines}
use Rattle.cut_places.specs.declared.place.CutPlace.{CutPlace}
use Rattle.cut_places.specs.declared.place.CutPlace.TheVariants.{Before, Inside}
use Rattle.cut_places.specs.declared.sight.Sight.{Sight}
use Rattle.cut_places.specs.Following.{AreDone, Explores, Follows, IsAt, IsFirst, IsIn, IsWhole, IsWithin, ShowsAt, ShowsIn, command_stops}
use Rattle.cut_places.specs.Places.{cut_places, first_stop}
use Rattle.cut_places.specs.Sights.{shows}
use Rattle.cut_places.specs.Enough.{IsEnough}
use Rattle.cut_places.proofs.EnoughLemmas.{enough_now}
use Rattle.cut_places.proofs.StopLemmas.{none_before, some_before}

-- The lines before this one show nothing, and what is behind them tells what all do.
pub record Goes (program : List (Option Command)) (done : List Bool) (q : Question) (geo : Geometry) (began : Sight) (i : ℕ) (now : Sight) : Type 0 where
  pub whole : (other : Question) → IsWhole began other → IsWhole now other
  pub enough : IsEnough began q → IsEnough now q
  pub within : IsWithin now geo
  pub comes : (h : Machine) (look : List Seen) → Follows began geo h → IsEnough began q → AreDone h program done → IsLook look q
      → (to : Machine) × Follows now geo to × AreDone to (drop i program) (drop i done)
      × (first_stop (may_show look) (cut_places 1 h (inputs_of_lines program)) ≡ first_stop (may_show look) (cut_places (i + 1) to (inputs_of_lines (drop i program))))

suc_is : (n : ℕ) → suc n ≡ n + 1
suc_is n = omega arith

none_is : (found : Option CutPlace) → is_some found ≡ false → found ≡ None
none_is None told = refl
none_is (Some place) told = cc told

-- what goes on stands where what is looked at does
pub goes_at : (program : List (Option Command)) (done : List Bool) (q : Question) (geo : Geometry) (began : Sight) (i : ℕ) (now now2 : Sight)
    → now2 ≡ now → Goes program done q geo began i now → Goes program done q geo began i now2
goes_at program done q geo began i now now2 same goes = subst (Goes program done q geo began i) (sym same) goes

-- the line that is next, and whether it is done
pub at_line : {A : Type 0} (xs : List A) (i : ℕ) (x : A) → i < length xs → x ≡ get_or xs i x → drop i xs ≡ x ∷ drop (i + 1) xs
at_line xs i x lt is = drop-cons xs i x lt ∙ ap (λ y. y ∷ drop (suc i) xs) (sym is) ∙ ap (λ n. x ∷ drop n xs) (suc_is i)

pub program_at : (program : List (Option Command)) (i : ℕ) (command : Command) (d : Option Command) → i < length program → Some command ≡ get_or program i d
    → IsProgram (inputs_of_lines program) → IsTrue (is_of_program (action_of command))
program_at [] i command d lt is all = absurd (omega (arith, lt))
program_at (None ∷ program) zero command d lt is all = cc is
program_at (Some first ∷ program) zero command d lt is all =
    let same : first ≡ command = cc is in
    subst (λ c. IsTrue (is_of_program (action_of c))) same all.0
program_at (None ∷ program) (suc i) command d lt is all = program_at program i command d (omega (arith, lt)) is all
program_at (Some first ∷ program) (suc i) command d lt is all = program_at program i command d (omega (arith, lt)) is all.1

-- an item that is there is the same by any default
pub any_default : {A : Type 0} (xs : List A) (i : ℕ) (d : A) → i < length xs → get_or xs i d ≡ get_or xs i (get_or xs i d)
any_default [] i d lt = absurd (omega (arith, lt))
any_default (x ∷ xs) zero d lt = refl
any_default (x ∷ xs) (suc i) d lt = items_agree xs i d (get_or xs i d) (omega (arith, lt))
  where
    items_agree : {A : Type 0} (ys : List A) (k : ℕ) (d e : A) → k < length ys → get_or ys k d ≡ get_or ys k e
    items_agree [] k d e lt = absurd (omega (arith, lt))
    items_agree (y ∷ ys) zero d e lt = refl
    items_agree (y ∷ ys) (suc k) d e lt = items_agree ys k d e (omega (arith, lt))

pub below : (program : List (Option Command)) (done : List Bool) (i : ℕ) → length done ≡ length program → i < length program → i < length done
below program done i same lt = omega (arith, lt, same)

minus_one : (n : ℕ) → (n + 1) - 1 ≡ n
minus_one n = omega arith

line_there : (program : List (Option Command)) (i : ℕ) (line : Option Command) → i < length program → line ≡ get_or program i line → slice_get program i ≡ Some line
line_there [] i line lt is = absurd (omega (arith, lt))
line_there (first ∷ program) zero line lt is = ap Some (sym is)
line_there (first ∷ program) (suc i) line lt is = line_there program i line (omega (arith, lt)) is

pub goes_first : (program : List (Option Command)) (done : List Bool) (q : Question) (geo : Geometry) (began : Sight) → IsWithin began geo → Goes program done q geo began 0 began
goes_first program done q geo began within = record { whole = λ other whole. whole; enough = λ enough. enough; within = within; comes = λ h look follows enough told shown. (h, follows, told, refl) }

module _ (program : List (Option Command)) (done : List Bool) (q : Question) (geo : Geometry) (began : Sight) (i : ℕ) (now : Sight)
    (goes : Goes program done q geo began i now) (line : Option Command) (is_done : Bool) (lt : i < length program) (same : length done ≡ length program)
    (is : line ≡ get_or program i line) (told : is_done ≡ get_or done i is_done) where
  lines_next : drop i program ≡ line ∷ drop (i + 1) program
  lines_next = at_line program i line lt is

  done_next : drop i done ≡ is_done ∷ drop (i + 1) done
  done_next = at_line done i is_done (omega (arith, lt, same)) told

  -- what is done of the lines from this one on
  told_next : (to : Machine) → AreDone to (drop i program) (drop i done) → AreDone to (line ∷ drop (i + 1) program) (is_done ∷ drop (i + 1) done)
  told_next to all = subst (λ lines. AreDone to lines (is_done ∷ drop (i + 1) done)) lines_next (subst (AreDone to (drop i program)) done_next all)

  -- a line without a command
  pub goes_past : line ≡ None → Goes program done q geo began (i + 1) now
  goes_past none = record {
    whole = goes.whole;
    enough = goes.enough;
    within = goes.within;
    comes = λ h look follows enough all shown.
        let before = goes.comes h look follows enough all shown in (
          before.0,
          before.1,
          subst (λ l. AreDone before.0 (l ∷ drop (i + 1) program) (is_done ∷ drop (i + 1) done)) none (told_next before.0 before.2),
          before.3 ∙ ap (λ lines. first_stop (may_show look) (cut_places (i + 1) before.0 (inputs_of_lines lines))) (lines_next ∙ ap (λ l. l ∷ drop (i + 1) program) none)
              ∙ ap (λ n. first_stop (may_show look) (cut_places n before.0 (inputs_of_lines (drop (i + 1) program)))) (suc_is (i + 1)),
        );
  }

  module _ (command : Command) (some : line ≡ Some command) where
    -- of its stops, and of those behind it
    parted : (look : List Seen) (h : Machine) → first_stop (may_show look) (cut_places (i + 1) h (inputs_of_lines (drop i program)))
        ≡ first_stop (may_show look) (cut_places (i + 1) h (inputs_of_lines (Some command ∷ drop (i + 1) program)))
    parted look h = ap (λ lines. first_stop (may_show look) (cut_places (i + 1) h (inputs_of_lines lines))) (lines_next ∙ ap (λ l. l ∷ drop (i + 1) program) some)

    told_of : (to : Machine) → AreDone to (drop i program) (drop i done) → AreDone to (Some command ∷ drop (i + 1) program) (is_done ∷ drop (i + 1) done)
    told_of to all = subst (λ l. AreDone to (l ∷ drop (i + 1) program) (is_done ∷ drop (i + 1) done)) some (told_next to all)

    -- the place that was found in it is the first
    lines_at : slice_get program ((i + 1) - 1) ≡ Some (Some command)
    lines_at = ap (slice_get program) (minus_one i) ∙ line_there program i line lt is ∙ ap Some some

    at_place : (after : Sight) (place : CutPlace) (state : Machine) → IsIn (i + 1) (action_of command) after geo place state → IsAt program after geo place state
    at_place after (Before n) state is_in = is_in
    at_place after (Inside n) state is_in = (command, subst (λ m. slice_get program (m - 1) ≡ Some (Some command)) (sym is_in.0) lines_at, is_in.1)

    -- where it is shown
    pub shown_there : (after : Sight) (found : Option CutPlace) → IfSome found (ShowsIn (i + 1) (action_of command) q after geo) → IfSome found (ShowsAt program q after geo)
    shown_there after None shown = tt
    shown_there after (Some (Before n)) shown = shown
    shown_there after (Some (Inside n)) shown = (
      command,
      let at : n ≡ i + 1 = shown.0 in omega (arith, at),
      subst (λ m. slice_get program (m - 1) ≡ Some (Some command)) (sym shown.0) lines_at,
      shown.1,
    )

    of_found : (after : Sight) (found : Option CutPlace) → is_some found ≡ true → (h : Machine) (look : List Seen) → Follows began geo h → IsEnough began q → AreDone h program done → IsLook look q
        → ((to : Machine) → Follows now geo to → is_none (refusal to (action_of command)) ≡ is_done
        → Explores (i + 1) (action_of command) look after geo to found)
        → IsFirst program look after geo (cut_places 1 h (inputs_of_lines program)) found
    of_found after None has h look follows enough all shown explores = cc has
    of_found after (Some place) has h look follows enough all shown explores =
        let before = goes.comes h look follows enough all shown in
        let state = before.0 in
        let explored = explores state before.1 (told_of state before.2).0 in (
          explored.0,
          before.3 ∙ parted look state
              ∙ some_before (may_show look) (command_stops (i + 1) state (action_of command))
              (cut_places (suc (i + 1)) (led_to state (fate state (action_of command))) (inputs_of_lines (drop (i + 1) program))) explored.0 explored.1,
          explored.2,
          at_place after place explored.0.state explored.3,
        )

    pub found_first : (after : Sight) (found : Option CutPlace) → is_some found ≡ true
        → ((h : Machine) (look : List Seen) → Follows now geo h → IsEnough now q → IsLook look q → is_none (refusal h (action_of command)) ≡ is_done
        → Explores (i + 1) (action_of command) look after geo h found)
        → (h : Machine) (look : List Seen) → Follows began geo h → IsEnough began q → AreDone h program done → IsLook look q → IsFirst program look after geo (cut_places 1 h (inputs_of_lines program)) found
    found_first after found has explores h look follows enough all shown = of_found after found has h look follows enough all shown (λ to at is_as. explores to look at (goes.enough enough) shown is_as)

    -- a command after which nothing is found
    pub goes_on : (after : Sight) (found : Option CutPlace) → is_some found ≡ false → ((other : Question) → IsWhole now other → IsWhole after other) → (IsEnough now q → IsEnough after q) → IsWithin after geo
        → ((h : Machine) (look : List Seen) → Follows now geo h → IsEnough now q → IsLook look q → is_none (refusal h (action_of command)) ≡ is_done
        → Explores (i + 1) (action_of command) look after geo h found)
        → Goes program done q geo began (i + 1) after
    goes_on after found has whole still within explores = record {
      whole = λ other began_whole. whole other (goes.whole other began_whole);
      enough = λ enough. still (goes.enough enough);
      within = within;
      comes = λ h look follows enough all shown.
          let before = goes.comes h look follows enough all shown in
          let state = before.0 in
          let after_it = led_to state (fate state (action_of command)) in
          let of = told_of state before.2 in
          let explored = subst (Explores (i + 1) (action_of command) look after geo state) (none_is found has) (explores state look before.1 (goes.enough enough) shown of.0) in (
            after_it,
            explored.1,
            of.1,
            before.3 ∙ parted look state
                ∙ none_before (may_show look) (command_stops (i + 1) state (action_of command)) (cut_places (suc (i + 1)) after_it (inputs_of_lines (drop (i + 1) program))) explored.0
                ∙ ap (λ n. first_stop (may_show look) (cut_places n after_it (inputs_of_lines (drop (i + 1) program)))) (suc_is (i + 1)),
          );
    }

module _ (program : List (Option Command)) (done : List Bool) (q : Question) (geo : Geometry) (began : Sight) (i : ℕ) (now : Sight) (goes : Goes program done q geo began i now) where
  -- behind the last line
  pub at_end : (told : Bool) → shows q now ≡ told → length program ≤ i → i ≤ length program → may_be_replies geo q ≡ true
      → (h : Machine) (look : List Seen) → Follows began geo h → IsEnough began q → AreDone h program done → IsLook look q
      → IsFirst program look now geo (cut_places 1 h (inputs_of_lines program)) (cond told (Some (Before (length program + 1))) None)
  at_end told told_is ends last replies h look follows enough all shown =
      let before = goes.comes h look follows enough all shown in
      let state = before.0 in
      let at : i ≡ length program = omega (arith, ends, last) in
      let seen_at : may_show look state ≡ told =
      enough_now state look q now shown before.1.sees (goes.enough enough) (ap (λ sizes. may_be_replies sizes q) before.1.sizes ∙ replies) before.1.ready.settled ∙ told_is in
      of_told told state before.1
      (before.3 ∙ ap (λ lines. first_stop (may_show look) (cut_places (i + 1) state (inputs_of_lines lines))) (drop_all i program ends)
      ∙ ap (λ b. cond b (Some (record { place = Before (i + 1); state = state })) None) seen_at ∙ ap (λ n. cond told (Some (record { place = Before (n + 1); state = state })) None) at)
    where
      of_told : (b : Bool) (state : Machine) → Follows now geo state
          → first_stop (may_show look) (cut_places 1 h (inputs_of_lines program)) ≡ cond b (Some (record { place = Before (length program + 1); state = state })) None
          → IsFirst program look now geo (cut_places 1 h (inputs_of_lines program)) (cond b (Some (Before (length program + 1))) None)
      of_told true state follows_it first = (record { place = Before (length program + 1); state = state }, first, refl, follows_it)
      of_told false state follows_it first = first
