-- A program is followed, line by line, and its table printed.
use Rattle.std.proofs.Common.{◌≡◌, ◌+◌, ◌<◌, ◌≤◌, ℕ, suc, Bool, Option, Some, None, List, [], ◌∷◌, ◌++◌, length, drop, drop-cons, get_or, false, sym, ap, subst, ◌∙◌, arith}
use Rattle.std.specs.Option.{is_none}
use Rattle.std.proofs.lemmas.List.{append-nil, drop_all}
use Rattle.word_tables.specs.declared.geometry.Geometry.{Geometry}
use Rattle.script_text.specs.declared.command.Command.{Command}
use Rattle.script_text.specs.Action.{action_of}
use Rattle.cut_places.specs.MachineModel.Machine.{Machine}
use Rattle.cut_places.specs.MachineModel.Commands.{fate, refusal}
use Rattle.cut_places.specs.Outcomes.Stops.{led_to}
use Rattle.cut_places.specs.AskedReads.Program.{inputs_of_lines}
use Rattle.cut_places.specs.AskedReads.declared.read.Read.{Read}
use Rattle.cut_places.specs.declared.place.CutPlace.TheVariants.{Before}
use Rattle.cut_places.specs.declared.sight.Sight.{Sight}
use Rattle.cut_places.specs.Following.{AreDone, Follows}
use Rattle.cut_places.specs.Places.{cut_places}
use Rattle.cut_places.proofs.GoingLemmas.{at_line}
use Rattle.value_tables.specs.declared.table.Table.{Table}
use Rattle.value_tables.specs.Looking.{IsOf}
use Rattle.value_tables.specs.Rows.{rows_at}
use Rattle.value_tables.specs.Sides.{texts}
use Rattle.value_tables.specs.Tables.{table_from, table_text}
use Rattle.value_tables.specs.Walking.{Prints, with_places}
use Rattle.value_tables.proofs.PlaceLemmas.{Printed, place_printed}

-- The places up to this line are printed, and those behind them make the table whole.
pub record Goes (program : List (Option Command)) (done : List Bool) (look : List Read) (geo : Geometry) (began : Sight) (i : ℕ) (now : Sight) (table : Table) : Type 0 where
  pub looks : IsOf now geo look
  pub comes : (h : Machine) → Follows began geo h → AreDone h program done
      → (to : Machine) × Follows now geo to × AreDone to (drop i program) (drop i done)
      × (with_places look table (cut_places (i + 1) to (inputs_of_lines (drop i program))) ≡ table_text look (cut_places 1 h (inputs_of_lines program)))

suc_is : (n : ℕ) → suc n ≡ n + 1
suc_is n = omega arith

pub goes_first : (program : List (Option Command)) (done : List Bool) (look : List Read) (geo : Geometry) (began : Sight) (table : Table) → IsOf began geo look
    → table.text.items ≡ [] → texts table.last.items ≡ [] → Goes program done look geo began 0 began table
goes_first program done look geo began table looks text last = record {
  looks = looks;
  comes = λ h follows told. (
    h,
    follows,
    told,
    ap (λ t. t ++ table_from (texts table.last.items) look (cut_places 1 h (inputs_of_lines program))) text
        ∙ ap (λ l. table_from l look (cut_places 1 h (inputs_of_lines program))) last,
  );
}

pub goes_at : (program : List (Option Command)) (done : List Bool) (look : List Read) (geo : Geometry) (began : Sight) (i : ℕ) (now now2 : Sight) (table table2 : Table)
    → now2 ≡ now → table2 ≡ table → Goes program done look geo began i now table → Goes program done look geo began i now2 table2
goes_at program done look geo began i now now2 table table2 same printed goes =
    subst (λ t. Goes program done look geo began i now2 t) (sym printed) (subst (λ s. Goes program done look geo began i s table) (sym same) goes)

module _ (program : List (Option Command)) (done : List Bool) (look : List Read) (geo : Geometry) (began : Sight) (i : ℕ) (now : Sight) (table : Table)
    (goes : Goes program done look geo began i now table) where
  module _ (line : Option Command) (is_done : Bool) (lt : i < length program) (same : length done ≡ length program) (is : line ≡ get_or program i line) (told : is_done ≡ get_or done i false) where
    lines_next : drop i program ≡ line ∷ drop (i + 1) program
    lines_next = at_line program i line lt is

    done_next : drop i done ≡ is_done ∷ drop (i + 1) done
    done_next =
        drop-cons done i false (omega (arith, lt, same)) ∙ ap (λ b. b ∷ drop (suc i) done) (sym told) ∙ ap (λ n. is_done ∷ drop n done) (suc_is i)

    told_next : (to : Machine) → AreDone to (drop i program) (drop i done) → AreDone to (line ∷ drop (i + 1) program) (is_done ∷ drop (i + 1) done)
    told_next to all = subst (λ lines. AreDone to lines (is_done ∷ drop (i + 1) done)) lines_next (subst (AreDone to (drop i program)) done_next all)

    -- a line without a command
    pub goes_past : line ≡ None → Goes program done look geo began (i + 1) now table
    goes_past none = record {
      looks = goes.looks;
      comes = λ h follows all.
          let before = goes.comes h follows all in (
            before.0,
            before.1,
            subst (λ l. AreDone before.0 (l ∷ drop (i + 1) program) (is_done ∷ drop (i + 1) done)) none (told_next before.0 before.2),
            ap (λ n. with_places look table (cut_places n before.0 (inputs_of_lines (drop (i + 1) program)))) (sym (suc_is (i + 1)))
                ∙ ap (λ lines. with_places look table (cut_places (i + 1) before.0 (inputs_of_lines lines))) (sym (lines_next ∙ ap (λ l. l ∷ drop (i + 1) program) none))
                ∙ before.3,
          );
    }

    -- a command
    pub goes_on : (command : Command) → line ≡ Some command → (after : Sight) (next : Table) → IsOf after geo look
        → ((h : Machine) → Follows now geo h → is_none (refusal h (action_of command)) ≡ is_done → Prints look geo (i + 1) (action_of command) h table next after)
        → Goes program done look geo began (i + 1) after next
    goes_on command some after next looks prints = record {
      looks = looks;
      comes = λ h follows all.
          let before = goes.comes h follows all in
          let state = before.0 in
          let of : AreDone state (Some command ∷ drop (i + 1) program) (is_done ∷ drop (i + 1) done) =
          subst (λ l. AreDone state (l ∷ drop (i + 1) program) (is_done ∷ drop (i + 1) done)) some (told_next state before.2) in
          let printed = prints state before.1 of.0 in (
            led_to state (fate state (action_of command)),
            printed.follows,
            of.1,
            ap (λ n. with_places look next (cut_places n (led_to state (fate state (action_of command))) (inputs_of_lines (drop (i + 1) program)))) (sym (suc_is (i + 1)))
                ∙ sym (printed.text (cut_places (suc (i + 1)) (led_to state (fate state (action_of command))) (inputs_of_lines (drop (i + 1) program))))
                ∙ ap (λ lines. with_places look table (cut_places (i + 1) state (inputs_of_lines lines))) (sym (lines_next ∙ ap (λ l. l ∷ drop (i + 1) program) some))
                ∙ before.3,
          );
    }

  -- behind the last line
  pub at_end : (next : Table) (rows : List (List ℕ)) → length program ≤ i → i ≤ length program → Printed (Before (length program + 1)) rows table next
      → ((h : Machine) → Follows now geo h → rows ≡ rows_at look h) → (h : Machine) → Follows began geo h → AreDone h program done
      → next.text.items ≡ table_text look (cut_places 1 h (inputs_of_lines program))
  at_end next rows ends last printed are h follows all =
      let before = goes.comes h follows all in
      let state = before.0 in
      let at : length program ≡ i = omega (arith, ends, last) in
      let shown : Printed (Before (i + 1)) rows table next = subst (λ n. Printed (Before (n + 1)) rows table next) at printed in
      sym (append-nil next.text.items)
      ∙ sym (place_printed look (Before (i + 1)) state table next rows shown (are state before.1) [])
      ∙ ap (λ lines. with_places look table (cut_places (i + 1) state (inputs_of_lines lines))) (sym (drop_all i program ends))
      ∙ before.3
