-- A script that was read up to some line of its program.
use Rattle.std.proofs.Common.{◌≡◌, ℕ, ◌+◌, ◌<◌, ◌≤◌, ◌++◌, true, false, List, [], ◌∷◌, Ok, Err, length, length-append, refl, ap, sym, ◌∙◌, arith}
use Rattle.script_text.specs.Script.{lines_of}
use Rattle.exploration.specs.declared.exploration.ScriptFault.TheVariants.{Line}
use Rattle.exploration.specs.declared.parts.Parts.{Parts as PartsHeld}
use Rattle.exploration.specs.declared.program.Program.{Program as ProgramHeld}
use Rattle.exploration.specs.declared.reason.Reason.TheVariants.{NothingAsked}
use Rattle.exploration.specs.declared.stop.LineStop.{LineStop}
use Rattle.exploration.specs.declared.stop.LineStop.TheVariants.{Memory, Untaken}
use Rattle.exploration.specs.Lines.{ProgramLine, program_line}
use Rattle.exploration.specs.Lines.ProgramLine.{Begins, Does, Ends, Refuses}
use Rattle.exploration.specs.Program.{go_on, part_by, parts_from, placed_line}
use Rattle.exploration.specs.Steps.{GoesOn, IsProgramHeld, ReadsParts, TakesProgramLine, fault_at}
use Rattle.exploration.proofs.LookLemmas.{ok_and}
use Rattle.exploration.proofs.ProgramLemmas.{held-count}

-- what was read, and what of the text is left
pub record PartsUpTo (text : List ℕ) (held : ProgramHeld) (rest : List ℕ) : Type 0 where
  pub lines : List ProgramLine
  pub is : IsProgramHeld lines held
  pub goes : parts_from [] (lines_of text) ≡ parts_from lines (lines_of rest)
  pub room : length held.lines.items + length rest ≤ length text

pub parts_up_to-start : (text : List ℕ) (held : ProgramHeld) → IsProgramHeld [] held → PartsUpTo text held text
parts_up_to-start text held is = record { lines = []; is = is; goes = refl; room = omega (arith, held-count [] held is) }

module _ (text : List ℕ) (old new : ProgramHeld) (rest line others : List ℕ) (up : PartsUpTo text old rest) (cut : lines_of rest ≡ line ∷ lines_of others) where
  -- one line more
  pub parts_up_to-more : length others < length rest → ((before : List ProgramLine) → IsProgramHeld before old → TakesProgramLine before (placed_line before (lines_of others) (program_line line)) new (Ok true))
      → PartsUpTo text new others
  parts_up_to-more fewer takes =
      let there = ok_and (placed_line up.lines (lines_of others) (program_line line)) (GoesOn up.lines new) (takes up.lines up.is) in
      by_line there.0 there.1 there.2
    where
      longer : (l : ProgramLine) → placed_line up.lines (lines_of others) (program_line line) ≡ Ok l → IsProgramHeld (up.lines ++ l ∷ []) new
          → part_by up.lines (lines_of others) (λ more. parts_from more (lines_of others)) l ≡ parts_from (up.lines ++ l ∷ []) (lines_of others) → PartsUpTo text new others
      longer l placed is goes = record {
        lines = up.lines ++ l ∷ [];
        is = is;
        goes = up.goes ∙ ap (parts_from up.lines) cut
            ∙ ap (go_on (length up.lines + 1) (part_by up.lines (lines_of others) (λ more. parts_from more (lines_of others)))) placed ∙ goes;
        room = omega (arith, up.room, held-count up.lines old up.is, held-count (up.lines ++ l ∷ []) new is, length-append up.lines (l ∷ []));
      }

      by_line : (l : ProgramLine) → placed_line up.lines (lines_of others) (program_line line) ≡ Ok l → GoesOn up.lines new l → PartsUpTo text new others
      by_line (Does item) placed is = longer (Does item) placed is refl
      by_line Begins placed is = longer Begins placed is refl
      by_line Refuses placed is = longer Refuses placed is refl
      by_line Ends placed is = absurd is

  -- or the look begins
  pub parts_up_to-ends : ((before : List ProgramLine) → IsProgramHeld before old → TakesProgramLine before (placed_line before (lines_of others) (program_line line)) new (Ok false))
      → (parts : PartsHeld) → parts.program ≡ new → parts.look.now ≡ others → ReadsParts (parts_from [] (lines_of text)) (Ok parts)
  parts_up_to-ends takes parts program look =
      let ends = takes up.lines up.is in
      let all = up.goes ∙ ap (parts_from up.lines) cut ∙ ap (go_on (length up.lines + 1) (part_by up.lines (lines_of others) (λ more. parts_from more (lines_of others)))) ends.0 in
      rw (all, program, look) (record { program = ends.1; look = refl })

  -- or the script stops there
  pub parts_up_to-stops : (stop : LineStop) (n : ℕ) → n ≡ length old.lines.items + 1
      → ((before : List ProgramLine) → IsProgramHeld before old → TakesProgramLine before (placed_line before (lines_of others) (program_line line)) new (Err stop))
      → ReadsParts (parts_from [] (lines_of text)) (Err (fault_at n stop))
  parts_up_to-stops (Untaken why) n at takes =
      up.goes ∙ ap (parts_from up.lines) cut ∙ ap (go_on (length up.lines + 1) (part_by up.lines (lines_of others) (λ more. parts_from more (lines_of others)))) (takes up.lines up.is)
      ∙ ap (λ (k : ℕ). Err (record { number = k; why = why })) (ap (λ (k : ℕ). k + 1) (sym (held-count up.lines old up.is)) ∙ sym at)
  parts_up_to-stops Memory n at takes = tt

-- all lines are taken, and none begins a look
pub parts_up_to-end : (text rest : List ℕ) (held : ProgramHeld) (n : ℕ) → PartsUpTo text held rest → lines_of rest ≡ [] → n ≡ length held.lines.items + 1
    → ReadsParts (parts_from [] (lines_of text)) (Err (Line n NothingAsked))
parts_up_to-end text rest held n up over at =
    up.goes ∙ ap (parts_from up.lines) over
    ∙ ap (λ (k : ℕ). Err (record { number = k; why = NothingAsked })) (ap (λ (k : ℕ). k + 1) (sym (held-count up.lines held up.is)) ∙ sym at)
