-- A script, of its program and its look.
use Rattle.std.proofs.Common.{◌≡◌, ℕ, ◌+◌, ◌≤◌, Bool, true, false, List, [], ◌∷◌, Ok, Err, if◌then◌else◌, length, ap, sym, ◌∙◌, arith}
use Rattle.std.specs.Prelude.{IsOkAnd, option_map}
use Rattle.std.proofs.lemmas.List.{length-map}
use Rattle.script_text.specs.Action.{action_of}
use Rattle.script_text.specs.Script.{lines_of}
use Rattle.word_tables.specs.declared.geometry.Geometry.{Geometry}
use Rattle.exploration.specs.declared.exploration.ScriptFault.{ScriptFault}
use Rattle.exploration.specs.declared.exploration.ScriptFault.TheVariants.{Line, Memory}
use Rattle.exploration.specs.declared.look.Look.{Look as LookHeld}
use Rattle.exploration.specs.declared.parts.Parts.{Parts as PartsHeld}
use Rattle.exploration.specs.Exploration.{look_from, look_start, script_of, script_of_parts, script_with}
use Rattle.exploration.specs.Lines.{ProgramLine}
use Rattle.exploration.specs.Program.{Parts, action_in, first_of, has_begin, parts_from}
use Rattle.exploration.specs.Reading.{Holds, ReadsScript}
use Rattle.exploration.specs.Steps.{AreCommands, ArePartsHeld, IsHeld, ReadsLook}
use Rattle.exploration.proofs.LineLemmas.{refused-length}
use Rattle.exploration.proofs.LookLemmas.{ok_and}
use Rattle.exploration.proofs.ProgramLemmas.{held-count}

-- the parts are read, and the first line of the look has that number
record IsParted (geo : Geometry) (text : List ℕ) (held : PartsHeld) (n : ℕ) : Type 0 where
  pub parts : Parts
  pub is : ArePartsHeld parts held
  pub script : script_of geo text ≡ script_with parts.lines (look_from geo n look_start (lines_of held.look.now))

parted : (geo : Geometry) (text : List ℕ) (held : PartsHeld) (n : ℕ) → IsOkAnd (parts_from [] (lines_of text)) (λ parts. ArePartsHeld parts held) → n ≡ length held.program.lines.items + 2
    → IsParted geo text held n
parted geo text held n read at =
    let there = ok_and (parts_from [] (lines_of text)) (λ parts. ArePartsHeld parts held) read in
    let number : length there.0.lines + 2 ≡ n = omega (arith, at, held-count there.0.lines held.program there.2.program) in
    record {
      parts = there.0;
      is = there.2;
      script = ap (script_of_parts geo) there.1 ∙ ap (λ k. script_with there.0.lines (look_from geo k look_start there.0.look)) number
          ∙ ap (λ ls. script_with there.0.lines (look_from geo n look_start ls)) (sym there.2.look);
    }

-- where the look stops, the script does
pub script-stops : (geo : Geometry) (text : List ℕ) (held : PartsHeld) (n : ℕ) (fault : ScriptFault) → IsOkAnd (parts_from [] (lines_of text)) (λ parts. ArePartsHeld parts held)
    → n ≡ length held.program.lines.items + 2 → ReadsLook (look_from geo n look_start (lines_of held.look.now)) (Err fault) → ReadsScript (script_of geo text) (Err fault)
script-stops geo text held n (Line k why) read at looked = let parted = parted geo text held n read at in parted.script ∙ ap (script_with parted.parts.lines) looked
script-stops geo text held n Memory read at looked = tt

-- and where it is read
pub script-read : (geo : Geometry) (text : List ℕ) (held : PartsHeld) (n : ℕ) (look : LookHeld) → IsOkAnd (parts_from [] (lines_of text)) (λ parts. ArePartsHeld parts held)
    → n ≡ length held.program.lines.items + 2 → ReadsLook (look_from geo n look_start (lines_of held.look.now)) (Ok look)
    → Holds (script_of geo text) (record {
      first = held.program.first;
      program = held.program.lines;
      refused = held.program.refused;
      reads = look.reads;
      table = look.table;
      list = look.list;
      questions = look.questions;
    })
script-read geo text held n look read at looked =
    let parted = parted geo text held n read at in
    let there = ok_and (look_from geo n look_start (lines_of held.look.now)) (λ l. IsHeld l look) looked in
    rw (parted.script, there.1) (record {
      first = parted.is.program.first;
      program = parted.is.program.program;
      refused = parted.is.program.refused;
      reads = there.2.reads;
      table = there.2.table;
      list = there.2.list;
      questions = there.2.questions;
    })

-- what stands up to `# begin` is no longer than the program
first-length : (lines : List ProgramLine) → length (first_of lines) ≤ length lines
first-length [] = omega arith
first-length (l ∷ ls) = go (has_begin (l ∷ ls)) (first-length ls)
  where
    go : (b : Bool) → length (first_of ls) ≤ length ls → length (if b then action_in l ∷ first_of ls else []) ≤ length (l ∷ ls)
    go true rest = omega arith
    go false rest = omega arith

pub first-within : (text : List ℕ) (held : PartsHeld) → IsOkAnd (parts_from [] (lines_of text)) (λ parts. ArePartsHeld parts held) → length held.program.first.items ≤ length held.program.lines.items
first-within text held read =
    let there = ok_and (parts_from [] (lines_of text)) (λ parts. ArePartsHeld parts held) read in
    let is = there.2.program in
    omega (arith, first-length there.0.lines, held-count there.0.lines held.program is, length-map held.program.first.items (option_map action_of), ap length is.first)

pub refused-same : (text : List ℕ) (held : PartsHeld) → IsOkAnd (parts_from [] (lines_of text)) (λ parts. ArePartsHeld parts held) → length held.program.refused.items ≡ length held.program.lines.items
refused-same text held read =
    let there = ok_and (parts_from [] (lines_of text)) (λ parts. ArePartsHeld parts held) read in
    let is = there.2.program in
    ap length is.refused ∙ refused-length false there.0.lines ∙ sym (held-count there.0.lines held.program is)

-- and both are commands
pub right-first : (text : List ℕ) (held : PartsHeld) → IsOkAnd (parts_from [] (lines_of text)) (λ parts. ArePartsHeld parts held) → AreCommands held.program.first.items
right-first text held read =
    let there = ok_and (parts_from [] (lines_of text)) (λ parts. ArePartsHeld parts held) read in
    let is = there.2.program in
    is.first_right

pub right-lines : (text : List ℕ) (held : PartsHeld) → IsOkAnd (parts_from [] (lines_of text)) (λ parts. ArePartsHeld parts held) → AreCommands held.program.lines.items
right-lines text held read =
    let there = ok_and (parts_from [] (lines_of text)) (λ parts. ArePartsHeld parts held) read in
    let is = there.2.program in
    is.right
