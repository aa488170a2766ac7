-- A program that is held, and one line more.
use Rattle.std.proofs.Common.{◌≡◌, ◌==◌, ℕ, zero, suc, ◌&&◌, ◌++◌, Bool, true, false, not, List, [], ◌∷◌, map, Option, Some, None, Ok, Err, length, length-append, replicate, refl, ap, sym, ◌∙◌, subst}
use Rattle.std.specs.Prelude.{is_some, option_map, if◌then◌else◌}
use Rattle.std.proofs.lemmas.List.{length-map, map-append}
use Rattle.std.proofs.lemmas.List.Elements.{All-append, All-cons, All-nil}
use Rattle.script_text.specs.declared.command.Command.{Command}
use Rattle.script_text.specs.Action.{Action, action_of}
use Rattle.script_text.specs.Script.{Input}
use Rattle.script_text.specs.Script.Input.{Skipped, Malformed, Overlong, Asked}
use Rattle.outcomes.specs.Stops.{IsProgram, is_of_program}
use Rattle.asked_reads.specs.Program.{IsBounded, input_of, inputs_of_lines}
use Rattle.exploration.specs.declared.program.Program.{Program as ProgramHeld}
use Rattle.exploration.specs.declared.reason.Reason.TheVariants.{NotInAProgram}
use Rattle.exploration.specs.Lines.{ProgramLine, program_input}
use Rattle.exploration.specs.Lines.ProgramLine.{Begins, Does, Refuses}
use Rattle.exploration.specs.Program.{has_begin, marks_from, refused_from}
use Rattle.exploration.specs.Steps.{AreCommands, IsProgramHeld}
use Rattle.exploration.proofs.LineLemmas.{first-some, first-begun, first-more, marks-more, program-begun, program-length, program-more, refused-more}
pub use Rattle.script_text.proofs.WordLemmas.{passes as not_false}

-- what stands in a program is a command of programs
plain-program : (action of : Action) (taken : Bool) → is_of_program of ≡ taken → (if taken then Ok (Does (Some of)) else Err NotInAProgram) ≡ Ok (Does (Some action)) → is_of_program action ≡ true
plain-program action of true test is =
    let same : of ≡ action = cc in
    subst (λ a. is_of_program a ≡ true) same test
plain-program action of false test is = absurd (cc)

input-program : (action : Action) (input : Input) → program_input input ≡ Ok (Does (Some action)) → is_of_program action ≡ true
input-program action Skipped is = absurd (cc)
input-program action Malformed is = absurd (cc)
input-program action Overlong is = absurd (cc)
input-program action (Asked of) is = plain-program action of (is_of_program of) refl is

pub does-program : (input : Input) (command : Option Command) → program_input input ≡ Ok (Does (option_map action_of command)) → IsProgram (input_of command ∷ [])
does-program input None is = tt
does-program input (Some command) is =
    let test : is_of_program (action_of command) ≡ true = input-program (action_of command) input is in
    (test, tt)

-- a line's command alone
pub commands-one : (command : Option Command) → IsProgram (input_of command ∷ []) → IsBounded command → AreCommands (command ∷ [])
commands-one command program bounds = record { program = program; bounds = All-cons IsBounded command [] bounds (All-nil IsBounded) }

-- no lines, lines without commands, and lines before others
pub commands-none : AreCommands []
commands-none = record { program = tt; bounds = All-nil IsBounded }

commands-unasked : (n : ℕ) → AreCommands (replicate n None)
commands-unasked zero = commands-none
commands-unasked (suc n) = let rest = commands-unasked n in record { program = rest.program; bounds = All-cons IsBounded None (replicate n None) tt rest.bounds }

IsProgram-append : (a b : List Input) → IsProgram a → IsProgram b → IsProgram (a ++ b)
IsProgram-append [] b first rest = rest
IsProgram-append (Skipped ∷ a) b first rest = IsProgram-append a b first rest
IsProgram-append (Malformed ∷ a) b first rest = IsProgram-append a b first rest
IsProgram-append (Overlong ∷ a) b first rest = IsProgram-append a b first rest
IsProgram-append (Asked action ∷ a) b first rest = (first.0, IsProgram-append a b first.1 rest)

commands-append : (a b : List (Option Command)) → AreCommands a → AreCommands b → AreCommands (a ++ b)
commands-append a b first rest = record {
  program = rw (map-append input_of a b) (IsProgram-append (inputs_of_lines a) (inputs_of_lines b) first.program rest.program);
  bounds = All-append IsBounded a b first.bounds rest.bounds;
}

-- a list with one item more
pushed : {A : Type 0} (old new : List A) (x : A) (ok : Bool) → new ≡ (if ok then old ++ x ∷ [] else old) → ok ≡ true → new ≡ old ++ x ∷ []
pushed old new x ok is done = is ∙ ap (λ b. if b then old ++ x ∷ [] else old) done

some-mapped : (command : Option Command) → is_some (option_map action_of command) ≡ is_some command
some-mapped None = refl
some-mapped (Some command) = refl

marks-done : (marks : Bool) (command : Option Command) → (marks && not (is_some command)) ≡ marks_from marks (Does (option_map action_of command) ∷ [])
marks-done true None = refl
marks-done false None = refl
marks-done true (Some command) = refl
marks-done false (Some command) = refl

-- a line with its command, or without one
pub held-add : (before : List ProgramLine) (old new : ProgramHeld) (command : Option Command) (refused added : Bool) → IsProgramHeld before old → AreCommands (command ∷ [])
    → new.first.items ≡ old.first.items → new.lines.items ≡ (if added then old.lines.items ++ command ∷ [] else old.lines.items) → added ≡ true
    → new.refused.items ≡ (if refused then old.refused.items ++ (old.marks && is_some command) ∷ [] else old.refused.items) → refused ≡ true → new.marks ≡ (old.marks && not (is_some command))
    → IsProgramHeld (before ++ Does (option_map action_of command) ∷ []) new
held-add before old new command refused added is right first lines added_is flags refused_is marks =
    let grown = pushed old.lines.items new.lines.items command added lines added_is in
    let flagged = pushed old.refused.items new.refused.items (old.marks && is_some command) refused flags refused_is in
    record {
      first = ap (map (option_map action_of)) first ∙ is.first ∙ sym (first-more before (Does (option_map action_of command)) refl);
      program = ap (map (option_map action_of)) grown ∙ map-append (option_map action_of) old.lines.items (command ∷ []) ∙ ap (λ items. items ++ option_map action_of command ∷ []) is.program
          ∙ sym (program-more before (Does (option_map action_of command)) refl);
      refused = flagged ∙ ap (λ flags. flags ++ (old.marks && is_some command) ∷ []) is.refused
          ∙ ap (λ m. refused_from false before ++ (m && is_some command) ∷ []) is.marks
          ∙ ap (λ s. refused_from false before ++ (marks_from false before && s) ∷ []) (sym (some-mapped command))
          ∙ sym (refused-more false before (Does (option_map action_of command)));
      marks = marks ∙ ap (λ m. m && not (is_some command)) is.marks ∙ marks-done (marks_from false before) command ∙ sym (marks-more false before (Does (option_map action_of command)));
      first_right = subst AreCommands (sym first) is.first_right;
      right = subst AreCommands (sym grown) (commands-append old.lines.items (command ∷ []) is.right right);
    }

-- there are as many items as lines
pub held-count : (lines : List ProgramLine) (held : ProgramHeld) → IsProgramHeld lines held → length held.lines.items ≡ length lines
held-count lines held is = sym (length-map held.lines.items (option_map action_of)) ∙ ap length is.program ∙ program-length lines

actions-unasked : (n : ℕ) → map (option_map action_of) (replicate n None) ≡ replicate n None
actions-unasked zero = refl
actions-unasked (suc n) = ap (λ rest. None ∷ rest) (actions-unasked n)

same-length : (before : List ProgramLine) (a b : ProgramLine) → length (before ++ a ∷ []) ≡ length (before ++ b ∷ [])
same-length before a b = length-append before (a ∷ []) ∙ sym (length-append before (b ∷ []))

-- a line without one was `# begin`
pub held-begin : (before : List ProgramLine) (mid new : ProgramHeld) (n : ℕ) → IsProgramHeld (before ++ Does None ∷ []) mid → has_begin before ≡ false → n ≡ length mid.lines.items
    → new.first.items ≡ mid.lines.items → new.lines.items ≡ replicate n None → new.refused.items ≡ mid.refused.items → new.marks ≡ mid.marks → IsProgramHeld (before ++ Begins ∷ []) new
held-begin before mid new n is unbegun count first lines refused marks = record {
  first = ap (map (option_map action_of)) first ∙ is.program ∙ program-more before (Does None) refl ∙ sym (first-begun before unbegun);
  program = ap (map (option_map action_of)) lines ∙ actions-unasked n
      ∙ ap (λ k. replicate k None) (count ∙ held-count (before ++ Does None ∷ []) mid is ∙ same-length before (Does None) Begins) ∙ sym (program-begun before);
  refused = refused ∙ is.refused ∙ refused-more false before (Does None) ∙ sym (refused-more false before Begins);
  marks = marks ∙ is.marks ∙ marks-more false before (Does None) ∙ sym (marks-more false before Begins);
  first_right = subst AreCommands (sym first) is.right;
  right = subst AreCommands (sym lines) (commands-unasked n);
}

-- or it marked the next command
pub held-mark : (before : List ProgramLine) (mid new : ProgramHeld) → IsProgramHeld (before ++ Does None ∷ []) mid → new.first.items ≡ mid.first.items → new.lines.items ≡ mid.lines.items
    → new.refused.items ≡ mid.refused.items → new.marks ≡ true → IsProgramHeld (before ++ Refuses ∷ []) new
held-mark before mid new is first lines refused marks = record {
  first = ap (map (option_map action_of)) first ∙ is.first ∙ first-more before (Does None) refl ∙ sym (first-more before Refuses refl);
  program = ap (map (option_map action_of)) lines ∙ is.program ∙ program-more before (Does None) refl ∙ sym (program-more before Refuses refl);
  refused = refused ∙ is.refused ∙ refused-more false before (Does None) ∙ sym (refused-more false before Refuses);
  marks = marks ∙ sym (marks-more false before Refuses);
  first_right = subst AreCommands (sym first) is.first_right;
  right = subst AreCommands (sym lines) is.right;
}

-- whether there is a `# begin`, by what is held
pub held-begun : (lines : List ProgramLine) (held : ProgramHeld) → IsProgramHeld lines held → (length held.first.items == 0) ≡ not (has_begin lines)
held-begun lines held is = ap (λ n. n == 0) (sym (length-map held.first.items (option_map action_of)) ∙ ap length is.first) ∙ first-some lines

pub not_true : (b : Bool) → not b ≡ true → b ≡ false
not_true true e = absurd (cc)
not_true false e = refl
