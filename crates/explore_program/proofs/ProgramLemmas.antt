-- The program of a script that was taken.
use Rattle.std.proofs.Common.{◌≡◌, ◌+◌, ℕ, List, [], ◌∷◌, ◌++◌, length, map, option_map, Option, Some, None, Result, Ok, Err, refl, sym, ap, subst, ◌∙◌, if◌then◌else◌}
use Rattle.std.specs.Prelude.{Bool, true, false}
use Rattle.std.proofs.lemmas.List.{map-append}
use Rattle.script_text.specs.declared.command.Command.{Command}
use Rattle.script_text.specs.Action.{Action, action_of}
use Rattle.script_text.specs.Script.{Input, inputs, inputs_of, line_input, lines_of}
use Rattle.script_text.specs.Script.Input.{Skipped, Malformed, Overlong, Asked}
use Rattle.questions.specs.Question.{QuestionLine, question_line}
use Rattle.questions.specs.Question.QuestionLine.{Plain, Begins as AsksBegin, Refuses as AsksRefusal, Look, Lists, Tabulates, Never, May, Misspelled, NoReply}
use Rattle.outcome_lists.specs.OutcomeTest.Stops.{is_of_program}
use Rattle.outcome_lists.specs.Durable.Durable.{BringBytes, BringsBytes}
use Rattle.outcome_lists.specs.OutcomeRuns.Brings.{BringRight, BringsRight}
use Rattle.outcome_lists.specs.AskedReads.Program.{asks_for, inputs_of_lines}
use Rattle.exploration.specs.Exploration.{Exploration, look_from, look_start, script_of, script_of_parts, script_with}
use Rattle.exploration.specs.Exploration as text
use Rattle.exploration.specs.Program.{Parts, Untaken, action_in, first_of, go_on, has_begin, has_command, marks_from, part_by, parts_from, placed, placed_line, program_of}
use Rattle.exploration.specs.declared.reason.Reason.{Reason}
use Rattle.exploration.specs.declared.reason.Reason.TheVariants.{Again, NoCommand, NotInAProgram}
use Rattle.word_tables.specs.declared.geometry.Geometry.{Geometry}
use Rattle.exploration.specs.Exploration.Script.{StopsAt, Taken}
use Rattle.exploration.specs.Lines.{ProgramLine, program_input, program_kind, program_line}
use Rattle.exploration.specs.Lines.ProgramLine.{Begins, Does, Ends, Refuses}

-- what its lines ask for, where these are its commands
pub same_inputs : (lines : List (Option Command)) (actions : List (Option Action)) → map (option_map action_of) lines ≡ actions → inputs_of_lines lines ≡ map asks_for actions
same_inputs lines actions is = fused lines ∙ ap (map asks_for) is
  where
    fused : (ls : List (Option Command)) → inputs_of_lines ls ≡ map asks_for (map (option_map action_of) ls)
    fused [] = refl
    fused (l ∷ ls) = ap (λ rest. asks_for (option_map action_of l) ∷ rest) (fused ls)

-- all commands of a program bring what is right by a test of each
abbrev AllBring : (Action → Type 0) → List Input → Type 0
AllBring B [] = Unit {0}
AllBring B (Skipped ∷ inputs) = AllBring B inputs
AllBring B (Malformed ∷ inputs) = AllBring B inputs
AllBring B (Overlong ∷ inputs) = AllBring B inputs
AllBring B (Asked action ∷ inputs) = B action × AllBring B inputs

all_right : (inputs : List Input) → BringRight inputs ≡ AllBring BringsRight inputs
all_right [] = refl
all_right (Skipped ∷ inputs) = all_right inputs
all_right (Malformed ∷ inputs) = all_right inputs
all_right (Overlong ∷ inputs) = all_right inputs
all_right (Asked action ∷ inputs) = ap (λ T. BringsRight action × T) (all_right inputs)

all_bytes : (inputs : List Input) → BringBytes inputs ≡ AllBring BringsBytes inputs
all_bytes [] = refl
all_bytes (Skipped ∷ inputs) = all_bytes inputs
all_bytes (Malformed ∷ inputs) = all_bytes inputs
all_bytes (Overlong ∷ inputs) = all_bytes inputs
all_bytes (Asked action ∷ inputs) = ap (λ T. BringsBytes action × T) (all_bytes inputs)

module _ (B : Action → Type 0) where
  bring-append : (xs ys : List Input) → AllBring B xs → AllBring B ys → AllBring B (xs ++ ys)
  bring-append [] ys first second = second
  bring-append (Skipped ∷ xs) ys first second = bring-append xs ys first second
  bring-append (Malformed ∷ xs) ys first second = bring-append xs ys first second
  bring-append (Overlong ∷ xs) ys first second = bring-append xs ys first second
  bring-append (Asked action ∷ xs) ys first second = (first.0, bring-append xs ys first.1 second)

  -- the first of some inputs, and the others
  bring-first : (input : Input) (rest : List Input) → AllBring B (input ∷ rest) → AllBring B (input ∷ [])
  bring-first Skipped rest right = tt
  bring-first Malformed rest right = tt
  bring-first Overlong rest right = tt
  bring-first (Asked action) rest right = (right.0, tt)

  bring-rest : (input : Input) (rest : List Input) → AllBring B (input ∷ rest) → AllBring B rest
  bring-rest Skipped rest right = right
  bring-rest Malformed rest right = right
  bring-rest Overlong rest right = right
  bring-rest (Asked action) rest right = right.1

  -- a line of a program asks for what its item does
  bring-taken : (action of : Action) (is_taken : Bool) → AllBring B (Asked of ∷ []) → (if is_taken then Ok (Does (Some of)) else Err NotInAProgram) ≡ Ok (Does (Some action)) → AllBring B (Asked action ∷ [])
  bring-taken action of true right is = let same : of ≡ action = cc is in subst (λ a. AllBring B (Asked a ∷ [])) same right
  bring-taken action of false right is = absurd (cc is)

  bring-input : (item : Option Action) (input : Input) → AllBring B (input ∷ []) → program_input input ≡ Ok (Does item) → AllBring B (asks_for item ∷ [])
  bring-input None input right is = tt
  bring-input (Some action) Skipped right is = absurd (cc is)
  bring-input (Some action) Malformed right is = absurd (cc is)
  bring-input (Some action) Overlong right is = absurd (cc is)
  bring-input (Some action) (Asked of) right is = bring-taken action of (is_of_program of) right is

  bring-kind : (of : ProgramLine) (question : QuestionLine) (input : Input) → AllBring B (input ∷ []) → program_kind question input ≡ Ok of → AllBring B (asks_for (action_in of) ∷ [])
  bring-kind (Does item) Plain input right is = bring-input item input right is
  bring-kind (Does item) AsksBegin input right is = absurd (cc is)
  bring-kind (Does item) AsksRefusal input right is = absurd (cc is)
  bring-kind (Does item) Look input right is = absurd (cc is)
  bring-kind (Does item) Lists input right is = absurd (cc is)
  bring-kind (Does item) Tabulates input right is = absurd (cc is)
  bring-kind (Does item) (Never replies) input right is = absurd (cc is)
  bring-kind (Does item) (May replies) input right is = absurd (cc is)
  bring-kind (Does item) Misspelled input right is = absurd (cc is)
  bring-kind (Does item) (NoReply k) input right is = absurd (cc is)
  bring-kind Begins question input right is = tt
  bring-kind Refuses question input right is = tt
  bring-kind Ends question input right is = tt

  -- what lines bring that are taken
  abbrev Brings : List ProgramLine → Type 0
  Brings lines = AllBring B (map (λ line. asks_for (action_in line)) lines)

  -- one more
  brings_more : (before : List ProgramLine) (line : ProgramLine) → Brings before → AllBring B (asks_for (action_in line) ∷ []) → Brings (before ++ line ∷ [])
  brings_more before line right one =
      subst (AllBring B) (sym (map-append (λ l. asks_for (action_in l)) before (line ∷ []))) (bring-append (map (λ l. asks_for (action_in l)) before) (asks_for (action_in line) ∷ []) right one)

  -- a line of a program is taken, or ends it
  placed_bring : (before : List ProgramLine) (later : List (List ℕ)) (parts : Parts) (line : ProgramLine) → Brings before → AllBring B (asks_for (action_in line) ∷ [])
      → ((taken : ProgramLine) → Brings (before ++ taken ∷ []) → parts_from (before ++ taken ∷ []) later ≡ Ok parts → Brings parts.lines)
      → go_on (length before + 1) (part_by before later (λ more. parts_from more later)) (placed before later line) ≡ Ok parts → Brings parts.lines
  placed_bring before later parts (Does item) right one others is = others (Does item) (brings_more before (Does item) right one) is
  placed_bring before later parts Begins right one others is = by_begun (has_begin before) is
    where
      by_begun : (b : Bool) → go_on (length before + 1) (part_by before later (λ more. parts_from more later)) (if b then Err Again else Ok Begins) ≡ Ok parts → Brings parts.lines
      by_begun true told = absurd (cc told)
      by_begun false told = others Begins (brings_more before Begins right one) told
  placed_bring before later parts Refuses right one others is = by_marks (marks_from false before) (has_command later) is
    where
      by_marks : (b c : Bool) → go_on (length before + 1) (part_by before later (λ more. parts_from more later)) (if b then Err Again else (if c then Ok Refuses else Err NoCommand)) ≡ Ok parts → Brings parts.lines
      by_marks true c told = absurd (cc told)
      by_marks false true told = others Refuses (brings_more before Refuses right one) told
      by_marks false false told = absurd (cc told)
  placed_bring before later parts Ends right one others is = let same : before ≡ parts.lines = cc is in subst Brings same right

  parts_bring : (before : List ProgramLine) (lines : List (List ℕ)) (parts : Parts) → parts_from before lines ≡ Ok parts → Brings before → AllBring B (inputs_of lines) → Brings parts.lines
  parts_bring before [] parts is right rest = absurd (cc is)
  parts_bring before (line ∷ lines) parts is right rest =
      by_line (λ taken more others. parts_bring (before ++ taken ∷ []) lines parts others more (bring-rest (line_input line) (inputs_of lines) rest)) (program_line line) refl is
    where
      by_line : ((taken : ProgramLine) → Brings (before ++ taken ∷ []) → parts_from (before ++ taken ∷ []) lines ≡ Ok parts → Brings parts.lines) → (o : Result ProgramLine Reason) → program_line line ≡ o → go_on (length before + 1) (part_by before lines (λ more. parts_from more lines)) (placed_line before lines o) ≡ Ok parts → Brings parts.lines
      by_line others (Err why) told next = absurd (cc next)
      by_line others (Ok of) told next =
          placed_bring before lines parts of right (bring-kind of (question_line line) (line_input line) (bring-first (line_input line) (inputs_of lines) rest) told) others next

  -- one item before others, each of which brings what is right
  bring-item : (item : Option Action) (items : List (Option Action)) → AllBring B (asks_for item ∷ []) → AllBring B (map asks_for items) → AllBring B (map asks_for (item ∷ items))
  bring-item None items one rest = rest
  bring-item (Some action) items one rest = (one.0, rest)

  -- and so do the lines up to `# begin`, and those of the program
  first_brings : (lines : List ProgramLine) → Brings lines → AllBring B (map asks_for (first_of lines))
  first_brings [] right = tt
  first_brings (line ∷ lines) right =
      let rest = first_brings lines (bring-rest (asks_for (action_in line)) (map (λ l. asks_for (action_in l)) lines) right) in
      let one = bring-first (asks_for (action_in line)) (map (λ l. asks_for (action_in l)) lines) right in
      by_begin (has_begin (line ∷ lines)) one rest
    where
      by_begin : (b : Bool) → AllBring B (asks_for (action_in line) ∷ []) → AllBring B (map asks_for (first_of lines)) → AllBring B (map asks_for (if b then action_in line ∷ first_of lines else []))
      by_begin true one rest = bring-item (action_in line) (first_of lines) one rest
      by_begin false one rest = tt

  program_brings : (lines : List ProgramLine) → Brings lines → AllBring B (map asks_for (program_of lines))
  program_brings [] right = tt
  program_brings (line ∷ lines) right =
      let rest = program_brings lines (bring-rest (asks_for (action_in line)) (map (λ l. asks_for (action_in l)) lines) right) in
      let one = bring-first (asks_for (action_in line)) (map (λ l. asks_for (action_in l)) lines) right in
      by_begin (has_begin (line ∷ lines)) one rest
    where
      by_begin : (b : Bool) → AllBring B (asks_for (action_in line) ∷ []) → AllBring B (map asks_for (program_of lines)) → AllBring B (map asks_for ((if b then None else action_in line) ∷ program_of lines))
      by_begin true one rest = rest
      by_begin false one rest = bring-item (action_in line) (program_of lines) one rest

  taken_all : (geo : Geometry) (script : List ℕ) (e : Exploration) → AllBring B (inputs script) → script_of geo script ≡ Taken e → AllBring B (map asks_for e.first) × AllBring B (map asks_for e.program)
  taken_all geo script e right is = by_parts (parts_from [] (lines_of script)) refl is
    where
      by_look : (lines : List ProgramLine) (look : Result text.Look Untaken) → script_with lines look ≡ Taken e → (first_of lines ≡ e.first) × (program_of lines ≡ e.program)
      by_look lines (Ok look) same = (cc same, cc same)
      by_look lines (Err n) same = absurd (cc same)

      by_parts : (r : Result Parts Untaken) → parts_from [] (lines_of script) ≡ r → script_of_parts geo r ≡ Taken e → AllBring B (map asks_for e.first) × AllBring B (map asks_for e.program)
      by_parts (Ok parts) told same =
          let are = by_look parts.lines (look_from geo (length parts.lines + 2) look_start parts.look) same in
          let brings = parts_bring [] (lines_of script) parts told tt right in
          (subst (λ items. AllBring B (map asks_for items)) are.0 (first_brings parts.lines brings), subst (λ items. AllBring B (map asks_for items)) are.1 (program_brings parts.lines brings))
      by_parts (Err n) told same = absurd (cc same)

-- so both bring what is right, and bytes
pub taken_bring : (geo : Geometry) (script : List ℕ) (e : Exploration) → BringRight (inputs script) → script_of geo script ≡ Taken e → BringRight (map asks_for e.first) × BringRight (map asks_for e.program)
taken_bring geo script e right is =
    let all = taken_all BringsRight geo script e (subst (λ T. T) (all_right (inputs script)) right) is in
    (subst (λ T. T) (sym (all_right (map asks_for e.first))) all.0, subst (λ T. T) (sym (all_right (map asks_for e.program))) all.1)

pub taken_bytes : (geo : Geometry) (script : List ℕ) (e : Exploration) → BringBytes (inputs script) → script_of geo script ≡ Taken e → BringBytes (map asks_for e.first) × BringBytes (map asks_for e.program)
taken_bytes geo script e bytes is =
    let all = taken_all BringsBytes geo script e (subst (λ T. T) (all_bytes (inputs script)) bytes) is in
    (subst (λ T. T) (sym (all_bytes (map asks_for e.first))) all.0, subst (λ T. T) (sym (all_bytes (map asks_for e.program))) all.1)
