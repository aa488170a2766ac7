-- The lines of a script that is taken, as a host reads them.
use Rattle.std.proofs.Common.{◌≡◌, ◌≢◌, ◌||◌, ℕ, ◌+◌, ◌++◌, Bool, true, false, List, [], ◌∷◌, map, take, drop, Some, None, Result, Ok, Err, if◌then◌else◌, length, replicate, append_assoc, append-nil, refl, ap, sym, ◌∙◌}
use Rattle.script_text.specs.Script.{Input, inputs_of, line_input}
use Rattle.script_text.specs.Script.Input.{Skipped, Malformed, Overlong, Asked}
use Rattle.questions.specs.Question.{QuestionLine, question_line}
use Rattle.questions.specs.Question.QuestionLine.{Plain, Begins as AsksBegin, Refuses as AsksRefusal, Look as AsksLook, Lists as AsksList, Tabulates, Never, May, Misspelled, NoReply}
use Rattle.questions.proofs.CommentLemmas.{question-skipped}
use Rattle.outcomes.specs.Stops.{is_of_program}
use Rattle.asked_reads.specs.Program.{asks_for}
use Rattle.exploration.specs.declared.reason.Reason.{Reason}
use Rattle.exploration.specs.declared.reason.Reason.TheVariants.{Again, NoCommand, NotInAProgram}
use Rattle.exploration.specs.Lines.{ProgramLine, program_kind, program_line}
use Rattle.exploration.specs.Lines.ProgramLine.{Begins, Does, Ends, Refuses}
use Rattle.exploration.specs.Performing.{AreCut}
use Rattle.exploration.specs.Program.{Parts, Untaken, action_in, first_of, go_on, has_begin, has_command, is_begin, marks_from, part_by, parts_from, placed_line, program_of}

-- the commands of lines of which none is `# begin`
program-unbegun : (lines : List ProgramLine) → has_begin lines ≡ false → program_of lines ≡ map action_in lines
program-unbegun [] none = refl
program-unbegun (l ∷ ls) none = go (is_begin l) (has_begin ls) refl none (program-unbegun ls)
  where
    go : (b more : Bool) → has_begin ls ≡ more → (b || more) ≡ false → (has_begin ls ≡ false → program_of ls ≡ map action_in ls)
        → (if b || has_begin ls then None else action_in l) ∷ program_of ls ≡ action_in l ∷ map action_in ls
    go true more e not_so rest = absurd (cc)
    go false true e not_so rest = absurd (cc)
    go false false e not_so rest = rw e (ap (λ items. action_in l ∷ items) (rest e))

-- the two parts of a program are all of it
pub all-items : (lines : List ProgramLine) → first_of lines ++ drop (length (first_of lines)) (program_of lines) ≡ map action_in lines
all-items [] = refl
all-items (l ∷ ls) = go (has_begin (l ∷ ls)) refl (all-items ls)
  where
    unbegun : (b more : Bool) → (b || more) ≡ false → more ≡ false
    unbegun true more not_so = absurd (cc)
    unbegun false more not_so = not_so

    go : (b : Bool) → has_begin (l ∷ ls) ≡ b → first_of ls ++ drop (length (first_of ls)) (program_of ls) ≡ map action_in ls
        → (if b then action_in l ∷ first_of ls else []) ++ drop (length (if b then action_in l ∷ first_of ls else [])) ((if b then None else action_in l) ∷ program_of ls) ≡ action_in l ∷ map action_in ls
    go true e rest = ap (λ items. action_in l ∷ items) rest
    go false e rest = ap (λ items. action_in l ∷ items) (program-unbegun ls (unbegun (is_begin l) (has_begin ls) e))

pub first-unasked : (lines : List ProgramLine) → take (length (first_of lines)) (program_of lines) ≡ replicate (length (first_of lines)) None
first-unasked [] = refl
first-unasked (l ∷ ls) = go (has_begin (l ∷ ls)) (first-unasked ls)
  where
    go : (b : Bool) → take (length (first_of ls)) (program_of ls) ≡ replicate (length (first_of ls)) None
        → take (length (if b then action_in l ∷ first_of ls else [])) ((if b then None else action_in l) ∷ program_of ls) ≡ replicate (length (if b then action_in l ∷ first_of ls else [])) None
    go true rest = ap (λ items. None ∷ items) rest
    go false rest = refl

-- a line that is taken at its place is one of that kind
placed-is : (before : List ProgramLine) (later : List (List ℕ)) (kind : Result ProgramLine Reason) (line : ProgramLine) → placed_line before later kind ≡ Ok line → kind ≡ Ok line
placed-is before later (Err why) line is = absurd (cc)
placed-is before later (Ok (Does item)) line is = is
placed-is before later (Ok Ends) line is = is
placed-is before later (Ok Begins) line is = ap Ok (go (has_begin before) is)
  where
    go : (b : Bool) → (if b then Err Again else Ok Begins) ≡ Ok line → Begins ≡ line
    go true is = absurd (cc)
    go false is = cc
placed-is before later (Ok Refuses) line is = ap Ok (go (marks_from false before) (has_command later) is)
  where
    go : (b there : Bool) → (if b then Err Again else (if there then Ok Refuses else Err NoCommand)) ≡ Ok line → Refuses ≡ line
    go true there is = absurd (cc)
    go false true is = cc
    go false false is = absurd (cc)

-- only `# look` ends the program
kind-ends : (q : QuestionLine) (input : Input) → program_kind q input ≡ Ok Ends → q ≡ AsksLook
kind-ends Plain Skipped is = absurd (cc)
kind-ends Plain Malformed is = absurd (cc)
kind-ends Plain Overlong is = absurd (cc)
kind-ends Plain (Asked action) is = go (is_of_program action) is
  where
    go : (b : Bool) → (if b then Ok (Does (Some action)) else Err NotInAProgram) ≡ Ok Ends → Plain ≡ AsksLook
    go true is = absurd (cc)
    go false is = absurd (cc)
kind-ends AsksBegin input is = absurd (cc)
kind-ends AsksRefusal input is = absurd (cc)
kind-ends AsksLook input is = refl
kind-ends AsksList input is = absurd (cc)
kind-ends Tabulates input is = absurd (cc)
kind-ends (Never replies) input is = absurd (cc)
kind-ends (May replies) input is = absurd (cc)
kind-ends Misspelled input is = absurd (cc)
kind-ends (NoReply k) input is = absurd (cc)

-- and each other line is to a host what it is here
abbrev goes : ProgramLine → Bool
goes (Does item) = true
goes Begins = true
goes Refuses = true
goes Ends = false

record IsRead (q : QuestionLine) (input : Input) (line : ProgramLine) : Type 0 where
  pub other : q ≢ AsksLook
  pub same : input ≡ asks_for (action_in line)

same-line : (made line : ProgramLine) (input : Input) → made ≡ line → input ≡ asks_for (action_in made) → input ≡ asks_for (action_in line)
same-line made line input is same = same ∙ ap (λ l. asks_for (action_in l)) is

kind-goes : (q : QuestionLine) (input : Input) (line : ProgramLine) → (q ≢ Plain → input ≡ Skipped) → program_kind q input ≡ Ok line → goes line ≡ true → IsRead q input line
kind-goes Plain Skipped line skipped is on = record { other = λ e. absurd (cc); same = same-line (Does None) line Skipped (cc) refl }
kind-goes Plain Malformed line skipped is on = absurd (cc)
kind-goes Plain Overlong line skipped is on = absurd (cc)
kind-goes Plain (Asked action) line skipped is on = go (is_of_program action) is
  where
    go : (b : Bool) → (if b then Ok (Does (Some action)) else Err NotInAProgram) ≡ Ok line → IsRead Plain (Asked action) line
    go true is = record { other = λ e. absurd (cc); same = same-line (Does (Some action)) line (Asked action) (cc) refl }
    go false is = absurd (cc)
kind-goes AsksBegin input line skipped is on = record { other = λ e. absurd (cc); same = same-line Begins line input (cc) (skipped (λ e. absurd (cc))) }
kind-goes AsksRefusal input line skipped is on = record { other = λ e. absurd (cc); same = same-line Refuses line input (cc) (skipped (λ e. absurd (cc))) }
kind-goes AsksLook input line skipped is on = let e : Ends ≡ line = cc in absurd (let off : goes Ends ≡ true = ap goes e ∙ on in cc)
kind-goes AsksList input line skipped is on = absurd (cc)
kind-goes Tabulates input line skipped is on = absurd (cc)
kind-goes (Never replies) input line skipped is on = absurd (cc)
kind-goes (May replies) input line skipped is on = absurd (cc)
kind-goes Misspelled input line skipped is on = absurd (cc)
kind-goes (NoReply k) input line skipped is on = absurd (cc)

-- a program that is read on from some of its lines
pub record ReadsTo (old : List ProgramLine) (lines : List (List ℕ)) (parts : Parts) : Type 0 where
  pub more : List ProgramLine
  pub before : List (List ℕ)
  pub look : List ℕ
  pub cut : AreCut lines before look parts.look
  pub program : parts.lines ≡ old ++ more
  pub same : inputs_of before ≡ map asks_for (map action_in more)

one-line : (old : List ProgramLine) (line : List ℕ) (lines : List (List ℕ)) (parts : Parts) (l : ProgramLine) → program_line line ≡ Ok l → goes l ≡ true → ReadsTo (old ++ l ∷ []) lines parts → ReadsTo old (line ∷ lines) parts
one-line old line lines parts l is on rest =
    let read = kind-goes (question_line line) (line_input line) l (question-skipped line) is on in
    record {
      more = l ∷ rest.more;
      before = line ∷ rest.before;
      look = rest.look;
      cut = record { joined = ap (λ ls. line ∷ ls) rest.cut.joined; looks = rest.cut.looks; earlier = (read.other, rest.cut.earlier) };
      program = rest.program ∙ append_assoc old (l ∷ []) rest.more;
      same = ap (λ i. i ∷ inputs_of rest.before) read.same ∙ ap (λ is. asks_for (action_in l) ∷ is) rest.same;
    }

abbrev lines_or : List ProgramLine → Result Parts Untaken → List ProgramLine
lines_or none (Err stop) = none
lines_or none (Ok parts) = parts.lines

abbrev look_or : List (List ℕ) → Result Parts Untaken → List (List ℕ)
look_or none (Err stop) = none
look_or none (Ok parts) = parts.look

by-line : (old : List ProgramLine) (line : List ℕ) (lines : List (List ℕ)) (parts : Parts) → ((more : List ProgramLine) → parts_from more lines ≡ Ok parts → ReadsTo more lines parts)
    → (r : Result ProgramLine Reason) → placed_line old lines (program_line line) ≡ r → go_on (length old + 1) (part_by old lines (λ more. parts_from more lines)) r ≡ Ok parts → ReadsTo old (line ∷ lines) parts
by-line old line lines parts others (Err why) found is = absurd (cc)
by-line old line lines parts others (Ok (Does item)) found is = one-line old line lines parts (Does item) (placed-is old lines (program_line line) (Does item) found) refl (others (old ++ Does item ∷ []) is)
by-line old line lines parts others (Ok Begins) found is = one-line old line lines parts Begins (placed-is old lines (program_line line) Begins found) refl (others (old ++ Begins ∷ []) is)
by-line old line lines parts others (Ok Refuses) found is = one-line old line lines parts Refuses (placed-is old lines (program_line line) Refuses found) refl (others (old ++ Refuses ∷ []) is)
by-line old line lines parts others (Ok Ends) found is =
    let all : old ≡ parts.lines = ap (λ (r : Result Parts Untaken). lines_or old r) is in
    let left : lines ≡ parts.look = ap (λ (r : Result Parts Untaken). look_or lines r) is in
    record {
      more = [];
      before = [];
      look = line;
      cut = record { joined = ap (λ ls. line ∷ ls) (sym left); looks = kind-ends (question_line line) (line_input line) (placed-is old lines (program_line line) Ends found); earlier = tt };
      program = sym all ∙ sym (append-nil old);
      same = refl;
    }

pub parts-read : (old : List ProgramLine) (lines : List (List ℕ)) (parts : Parts) → parts_from old lines ≡ Ok parts → ReadsTo old lines parts
parts-read old [] parts is = absurd (cc)
parts-read old (line ∷ lines) parts is = by-line old line lines parts (λ more next. parts-read more lines parts next) (placed_line old lines (program_line line)) refl is
