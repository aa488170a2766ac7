-- The reads of a look are its commands.
use Rattle.std.proofs.Common.{◌≡◌, ◌≢◌, ℕ, ◌+◌, ◌++◌, Bool, true, false, List, [], ◌∷◌, map, length, Result, Ok, Err, if◌then◌else◌, append_assoc, append-nil, refl, ap, sym, ◌∙◌, subst}
use Rattle.std.specs.Prelude.{is_some}
use Rattle.script_text.specs.Action.{Action}
use Rattle.script_text.specs.Script.{Input, inputs_of, line_input, lines_of}
use Rattle.script_text.specs.Script.Input.{Skipped, Malformed, Overlong, Asked}
use Rattle.questions.specs.Question.{QuestionLine, question_line}
use Rattle.questions.specs.Question.QuestionLine.{Plain, Begins as AsksBegin, Refuses as AsksRefusal, Look as AsksLook, Lists as AsksList, Tabulates, Never, May, Misspelled, NoReply}
use Rattle.questions.proofs.CommentLemmas.{question-skipped}
use Rattle.asked_reads.specs.Program.{asks_for}
use Rattle.word_tables.specs.declared.geometry.Geometry.{Geometry}
use Rattle.exploration.specs.declared.asking.Wanted.TheVariants as wanted
use Rattle.exploration.specs.declared.reason.Reason.{Reason}
use Rattle.exploration.specs.declared.reason.Reason.TheVariants.{NotInALook, NothingAsked, ReadAfterAQuestion}
use Rattle.exploration.specs.Exploration.{Asked as AskedOf, Exploration, Look, asking_of, asks_of_reads, is_asked, look_from, look_start, script_of, script_of_parts, script_with, with_line, with_question, with_taken}
use Rattle.exploration.specs.Exploration.Script.{Taken}
use Rattle.exploration.specs.Lines.{LookLine, look_kind, look_line}
use Rattle.exploration.specs.Lines.LookLine.{Asks, Lists, Passes, Reads, Tables}
use Rattle.exploration.specs.Performing.{IsPerformed, commands_of}
use Rattle.exploration.specs.Program.{Parts, Untaken, action_in, first_of, go_on, parts_from, program_of, refused_from}
use Rattle.exploration.specs.Reads.{read_of}
use Rattle.exploration.proofs.LineLemmas.{program-length, refused-length}
use Rattle.exploration.proofs.PerformLemmas.{all-items, first-unasked, parts-read}

-- the read that a line of the look is
abbrev reads_in : LookLine → List Action
reads_in Passes = []
reads_in (Reads action) = action ∷ []
reads_in Tables = []
reads_in Lists = []
reads_in (Asks wanted replies) = []

same-reads : (made line : LookLine) (commands : List Action) → made ≡ line → commands ≡ reads_in made → commands ≡ reads_in line
same-reads made line commands is same = same ∙ ap reads_in is

kind-reads : (q : QuestionLine) (input : Input) (line : LookLine) → (q ≢ Plain → input ≡ Skipped) → look_kind q input ≡ Ok line → commands_of (input ∷ []) ≡ reads_in line
kind-reads Plain Skipped line skipped is = same-reads Passes line [] (cc) refl
kind-reads Plain Malformed line skipped is = absurd (cc)
kind-reads Plain Overlong line skipped is = absurd (cc)
kind-reads Plain (Asked action) line skipped is = go (is_some (read_of action)) is
  where
    go : (b : Bool) → (if b then Ok (Reads action) else Err NotInALook) ≡ Ok line → action ∷ [] ≡ reads_in line
    go true is = same-reads (Reads action) line (action ∷ []) (cc) refl
    go false is = absurd (cc)
kind-reads AsksBegin input line skipped is = absurd (cc)
kind-reads AsksRefusal input line skipped is = absurd (cc)
kind-reads AsksLook input line skipped is = absurd (cc)
kind-reads AsksList input line skipped is = ap (λ i. commands_of (i ∷ [])) (skipped (λ e. absurd (cc))) ∙ same-reads Lists line [] (cc) refl
kind-reads Tabulates input line skipped is = ap (λ i. commands_of (i ∷ [])) (skipped (λ e. absurd (cc))) ∙ same-reads Tables line [] (cc) refl
kind-reads (Never replies) input line skipped is = ap (λ i. commands_of (i ∷ [])) (skipped (λ e. absurd (cc))) ∙ same-reads (Asks wanted.Never replies) line [] (cc) refl
kind-reads (May replies) input line skipped is = ap (λ i. commands_of (i ∷ [])) (skipped (λ e. absurd (cc))) ∙ same-reads (Asks wanted.May replies) line [] (cc) refl
kind-reads Misspelled input line skipped is = absurd (cc)
kind-reads (NoReply k) input line skipped is = absurd (cc)

-- the reads of a look, where it goes on
abbrev reads_or : List Action → Result Look Reason → List Action
reads_or reads (Err why) = reads
reads_or reads (Ok look) = look.reads

line-reads : (geo : Geometry) (look next : Look) (line : LookLine) → with_line geo look line ≡ Ok next → next.reads ≡ look.reads ++ reads_in line
line-reads geo look next Passes is = ap (reads_or []) (sym is) ∙ sym (append-nil look.reads)
line-reads geo look next (Reads action) is = go (is_asked look) is
  where
    go : (b : Bool) → (if b then Err ReadAfterAQuestion else Ok (record look { reads = look.reads ++ action ∷ [] })) ≡ Ok next → next.reads ≡ look.reads ++ action ∷ []
    go true is = absurd (cc)
    go false is = ap (reads_or []) (sym is)
line-reads geo look next Tables is = ap (reads_or []) (sym is) ∙ sym (append-nil look.reads)
line-reads geo look next Lists is = ap (reads_or []) (sym is) ∙ sym (append-nil look.reads)
line-reads geo look next (Asks wanted replies) is = go (asking_of geo look.reads wanted replies) is
  where
    go : (r : Result AskedOf Reason) → with_question look r ≡ Ok next → next.reads ≡ look.reads ++ []
    go (Err why) is = absurd (cc)
    go (Ok question) is = ap (reads_or []) (sym is) ∙ sym (append-nil look.reads)

commands-more : (input : Input) (inputs : List Input) → commands_of (input ∷ inputs) ≡ commands_of (input ∷ []) ++ commands_of inputs
commands-more Skipped inputs = refl
commands-more Malformed inputs = refl
commands-more Overlong inputs = refl
commands-more (Asked action) inputs = refl

taken-reads : (geo : Geometry) (look next : Look) (line : List ℕ) (kind : Result LookLine Reason) → look_line line ≡ kind → with_taken geo look kind ≡ Ok next → next.reads ≡ look.reads ++ commands_of (line_input line ∷ [])
taken-reads geo look next line (Err why) found is = absurd (cc)
taken-reads geo look next line (Ok l) found is =
    line-reads geo look next l is ∙ ap (λ reads. look.reads ++ reads) (sym (kind-reads (question_line line) (line_input line) l (question-skipped line) found))

abbrev unasked : ℕ → Result Look Untaken
unasked n = Err (record { number = n; why = NothingAsked })

abbrev reads_at : List Action → Result Look Untaken → List Action
reads_at reads (Err stop) = reads
reads_at reads (Ok look) = look.reads

look-reads : (geo : Geometry) (n : ℕ) (look end : Look) (lines : List (List ℕ)) → look_from geo n look lines ≡ Ok end → end.reads ≡ look.reads ++ commands_of (inputs_of lines)
look-reads geo n look end [] is = go (asks_of_reads look) is
  where
    go : (b : Bool) → (if b then Ok look else unasked n) ≡ Ok end → end.reads ≡ look.reads ++ []
    go true is = ap (reads_at []) (sym is) ∙ sym (append-nil look.reads)
    go false is = absurd (cc)
look-reads geo n look end (line ∷ lines) is = go (with_taken geo look (look_line line)) refl is (λ next e. look-reads geo (n + 1) next end lines e)
  where
    go : (r : Result Look Reason) → with_taken geo look (look_line line) ≡ r → go_on n (λ next. look_from geo (n + 1) next lines) r ≡ Ok end
        → ((next : Look) → look_from geo (n + 1) next lines ≡ Ok end → end.reads ≡ next.reads ++ commands_of (inputs_of lines)) → end.reads ≡ look.reads ++ commands_of (inputs_of (line ∷ lines))
    go (Err why) found is rest = absurd (cc)
    go (Ok next) found is rest =
        rest next is ∙ ap (λ reads. reads ++ commands_of (inputs_of lines)) (taken-reads geo look next line (look_line line) refl found)
        ∙ append_assoc look.reads (commands_of (line_input line ∷ [])) (commands_of (inputs_of lines))
        ∙ ap (λ reads. look.reads ++ reads) (sym (commands-more (line_input line) (inputs_of lines)))

-- so the script is performed
pub performed : (geo : Geometry) (text : List ℕ) (e : Exploration) → script_of geo text ≡ Taken e → IsPerformed text e
performed geo text e is = by_parts (parts_from [] (lines_of text)) refl is
  where
    by_look : (parts : Parts) (r : Result Look Untaken) → parts_from [] (lines_of text) ≡ Ok parts → look_from geo (length parts.lines + 2) look_start parts.look ≡ r → script_with parts.lines r ≡ Taken e → IsPerformed text e
    by_look parts (Err stop) found looked is = absurd (cc)
    by_look parts (Ok look) found looked is =
        let same : record { first = first_of parts.lines; program = program_of parts.lines; refused = refused_from false parts.lines; reads = look.reads; table = look.table; list = look.list; questions = look.questions } ≡ e = cc in
        let read = parts-read [] (lines_of text) parts found in
        subst (IsPerformed text) same (record {
          before = read.before;
          look = read.look;
          after = parts.look;
          cut = read.cut;
          program = read.same ∙ ap (λ lines. map asks_for (map action_in lines)) (sym read.program) ∙ ap (map asks_for) (sym (all-items parts.lines));
          unasked = first-unasked parts.lines;
          refused = refused-length false parts.lines ∙ sym (program-length parts.lines);
          reads = sym (look-reads geo (length parts.lines + 2) look_start look parts.look looked);
        })

    by_parts : (r : Result Parts Untaken) → parts_from [] (lines_of text) ≡ r → script_of_parts geo r ≡ Taken e → IsPerformed text e
    by_parts (Err stop) found is = absurd (cc)
    by_parts (Ok parts) found is = by_look parts (look_from geo (length parts.lines + 2) look_start parts.look) found refl is
