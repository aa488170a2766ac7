-- What a line of a script asks.
use Rattle.std.specs.Prelude.{◌==◌, ◌+◌, ℕ, List, [], ◌∷◌, map, length, nat_lt, Option, Some, None, option_map, Result, Ok, Err, if◌then◌else◌, codes}
use Rattle.std.specs.Io.BufRead.{strip_last}
use Rattle.std.specs.Str.{bytes_eq}
use Rattle.reply_text.specs.Answer.{Answer}
use Rattle.script_text.specs.Script.{words_of}
use Rattle.questions.specs.declared.question.QuestionKind.{QuestionKind}
use Rattle.questions.specs.declared.question.QuestionKind.TheVariants as kind
use Rattle.questions.specs.Asked.{answer_asked, part_asked}
use Rattle.questions.specs.Near.{is_near}
use Rattle.questions.specs.Parts.{parts_of}

-- a line: no question, the place from which cuts are asked about, a mark that the next command is to be refused, the start of the reads, a
-- list of outcomes, a table of values, replies that the reads are to have after no cut, and after some cut, a
-- question that is not spelled right, or one whose reply of that number is none
pub data QuestionLine : Type 0 where
  Plain : QuestionLine
  Begins : QuestionLine
  Refuses : QuestionLine
  Look : QuestionLine
  Lists : QuestionLine
  Tabulates : QuestionLine
  Never : List (Option Answer) → QuestionLine
  May : List (Option Answer) → QuestionLine
  Misspelled : QuestionLine
  NoReply : ℕ → QuestionLine

-- what a line's kind is
abbrev pub line_of : QuestionKind → QuestionLine
line_of kind.Plain = Plain
line_of kind.Begin = Begins
line_of kind.Refused = Refuses
line_of kind.Look = Look
line_of kind.List = Lists
line_of kind.Table = Tabulates
line_of (kind.Never replies) = Never (map (option_map answer_asked) replies.items)
line_of (kind.May replies) = May (map (option_map answer_asked) replies.items)

-- the reply of that number before others, where all are there, and else the number of the first that is not
abbrev pub with_reply : ℕ → Option (Option Answer) → Result (List (Option Answer)) ℕ → Result (List (Option Answer)) ℕ
with_reply k None more = Err k
with_reply k (Some reply) (Err n) = Err n
with_reply k (Some reply) (Ok more) = Ok (reply ∷ more)

-- what parts ask of one read each, from number k on
abbrev pub parts_asked : ℕ → List (List (List ℕ)) → Result (List (Option Answer)) ℕ
parts_asked k [] = Ok []
parts_asked k (part ∷ parts) = with_reply k (part_asked part) (parts_asked (k + 1) parts)

-- the question of that kind, of these replies
abbrev pub replies_line : (List (Option Answer) → QuestionLine) → Result (List (Option Answer)) ℕ → QuestionLine
replies_line of (Err k) = NoReply k
replies_line of (Ok replies) = of replies

-- the question, where no word is left
abbrev pub alone : QuestionLine → List (List ℕ) → QuestionLine
alone line [] = line
alone line (word ∷ words) = Misspelled

-- what a comment is that asks nothing as it is spelled
abbrev pub near_question : List ℕ → List (List ℕ) → QuestionLine
near_question word words = if is_near word words then Misspelled else Plain

-- what the words of a comment ask
unfoldable pub comment_question : List (List ℕ) → QuestionLine
comment_question [] = Plain
comment_question (word ∷ words) =
    if bytes_eq word (codes "look") then alone Look words
    else (if bytes_eq word (codes "list") then alone Lists words
    else (if bytes_eq word (codes "table") then alone Tabulates words
    else (if bytes_eq word (codes "never") then replies_line Never (parts_asked 1 (parts_of words))
    else (if bytes_eq word (codes "may") then replies_line May (parts_asked 1 (parts_of words))
    else (if bytes_eq word (codes "begin") then alone Begins words
    else (if bytes_eq word (codes "refused") then alone Refuses words else near_question word words))))))

-- what the words of a line ask that begins with such a word, where it is no `#` alone
abbrev pub marked_question : List ℕ → List (List ℕ) → QuestionLine
marked_question [] words = Plain
marked_question (c ∷ word) words = if c == 35 then near_question word words else Plain

-- what the words of a line ask: those of a comment behind a `#` alone
abbrev pub words_question : List (List ℕ) → QuestionLine
words_question [] = Plain
words_question (mark ∷ words) = if bytes_eq mark (codes "#") then comment_question words else marked_question mark words

-- A line of over 65,536 bytes asks nothing. One carriage return at its end is dropped.
unfoldable pub question_line : List ℕ → QuestionLine
question_line line = if nat_lt 65536 (length line) then Plain else words_question (words_of (strip_last 13 line))
