-- What reading a question may give.
use Rattle.std.specs.Prelude.{◌≡◌, ◌⊎◌, ℕ, List, [], ◌∷◌, codes, map, Option, Some, None, option_map, Result, Ok, Err}
use Rattle.nvm_base.specs.Stock.{Stock}
use Rattle.reply_text.specs.Answer.{Answer}
use Rattle.questions.specs.declared.question.QuestionFault.{QuestionFault}
use Rattle.questions.specs.declared.question.QuestionFault.TheVariants as fault
use Rattle.questions.specs.declared.reply.ReplyFault.{ReplyFault}
use Rattle.questions.specs.declared.reply.ReplyFault.TheVariants.{Syntax, Memory}
use Rattle.questions.specs.declared.question.QuestionKind.{QuestionKind}
use Rattle.questions.specs.declared.reply.AskedReply.{AskedReply}
use Rattle.questions.specs.Asked.{answer_asked}
use Rattle.questions.specs.Question.{QuestionLine, line_of}
use Rattle.questions.specs.Question.QuestionLine.{Misspelled, NoReply}

-- what came of words that spell this reply
abbrev pub ReadsReply : Option Answer → Result AskedReply ReplyFault → Type 0
ReadsReply asks (Ok reply) = asks ≡ Some (answer_asked reply)
ReadsReply asks (Err Syntax) = asks ≡ None
ReadsReply asks (Err Memory) = Unit {0}

-- what came of words that ask this of one read
abbrev pub ReadsPart : Option (Option Answer) → Result (Option AskedReply) ReplyFault → Type 0
ReadsPart asks (Ok reply) = asks ≡ Some (option_map answer_asked reply)
ReadsPart asks (Err Syntax) = asks ≡ None
ReadsPart asks (Err Memory) = Unit {0}

-- what came of words that ask this of reads
abbrev pub ReadsReplies : Result (List (Option Answer)) ℕ → Result (Stock (Option AskedReply)) QuestionFault → Type 0
ReadsReplies asks (Ok replies) = asks ≡ Ok (map (option_map answer_asked) replies.items)
ReadsReplies asks (Err (fault.Reply k)) = asks ≡ Err k
ReadsReplies asks (Err fault.Spelling) = ⊥
ReadsReplies asks (Err fault.Memory) = Unit {0}

-- what came of a line that stands for this
abbrev pub Reads : QuestionLine → Result QuestionKind QuestionFault → Type 0
Reads line (Ok kind) = line ≡ line_of kind
Reads line (Err fault.Spelling) = line ≡ Misspelled
Reads line (Err (fault.Reply k)) = line ≡ NoReply k
Reads line (Err fault.Memory) = Unit {0}

-- the first word is `never` or `may`
abbrev pub BeginsWithQuestion : List (List ℕ) → Type 0
BeginsWithQuestion [] = ⊥
BeginsWithQuestion (word ∷ words) = (word ≡ codes "never") ⊎ (word ≡ codes "may")

-- the first words are `#`, and `never` or `may`
abbrev pub AsksOfReads : List (List ℕ) → Type 0
AsksOfReads [] = ⊥
AsksOfReads (mark ∷ words) = (mark ≡ codes "#") × BeginsWithQuestion words
