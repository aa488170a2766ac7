-- What is said of a line that is not taken.
use Rattle.std.specs.Prelude.{◌++◌, ℕ, ◌<◌, ◌^◌, List, [], codes, decimal}
use Rattle.exploration.specs.declared.reason.Reason.{Reason}
use Rattle.exploration.specs.declared.reason.Reason.TheVariants as why

-- the reply of that number, and what is wrong with it
abbrev pub numbered_text : ℕ → List ℕ → List ℕ
numbered_text k what = codes "reply " ++ (decimal k ++ what)

abbrev pub replies_text : ℕ → ℕ → List ℕ
replies_text given reads = codes "replies " ++ (decimal given ++ (codes " of " ++ decimal reads))

abbrev pub reason_text : Reason → List ℕ
reason_text why.TooLong = codes "toolong"
reason_text why.Spelling = codes "spelling"
reason_text why.Command = codes "command"
reason_text why.NotInAProgram = codes "not-in-a-program"
reason_text why.NotInALook = codes "not-in-a-look"
reason_text why.BeforeTheLook = codes "before-the-look"
reason_text why.ReadAfterAQuestion = codes "read-after-a-question"
reason_text why.Again = codes "again"
reason_text why.NoCommand = codes "no-command"
reason_text (why.Reply k) = numbered_text k []
reason_text (why.Replies given reads) = replies_text given reads
reason_text (why.Kind k) = numbered_text k (codes " kind")
reason_text (why.Length k) = numbered_text k (codes " length")
reason_text (why.Place k) = numbered_text k (codes " place")
reason_text (why.Refusal k) = numbered_text k (codes " refusal")
reason_text why.NothingAsked = codes "nothing-asked"

-- its numbers are below 2 ^ 64, as those that are held are
abbrev pub IsInRange : Reason → Type 0
IsInRange why.TooLong = Unit {0}
IsInRange why.Spelling = Unit {0}
IsInRange why.Command = Unit {0}
IsInRange why.NotInAProgram = Unit {0}
IsInRange why.NotInALook = Unit {0}
IsInRange why.BeforeTheLook = Unit {0}
IsInRange why.ReadAfterAQuestion = Unit {0}
IsInRange why.Again = Unit {0}
IsInRange why.NoCommand = Unit {0}
IsInRange (why.Reply k) = k < 2 ^ 64
IsInRange (why.Replies given reads) = (given < 2 ^ 64) × (reads < 2 ^ 64)
IsInRange (why.Kind k) = k < 2 ^ 64
IsInRange (why.Length k) = k < 2 ^ 64
IsInRange (why.Place k) = k < 2 ^ 64
IsInRange (why.Refusal k) = k < 2 ^ 64
IsInRange why.NothingAsked = Unit {0}
