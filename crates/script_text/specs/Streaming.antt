-- Reading a script line by line.
use Rattle.std.specs.Prelude.{◌≡◌, ◌≢◌, ◌≤◌, ◌<◌, ◌+◌, ◌-◌, ℕ, Bool, false, IsTrue, IsFalse, List, [], ◌∷◌, ◌++◌, length, nat_lt, Option, Some, None, Result, Ok, Err, All, IsSomeAnd, if◌then◌else◌}
use Rattle.std.specs.Io.KnownBytes.{Consumes, IsAtEnd}
use Rattle.script_text.specs.declared.next_line.InputFault.{InputFault}
use Rattle.script_text.specs.declared.next_line.InputFault.TheVariants.{Failed, TooLarge}
use Rattle.script_text.specs.declared.next_line.NextLine.{NextLine}
use Rattle.script_text.specs.declared.next_line.NextLine.TheVariants.{Line, TooLong, End}
use Rattle.script_text.specs.Script.{lines_of}

-- what is kept of a line: nothing where it is longer than a line may be
unfoldable pub kept : List ℕ → Option (List ℕ)
kept line = if nat_lt 65536 (length line) then None else Some line

-- A reader of lines: what is kept of the line read last, the bytes taken that no line was given of, how many were taken, and whether the source
-- came to its end.
pub record Stream : Type 0 where
  pub line : Option (List ℕ)
  pub waiting : List ℕ
  pub taken : ℕ
  pub ended : Bool

-- before the first line
abbrev pub stream_start : Stream
stream_start = record { line = Some []; waiting = []; taken = 0; ended = false }

-- how many bytes may still be given, of those that wait and those that may be taken: each line that is given makes them fewer
abbrev pub ahead : Stream → ℕ
ahead s = 1073807360 - s.taken + length s.waiting

-- none of the bytes is a newline
abbrev pub IsUnbroken : List ℕ → Type 0
IsUnbroken bytes = All (λ b. b ≢ 10) bytes

-- Whatever comes after the bytes, this is their first line, and the others are those of the rest. Nothing comes after the end.
abbrev pub IsFirstLine : Bool → List ℕ → List ℕ → List ℕ → Type 0
IsFirstLine ended bytes line rest = (more : List ℕ) → (IsTrue ended → more ≡ []) → lines_of (bytes ++ more) ≡ line ∷ lines_of (rest ++ more)

-- a first line that is longer than a line may be
pub record LongLine (bytes : List ℕ) (new : Stream) : Type 0 where
  pub line : List ℕ
  pub long : 65536 < length line
  pub first : IsFirstLine new.ended bytes line new.waiting

-- What came of the bytes that waited or were taken: their first line, the end of all lines, or a fault before which every whole line was given.
abbrev pub Gives : List ℕ → Stream → Result NextLine InputFault → Type 0
Gives bytes new (Ok Line) = IsSomeAnd new.line (λ line. (length line ≤ 65536) × IsFirstLine new.ended bytes line new.waiting)
Gives bytes new (Ok TooLong) = LongLine bytes new
Gives bytes new (Ok End) = (bytes ≡ []) × (new.waiting ≡ []) × IsTrue new.ended × (new.taken < 1073741824)
Gives bytes new (Err Failed) = IsUnbroken bytes × IsFalse new.ended × (new.taken < 1073741824)
Gives bytes new (Err TooLarge) = IsUnbroken bytes × IsFalse new.ended × (1073741824 ≤ new.taken)

-- What was given of a script up to here: whatever comes, its lines are these, and then those of what waits and what comes.
abbrev pub HasGiven : List ℕ → List (List ℕ) → Stream → Type 0
HasGiven script given now = (more : List ℕ) → (IsTrue now.ended → more ≡ []) → lines_of (script ++ more) ≡ given ++ lines_of (now.waiting ++ more)

-- One call: it takes some bytes, none after the end.
pub record ReadsLine (old new : Stream) (left_old left_new : Option (List ℕ)) (result : Result NextLine InputFault) : Type 0 where
  pub taken : List ℕ
  pub read : Consumes left_old left_new taken
  pub count : new.taken ≡ old.taken + length taken
  pub gives : Gives (old.waiting ++ taken) new result
  pub stays : IsTrue old.ended → (taken ≡ []) × IsTrue new.ended
  pub ends : (IsTrue old.ended → IsAtEnd left_old) → IsTrue new.ended → IsAtEnd left_new

-- so many lines had the script that a source gave
pub record CountsLines (left_old left_new : Option (List ℕ)) (count : ℕ) : Type 0 where
  pub script : List ℕ
  pub read : Consumes left_old left_new script
  pub at_end : IsAtEnd left_new
  pub lines : count ≡ length (lines_of script)
