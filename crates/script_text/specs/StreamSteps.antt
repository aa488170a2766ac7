-- The steps in which a line is read.
use Rattle.std.specs.Prelude.{◌≡◌, ◌≤◌, ◌<◌, ◌+◌, ℕ, Bool, true, false, IsTrue, IsFalse, List, [], ◌∷◌, ◌++◌, length, Option, Result, Ok, Err}
use Rattle.std.specs.Io.KnownBytes.{Consumes, IsAtEnd}
use Rattle.script_text.specs.declared.next_line.InputFault.{InputFault}
use Rattle.script_text.specs.declared.next_line.InputFault.TheVariants.{Failed, TooLarge}
use Rattle.script_text.specs.declared.next_line.NextLine.TheVariants.{End}
use Rattle.script_text.specs.Streaming.{Stream, Gives, IsFirstLine, IsUnbroken, kept}

-- What filling a piece brings: the bytes that it holds from then on, none only at the source's end.
abbrev pub FillsPiece : {E : Type 0} → Option (List ℕ) → Option (List ℕ) → List ℕ → Result ℕ E → Type 0
FillsPiece left_old left_new new (Ok count) = Consumes left_old left_new new × (length new ≡ count) × (count ≤ 65536) × (count ≡ 0 → IsAtEnd left_new)
FillsPiece left_old left_new new (Err e) = Consumes left_old left_new [] × (new ≡ [])

-- what is left behind a part of a line: what comes after its newline, or nothing
abbrev pub SplitsOff : List ℕ → List ℕ → List ℕ → Bool → Type 0
SplitsOff part old new true = old ≡ part ++ 10 ∷ new
SplitsOff part old new false = (old ≡ part) × (new ≡ [])

-- Taking what waits of a line: up to its newline, or all that waits.
pub record TakesPart (old new : Stream) (whole : Bool) : Type 0 where
  pub part : List ℕ
  pub unbroken : IsUnbroken part
  pub line : (line : List ℕ) → old.line ≡ kept line → new.line ≡ kept (line ++ part)
  pub split : SplitsOff part old.waiting new.waiting whole
  pub taken : new.taken ≡ old.taken
  pub ended : new.ended ≡ old.ended

-- Reading on: more bytes wait, or the source ended, or no more may be taken.
abbrev pub Brings : List ℕ → Stream → Stream → Result Bool InputFault → Type 0
Brings taken old new (Ok true) = (0 < length taken) × IsFalse old.ended × IsFalse new.ended × (old.taken < 1073741824)
Brings taken old new (Ok false) = (taken ≡ []) × IsTrue new.ended × (new.taken < 1073741824)
Brings taken old new (Err Failed) = (taken ≡ []) × IsFalse old.ended × IsFalse new.ended × (old.taken < 1073741824)
Brings taken old new (Err TooLarge) = (taken ≡ []) × IsFalse old.ended × IsFalse new.ended × (1073741824 ≤ old.taken)

pub record ReadsOn (old new : Stream) (left_old left_new : Option (List ℕ)) (result : Result Bool InputFault) : Type 0 where
  pub taken : List ℕ
  pub read : Consumes left_old left_new taken
  pub count : new.taken ≡ old.taken + length taken
  pub waiting : new.waiting ≡ taken
  pub line : new.line ≡ old.line
  pub brings : Brings taken old new result
  pub ends : (IsTrue old.ended → IsAtEnd left_old) → IsTrue new.ended → IsAtEnd left_new

-- Reading a line out, whatever its length: whether there was one.
pub record FirstLine (bytes : List ℕ) (new : Stream) : Type 0 where
  pub line : List ℕ
  pub first : IsFirstLine new.ended bytes line new.waiting
  pub kept : new.line ≡ kept line
  pub shorter : length new.waiting < length bytes

abbrev pub GivesOut : List ℕ → Stream → Result Bool InputFault → Type 0
GivesOut bytes new (Ok true) = FirstLine bytes new
GivesOut bytes new (Ok false) = Gives bytes new (Ok End)
GivesOut bytes new (Err e) = Gives bytes new (Err e)

pub record ReadsOut (old new : Stream) (left_old left_new : Option (List ℕ)) (result : Result Bool InputFault) : Type 0 where
  pub taken : List ℕ
  pub read : Consumes left_old left_new taken
  pub count : new.taken ≡ old.taken + length taken
  pub gives : GivesOut (old.waiting ++ taken) new result
  pub stays : IsTrue old.ended → (taken ≡ []) × IsTrue new.ended
  pub ends : (IsTrue old.ended → IsAtEnd left_old) → IsTrue new.ended → IsAtEnd left_new
