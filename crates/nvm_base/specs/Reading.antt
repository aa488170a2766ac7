-- DATA that is read part by part.
use Rattle.std.specs.Prelude.{◌≡◌, ℕ, ◌+◌, ◌<◌, List, ◌++◌, Option, Some, None}
use Rattle.nvm_base.specs.declared.reading.Reading.{Reading}
use Rattle.nvm_base.specs.declared.reading.TextFault.{TextFault}
use Rattle.nvm_base.specs.declared.reading.TextFault.TheVariants.{Bad, TooLong, Memory}
use Rattle.nvm_base.specs.Data.{ByteRun, byte_count, spelled}

-- what is left of the room and the bytes after some runs; once they pass the room, nothing more is kept
abbrev pub HasRead : ℕ → List ByteRun → List ℕ → Option ℕ → Type 0
HasRead room runs bytes (Some left) = (byte_count runs + left ≡ room) × (bytes ≡ spelled runs)
HasRead room runs bytes None = room < byte_count runs

-- the runs were read besides
pub record Adds (runs : List ByteRun) (old new : Reading) : Type 0 where
  pub reads : (room : ℕ) (before : List ByteRun) → HasRead room before old.bytes.items old.left → HasRead room (before ++ runs) new.bytes.items new.left

-- why a text that spells these runs was refused: it spells none, or for want of memory
abbrev pub Refuses : Option (List ByteRun) → TextFault → Type 0
Refuses o Bad = o ≡ None
Refuses o TooLong = ⊥
Refuses o Memory = Unit {0}
