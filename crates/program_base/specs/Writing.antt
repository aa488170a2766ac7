-- What was written of a text.
use Rattle.std.specs.Prelude.{◌≡◌, ◌++◌, ℕ, List, Option, Result, Err}
use Rattle.std.specs.Io.KnownBytes.{Appends}
use Rattle.nvm_base.specs.Counts.{Rose}
use Rattle.host_io.specs.Writing.{WritesAll}
use Rattle.host_io.specs.declared.sink.WriteFault.{WriteFault}
use Rattle.host_io.specs.declared.sink.WriteFault.TheVariants.{Failed}

-- `part` is how `whole` begins
pub record IsFront (part whole : List ℕ) : Type 0 where
  pub rest : List ℕ
  pub joined : part ++ rest ≡ whole

-- some of the text was written, from the front
pub record WritesFront (text : List ℕ) (old new : Option (List ℕ)) : Type 0 where
  pub part : List ℕ
  pub front : IsFront part text
  pub wrote : Appends old new part

-- A line was written: all of it, unless the sink's count rose or it wanted memory.
pub record WritesLine (text : List ℕ) (count_old count_new : ℕ) (old new : Option (List ℕ)) : Type 0 where
  pub outcome : Result (Unit {0}) WriteFault
  pub wrote : WritesAll text outcome old new
  pub cause : outcome ≡ Err Failed → Rose count_old count_new
