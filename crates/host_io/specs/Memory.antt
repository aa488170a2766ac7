-- Sources and sinks in memory.
use Rattle.std.specs.Prelude.{ℕ, List}
use Rattle.host_io.specs.Schedule.{Schedule}

-- the bytes left, how many of them a call gives at most, and the calls that fail
pub record Supply : Type 0 where
  pub left : List ℕ
  pub piece : ℕ
  pub calls : Schedule

-- the bytes written, and the calls that fail
pub record Written : Type 0 where
  pub bytes : List ℕ
  pub calls : Schedule
