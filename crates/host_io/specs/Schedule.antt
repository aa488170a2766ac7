-- Calls that are to fail.
use Rattle.std.specs.Prelude.{ℕ, Bool, ◌==◌, List, if◌then◌else◌}
use Rattle.std.specs.List.{list_any}
use Rattle.nvm_base.specs.Counts.{raised}

-- the numbers of the calls that fail, from 1; how many calls there were, and how many failed
pub record Schedule : Type 0 where
  pub numbers : List ℕ
  pub calls : ℕ
  pub faults : ℕ

-- before the first call
abbrev pub schedule_of : List ℕ → Schedule
schedule_of numbers = record { numbers = numbers; calls = 0; faults = 0 }

-- the next call fails
abbrev pub fails_next : Schedule → Bool
fails_next s = list_any (λ n. n == raised s.calls) s.numbers

-- after one more call
abbrev pub schedule_after : Schedule → Schedule
schedule_after s = record { numbers = s.numbers; calls = raised s.calls; faults = if fails_next s then raised s.faults else s.faults }
