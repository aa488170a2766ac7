-- Calls that are to fail, by their numbers.
use Rattle.std.specs.Prelude.{ℕ, Bool, ◌+◌, ◌==◌, List, [], nat_lt}
use Rattle.std.specs.List.{list_any}
use Rattle.nvm_base.specs.Counts.{raised}

-- the numbers of the calls that fail, from 1, and how many calls there were
pub record Schedule : Type 0 where
  pub numbers : List ℕ
  pub calls : ℕ

-- before the first call
abbrev pub schedule_of : List ℕ → Schedule
schedule_of numbers = record { numbers = numbers; calls = 0 }

-- the next call fails
abbrev pub fails_next : Schedule → Bool
fails_next s = list_any (λ n. n == s.calls + 1) s.numbers

-- some call that fails is still to come
abbrev pub is_to_come : Schedule → Bool
is_to_come s = list_any (λ n. nat_lt s.calls n) s.numbers

-- after one more call
abbrev pub schedule_after : Schedule → Schedule
schedule_after s = record s { calls = raised s.calls }

-- no call fails any more
abbrev pub schedule_ended : Schedule → Schedule
schedule_ended s = record s { numbers = [] }
