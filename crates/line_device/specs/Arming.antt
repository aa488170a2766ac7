-- What is armed, by how many counted calls are left until it fires.
use Rattle.std.specs.Prelude.{ℕ, Bool, false, ◌&&◌, ◌-◌, nat_le, Option, Some, None, if◌then◌else◌}
use Rattle.line_device.specs.Panel.{Outcome}
use Rattle.line_device.specs.Panel.Outcome.{went, failed, lost}

-- the next counted call is the one
abbrev pub is_due : Option ℕ → Bool
is_due None = false
is_due (Some calls) = nat_le calls 1

-- what is left after a counted call
abbrev pub counted_down : Option ℕ → Option ℕ
counted_down None = None
counted_down (Some calls) = if nat_le calls 1 then None else Some (calls - 1)

-- how the next counted call ends as far as what is armed goes; a cut comes before a failure
abbrev pub next_end : Option ℕ → Option ℕ → Outcome
next_end cut fail = if is_due cut then lost else (if is_due fail then failed else went)

-- the failure's calls after a counted call: where a cut took that call, a failure that is due waits for the next one
abbrev pub fail_after : Option ℕ → Option ℕ → Option ℕ
fail_after cut fail = if is_due cut && is_due fail then fail else counted_down fail
