-- Words below a number, and those of them that pass a test.
use Rattle.std.specs.Prelude.{ℕ, zero, suc, Bool, false, ◌||◌}

-- a number below this one passes the test
unfoldable pub any_below : ℕ → (ℕ → Bool) → Bool
any_below zero test = false
any_below (suc n) test = test n || any_below n test
