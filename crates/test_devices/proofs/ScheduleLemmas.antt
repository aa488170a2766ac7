-- What a numbered call leaves of the failures that are to come.
use Rattle.std.proofs.Common.{◌≡◌, ◌+◌, ◌<◌, ◌==◌, ◌^◌, ℕ, true, false, List, [], ◌∷◌, nat_lt, refl, arith}
use Rattle.std.specs.Bool.{IsTrue}
use Rattle.std.specs.List.{list_any}
use Rattle.nvm_base.specs.Counts.{raised}
use Rattle.test_devices.specs.Schedule.{Schedule, fails_next, is_to_come, schedule_after}

due_in : (c : ℕ) (ns : List ℕ) → list_any (λ n. n == c + 1) ns ≡ true → list_any (λ n. nat_lt c n) ns ≡ true
due_in c [] h = h
due_in c (n ∷ ns) h =
    let rest = due_in c ns in grind arith

fewer_in : (c : ℕ) (ns : List ℕ) → c < 2 ^ 64 → list_any (λ n. nat_lt (raised c) n) ns ≡ true → list_any (λ n. nat_lt c n) ns ≡ true
fewer_in c [] small h = h
fewer_in c (n ∷ ns) small h =
    let rest = fewer_in c ns small in grind arith

same_in : (c : ℕ) (ns : List ℕ) → c < 2 ^ 64 → list_any (λ n. n == c + 1) ns ≡ false → list_any (λ n. nat_lt (raised c) n) ns ≡ list_any (λ n. nat_lt c n) ns
same_in c [] small h = refl
same_in c (n ∷ ns) small h =
    let rest = same_in c ns small in grind arith

pub due : (s : Schedule) → IsTrue (fails_next s) → IsTrue (is_to_come s)
due s = due_in s.calls s.numbers

pub fewer : (s : Schedule) → s.calls < 2 ^ 64 → IsTrue (is_to_come (schedule_after s)) → IsTrue (is_to_come s)
fewer s = fewer_in s.calls s.numbers

pub same : (s : Schedule) → s.calls < 2 ^ 64 → fails_next s ≡ false → is_to_come (schedule_after s) ≡ is_to_come s
same s = same_in s.calls s.numbers
