-- A source that is read to its end.
use Rattle.std.proofs.Common.{◌≡◌, ◌≤◌, ℕ, List, [], ◌++◌, length, take, drop, Option, Some, None, sym, subst, ◌∙◌, append-nil, length-append, arith}
use Rattle.std.specs.Prelude.{IfSome}
use Rattle.std.specs.Io.KnownBytes.{Consumes, Keeps}
use Rattle.std.proofs.lemmas.List.{take-append-le, take_all}
use Rattle.nvm_base.specs.Counts.{Rose}
use Rattle.program_base.proofs.BytesLemmas.{consumes-keeps, consumes_then}

-- nothing more was taken
pub consumes-kept : (a b c : Option (List ℕ)) (taken : List ℕ) → Consumes a b taken → Keeps b c → Consumes a c taken
consumes-kept a b c taken read keeps = subst (Consumes a c) (append-nil taken) (consumes_then a b c taken [] read (consumes-keeps b c keeps))

pub consumes-end : (a b c : Option (List ℕ)) (taken piece : List ℕ) → Consumes a b taken → Consumes b c (take 0 piece) → Consumes a c taken
consumes-end a b c taken piece read last = subst (Consumes a c) (append-nil taken) (consumes_then a b c taken [] read last)

-- a source that gave so many bytes had them
pub had_bytes : (n : ℕ) (a b : Option (List ℕ)) (taken : List ℕ) → Consumes a b taken → n ≤ length taken → IfSome a (λ script. n ≤ length script)
had_bytes n None b taken read many = tt
had_bytes n (Some xs) None taken read many = absurd read
had_bytes n (Some xs) (Some ys) taken read many = subst (λ script. n ≤ length script) (sym read) (omega (arith, many, length-append taken ys))

-- a later count rose all the more
pub rose-from : (a b c : ℕ) → a ≤ b → Rose b c → Rose a c
rose-from a b c later rose = omega (arith, later, rose)

-- a buffer that was lent as a whole holds what was put there
pub lent_whole : (n : ℕ) (lent rest : List ℕ) → n ≡ length lent → take n (lent ++ drop (length lent) rest) ≡ lent
lent_whole n lent rest whole = take-append-le n lent (drop (length lent) rest) (omega (arith, whole)) ∙ take_all n lent (omega (arith, whole))
