-- Bytes read or written in stretches.
use Rattle.std.proofs.Common.{ℕ, List, [], ◌++◌, Option, Some, None, refl, sym, ap, ◌∙◌, append_assoc, append-nil}
use Rattle.std.specs.Io.KnownBytes.{Appends, Consumes, Keeps}

pub consumes-none : (o : Option (List ℕ)) → Consumes o o []
consumes-none None = tt
consumes-none (Some xs) = refl

pub consumes-keeps : (a b : Option (List ℕ)) → Keeps a b → Consumes a b []
consumes-keeps None b k = tt
consumes-keeps (Some xs) None k = k
consumes-keeps (Some xs) (Some ys) k = sym k

pub consumes_then : (a b c : Option (List ℕ)) (x y : List ℕ) → Consumes a b x → Consumes b c y → Consumes a c (x ++ y)
consumes_then None b c x y p q = tt
consumes_then (Some xs) None c x y p q = absurd p
consumes_then (Some xs) (Some ys) None x y p q = q
consumes_then (Some xs) (Some ys) (Some zs) x y p q = p ∙ ap (λ r. x ++ r) q ∙ sym (append_assoc x y zs)

pub appends-none : (o : Option (List ℕ)) → Appends o o []
appends-none None = tt
appends-none (Some xs) = sym (append-nil xs)

pub appends_then : (a b c : Option (List ℕ)) (x y : List ℕ) → Appends a b x → Appends b c y → Appends a c (x ++ y)
appends_then None b c x y p q = tt
appends_then (Some xs) None c x y p q = absurd p
appends_then (Some xs) (Some ys) None x y p q = q
appends_then (Some xs) (Some ys) (Some zs) x y p q = q ∙ ap (λ r. r ++ y) p ∙ append_assoc xs x y
