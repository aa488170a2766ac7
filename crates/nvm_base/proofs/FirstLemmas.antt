-- The first of two answers that is there, and answers that are told by another.
use Rattle.std.proofs.Common.{◌≡◌, Option, Some, None, refl}
use Rattle.std.specs.Option.{option_map, option_or}

pub neither_there : {A : Type 0} (a b : Option A) → option_or a b ≡ None → (a ≡ None) × (b ≡ None)
neither_there None b is = (refl, is)
neither_there (Some x) b is = cc is

pub none_there : {A : Type 0} (a b : Option A) → a ≡ None → b ≡ None → option_or a b ≡ None
none_there None b first second = second
none_there (Some x) b first second = cc first

pub not_mapped : {A B : Type 0} (f : A → B) (o : Option A) → option_map f o ≡ None → o ≡ None
not_mapped f None is = refl
not_mapped f (Some x) is = cc is
