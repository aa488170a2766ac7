-- What is so where a call did well.
use Rattle.std.proofs.Common.{Result, Ok, Err}
use Rattle.std.specs.Result.{IfOk}

pub on_found_all : {A E : Type 0} {P Q R S : A → Type 0} (result : Result A E) → ((x : A) → P x → Q x → R x → S x) → IfOk result P → IfOk result Q → IfOk result R → IfOk result S
on_found_all (Ok x) so p q r = so x p q r
on_found_all (Err e) so p q r = tt
