-- What is so where a call did well.
use Rattle.std.proofs.Common.{Result, Ok, Err}
use Rattle.std.specs.Result.{OnOk}

pub on_ok : {A E : Type 0} {P Q : Type 0} (result : Result A E) → (P → Q) → OnOk result P → OnOk result Q
on_ok (Ok x) so is = so is
on_ok (Err e) so is = tt

pub on_ok_all : {A E : Type 0} {P Q R S : Type 0} (result : Result A E) → (P → Q → R → S) → OnOk result P → OnOk result Q → OnOk result R → OnOk result S
on_ok_all (Ok x) so p q r = so p q r
on_ok_all (Err e) so p q r = tt
