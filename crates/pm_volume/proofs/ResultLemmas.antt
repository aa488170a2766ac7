-- What follows from what a call's answer says.
use Rattle.std.proofs.Common.{◌≡◌, Bool, IsTrue, Result, Ok, Err, OnOk}
use Rattle.std.specs.Result.{is_ok}
pub use Rattle.page_lines.proofs.ResultLemmas.{on_ok-always}

pub on_ok-both : {T E : Type 0} (r : Result T E) {P Q R : Type 0} → (P → Q → R) → OnOk r P → OnOk r Q → OnOk r R
on_ok-both (Ok x) next p q = next p q
on_ok-both (Err e) next p q = tt

pub on_ok-is : {T E : Type 0} (r : Result T E) (b : Bool) → b ≡ is_ok r → OnOk r (IsTrue b)
on_ok-is (Ok x) b is = is
on_ok-is (Err e) b is = tt
