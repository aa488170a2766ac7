-- What follows from what a call's answer says.
use Rattle.std.proofs.Common.{◌≡◌, Option, Some, None, Result, Ok, Err, IsErrAnd, OnErr, OnOk, ap, ◌∙◌}
use Rattle.line_words.specs.Told.{Checks, Told, refusal_of}
use Rattle.nvm_model.specs.Blocks.{first_there}

pub on_ok-then : {T E : Type 0} (r : Result T E) {P Q : Type 0} → (P → Q) → OnOk r P → OnOk r Q
on_ok-then (Ok x) next holds = next holds
on_ok-then (Err e) next holds = tt

pub on_ok-always : {T E : Type 0} (r : Result T E) {P : Type 0} → P → OnOk r P
on_ok-always (Ok x) holds = holds
on_ok-always (Err e) holds = tt

-- what holds in each case
pub by_answer : {T E : Type 0} (r : Result T E) {P Q R : Type 0} → (P → R) → (Q → R) → OnOk r P → OnErr r Q → R
by_answer (Ok x) ok err done stopped = ok done
by_answer (Err e) ok err done stopped = err stopped

-- what the first of two tests finds, and what the second does where the first passes
pub checks_first : {E R : Type 0} (says : E → Told R) (S T : Type 0) (a b : Option R) (f g : E) → g ≡ f → Checks {T = S} says a (Err f) → Checks {T = T} says (first_there a b) (Err g)
checks_first says S T None b f g is h = absurd h
checks_first says S T (Some why) b f g is h = ap (λ e. refusal_of (says e)) is ∙ h

-- the same of an error that is handed on
pub checks_found : {E R : Type 0} (says : E → Told R) (S T : Type 0) (a b : Option R) (f : E) (r : Result T E) → IsErrAnd r (λ g. g ≡ f) → Checks {T = S} says a (Err f) → Checks {T = T} says (first_there a b) r
checks_found says S T a b f (Ok x) is h = absurd is
checks_found says S T a b f (Err g) is h = checks_first says S T a b f g is h

pub checks_second : {E R S T : Type 0} (says : E → Told R) (a b : Option R) (x : S) (r : Result T E) → Checks says a (Ok x) → Checks says b r → Checks says (first_there a b) r
checks_second says None b x r h k = k
checks_second says (Some why) b x r h k = absurd h
