-- What a call that looks for its place first is answered.
use Rattle.std.proofs.Common.{◌≡◌, Option, Some, None, Result, Ok, Err, ap, ◌∙◌}
use Rattle.std.specs.Result.{IsErrAnd}
use Rattle.line_words.specs.Told.{Answers, Checks, Told, refusal_of}
use Rattle.line_words.specs.Told.Told.{Starves}

-- a call that looks for its place first is refused as that search is
pub told-ok : {T U E R : Type 0} (says : E → Told R) (why : Option R) (x : T) (y : U) → Checks says why (Ok x) → Answers says why (Ok y)
told-ok says None x y told = tt
told-ok says (Some w) x y told = absurd told

pub told-err : (T : Type 0) {U E R : Type 0} (says : E → Told R) (why : Option R) (fault : E) (r : Result U E) → Checks {T = T} says why (Err fault) → IsErrAnd r (λ f. f ≡ fault) → Answers says why r
told-err T says why fault (Ok x) told same = absurd same
told-err T says None fault (Err f) told same = absurd told
told-err T says (Some w) fault (Err f) told same = ap (λ e. refusal_of (says e)) same ∙ told

-- and one that then wants memory isn't refused
pub told-starved : {T U E R : Type 0} (says : E → Told R) (why : Option R) (x : T) (r : Result U E) → Checks says why (Ok x) → IsErrAnd r (λ f. says f ≡ Starves) → Answers says why r
told-starved says why x (Ok y) told starves = absurd starves
told-starved says None x (Err f) told starves = ap refusal_of starves
told-starved says (Some w) x (Err f) told starves = absurd told
