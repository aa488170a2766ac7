-- What follows from what faults tell, whatever the crate's faults and refusals are.
use Rattle.std.proofs.Common.{◌≡◌, ◌≢◌, true, Option, Some, None, Result, Ok, Err, refl, sym, ◌∙◌, ap}
use Rattle.std.specs.Result.{IsErrAnd}
use Rattle.line_device.specs.Panel.Outcome.{went}
use Rattle.line_words.specs.declared.interruption.Interruption.{Interruption}
use Rattle.line_words.specs.Ending.{stop_outcome}
use Rattle.line_words.specs.Told.{Told, refusal_of, told_outcome, outcome_by, is_done, IsStop, IfRefused, Answers, Checks, Explains, Finds, OnRefused, OnWorked}
use Rattle.line_words.specs.Told.Told.{Refuses, Stops, Starves}

-- a call that was refused went
pub refused_went : {R : Type 0} (told : Told R) → refusal_of told ≢ None → told_outcome told ≡ went
refused_went (Refuses why) refused = refl
refused_went (Stops stop) refused = absurd (refused refl)
refused_went Starves refused = absurd (refused refl)

pub refused_done : {R : Type 0} (told : Told R) → refusal_of told ≢ None → is_done (told_outcome told) ≡ true
refused_done told refused = ap is_done (refused_went told refused)

-- one that was interrupted ended so
pub stopped_ended : {R : Type 0} (told : Told R) (stop : Interruption) → told ≡ Stops stop → told_outcome told ≡ stop_outcome stop
stopped_ended told stop is = ap told_outcome is

-- a stop is no refusal
pub stop_worked : {R : Type 0} (told : Told R) (stop : Interruption) → told ≡ Stops stop → refusal_of told ≡ None
stop_worked told stop is = ap refusal_of is

-- what holds in any case
pub on_refused : {T E R : Type 0} (says : E → Told R) (r : Result T E) {P : Type 0} → P → OnRefused says r P
on_refused says (Ok x) holds = tt
on_refused says (Err fault) holds = λ _. holds

pub on_worked : {T E R : Type 0} (says : E → Told R) (r : Result T E) {P : Type 0} → P → OnWorked says r P
on_worked says (Ok x) holds = holds
on_worked says (Err fault) holds = λ _. holds

-- what follows
pub on_refused-then : {T E R : Type 0} (says : E → Told R) (r : Result T E) {P Q : Type 0} → (P → Q) → OnRefused says r P → OnRefused says r Q
on_refused-then says (Ok x) next holds = tt
on_refused-then says (Err fault) next holds = λ refused. next (holds refused)

pub on_worked-then : {T E R : Type 0} (says : E → Told R) (r : Result T E) {P Q : Type 0} → (P → Q) → OnWorked says r P → OnWorked says r Q
on_worked-then says (Ok x) next holds = next holds
on_worked-then says (Err fault) next holds = λ worked. next (holds worked)

-- where there is no reason nothing is refused
pub on_worked-unrefused : {T E R : Type 0} (says : E → Told R) (r : Result T E) {P : Type 0} → Answers says None r → OnWorked says r P → P
on_worked-unrefused says (Ok x) answers holds = holds
on_worked-unrefused says (Err fault) answers holds = holds answers

-- where there is one the call is refused
pub on_refused-reason : {T E R : Type 0} (says : E → Told R) (why : R) (r : Result T E) {P : Type 0} → Answers says (Some why) r → OnRefused says r P → P
on_refused-reason says why (Ok x) answers holds = absurd answers
on_refused-reason says why (Err fault) answers holds = holds (λ none. some_none (sym answers ∙ none))
  where
    some_none : Some why ≡ None → ⊥
    some_none e = cc e

-- a test always ends
pub checked_went : {T E R : Type 0} (says : E → Told R) (why : Option R) (r : Result T E) → Checks says why r → outcome_by says r ≡ went
checked_went says None (Ok x) checks = refl
checked_went says None (Err fault) checks = absurd checks
checked_went says (Some why) (Ok x) checks = refl
checked_went says (Some why) (Err fault) checks = refused_went (says fault) (λ none. some_none (sym checks ∙ none))
  where
    some_none : Some why ≡ None → ⊥
    some_none e = cc e

-- a test passes where there is no reason, and only there
pub checks_passed : {T E R : Type 0} (says : E → Told R) (why : Option R) (x : T) → Checks {E = E} says why (Ok x) → why ≡ None
checks_passed says None x checks = refl
checks_passed says (Some why) x checks = absurd checks

-- and a call that tests first is refused as the test tells
pub checks_answers : {T E R : Type 0} (says : E → Told R) (why : Option R) (r : Result T E) → Checks says why r → Answers says why r
checks_answers says None (Ok x) checks = tt
checks_answers says None (Err fault) checks = absurd checks
checks_answers says (Some why) (Ok x) checks = checks
checks_answers says (Some why) (Err fault) checks = checks

pub checks_finds : {T E R : Type 0} (says : E → Told R) (why : Option R) (r : Result T E) → Checks says why r → Finds says why r
checks_finds says None (Ok x) checks = refl
checks_finds says None (Err fault) checks = absurd checks
checks_finds says (Some why) (Ok x) checks = absurd checks
checks_finds {R = R} says (Some why) (Err fault) checks = of_told (says fault) checks
  where
    of_told : (told : Told R) → refusal_of told ≡ Some why → IfRefused told (λ w. Some why ≡ Some w)
    of_told (Refuses w) is = sym is
    of_told (Stops stop) is = tt
    of_told Starves is = tt

-- a fault that is handed on tells the same
pub checks_on : (T U : Type 0) {E R : Type 0} (says : E → Told R) (why : Option R) (fault : E) → Checks {T = U} says why (Err fault) → Checks {T = T} says why (Err fault)
checks_on T U says None fault checks = checks
checks_on T U says (Some why) fault checks = checks

pub answers_on : (T U : Type 0) {E R : Type 0} (says : E → Told R) (why : Option R) (fault : E) → Answers {T = U} says why (Err fault) → Answers {T = T} says why (Err fault)
answers_on T U says None fault answers = answers
answers_on T U says (Some why) fault answers = answers

-- a stop tells nothing of what was looked for
pub stop_tells_nothing : {R : Type 0} (told : Told R) (P : R → Type 0) → refusal_of told ≡ None → IfRefused told P
stop_tells_nothing (Refuses why) P none = cc none
stop_tells_nothing (Stops stop) P none = tt
stop_tells_nothing Starves P none = tt

-- where there is nothing to be found only a stop is told
pub finds_nothing : (T : Type 0) {E R : Type 0} (says : E → Told R) (fault : E) → Finds {T = T} says None (Err fault) → IsStop says fault
finds_nothing T {R = R} says fault finds = of_told (says fault) finds
  where
    of_told : (told : Told R) → IfRefused told (λ w. None ≡ Some w) → refusal_of told ≡ None
    of_told (Refuses w) is = cc is
    of_told (Stops stop) is = refl
    of_told Starves is = refl

-- what is told of a reason is told of what follows from it
pub if_refused-then : {R : Type 0} (told : Told R) (P Q : R → Type 0) → ((why : R) → P why → Q why) → IfRefused told P → IfRefused told Q
if_refused-then (Refuses why) P Q next h = next why h
if_refused-then (Stops stop) P Q next h = tt
if_refused-then Starves P Q next h = tt

pub explains-then : {T E R : Type 0} (says : E → Told R) (well done : Type 0) (P Q : R → Type 0) (r : Result T E) → (well → done) → ((why : R) → P why → Q why) → Explains says well P r → Explains says done Q r
explains-then says well done P Q (Ok x) ends next h = ends h
explains-then says well done P Q (Err fault) ends next h = if_refused-then (says fault) P Q next h

-- an answer that hands a fault on ended as that fault tells
pub ended_as : {T E R : Type 0} (says : E → Told R) (r : Result T E) (told : Told R) → IsErrAnd r (λ fault. says fault ≡ told) → outcome_by says r ≡ told_outcome told
ended_as says (Ok x) told h = absurd h
ended_as says (Err fault) told h = ap told_outcome h
