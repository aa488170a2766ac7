-- What the fault of a call on pages tells of the action that makes it.
use Rattle.std.proofs.Common.{◌≡◌, ℕ, Option, Some, None, option_map, Result, Ok, Err, refl, sym, ap, ◌∙◌}
use Rattle.std.specs.Result.{IsErrAnd}
use Rattle.line_words.specs.Told.{Answers, OnWorked, Told, refusal_of}
use Rattle.line_words.specs.Told.Told.{Refuses, Starves, Stops}
use Rattle.file_pages.specs.declared.fault.PageFault.{PageFault}
use Rattle.file_pages.specs.Refusals as of_pages
use Rattle.file_pages.specs.Refusals.{PageRefusal, page_says}
use Rattle.file_actions.specs.declared.fault.ActionFault.{ActionFault}
use Rattle.file_actions.specs.Refusals.{action_refusal, action_says, poisoned_at, told_of_pages}

told-refusal : (t : Told PageRefusal) → refusal_of (told_of_pages t) ≡ option_map action_refusal (refusal_of t)
told-refusal (Refuses why) = refl
told-refusal (Stops stop) = refl
told-refusal Starves = refl

-- nothing is refused but for a bad line, and then the action is
pub told-done : (line : Option ℕ) → Answers {T = Unit {0}} page_says (of_pages.poisoned_at line) (Ok tt) → Answers {T = Unit {0}} action_says (poisoned_at line) (Ok tt)
told-done None told = tt
told-done (Some n) told = absurd told

pub told-answers : {T : Type 0} (line : Option ℕ) (f : PageFault) (r : Result T ActionFault) → IsErrAnd r (λ e. action_says e ≡ told_of_pages (page_says f)) → Answers {T = Unit {0}} page_says (of_pages.poisoned_at line) (Err f)
    → Answers action_says (poisoned_at line) r
told-answers line f (Ok x) is told = absurd is
told-answers None f (Err e) is told = ap refusal_of is ∙ told-refusal (page_says f) ∙ ap (option_map action_refusal) told
told-answers (Some n) f (Err e) is told = ap refusal_of is ∙ told-refusal (page_says f) ∙ ap (option_map action_refusal) told

-- what a call left that was not refused, the action left
pub told-worked : {T P Q : Type 0} (f : PageFault) (r : Result T ActionFault) → IsErrAnd r (λ e. action_says e ≡ told_of_pages (page_says f)) → (P → Q) → OnWorked {T = Unit {0}} page_says (Err f) P → OnWorked action_says r Q
told-worked f (Ok x) is then left = absurd is
told-worked f (Err e) is then left = λ stop. then (left (none_before (refusal_of (page_says f)) (sym (told-refusal (page_says f)) ∙ sym (ap refusal_of is) ∙ stop)))
  where
    none_before : (o : Option PageRefusal) → option_map action_refusal o ≡ None → o ≡ None
    none_before None none = refl
    none_before (Some why) none = cc none
