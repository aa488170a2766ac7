-- Answers that are handed on.
use Rattle.std.proofs.Common.{◌≡◌, ℕ, Option, Some, None, Result, Ok, Err, MatchOption, IsErrAnd, sym, ◌∙◌, ap, subst}
use Rattle.word_log.specs.declared.fault.LogFault.{LogFault}
use Rattle.line_words.specs.Told.{Told, IfRefused}
use Rattle.line_words.specs.Told.Told.{Refuses, Stops, Starves}
use Rattle.word_log.specs.Mount.{Finding, IsPlace, TellsPlace, says}
use Rattle.word_log.specs.Mount.Finding.{bad_line, wrong_word}

pub pair_same : (a b c d : ℕ) → a ≡ b → c ≡ d → ◌≡◌ {A = ℕ × ℕ} (a, c) (b, d)
pair_same a b c d first second = ap (λ x. (x, c)) first ∙ ap (λ y. (b, y)) second

-- an answer that hands a fault on is that fault
pub is_fault : {T E : Type 0} (r : Result T E) (fault : E) → IsErrAnd r (λ e. e ≡ fault) → r ≡ Err fault
is_fault (Ok x) fault is = absurd is
is_fault (Err e) fault is = ap Err is

pub match_option-then : {T P P' : Type 0} {Q Q' : T → Type 0} (o : Option T) → MatchOption o P Q → (P → P') → ((x : T) → Q x → Q' x) → MatchOption o P' Q'
match_option-then None h none some = none h
match_option-then (Some x) h none some = some x h

-- a stop tells nothing, whatever is wrong
told-stopped : (wrong : Option ℕ) (told : Told Finding) → IfRefused told (IsPlace None) → IfRefused told (IsPlace wrong)
told-stopped wrong (Refuses (bad_line line)) h = h
told-stopped wrong (Refuses (wrong_word place)) h = cc
told-stopped wrong (Stops stop) h = tt
told-stopped wrong Starves h = tt

pub tells-handed_on : {T : Type 0} (wrong : Option ℕ) (r : Result T LogFault) (fault : LogFault) → IsErrAnd r (λ e. e ≡ fault) → IfRefused (says fault) (IsPlace None) → TellsPlace wrong r
tells-handed_on wrong (Ok x) fault is told = absurd is
tells-handed_on wrong (Err e) fault is told = subst (λ f. IfRefused (says f) (IsPlace wrong)) (sym is) (told-stopped wrong (says fault) told)
