-- Lines of a script.
use Rattle.std.proofs.Common.{◌≡◌, ℕ, suc, ◌==◌, ◌<◌, false, List, [], ◌∷◌, length, refl, ap, arith}
use Rattle.std.specs.List.{onto_first}
use Rattle.std.proofs.lemmas.Bool.{false_from_ne_true}
use Rattle.memchr.specs.Find.{Nowhere, Passes, is_byte}
use Rattle.script_text.specs.Script.{lines_of}

-- a script with no newline
pub lines_of-last : (script : List ℕ) → 0 < length script → Nowhere (Passes (is_byte 10) script) 0 (length script) → lines_of script ≡ script ∷ []
unfolding lines_of
lines_of-last [] some before = absurd (omega arith)
lines_of-last (c ∷ []) some before =
    let other : (c == 10) ≡ false = false_from_ne_true _ (before 0 (omega arith) (omega arith)) in
    rw (other, lines_of) refl
lines_of-last (c ∷ d ∷ cs) some before =
    let other : (c == 10) ≡ false = false_from_ne_true _ (before 0 (omega arith) (omega arith)) in
    rw (other, lines_of) (ap (onto_first c) (lines_of-last (d ∷ cs) (omega arith) (λ k low high. before (suc k) (omega arith) (omega arith))))
