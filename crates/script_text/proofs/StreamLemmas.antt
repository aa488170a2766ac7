-- What is kept of a line, and lines without a newline.
use Rattle.std.proofs.Common.{◌≡◌, ◌≢◌, ℕ, zero, suc, ◌+◌, ◌<◌, ◌≤◌, ◌==◌, false, List, [], ◌∷◌, ◌++◌, Some, None, length, length-append, take, drop, refl, ap, sym, ◌∙◌, subst, add-one, arith, eq-eqb}
use Rattle.std.specs.List.{onto_first}
use Rattle.std.proofs.lemmas.Bool.{false_from_ne_true, eqb-true}
use Rattle.std.proofs.lemmas.Bool.Decides.{nat_tests}
use Rattle.std.proofs.lemmas.List.Elements.{All-nil, All-cons, All-head, All-tail}
use Rattle.std.proofs.Math.Seq.{take-length}
use Rattle.memchr.specs.Find.{Nowhere, Passes, is_byte}
use Rattle.script_text.specs.Script.{lines_of}
use Rattle.script_text.specs.Streaming.{kept, IsUnbroken}
use Rattle.script_text.proofs.LineLemmas.{lines_of-last}

pub kept-none : (line : List ℕ) → 65536 < length line → kept line ≡ None
unfolding kept
kept-none line long = grind (arith, nat_tests)

pub kept-some : (line : List ℕ) → length line ≤ 65536 → kept line ≡ Some line
unfolding kept
kept-some line short = grind (arith, nat_tests)

pub from_kept-none : (line : List ℕ) → None ≡ kept line → 65536 < length line
unfolding kept
from_kept-none line e = grind (arith, nat_tests)

pub from_kept-some : (items line : List ℕ) → Some items ≡ kept line → (items ≡ line) × (length line ≤ 65536)
unfolding kept
from_kept-some items line e = (grind (arith, nat_tests), grind (arith, nat_tests))

-- a line that was too long, or is with what is added
pub kept-over : (line more : List ℕ) → None ≡ kept line → kept (line ++ more) ≡ None
kept-over line more e = kept-none (line ++ more) (omega (arith, length-append line more, from_kept-none line e))

pub kept-grown : (items line more : List ℕ) → Some items ≡ kept line → 65536 < length items + length more → kept (line ++ more) ≡ None
kept-grown items line more e long = kept-none (line ++ more) (omega (arith, length-append line more, ap length (from_kept-some items line e).0))

pub kept-more : (items line more : List ℕ) → Some items ≡ kept line → length items + length more ≤ 65536 → kept (line ++ more) ≡ Some (items ++ more)
kept-more items line more e short =
    let same = (from_kept-some items line e).0 in
    kept-some (line ++ more) (omega (arith, length-append line more, ap length same)) ∙ ap (λ l. Some (l ++ more)) (sym same)

pub unbroken-append : (xs ys : List ℕ) → IsUnbroken xs → IsUnbroken ys → IsUnbroken (xs ++ ys)
unbroken-append [] ys a b = b
unbroken-append (x ∷ xs) ys a b =
    All-cons (λ (c : ℕ). c ≢ 10) x (xs ++ ys) (All-head (λ (c : ℕ). c ≢ 10) x xs a) (unbroken-append xs ys (All-tail (λ (c : ℕ). c ≢ 10) x xs a) b)

-- the bytes before the first newline
pub unbroken-take : (waiting : List ℕ) (n : ℕ) → n ≤ length waiting → Nowhere (Passes (is_byte 10) waiting) 0 n → IsUnbroken (take n waiting)
unbroken-take waiting zero within before = All-nil (λ (c : ℕ). c ≢ 10)
unbroken-take [] (suc n) within before = absurd (omega arith)
unbroken-take (c ∷ cs) (suc n) within before =
    All-cons (λ (b : ℕ). b ≢ 10) c (take n cs) (λ e. before 0 (omega arith) (omega arith) (eq-eqb c 10 e))
    (unbroken-take cs n (omega arith) (λ k low high. before (suc k) (omega arith) (omega arith)))

pub from_nowhere : (bytes : List ℕ) → Nowhere (Passes (is_byte 10) bytes) 0 (length bytes) → IsUnbroken bytes
from_nowhere bytes none = subst IsUnbroken (take-length bytes) (unbroken-take bytes (length bytes) (omega arith) none)

split_after : (waiting : List ℕ) (n : ℕ) → n < length waiting → Passes (is_byte 10) waiting n → waiting ≡ take n waiting ++ 10 ∷ drop (suc n) waiting
split_after [] n within here = absurd (omega arith)
split_after (c ∷ cs) zero within here = ap (λ b. b ∷ cs) (eqb-true c 10 here)
split_after (c ∷ cs) (suc n) within here = ap (λ l. c ∷ l) (split_after cs n (omega arith) here)

pub split-at : (waiting : List ℕ) (n : ℕ) → n < length waiting → Passes (is_byte 10) waiting n → waiting ≡ take n waiting ++ 10 ∷ drop (n + 1) waiting
split-at waiting n within here = rw add-one (split_after waiting n within here)

-- a line that is ended by its newline
pub lines_of-ended : (line rest : List ℕ) → IsUnbroken line → lines_of (line ++ 10 ∷ rest) ≡ line ∷ lines_of rest
unfolding lines_of
lines_of-ended [] rest u = refl
lines_of-ended (c ∷ cs) rest u =
    let other : (c == 10) ≡ false = false_from_ne_true _ (λ e. All-head (λ (b : ℕ). b ≢ 10) c cs u (eqb-true c 10 e)) in
    rw (other, lines_of) (ap (onto_first c) (lines_of-ended cs rest (All-tail (λ (b : ℕ). b ≢ 10) c cs u)))

-- a line that is ended by the script's end
pub lines_of-unended : (line : List ℕ) → IsUnbroken line → 0 < length line → lines_of line ≡ line ∷ []
lines_of-unended line u some = lines_of-last line some (λ k low high e. u k 0 high (eqb-true _ 10 e))
