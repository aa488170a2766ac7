-- The eight histories of a line.
use Rattle.std.proofs.Common.{◌≡◌, ℕ, zero, suc, Bool, true, false, ◌+◌, ◌*◌, ◌<◌, List, [], ◌∷◌, map, length, if◌then◌else◌, refl, subst, sym, ◌∙◌, ap, arith}
use Rattle.std.specs.Prelude.{slice_index, slice_index_or, replicate}
use Rattle.nvm_model.specs.Numbered.{list_from, map_from}
use Rattle.line_device.specs.History.{newest, latest}
use Rattle.line_device.specs.Medium.{word_stored}
use Rattle.nvm_model.specs.Cell.{Cell, covers, zero_cell, flush_cell, put_cell}
use Rattle.nvm_model.specs.Cell.Cell.{Bad, Kept}
use Rattle.line_device.proofs.WordLemmas.{below_eight}
use Rattle.line_device.proofs.HistoryLemmas.{latest-cons}
use Rattle.line_histories.specs.Log.{history, history_in}
use Rattle.line_histories.specs.Held.{histories, held, HasHistory}
use Rattle.line_histories.specs.declared.log.Stored.{Stored}

histories-at : (durable : List ℕ) (log : List Stored) (w : ℕ) → w < 8 → slice_index_or (histories durable log) w [] ≡ history durable log w
unfolding histories
histories-at durable log w below = below_eight (λ k. slice_index_or (histories durable log) k [] ≡ history durable log k) refl refl refl refl refl refl refl refl w below

pub held-history : (bad weak : Bool) (durable : List ℕ) (log : List Stored) (w : ℕ) → w < 8 → HasHistory (held bad weak durable log) w (history durable log w)
held-history true weak durable log w below = tt
held-history false weak durable log w below = histories-at durable log w below

pub histories-zeros : histories (replicate 8 0) [] ≡ replicate 8 (0 ∷ [])
unfolding histories
histories-zeros = refl

-- histories of one value each
pub histories-durable : (durable : List ℕ) (value : ℕ → ℕ) → ((w : ℕ) → w < 8 → slice_index durable w ≡ value w) → histories durable [] ≡ list_from (λ w. value w ∷ []) 0 8
unfolding histories
histories-durable durable value is = ap_each 0 8 (λ w below. ap (λ v. v ∷ []) (is w below))
  where
    ap_each : (n count : ℕ) → ((w : ℕ) → w < n + count → history durable [] w ≡ value w ∷ []) → list_from (history durable []) n count ≡ list_from (λ w. value w ∷ []) n count
    ap_each n zero each = refl
    ap_each n (suc count) each =
        let first = each n (omega arith) in
        let rest = ap_each (suc n) count (λ w below. each w (omega arith)) in
        (λ i. first i ∷ rest i)

from_each : (g h : ℕ → List ℕ) (f : ℕ → List ℕ → List ℕ) (k n count : ℕ) → ((w : ℕ) → w < count → g (k + w) ≡ f (n + w) (h (k + w))) → list_from g k count ≡ map_from f n (list_from h k count)
from_each g h f k n zero each = refl
from_each g h f k n (suc count) each =
    let k0 : k + 0 ≡ k = omega arith in
    let n0 : n + 0 ≡ n = omega arith in
    let first : g k ≡ f n (h k) = sym (ap g k0) ∙ each 0 (omega arith) ∙ (λ i. f (n0 i) (h (k0 i))) in
    let rest = from_each g h f (suc k) (suc n) count
    (λ w below.
    let k1 : suc k + w ≡ k + suc w = omega arith in
    let n1 : n + suc w ≡ suc n + w = omega arith in
    ap g k1 ∙ each (suc w) (omega arith) ∙ (λ i. f (n1 i) (h (sym k1 i)))) in
    (λ i. first i ∷ rest i)

map-numbered : (f : List ℕ → List ℕ) (n : ℕ) (xs : List (List ℕ)) → map_from (λ _. f) n xs ≡ map f xs
map-numbered f n [] = refl
map-numbered f n (x ∷ xs) = ap (λ l. f x ∷ l) (map-numbered f (suc n) xs)

-- each word changed by its number
histories-changed : (durable durable' : List ℕ) (log log' : List Stored) (f : ℕ → List ℕ → List ℕ) (n : ℕ) → ((w : ℕ) → w < 8 → history durable' log' w ≡ f (n + w) (history durable log w)) → histories durable' log' ≡ map_from f n (histories durable log)
unfolding histories
histories-changed durable durable' log log' f n each =
    from_each (history durable' log') (history durable log) f 0 n 8
    (λ w below.
    let w0 : 0 + w ≡ w = omega arith in
    ap (history durable' log') w0 ∙ each w below ∙ ap (λ v. f (n + w) (history durable log v)) (sym w0))

pub held-flushed : (bad : Bool) (durable durable' : List ℕ) (log : List Stored) → ((w : ℕ) → w < 8 → slice_index durable' w ≡ newest (history durable log w)) → held bad false durable' [] ≡ flush_cell (held bad false durable log)
held-flushed true durable durable' log each = refl
held-flushed false durable durable' log each =
    ap (Kept false)
    (histories-changed durable durable' log [] (λ _. latest) 0
    (λ w below. ap (λ v. v ∷ []) (each w below) ∙ sym (latest-cons (slice_index durable w) (history_in log w)))
    ∙ map-numbered latest 0 (histories durable log))

pub held-put : (weak : Bool) (durable : List ℕ) (log log' : List Stored) (n at : ℕ) (bytes : List ℕ) → ((w : ℕ) → w < 8 → history durable log' w ≡ word_stored at bytes (8 * n + w) (history durable log w)) → held false weak durable log' ≡ put_cell at bytes n (held false weak durable log)
held-put weak durable log log' n at bytes each = ap (Kept weak) (histories-changed durable durable log log' (word_stored at bytes) (8 * n) each)

-- a bad line that bytes cover takes them as one of zeros does
put_over-bad : (at n : ℕ) (bytes : List ℕ) → covers at (length bytes) n ≡ true → put_cell at bytes n zero_cell ≡ put_cell at bytes n Bad
put_over-bad at n bytes covered = sym (ap (λ b. if b then Kept false (map_from (word_stored at bytes) (8 * n) (replicate 8 (0 ∷ []))) else Bad) covered)

pub put_over-reset : (at n : ℕ) (bytes : List ℕ) (bad weak : Bool) (durable : List ℕ) (log : List Stored) (cell : Cell) → bad ≡ true → held bad weak durable log ≡ cell → covers at (length bytes) n ≡ true → put_cell at bytes n zero_cell ≡ put_cell at bytes n cell
put_over-reset at n bytes bad weak durable log cell lost is covered =
    let gone : Bad ≡ cell = sym (ap (λ b. held b weak durable log) lost) ∙ is in
    subst (λ x. put_cell at bytes n zero_cell ≡ put_cell at bytes n x) gone (put_over-bad at n bytes covered)
