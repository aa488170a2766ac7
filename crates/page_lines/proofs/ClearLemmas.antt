-- Lines made zeros.
use Rattle.std.proofs.Common.{◌≡◌, ◌⊎◌, ℕ, ◌+◌, ◌<◌, ◌≤◌, Option, Some, Result, Ok, Err, MatchResult, OnErr, OnOk, false, [], ◌∷◌, refl, subst, inl, inr, arith}
use Rattle.std.proofs.lemmas.Bool.{cases_lt}
use Rattle.line_device.specs.Medium.{Medium, WritesBack, cleared}
use Rattle.nvm_model.specs.Cell.{Cell, CellStands, zero_cell}
use Rattle.nvm_model.proofs.MediaLemmas.{cell_stands-zeros}
use Rattle.page_lines.specs.Placed.{AreApart}
use Rattle.page_lines.specs.Turns.{MayClear, MayTurn, WritesBackOthers}
use Rattle.page_lines.proofs.OthersLemmas.{others-write_back}
use Rattle.page_lines.proofs.LoopLemmas.{IsReached, not_reached}
use Rattle.page_lines.proofs.TurnLemmas.{stands-others, stands-write_back, others-renewed}

pub ok_cleared : {A F : Type 0} (r : Result A F) (m new : Medium) (line : ℕ) → MatchResult r (λ _. WritesBack (cleared m line) new) (λ _. WritesBack m new) → OnOk r (CellStands new line zero_cell)
ok_cleared (Ok x) m new line h = cell_stands-zeros m new line h
ok_cleared (Err e) m new line h = tt

pub err_cleared : {A F : Type 0} (r : Result A F) (m new : Medium) (line : ℕ) → MatchResult r (λ _. WritesBack (cleared m line) new) (λ _. WritesBack m new) → OnErr r (WritesBack m new)
err_cleared (Ok x) m new line h = tt
err_cleared (Err e) m new line h = h

pub others-clear : {A F : Type 0} (r : Result A F) (m new : Medium) (line : ℕ) → MatchResult r (λ _. WritesBack (cleared m line) new) (λ _. WritesBack m new) → WritesBackOthers (λ n. n ≡ line) m new
others-clear (Ok x) m new line h = others-renewed m new line false (λ _. 0 ∷ []) (λ _. refl) h
others-clear (Err e) m new line h = others-write_back (λ n. n ≡ line) m new h

-- the lines from the first on, below a limit, that are there are zeros
abbrev pub AreZeros : (ℕ → Option ℕ) → ℕ → ℕ → Medium → Type 0
AreZeros place first limit m = (n line : ℕ) → first ≤ n → n < limit → place n ≡ Some line → CellStands m line zero_cell

pub zeros-next : (place : ℕ → Option ℕ) (first limit count : ℕ) (a b : Medium) → AreApart place count → AreZeros place first limit a
    → ((line : ℕ) → place limit ≡ Some line → CellStands b line zero_cell) → WritesBackOthers (λ line. place limit ≡ Some line) a b
    → AreZeros place first (limit + 1) b
zeros-next place first limit count a b apart zeros here others n line from below at =
    elim (cases_lt n limit) as (λ _. CellStands b line zero_cell) [
      | inl before ↦
          stands-others (λ l. place limit ≡ Some l) a b line zero_cell others (λ same. omega (arith, apart.once n limit line at same, before))
          (zeros n line from before at)
      | inr now ↦
          let same : n ≡ limit = omega (arith, below, now) in
          here line (subst (λ i. place i ≡ Some line) same at)
    ]

-- where a clear is stopped, the lines before it are zeros, and the others as they were
pub may_clear-stopped : (place : ℕ → Option ℕ) (first limit count : ℕ) (a b c : Medium) → AreApart place count → AreZeros place first limit b
    → WritesBackOthers (IsReached place first limit) a b → WritesBack b c → (n line : ℕ) → place n ≡ Some line → MayTurn MayClear line a c
may_clear-stopped place first limit count a b c apart zeros others w n line at = by_place (cases_lt n first) (cases_lt n limit)
  where
    untouched : (first ≤ n → n < limit → ⊥) → MayTurn MayClear line a c
    untouched out = record {
      leaves = λ cell stands.
          (cell, inl refl, stands-write_back b c line cell w (stands-others (IsReached place first limit) a b line cell others (not_reached place first limit count n line apart at out) stands));
    }

    by_place : (n < first) ⊎ (first ≤ n) → (n < limit) ⊎ (limit ≤ n) → MayTurn MayClear line a c
    by_place (inl before) _ = untouched (λ from below. omega (arith, before, from))
    by_place (inr from) (inr past) = untouched (λ _ below. omega (arith, below, past))
    by_place (inr from) (inl below) = record { leaves = λ cell stands. (zero_cell, inr refl, stands-write_back b c line zero_cell w (zeros n line from below at)) }
