-- The first block of several that can't be read.
use Rattle.std.proofs.Common.{◌≡◌, ◌+◌, ◌<◌, ◌≤◌, ℕ, zero, suc, List, Option, Some, None, option_map, Err, inl, inr, refl, sym, ap, ◌∙◌, subst, arith}
use Rattle.std.proofs.lemmas.Bool.{cases_lt}
use Rattle.nvm_base.proofs.FirstLemmas.{neither_there}
use Rattle.nvm_model.specs.Storage.{Block}
use Rattle.nvm_model.specs.Blocks.{Obstacle, nth, obstacle_in, first_there, first_obstacle}
use Rattle.block_device.specs.declared.fault.BlockFault.{BlockFault}
use Rattle.block_device.specs.Refusals.{Checks, Obstructs}
use Rattle.block_device.specs.Refusals.Refusal.{Unreadable}

pub unobstructed : (o : Option Obstacle) → Obstructs (option_map Unreadable o) None → o ≡ None
unobstructed None h = refl
unobstructed (Some x) h = absurd h

obstructed : (T : Type 0) (o rest : Option Obstacle) (f : BlockFault) → Obstructs (option_map Unreadable o) (Some f) → Checks {T = T} (option_map Unreadable (first_there o rest)) (Err f)
obstructed T None rest f h = absurd h
obstructed T (Some x) rest f h = h

skip : (blocks : List Block) (at count : ℕ) → obstacle_in at (nth blocks at) ≡ None → first_obstacle blocks at (suc count) ≡ first_obstacle blocks (suc at) count
skip blocks at count none = ap (λ o. first_there o (first_obstacle blocks (suc at) count)) none

-- those before it can be read
pub found_obstacle : (T : Type 0) (blocks : List Block) (at count k : ℕ) (f : BlockFault) → at ≤ k → k < at + count
    → ((j : ℕ) → at ≤ j → j < k → obstacle_in j (nth blocks j) ≡ None) → Obstructs (option_map Unreadable (obstacle_in k (nth blocks k))) (Some f)
    → Checks {T = T} (option_map Unreadable (first_obstacle blocks at count)) (Err f)
found_obstacle T blocks at zero k f from to before here = absurd (omega arith)
found_obstacle T blocks at (suc count) k f from to before here =
    elim (cases_lt at k) [
      | inl later ↦
          subst (λ o. Checks {T = T} (option_map Unreadable o) (Err f)) (sym (skip blocks at count (before at (omega arith) later)))
          (found_obstacle T blocks (suc at) count k f (omega arith) (omega arith) (λ j low high. before j (omega arith) high) here)
      | inr not_later ↦
          let is : k ≡ at = omega arith in
          obstructed T (obstacle_in at (nth blocks at)) (first_obstacle blocks (suc at) count) f
          (subst (λ i. Obstructs (option_map Unreadable (obstacle_in i (nth blocks i))) (Some f)) is here)
    ]

pub no_obstacle : (blocks : List Block) (at count : ℕ) → ((j : ℕ) → at ≤ j → j < at + count → obstacle_in j (nth blocks j) ≡ None) → first_obstacle blocks at count ≡ None
no_obstacle blocks at zero none = refl
no_obstacle blocks at (suc count) none =
    skip blocks at count (none at (omega arith) (omega arith)) ∙ no_obstacle blocks (suc at) count (λ j low high. none j (omega arith) (omega arith))

-- where there is none, each can be read
pub readable : (blocks : List Block) (at count k : ℕ) → first_obstacle blocks at count ≡ None → k < count → obstacle_in (at + k) (nth blocks (at + k)) ≡ None
readable blocks at zero k none within = absurd (omega arith)
readable blocks at (suc count) zero none within =
    let is : at ≡ at + 0 = omega arith in
    subst (λ i. obstacle_in i (nth blocks i) ≡ None) is (neither_there (obstacle_in at (nth blocks at)) (first_obstacle blocks (suc at) count) none).0
readable blocks at (suc count) (suc k) none within =
    let is : suc at + k ≡ at + suc k = omega arith in
    subst (λ i. obstacle_in i (nth blocks i) ≡ None) is
    (readable blocks (suc at) count k (neither_there (obstacle_in at (nth blocks at)) (first_obstacle blocks (suc at) count) none).1 (omega arith))
