-- Lines that are gone through one after another.
use Rattle.std.proofs.Common.{◌≡◌, ℕ, ◌+◌, ◌-◌, ◌*◌, ◌/◌, ◌<◌, ◌≤◌, true, false, Option, Some, if◌then◌else◌, refl, sym, subst, inl, inr, arith}
use Rattle.std.proofs.lemmas.Bool.{cases_lt, and_from, and_parts, lt-ltb, ltb-true}
use Rattle.line_device.specs.Medium.{Medium, WritesBack}
use Rattle.nvm_model.specs.Cell.{Cell, CellStands, touches, persist_cell, flush_cell}
use Rattle.nvm_model.specs.Interrupted.{MayPersist}
use Rattle.page_lines.specs.Placed.{AreApart}
use Rattle.page_lines.specs.Turns.{Turns, MayTurn, WritesBackOthers}
use Rattle.page_lines.proofs.OthersLemmas.{others-refl, others-trans, others-wider}
use Rattle.page_lines.proofs.TurnLemmas.{stands-others, stands-write_back}

-- the lines of the device that the lines from the first on, below a limit, are at
abbrev pub IsReached : (ℕ → Option ℕ) → ℕ → ℕ → ℕ → Type 0
IsReached place first limit line = (n : ℕ) × (first ≤ n) × (n < limit) × (place n ≡ Some line)

-- those lines became what f says, and no other did
pub record Reached (place : ℕ → Option ℕ) (f : ℕ → Cell → Cell) (first limit : ℕ) (old new : Medium) : Type 0 where
  pub turned : (n line : ℕ) → first ≤ n → n < limit → place n ≡ Some line → Turns (f n) line old new
  pub others : WritesBackOthers (IsReached place first limit) old new

-- a line that is not among them
pub not_reached : (place : ℕ → Option ℕ) (first limit count n line : ℕ) → AreApart place count → place n ≡ Some line → (first ≤ n → n < limit → ⊥) → IsReached place first limit line → ⊥
not_reached place first limit count n line apart at out r =
    let same : r.0 ≡ n = apart.once r.0 n line r.3 at in
    out (subst (λ i. first ≤ i) same r.1) (subst (λ i. i < limit) same r.2)

pub reached-none : (place : ℕ → Option ℕ) (f : ℕ → Cell → Cell) (first : ℕ) (m : Medium) → Reached place f first (first + 0) m m
reached-none place f first m = record {
  turned = λ n line from below at. absurd (omega (arith, from, below));
  others = others-refl _ m;
}

-- one line more
pub others-next : (place : ℕ → Option ℕ) (first limit : ℕ) (a b c : Medium) → first ≤ limit → WritesBackOthers (IsReached place first limit) a b
    → WritesBackOthers (λ line. place limit ≡ Some line) b c → WritesBackOthers (IsReached place first (limit + 1)) a c
others-next place first limit a b c from x y =
    others-trans (IsReached place first (limit + 1)) a b c
    (others-wider (IsReached place first limit) (IsReached place first (limit + 1)) a b (λ line r. (r.0, r.1, omega (arith, r.2), r.3)) x)
    (others-wider (λ line. place limit ≡ Some line) (IsReached place first (limit + 1)) b c (λ line at. (limit, from, omega arith, at)) y)

pub reached-next : (place : ℕ → Option ℕ) (f : ℕ → Cell → Cell) (first limit count : ℕ) (a b c : Medium) → AreApart place count → first ≤ limit
    → Reached place f first limit a b → ((line : ℕ) → place limit ≡ Some line → Turns (f limit) line b c)
    → WritesBackOthers (λ line. place limit ≡ Some line) b c → Reached place f first (limit + 1) a c
reached-next place f first limit count a b c apart from r turns others = record {
  turned = λ n line above below at.
      elim (cases_lt n limit) as (λ _. Turns (f n) line a c) [
        | inl before ↦
            record {
              stands = λ cell stands.
                  stands-others (λ l. place limit ≡ Some l) b c line (f n cell) others (λ here. omega (arith, apart.once n limit line at here, before))
                  ((r.turned n line above before at).stands cell stands);
            }
        | inr now ↦
            let same : n ≡ limit = omega (arith, below, now) in
            record {
              stands = λ cell stands.
                  subst (λ i. CellStands c line (f i cell)) (sym same)
                  ((turns line (subst (λ i. place i ≡ Some line) same at)).stands cell
                  (stands-others (IsReached place first limit) a b line cell r.others (not_reached place first limit count n line apart at (λ _ less. omega (arith, less, now))) stands));
            }
      ];
  others = others-next place first limit a b c from r.others others;
}

-- all were reached, and f leaves the others
pub reached-all : (place : ℕ → Option ℕ) (f : ℕ → Cell → Cell) (first limit count : ℕ) (a b : Medium) → AreApart place count → Reached place f first limit a b
    → ((n line : ℕ) (m : Medium) → (first ≤ n → n < limit → ⊥) → Turns (f n) line m m) → (n line : ℕ) → place n ≡ Some line → Turns (f n) line a b
reached-all place f first limit count a b apart r idle n line at =
    elim (cases_lt n first) as (λ _. Turns (f n) line a b) [
      | inl before ↦ left (λ from _. omega (arith, from, before))
      | inr from ↦
          elim (cases_lt n limit) as (λ _. Turns (f n) line a b) [
            | inl below ↦ r.turned n line from below at
            | inr past ↦ left (λ _ below. omega (arith, past, below))
          ]
    ]
  where
    left : (first ≤ n → n < limit → ⊥) → Turns (f n) line a b
    left out = record {
      stands = λ cell stands. (idle n line b out).stands cell (stands-others (IsReached place first limit) a b line cell r.others (not_reached place first limit count n line apart at out) stands);
    }

-- the next one was interrupted
pub reached-interrupted : (place : ℕ → Option ℕ) (f : ℕ → Cell → Cell) (R : ℕ → Cell → Cell → Type 0) (first limit count : ℕ) (a b c : Medium) → AreApart place count
    → Reached place f first limit a b → ((line : ℕ) → place limit ≡ Some line → MayTurn (R limit) line b c) → WritesBackOthers (λ line. place limit ≡ Some line) b c
    → ((n : ℕ) (cell : Cell) → R n cell cell) → ((n : ℕ) (cell : Cell) → R n cell (f n cell)) → (n line : ℕ) → place n ≡ Some line → MayTurn (R n) line a c
reached-interrupted place f R first limit count a b c apart r may others idle done n line at =
    elim (cases_lt n first) as (λ _. MayTurn (R n) line a c) [
      | inl before ↦ left (λ from _. omega (arith, from, before))
      | inr from ↦
          elim (cases_lt n limit) as (λ _. MayTurn (R n) line a c) [
            | inl below ↦
                record {
                  leaves = λ cell stands. (
                    f n cell,
                    done n cell,
                    stands-others (λ l. place limit ≡ Some l) b c line (f n cell) others (λ here. omega (arith, apart.once n limit line at here, below))
                        ((r.turned n line from below at).stands cell stands),
                  );
                }
            | inr past ↦ left (λ _ below. omega (arith, past, below))
          ]
    ]
  where
    between : (first ≤ n → n < limit → ⊥) → (cell : Cell) → CellStands a line cell → CellStands b line cell
    between out cell stands = stands-others (IsReached place first limit) a b line cell r.others (not_reached place first limit count n line apart at out) stands

    left : (first ≤ n → n < limit → ⊥) → MayTurn (R n) line a c
    left out =
        elim (cases_lt n limit) as (λ _. MayTurn (R n) line a c) [
          | inl below ↦ passed out (λ here. omega (arith, apart.once n limit line at here, below))
          | inr past ↦
              elim (cases_lt limit n) as (λ _. MayTurn (R n) line a c) [
                | inl above ↦ passed out (λ here. omega (arith, apart.once n limit line at here, above))
                | inr within ↦
                    let same : limit ≡ n = omega (arith, past, within) in
                    subst (λ i. MayTurn (R i) line a c) same
                    (record { leaves = λ cell stands. (may line (subst (λ i. place i ≡ Some line) (sym same) at)).leaves cell (between out cell stands) })
              ]
        ]
      where
        passed : (first ≤ n → n < limit → ⊥) → (place limit ≡ Some line → ⊥) → MayTurn (R n) line a c
        passed out other = record {
          leaves = λ cell stands. (cell, idle n cell, stands-others (λ l. place limit ≡ Some l) b c line cell others other (between out cell stands));
        }

-- the lines that a span touches follow each other
pub touches-within : (start len n : ℕ) → 1 ≤ len → start / 64 ≤ n → n < start / 64 + ((start + len - 1) / 64 + 1 - start / 64) → touches start len n ≡ true
touches-within start len n some from below = and_from _ _ (lt-ltb start (64 * n + 64) (omega (arith, from))) (lt-ltb (64 * n) (start + len) (omega (arith, some, from, below)))

pub within-touches : (start len n : ℕ) → 1 ≤ len → touches start len n ≡ true → (start / 64 ≤ n) × (n < start / 64 + ((start + len - 1) / 64 + 1 - start / 64))
within-touches start len n some is =
    let parts = and_parts _ _ is in
    let low = ltb-true start (64 * n + 64) parts.0 in
    let high = ltb-true (64 * n) (start + len) parts.1 in
    (omega (arith, low), omega (arith, low, high, some))

-- a line made durable, or left
pub turns-touched : (start len n line : ℕ) (old new : Medium) → touches start len n ≡ true → Turns flush_cell line old new → Turns (persist_cell start len n) line old new
turns-touched start len n line old new is x = record {
  stands = λ cell stands. subst (λ t. CellStands new line (if t then flush_cell cell else cell)) (sym is) (x.stands cell stands);
}

pub turns-untouched : (start len n line : ℕ) (m : Medium) → touches start len n ≡ false → Turns (persist_cell start len n) line m m
turns-untouched start len n line m is = record { stands = λ cell stands. subst (λ t. CellStands m line (if t then flush_cell cell else cell)) (sym is) stands }

pub may_persist-left : (start len n line : ℕ) (old new : Medium) → WritesBack old new → MayTurn (MayPersist start len n) line old new
may_persist-left start len n line old new x = record { leaves = λ cell stands. (cell, inl refl, stands-write_back old new line cell x stands) }
