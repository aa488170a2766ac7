use Rattle.std.proofs.Common.{◌≡◌, ℕ, ◌*◌, ◌/◌, inl, inr, arith}
use Rattle.std.proofs.lemmas.Bool.{cases_lt}
use Rattle.word_log.specs.Area.{IsHome}
use Rattle.word_log.proofs.area.LogArea.home_lines.Goals as goal

pub returns-clause-only : goal.returns-clause-only
returns-clause-only c = λ line from to.
    elim (cases_lt (8 * line) c.args.self.home.start) as (λ _. (p : ℕ) × IsHome c.args.self p × (p / 8 ≡ line)) [
      | inl first ↦ (c.args.self.home.start, (omega arith, omega arith), omega arith)
      | inr later ↦ (8 * line, (omega arith, omega arith), omega arith)
    ]
