-- How many lines a span touches at most.
use Rattle.std.proofs.Common.{ℕ, zero, suc, ◌+◌, ◌≤◌, Option, arith}
use Rattle.nvm_base.specs.Units.{units_of}
use Rattle.nvm_base.specs.declared.units.Span.{Span}
use Rattle.page_lines.specs.Placed.{there_among, there_in}
use Rattle.page_lines.proofs.CountLemmas.{one_at_most}

pub there_among_most : (place : ℕ → Option ℕ) (first count : ℕ) → there_among place first count ≤ count
there_among_most place first zero = omega arith
there_among_most place first (suc k) = omega (arith, there_among_most place first k, one_at_most (place (first + k)))

pub there_in_most : (place : ℕ → Option ℕ) (span : Span) → there_in place span ≤ (units_of 64 span).len
there_in_most place span = there_among_most place (units_of 64 span).start (units_of 64 span).len
