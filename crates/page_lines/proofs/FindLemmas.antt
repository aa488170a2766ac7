-- The lowest line of a span that passes, found in their order.
use Rattle.std.proofs.Common.{◌≡◌, ℕ, ◌+◌, ◌<◌, Bool, true, false, Option, Some, None, option_map, position, sym, ap, subst}
use Rattle.std.specs.List.{range_with_len}
use Rattle.nvm_base.specs.Units.{units_of}
use Rattle.nvm_base.specs.declared.units.Span.{Span}
use Rattle.line_words.proofs.PositionLemmas.{first_among, none_among}
use Rattle.nvm_model.specs.Cell.{lowest_touched}

lowest-is : (p : ℕ → Bool) (span t : Span) (found : Option ℕ) → t ≡ units_of 64 span → position p (range_with_len t.start t.len) ≡ found
    → option_map (λ k. t.start + k) found ≡ lowest_touched p span.start span.len
lowest-is p span t found is h =
    subst (λ s. option_map (λ k. t.start + k) found ≡ option_map (λ k. s.start + k) (position p (range_with_len s.start s.len))) is
    (sym (ap (option_map (λ k. t.start + k)) h))

pub lowest_here : (p : ℕ → Bool) (span t : Span) (k : ℕ) → t ≡ units_of 64 span → k < t.len → ((i : ℕ) → i < k → p (t.start + i) ≡ false) → p (t.start + k) ≡ true
    → Some (t.start + k) ≡ lowest_touched p span.start span.len
lowest_here p span t k is within before here = lowest-is p span t (Some k) is (first_among p t.start t.len k within before here)

pub lowest_none : (p : ℕ → Bool) (span t : Span) → t ≡ units_of 64 span → ((i : ℕ) → i < t.len → p (t.start + i) ≡ false) → None ≡ lowest_touched p span.start span.len
lowest_none p span t is none = lowest-is p span t None is (none_among p t.start t.len none)
