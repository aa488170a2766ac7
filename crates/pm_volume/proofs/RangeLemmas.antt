-- The volume's two ranges make a set.
use Rattle.std.proofs.Common.{◌≡◌, ◌+◌, ◌<◌, ◌≤◌, ◌^◌, ℕ, zero, suc, Bool, true, false, not, nat_lt, ◌&&◌, ◌||◌, ◌==◌, slice_index_or, get_or, None, sym, ◌∙◌, ap, arith}
use Rattle.std.specs.List.{sum_by}
use Rattle.std.proofs.lemmas.Bool.{ne_eqb, le-ltb, and_right, false≢true}
use Rattle.std.proofs.lemmas.Option.{none-some}
use Rattle.line_words.proofs.PositionLemmas.{no_place}
use Rattle.nvm_base.specs.declared.units.Span.{Span}
use Rattle.word_tables.specs.declared.geometry.Geometry.{Geometry}
use Rattle.word_tables.specs.Bounds.{IsValid}
use Rattle.word_tables.specs.Layout.{first_line, size, first_range, second_range, bytes_in}
use Rattle.range_sets.specs.declared.set.RangeFault.TheVariants.{Empty, Overlap}
use Rattle.range_sets.specs.Faults.{IsRangeCause, first_empty}
use Rattle.range_sets.specs.Ranges.{is_disjoint}
use Rattle.range_sets.proofs.DisjointLemmas.{overlap_not_disjoint}
use Rattle.pm_volume.specs.Area.{volume_ranges}

module _ (geo : Geometry) (valid : IsValid geo) where
  -- each has bytes
  first_some : 1 ≤ (bytes_in geo first_range).len
  unfolding size
  first_some = omega (arith, valid.least_vpages)

  second_some : 1 ≤ (bytes_in geo second_range).len
  unfolding size
  second_some = omega (arith, valid.least_vpages)

  pub ranges_some : first_empty (volume_ranges geo) ≡ None
  ranges_some = no_place (λ (r : Span). r.len == 0) (volume_ranges geo) (bytes_in geo first_range) each
    where
      each : (k : ℕ) → k < 2 → ((get_or (volume_ranges geo) k (bytes_in geo first_range)).len == 0) ≡ false
      each zero below = ne_eqb (bytes_in geo first_range).len 0 (λ is. omega (arith, is, first_some))
      each (suc zero) below = ne_eqb (bytes_in geo second_range).len 0 (λ is. omega (arith, is, second_some))
      each (suc (suc k)) below = absurd (omega (arith, below))

  -- the second begins behind the first
  pub ranges_apart : (bytes_in geo first_range).start + (bytes_in geo first_range).len ≤ (bytes_in geo second_range).start
  unfolding first_line size
  ranges_apart = omega arith

  pub ranges_disjoint : is_disjoint (volume_ranges geo) ≡ true
  ranges_disjoint =
      ap (λ (meet : Bool). not (meet || false) && true)
      (and_right (nat_lt (bytes_in geo first_range).start ((bytes_in geo second_range).start + (bytes_in geo second_range).len)) _
      (le-ltb (bytes_in geo second_range).start ((bytes_in geo first_range).start + (bytes_in geo first_range).len) ranges_apart))

  -- and ends within reach
  first_small : (bytes_in geo first_range).start + (bytes_in geo first_range).len ≤ 1099511627776
  unfolding first_line size
  first_small = omega (arith, valid.most_blocks, valid.most_vpages)

  second_small : (bytes_in geo second_range).start + (bytes_in geo second_range).len ≤ 1099511627776
  unfolding first_line size
  second_small = omega (arith, valid.most_blocks, valid.most_vpages)

  pub ranges_in_reach : (k : ℕ) (d : Span) → k < 2 → (slice_index_or (volume_ranges geo) k d).start + (slice_index_or (volume_ranges geo) k d).len ≤ 2 ^ 40
  ranges_in_reach zero d below = first_small
  ranges_in_reach (suc zero) d below = second_small
  ranges_in_reach (suc (suc k)) d below = absurd (omega arith)

  pub ranges_total : sum_by (λ (r : Span). r.len) (volume_ranges geo) ≤ 1099511627776
  unfolding size
  ranges_total = omega (arith, valid.most_vpages)

  -- so nothing is wrong with them
  pub no_empty : (index : ℕ) → IsRangeCause (volume_ranges geo) (Empty index) → ⊥
  no_empty index cause = none-some index (sym ranges_some ∙ cause)

  pub no_overlap : (index : ℕ) → IsRangeCause (volume_ranges geo) (Overlap index) → ⊥
  no_overlap index cause = false≢true (sym (overlap_not_disjoint (volume_ranges geo) index cause.1) ∙ ranges_disjoint)
