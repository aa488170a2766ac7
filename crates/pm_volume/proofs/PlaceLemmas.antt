-- Where the log, the presence words and the lines of the pages lie.
use Rattle.std.proofs.Common.{◌≡◌, inl, inr, ℕ, ◌+◌, ◌-◌, ◌*◌, ◌/◌, ◌<◌, ◌≤◌, Bool, true, false, Option, Some, None, List, length, slice_get, if◌then◌else◌, refl, sym, ◌∙◌, ap, subst, arith}
use Rattle.std.proofs.lemmas.Bool.{cases_lt, lt-ltb, le-ltb}
use Rattle.std.proofs.lemmas.Option.{slice_get_within}
use Rattle.word_tables.specs.declared.geometry.Geometry.{Geometry}
use Rattle.word_tables.specs.Bounds.{IsValid}
use Rattle.word_tables.specs.Layout.{first_range, second_range, first_line, size, total_lines, meta_lines, volume_line, IsVolumeLine}
use Rattle.word_log.specs.Area.{IsOf}
use Rattle.page_lines.specs.Placed.{AreApart}
use Rattle.page_lines.proofs.PlaceLemmas.{apart-present}
use Rattle.pm_volume.specs.Area.{volume_area, IsOfVolume}
use Rattle.pm_volume.specs.Object.{is_wanted, volume_place}

-- a line of a page that is wanted
wanted_is : (wanted : Bool) (o : Option Bool) → is_wanted wanted o ≡ true → o ≡ Some wanted
wanted_is wanted None is = cc
wanted_is true (Some true) is = refl
wanted_is true (Some false) is = cc
wanted_is false (Some true) is = cc
wanted_is false (Some false) is = refl

is_wanted_one : (wanted : Bool) → is_wanted wanted (Some wanted) ≡ true
is_wanted_one true = refl
is_wanted_one false = refl

if_there : (t : Bool) (x line : ℕ) → (if t then Some x else None) ≡ Some line → (t ≡ true) × (x ≡ line)
if_there true x line is = (refl, cc)
if_there false x line is = cc

pub placed : (geo : Geometry) (there : List Bool) (wanted : Bool) (n line : ℕ) → volume_place geo there wanted n ≡ Some line → (slice_get there (n / 64) ≡ Some wanted) × (volume_line geo n ≡ line)
placed geo there wanted n line is =
    let parts = if_there (is_wanted wanted (slice_get there (n / 64))) (volume_line geo n) line is in
    (wanted_is wanted (slice_get there (n / 64)) parts.0, parts.1)

pub place_of : (geo : Geometry) (there : List Bool) (wanted : Bool) (n : ℕ) → slice_get there (n / 64) ≡ Some wanted → volume_place geo there wanted n ≡ Some (volume_line geo n)
place_of geo there wanted n is =
    ap (λ t. if t then Some (volume_line geo n) else None) (ap (is_wanted wanted) is ∙ is_wanted_one wanted)

pub unplaced : (geo : Geometry) (there : List Bool) (wanted : Bool) (n : ℕ) → is_wanted wanted (slice_get there (n / 64)) ≡ false → volume_place geo there wanted n ≡ None
unplaced geo there wanted n is = ap (λ t. if t then Some (volume_line geo n) else None) is

module _ (geo : Geometry) (valid : IsValid geo) where
  -- the lines of the log and of the presence words are the volume's
  pub area_of_volume : (p : ℕ) → IsOf (volume_area geo) p → IsOfVolume geo (p / 8)
  unfolding first_line size
  area_of_volume p of =
      elim of as (λ _. IsOfVolume geo (p / 8)) [ inl log ↦ inl (omega arith, omega arith) | inr home ↦ inr (inl (omega arith, omega arith)) ]

  -- the lines of pages lie behind the metadata, on the device, in one of the ranges
  line_first : (n : ℕ) → n < size geo first_range → volume_line geo n ≡ first_line geo first_range + n
  unfolding volume_line
  line_first n below = ap (λ b. if b then first_line geo first_range + n else first_line geo second_range + (n - size geo first_range)) (lt-ltb n (size geo first_range) below)

  line_second : (n : ℕ) → size geo first_range ≤ n → volume_line geo n ≡ first_line geo second_range + (n - size geo first_range)
  unfolding volume_line
  line_second n past = ap (λ b. if b then first_line geo first_range + n else first_line geo second_range + (n - size geo first_range)) (le-ltb n (size geo first_range) past)

  pub line_is_volume : (n : ℕ) → n < 64 * geo.vpages → IsVolumeLine geo (volume_line geo n)
  unfolding size
  line_is_volume n below =
      elim (cases_lt n (size geo first_range)) as (λ _. IsVolumeLine geo (volume_line geo n)) [
        | inl here ↦ let at = line_first n here in inl (omega arith, omega arith)
        | inr past ↦ let at = line_second n past in inr (omega arith, omega arith)
      ]

  pub volume_behind_metadata : (line : ℕ) → IsVolumeLine geo line → (meta_lines geo ≤ line) × (line < total_lines geo)
  unfolding first_line size total_lines
  volume_behind_metadata line is = elim is as (λ _. (meta_lines geo ≤ line) × (line < total_lines geo)) [ inl one ↦ (omega arith, omega arith) | inr two ↦ (omega arith, omega arith) ]

  pub lines_differ : (n k : ℕ) → volume_line geo n ≡ volume_line geo k → n ≡ k
  unfolding first_line size
  lines_differ n k same =
      elim (cases_lt n (size geo first_range)) as (λ _. n ≡ k) [
        | inl n_first ↦ elim (cases_lt k (size geo first_range)) as (λ _. n ≡ k) [
          | inl k_first ↦ let a = line_first n n_first in let b = line_first k k_first in omega arith
          | inr k_second ↦ let a = line_first n n_first in let b = line_second k k_second in omega arith
        ]
        | inr n_second ↦ elim (cases_lt k (size geo first_range)) as (λ _. n ≡ k) [
          | inl k_first ↦ let a = line_second n n_second in let b = line_first k k_first in omega arith
          | inr k_second ↦ let a = line_second n n_second in let b = line_second k k_second in omega arith
        ]
      ]

  -- the 64 lines of a page follow each other
  pub lines_follow : (page k : ℕ) → k < 64 → volume_line geo (64 * page + k) ≡ volume_line geo (64 * page) + k
  unfolding size
  lines_follow page k below =
      elim (cases_lt (64 * page) (size geo first_range)) as (λ _. volume_line geo (64 * page + k) ≡ volume_line geo (64 * page) + k) [
        | inl here ↦ let a = line_first (64 * page) here in let b = line_first (64 * page + k) (omega arith) in omega arith
        | inr past ↦ let a = line_second (64 * page) past in let b = line_second (64 * page + k) (omega arith) in omega arith
      ]

  pub in_volume : (there : List Bool) (n : ℕ) (wanted : Bool) → length there ≡ geo.vpages → slice_get there (n / 64) ≡ Some wanted → n < 64 * geo.vpages
  in_volume there n wanted all is = let below = slice_get_within there (n / 64) wanted is in omega arith

  -- the lines of pages are apart
  pub lines_apart : (there : List Bool) (wanted : Bool) (count : ℕ) → length there ≡ geo.vpages → count ≡ total_lines geo → AreApart (volume_place geo there wanted) count
  lines_apart there wanted count all is =
      apart-present (λ n. is_wanted wanted (slice_get there (n / 64))) (volume_line geo) count
      (λ n has. subst (λ c. volume_line geo n < c) (sym is) (volume_behind_metadata (volume_line geo n) (line_is_volume n (in_volume there n wanted all (wanted_is wanted (slice_get there (n / 64)) has)))).1)
      (λ n other has has_other same. lines_differ n other same)

  pub placed_line : (there : List Bool) (wanted : Bool) (n line : ℕ) → length there ≡ geo.vpages → volume_place geo there wanted n ≡ Some line → IsVolumeLine geo line
  placed_line there wanted n line all is =
      let at = placed geo there wanted n line is in
      subst (IsVolumeLine geo) at.1 (line_is_volume n (in_volume there n wanted all at.0))
