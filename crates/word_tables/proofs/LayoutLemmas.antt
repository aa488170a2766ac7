-- Areas follow each other.
use Rattle.std.proofs.Common.{◌≡◌, ◌⊎◌, ℕ, Bool, true, false, cond, ltb, ◌+◌, ◌-◌, ◌*◌, ◌%◌, ◌<◌, ◌≤◌, List, length, get_or, take, sum, arith, lit<, refl, ap, inl, inr}
use Rattle.std.proofs.lemmas.Bool.{cases_lt}
use Rattle.std.proofs.lemmas.Bool.Decides.{nat_tests}
use Rattle.std.proofs.lemmas.List.{get_or-take, take-take, length-take}
use Rattle.std.proofs.lemmas.List.Sums.{sum_by_more_le}
use Rattle.word_tables.specs.declared.geometry.Geometry.{Geometry}
use Rattle.word_tables.specs.Bounds.{IsValid}
use Rattle.word_tables.specs.Layout.{Area, superblock, block_log, block_map, volume_log, presence, file_log, inodes, page_tables, spare, first_range, blocks, second_range, file_pages, rank, sizes, size, first_line, total_lines, volume_line, HasLine, IsVolumeLine, IsLaidOut, IsSpread}

-- a term of a list lies before the sum of a longer front
front_before : (xs : List ℕ) (i j : ℕ) → i < length xs → i < j → sum (take i xs) + get_or xs i 0 ≤ sum (take j xs)
front_before xs i j within before =
    let part : sum (take i (take j xs)) + get_or (take j xs) i 0 ≤ sum (take j xs) = sum_by_more_le (λ x. x) (take j xs) i 0 (omega (arith, length-take j xs)) in
    let front : sum (take i (take j xs)) ≡ sum (take i xs) = ap sum (take-take i j xs (omega arith)) in
    let item = get_or-take j xs i 0 before in
    omega arith

-- the rank is one of the table's
rank_below : (a : Area) → rank a < 13
rank_below superblock = lit< tt
rank_below block_log = lit< tt
rank_below block_map = lit< tt
rank_below volume_log = lit< tt
rank_below presence = lit< tt
rank_below file_log = lit< tt
rank_below inodes = lit< tt
rank_below page_tables = lit< tt
rank_below spare = lit< tt
rank_below first_range = lit< tt
rank_below blocks = lit< tt
rank_below second_range = lit< tt
rank_below file_pages = lit< tt

-- two stretches of numbers, put where they don't overlap
stretch : (len first second : ℕ) → ℕ → ℕ
stretch len first second n = cond (ltb n len) (first + n) (second + (n - len))

stretch-distinct : (len first second m n : ℕ) → first + len ≤ second → stretch len first second m ≡ stretch len first second n → m ≡ n
unfolding stretch
stretch-distinct len first second m n apart = by_tests (ltb m len) (ltb n len) refl refl
  where
    by_tests : (a b : Bool) → ltb m len ≡ a → ltb n len ≡ b → cond a (first + m) (second + (m - len)) ≡ cond b (first + n) (second + (n - len)) → m ≡ n
    by_tests true true p q same = omega arith
    by_tests true false p q same = grind (arith, nat_tests)
    by_tests false true p q same = grind (arith, nat_tests)
    by_tests false false p q same = grind (arith, nat_tests)

stretch-in : (len first second more n : ℕ) → n < len + more
    → ((first ≤ stretch len first second n) × (stretch len first second n < first + len))
    ⊎ ((second ≤ stretch len first second n) × (stretch len first second n < second + more))
unfolding stretch
stretch-in len first second more n within = by_test (ltb n len) refl
  where
    by_test : (a : Bool) → ltb n len ≡ a
        → ((first ≤ cond a (first + n) (second + (n - len))) × (cond a (first + n) (second + (n - len)) < first + len))
        ⊎ ((second ≤ cond a (first + n) (second + (n - len))) × (cond a (first + n) (second + (n - len)) < second + more))
    by_test true is = let low : n < len = grind (arith, nat_tests) in inl (omega arith, omega arith)
    by_test false is = let high : len ≤ n = grind (arith, nat_tests) in inr (omega arith, omega arith)

module _ (geo : Geometry) where
  areas_apart : (a b : Area) → rank a < rank b → first_line geo a + size geo a ≤ first_line geo b
  unfolding first_line size
  areas_apart a b before = front_before (sizes geo) (rank a) (rank b) (rank_below a) before

  area_within : (a : Area) → first_line geo a + size geo a ≤ total_lines geo
  unfolding first_line size total_lines
  area_within a = sum_by_more_le (λ x. x) (sizes geo) (rank a) 0 (rank_below a)

  whole_pages : IsValid geo → (a : Area) → rank first_range ≤ rank a → first_line geo a % 64 ≡ 0
  unfolding first_line
  whole_pages valid first_range late = omega arith
  whole_pages valid blocks late = omega arith
  whole_pages valid second_range late = omega arith
  whole_pages valid file_pages late = omega arith
  whole_pages valid _ late = absurd (omega arith)

  -- the two ranges have the volume's lines
  volume_size : size geo first_range + size geo second_range ≡ 64 * geo.vpages
  unfolding size
  volume_size = omega arith

  -- a line is in one area at most
  pub one_area : (a b : Area) (line : ℕ) → HasLine geo a line → HasLine geo b line → rank a ≡ rank b
  one_area a b line in_a in_b =
      elim (cases_lt (rank a) (rank b)) [
        | inl before ↦ absurd (omega (arith, areas_apart a b before))
        | inr after ↦ elim (cases_lt (rank b) (rank a)) [ inl before ↦ absurd (omega (arith, areas_apart b a before)) | inr same ↦ omega arith ]
      ]

  pub areas_laid_out : IsValid geo → IsLaidOut geo
  areas_laid_out valid = record { apart = areas_apart; within = area_within; whole_pages = whole_pages valid }

  pub volume_line-distinct : (m n : ℕ) → volume_line geo m ≡ volume_line geo n → m ≡ n
  unfolding volume_line stretch
  volume_line-distinct m n same =
      stretch-distinct (size geo first_range) (first_line geo first_range) (first_line geo second_range) m n (areas_apart first_range second_range (lit< tt)) same

  pub volume_line-in : (n : ℕ) → n < 64 * geo.vpages → IsVolumeLine geo (volume_line geo n)
  unfolding volume_line stretch
  volume_line-in n within =
      stretch-in (size geo first_range) (first_line geo first_range) (first_line geo second_range) (size geo second_range) n (omega (arith, volume_size))

  pub volume_line-within : (n : ℕ) → n < 64 * geo.vpages → volume_line geo n < total_lines geo
  volume_line-within n within =
      elim (volume_line-in n within) [
        | inl first ↦ omega (arith, area_within first_range)
        | inr second ↦ omega (arith, area_within second_range)
      ]

  pub volume_spread : IsSpread geo
  volume_spread = record { distinct = volume_line-distinct; in_ranges = volume_line-in }
