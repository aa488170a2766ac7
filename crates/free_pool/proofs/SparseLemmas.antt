-- What an order of units, with the free ones first, says of the pool.
use Rattle.std.proofs.Common.{◌≡◌, ◌≢◌, ◌⊎◌, ◌<◌, ◌≤◌, ◌+◌, ◌-◌, ℕ, Bool, true, false, ltb, List, slice_get, length, get_or, set, Some, arith, refl, sym, ◌∙◌, inl, inr, ap, length-set, replicate, cond, get_or-set_same, get_or-set_other}
use Rattle.std.proofs.lemmas.List.{same_lists, get_or-map, length-map, length-replicate, get_or-replicate}
use Rattle.std.proofs.lemmas.List.FromFn.{length-range_with_len, get_or-range_with_len, length-map-range_with_len, get_or-map-range_with_len}
use Rattle.std.proofs.lemmas.List.Folds.{sum_by-replicate}
use Rattle.std.specs.List.{range_with_len}
use Rattle.std.proofs.lemmas.Option.{slice_get-get_or, slice_get_within, get_or_from_slice_get}
use Rattle.std.proofs.lemmas.Bool.{cases_eq, cases_lt, lt-ltb, le-ltb, ltb-true, ltb-false}
use Rattle.free_pool.specs.Units.{IsFree, IsTaken, free_count}
use Rattle.free_pool.specs.Sparse.{pool_of, IsIndex, IsPool}
use Rattle.free_pool.proofs.CountLemmas.{free_count-taken, free_count-given, free_count-le}

-- a unit is free exactly where its place is before the first taken one
get_or-pool : (places : List ℕ) (free unit : ℕ) (d : Bool) → unit < length places → get_or (pool_of places free) unit d ≡ ltb (get_or places unit 0) free
get_or-pool places free unit d within = get_or-map (λ place. ltb place free) places unit 0 d within

pub free_from_place : (places : List ℕ) (free unit : ℕ) → unit < length places → get_or places unit 0 < free → IsFree (pool_of places free) unit
free_from_place places free unit within before =
    let value = get_or-pool places free unit true within ∙ lt-ltb _ free before in
    let lengths = length-map places (λ place. ltb place free) in
    slice_get-get_or (pool_of places free) unit true (omega arith) ∙ ap (λ (b : Bool). Some b) value

module _ (places : List ℕ) (free unit : ℕ) (b : Bool) (at_unit : slice_get (pool_of places free) unit ≡ Some b) where
  has_place : unit < length places
  has_place = omega (arith, slice_get_within (pool_of places free) unit b at_unit, length-map places (λ place. ltb place free))

  pub place_test : ltb (get_or places unit 0) free ≡ b
  place_test = sym (get_or-pool places free unit b has_place) ∙ get_or_from_slice_get (pool_of places free) unit b b at_unit

pub place_of_free : (places : List ℕ) (free unit : ℕ) → IsFree (pool_of places free) unit → (unit < length places) × (get_or places unit 0 < free)
place_of_free places free unit is_free = (has_place places free unit true is_free, ltb-true _ _ (place_test places free unit true is_free))

pub place_of_taken : (places : List ℕ) (free unit : ℕ) → IsTaken (pool_of places free) unit → (unit < length places) × (free ≤ get_or places unit 0)
place_of_taken places free unit is_taken = (has_place places free unit false is_taken, ltb-false _ _ (place_test places free unit false is_taken))

-- two tests that agree
same_test : (a b m n : ℕ) → (a < m → b < n) → (b < n → a < m) → ltb a m ≡ ltb b n
same_test a b m n to from =
    elim (cases_lt a m) [
      | inl below ↦ lt-ltb a m below ∙ sym (lt-ltb b n (to below))
      | inr above ↦ elim (cases_lt b n) [ inl below ↦ absurd (omega (arith, from below)) | inr beyond ↦ le-ltb a m above ∙ sym (le-ltb b n beyond) ]
    ]

-- two pools that differ at one unit
module _ (old new : List ℕ) (n m unit : ℕ) (b : Bool) (lengths : length new ≡ length old) (changed : ltb (get_or new unit 0) m ≡ b) (others : (k : ℕ) → k < length old → k ≢ unit → ltb (get_or new k 0) m ≡ ltb (get_or old k 0) n) where
  item_changed : (k : ℕ) (d : Bool) → k < length new → get_or (pool_of new m) k d ≡ get_or (set (pool_of old n) unit b) k d
  item_changed k d within =
      let in_old : k < length old = omega arith in
      let size = length-map old (λ place. ltb place n) in
      elim (cases_eq k unit) [
        | inl same ↦ get_or-pool new m k d within ∙ ap (λ u. ltb (get_or new u 0) m) same ∙ changed ∙ sym (get_or-set_same (pool_of old n) unit b d (omega arith)) ∙ ap (λ u. get_or (set (pool_of old n) unit b) u d) (sym same)
        | inr other ↦ get_or-pool new m k d within ∙ others k in_old other ∙ sym (get_or-pool old n k d in_old) ∙ sym (get_or-set_other (pool_of old n) unit k b d other)
      ]

  pub pool_changed : pool_of new m ≡ set (pool_of old n) unit b
  pool_changed =
      let size_new = length-map new (λ place. ltb place m) in
      let size_old = length-map old (λ place. ltb place n) in
      let size_set = length-set (pool_of old n) unit b in
      same_lists (pool_of new m) (set (pool_of old n) unit b) (omega arith) (λ k d within. item_changed k d (omega arith))

-- what is true of a pool after one unit changes
pub kept_taken : (order places : List ℕ) (old : List Bool) (free unit : ℕ) → IsIndex order places → free_count old ≡ free → IsFree old unit → pool_of places (free - 1) ≡ set old unit false → IsPool order places (free - 1)
kept_taken order places old free unit index count is_free after =
    let change = free_count-taken old unit is_free in
    record { index = index; count = ap free_count after ∙ omega arith }

pub kept_given : (order places : List ℕ) (old : List Bool) (free unit : ℕ) → IsIndex order places → free_count old ≡ free → IsTaken old unit → pool_of places (free + 1) ≡ set old unit true → IsPool order places (free + 1)
kept_given order places old free unit index count is_taken after =
    let change = free_count-given old unit is_taken in
    record { index = index; count = ap free_count after ∙ omega arith }

module _ (order places : List ℕ) (free : ℕ) (kept : IsPool order places free) where
  pub free_within : free ≤ length order
  free_within = omega (arith, free_count-le (pool_of places free), length-map places (λ place. ltb place free), kept.count, kept.index.lengths)

  -- the last free unit
  module _ (some : 0 < free) (unit : ℕ) (last : unit ≡ get_or order (free - 1) 0) where
    pub last_place : (unit < length places) × (get_or places unit 0 ≡ free - 1)
    last_place = rw last (kept.index.ordered (free - 1) (omega (arith, free_within)))

    pub last_is_free : IsFree (pool_of places free) unit
    last_is_free = free_from_place places free unit last_place.0 (omega (arith, last_place.1))

    pub last_taken : pool_of places (free - 1) ≡ set (pool_of places free) unit false
    last_taken = pool_changed places places free (free - 1) unit false refl (le-ltb _ _ (omega (arith, last_place.1))) (λ k within other.
        let apart : get_or places k 0 ≢ free - 1 = λ same. other (sym (kept.index.placed k within).1 ∙ ap (λ p. get_or order p 0) same ∙ sym last) in
        same_test _ _ _ _ (λ h. omega arith) (λ h. omega arith))

  -- a unit moves to a place, and the unit there to where that one was
  module _ (unit to : ℕ) (in_places : unit < length places) (in_order : to < length order) where
    moved : List ℕ
    moved = set (set places (get_or order to 0) (get_or places unit 0)) unit to

    length-moved : length moved ≡ length places
    unfolding moved
    length-moved = length-set (set places (get_or order to 0) (get_or places unit 0)) unit to ∙ length-set places (get_or order to 0) (get_or places unit 0)

    moved_unit : get_or moved unit 0 ≡ to
    unfolding moved
    moved_unit = get_or-set_same (set places (get_or order to 0) (get_or places unit 0)) unit to 0 (omega (arith, length-set places (get_or order to 0) (get_or places unit 0)))

    -- every other unit stays where it is, or is the one that makes room
    moved_other : (k : ℕ) → k < length places → k ≢ unit → ((get_or places k 0 ≡ to) × (get_or moved k 0 ≡ get_or places unit 0) × (get_or places unit 0 ≢ to)) ⊎ ((get_or places k 0 ≢ to) × (get_or moved k 0 ≡ get_or places k 0))
    unfolding moved
    moved_other k within other =
        let past = get_or-set_other (set places (get_or order to 0) (get_or places unit 0)) unit k to 0 other in
        elim (cases_eq k (get_or order to 0)) [
          | inl same ↦ inl (
            ap (λ u. get_or places u 0) same ∙ (kept.index.ordered to in_order).1,
            past ∙ ap (λ u. get_or (set places u (get_or places unit 0)) k 0) (sym same) ∙ get_or-set_same places k (get_or places unit 0) 0 within,
            λ stays. other (same ∙ ap (λ p. get_or order p 0) (sym stays) ∙ (kept.index.placed unit in_places).1),
          )
          | inr apart ↦ inr (
            λ there. apart (sym (kept.index.placed k within).1 ∙ ap (λ p. get_or order p 0) there),
            past ∙ get_or-set_other places (get_or order to 0) k (get_or places unit 0) 0 apart,
          )
        ]

  -- a free unit goes to the last free place
  pub moved_taken : (unit : ℕ) → IsFree (pool_of places free) unit → pool_of (set (set places (get_or order (free - 1) 0) (get_or places unit 0)) unit (free - 1)) (free - 1) ≡ set (pool_of places free) unit false
  unfolding moved
  moved_taken unit is_free =
      let place = place_of_free places free unit is_free in
      let room : free - 1 < length order = omega (arith, free_within, place.1) in
      pool_changed places (moved unit (free - 1) place.0 room) free (free - 1) unit false (length-moved unit (free - 1) place.0 room) (le-ltb _ _ (omega (arith, moved_unit unit (free - 1) place.0 room))) (λ k within other. elim (moved_other unit (free - 1) place.0 room k within other) [
        | inl making_room ↦ same_test _ _ _ _ (λ h. omega (arith, place.1, making_room)) (λ h. omega (arith, place.1, making_room))
        | inr staying ↦ same_test _ _ _ _ (λ h. omega (arith, staying)) (λ h. omega (arith, staying))
      ])

  -- a taken unit goes to the first place after the free ones
  pub room_to_give : (unit : ℕ) → IsTaken (pool_of places free) unit → free < length order
  room_to_give unit is_taken =
      let place = place_of_taken places free unit is_taken in
      omega (arith, place.1, kept.index.placed unit place.0)

  pub moved_given : (unit : ℕ) → IsTaken (pool_of places free) unit → pool_of (set (set places (get_or order free 0) (get_or places unit 0)) unit free) (free + 1) ≡ set (pool_of places free) unit true
  unfolding moved
  moved_given unit is_taken =
      let place = place_of_taken places free unit is_taken in
      let room = room_to_give unit is_taken in
      pool_changed places (moved unit free place.0 room) free (free + 1) unit true (length-moved unit free place.0 room) (lt-ltb _ _ (omega (arith, moved_unit unit free place.0 room))) (λ k within other. elim (moved_other unit free place.0 room k within other) [
        | inl making_room ↦ same_test _ _ _ _ (λ h. omega (arith, place.1, making_room)) (λ h. omega (arith, place.1, making_room))
        | inr staying ↦ same_test _ _ _ _ (λ h. omega (arith, staying)) (λ h. omega (arith, staying))
      ])

-- all units in order, all free
module _ (n : ℕ) where
  range_index : IsIndex (range_with_len 0 n) (range_with_len 0 n)
  range_index = record {
    lengths = refl;
    placed = λ unit within. at_own unit (omega (arith, length-range_with_len 0 n));
    ordered = λ place within. at_own place (omega (arith, length-range_with_len 0 n));
  }
    where
      at_own : (k : ℕ) → k < n → (get_or (range_with_len 0 n) k 0 < length (range_with_len 0 n)) × (get_or (range_with_len 0 n) (get_or (range_with_len 0 n) k 0) 0 ≡ k)
      at_own k below =
          let own : get_or (range_with_len 0 n) k 0 ≡ k = omega (arith, get_or-range_with_len 0 n k 0 below) in
          (omega (arith, length-range_with_len 0 n), ap (λ i. get_or (range_with_len 0 n) i 0) own ∙ own)

  pub all_free : pool_of (range_with_len 0 n) n ≡ replicate n true
  all_free = same_lists (pool_of (range_with_len 0 n) n) (replicate n true) (length-map-range_with_len (λ place. ltb place n) 0 n ∙ sym (length-replicate n true)) (λ k d within.
      let below : k < n = omega (arith, length-map-range_with_len (λ place. ltb place n) 0 n) in
      get_or-map-range_with_len (λ place. ltb place n) 0 n k k d below (omega arith) ∙ lt-ltb k n below ∙ sym (get_or-replicate n k true d below))

  pub range_kept : IsPool (range_with_len 0 n) (range_with_len 0 n) n
  range_kept = record {
    index = range_index;
    count = ap free_count all_free ∙ sum_by-replicate (λ (b : Bool). cond b 1 0) n true ∙ omega arith;
  }
