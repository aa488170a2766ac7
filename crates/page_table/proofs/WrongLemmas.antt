-- When a page is wrong after those before it.
use Rattle.std.proofs.Common.{◌≡◌, ◌<◌, ◌≤◌, ◌+◌, ℕ, Bool, true, false, List, Option, Some, None, length, map}
use Rattle.std.specs.List.{list_any}
use Rattle.std.proofs.lemmas.Bool.{le-leb, lt-leb, leb-false, not-false, not_from_false, not_from_true, or_from, or_left, or_parts, or_right}
use Rattle.page_table.specs.Pages.{unit_of, used_pages}
use Rattle.page_table.specs.Wrong.{first_wrong_entry, is_on, is_wrong, is_wrong_after}
use Rattle.page_table.proofs.FirstLemmas.{first_is, first_is_none, first_within, fails_where_none}

module _ (units : ℕ) (before : List (Option ℕ)) (there : Bool) (unit : ℕ) where
  pub wrong_no_page : there ≡ false → is_wrong_after units before there (Some unit) ≡ true
  wrong_no_page no_page = or_left _ _ (or_left _ _ (or_left _ _ (not_from_false there no_page)))

  pub wrong_no_unit : units ≤ unit → is_wrong_after units before there (Some unit) ≡ true
  wrong_no_unit past = or_left _ _ (or_left _ _ (or_right _ _ (le-leb units unit past)))

  pub wrong_twice : list_any (is_on unit) before ≡ true → is_wrong_after units before there (Some unit) ≡ true
  wrong_twice named = or_left _ _ (or_right _ _ named)

  pub wrong_no_room : units ≤ used_pages before + 16 → is_wrong_after units before there (Some unit) ≡ true
  wrong_no_room full = or_right _ _ (le-leb units (used_pages before + 16) full)

  -- what is true of a page that is not wrong
  pub record IsRight : Type 0 where
    pub there_is : there ≡ true
    pub within : unit < units
    pub own : list_any (is_on unit) before ≡ false
    pub room : used_pages before + 16 < units

  pub not_wrong : IsRight → is_wrong_after units before there (Some unit) ≡ false
  not_wrong r = or_from _ _ (or_from _ _ (or_from _ _ (not_from_true there r.there_is) (lt-leb units unit r.within)) r.own) (lt-leb units (used_pages before + 16) r.room)

  pub right_parts : is_wrong_after units before there (Some unit) ≡ false → IsRight
  right_parts right =
      let room = or_parts _ _ right in
      let own = or_parts _ _ room.0 in
      let within = or_parts _ _ own.0 in
      record {
        there_is = not-false there within.0;
        within = leb-false units unit within.1;
        own = own.1;
        room = leb-false units (used_pages before + 16) room.1;
      }

-- the first wrong word
module _ (units : ℕ) (counts words : List ℕ) where
  pub wrong_first : (n : ℕ) → n < length words → ((k : ℕ) → k < n → is_wrong units counts (map unit_of words) k ≡ false) → is_wrong units counts (map unit_of words) n ≡ true
      → first_wrong_entry units counts words ≡ Some n
  unfolding first_wrong_entry
  wrong_first = first_is (is_wrong units counts (map unit_of words)) (length words)

  pub wrong_within : (n : ℕ) → first_wrong_entry units counts words ≡ Some n → n < length words
  unfolding first_wrong_entry
  wrong_within = first_within (is_wrong units counts (map unit_of words)) (length words)

  pub none_wrong : ((k : ℕ) → k < length words → is_wrong units counts (map unit_of words) k ≡ false) → first_wrong_entry units counts words ≡ None
  unfolding first_wrong_entry
  none_wrong = first_is_none (is_wrong units counts (map unit_of words)) (length words)

  pub all_right : first_wrong_entry units counts words ≡ None → (k : ℕ) → k < length words → is_wrong units counts (map unit_of words) k ≡ false
  unfolding first_wrong_entry
  all_right = fails_where_none (is_wrong units counts (map unit_of words)) (length words)
