-- Slots looked through.
use Rattle.std.proofs.Common.{◌≡◌, ◌<◌, ℕ, zero, suc, true, false, List, [], ◌∷◌, Option, Some, None, length, get_or, cond, is_some, is_none, slice_get, refl, sym, ap, ◌∙◌, arith}
use Rattle.std.proofs.lemmas.Bool.{false≢true}
use Rattle.std.proofs.lemmas.Option.{slice_get-get_or, slice_get_within, get_or_from_slice_get}
use Rattle.std.proofs.lemmas.List.Quantifiers.{position-Some}
use Rattle.std.proofs.lemmas.List.Sums.{count_by-le-length, sum_by-cons}
use Rattle.std.proofs.lemmas.Slice.Eq.{bytes_eq-Decides}
use Rattle.nvm_base.specs.declared.files.FileEntry.{FileEntry}
use Rattle.inode_table.specs.Slots.{IsNamed, has_name, inode_of, free_inode, file_count}
use Rattle.inode_table.proofs.FirstLemmas.{position_is_none, fails-position_none}

module _ (name : List ℕ) (slots : List (Option FileEntry)) where
  pub is_named : (i : ℕ) (slot : Option FileEntry) → slice_get slots i ≡ Some slot → has_name name slot ≡ true → IsNamed slots i name
  is_named i None is test = absurd (false≢true test)
  is_named i (Some file) is test = record { file = file; is = is; named = (bytes_eq-Decides file.name name).0 test }

  pub found_is_named : (i : ℕ) → inode_of name slots ≡ Some i → IsNamed slots i name
  found_is_named i found =
      let there = position-Some (has_name name) slots i None found in
      is_named i (get_or slots i None) (slice_get-get_or slots i None there.0) there.1

  pub has_name-named : (i : ℕ) → IsNamed slots i name → has_name name (get_or slots i None) ≡ true
  has_name-named i named =
      ap (has_name name) (get_or_from_slice_get slots i (Some named.file) None named.is) ∙ (bytes_eq-Decides named.file.name name).1 named.named

  pub none_named : inode_of name slots ≡ None → (i : ℕ) → IsNamed slots i name → ⊥
  none_named none i named =
      false≢true (sym (fails-position_none (has_name name) slots None none i (slice_get_within slots i (Some named.file) named.is)) ∙ has_name-named i named)

  pub found_from_named : (i : ℕ) → inode_of name slots ≡ Some i → ((j : ℕ) → IsNamed slots j name → ⊥) → ⊥
  found_from_named i found none = none i (found_is_named i found)

is_free : (slot : Option FileEntry) → is_none slot ≡ true → slot ≡ None
is_free None free = refl
is_free (Some file) free = absurd (false≢true free)

module _ (slots : List (Option FileEntry)) where
  pub free_slot_is_free : (i : ℕ) → free_inode slots ≡ Some i → slice_get slots i ≡ Some None
  free_slot_is_free i found =
      let there = position-Some is_none slots i None found in
      slice_get-get_or slots i None there.0 ∙ ap Some (is_free (get_or slots i None) there.1)

-- all slots are files exactly where none is free
all_files : (slots : List (Option FileEntry)) → ((k : ℕ) → k < length slots → is_none (get_or slots k None) ≡ false) → file_count slots ≡ length slots
all_files [] used = refl
all_files (None ∷ slots) used = absurd (false≢true (sym (used 0 (omega arith))))
all_files (Some file ∷ slots) used = let rest = all_files slots (λ k below. used (suc k) (omega arith)) in omega (arith, sum_by-cons (λ slot. cond (is_some slot) 1 0) (Some file) slots)

none_free : (slots : List (Option FileEntry)) → file_count slots ≡ length slots → (k : ℕ) → k < length slots → is_none (get_or slots k None) ≡ false
none_free [] full k below = absurd (omega arith)
none_free (None ∷ slots) full k below = absurd (omega (arith, count_by-le-length is_some slots, sum_by-cons (λ slot. cond (is_some slot) 1 0) None slots))
none_free (Some file ∷ slots) full zero below = refl
none_free (Some file ∷ slots) full (suc k) below = none_free slots (omega (arith, sum_by-cons (λ slot. cond (is_some slot) 1 0) (Some file) slots)) k (omega arith)

pub full_from_none : (slots : List (Option FileEntry)) → free_inode slots ≡ None → file_count slots ≡ length slots
full_from_none slots none = all_files slots (fails-position_none is_none slots None none)

pub none_from_full : (slots : List (Option FileEntry)) → file_count slots ≡ length slots → free_inode slots ≡ None
none_from_full slots full = position_is_none is_none slots None (none_free slots full)
