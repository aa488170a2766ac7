-- The files of tables in order of name, after the file of a name changed.
use Rattle.std.proofs.Common.{◌≡◌, ℕ, ◌<◌, ◌≤◌, ◌||◌, true, false, is_some, [], ◌∷◌, List, Option, Some, None, option_map, slice_get, slice_set, refl, sym, ap, subst, ◌∙◌, inl, inr}
use Rattle.std.proofs.lemmas.Bool.{cases_Bool, cond-true, cond-false, or_left}
use Rattle.std.proofs.lemmas.Option.{get_or_from_slice_get}
use Rattle.inode_table.specs.Slots as names
use Rattle.inode_table.specs.Slots.{IsNamed, inode_of, pages_at}
use Rattle.inode_table.proofs.SlotLemmas.{found_is_named, none_named}
use Rattle.nvm_model.specs.Listing as list
use Rattle.nvm_model.specs.Listing.{change_file, in_order, put_some, rename_file, without_file}
use Rattle.nvm_model.proofs.FileLemmas.{change-none, file_of-none, without-none}
use Rattle.nvm_model.proofs.SlotLemmas.{file_of-in_order, in_order-changed, in_order-deleted, in_order-renamed}
use Rattle.file_journal.specs.Changes.{deleted, renamed, replaced, replaced_at, resized, switched}
use Rattle.file_journal.specs.Files.{UnitFile, files_of, named_file, resized_file, switched_file, unit_file, unit_file_name, unit_slots}
use Rattle.file_journal.specs.Tables.{AreTables, Tables, has_file}
use Rattle.file_journal.proofs.FilesOfLemmas.{listed-replaced, low_of, may_take-units, none_listed, slot_of-file, unnamed}
use Rattle.file_journal.proofs.FillLemmas.{set_again}
use Rattle.file_journal.proofs.ReplaceLemmas.{may_named, may_unnamed}
use Rattle.file_journal.proofs.SlotFileLemmas.{unit_slots-changed}
use Rattle.file_journal.proofs.UnitFileLemmas.{unit_file-renamed, unit_file-resized, unit_file-switched}

has_file-found : {A : Type 0} (name : A → List ℕ) (text : List ℕ) (xs : List A) → list.has_file name text xs ≡ is_some (list.file_of name text xs)
has_file-found name text [] = refl
has_file-found name text (x ∷ xs) =
    elim (cases_Bool (list.is_named name text x)) [
      | inl named ↦ or_left (list.is_named name text x) _ named ∙ sym (ap is_some (cond-true (list.is_named name text x) _ _ named))
      | inr other ↦
          ap (λ b. b || list.has_file name text xs) other ∙ has_file-found name text xs
          ∙ sym (ap is_some (cond-false (list.is_named name text x) _ _ other))
    ]

module _ (size : ℕ) (t : Tables) (are : AreTables size t) (name : List ℕ) where
  module _ (inode : ℕ) (here : IsNamed t.files inode name) where
    low : inode < 64
    low = low_of size t are inode (Some here.file) here.is

    had : list.MayTake unit_file_name (unit_slots t) inode here.file.name
    had = may_take-units t inode here.file.name (subst (names.MayTake t.files inode) (sym here.named) (may_named t.files inode name are.names here))

    is : slice_get (unit_slots t) inode ≡ Some (Some (unit_file t inode here.file))
    is = slot_of-file t inode (Some here.file) here.is

    abbrev become : UnitFile → List UnitFile
    become file = in_order unit_file_name (slice_set (unit_slots t) inode (Some file))

    pub has_file-here : list.has_file unit_file_name name (files_of t) ≡ true
    has_file-here =
        has_file-found unit_file_name name (files_of t)
        ∙ ap is_some (ap (λ n. list.file_of unit_file_name n (files_of t)) (sym here.named) ∙ file_of-in_order unit_file_name (unit_slots t) inode (unit_file t inode here.file) is had)

    deleted-here : files_of (replaced inode None t) ≡ without_file unit_file_name name (files_of t)
    deleted-here =
        listed-replaced size t are inode None low ∙ in_order-deleted unit_file_name (unit_slots t) inode (unit_file t inode here.file) is had
        ∙ ap (λ n. without_file unit_file_name n (files_of t)) here.named

    renamed-here : (to : List ℕ) → has_file t to ≡ false
        → files_of (replaced inode (Some (record { name = to; pages = pages_at t.files inode })) t) ≡ rename_file unit_file_name name (named_file to) (files_of t)
    renamed-here to none =
        listed-replaced size t are inode (Some (record { name = to; pages = pages_at t.files inode })) low
        ∙ ap become (unit_file-renamed size t are inode low here.file here.is to)
        ∙ in_order-renamed unit_file_name (unit_slots t) inode (unit_file t inode here.file) (named_file to) is had
        (may_take-units t inode to (may_unnamed t.files inode to (none_named to t.files (unnamed t to none))))
        ∙ ap (λ n. rename_file unit_file_name n (named_file to) (files_of t)) here.named

    resized-here : (pages : ℕ) → pages ≤ 256
        → files_of (replaced inode (Some (record { name = name; pages = pages })) t) ≡ change_file unit_file_name name (resized_file pages) (files_of t)
    resized-here pages few =
        listed-replaced size t are inode (Some (record { name = name; pages = pages })) low
        ∙ ap become (unit_file-resized size t are inode low here.file here.is name pages few here.named)
        ∙ in_order-changed unit_file_name (unit_slots t) inode (unit_file t inode here.file) (resized_file pages) is had refl
        ∙ ap (λ n. change_file unit_file_name n (resized_file pages) (files_of t)) here.named

    pub files_of-switched : (switches : List (ℕ × Option ℕ))
        → files_of (switched inode switches t) ≡ change_file unit_file_name name (switched_file switches) (files_of t)
    files_of-switched switches =
        ap files_of (sym (set_again inode (Some here.file) switches t (sym (get_or_from_slice_get t.files inode (Some here.file) None here.is))))
        ∙ ap (in_order unit_file_name) (unit_slots-changed inode switches (Some here.file) t are.table.all are.names low)
        ∙ ap become (unit_file-switched size t are inode low here.file here.is switches)
        ∙ in_order-changed unit_file_name (unit_slots t) inode (unit_file t inode here.file) (switched_file switches) is had refl
        ∙ ap (λ n. change_file unit_file_name n (switched_file switches) (files_of t)) here.named

  pub files_of-deleted : files_of (deleted name t) ≡ without_file unit_file_name name (files_of t)
  files_of-deleted = by_found (inode_of name t.files) refl
    where
      by_found : (o : Option ℕ) → inode_of name t.files ≡ o → files_of (replaced_at o (λ _. None) t) ≡ without_file unit_file_name name (files_of t)
      by_found None found = sym (without-none unit_file_name name (files_of t) (none_listed t name found))
      by_found (Some inode) found = deleted-here inode (found_is_named name t.files inode found)

  pub files_of-renamed : (to : List ℕ) → has_file t to ≡ false → files_of (renamed name to t) ≡ rename_file unit_file_name name (named_file to) (files_of t)
  files_of-renamed to none = by_found (inode_of name t.files) refl
    where
      by_found : (o : Option ℕ) → inode_of name t.files ≡ o
          → files_of (replaced_at o (λ inode. Some (record { name = to; pages = pages_at t.files inode })) t) ≡ rename_file unit_file_name name (named_file to) (files_of t)
      by_found None found =
          let missing = none_listed t name found in
          sym (ap (λ o. put_some unit_file_name (option_map (named_file to) o) (without_file unit_file_name name (files_of t))) (file_of-none unit_file_name name (files_of t) missing)
          ∙ without-none unit_file_name name (files_of t) missing)
      by_found (Some inode) found = renamed-here inode (found_is_named name t.files inode found) to none

  pub files_of-resized : (pages : ℕ) → pages ≤ 256 → files_of (resized name pages t) ≡ change_file unit_file_name name (resized_file pages) (files_of t)
  files_of-resized pages few = by_found (inode_of name t.files) refl
    where
      by_found : (o : Option ℕ) → inode_of name t.files ≡ o
          → files_of (replaced_at o (λ _. Some (record { name = name; pages = pages })) t) ≡ change_file unit_file_name name (resized_file pages) (files_of t)
      by_found None found = sym (change-none unit_file_name name (resized_file pages) (files_of t) (none_listed t name found))
      by_found (Some inode) found = resized-here inode (found_is_named name t.files inode found) pages few

  pub has_file-files_of : has_file t name ≡ list.has_file unit_file_name name (files_of t)
  has_file-files_of = by_found (inode_of name t.files) refl
    where
      by_found : (o : Option ℕ) → inode_of name t.files ≡ o → is_some o ≡ list.has_file unit_file_name name (files_of t)
      by_found None found = sym (none_listed t name found)
      by_found (Some inode) found = sym (has_file-here inode (found_is_named name t.files inode found))
