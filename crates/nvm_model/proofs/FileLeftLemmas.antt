-- What is left of files of which one was to change.
use Rattle.std.proofs.Common.{◌≡◌, inl, inr, ℕ, Bool, true, false, List, [], ◌∷◌, length, map, refl, sym, ap, ap₂, ◌∙◌}
use Rattle.std.proofs.lemmas.Bool.{both_ways}
use Rattle.std.proofs.lemmas.List.{length-map}
use Rattle.std.proofs.lemmas.Slice.Eq.{bytes_eq-Decides}
use Rattle.std.specs.Bool.{Decides}
use Rattle.nvm_base.specs.declared.files.FileEntry.{FileEntry}
use Rattle.nvm_model.specs.Files.{OneFileLeft, entry_of_file}
use Rattle.nvm_model.specs.Interrupted.{MayStore}
use Rattle.nvm_model.specs.Listing.{file_name, is_named}
use Rattle.nvm_model.specs.Page.{Page, is_present}
use Rattle.nvm_model.specs.Storage.{File}
use Rattle.nvm_model.proofs.PageLemmas.{length-fill}

module _ (name : List ℕ) (R : List Page → List Page → Type 0) where
  -- all may be as before, where that is so of the pages
  pub one_left-same : ((pages : List Page) → R pages pages) → (files : List File) → OneFileLeft name R files files
  one_left-same same [] = tt
  one_left-same same (file ∷ files) = (refl, record { here = λ is. same file.pages; beside = λ out. refl }, one_left-same same files)

  -- names and page counts stay
  pub one_left-entries : ((old new : List Page) → R old new → length new ≡ length old) → (old new : List File) → OneFileLeft name R old new → map entry_of_file new ≡ map entry_of_file old
  one_left-entries sizes [] [] left = refl
  one_left-entries sizes [] (y ∷ ys) left = absurd left
  one_left-entries sizes (x ∷ xs) [] left = absurd left
  one_left-entries sizes (x ∷ xs) (y ∷ ys) left =
      ap₂ (λ (e : FileEntry) (es : List FileEntry). e ∷ es)
      (ap₂ (λ (n : List ℕ) (k : ℕ). let e : FileEntry = record { name = n; pages = k } in e) (sym left.0) (by_test (is_named file_name name x) (bytes_eq-Decides x.name name)))
      (one_left-entries sizes xs ys left.2)
    where
      by_test : (b : Bool) → Decides b (x.name ≡ name) → length y.pages ≡ length x.pages
      by_test true tells = sizes x.pages y.pages (left.1.here (tells.0 refl))
      by_test false tells = ap length (left.1.beside (λ is. both_ways false refl (tells.1 is)))

-- a store that is cut leaves as many pages
pub may_store-length : (at : ℕ) (bytes : List ℕ) (old new : List Page) → MayStore at bytes old new → length new ≡ length old
may_store-length at bytes old new (inl same) = ap length same
may_store-length at bytes old new (inr left) =
    sym (length-map new is_present) ∙ ap length left.there ∙ length-map _ is_present ∙ length-fill at (length bytes) old
