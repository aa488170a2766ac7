-- One file that was left old or new leaves all files so.
use Rattle.std.proofs.Common.{◌≡◌, ◌⊎◌, inl, inr, ℕ, Bool, true, false, cond, List, [], ◌∷◌, refl, sym, ap₂, ◌∙◌}
use Rattle.std.specs.Bool.{Decides}
use Rattle.std.specs.List.{list_all}
use Rattle.std.proofs.lemmas.Bool.{and_parts, both_ways, or_parts}
use Rattle.std.proofs.lemmas.Slice.Eq.{bytes_eq-Decides}
use Rattle.nvm_model.specs.Files.{OneFileLeft, on_pages}
use Rattle.nvm_model.specs.Listing.{change_file, file_name, has_file, is_before, is_named, rises}
use Rattle.nvm_model.specs.Page.{Page}
use Rattle.nvm_model.specs.Storage.{File}
use Rattle.nvm_model.proofs.FileLemmas.{change-none, named-is}
use Rattle.machine_host.proofs.WeakFileLemmas.{none-after}

same_file : (x y : File) → x.name ≡ y.name → y.pages ≡ x.pages → y ≡ x
same_file x y named pages = ap₂ (λ n p. let file : File = record { name = n; pages = p } in file) (sym named) pages

-- files of which none has the name are left
left-none : (name : List ℕ) (R : List Page → List Page → Type 0) (xs ys : List File) → has_file file_name name xs ≡ false → OneFileLeft name R xs ys → ys ≡ xs
left-none name R [] [] none left = refl
left-none name R [] (y ∷ ys) none left = absurd left
left-none name R (x ∷ xs) [] none left = absurd left
left-none name R (x ∷ xs) (y ∷ ys) none left =
    let parts = or_parts (is_named file_name name x) (has_file file_name name xs) none in
    let same = same_file x y left.0 (left.1.beside (λ is. both_ways (is_named file_name name x) parts.0 (named-is file_name name x is))) in
    ap₂ (λ z zs. z ∷ zs) same (left-none name R xs ys parts.1 left.2)

pub left-either : (name : List ℕ) (f : List Page → List Page) (xs ys : List File) → rises file_name xs ≡ true → OneFileLeft name (λ old left. (left ≡ old) ⊎ (left ≡ f old)) xs ys
    → (ys ≡ xs) ⊎ (ys ≡ change_file file_name name (on_pages f) xs)
left-either name f [] [] up left = inl refl
left-either name f [] (y ∷ ys) up left = absurd left
left-either name f (x ∷ xs) [] up left = absurd left
left-either name f (x ∷ xs) (y ∷ ys) up left = by_test (is_named file_name name x) (bytes_eq-Decides x.name name) (left-either name f xs ys parts.1 left.2)
  where
    parts : (list_all (λ (z : File). is_before x.name z.name) xs ≡ true) × (rises file_name xs ≡ true)
    parts = and_parts _ (rises file_name xs) up

    changed : List File
    changed = change_file file_name name (on_pages f) xs

    by_test : (b : Bool) → Decides b (x.name ≡ name) → (ys ≡ xs) ⊎ (ys ≡ changed) → (y ∷ ys ≡ x ∷ xs) ⊎ (y ∷ ys ≡ cond b (on_pages f x) x ∷ changed)
    by_test true tells rest = by_pages (left.1.here (tells.0 refl))
      where
        none : has_file file_name name xs ≡ false
        none = none-after name x xs (tells.0 refl) parts.0

        others : ys ≡ xs
        others = left-none name _ xs ys none left.2

        by_pages : (y.pages ≡ x.pages) ⊎ (y.pages ≡ f x.pages) → (y ∷ ys ≡ x ∷ xs) ⊎ (y ∷ ys ≡ on_pages f x ∷ changed)
        by_pages (inl old) = inl (ap₂ (λ z zs. z ∷ zs) (same_file x y left.0 old) others)
        by_pages (inr new) = inr (ap₂ (λ z zs. z ∷ zs) (same_file (on_pages f x) y left.0 new) (others ∙ sym (change-none file_name name (on_pages f) xs none)))
    by_test false tells rest = by_rest rest
      where
        same : y ≡ x
        same = same_file x y left.0 (left.1.beside (λ is. both_ways false refl (tells.1 is)))

        by_rest : (ys ≡ xs) ⊎ (ys ≡ changed) → (y ∷ ys ≡ x ∷ xs) ⊎ (y ∷ ys ≡ x ∷ changed)
        by_rest (inl old) = inl (ap₂ (λ z zs. z ∷ zs) same old)
        by_rest (inr new) = inr (ap₂ (λ z zs. z ∷ zs) same new)
