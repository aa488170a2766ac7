-- Files of which that of one name changes: it with its units, what is left of it, and one change after another.
use Rattle.std.proofs.Common.{◌≡◌, ℕ, Bool, true, false, cond, Option, Some, option_map, List, [], ◌∷◌, refl, ap, ap₂, ◌∙◌}
use Rattle.std.proofs.lemmas.Bool.{both_ways}
use Rattle.std.proofs.lemmas.Slice.Eq.{bytes_eq-Decides}
use Rattle.std.specs.Bool.{Decides}
use Rattle.std.specs.List.{Contains}
use Rattle.nvm_model.specs.Files.{FileLeft, OneFileLeft, on_pages}
use Rattle.nvm_model.specs.Listing.{AreAlike, change_file, file_name, file_of, is_named}
use Rattle.nvm_model.specs.Page.{Page}
use Rattle.nvm_model.specs.Storage.{File}
use Rattle.nvm_model.proofs.AlikeLemmas.{alike-among, alike-then}
use Rattle.nvm_model.proofs.AlikeChangeLemmas.{alike-change}
use Rattle.nvm_model.proofs.ListedLemmas.{contains-here, contains-later}

-- a change that does nothing
pub change-same : {A : Type 0} (name : A → List ℕ) (text : List ℕ) (xs : List A) → change_file name text (λ x. x) xs ≡ xs
change-same name text [] = refl
change-same name text (x ∷ xs) = ap₂ (λ y ys. y ∷ ys) (either (is_named name text x)) (change-same name text xs)
  where
    either : (b : Bool) → cond b x x ≡ x
    either true = refl
    either false = refl

-- the file of a name changed in both lists, of files that are among the first ones
pub alike-change_among : {A B : Type 0} (name : A → List ℕ) (other : B → List ℕ) (R S : A → B → Type 0) (text : List ℕ) (f : A → A) (g : B → B) (xs : List A) (ys : List B)
    → ((x : A) (y : B) → Contains xs x → name x ≡ text → other y ≡ text → R x y → (name (f x) ≡ other (g y)) × S (f x) (g y))
    → ((x : A) (y : B) → Contains xs x → (name x ≡ text → ⊥) → name x ≡ other y → R x y → S x y)
    → AreAlike name other R xs ys → AreAlike name other S (change_file name text f xs) (change_file other text g ys)
alike-change_among name other R S text f g xs ys here beside alike =
    alike-change name other (λ x y. Contains xs x × R x y) S text f g xs ys
    (λ x y is is_other both. here x y both.0 is is_other both.1)
    (λ x y out same both. beside x y both.0 out same both.1)
    (alike-among name other R (λ x y. Contains xs x × R x y) xs ys (λ x y has same holds. (has, holds)) alike)

-- each file of the second list left as another of its name
pub alike-left : {A B : Type 0} (name : A → List ℕ) (other : B → List ℕ) (R S : A → B → Type 0) (Q : B → B → Type 0) (xs : List A) (ys : List B)
    → ((x : A) (y : B) → Contains xs x → name x ≡ other y → R x y → (z : B) × (other y ≡ other z) × Q y z × S x z)
    → AreAlike name other R xs ys → (zs : List B) × AreAlike other other Q ys zs × AreAlike name other S xs zs
alike-left name other R S Q [] [] leaves alike = ([], tt, tt)
alike-left name other R S Q [] (y ∷ ys) leaves alike = absurd alike
alike-left name other R S Q (x ∷ xs) [] leaves alike = absurd alike
alike-left name other R S Q (x ∷ xs) (y ∷ ys) leaves alike =
    let one = leaves x y (contains-here x xs x refl) alike.0 alike.1 in
    let rest = alike-left name other R S Q xs ys (λ a b has. leaves a b (contains-later x xs a has)) alike.2 in
    (one.0 ∷ rest.0, (one.1, one.2, rest.1), (alike.0 ∙ one.1, one.3, rest.2))

-- what is left of files of which one was changed is left of these
pub left-changed : (name : List ℕ) (h : List Page → List Page) (R Q : List Page → List Page → Type 0) → ((p q : List Page) → R (h p) q → Q p q) → (xs ys : List File)
    → OneFileLeft name R (change_file file_name name (on_pages h) xs) ys → OneFileLeft name Q xs ys
left-changed name h R Q so [] [] left = tt
left-changed name h R Q so [] (y ∷ ys) left = absurd left
left-changed name h R Q so (x ∷ xs) [] left = absurd left
left-changed name h R Q so (x ∷ xs) (y ∷ ys) left = by_test (is_named file_name name x) (bytes_eq-Decides x.name name) (left-changed name h R Q so xs ys left.2) left.0 left.1
  where
    by_test : (b : Bool) → Decides b (x.name ≡ name) → OneFileLeft name Q xs ys → (cond b (on_pages h x) x).name ≡ y.name → FileLeft name R (cond b (on_pages h x) x) y → OneFileLeft name Q (x ∷ xs) (y ∷ ys)
    by_test true tells rest same l = (same, record { here = λ is. so x.pages y.pages (l.here is); beside = λ out. absurd (out (tells.0 refl)) }, rest)
    by_test false tells rest same l = (same, record { here = λ is. absurd (both_ways false refl (tells.1 is)); beside = l.beside }, rest)

-- the files with that one changed are left of them, where R leaves its pages as f makes them
pub left-change : (name : List ℕ) (f : List Page → List Page) (R : List Page → List Page → Type 0) → ((p : List Page) → R p (f p)) → (xs : List File)
    → OneFileLeft name R xs (change_file file_name name (on_pages f) xs)
left-change name f R leaves [] = tt
left-change name f R leaves (x ∷ xs) = by_test (is_named file_name name x) (bytes_eq-Decides x.name name) (left-change name f R leaves xs)
  where
    by_test : (b : Bool) → Decides b (x.name ≡ name) → OneFileLeft name R xs (change_file file_name name (on_pages f) xs)
        → OneFileLeft name R (x ∷ xs) (cond b (on_pages f x) x ∷ change_file file_name name (on_pages f) xs)
    by_test true tells rest = (refl, record { here = λ is. leaves x.pages; beside = λ out. absurd (out (tells.0 refl)) }, rest)
    by_test false tells rest = (refl, record { here = λ is. absurd (both_ways false refl (tells.1 is)); beside = λ out. refl }, rest)

-- and the files as they are, where R leaves all pages
pub left-same : (name : List ℕ) (R : List Page → List Page → Type 0) → ((p : List Page) → R p p) → (xs : List File) → OneFileLeft name R xs xs
left-same name R leaves [] = tt
left-same name R leaves (x ∷ xs) = (refl, record { here = λ is. leaves x.pages; beside = λ out. refl }, left-same name R leaves xs)

-- one change after another
pub change-twice : (name : List ℕ) (f g : List Page → List Page) (xs : List File)
    → change_file file_name name (on_pages f) (change_file file_name name (on_pages g) xs) ≡ change_file file_name name (on_pages (λ p. f (g p))) xs
change-twice name f g [] = refl
change-twice name f g (x ∷ xs) = ap₂ (λ y ys. y ∷ ys) (by_test (is_named file_name name x) refl) (change-twice name f g xs)
  where
    by_test : (b : Bool) → is_named file_name name x ≡ b
        → cond (is_named file_name name (cond b (on_pages g x) x)) (on_pages f (cond b (on_pages g x) x)) (cond b (on_pages g x) x) ≡ cond b (on_pages (λ p. f (g p)) x) x
    by_test true is = ap (λ b. cond b (on_pages f (on_pages g x)) (on_pages g x)) is
    by_test false is = ap (λ b. cond b (on_pages f x) x) is

-- a change that leaves the pages of each file of that name
pub change-idle : (name : List ℕ) (f : List Page → List Page) (xs : List File) → ((x : File) → Contains xs x → x.name ≡ name → f x.pages ≡ x.pages)
    → change_file file_name name (on_pages f) xs ≡ xs
change-idle name f [] idle = refl
change-idle name f (x ∷ xs) idle =
    ap₂ (λ y ys. y ∷ ys) (by_test (is_named file_name name x) (bytes_eq-Decides x.name name)) (change-idle name f xs (λ a has. idle a (contains-later x xs a has)))
  where
    by_test : (b : Bool) → Decides b (x.name ≡ name) → cond b (on_pages f x) x ≡ x
    by_test true tells = ap (λ p. let same : File = record { name = x.name; pages = p } in same) (idle x (contains-here x xs x refl) (tells.0 refl))
    by_test false tells = refl

-- the file of the name is found after a change as it is then
pub found-change : (name : List ℕ) (h : List Page → List Page) (xs : List File) (x : File) → file_of file_name name xs ≡ Some x
    → file_of file_name name (change_file file_name name (on_pages h) xs) ≡ Some (on_pages h x)
found-change name h [] x is = cc
found-change name h (y ∷ ys) x is = by_test (is_named file_name name y) refl is (λ later. found-change name h ys x later)
  where
    by_test : (b : Bool) → is_named file_name name y ≡ b → cond b (Some y) (file_of file_name name ys) ≡ Some x
        → (file_of file_name name ys ≡ Some x → file_of file_name name (change_file file_name name (on_pages h) ys) ≡ Some (on_pages h x))
        → cond (is_named file_name name (cond b (on_pages h y) y)) (Some (cond b (on_pages h y) y)) (file_of file_name name (change_file file_name name (on_pages h) ys)) ≡ Some (on_pages h x)
    by_test true named is later =
        ap (λ b. cond b (Some (on_pages h y)) (file_of file_name name (change_file file_name name (on_pages h) ys))) named ∙ ap (λ (o : Option File). option_map (on_pages h) o) is
    by_test false named is later = ap (λ b. cond b (Some y) (file_of file_name name (change_file file_name name (on_pages h) ys))) named ∙ later is

-- what is left of files, where Q leaves all that R does
pub left-then : (name : List ℕ) (R Q : List Page → List Page → Type 0) → ((p q : List Page) → R p q → Q p q) → (xs ys : List File) → OneFileLeft name R xs ys → OneFileLeft name Q xs ys
left-then name R Q so xs ys left =
    alike-then file_name file_name (FileLeft name R) (FileLeft name Q) xs ys (λ x y same l. record { here = λ is. so x.pages y.pages (l.here is); beside = l.beside }) left
