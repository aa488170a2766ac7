-- Files listed in order of name. What a file has beside a name is left open: `name` tells that of one.
use Rattle.std.specs.Prelude.{◌≡◌, ◌&&◌, ℕ, Bool, true, not, List, [], ◌∷◌, map, Option, Some, None, option_map, slice_get, if◌then◌else◌}
use Rattle.std.specs.Cmp.Lexicographic.{slice_cmp}
use Rattle.std.specs.List.{filter, find, list_all, list_any}
use Rattle.std.specs.Ordering.{is_lt, nat_cmp}
use Rattle.std.specs.Str.{bytes_eq}
use Rattle.nvm_model.specs.Storage.{File}

-- the name of a file of the machine
abbrev pub file_name : File → List ℕ
file_name file = file.name

-- one name comes before another, by their bytes
abbrev pub is_before : List ℕ → List ℕ → Bool
is_before a b = is_lt (slice_cmp nat_cmp a b)

-- each file's name comes before those of all later files
abbrev pub rises : {A : Type 0} → (A → List ℕ) → List A → Bool
rises name [] = true
rises name (x ∷ xs) = list_all (λ y. is_before (name x) (name y)) xs && rises name xs

-- one file more, before those that its name comes before
abbrev pub put_file : {A : Type 0} → (A → List ℕ) → A → List A → List A
put_file name x [] = x ∷ []
put_file name x (y ∷ ys) = if is_before (name x) (name y) then x ∷ y ∷ ys else y ∷ put_file name x ys

-- the files of slots, of which some are free, in order of name
abbrev pub in_order : {A : Type 0} → (A → List ℕ) → List (Option A) → List A
in_order name [] = []
in_order name (None ∷ slots) = in_order name slots
in_order name (Some x ∷ slots) = put_file name x (in_order name slots)

-- a file has that name
abbrev pub is_named : {A : Type 0} → (A → List ℕ) → List ℕ → A → Bool
is_named name text x = bytes_eq (name x) text

-- whether there is a file of that name
abbrev pub has_file : {A : Type 0} → (A → List ℕ) → List ℕ → List A → Bool
has_file name text files = list_any (is_named name text) files

-- the file of that name
abbrev pub file_of : {A : Type 0} → (A → List ℕ) → List ℕ → List A → Option A
file_of name text files = find (is_named name text) files

-- the files without that one
abbrev pub without_file : {A : Type 0} → (A → List ℕ) → List ℕ → List A → List A
without_file name text files = filter (λ x. not (is_named name text x)) files

-- the files with that one changed, which keeps its name
abbrev pub change_file : {A : Type 0} → (A → List ℕ) → List ℕ → (A → A) → List A → List A
change_file name text f files = map (λ x. if is_named name text x then f x else x) files

-- one more file, if there is one
abbrev pub put_some : {A : Type 0} → (A → List ℕ) → Option A → List A → List A
put_some name None files = files
put_some name (Some x) files = put_file name x files

-- the files with that one changed, and put where its new name belongs
abbrev pub rename_file : {A : Type 0} → (A → List ℕ) → List ℕ → (A → A) → List A → List A
rename_file name text f files = put_some name (option_map f (file_of name text files)) (without_file name text files)

-- no slot but this one has the name
abbrev pub MayTake : {A : Type 0} → (A → List ℕ) → List (Option A) → ℕ → List ℕ → Type 0
MayTake {A} name slots i text = (j : ℕ) (x : A) → slice_get slots j ≡ Some (Some x) → name x ≡ text → j ≡ i

-- each file in the slots has a name of its own
abbrev pub AreApart : {A : Type 0} → (A → List ℕ) → List (Option A) → Type 0
AreApart {A} name slots =
    (i j : ℕ) (x y : A) → slice_get slots i ≡ Some (Some x) → slice_get slots j ≡ Some (Some y) → name x ≡ name y → i ≡ j

-- as many files in both lists, with the same names, and each stands to its partner in that relation
abbrev pub AreAlike : {A B : Type 0} → (A → List ℕ) → (B → List ℕ) → (A → B → Type 0) → List A → List B → Type 0
AreAlike name other R [] [] = Unit {0}
AreAlike name other R [] (y ∷ ys) = ⊥
AreAlike name other R (x ∷ xs) [] = ⊥
AreAlike name other R (x ∷ xs) (y ∷ ys) = (name x ≡ other y) × R x y × AreAlike name other R xs ys
