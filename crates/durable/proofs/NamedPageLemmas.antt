-- The pages of the file of a name, after a change of files, and as they are left.
use Rattle.std.proofs.Common.{◌≡◌, ◌⊎◌, inl, inr, ℕ, Bool, true, false, not, cond, Option, Some, None, option_map, List, [], ◌∷◌, map, refl, sym, ap, ◌∙◌}
use Rattle.std.proofs.lemmas.Bool.{both_ways}
use Rattle.std.proofs.lemmas.Slice.Eq.{bytes_eq-Decides}
use Rattle.std.specs.Bool.{Decides}
use Rattle.std.specs.Str.{bytes_eq}
use Rattle.line_device.specs.Panel.{Image}
use Rattle.line_device.specs.declared.line.Choice.{Choice}
use Rattle.word_tables.specs.declared.geometry.Geometry.{Geometry}
use Rattle.nvm_model.specs.Files.{OneFileLeft, on_pages}
use Rattle.nvm_model.specs.Listing.{AreAlike, change_file, file_name, file_of, is_before, is_named, put_file, put_some, rename_file, without_file}
use Rattle.nvm_model.specs.Page.{KeepsPages, Page, presence_of, read_pages}
use Rattle.nvm_model.specs.Storage.{File}
use Rattle.file_journal.specs.Files.{UnitFile, files_of, unit_file_name}
use Rattle.file_journal.specs.Reading.{tables_read}
use Rattle.file_journal.specs.Standing.{KeepsFile, KeepsFiles, file_read, files_read, line_of_file}
use Rattle.machine_model.specs.OnPages.{pages_named}

-- the pages of a file, none where there is none
abbrev pub pages_in : Option File → List Page
pages_in o = elim o [ None ↦ [] | Some file ↦ file.pages ]

-- a file of another name before others
skipped : (name : List ℕ) (x : File) (files : List File) → bytes_eq x.name name ≡ false → pages_named name (x ∷ files) ≡ pages_named name files
skipped name x files other = ap (λ b. pages_in (cond b (Some x) (file_of file_name name files))) other

-- the same file before others
same_first : (name : List ℕ) (x : File) (one two : List File) → pages_named name one ≡ pages_named name two → pages_named name (x ∷ one) ≡ pages_named name (x ∷ two)
same_first name x one two same = by_test (is_named file_name name x)
  where
    by_test : (b : Bool) → pages_in (cond b (Some x) (file_of file_name name one)) ≡ pages_in (cond b (Some x) (file_of file_name name two))
    by_test true = refl
    by_test false = same

-- a file of another name is put
pub named-put : (name : List ℕ) (x : File) (files : List File) → bytes_eq x.name name ≡ false → pages_named name (put_file file_name x files) ≡ pages_named name files
named-put name x [] other = skipped name x [] other
named-put name x (y ∷ ys) other = by_order (is_before x.name y.name) (named-put name x ys other)
  where
    by_order : (b : Bool) → pages_named name (put_file file_name x ys) ≡ pages_named name ys
        → pages_named name (cond b (x ∷ y ∷ ys) (y ∷ put_file file_name x ys)) ≡ pages_named name (y ∷ ys)
    by_order true later = skipped name x (y ∷ ys) other
    by_order false later = same_first name y (put_file file_name x ys) ys later

module _ (name text : List ℕ) (differ : bytes_eq text name ≡ false) where
  other_named : (x : File) → x.name ≡ text → bytes_eq x.name name ≡ false
  other_named x is = ap (λ n. bytes_eq n name) is ∙ differ

  -- one is taken out
  pub named-without : (files : List File) → pages_named name (without_file file_name text files) ≡ pages_named name files
  named-without [] = refl
  named-without (x ∷ xs) = by_test (is_named file_name text x) (bytes_eq-Decides x.name text) (named-without xs)
    where
      by_test : (b : Bool) → Decides b (x.name ≡ text) → pages_named name (without_file file_name text xs) ≡ pages_named name xs
          → pages_named name (cond (not b) (x ∷ without_file file_name text xs) (without_file file_name text xs)) ≡ pages_named name (x ∷ xs)
      by_test true tells later = later ∙ sym (skipped name x xs (other_named x (tells.0 refl)))
      by_test false tells later = same_first name x (without_file file_name text xs) xs later

  -- one is changed
  pub named-change : (f : File → File) → ((x : File) → (f x).name ≡ x.name) → (files : List File) → pages_named name (change_file file_name text f files) ≡ pages_named name files
  named-change f keeps [] = refl
  named-change f keeps (x ∷ xs) = by_test (is_named file_name text x) (bytes_eq-Decides x.name text) (named-change f keeps xs)
    where
      by_test : (b : Bool) → Decides b (x.name ≡ text) → pages_named name (change_file file_name text f xs) ≡ pages_named name xs
          → pages_named name (cond b (f x) x ∷ change_file file_name text f xs) ≡ pages_named name (x ∷ xs)
      by_test true tells later =
          skipped name (f x) (change_file file_name text f xs) (other_named (f x) (keeps x ∙ tells.0 refl)) ∙ later
          ∙ sym (skipped name x xs (other_named x (tells.0 refl)))
      by_test false tells later = same_first name x (change_file file_name text f xs) xs later

  -- one is renamed to another
  pub named-rename : (to : List ℕ) (f : File → File) → ((x : File) → (f x).name ≡ to) → bytes_eq to name ≡ false → (files : List File)
      → pages_named name (rename_file file_name text f files) ≡ pages_named name files
  named-rename to f names apart files = by_found (file_of file_name text files)
    where
      by_found : (o : Option File) → pages_named name (put_some file_name (option_map f o) (without_file file_name text files)) ≡ pages_named name files
      by_found None = named-without files
      by_found (Some x) = named-put name (f x) (without_file file_name text files) (ap (λ n. bytes_eq n name) (names x) ∙ apart) ∙ named-without files

-- its own pages are changed, where it is there
pub named-own : (name : List ℕ) (f : List Page → List Page) (files : List File)
    → (pages_named name (change_file file_name name (on_pages f) files) ≡ f (pages_named name files))
    ⊎ ((pages_named name (change_file file_name name (on_pages f) files) ≡ pages_named name files) × (pages_named name files ≡ []))
named-own name f [] = inr (refl, refl)
named-own name f (x ∷ xs) = by_test (is_named file_name name x) refl (named-own name f xs)
  where
    rest : List File
    rest = change_file file_name name (on_pages f) xs

    by_test : (b : Bool) → is_named file_name name x ≡ b
        → (pages_named name rest ≡ f (pages_named name xs)) ⊎ ((pages_named name rest ≡ pages_named name xs) × (pages_named name xs ≡ []))
        → (pages_named name (cond b (on_pages f x) x ∷ rest) ≡ f (pages_in (cond b (Some x) (file_of file_name name xs))))
        ⊎ ((pages_named name (cond b (on_pages f x) x ∷ rest) ≡ pages_in (cond b (Some x) (file_of file_name name xs))) × (pages_in (cond b (Some x) (file_of file_name name xs)) ≡ []))
    by_test true named later = inl (ap (λ b. pages_in (cond b (Some (on_pages f x)) (file_of file_name name rest))) named)
    by_test false other later =
        let skip = skipped name x rest other in
        elim later as (λ _. (pages_named name (x ∷ rest) ≡ f (pages_named name xs)) ⊎ ((pages_named name (x ∷ rest) ≡ pages_named name xs) × (pages_named name xs ≡ []))) [
          | inl is ↦ inl (skip ∙ is)
          | inr none ↦ inr (skip ∙ none.0, none.1)
        ]

-- what is left of files of which one was to change: of that name pages that R leaves, or the same
pub named-left : (text : List ℕ) (R : List Page → List Page → Type 0) (name : List ℕ) (old new : List File) → OneFileLeft text R old new
    → (pages_named name new ≡ pages_named name old) ⊎ ((name ≡ text) × R (pages_named name old) (pages_named name new))
named-left text R name [] [] left = inl refl
named-left text R name [] (y ∷ ys) left = absurd left
named-left text R name (x ∷ xs) [] left = absurd left
named-left text R name (x ∷ xs) (y ∷ ys) left =
    by_test (is_named file_name name x) (is_named file_name name y) (ap (λ n. bytes_eq n name) left.0) (bytes_eq-Decides x.name name) (bytes_eq text name) (bytes_eq-Decides text name)
    (named-left text R name xs ys left.2)
  where
    by_test : (b c : Bool) → b ≡ c → Decides b (x.name ≡ name) → (d : Bool) → Decides d (text ≡ name)
        → (pages_named name ys ≡ pages_named name xs) ⊎ ((name ≡ text) × R (pages_named name xs) (pages_named name ys))
        → (pages_in (cond c (Some y) (file_of file_name name ys)) ≡ pages_in (cond b (Some x) (file_of file_name name xs)))
        ⊎ ((name ≡ text) × R (pages_in (cond b (Some x) (file_of file_name name xs))) (pages_in (cond c (Some y) (file_of file_name name ys))))
    by_test true true same tells true is later = inr (sym (is.0 refl), left.1.here (tells.0 refl ∙ sym (is.0 refl)))
    by_test true true same tells false is later = inl (left.1.beside (λ named. both_ways false refl (is.1 (sym named ∙ tells.0 refl))))
    by_test false false same tells d is later = later
    by_test true false same tells d is later = cc
    by_test false true same tells d is later = cc

-- pages that a restart read of the file of a name, of those that it may have left
pub record ReadNamed (choice : Choice) (image : Image) (pages read : List Page) : Type 0 where
  pub place : ℕ → ℕ
  pub is : read ≡ read_pages place image (presence_of pages)
  pub keeps : KeepsPages choice place image pages

pub named-read : (choice : Choice) (geo : Geometry) (image : Image) (name : List ℕ) (files : List File) → KeepsFiles choice geo image files
    → ReadNamed choice image (pages_named name files) (pages_named name (files_read geo image))
unfolding files_read read_pages
named-read choice geo image name files keeps = by_files (files_of (tables_read geo image.word)) files keeps
  where
    by_files : (xs : List UnitFile) (ys : List File) → AreAlike unit_file_name file_name (KeepsFile choice geo image) xs ys
        → ReadNamed choice image (pages_named name ys) (pages_named name (map (file_read geo image) xs))
    by_files [] [] alike = record { place = λ n. 0; is = refl; keeps = λ n cell is. cc is }
    by_files [] (y ∷ ys) alike = absurd alike
    by_files (x ∷ xs) [] alike = absurd alike
    by_files (x ∷ xs) (y ∷ ys) alike =
        by_test (is_named file_name name (file_read geo image x)) (is_named file_name name y) (ap (λ n. bytes_eq n name) alike.0) (by_files xs ys alike.2)
      where
        by_test : (b c : Bool) → b ≡ c → ReadNamed choice image (pages_named name ys) (pages_named name (map (file_read geo image) xs))
            → ReadNamed choice image (pages_in (cond c (Some y) (file_of file_name name ys))) (pages_in (cond b (Some (file_read geo image x)) (file_of file_name name (map (file_read geo image) xs))))
        by_test true true same later =
            record { place = line_of_file geo x; is = ap (read_pages (line_of_file geo x) image) (sym alike.1.there); keeps = alike.1.keeps }
        by_test false false same later = later
        by_test true false same later = cc
        by_test false true same later = cc
