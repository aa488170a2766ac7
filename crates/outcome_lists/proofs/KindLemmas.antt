-- Reads of parts that are in order, by their kinds: each is of one word or one block, and no two of the same one.
use Rattle.std.proofs.Common.{◌≡◌, ℕ, ◌*◌, ◌==◌, ◌&&◌, ◌||◌, nat_lt, not, Bool, true, false, List, [], ◌∷◌, length, map, refl, ap, sym, ◌∙◌, inl, inr, arith}
use Rattle.std.specs.List.{AllByRecursion, list_all}
use Rattle.std.specs.Str.{bytes_eq}
use Rattle.std.proofs.lemmas.Bool.{and_from, and_parts, eqb-true, ltb-true, or_cases}
use Rattle.std.proofs.lemmas.Slice.Eq.{bytes_eq-Decides}
use Rattle.nvm_model.specs.Listing.{is_before}
use Rattle.nvm_model.specs.Page.{Page}
use Rattle.nvm_model.proofs.OrderLemmas.{before-itself}
use Rattle.word_tables.specs.declared.geometry.Geometry.{Geometry}
use Rattle.explorer.proofs.MachineModel.RefusalLemmas.{read_within}
use Rattle.explorer.specs.Outcomes.Files.{FileRead}
use Rattle.explorer.specs.Outcomes.Pages.{PageRead}
use Rattle.explorer.specs.Outcomes.Seen.{Seen, block_reads, file_reads, volume_reads}
use Rattle.explorer.specs.Outcomes.Seen.Seen.{of_blocks, of_file, of_volume}
use Rattle.explorer.specs.AskedReads.declared.read.Read.TheVariants.{Volume, File}
use Rattle.outcome_lists.specs.Apart.{AreApart, AreWords, IsApart, IsInside, IsWordRead}
use Rattle.outcome_lists.specs.ApartBlocks.{AreOfOneBlock}
use Rattle.outcome_lists.specs.ApartFiles.{AreDistinctWords, is_same_word}
use Rattle.outcome_lists.specs.Parts.{AreInOrder, AreParts, comes_before}
use Rattle.outcome_lists.proofs.PickedLemmas.{IsTold, part_of}

-- the first of two words of one storage is not the second
word_before : (r s : PageRead) → nat_lt r.start s.start ≡ true → IsApart r s
word_before r s before same = let lt = ltb-true r.start s.start before in absurd (omega (arith, lt, same))

-- nor is that of two words of files
file_before : (a b : List ℕ) (m n : ℕ) → (is_before a b || (bytes_eq a b && nat_lt m n)) ≡ true → not (bytes_eq a b && (m == n)) ≡ true
file_before a b m n before = by_tests (bytes_eq a b) (m == n) refl refl
  where
    differ : bytes_eq a b ≡ true → (m == n) ≡ true → ⊥
    differ named same =
        let name : a ≡ b = (bytes_eq-Decides a b).0 named in
        elim (or_cases (is_before a b) (bytes_eq a b && nat_lt m n) before) as (λ _. ⊥) [
          | inl earlier ↦ cc (sym (before-itself a) ∙ ap (is_before a) name ∙ earlier)
          | inr beside ↦ let lt = ltb-true m n (and_parts (bytes_eq a b) (nat_lt m n) beside).1 in let at = eqb-true m n same in absurd (omega (arith, lt, at))
        ]

    by_tests : (c d : Bool) → bytes_eq a b ≡ c → (m == n) ≡ d → not (c && d) ≡ true
    by_tests true true named same = absurd (differ named same)
    by_tests true false named same = refl
    by_tests false d named same = refl

-- those that stand behind one
words_behind : (r : PageRead) (ss : List Seen) → AllByRecursion (λ q. comes_before (Volume r.start r.len) q ≡ true) (map part_of ss) → AllByRecursion (IsApart r) (volume_reads ss)
words_behind r [] behind = tt
words_behind r (of_volume s ∷ ss) behind = (word_before r s behind.0, words_behind r ss behind.1)
words_behind r (of_blocks s ∷ ss) behind = words_behind r ss behind.1
words_behind r (of_file s ∷ ss) behind = words_behind r ss behind.1

files_behind : (r : FileRead) (ss : List Seen) → AllByRecursion (λ q. comes_before (File r.name r.pages.start r.pages.len) q ≡ true) (map part_of ss)
    → list_all (λ s. not (is_same_word r s)) (file_reads ss) ≡ true
files_behind r [] behind = refl
files_behind r (of_volume s ∷ ss) behind = files_behind r ss behind.1
files_behind r (of_blocks s ∷ ss) behind = files_behind r ss behind.1
files_behind r (of_file s ∷ ss) behind =
    and_from (not (is_same_word r s)) (list_all (λ t. not (is_same_word r t)) (file_reads ss)) (file_before r.name s.name r.pages.start s.pages.start behind.0)
    (files_behind r ss behind.1)

words_apart : (ss : List Seen) → AreInOrder (map part_of ss) → AreApart (volume_reads ss)
words_apart [] order = tt
words_apart (of_volume r ∷ ss) order = (words_behind r ss order.0, words_apart ss order.1)
words_apart (of_blocks r ∷ ss) order = words_apart ss order.1
words_apart (of_file r ∷ ss) order = words_apart ss order.1

module _ (geo : Geometry) where
  words_each : (ss : List Seen) → AreParts geo (map part_of ss) → AllByRecursion IsTold ss → AllByRecursion IsWordRead (volume_reads ss)
  words_each [] are told = tt
  words_each (of_volume r ∷ ss) are told = (record { place = are.0.one.0; eight = are.0.one.1; told = told.0 }, words_each ss are.1 told.1)
  words_each (of_blocks r ∷ ss) are told = words_each ss are.1 told.1
  words_each (of_file r ∷ ss) are told = words_each ss are.1 told.1

  -- words of the volume
  pub are_words : (ss : List Seen) → AreParts geo (map part_of ss) → AreInOrder (map part_of ss) → AllByRecursion IsTold ss → AreWords (volume_reads ss)
  are_words ss are order told = record { each = words_each ss are told; apart = words_apart ss order }

  -- within pages that are as many as the volume has
  pub are_inside : (pages : List Page) → length pages ≡ geo.vpages → (ss : List Seen) → AreParts geo (map part_of ss) → AllByRecursion (IsInside pages) (volume_reads ss)
  are_inside pages counted [] are = tt
  are_inside pages counted (of_volume r ∷ ss) are =
      let within = read_within 65536 (4096 * geo.vpages) r.start r.len are.0.taken in
      (omega (arith, within.0, within.1, counted), are_inside pages counted ss are.1)
  are_inside pages counted (of_blocks r ∷ ss) are = are_inside pages counted ss are.1
  are_inside pages counted (of_file r ∷ ss) are = are_inside pages counted ss are.1

  -- blocks
  pub are_blocks : (ss : List Seen) → AreParts geo (map part_of ss) → AllByRecursion IsTold ss → AreOfOneBlock (block_reads ss)
  are_blocks [] are told = tt
  are_blocks (of_volume r ∷ ss) are told = are_blocks ss are.1 told.1
  are_blocks (of_blocks r ∷ ss) are told = ((are.0.one, told.0), are_blocks ss are.1 told.1)
  are_blocks (of_file r ∷ ss) are told = are_blocks ss are.1 told.1

  -- words of files
  pub are_file_words : (ss : List Seen) → AreParts geo (map part_of ss) → AreInOrder (map part_of ss) → AllByRecursion IsTold ss → AreDistinctWords (file_reads ss)
  are_file_words [] are order told = tt
  are_file_words (of_volume r ∷ ss) are order told = are_file_words ss are.1 order.1 told.1
  are_file_words (of_blocks r ∷ ss) are order told = are_file_words ss are.1 order.1 told.1
  are_file_words (of_file r ∷ ss) are order told = ((are.0.one.0, are.0.one.1, told.0), files_behind r ss order.0, are_file_words ss are.1 order.1 told.1)
