-- Words with none that is wrong are a table.
use Rattle.std.proofs.Common.{◌≡◌, ◌<◌, ◌≤◌, ◌+◌, ◌-◌, ◌*◌, ◌/◌, ◌%◌, ℕ, zero, suc, true, List, Option, Some, None, length, get_or, take, drop, if◌then◌else◌, sym, ap, ◌∙◌, inl, inr, arith}
use Rattle.std.specs.List.{range_with_len}
use Rattle.std.specs.Option.{option_map}
use Rattle.std.proofs.Math.Dec.{eqb-suc-zero}
use Rattle.std.proofs.lemmas.Bool.{cases_order, false≢true, and_from, lt-ltb, ltb-false}
use Rattle.std.proofs.lemmas.List.{get_or-take, length-map, length-take}
use Rattle.std.proofs.lemmas.List.Folds.{list_any_at}
use Rattle.std.proofs.lemmas.List.FromFn.{length-range_with_len, get_or-map-range_with_len}
use Rattle.std.proofs.lemmas.Option.{none-some, same_Some, slice_get_within, get_or_from_slice_get}
use Rattle.std.proofs.lemmas.Slice.Eq.{bytes_eq-Decides}
use Rattle.nvm_base.specs.Names.{is_name}
use Rattle.nvm_base.specs.declared.files.FileEntry.{FileEntry}
use Rattle.nvm_base.proofs.NameLemmas.{padded-name_in}
use Rattle.inode_table.specs.Slots.{IsFile, IsTable, has_name}
use Rattle.inode_table.specs.Words.{bytes_in, inode_words, slot_from, slot_of, slots_of, spelled_name}
use Rattle.inode_table.specs.Wrong.{AreRight, first_wrong_word, is_no_new_name, is_wrong, is_wrong_in}
use Rattle.inode_table.proofs.FirstLemmas.{right_from_none}

-- what is said of the word at an index is said by inode and word
pub is_wrong-at : (words : List ℕ) (inode k : ℕ) → k < 8 → is_wrong words (8 * inode + k) ≡ is_wrong_in (take inode (slots_of words)) (inode_words words inode) k
unfolding is_wrong
is_wrong-at words inode k small =
    let quotient : (8 * inode + k) / 8 ≡ inode = omega arith in
    let rest : (8 * inode + k) % 8 ≡ k = omega arith in
    ap (λ n. is_wrong_in (take n (slots_of words)) (inode_words words n) ((8 * inode + k) % 8)) quotient
    ∙ ap (is_wrong_in (take inode (slots_of words)) (inode_words words inode)) rest

-- the words of an inode that is a file
module _ (file : FileEntry) where
  some_name : (pages : ℕ) (name : Option (List ℕ)) → option_map (λ text. record { name = text; pages = pages }) name ≡ Some file → (pages ≡ file.pages) × (name ≡ Some file.name)
  some_name pages None is = absurd (none-some file is)
  some_name pages (Some text) is = let same = same_Some _ _ is in (ap (λ f. f.pages) same, ap (λ f. Some f.name) same)

  pub slot_from-file : (first : ℕ) (name : List ℕ) → slot_from first name ≡ Some file → (first ≡ file.pages + 1) × (spelled_name name ≡ Some file.name)
  slot_from-file zero name is = absurd (none-some file is)
  slot_from-file (suc pages) name is =
      let used : slot_from (suc pages) name ≡ option_map (λ text. record { name = text; pages = suc pages - 1 }) (spelled_name name) =
      ap (λ b. if b then None else option_map (λ text. record { name = text; pages = suc pages - 1 }) (spelled_name name)) (eqb-suc-zero pages) in
      let parts : (suc pages - 1 ≡ file.pages) × (spelled_name name ≡ Some file.name) = some_name (suc pages - 1) (spelled_name name) (sym used ∙ is) in
      (omega (arith, parts.0), parts.1)

module _ (words : List ℕ) where
  pub length-slots_of : length (slots_of words) ≡ 64
  unfolding slots_of
  length-slots_of = length-map (range_with_len 0 64) (λ inode. slot_of (inode_words words inode)) ∙ length-range_with_len 0 64

  pub slots_of-at : (inode : ℕ) → inode < 64 → get_or (slots_of words) inode None ≡ slot_of (inode_words words inode)
  unfolding slots_of
  slots_of-at inode within = get_or-map-range_with_len (λ i. slot_of (inode_words words i)) 0 64 inode inode None within (omega arith)

  -- an inode that is a file is one of the 64, and its words say so
  pub words_of-file : (inode : ℕ) (file : FileEntry) → IsFile (slots_of words) inode file → (inode < 64) × (slot_of (inode_words words inode) ≡ Some file)
  words_of-file inode file is =
      let within : inode < 64 = omega (arith, slice_get_within (slots_of words) inode (Some file) is, length-slots_of) in
      (within, sym (slots_of-at inode within) ∙ get_or_from_slice_get (slots_of words) inode (Some file) None is)

  module _ (none : first_wrong_word words ≡ None) where
    pub right_words : (inode : ℕ) → inode < 64 → AreRight (take inode (slots_of words)) (inode_words words inode)
    right_words inode within k small =
        sym (is_wrong-at words inode k small) ∙ right_from_none (is_wrong words) 512 none (8 * inode + k) (omega arith)

    name_is : (inode : ℕ) (file : FileEntry) → IsFile (slots_of words) inode file → is_name file.name ≡ true
    name_is inode file is =
        let there = words_of-file inode file is in
        (padded-name_in (bytes_in (take 4 (drop 1 (inode_words words inode)))) file.name (slot_from-file file _ _ there.1).1).1

    pages_are : (inode : ℕ) (file : FileEntry) → IsFile (slots_of words) inode file → file.pages ≤ 256
    pages_are inode file is =
        let there = words_of-file inode file is in
        let low = ltb-false 257 _ (right_words inode there.0 0 (omega arith)) in
        let first = (slot_from-file file _ _ there.1).0 in
        omega arith

    named_twice : (i j : ℕ) (a b : FileEntry) → i < j → IsFile (slots_of words) i a → IsFile (slots_of words) j b → a.name ≡ b.name → ⊥
    named_twice i j a b before first second same =
        let there = words_of-file j b second in
        let parts = slot_from-file b _ _ there.1 in
        let earlier = get_or-take j (slots_of words) i None before ∙ get_or_from_slice_get (slots_of words) i (Some a) None first in
        let taken =
        list_any_at (has_name b.name) (take j (slots_of words)) i None (omega (arith, length-take j (slots_of words), length-slots_of))
        (ap (has_name b.name) earlier ∙ (bytes_eq-Decides a.name b.name).1 same) in
        let used = lt-ltb 0 (get_or (inode_words words j) 0 0) (omega (arith, parts.0)) in
        let wrong = and_from _ _ used (ap (is_no_new_name (take j (slots_of words))) parts.1 ∙ taken) in
        false≢true (sym (right_words j there.0 1 (omega arith)) ∙ wrong)

    pub is_table : IsTable (slots_of words)
    is_table = record {
      all = length-slots_of;
      name = name_is;
      pages = pages_are;
      apart = λ i j a b first second same. elim (cases_order i j) [
        | inl equal ↦ equal
        | inr unequal ↦ elim unequal [
          | inl before ↦ absurd (named_twice i j a b before first second same)
          | inr after ↦ absurd (named_twice j i b a after second first (sym same))
        ]
      ];
    }
