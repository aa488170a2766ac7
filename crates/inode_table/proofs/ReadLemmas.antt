-- Inodes read one after the other.
use Rattle.std.proofs.Common.{◌≡◌, ◌<◌, ◌+◌, ◌-◌, ◌*◌, ℕ, zero, suc, false, List, [], ◌∷◌, ◌++◌, Option, Some, None, length, get_or, take, drop, position, nat_lt, refl, sym, ap, ap₂, ◌∙◌, inl, inr, arith}
use Rattle.std.proofs.lemmas.Bool.{cases_lt, le-ltb}
use Rattle.std.proofs.lemmas.List.{get_or-drop, length-drop, take_all, take_more}
use Rattle.std.proofs.lemmas.List.Quantifiers.{position-Some}
use Rattle.nvm_base.specs.declared.files.FileEntry.{FileEntry}
use Rattle.inode_table.specs.Words.{inode_words, slot_of, slots_of}
use Rattle.inode_table.specs.Wrong.{AreRight, IsFirstWrong, IsRightFile, first_wrong_word, is_wrong, is_wrong_in}
use Rattle.inode_table.proofs.FirstLemmas.{first_is, first_is_none}
use Rattle.inode_table.proofs.TableLemmas.{is_wrong-at, length-slots_of, slots_of-at}

-- the first n inodes are read, and their words are right
pub record HasRead (words : List ℕ) (n : ℕ) (slots : List (Option FileEntry)) : Type 0 where
  pub are : slots ≡ take n (slots_of words)
  pub right : (i : ℕ) → i < 8 * n → is_wrong words i ≡ false

module _ (words : List ℕ) (n : ℕ) (slots : List (Option FileEntry)) (so_far : HasRead words n slots) where
  pub has_read_more : (slot : Option FileEntry) → n < 64 → slot ≡ slot_of (inode_words words n) → AreRight slots (inode_words words n) → HasRead words (n + 1) (slots ++ slot ∷ [])
  has_read_more slot within is right = record {
    are = ap₂ (λ front last. front ++ last ∷ []) so_far.are (is ∙ sym (slots_of-at words n within))
        ∙ sym (take_more (slots_of words) n None (omega (arith, length-slots_of words)));
    right = λ i below. elim (cases_lt i (8 * n)) [
      | inl before ↦ so_far.right i before
      | inr from ↦
          let place : 8 * n + (i - 8 * n) ≡ i = omega arith in
          ap (is_wrong words) (sym place) ∙ is_wrong-at words n (i - 8 * n) (omega arith)
          ∙ ap (λ before. is_wrong_in before (inode_words words n) (i - 8 * n)) (sym so_far.are)
          ∙ right (i - 8 * n) (omega arith)
    ];
  }

  pub first_wrong_is : (k : ℕ) → n < 64 → IsFirstWrong slots (inode_words words n) k → first_wrong_word words ≡ Some (8 * n + k)
  first_wrong_is k within first =
      first_is (is_wrong words) 512 (8 * n + k) (omega (arith, first.within))
      (λ i below. elim (cases_lt i (8 * n)) [
        | inl before ↦ so_far.right i before
        | inr from ↦
            let place : 8 * n + (i - 8 * n) ≡ i = omega arith in
            ap (is_wrong words) (sym place) ∙ at (i - 8 * n) (omega (arith, first.within)) ∙ first.right (i - 8 * n) (omega arith)
      ])
      (at k first.within ∙ first.wrong)
    where
      at : (j : ℕ) → j < 8 → is_wrong words (8 * n + j) ≡ is_wrong_in slots (inode_words words n) j
      at j small =
          is_wrong-at words n j small
          ∙ ap (λ before. is_wrong_in before (inode_words words n) j) (sym so_far.are)

pub all_read : (words : List ℕ) (slots : List (Option FileEntry)) → HasRead words 64 slots → (slots ≡ slots_of words) × (first_wrong_word words ≡ None)
all_read words slots done = (
  done.are ∙ take_all 64 (slots_of words) (omega (arith, length-slots_of words)),
  first_is_none (is_wrong words) 512 (λ i below. done.right i below),
)

pub none_read : (words : List ℕ) → HasRead words 0 []
none_read words = record { are = refl; right = λ i below. absurd (omega arith) }

-- the words after an inode's name
module _ (before : List (Option FileEntry)) (inode : List ℕ) (right : IsRightFile before (get_or inode 0 0) (take 4 (drop 1 inode))) where
  spare : (k : ℕ) → k < 3 → is_wrong_in before inode (5 + k) ≡ nat_lt 0 (get_or (drop 5 inode) k 0)
  spare zero low = ap (nat_lt 0) (sym (get_or-drop 5 inode 0 0))
  spare (suc zero) low = ap (nat_lt 0) (sym (get_or-drop 5 inode 1 0))
  spare (suc (suc zero)) low = ap (nat_lt 0) (sym (get_or-drop 5 inode 2 0))
  spare (suc (suc (suc k))) low = absurd (omega arith)

  first_five : (j : ℕ) → j < 5 → is_wrong_in before inode j ≡ false
  first_five zero low = le-ltb 257 (get_or inode 0 0) right.pages
  first_five (suc zero) low = right.named
  first_five (suc (suc zero)) low = refl
  first_five (suc (suc (suc zero))) low = refl
  first_five (suc (suc (suc (suc zero)))) low = refl
  first_five (suc (suc (suc (suc (suc j))))) low = absurd (omega arith)

  pub spare_is_wrong : length inode ≡ 8 → (k : ℕ) → position (λ word. nat_lt 0 word) (drop 5 inode) ≡ Some k → IsFirstWrong before inode (5 + k)
  spare_is_wrong size k found =
      let there = position-Some (λ word. nat_lt 0 word) (drop 5 inode) k 0 found in
      let small : k < 3 = omega (arith, there.0, length-drop 5 inode) in
      record {
        within = omega arith;
        wrong = spare k small ∙ there.1;
        right = λ j below. elim (cases_lt j 5) [
          | inl low ↦ first_five j low
          | inr high ↦
              let place : 5 + (j - 5) ≡ j = omega arith in
              ap (is_wrong_in before inode) (sym place) ∙ spare (j - 5) (omega arith) ∙ there.2 (j - 5) (omega arith)
        ];
      }
