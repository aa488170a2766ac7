-- What is found in words of inodes and page tables of which all, or all but one, are 0.
use Rattle.std.proofs.Common.{◌≡◌, ◌+◌, ◌*◌, ◌/◌, ◌%◌, ◌<◌, ◌≤◌, ℕ, zero, suc, false, true, List, [], ◌∷◌, length, get_or, take, drop, map, replicate, nat_lt, slice_get, Option, Some, None, option_map, refl, ◌∙◌, sym, ap, subst, arith}
use Rattle.std.proofs.lemmas.Grind.{same_number_lists}
use Rattle.std.proofs.lemmas.List.{get_or-drop, get_or-take, length-drop, length-replicate, length-take}
use Rattle.std.proofs.lemmas.List.FromFn.{get_or-map-range_with_len, length-map-range_with_len}
use Rattle.std.proofs.lemmas.Option.{none-some, same_Some}
use Rattle.line_device.proofs.WordLemmas.{below_eight}
use Rattle.nvm_base.specs.declared.files.FileEntry.{FileEntry}
use Rattle.nvm_model.specs.Blocks.{first_there}
use Rattle.nvm_base.proofs.FirstLemmas.{none_there as both_none}
use Rattle.word_tables.specs.declared.geometry.Geometry.{Geometry}
use Rattle.word_tables.specs.Layout.{first_line, inodes}
use Rattle.word_tables.specs.Words.{place, of_inode, of_file_page}
use Rattle.word_log.specs.Area.{gate_place}
use Rattle.word_log.specs.Changes.{changed}
use Rattle.word_log.specs.Replay.{replayed}
use Rattle.word_log.proofs.ReadLemmas.{listed-closed}
use Rattle.inode_table.specs.Holds.{HoldsSlot, HoldsSlots}
use Rattle.inode_table.specs.Slots.{IsTable, pages_of}
use Rattle.inode_table.specs.Words.{bytes_in, inode_words, slots_of}
use Rattle.inode_table.specs.Wrong.{first_wrong_word, is_wrong_in}
use Rattle.inode_table.specs.Wrong as wrong
use Rattle.inode_table.proofs.FirstLemmas.{first_is}
use Rattle.inode_table.proofs.HeldLemmas.{slots_read, words_right}
use Rattle.inode_table.proofs.TableLemmas.{is_wrong-at}
use Rattle.page_table.specs.Pages.{unit_of}
use Rattle.page_table.specs.Wrong.{has_page, is_wrong_after}
use Rattle.page_table.proofs.TableLemmas.{get_or-units}
use Rattle.page_table.proofs.WrongLemmas.{none_wrong, wrong_first, wrong_no_page}
use Rattle.file_journal.specs.Area.{file_area}
use Rattle.file_journal.specs.Reading.{words_read, wrong_inode, wrong_page, wrong_table}

-- nothing, so many times
pub none_at : {A : Type 0} (n i : ℕ) → get_or (replicate {A = Option A} n None) i None ≡ None
none_at zero i = refl
none_at (suc n) zero = refl
none_at (suc n) (suc i) = none_at n i

pub none_there : {A : Type 0} (n i : ℕ) (x : A) → slice_get (replicate {A = Option A} n None) i ≡ Some (Some x) → ⊥
none_there zero i x at = none-some (Some x) at
none_there (suc n) zero x at = none-some x (same_Some None (Some x) at)
none_there (suc n) (suc i) x at = none_there n i x at

pub no_names : IsTable (replicate 64 None)
no_names = record {
  all = length-replicate {A = Option FileEntry} 64 None;
  name = λ inode file at. absurd (none_there 64 inode file at);
  pages = λ inode file at. absurd (none_there 64 inode file at);
  apart = λ i j a b at other same. absurd (none_there 64 i a at);
}

-- words that are read where the gate is closed
module _ (geo : Geometry) (word : ℕ → ℕ) (closed : word (gate_place (file_area geo)) ≡ 0) where
  pub words_at : (k : ℕ) → k < 16896 → get_or (words_read geo word) k 0 ≡ word (8 * first_line geo inodes + k)
  unfolding words_read
  words_at k below =
      let start = 8 * first_line geo inodes in
      get_or-map-range_with_len (replayed (file_area geo) word) start 16896 k (start + k) 0 below refl
      ∙ ap (λ cs. changed cs word (start + k)) (listed-closed (file_area geo) word closed)

pub words_all : (geo : Geometry) (word : ℕ → ℕ) → length (words_read geo word) ≡ 16896
unfolding words_read
words_all geo word = length-map-range_with_len (replayed (file_area geo) word) (8 * first_line geo inodes) 16896

module _ (geo : Geometry) (words : List ℕ) (all : length words ≡ 16896) where
  inode_word : (inode k : ℕ) → inode < 64 → k < 8 → get_or (take 8 (drop (8 * inode) (take 512 words))) k 0 ≡ get_or words (8 * inode + k) 0
  inode_word inode k below small =
      get_or-take 8 (drop (8 * inode) (take 512 words)) k 0 small ∙ get_or-drop (8 * inode) (take 512 words) k 0 ∙ get_or-take 512 words (8 * inode + k) 0 (omega arith)

  -- without an inode
  module _ (zeros : (k : ℕ) → k < 512 → get_or words k 0 ≡ 0) where
    no_inodes : HoldsSlots (take 512 words) (replicate 64 None)
    no_inodes inode below =
        subst (HoldsSlot (take 8 (drop (8 * inode) (take 512 words)))) (sym (none_at 64 inode))
        (record {
          first = inode_word inode 0 below (omega arith) ∙ zeros (8 * inode + 0) (omega arith);
          name = tt;
          rest = λ k from small. inode_word inode k below small ∙ zeros (8 * inode + k) (omega arith);
        })

    no_inode_wrong : wrong_inode geo (take 512 words) ≡ None
    no_inode_wrong = ap (option_map _) (words_right (take 512 words) (replicate 64 None) no_names no_inodes)

    abbrev counts : List ℕ
    counts = map pages_of (slots_of (take 512 words))

    pub zero_tables : ((k : ℕ) → 512 ≤ k → k < 16896 → get_or words k 0 ≡ 0) → wrong_table geo words ≡ None
    unfolding wrong_table
    zero_tables rest =
        both_none (wrong_inode geo (take 512 words)) (wrong_page geo counts (drop 512 words)) no_inode_wrong
        (ap (option_map _) (none_wrong geo.fpages counts (drop 512 words)
        (λ k below. ap (is_wrong_after geo.fpages (take k (map unit_of (drop 512 words))) (has_page counts k))
        (get_or-units (drop 512 words) k ∙ ap unit_of (get_or-drop 512 words k 0 ∙ rest (512 + k) (omega arith) (omega (arith, below, length-drop 512 words, all)))))))

    -- a page of none is found
    pub first_page_found : (unit : ℕ) → get_or words 512 0 ≡ suc unit → wrong_table geo words ≡ Some (place geo (of_file_page 0 0))
    unfolding wrong_table
    first_page_found unit at =
        let pages = map unit_of (drop 512 words) in
        let none : has_page counts 0 ≡ false =
        ap (λ slots. nat_lt 0 (get_or (map pages_of slots) 0 0)) (slots_read (take 512 words) (replicate 64 None) no_names no_inodes) in
        ap (λ o. first_there o (wrong_page geo counts (drop 512 words))) no_inode_wrong
        ∙ ap (option_map _)
        (wrong_first geo.fpages counts (drop 512 words) 0 (omega (arith, length-drop 512 words, all)) (λ k below. absurd (omega arith))
        (ap (is_wrong_after geo.fpages (take 0 pages) (has_page counts 0)) (get_or-units (drop 512 words) 0 ∙ ap unit_of (get_or-drop 512 words 0 0 ∙ at))
        ∙ wrong_no_page geo.fpages (take 0 pages) (has_page counts 0) unit none))

  -- an inode of no name is found
  module _ (first : get_or words 0 0 ≡ 1) (zeros : (k : ℕ) → 1 ≤ k → k < 8 → get_or words k 0 ≡ 0) where
    abbrev nameless : List ℕ
    nameless = 1 ∷ 0 ∷ 0 ∷ 0 ∷ 0 ∷ 0 ∷ 0 ∷ 0 ∷ []

    first_inode : inode_words (take 512 words) 0 ≡ nameless
    first_inode =
        let is = take 8 (drop (8 * 0) (take 512 words)) in
        let at : (k : ℕ) → 1 ≤ k → k < 8 → get_or is k 0 ≡ 0 = λ k from small. inode_word 0 k (omega arith) small ∙ zeros (8 * 0 + k) (omega arith) (omega arith) in
        let long : length is ≡ 8 = omega (arith, length-take 8 (drop (8 * 0) (take 512 words)), length-drop (8 * 0) (take 512 words), length-take 512 words, all) in
        same_number_lists is nameless long
        (λ k low. below_eight (λ j. get_or is j 0 ≡ get_or nameless j 0) (inode_word 0 0 (omega arith) (omega arith) ∙ first)
        (at 1 (omega arith) (omega arith)) (at 2 (omega arith) (omega arith)) (at 3 (omega arith) (omega arith)) (at 4 (omega arith) (omega arith))
        (at 5 (omega arith) (omega arith)) (at 6 (omega arith) (omega arith)) (at 7 (omega arith) (omega arith)) k (omega (arith, low, long)))

    tested : (k : ℕ) → k < 8 → wrong.is_wrong (take 512 words) (8 * 0 + k) ≡ is_wrong_in [] nameless k
    tested k small = is_wrong-at (take 512 words) 0 k small ∙ ap (λ inode. is_wrong_in [] inode k) first_inode

    is_misnamed : is_wrong_in [] nameless 1 ≡ true
    unfolding bytes_in
    is_misnamed = refl

    pub first_inode_found : wrong_table geo words ≡ Some (place geo (of_inode 0 1))
    unfolding wrong_table
    first_inode_found =
        let found : first_wrong_word (take 512 words) ≡ Some 1 =
        first_is (wrong.is_wrong (take 512 words)) 512 1 (omega arith)
        (λ k below. let is : k ≡ 8 * 0 + 0 = omega arith in ap (wrong.is_wrong (take 512 words)) is ∙ tested 0 (omega arith))
        (tested 1 (omega arith) ∙ is_misnamed) in
        ap (λ o. first_there (option_map (λ i. place geo (of_inode (i / 8) (i % 8))) o) (wrong_page geo (map pages_of (slots_of (take 512 words))) (drop 512 words))) found
