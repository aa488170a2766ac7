-- Words and the slots that they hold.
use Rattle.std.proofs.Common.{◌≡◌, ◌<◌, ◌≤◌, ◌+◌, ◌-◌, ◌*◌, ◌/◌, ◌%◌, ◌==◌, ◌&&◌, ℕ, zero, suc, false, List, Option, Some, None, length, get_or, take, drop, nat_lt, if◌then◌else◌, refl, sym, ap, subst, ◌∙◌, inl, inr, arith}
use Rattle.std.specs.List.{list_any}
use Rattle.std.specs.Option.{option_map}
use Rattle.std.proofs.Math.Dec.{eqb-suc-zero}
use Rattle.std.proofs.lemmas.Bool.{and_from, and_right, cases_Bool, false≢true, le-ltb, lt-ltb, ltb-false, ne_eqb}
use Rattle.std.proofs.lemmas.List.{get_or-take, length-take, same_lists}
use Rattle.std.proofs.lemmas.List.Elements.{All-from_get_or}
use Rattle.std.proofs.lemmas.List.Folds.{list_any_none}
use Rattle.std.proofs.lemmas.Option.{same_Some, slice_get-get_or}
use Rattle.nvm_base.specs.declared.files.FileEntry.{FileEntry}
use Rattle.inode_table.specs.Slots.{IsTable, has_name}
use Rattle.inode_table.specs.Words.{inode_words, slot_of, slots_of, spelled_name}
use Rattle.inode_table.specs.Wrong.{AreRight, first_wrong_word, is_no_new_name, is_wrong, is_wrong_in}
use Rattle.inode_table.specs.Holds.{HoldsSlot, HoldsSlots, IsNameOf, first_word}
use Rattle.inode_table.proofs.FirstLemmas.{first_is_none}
use Rattle.inode_table.proofs.SlotLemmas.{is_named}
use Rattle.inode_table.proofs.TableLemmas.{is_wrong-at, length-slots_of, right_words, slots_of-at}

-- the slot of a first word and a name
abbrev slot_by : ℕ → Option (List ℕ) → Option FileEntry
slot_by first name = if first == 0 then None else option_map (λ text. record { name = text; pages = first - 1 }) name

slot_by-used : (pages : ℕ) (name : Option (List ℕ)) → slot_by (suc pages) name ≡ option_map (λ text. record { name = text; pages = suc pages - 1 }) name
slot_by-used pages name = ap (λ b. if b then None else option_map (λ text. record { name = text; pages = suc pages - 1 }) name) (eqb-suc-zero pages)

-- right words hold what is read of them
pub record Fits (word : ℕ) (spelled : Option (List ℕ)) (slot : Option FileEntry) : Type 0 where
  pub first : word ≡ first_word slot
  pub name : IsNameOf spelled slot

fits : (before : List (Option FileEntry)) (first : ℕ) (name : Option (List ℕ)) → (nat_lt 0 first && is_no_new_name before name) ≡ false → Fits first name (slot_by first name)
fits before zero name right = record { first = refl; name = tt }
fits before (suc pages) None right = absurd (false≢true (sym right ∙ and_from _ _ (lt-ltb 0 (suc pages) (omega arith)) refl))
fits before (suc pages) (Some text) right =
    subst (Fits (suc pages) (Some text)) (sym (slot_by-used pages (Some text)))
    (record { first = omega arith; name = refl })

rest_is : (before : List (Option FileEntry)) (inode : List ℕ) (k : ℕ) → 5 ≤ k → k < 8 → is_wrong_in before inode k ≡ nat_lt 0 (get_or inode k 0)
rest_is before inode zero from below = absurd (omega arith)
rest_is before inode (suc zero) from below = absurd (omega arith)
rest_is before inode (suc (suc zero)) from below = absurd (omega arith)
rest_is before inode (suc (suc (suc zero))) from below = absurd (omega arith)
rest_is before inode (suc (suc (suc (suc zero)))) from below = absurd (omega arith)
rest_is before inode (suc (suc (suc (suc (suc zero))))) from below = refl
rest_is before inode (suc (suc (suc (suc (suc (suc zero)))))) from below = refl
rest_is before inode (suc (suc (suc (suc (suc (suc (suc zero))))))) from below = refl
rest_is before inode (suc (suc (suc (suc (suc (suc (suc (suc k)))))))) from below = absurd (omega arith)

holds_read : (before : List (Option FileEntry)) (inode : List ℕ) → AreRight before inode → HoldsSlot inode (slot_of inode)
holds_read before inode right =
    let fit = fits before (get_or inode 0 0) (spelled_name (take 4 (drop 1 inode))) (right 1 (omega arith)) in
    record {
      first = fit.first;
      name = fit.name;
      rest = λ k from below. let low = ltb-false 0 (get_or inode k 0) (sym (rest_is before inode k from below) ∙ right k below) in omega arith;
    }

pub words_held : (words : List ℕ) → first_wrong_word words ≡ None → HoldsSlots words (slots_of words)
words_held words none inode within =
    subst (HoldsSlot (inode_words words inode)) (sym (slots_of-at words inode within))
    (holds_read (take inode (slots_of words)) (inode_words words inode) (right_words words none inode within))

-- words that hold a slot are read as it
slot_by-held : (first : ℕ) (name : Option (List ℕ)) (slot : Option FileEntry) → first ≡ first_word slot → IsNameOf name slot → slot_by first name ≡ slot
slot_by-held first name None is named = ap (λ f. slot_by f name) is
slot_by-held first name (Some file) is named =
    let pages : file.pages + 1 - 1 ≡ file.pages = omega arith in
    ap (λ f. slot_by f name) is
    ∙ ap (λ b. if b then None else option_map (λ text. record { name = text; pages = file.pages + 1 - 1 }) name) (ne_eqb (file.pages + 1) 0 (λ none. omega arith))
    ∙ ap (option_map (λ text. record { name = text; pages = file.pages + 1 - 1 })) named
    ∙ ap (λ p. Some (record { name = file.name; pages = p })) pages

held_is_read : (inode : List ℕ) (slot : Option FileEntry) → HoldsSlot inode slot → slot_of inode ≡ slot
held_is_read inode slot holds = slot_by-held (get_or inode 0 0) (spelled_name (take 4 (drop 1 inode))) slot holds.first holds.name

any_default : (slots : List (Option FileEntry)) (k : ℕ) (d : Option FileEntry) → k < length slots → get_or slots k d ≡ get_or slots k None
any_default slots k d within = same_Some _ _ (sym (slice_get-get_or slots k d within) ∙ slice_get-get_or slots k None within)

module _ (words : List ℕ) (slots : List (Option FileEntry)) (table : IsTable slots) (holds : HoldsSlots words slots) where
  pub slots_read : slots_of words ≡ slots
  slots_read =
      same_lists (slots_of words) slots (length-slots_of words ∙ sym table.all)
      (λ k d within.
      let low : k < 64 = omega (arith, length-slots_of words) in
      any_default (slots_of words) k d within
      ∙ slots_of-at words k low
      ∙ held_is_read (inode_words words k) (get_or slots k None) (holds k low)
      ∙ sym (any_default slots k d (omega (arith, table.all))))

  -- no inode before has the name of a file
  not_before : (inode : ℕ) (file : FileEntry) → inode < 64 → get_or slots inode None ≡ Some file → list_any (has_name file.name) (take inode slots) ≡ false
  not_before inode file within is =
      list_any_none (has_name file.name) (take inode slots)
      (All-from_get_or (λ slot. has_name file.name slot ≡ false) (take inode slots) None
      (λ j less.
      let lower : j < inode = omega (arith, length-take inode slots) in
      let inside : j < length slots = omega (arith, table.all) in
      ap (has_name file.name) (get_or-take inode slots j None lower)
      ∙ elim (cases_Bool (has_name file.name (get_or slots j None))) [
        | inl named ↦
            let other = is_named file.name slots j (get_or slots j None) (slice_get-get_or slots j None inside) named in
            let here = slice_get-get_or slots inode None (omega (arith, table.all)) ∙ ap Some is in
            let same : j ≡ inode = table.apart j inode other.file file other.is here other.named in
            absurd (omega arith)
        | inr unnamed ↦ unnamed
      ]))

  module _ (inode : ℕ) (within : inode < 64) where
    first_right : (slot : Option FileEntry) → get_or slots inode None ≡ slot → get_or (inode_words words inode) 0 0 ≡ first_word slot → nat_lt 257 (get_or (inode_words words inode) 0 0) ≡ false
    first_right None is first = le-ltb 257 _ (omega arith)
    first_right (Some file) is first =
        let few = table.pages inode file (slice_get-get_or slots inode None (omega (arith, table.all)) ∙ ap Some is) in
        le-ltb 257 _ (omega arith)

    name_right : (slot : Option FileEntry) (first : ℕ) (name : Option (List ℕ)) → get_or slots inode None ≡ slot → first ≡ first_word slot → IsNameOf name slot → (nat_lt 0 first && is_no_new_name (take inode slots) name) ≡ false
    name_right None first name is at_first named = ap (λ f. nat_lt 0 f && is_no_new_name (take inode slots) name) at_first
    name_right (Some file) first name is at_first named =
        and_right (nat_lt 0 first) _ (ap (is_no_new_name (take inode slots)) named ∙ not_before inode file within is)

    word_right : (k : ℕ) → k < 8 → is_wrong_in (take inode slots) (inode_words words inode) k ≡ false
    word_right zero small = first_right _ refl (holds inode within).first
    word_right (suc zero) small = name_right _ _ _ refl (holds inode within).first (holds inode within).name
    word_right (suc (suc zero)) small = refl
    word_right (suc (suc (suc zero))) small = refl
    word_right (suc (suc (suc (suc zero)))) small = refl
    word_right (suc (suc (suc (suc (suc k))))) small =
        let zero_there = (holds inode within).rest (suc (suc (suc (suc (suc k))))) (omega arith) small in
        rest_is (take inode slots) (inode_words words inode) (suc (suc (suc (suc (suc k))))) (omega arith) small ∙ ap (nat_lt 0) zero_there

  pub words_right : first_wrong_word words ≡ None
  words_right =
      first_is_none (is_wrong words) 512
      (λ i below.
      let place : 8 * (i / 8) + i % 8 ≡ i = omega arith in
      ap (is_wrong words) (sym place)
      ∙ is_wrong-at words (i / 8) (i % 8) (omega arith)
      ∙ ap (λ all. is_wrong_in (take (i / 8) all) (inode_words words (i / 8)) (i % 8)) slots_read
      ∙ word_right (i / 8) (omega arith) (i % 8) (omega arith))
