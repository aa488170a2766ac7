-- Words with none that is wrong stand for a map.
use Rattle.std.proofs.Common.{◌≡◌, ◌<◌, ◌+◌, ◌&&◌, ◌||◌, ℕ, zero, suc, false, List, [], ◌∷◌, Some, None, length, get_or, map, take, leb, ltb, eqb, refl, sym, ap, ap₂, ◌∙◌, inl, inr, arith}
use Rattle.std.specs.List.{list_any}
use Rattle.std.proofs.lemmas.Bool.{cases_lt, cases_order, false≢true, le-ltb, ne_eqb, or_from, and_right}
use Rattle.std.proofs.lemmas.List.{length-map, length-take, get_or-take}
use Rattle.std.proofs.lemmas.List.Elements.{All-from_get_or}
use Rattle.std.proofs.lemmas.List.Folds.{list_any_none}
use Rattle.std.proofs.lemmas.Option.{slice_get-map, slice_get-get_or, slice_get_within, same_Some}
use Rattle.std.specs.Option.{option_map}
use Rattle.block_map.specs.declared.state.BlockState.{BlockState}
use Rattle.block_map.specs.declared.state.BlockState.TheVariants.{Absent, Scarred, At}
use Rattle.block_map.specs.States.{state_of, word_of, IsAt, IsMap}
use Rattle.block_map.specs.Wrong.{first_wrong_entry}
use Rattle.block_map.proofs.WrongLemmas.{wrong_too_high, wrong_twice, right_from_none, first_is_none}

pub word_of-state_of : (word : ℕ) → word_of (state_of word) ≡ word
word_of-state_of zero = refl
word_of-state_of (suc zero) = refl
word_of-state_of (suc (suc unit)) = omega arith

pub words_of_states : (words : List ℕ) → map word_of (map state_of words) ≡ words
words_of_states [] = refl
words_of_states (w ∷ ws) = ap₂ ◌∷◌ (word_of-state_of w) (words_of_states ws)

word_from_unit : (word unit : ℕ) → state_of word ≡ At unit → word ≡ unit + 2
word_from_unit word unit at_unit = sym (word_of-state_of word) ∙ ap word_of at_unit

module _ (words : List ℕ) (none : first_wrong_entry words ≡ None) where
  word_at : (block unit : ℕ) → IsAt (map state_of words) block unit → (block < length words) × (get_or words block 0 ≡ unit + 2)
  word_at block unit at_unit =
      let within : block < length words = omega (arith, slice_get_within (map state_of words) block (At unit) at_unit, length-map words state_of) in
      let got = slice_get-map state_of words block ∙ ap (option_map state_of) (slice_get-get_or words block 0 within) in
      (within, word_from_unit (get_or words block 0) unit (same_Some _ _ (sym got ∙ at_unit)))

  not_repeated : (a b unit : ℕ) → a < b → IsAt (map state_of words) a unit → IsAt (map state_of words) b unit → ⊥
  not_repeated a b unit before at_a at_b =
      let first = word_at a unit at_a in
      let second = word_at b unit at_b in
      false≢true (sym (right_from_none words none b second.0) ∙ wrong_twice words b a before second.0 (omega arith) (first.1 ∙ sym second.1))

  pub is_map : IsMap (map state_of words)
  is_map = record {
    within = λ block unit at_unit.
        let there = word_at block unit at_unit in
        elim (cases_lt unit (length (map state_of words) + 64)) [
          | inl below ↦ below
          | inr above ↦ absurd (false≢true (sym (right_from_none words none block there.0) ∙ wrong_too_high words block (omega (arith, there, length-map words state_of))))
        ];
    apart = λ a b unit at_a at_b. elim (cases_order a b) [
      | inl same ↦ same
      | inr apart ↦ elim apart [ inl before ↦ absurd (not_repeated a b unit before at_a at_b) | inr after ↦ absurd (not_repeated b a unit after at_b at_a) ]
    ];
  }

-- and the words of a map are right
unit_from_word : (state : BlockState) (unit : ℕ) → word_of state ≡ unit + 2 → state ≡ At unit
unit_from_word Absent unit is = absurd (omega arith)
unit_from_word Scarred unit is = absurd (omega arith)
unit_from_word (At other) unit is = let same : other ≡ unit = omega arith in ap At same

get_or-words : (states : List BlockState) (i : ℕ) → get_or (map word_of states) i 0 ≡ word_of (get_or states i Absent)
get_or-words [] i = refl
get_or-words (s ∷ ss) zero = refl
get_or-words (s ∷ ss) (suc i) = get_or-words ss i

module _ (states : List BlockState) (is_map : IsMap states) where
  not_named : (i j unit : ℕ) → j < i → i < length states → get_or states i Absent ≡ At unit → get_or (map word_of states) j 0 ≡ unit + 2 → ⊥
  not_named i j unit before within at_i is =
      let at_j = unit_from_word (get_or states j Absent) unit (sym (get_or-words states j) ∙ is) in
      let same = is_map.apart j i unit (slice_get-get_or states j Absent (omega arith) ∙ ap Some at_j) (slice_get-get_or states i Absent within ∙ ap Some at_i) in
      omega arith

  word_right : (i : ℕ) (state : BlockState) → i < length states → get_or states i Absent ≡ state
      → (ltb (length (map word_of states) + 65) (word_of state) || (leb 2 (word_of state) && list_any (λ word. eqb word (word_of state)) (take i (map word_of states)))) ≡ false
  word_right i Absent within is = or_from _ _ (le-ltb (length (map word_of states) + 65) 0 (omega arith)) refl
  word_right i Scarred within is = or_from _ _ (le-ltb (length (map word_of states) + 65) 1 (omega arith)) refl
  word_right i (At unit) within is =
      let ws : List ℕ = map word_of states in
      let size = length-map states word_of in
      let below = is_map.within i unit (slice_get-get_or states i Absent within ∙ ap Some is) in
      or_from _ _ (le-ltb (length ws + 65) (unit + 2) (omega arith))
      (and_right (leb 2 (unit + 2)) _
      (list_any_none (λ word. eqb word (unit + 2)) (take i ws)
      (All-from_get_or (λ word. eqb word (unit + 2) ≡ false) (take i ws) 0
      (λ j lt. let before : j < i = omega (arith, length-take i ws) in
      ne_eqb (get_or (take i ws) j 0) (unit + 2) (λ same. not_named i j unit before within is (sym (get_or-take i ws j 0 before) ∙ same))))))

  pub map_right : first_wrong_entry (map word_of states) ≡ None
  map_right =
      first_is_none (map word_of states) (length (map word_of states)) (omega arith)
      (λ i below.
      ap (λ w. ltb (length (map word_of states) + 65) w || (leb 2 w && list_any (λ word. eqb word w) (take i (map word_of states)))) (get_or-words states i)
      ∙ word_right i (get_or states i Absent) (omega (arith, length-map states word_of)) refl)
