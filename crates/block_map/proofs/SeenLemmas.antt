-- What has been seen of the words so far.
use Rattle.std.proofs.Common.{◌≡◌, ◌<◌, ◌+◌, ◌&&◌, ◌||◌, ◌==◌, ℕ, Bool, true, false, List, length, get_or, take, leb, ltb, not, sym, ap, ◌∙◌, inl, inr, arith}
use Rattle.std.specs.List.{list_any}
use Rattle.std.proofs.Math.Bool.{or-true}
use Rattle.std.proofs.lemmas.Bool.{cases_lt, lt-ltb, not-false}
use Rattle.block_map.specs.Wrong.{is_wrong}
use Rattle.block_map.proofs.WrongLemmas.{wrong_too_high}

-- the first n words are right, and every unit that they name is marked
pub record HasSeen (words : List ℕ) (n : ℕ) (seen : List Bool) : Type 0 where
  pub size : length seen ≡ length words + 66
  pub marks : (word : ℕ) → word < length seen → get_or seen word false ≡ (leb 2 word && list_any (λ w. w == word) (take n words))
  pub right : (i : ℕ) → i < n → is_wrong words i ≡ false

-- a word that is not marked as new is wrong
pub wrong_from_marks : (words : List ℕ) (i : ℕ) (seen : List Bool) (word : ℕ) → HasSeen words i seen → word ≡ get_or words i 0 → false ≡ (ltb word (length seen) && not (get_or seen word false)) → is_wrong words i ≡ true
wrong_from_marks words i seen word so_far is refused =
    elim (cases_lt word (length seen)) [
      | inl low ↦
          let marked = not-false (get_or seen word false) (sym (refused ∙ ap (λ b. b && not (get_or seen word false)) (lt-ltb word (length seen) low))) in
          let named = sym (so_far.marks word low) ∙ marked in
          ap (λ w. ltb (length words + 65) w || (leb 2 w && list_any (λ v. v == w) (take i words))) (sym is)
          ∙ ap (λ b. ltb (length words + 65) word || b) named
          ∙ or-true (ltb (length words + 65) word)
      | inr high ↦ wrong_too_high words i (omega (arith, so_far.size))
    ]
