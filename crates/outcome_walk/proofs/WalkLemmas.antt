-- Outcomes, choice by choice and part by part.
use Rattle.std.proofs.Common.{◌≡◌, ◌+◌, ◌<◌, ℕ, suc, true, List, [], ◌∷◌, ◌++◌, drop, drop-cons, get_or, length, map, take, sym, ap, ◌∙◌, arith}
use Rattle.std.proofs.lemmas.List.{map-append, take_more}
use Rattle.outcome_walk.specs.declared.level.Rows.{Rows}
use Rattle.outcome_walk.specs.Walking.{both}

pub suc_is : (n : ℕ) → suc n ≡ n + 1
suc_is n = omega arith

-- the item that is next
pub next_item : {A : Type 0} (xs : List A) (i : ℕ) (x : A) → i < length xs → x ≡ get_or xs i x → drop i xs ≡ x ∷ drop (i + 1) xs
next_item xs i x lt is = drop-cons xs i x lt ∙ ap (λ y. y ∷ drop (suc i) xs) (sym is) ∙ ap (λ n. x ∷ drop n xs) (suc_is i)

-- all places stand
pub standing_more : (places : List Rows) (i : ℕ) → i < length places → map (λ _. both true) (take (i + 1) places) ≡ map (λ _. both true) (take i places) ++ both true ∷ []
standing_more places i lt =
    let any : Rows = record { old = 0; new = 0 } in
    ap (map (λ _. both true)) (take_more places i any lt) ∙ map-append (λ _. both true) (take i places) (get_or places i any ∷ [])
