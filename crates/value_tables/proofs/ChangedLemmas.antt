-- The rows that changed, row by row.
use Rattle.std.proofs.Common.{◌≡◌, ℕ, zero, suc, ◌+◌, ◌<◌, cond, List, [], ◌∷◌, ◌++◌, drop, drop-cons, get_or, length, refl, sym, ap, ◌∙◌, append_assoc, arith}
use Rattle.std.specs.Prelude.{slice_get}
use Rattle.std.proofs.lemmas.Slice.Eq.{bytes_eq-Decides}
use Rattle.nvm_base.specs.Stock.{Stock}
use Rattle.value_tables.specs.Sides.{is_row, texts}
use Rattle.value_tables.specs.Tables.{changed}

changed_first : (last : List (Stock ℕ)) (i : ℕ) (row : List ℕ) (rest : List (List ℕ))
    → changed (texts (drop i last)) (row ∷ rest) ≡ cond (is_row (slice_get last i) row) [] row ++ changed (texts (drop (suc i) last)) rest
changed_first [] zero row rest = refl
changed_first [] (suc i) row rest = refl
changed_first (old ∷ last) zero row rest = refl
changed_first (old ∷ last) (suc i) row rest = changed_first last i row rest

suc_is : (n : ℕ) → suc n ≡ n + 1
suc_is n = omega arith

-- what was taken of the rows, and the changes of the others
pub changes_go : (last rows : List (Stock ℕ)) (i : ℕ) (row : Stock ℕ) (taken next : List ℕ) → i < length rows → row ≡ get_or rows i row
    → taken ++ changed (texts (drop i last)) (texts (drop i rows)) ≡ changed (texts last) (texts rows)
    → next ≡ taken ++ cond (is_row (slice_get last i) row.items) [] row.items
    → next ++ changed (texts (drop (i + 1) last)) (texts (drop (i + 1) rows)) ≡ changed (texts last) (texts rows)
changes_go last rows i row taken next lt is goes next_is =
    ap (λ n. next ++ changed (texts (drop n last)) (texts (drop n rows))) (sym (suc_is i))
    ∙ ap (λ t. t ++ changed (texts (drop (suc i) last)) (texts (drop (suc i) rows))) next_is
    ∙ append_assoc taken (cond (is_row (slice_get last i) row.items) [] row.items) (changed (texts (drop (suc i) last)) (texts (drop (suc i) rows)))
    ∙ ap (λ t. taken ++ t) (sym (changed_first last i row.items (texts (drop (suc i) rows))))
    ∙ ap (λ r. taken ++ changed (texts (drop i last)) (texts r)) (sym (drop-cons rows i row lt ∙ ap (λ r. r ∷ drop (suc i) rows) (sym is)))
    ∙ goes

-- rows that are as they were
pub none_changed : (rows : List (List ℕ)) → changed rows rows ≡ []
none_changed [] = refl
none_changed (row ∷ rows) = ap (λ b. cond b [] row ++ changed rows rows) ((bytes_eq-Decides row row).1 refl) ∙ none_changed rows
