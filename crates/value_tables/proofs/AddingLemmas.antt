-- The row of a word of a file, by what was found of it side after side.
use Rattle.std.proofs.Common.{◌≡◌, ℕ, ◌==◌, ◌||◌, Bool, false, cond, List, [], ◌∷◌, ◌++◌, codes, refl, sym, ap, ◌∙◌, append_assoc}
use Rattle.std.specs.List.{list_any}
use Rattle.nvm_model.specs.Cell.{Cell}
use Rattle.value_tables.specs.declared.file_values.FileValues.{FileValues}
use Rattle.value_tables.specs.Adding.{Adds}
use Rattle.value_tables.specs.Left.{FileSide}
use Rattle.value_tables.specs.Left.FileSide.{NoFile, PastEnd, OfLine}
use Rattle.value_tables.specs.Rows.{sides_text, words_text}
use Rattle.value_tables.specs.Values.{cells_of, history_of, is_missing, is_past, may_be_bad, values_with, with_all}
use Rattle.value_tables.proofs.OnceLemmas.{or_apart}

-- tests of both
any_both : {A : Type 0} (f : A → Bool) (xs ys : List A) → list_any f (xs ++ ys) ≡ (list_any f xs || list_any f ys)
any_both f [] ys = refl
any_both f (x ∷ xs) ys = ap (λ b. f x || b) (any_both f xs ys) ∙ sym (or_apart (f x) (list_any f xs) (list_any f ys))

cells_both : (xs ys : List FileSide) → cells_of (xs ++ ys) ≡ cells_of xs ++ cells_of ys
cells_both [] ys = refl
cells_both (NoFile ∷ xs) ys = cells_both xs ys
cells_both (PastEnd ∷ xs) ys = cells_both xs ys
cells_both (OfLine cell ∷ xs) ys = ap (λ cells. cell ∷ cells) (cells_both xs ys)

values_both : (w : ℕ) (found : List ℕ) (xs ys : List Cell) → values_with w (values_with w found xs) ys ≡ values_with w found (xs ++ ys)
values_both w found [] ys = refl
values_both w found (cell ∷ xs) ys = values_both w (with_all (λ a b. a == b) found (history_of w cell)) xs ys

-- what a row has of it
abbrev pub found_text : FileValues → List ℕ
found_text v =
    cond v.is_missing (codes " missing") [] ++ (cond v.is_past (codes " range") [] ++ (cond v.word.is_bad (codes " poison") [] ++ words_text v.word.values.items))

module _ (w : ℕ) (one other : List FileSide) (none old new : FileValues) (first : Adds w one none old) (second : Adds w other old new) where
  module _ (missing : none.is_missing ≡ false) (past : none.is_past ≡ false) (bad : none.word.is_bad ≡ false) (values : none.word.values.items ≡ []) where
    missing_of : new.is_missing ≡ list_any is_missing (one ++ other)
    missing_of =
        second.missing ∙ ap (λ b. b || list_any is_missing other) (first.missing ∙ ap (λ b. b || list_any is_missing one) missing) ∙ sym (any_both is_missing one other)

    past_of : new.is_past ≡ list_any is_past (one ++ other)
    past_of = second.past ∙ ap (λ b. b || list_any is_past other) (first.past ∙ ap (λ b. b || list_any is_past one) past) ∙ sym (any_both is_past one other)

    bad_of : new.word.is_bad ≡ may_be_bad (cells_of (one ++ other))
    bad_of =
        second.bad ∙ ap (λ b. b || may_be_bad (cells_of other)) (first.bad ∙ ap (λ b. b || may_be_bad (cells_of one)) bad)
        ∙ sym (ap may_be_bad (cells_both one other) ∙ any_both _ (cells_of one) (cells_of other))

    values_of : new.word.values.items ≡ values_with w [] (cells_of (one ++ other))
    values_of =
        second.values ∙ ap (λ found. values_with w found (cells_of other)) (first.values ∙ ap (λ found. values_with w found (cells_of one)) values)
        ∙ values_both w [] (cells_of one) (cells_of other) ∙ ap (values_with w []) (sym (cells_both one other))

    pub text_of : found_text new ≡ sides_text w (one ++ other)
    text_of =
        ap (λ b. cond b (codes " missing") [] ++ (cond new.is_past (codes " range") [] ++ (cond new.word.is_bad (codes " poison") [] ++ words_text new.word.values.items))) missing_of
        ∙ ap (λ b. cond (list_any is_missing (one ++ other)) (codes " missing") [] ++ (cond b (codes " range") [] ++ (cond new.word.is_bad (codes " poison") [] ++ words_text new.word.values.items))) past_of
        ∙ ap (λ b. cond (list_any is_missing (one ++ other)) (codes " missing") [] ++ (cond (list_any is_past (one ++ other)) (codes " range") [] ++ (cond b (codes " poison") [] ++ words_text new.word.values.items))) bad_of
        ∙ ap (λ vs. cond (list_any is_missing (one ++ other)) (codes " missing") []
        ++ (cond (list_any is_past (one ++ other)) (codes " range") [] ++ (cond (may_be_bad (cells_of (one ++ other))) (codes " poison") [] ++ words_text vs))) values_of

-- the parts of a row, one behind the other
pub row_of_parts : (number kind name offset text end row printed : List ℕ) → row ≡ number ++ (kind ++ (name ++ (32 ∷ offset))) → printed ≡ row ++ text
    → printed ++ end ≡ number ++ (kind ++ (name ++ (32 ∷ (offset ++ (text ++ end)))))
row_of_parts number kind name offset text end row printed begun is =
    ap (λ p. p ++ end) (is ∙ ap (λ r. r ++ text) begun)
    ∙ append_assoc (number ++ (kind ++ (name ++ (32 ∷ offset)))) text end
    ∙ append_assoc number (kind ++ (name ++ (32 ∷ offset))) (text ++ end)
    ∙ ap (λ l. number ++ l) (append_assoc kind (name ++ (32 ∷ offset)) (text ++ end) ∙ ap (λ l. kind ++ l) (append_assoc name (32 ∷ offset) (text ++ end)))
