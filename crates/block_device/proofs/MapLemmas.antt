-- The block map as it is read, and the units that it leaves.
use Rattle.std.proofs.Common.{◌≡◌, ℕ, ◌+◌, ◌*◌, ◌<◌, List, [], ◌∷◌, ◌++◌, length, get_or, sym, ◌∙◌, ap, ap₂, arith}
use Rattle.nvm_model.proofs.NumberedLemmas.{list_from-append, list_from-is}
use Rattle.nvm_model.specs.Numbered.{list_from}
use Rattle.nvm_model.proofs.NumberedLemmas.{list_from-append}

pub list_from-push : (f : ℕ → ℕ) (k : ℕ) → list_from f 0 (k + 1) ≡ list_from f 0 k ++ f k ∷ []
list_from-push f k =
    let is : 0 + k ≡ k = omega arith in
    list_from-append f 0 k 1 ∙ ap (λ n. list_from f 0 k ++ f n ∷ []) is

-- eight numbers more
pub line_more : (f : ℕ → ℕ) (k : ℕ) (xs : List ℕ) → length xs ≡ 8 → ((w : ℕ) → w < 8 → get_or xs w 0 ≡ f (8 * k + w)) → list_from f 0 (8 * k) ++ xs ≡ list_from f 0 (8 * (k + 1))
line_more f k xs eight same =
    let at : 0 + 8 * k ≡ 8 * k = omega arith in
    let all : 8 * k + 8 ≡ 8 * (k + 1) = omega arith in
    ap (λ ys. list_from f 0 (8 * k) ++ ys) (list_from-is f (8 * k) xs (λ w below. same w (omega (arith, below, eight))) ∙ ap₂ (list_from f) (sym at) eight)
    ∙ sym (list_from-append f 0 (8 * k) 8)
    ∙ ap (list_from f 0) all
