-- Each area has its lines, and the image of these reads as they are.
use Rattle.std.proofs.Common.{◌≡◌, ℕ, zero, suc, ◌+◌, ◌-◌, ◌<◌, false, ltb, Some, List, [], ◌∷◌, get_or, take, sum, slice_get, ap, ◌∙◌, arith}
use Rattle.std.proofs.lemmas.Bool.{cond-true, cond-false, lt-ltb}
use Rattle.std.proofs.lemmas.Bool.Decides.{nat_tests}
use Rattle.std.proofs.lemmas.List.Sums.{sum_by-cons}
use Rattle.nvm_model.specs.Cell.{Cell}
use Rattle.word_tables.specs.declared.geometry.Geometry.{Geometry}
use Rattle.word_tables.specs.Layout.{Area, rank, first_line, size, sizes}
use Rattle.nvm_model.specs.Page.{Page}
use Rattle.nvm_model.specs.Storage.{Block, File}
use Rattle.state_images.specs.Images.{areas_of, line_of}
use Rattle.state_images.specs.Lines.{laid}

not_below : (a b : ℕ) → ltb (a + b) a ≡ false
not_below a b = grind (arith, nat_tests)

-- line i of area r
pub laid-at : (sizes : List ℕ) (areas : List (ℕ → Cell)) (r i : ℕ) (area : ℕ → Cell) → slice_get areas r ≡ Some area → i < get_or sizes r 0
    → laid sizes areas (sum (take r sizes) + i) ≡ area i
unfolding laid
laid-at [] areas r i area is below = absurd (omega arith)
laid-at (size ∷ sizes) [] r i area is below = cc
laid-at (size ∷ sizes) (first ∷ areas) zero i area is below =
    let e : 0 + i ≡ i = omega arith in
    let same : first ≡ area = cc in
    ap (laid (size ∷ sizes) (first ∷ areas)) e ∙ cond-true (ltb i size) (first i) _ (lt-ltb i size below) ∙ ap (λ (f : ℕ → Cell). f i) same
laid-at (size ∷ sizes) (first ∷ areas) (suc r) i area is below =
    let at : sum (size ∷ take r sizes) + i ≡ size + (sum (take r sizes) + i) = omega (arith, sum_by-cons (λ x. x) size (take r sizes)) in
    let back : size + (sum (take r sizes) + i) - size ≡ sum (take r sizes) + i = omega arith in
    ap (laid (size ∷ sizes) (first ∷ areas)) at
    ∙ cond-false (ltb (size + (sum (take r sizes) + i)) size) _ (laid sizes areas (size + (sum (take r sizes) + i) - size)) (not_below size (sum (take r sizes) + i))
    ∙ ap (laid sizes areas) back
    ∙ laid-at sizes areas r i area is below

pub area-at : (geo : Geometry) (blocks : List Block) (volume : List Page) (files : List File) (area : Area) (lines : ℕ → Cell) (i : ℕ)
    → slice_get (areas_of geo blocks volume files) (rank area) ≡ Some lines → i < size geo area
    → line_of geo blocks volume files (first_line geo area + i) ≡ lines i
unfolding line_of first_line size
area-at geo blocks volume files area lines i is below = laid-at (sizes geo) (areas_of geo blocks volume files) (rank area) i lines is below
