-- Lists of pages that are cut, or made longer by pages that are absent.
use Rattle.std.proofs.Common.{◌≡◌, ◌⊎◌, inl, inr, ℕ, zero, suc, ◌-◌, ◌/◌, ◌%◌, ◌<◌, false, Option, Some, None, option_and_then, List, [], ◌∷◌, ◌++◌, length, map, replicate, slice_get, take, refl, sym, ap, subst, ◌∙◌, arith}
use Rattle.std.proofs.lemmas.Option.{slice_get_within}
use Rattle.line_device.specs.Medium.{Medium}
use Rattle.nvm_model.specs.Cell.{Cell, CellStands}
use Rattle.nvm_model.specs.Page.{Page, cell_in, cell_of, presence_of, PagesStand}
use Rattle.nvm_model.specs.Page.Page.{Absent, Present}

-- what a list of one item repeated has
pub replicate-item : {A : Type 0} (n : ℕ) (v : A) (i : ℕ) (x : A) → slice_get (replicate n v) i ≡ Some x → x ≡ v
replicate-item zero v i x is = cc
replicate-item (suc n) v zero x is = cc
replicate-item (suc n) v (suc i) x is = replicate-item n v i x is

pub map-replicate : {A B : Type 0} (f : A → B) (n : ℕ) (v : A) → map f (replicate n v) ≡ replicate n (f v)
map-replicate f zero v = refl
map-replicate f (suc n) v = ap (λ xs. f v ∷ xs) (map-replicate f n v)

-- a list of so many items: those that it keeps, and then new ones
pub map-resized : {A B : Type 0} (f : A → B) (n : ℕ) (xs : List A) (v : A)
    → map f (take n xs ++ replicate (n - length xs) v) ≡ take n (map f xs) ++ replicate (n - length (map f xs)) (f v)
map-resized f zero xs v =
    let e1 : 0 - length xs ≡ 0 = omega arith in
    let e2 : 0 - length (map f xs) ≡ 0 = omega arith in
    ap (λ k. map f (replicate k v)) e1 ∙ sym (ap (λ k. replicate k (f v)) e2)
map-resized f (suc n) [] v = map-replicate f (suc n - 0) v
map-resized f (suc n) (x ∷ xs) v =
    let e1 : suc n - suc (length xs) ≡ n - length xs = omega arith in
    let e2 : suc n - suc (length (map f xs)) ≡ n - length (map f xs) = omega arith in
    ap (λ k. map f (x ∷ take n xs ++ replicate k v)) e1 ∙ ap (λ ys. f x ∷ ys) (map-resized f n xs v)
    ∙ sym (ap (λ k. f x ∷ take n (map f xs) ++ replicate k (f v)) e2)

-- its items, of each kind
pub resized-item : {A : Type 0} (n : ℕ) (xs : List A) (v : A) (i : ℕ) (x : A) → slice_get (take n xs ++ replicate (n - length xs) v) i ≡ Some x
    → (x ≡ v) ⊎ ((i < n) × (slice_get xs i ≡ Some x))
resized-item zero xs v i x is =
    let e : 0 - length xs ≡ 0 = omega arith in
    inl (replicate-item 0 v i x (ap (λ k. slice_get (replicate k v) i) (sym e) ∙ is))
resized-item (suc n) [] v i x is = inl (replicate-item (suc n - 0) v i x is)
resized-item (suc n) (y ∷ xs) v zero x is = inr (omega arith, is)
resized-item (suc n) (y ∷ xs) v (suc i) x is =
    let e : suc n - suc (length xs) ≡ n - length xs = omega arith in
    elim (resized-item n xs v i x (ap (λ k. slice_get (take n xs ++ replicate k v) i) (sym e) ∙ is)) as (λ _. (x ≡ v) ⊎ ((suc i < suc n) × (slice_get xs i ≡ Some x))) [
      | inl new ↦ inl new
      | inr old ↦ inr (omega (arith, old.0), old.1)
    ]

-- those that it keeps
pub resized-kept : {A : Type 0} (n : ℕ) (xs : List A) (v : A) (i : ℕ) → i < n → i < length xs → slice_get (take n xs ++ replicate (n - length xs) v) i ≡ slice_get xs i
resized-kept zero xs v i low there = absurd (omega (arith, low))
resized-kept (suc n) [] v i low there = absurd (omega (arith, there))
resized-kept (suc n) (y ∷ xs) v zero low there = refl
resized-kept (suc n) (y ∷ xs) v (suc i) low there =
    let e : suc n - suc (length xs) ≡ n - length xs = omega arith in
    ap (λ k. slice_get (take n xs ++ replicate k v) i) e ∙ resized-kept n xs v i (omega (arith, low)) (omega (arith, there))

-- a line that is there, and its page
pub present_page : (pages : List Page) (n : ℕ) (cell : Cell) → cell_of pages n ≡ Some cell → (cells : List Cell) × (slice_get pages (n / 64) ≡ Some (Present cells))
present_page pages n cell is = by_page (slice_get pages (n / 64)) refl is
  where
    by_page : (o : Option Page) → slice_get pages (n / 64) ≡ o → option_and_then (λ page. cell_in page (n % 64)) o ≡ Some cell
        → (cells : List Cell) × (slice_get pages (n / 64) ≡ Some (Present cells))
    by_page None was is = cc
    by_page (Some Absent) was is = cc
    by_page (Some (Present cells)) was is = (cells, was)

-- absent pages ask nothing of lines
pub pages_stand-absent : (place : ℕ → ℕ) (m : Medium) (n : ℕ) → PagesStand place m (replicate n Absent)
pages_stand-absent place m n = record {
  whole = λ i cells is. absent i cells is;
  lines = λ k cell is. let page = present_page (replicate n Absent) k cell is in absent (k / 64) page.0 page.1;
}
  where
    absent : {C : Type 0} (i : ℕ) (cells : List Cell) → slice_get (replicate n Absent) i ≡ Some (Present cells) → C
    absent i cells is = let e = replicate-item n Absent i (Present cells) is in cc

pub presence_of-resized : (n : ℕ) (pages : List Page)
    → presence_of (take n pages ++ replicate (n - length pages) Absent) ≡ take n (presence_of pages) ++ replicate (n - length (presence_of pages)) false
presence_of-resized n pages = map-resized _ n pages Absent

-- Lines stand for the pages that are kept, where these lie as before.
pub pages_stand-resized : (place after : ℕ → ℕ) (m : Medium) (n : ℕ) (pages : List Page) → ((k : ℕ) → k / 64 < n → k / 64 < length pages → after k ≡ place k)
    → PagesStand place m pages → PagesStand after m (take n pages ++ replicate (n - length pages) Absent)
pages_stand-resized place after m n pages same stand = record {
  whole = λ i cells is. stand.whole i cells (kept i cells is).1;
  lines = λ k cell is.
      let page = present_page (take n pages ++ replicate (n - length pages) Absent) k cell is in
      let was = kept (k / 64) page.0 page.1 in
      let old : cell_of pages k ≡ Some cell =
      ap (option_and_then (λ p. cell_in p (k % 64))) (was.1 ∙ sym page.1) ∙ is in
      subst (λ line. CellStands m line cell) (sym (same k was.0 (slice_get_within pages (k / 64) (Present page.0) was.1))) (stand.lines k cell old);
}
  where
    kept : (i : ℕ) (cells : List Cell) → slice_get (take n pages ++ replicate (n - length pages) Absent) i ≡ Some (Present cells) → (i < n) × (slice_get pages i ≡ Some (Present cells))
    kept i cells is =
        elim (resized-item n pages Absent i (Present cells) is) as (λ _. (i < n) × (slice_get pages i ≡ Some (Present cells))) [
          | inl new ↦ cc
          | inr old ↦ old
        ]
