-- How many pages of files are there, and how many more once holes are filled.
use Rattle.std.proofs.Common.{◌≡◌, ℕ, zero, suc, ◌+◌, ◌<◌, ◌≤◌, ◌==◌, Bool, true, false, cond, not, ◌&&◌, ◌||◌, count_by, sum_by, List, [], ◌∷◌, ◌++◌, length, replicate, take, slice_index_or, refl, sym, ap, ◌∙◌, arith}
use Rattle.std.specs.List.{range_with_len}
use Rattle.std.proofs.lemmas.Bool.{both_ways, eq-eqb, eqb-true}
use Rattle.std.proofs.lemmas.List.{length-append}
use Rattle.std.proofs.lemmas.List.Sums.{sum_by-cons}
use Rattle.nvm_model.specs.Numbered.{map_from}
use Rattle.nvm_model.specs.Page.{Page, absent_among, is_present, presence_of}
use Rattle.nvm_model.specs.Page.Page.{Absent, Present}
use Rattle.nvm_model.specs.Storage.{File}
use Rattle.machine_model.specs.OnPages.{pages_used, pages_used_in}
use Rattle.state_images.specs.Files.{all_present, present_pages}

-- of marks, of a file's pages, and of all files
abbrev pub marked : List Bool → ℕ
marked [] = 0
marked (true ∷ marks) = suc (marked marks)
marked (false ∷ marks) = marked marks

abbrev pub used : List Page → ℕ
used pages = marked (presence_of pages)

abbrev pub all_used : List File → ℕ
all_used [] = 0
all_used (file ∷ files) = used file.pages + all_used files

length_present : (pages : List Page) → length (present_pages pages) ≡ used pages
length_present [] = refl
length_present (Absent ∷ pages) = length_present pages
length_present (Present cells ∷ pages) = ap suc (length_present pages)

pub room_used : (files : List File) → length (all_present files) ≡ all_used files
room_used [] = refl
room_used (file ∷ files) = omega (arith, length-append (present_pages file.pages) (all_present files), length_present file.pages, room_used files)

counted : (pages : List Page) → count_by is_present pages ≡ used pages
counted [] = refl
counted (Absent ∷ pages) = sum_by-cons (λ y. cond (is_present y) 1 0) Absent pages ∙ omega (arith, counted pages)
counted (Present cells ∷ pages) = sum_by-cons (λ y. cond (is_present y) 1 0) (Present cells) pages ∙ omega (arith, counted pages)

pub pages_are_used : (files : List File) → pages_used files ≡ all_used files
pages_are_used [] = refl
pages_are_used (file ∷ files) = sum_by-cons pages_used_in file files ∙ omega (arith, counted file.pages, pages_are_used files)

-- those of marks from n upward that are not set and that t tells
abbrev pub gap : Bool → Bool → ℕ
gap told set = cond (told && not set) 1 0

abbrev pub gaps : (ℕ → Bool) → ℕ → List Bool → ℕ
gaps t n [] = 0
gaps t n (b ∷ bs) = gap (t n) b + gaps t (suc n) bs

fills : (told b : Bool) (rest more holes : ℕ) → more ≡ rest + holes → marked ((b || told) ∷ []) + more ≡ marked (b ∷ []) + rest + (gap told b + holes)
fills true true rest more holes is = omega (arith, is)
fills true false rest more holes is = omega (arith, is)
fills false true rest more holes is = omega (arith, is)
fills false false rest more holes is = omega (arith, is)

first_mark : (b : Bool) (bs : List Bool) → marked (b ∷ bs) ≡ marked (b ∷ []) + marked bs
first_mark true bs = omega arith
first_mark false bs = omega arith

pub marked_filled : (t : ℕ → Bool) (n : ℕ) (bs : List Bool) → marked (map_from (λ i was. was || t i) n bs) ≡ marked bs + gaps t n bs
marked_filled t n [] = refl
marked_filled t n (b ∷ bs) =
    first_mark (b || t n) (map_from (λ i was. was || t i) (suc n) bs)
    ∙ fills (t n) b (marked bs) (marked (map_from (λ i was. was || t i) (suc n) bs)) (gaps t (suc n) bs) (marked_filled t (suc n) bs)
    ∙ ap (λ k. k + (gap (t n) b + gaps t (suc n) bs)) (sym (first_mark b bs))

-- with one number fewer told
abbrev but : ℕ → (ℕ → Bool) → ℕ → Bool
but m t i = t i && not (i == m)

gap_but : (told same b : Bool) → same ≡ false → gap told b ≡ gap (told && not same) b
gap_but told true b none = cc none
gap_but true false b none = refl
gap_but false false b none = refl

apart : (i m : ℕ) → (i ≡ m → ⊥) → (i == m) ≡ false
apart i m other = by_test (i == m) refl
  where
    by_test : (b : Bool) → (i == m) ≡ b → (i == m) ≡ false
    by_test true is = absurd (other (eqb-true i m is))
    by_test false is = is

gaps_past : (t : ℕ → Bool) (m n : ℕ) (bs : List Bool) → m < n → gaps t n bs ≡ gaps (but m t) n bs
gaps_past t m n [] past = refl
gaps_past t m n (b ∷ bs) past =
    let head = gap_but (t n) (n == m) b (apart n m (λ is. omega (arith, is, past))) in
    omega (arith, head, gaps_past t m (suc n) bs (omega (arith, past)))

small : (told b : Bool) → gap told b ≤ cond b 0 1
small true true = omega arith
small true false = omega arith
small false true = omega arith
small false false = omega arith

gaps_one : (t : ℕ → Bool) (m n j : ℕ) (bs : List Bool) → m ≡ n + j → gaps t n bs ≤ gaps (but m t) n bs + cond (slice_index_or bs j true) 0 1
gaps_one t m n j [] at = omega arith
gaps_one t m n zero (b ∷ bs) at =
    let rest = gaps_past t m (suc n) bs (omega (arith, at)) in
    omega (arith, small (t n) b, rest)
gaps_one t m n (suc j) (b ∷ bs) at =
    let head = gap_but (t n) (n == m) b (apart n m (λ is. omega (arith, is, at))) in
    omega (arith, head, gaps_one t m (suc n) j bs (omega (arith, at)))

none_told : (t : ℕ → Bool) (n : ℕ) (bs : List Bool) → ((i : ℕ) → t i ≡ false) → gaps t n bs ≡ 0
none_told t n [] none = refl
none_told t n (b ∷ bs) none = ap (λ told. gap told b + gaps t (suc n) bs) (none n) ∙ omega (arith, none_told t (suc n) bs none)

-- where only so many numbers from one on are told, there are no more than absent ones among these
pub gaps_among : (t : ℕ → Bool) (bs : List Bool) (first count : ℕ) → ((i : ℕ) → t i ≡ true → (first ≤ i) × (i < first + count)) → gaps t 0 bs ≤ absent_among bs first count
gaps_among t bs first zero within =
    let none = none_told t 0 bs (λ i. by_test i (t i) refl) in omega (arith, none)
  where
    by_test : (i : ℕ) (b : Bool) → t i ≡ b → t i ≡ false
    by_test i true is = let k = within i is in absurd (omega (arith, k.0, k.1))
    by_test i false is = is
gaps_among t bs first (suc count) within =
    let one = gaps_one t (first + count) 0 (first + count) bs (omega arith) in
    let rest = gaps_among (but (first + count) t) bs first count (λ i is. by_parts i (t i) (i == first + count) refl refl is) in
    omega (arith, one, rest)
  where
    by_parts : (i : ℕ) (told same : Bool) → t i ≡ told → (i == first + count) ≡ same → (told && not same) ≡ true → (first ≤ i) × (i < first + count)
    by_parts i true true told same is = cc is
    by_parts i true false told same is =
        let k = within i told in
        let other : i ≡ first + count → ⊥ = λ at. both_ways (i == first + count) same (eq-eqb i (first + count) at) in
        (k.0, omega (arith, k.1, other))
    by_parts i false same told at is = cc is

-- as many as a count over the numbers of all of them tells
pub gaps_counted : (t : ℕ → Bool) (all : List Bool) (n : ℕ) (bs : List Bool) → ((k : ℕ) → slice_index_or all (n + k) true ≡ slice_index_or bs k true)
    → gaps t n bs ≡ count_by (λ i. t i && not (slice_index_or all i true)) (range_with_len n (length bs))
gaps_counted t all n [] same = refl
gaps_counted t all n (b ∷ bs) same =
    let here : n + 0 ≡ n = omega arith in
    let next : n + 1 ≡ suc n = omega arith in
    let first : slice_index_or all n true ≡ b = ap (λ k. slice_index_or all k true) (sym here) ∙ same 0 in
    let rest = gaps_counted t all (suc n) bs (λ k. let at : suc n + k ≡ n + suc k = omega arith in ap (λ i. slice_index_or all i true) at ∙ same (suc k)) in
    let tells : ℕ → ℕ = λ i. cond (t i && not (slice_index_or all i true)) 1 0 in
    ap (λ k. gap (t n) b + k) rest ∙ ap (λ x. gap (t n) x + sum_by tells (range_with_len (suc n) (length bs))) (sym first)
    ∙ ap (λ k. tells n + sum_by tells (range_with_len k (length bs))) (sym next) ∙ sym (sum_by-cons tells n (range_with_len (n + 1) (length bs)))

-- marks of which fewer are set
pub marked_kept : (g : ℕ → Bool → Bool) (n : ℕ) (bs : List Bool) → ((i : ℕ) (b : Bool) → g i b ≡ true → b ≡ true) → marked (map_from g n bs) ≤ marked bs
marked_kept g n [] fewer = omega arith
marked_kept g n (b ∷ bs) fewer = by_head b (g n b) (fewer n b) (marked_kept g (suc n) bs fewer)
  where
    by_head : (old new : Bool) → (new ≡ true → old ≡ true) → marked (map_from g (suc n) bs) ≤ marked bs → marked (new ∷ map_from g (suc n) bs) ≤ marked (old ∷ bs)
    by_head true true was rest = omega (arith, rest)
    by_head true false was rest = omega (arith, rest)
    by_head false true was rest = cc (was refl)
    by_head false false was rest = rest

no_marks : (count : ℕ) → marked (replicate count false) ≡ 0
no_marks zero = refl
no_marks (suc count) = no_marks count

pub marked_resized : (n count : ℕ) (bs : List Bool) → marked (take n bs ++ replicate count false) ≤ marked bs
marked_resized zero count [] = omega (arith, no_marks count)
marked_resized zero count (b ∷ bs) = omega (arith, no_marks count)
marked_resized (suc n) count [] = omega (arith, no_marks count)
marked_resized (suc n) count (true ∷ bs) = omega (arith, marked_resized n count bs)
marked_resized (suc n) count (false ∷ bs) = marked_resized n count bs

pub no_pages : (count : ℕ) → used (replicate count Absent) ≡ 0
no_pages zero = refl
no_pages (suc count) = no_pages count
