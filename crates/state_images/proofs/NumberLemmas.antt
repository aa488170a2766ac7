-- Each page that is there has a unit of its own, and no more units are used.
use Rattle.std.proofs.Common.{◌≡◌, ℕ, zero, suc, ◌+◌, ◌*◌, ◌<◌, ◌≤◌, Option, Some, None, List, [], ◌∷◌, length, map, get_or, slice_get, refl, sym, ap, ap₂, ◌∙◌, arith}
use Rattle.std.specs.List.{range_with_len}
use Rattle.std.proofs.lemmas.List.{length-append}
use Rattle.std.proofs.lemmas.List.Sums.{sum_by-cons}
use Rattle.page_table.specs.Pages.{used_by, used_pages}
use Rattle.nvm_model.specs.Page.{Page}
use Rattle.nvm_model.specs.Page.Page.{Absent, Present}
use Rattle.nvm_model.specs.Storage.{File}
use Rattle.state_images.specs.Files.{all_present, present_pages, unit_files_from, unit_in, units_from}
use Rattle.state_images.specs.Storable.{AreStorableFiles}
use Rattle.state_images.proofs.UnitLemmas.{length-units}

-- the unit of a page of a file
pub number-of : (unit : ℕ) (pages : List Page) (page n : ℕ) → get_or (units_from unit pages) page None ≡ Some n → (unit ≤ n) × (n < unit + length (present_pages pages))
number-of unit [] page n is = cc
number-of unit (Absent ∷ pages) zero n is = cc
number-of unit (Absent ∷ pages) (suc page) n is = number-of unit pages page n is
number-of unit (Present cells ∷ pages) zero n is = let same : unit ≡ n = cc in (omega arith, omega arith)
number-of unit (Present cells ∷ pages) (suc page) n is = let rest = number-of (suc unit) pages page n is in (omega (arith, rest.0), omega (arith, rest.1))

number-once : (unit : ℕ) (pages : List Page) (page other n : ℕ) → get_or (units_from unit pages) page None ≡ Some n → get_or (units_from unit pages) other None ≡ Some n → page ≡ other
number-once unit [] page other n is also = cc
number-once unit (Absent ∷ pages) zero other n is also = cc
number-once unit (Absent ∷ pages) (suc page) zero n is also = cc
number-once unit (Absent ∷ pages) (suc page) (suc other) n is also = ap suc (number-once unit pages page other n is also)
number-once unit (Present cells ∷ pages) zero zero n is also = refl
number-once unit (Present cells ∷ pages) zero (suc other) n is also = let same : unit ≡ n = cc in absurd (omega (arith, (number-of (suc unit) pages other n also).0))
number-once unit (Present cells ∷ pages) (suc page) zero n is also = let same : unit ≡ n = cc in absurd (omega (arith, (number-of (suc unit) pages page n is).0))
number-once unit (Present cells ∷ pages) (suc page) (suc other) n is also = ap suc (number-once (suc unit) pages page other n is also)

-- and of one of several files
pub file-number : (unit : ℕ) (files : List File) (i page n : ℕ) → unit_in (slice_get (unit_files_from unit files) i) page ≡ Some n → (unit ≤ n) × (n < unit + length (all_present files))
file-number unit [] i page n is = cc
file-number unit (file ∷ files) zero page n is =
    let own = number-of unit file.pages page n is in
    (own.0, omega (arith, own.1, length-append (present_pages file.pages) (all_present files)))
file-number unit (file ∷ files) (suc i) page n is =
    let rest = file-number (unit + length (present_pages file.pages)) files i page n is in
    (omega (arith, rest.0), omega (arith, rest.1, length-append (present_pages file.pages) (all_present files)))

pub file-once : (unit : ℕ) (files : List File) (i page j other n : ℕ) → unit_in (slice_get (unit_files_from unit files) i) page ≡ Some n
    → unit_in (slice_get (unit_files_from unit files) j) other ≡ Some n → (i ≡ j) × (page ≡ other)
file-once unit [] i page j other n is also = cc
file-once unit (file ∷ files) zero page zero other n is also = (refl, number-once unit file.pages page other n is also)
file-once unit (file ∷ files) zero page (suc j) other n is also =
    absurd (omega (arith, (number-of unit file.pages page n is).1, (file-number (unit + length (present_pages file.pages)) files j other n also).0))
file-once unit (file ∷ files) (suc i) page zero other n is also =
    absurd (omega (arith, (number-of unit file.pages other n also).1, (file-number (unit + length (present_pages file.pages)) files i page n is).0))
file-once unit (file ∷ files) (suc i) page (suc j) other n is also =
    let rest = file-once (unit + length (present_pages file.pages)) files i page j other n is also in
    (ap suc rest.0, rest.1)

-- how many are used of a stretch of entries
used-cons : (entry : Option ℕ) (entries : List (Option ℕ)) → used_pages (entry ∷ entries) ≡ used_by entry + used_pages entries
used-cons entry entries = sum_by-cons used_by entry entries

used-split : (f : ℕ → Option ℕ) (a n m : ℕ) → used_pages (map f (range_with_len a (n + m))) ≡ used_pages (map f (range_with_len a n)) + used_pages (map f (range_with_len (a + n) m))
used-split f a zero m =
    let e1 : zero + m ≡ m = omega arith in
    let e2 : a + zero ≡ a = omega arith in
    ap (λ k. used_pages (map f (range_with_len a k))) e1 ∙ omega (arith, ap (λ k. used_pages (map f (range_with_len k m))) e2)
used-split f a (suc n) m =
    let e1 : suc n + m ≡ suc (n + m) = omega arith in
    let e2 : a + 1 + n ≡ a + suc n = omega arith in
    ap (λ k. used_pages (map f (range_with_len a k))) e1
    ∙ omega (
      arith,
      used-cons (f a) (map f (range_with_len (a + 1) (n + m))),
      used-cons (f a) (map f (range_with_len (a + 1) n)),
      used-split f (a + 1) n m,
      ap (λ k. used_pages (map f (range_with_len k m))) e2,
    )

used-list : (f : ℕ → Option ℕ) (a n : ℕ) (units : List (Option ℕ)) → length units ≤ n → ((k : ℕ) → k < n → f (a + k) ≡ get_or units k None) → used_pages (map f (range_with_len a n)) ≡ used_pages units
used-list f a zero [] size same = refl
used-list f a zero (unit ∷ units) size same = absurd (omega arith)
used-list f a (suc n) [] size same =
    let e : a + 0 ≡ a = omega arith in
    let head : f a ≡ None = sym (ap f e) ∙ same 0 (omega arith) in
    let rest = used-list f (a + 1) n [] (omega arith) (λ k low. let e2 : a + 1 + k ≡ a + suc k = omega arith in ap f e2 ∙ same (suc k) (omega arith)) in
    used-cons (f a) (map f (range_with_len (a + 1) n)) ∙ omega (arith, ap used_by head, rest)
used-list f a (suc n) (unit ∷ units) size same =
    let e : a + 0 ≡ a = omega arith in
    let head : f a ≡ unit = sym (ap f e) ∙ same 0 (omega arith) in
    let rest = used-list f (a + 1) n units (omega arith) (λ k low. let e2 : a + 1 + k ≡ a + suc k = omega arith in ap f e2 ∙ same (suc k) (omega arith)) in
    used-cons (f a) (map f (range_with_len (a + 1) n)) ∙ omega (arith, ap used_by head, rest, used-cons unit units)

used-units : (unit : ℕ) (pages : List Page) → used_pages (units_from unit pages) ≡ length (present_pages pages)
used-units unit [] = refl
used-units unit (Absent ∷ pages) = used-cons None (units_from unit pages) ∙ omega (arith, used-units unit pages)
used-units unit (Present cells ∷ pages) = used-cons (Some unit) (units_from (suc unit) pages) ∙ omega (arith, used-units (suc unit) pages)

at-first : (i k : ℕ) → 256 * i + k ≡ 256 * (i + 0) + k
at-first i k = omega arith

at-next : (i j page : ℕ) → 256 * suc (i + j) + page ≡ 256 * (i + suc j) + page
at-next i j page = omega arith

after : (i j : ℕ) → suc i + j ≡ suc (i + j)
after i j = omega arith

next-size : (m : ℕ) → 256 * suc m ≡ 256 + 256 * m
next-size m = omega arith

next-start : (i : ℕ) → 256 * i + 256 ≡ 256 * suc i
next-start i = omega arith

-- of one inode, and then of those after it
used-next : (f : ℕ → Option ℕ) (i m own rest : ℕ) → used_pages (map f (range_with_len (256 * i) 256)) ≡ own → used_pages (map f (range_with_len (256 * suc i) (256 * m))) ≡ rest
    → used_pages (map f (range_with_len (256 * i) (256 * suc m))) ≡ own + rest
used-next f i m own rest here later =
    ap (λ n. used_pages (map f (range_with_len (256 * i) n))) (next-size m)
    ∙ used-split f (256 * i) 256 (256 * m)
    ∙ ap₂ ◌+◌ here (ap (λ a. used_pages (map f (range_with_len a (256 * m)))) (next-start i) ∙ later)

-- all of them
pub used-files : (f : ℕ → Option ℕ) (i m unit : ℕ) (files : List File) → length files ≤ m → AreStorableFiles files
    → ((j page : ℕ) → j < m → page < 256 → f (256 * (i + j) + page) ≡ unit_in (slice_get (unit_files_from unit files) j) page)
    → used_pages (map f (range_with_len (256 * i) (256 * m))) ≡ length (all_present files)
used-files f i zero unit [] size each same = refl
used-files f i zero unit (file ∷ files) size each same = absurd (omega arith)
used-files f i (suc m) unit [] size each same =
    used-next f i m 0 0 (used-list f (256 * i) 256 [] (omega arith) (λ k low. ap f (at-first i k) ∙ same 0 k (omega arith) low))
    (used-files f (suc i) m unit [] (omega arith) each
    (λ j page low small. ap (λ n. f (256 * n + page)) (after i j) ∙ ap f (at-next i j page) ∙ same (suc j) page (omega arith) small))
used-files f i (suc m) unit (file ∷ files) size each same =
    used-next f i m (length (present_pages file.pages)) (length (all_present files))
    (used-list f (256 * i) 256 (units_from unit file.pages) (omega (arith, length-units unit file.pages, each.0.few)) (λ k low. ap f (at-first i k) ∙ same 0 k (omega arith) low)
    ∙ used-units unit file.pages)
    (used-files f (suc i) m (unit + length (present_pages file.pages)) files (omega arith) each.1
    (λ j page low small. ap (λ n. f (256 * n + page)) (after i j) ∙ ap f (at-next i j page) ∙ same (suc j) page (omega arith) small))
    ∙ sym (length-append (present_pages file.pages) (all_present files))
