-- Tests over lists, and their items.
use Rattle.std.proofs.Common.{◌≡◌, ◌⊎◌, inl, inr, ℕ, zero, suc, ◌+◌, ◌<◌, ◌≤◌, Bool, true, false, cond, ◌&&◌, ◌||◌, List, [], ◌∷◌, ◌++◌, map, flat_map, Some, find, unwrap_or, length, take, get_or, refl, sym, ap, ◌∙◌, arith, append-nil, append_assoc}
use Rattle.std.specs.List.{list_all, list_any, range_with_len}
use Rattle.std.proofs.lemmas.Bool.{and_parts, cases_lt, or_left, or_right}
use Rattle.std.proofs.lemmas.Grind.{flat_map-append}
use Rattle.std.proofs.lemmas.List.{map-append, take_more}
use Rattle.line_device.specs.History.{IsIn}
use Rattle.std.specs.Str.{bytes_eq}
use Rattle.cut_places.specs.Outcomes.Files.{reads_of}
use Rattle.cut_places.specs.Outcomes.Pages.{PageRead}
use Rattle.cut_places.specs.AskedReads.Reads.{file_reads_asked, page_read}
use Rattle.cut_places.specs.AskedReads.declared.reads.FileRead.{FileRead as Asked}
pub use Rattle.cut_places.specs.Enough.{IsAmong}
pub use Rattle.cut_places.proofs.AmongLemmas.{all_from, all_of, among_numbers, among_or_not, range_all, some_of}

-- what is one of the first of a list, or of the last, is one of all
pub among_first : {A : Type 0} (x : A) (xs ys : List A) → IsAmong x xs → IsAmong x (xs ++ ys)
among_first x [] ys is = absurd is
among_first x (y ∷ xs) ys (inl same) = inl same
among_first x (y ∷ xs) ys (inr later) = inr (among_first x xs ys later)

pub among_last : {A : Type 0} (x : A) (xs ys : List A) → IsAmong x ys → IsAmong x (xs ++ ys)
among_last x [] ys is = is
among_last x (y ∷ xs) ys is = inr (among_last x xs ys is)

pub among_parts : {A : Type 0} (x : A) (xs ys : List A) → IsAmong x (xs ++ ys) → IsAmong x xs ⊎ IsAmong x ys
among_parts x [] ys is = inr is
among_parts x (y ∷ xs) ys (inl same) = inl (inl same)
among_parts x (y ∷ xs) ys (inr later) = elim (among_parts x xs ys later) as (λ _. IsAmong x (y ∷ xs) ⊎ IsAmong x ys) [
  | inl here ↦ inl (inr here)
  | inr there ↦ inr there
]

-- each of them is among those that they become
pub among_map : {A B : Type 0} (f : A → B) (x : A) (xs : List A) → IsAmong x xs → IsAmong (f x) (map f xs)
among_map f x [] is = absurd is
among_map f x (y ∷ ys) (inl same) = inl (ap f same)
among_map f x (y ∷ ys) (inr later) = inr (among_map f x ys later)

-- one more of them made something
pub pushed : {A B : Type 0} (f : A → B) (xs : List A) (i : ℕ) (x : A) (y : B) (old new : List B) → i < length xs → x ≡ get_or xs i x → old ≡ map f (take i xs) → new ≡ old ++ y ∷ [] → y ≡ f x
    → new ≡ map f (take (i + 1) xs)
pushed f xs i x y old new lt is was pushes made =
    pushes ∙ ap (λ ys. ys ++ y ∷ []) was ∙ ap (λ z. map f (take i xs) ++ z ∷ []) (made ∙ ap f is) ∙ sym (map-append f (take i xs) (get_or xs i x ∷ [])) ∙ sym (ap (map f) (take_more xs i x lt))

-- and made something by what it is made
pub pushed_of : {A B C : Type 0} (f : B → C) (g : A → B) (xs : List A) (i : ℕ) (x : A) (y : C) (old new : List C) → i < length xs → x ≡ get_or xs i x → old ≡ map f (map g (take i xs)) → new ≡ old ++ y ∷ []
    → y ≡ f (g x) → new ≡ map f (map g (take (i + 1) xs))
pushed_of f g xs i x y old new lt is was pushes made =
    pushes ∙ ap (λ ys. ys ++ y ∷ []) was ∙ ap (λ z. map f (map g (take i xs)) ++ z ∷ []) (made ∙ ap (λ z. f (g z)) is)
    ∙ sym (map-append f (map g (take i xs)) (map g (get_or xs i x ∷ []))) ∙ sym (ap (map f) (map-append g (take i xs) (get_or xs i x ∷ [])))
    ∙ sym (ap (λ ys. map f (map g ys)) (take_more xs i x lt))

-- of items that are made something, each passes; and one more of them made a list
pub item_passes : {A B : Type 0} (test : B → Bool) (f : A → B) (xs : List A) (i : ℕ) (x : A) → i < length xs → x ≡ get_or xs i x → list_all test (map f xs) ≡ true → test (f x) ≡ true
item_passes test f [] i x lt is all = absurd (omega (arith, lt))
item_passes test f (y ∷ ys) zero x lt is all = ap (λ z. test (f z)) is ∙ (and_parts (test (f y)) (list_all test (map f ys)) all).0
item_passes test f (y ∷ ys) (suc i) x lt is all = item_passes test f ys i x (omega (arith, lt)) is (and_parts (test (f y)) (list_all test (map f ys)) all).1

pub appended_of : {A B C : Type 0} (f : B → List C) (g : A → B) (xs : List A) (i : ℕ) (x : A) (first old new : List C) → i < length xs → x ≡ get_or xs i x
    → old ≡ first ++ flat_map f (map g (take i xs)) → new ≡ old ++ f (g x) → new ≡ first ++ flat_map f (map g (take (i + 1) xs))
appended_of f g xs i x first old new lt is was more =
    more ∙ ap (λ ys. ys ++ f (g x)) was ∙ append_assoc first (flat_map f (map g (take i xs))) (f (g x))
    ∙ ap (λ ys. first ++ ys)
    (ap (λ ys. flat_map f (map g (take i xs)) ++ ys) (sym (append-nil (f (g x))) ∙ ap (λ y. flat_map f (g y ∷ [])) is)
    ∙ sym (flat_map-append f (map g (take i xs)) (g (get_or xs i x) ∷ []))
    ∙ sym (ap (flat_map f) (ap (map g) (take_more xs i x lt) ∙ map-append g (take i xs) (get_or xs i x ∷ []))))

-- numbers of a range
pub range_each : (f : ℕ → Bool) (start count : ℕ) → list_all f (range_with_len start count) ≡ true → (k : ℕ) → start ≤ k → k < start + count → f k ≡ true
range_each f start zero all k from to = absurd (omega (arith, from, to))
range_each f start (suc count) all k from to =
    let parts = and_parts (f start) (list_all f (range_with_len (start + 1) count)) all in
    elim (cases_lt start k) as (λ _. f k ≡ true) [
      | inl later ↦ range_each f (start + 1) count parts.1 k (omega (arith, later)) (omega (arith, to))
      | inr here ↦ let same : start ≡ k = omega (arith, from, here) in sym (ap f same) ∙ parts.0
    ]

-- the first that passes is one of them, and passes
pub found : (f : ℕ → Bool) (xs : List ℕ) → list_any f xs ≡ true → IsIn (unwrap_or (find f xs) 0) xs × (f (unwrap_or (find f xs) 0) ≡ true)
found f [] any = absurd (wrong any)
  where
    wrong : false ≡ true → ⊥
    wrong e = cc
found f (x ∷ xs) any = by_first (found f xs) (f x) refl any
  where
    by_first : (list_any f xs ≡ true → IsIn (unwrap_or (find f xs) 0) xs × (f (unwrap_or (find f xs) 0) ≡ true)) → (b : Bool) → f x ≡ b → (b || list_any f xs) ≡ true
        → IsIn (unwrap_or (cond b (Some x) (find f xs)) 0) (x ∷ xs) × (f (unwrap_or (cond b (Some x) (find f xs)) 0) ≡ true)
    by_first later true is some = (inl refl, is)
    by_first later false is some = let one = later some in (inr one.0, one.1)

-- some that passes
pub any_in : (f : ℕ → Bool) (v : ℕ) (xs : List ℕ) → IsIn v xs → f v ≡ true → list_any f xs ≡ true
any_in f v [] is passes = absurd is
any_in f v (x ∷ xs) (inl same) passes = or_left (f x) (list_any f xs) (sym (ap f same) ∙ passes)
any_in f v (x ∷ xs) (inr later) passes = or_right (f x) (list_any f xs) (any_in f v xs later passes)

-- where some passes the one test, and what passes it passes the other one
pub any_more : (f g : ℕ → Bool) (xs : List ℕ) → ((x : ℕ) → f x ≡ true → g x ≡ true) → list_any f xs ≡ true → list_any g xs ≡ true
any_more f g [] each any = any
any_more f g (x ∷ xs) each any = by_first (any_more f g xs each) (f x) refl any
  where
    by_first : (list_any f xs ≡ true → list_any g xs ≡ true) → (b : Bool) → f x ≡ b → (b || list_any f xs) ≡ true → (g x || list_any g xs) ≡ true
    by_first later true is some = or_left (g x) (list_any g xs) (each x is)
    by_first later false is some = or_right (g x) (list_any g xs) (later some)

pub any_map : {A B : Type 0} (f : B → Bool) (g : A → B) (xs : List A) → list_any f (map g xs) ≡ list_any (λ x. f (g x)) xs
any_map f g [] = refl
any_map f g (x ∷ xs) = ap (λ b. f (g x) || b) (any_map f g xs)

-- of the reads of one file, those of other files are passed over
pub any_of_file : (f : PageRead → Bool) (name : List ℕ) (reads : List Asked)
    → list_any (λ (r : Asked). bytes_eq r.name name && f (page_read r.pages)) reads ≡ list_any f (reads_of name (file_reads_asked reads))
any_of_file f name [] = refl
any_of_file f name (r ∷ reads) = by_name (bytes_eq r.name name) (any_of_file f name reads)
  where
    by_name : (b : Bool) → list_any (λ (q : Asked). bytes_eq q.name name && f (page_read q.pages)) reads ≡ list_any f (reads_of name (file_reads_asked reads))
        → ((b && f (page_read r.pages)) || list_any (λ (q : Asked). bytes_eq q.name name && f (page_read q.pages)) reads)
        ≡ list_any f (cond b (page_read r.pages ∷ reads_of name (file_reads_asked reads)) (reads_of name (file_reads_asked reads)))
    by_name true rest = ap (λ b. f (page_read r.pages) || b) rest
    by_name false rest = rest
