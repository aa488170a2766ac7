-- The order of parts: of two that differ one comes first, and a part more stands in its place.
use Rattle.std.proofs.Common.{◌≡◌, ℕ, zero, suc, ◌+◌, ◌≤◌, ◌==◌, ◌&&◌, ◌||◌, Bool, true, false, cond, not, if◌then◌else◌, List, [], ◌∷◌, ◌++◌, length, nat_lt, slice_index_or, refl, sym, ap, ap₂, subst, ◌∙◌, ◌⊎◌, inl, inr, arith}
use Rattle.std.specs.List.{AllByRecursion, insert, position_or_len}
use Rattle.std.specs.Str.{bytes_eq}
use Rattle.std.proofs.lemmas.Bool.{cases_Bool, cond-true, cond-false, and_parts, and_from, or_cases, or_left, or_right, or_parts, ltb-true, ltb-false, lt-ltb, le-ltb}
use Rattle.std.proofs.lemmas.List.Sums.{prefix_len-le-length}
use Rattle.std.proofs.lemmas.Slice.Eq.{bytes_eq-Decides}
use Rattle.nvm_model.specs.Listing.{is_before}
use Rattle.nvm_model.proofs.OrderLemmas.{before-between, before-other}
use Rattle.explorer.specs.AskedReads.declared.read.Read.{Read}
use Rattle.explorer.specs.AskedReads.declared.read.Read.TheVariants.{Volume, Blocks, File}
use Rattle.outcome_lists.specs.Parts.{AreInOrder, comes_before, same_part, with_part, with_parts}

lt-between : (k l m : ℕ) → nat_lt k l ≡ true → nat_lt l m ≡ true → nat_lt k m ≡ true
lt-between k l m one two = lt-ltb k m (omega (arith, ltb-true k l one, ltb-true l m two))

lt-other : (k l : ℕ) → nat_lt k l ≡ false → (k == l) ≡ false → nat_lt l k ≡ true
lt-other k l up apart = grind (arith)

-- a name with an address comes before another, as parts of files do
abbrev lower : List ℕ → ℕ → List ℕ → ℕ → Bool
lower a k b l = is_before a b || (bytes_eq a b && nat_lt k l)

lower-between : (a b c : List ℕ) (k l m : ℕ) → lower a k b l ≡ true → lower b l c m ≡ true → lower a k c m ≡ true
lower-between a b c k l m one two = by_first (or_cases (is_before a b) (bytes_eq a b && nat_lt k l) one) (or_cases (is_before b c) (bytes_eq b c && nat_lt l m) two)
  where
    by_first : (is_before a b ≡ true) ⊎ ((bytes_eq a b && nat_lt k l) ≡ true) → (is_before b c ≡ true) ⊎ ((bytes_eq b c && nat_lt l m) ≡ true) → lower a k c m ≡ true
    by_first (inl ab) (inl bc) = or_left (is_before a c) _ (before-between a b c ab bc)
    by_first (inl ab) (inr bc) = or_left (is_before a c) _ (subst (λ n. is_before a n ≡ true) ((bytes_eq-Decides b c).0 (and_parts (bytes_eq b c) (nat_lt l m) bc).0) ab)
    by_first (inr ab) (inl bc) = or_left (is_before a c) _ (subst (λ n. is_before n c ≡ true) (sym ((bytes_eq-Decides a b).0 (and_parts (bytes_eq a b) (nat_lt k l) ab).0)) bc)
    by_first (inr ab) (inr bc) =
        let one = and_parts (bytes_eq a b) (nat_lt k l) ab in
        let two = and_parts (bytes_eq b c) (nat_lt l m) bc in
        let same : bytes_eq a c ≡ true = subst (λ n. bytes_eq n c ≡ true) (sym ((bytes_eq-Decides a b).0 one.0)) two.0 in
        or_right (is_before a c) _ (and_from (bytes_eq a c) (nat_lt k m) same (lt-between k l m one.1 two.1))

lower-other : (a b : List ℕ) (k l : ℕ) → lower a k b l ≡ false → (bytes_eq a b && (k == l)) ≡ false → lower b l a k ≡ true
lower-other a b k l up apart = elim (cases_Bool (bytes_eq a b)) [
  | inl same ↦
      let less : nat_lt k l ≡ false = sym (ap (λ t. t && nat_lt k l) same) ∙ (or_parts (is_before a b) _ up).1 in
      let other : (k == l) ≡ false = sym (ap (λ t. t && (k == l)) same) ∙ apart in
      let back : bytes_eq b a ≡ true = (bytes_eq-Decides b a).1 (sym ((bytes_eq-Decides a b).0 same)) in
      or_right (is_before b a) _ (and_from (bytes_eq b a) (nat_lt l k) back (lt-other k l less other))
  | inr other ↦
      let differ : a ≡ b → ⊥ = λ e. cc (sym other ∙ (bytes_eq-Decides a b).1 e) in
      or_left (is_before b a) _ (before-other a b differ ∙ ap not (or_parts (is_before a b) _ up).0)
]

pub comes_before-between : (p q r : Read) → comes_before p q ≡ true → comes_before q r ≡ true → comes_before p r ≡ true
comes_before-between (Volume a k) (Volume b l) (Volume c m) one two = lt-between a b c one two
comes_before-between (Volume a k) (Volume b l) (Blocks c m) one two = refl
comes_before-between (Volume a k) (Volume b l) (File x c m) one two = refl
comes_before-between (Volume a k) (Blocks b l) (Volume c m) one two = cc two
comes_before-between (Volume a k) (Blocks b l) (Blocks c m) one two = refl
comes_before-between (Volume a k) (Blocks b l) (File x c m) one two = refl
comes_before-between (Volume a k) (File y b l) (Volume c m) one two = cc two
comes_before-between (Volume a k) (File y b l) (Blocks c m) one two = refl
comes_before-between (Volume a k) (File y b l) (File x c m) one two = refl
comes_before-between (Blocks a k) (Volume b l) r one two = cc one
comes_before-between (Blocks a k) (Blocks b l) (Volume c m) one two = cc two
comes_before-between (Blocks a k) (Blocks b l) (Blocks c m) one two = lt-between a b c one two
comes_before-between (Blocks a k) (Blocks b l) (File x c m) one two = refl
comes_before-between (Blocks a k) (File y b l) (Volume c m) one two = cc two
comes_before-between (Blocks a k) (File y b l) (Blocks c m) one two = cc two
comes_before-between (Blocks a k) (File y b l) (File x c m) one two = refl
comes_before-between (File z a k) (Volume b l) r one two = cc one
comes_before-between (File z a k) (Blocks b l) r one two = cc one
comes_before-between (File z a k) (File y b l) (Volume c m) one two = cc two
comes_before-between (File z a k) (File y b l) (Blocks c m) one two = cc two
comes_before-between (File z a k) (File y b l) (File x c m) one two = lower-between z y x a b c one two

-- of two parts that differ one comes first
pub comes_before-other : (p q : Read) → comes_before p q ≡ false → same_part p q ≡ false → comes_before q p ≡ true
comes_before-other (Volume a k) (Volume b l) up apart = lt-other a b up apart
comes_before-other (Volume a k) (Blocks b l) up apart = cc up
comes_before-other (Volume a k) (File y b l) up apart = cc up
comes_before-other (Blocks a k) (Volume b l) up apart = refl
comes_before-other (Blocks a k) (Blocks b l) up apart = lt-other a b up apart
comes_before-other (Blocks a k) (File y b l) up apart = cc up
comes_before-other (File x a k) (Volume b l) up apart = refl
comes_before-other (File x a k) (Blocks b l) up apart = refl
comes_before-other (File x a k) (File y b l) up apart = lower-other x y a b up apart

-- what is so of all, and of one more
pub all-with_part : (P : Read → Type 0) (parts : List Read) (p : Read) → AllByRecursion P parts → P p → AllByRecursion P (with_part parts p)
all-with_part P [] p all one = (one, tt)
all-with_part P (q ∷ qs) p all one = by_test (comes_before q p) (same_part q p) (all-with_part P qs p all.1 one)
  where
    by_test : (s t : Bool) → AllByRecursion P (with_part qs p) → AllByRecursion P (cond s (q ∷ with_part qs p) (cond t (q ∷ qs) (p ∷ q ∷ qs)))
    by_test true t rest = (all.0, rest)
    by_test false true rest = all
    by_test false false rest = (one, all)

all-behind : (p q : Read) (parts : List Read) → comes_before p q ≡ true → AllByRecursion (λ r. comes_before q r ≡ true) parts → AllByRecursion (λ r. comes_before p r ≡ true) parts
all-behind p q [] first all = tt
all-behind p q (r ∷ parts) first all = (comes_before-between p q r first all.0, all-behind p q parts first all.1)

pub order-with_part : (parts : List Read) (p : Read) → AreInOrder parts → AreInOrder (with_part parts p)
order-with_part [] p order = (tt, tt)
order-with_part (q ∷ qs) p order = by_test (comes_before q p) (same_part q p) refl refl (order-with_part qs p order.1)
  where
    by_test : (s t : Bool) → comes_before q p ≡ s → same_part q p ≡ t → AreInOrder (with_part qs p) → AreInOrder (cond s (q ∷ with_part qs p) (cond t (q ∷ qs) (p ∷ q ∷ qs)))
    by_test true t low is rest = (all-with_part (λ r. comes_before q r ≡ true) qs p order.0 low, rest)
    by_test false true up is rest = order
    by_test false false up is rest = let first = comes_before-other q p up is in ((first, all-behind p q qs first order.0), order)

pub with_parts-append : (parts xs ys : List Read) → with_parts parts (xs ++ ys) ≡ with_parts (with_parts parts xs) ys
with_parts-append parts [] ys = refl
with_parts-append parts (x ∷ xs) ys = with_parts-append (with_part parts x) xs ys

-- where a part stands, or belongs
abbrev pub place : Read → List Read → ℕ
place p parts = position_or_len (λ q. not (comes_before q p)) parts

place-later : (p q : Read) (qs : List Read) → comes_before q p ≡ true → place p (q ∷ qs) ≡ suc (place p qs)
place-later p q qs low =
    let one_more : 1 + place p qs ≡ suc (place p qs) = omega arith in
    cond-true (not (not (comes_before q p))) _ _ (ap (λ t. not (not t)) low) ∙ one_more

place-here : (p q : Read) (qs : List Read) → comes_before q p ≡ false → place p (q ∷ qs) ≡ 0
place-here p q qs up = cond-false (not (not (comes_before q p))) _ _ (ap (λ t. not (not t)) up)

pub place-low : (p : Read) (parts : List Read) → place p parts ≤ length parts
place-low p parts = prefix_len-le-length (λ q. not (not (comes_before q p))) parts

-- whether it stands there
abbrev pub stands : Read → List Read → ℕ → Bool
stands p [] k = false
stands p (q ∷ qs) zero = same_part q p
stands p (q ∷ qs) (suc k) = stands p qs k

pub with_part-at : (parts : List Read) (p : Read) → with_part parts p ≡ (if stands p parts (place p parts) then parts else insert parts (place p parts) p)
with_part-at [] p = refl
with_part-at (q ∷ qs) p = elim (cases_Bool (comes_before q p)) [
  | inl low ↦
      cond-true (comes_before q p) _ _ low ∙ ap (λ l. q ∷ l) (with_part-at qs p)
      ∙ later (stands p qs (place p qs))
      ∙ sym (ap (λ k. if stands p (q ∷ qs) k then q ∷ qs else insert (q ∷ qs) k p) (place-later p q qs low))
  | inr up ↦
      cond-false (comes_before q p) _ _ up
      ∙ sym (ap (λ k. if stands p (q ∷ qs) k then q ∷ qs else insert (q ∷ qs) k p) (place-here p q qs up))
]
  where
    later : (t : Bool) → q ∷ cond t qs (insert qs (place p qs) p) ≡ cond t (q ∷ qs) (insert (q ∷ qs) (suc (place p qs)) p)
    later true = refl
    later false = refl

stands-at : (p q : Read) (parts : List Read) (k : ℕ) → true ≡ nat_lt k (length parts) → q ≡ slice_index_or parts k q → stands p parts k ≡ same_part q p
stands-at p q [] k within is = absurd (omega (arith, ltb-true k 0 (sym within)))
stands-at p q (r ∷ parts) zero within is = ap (λ s. same_part s p) (sym is)
stands-at p q (r ∷ parts) (suc k) within is =
    stands-at p q parts k (sym (lt-ltb k (length parts) (omega (arith, ltb-true (suc k) (suc (length parts)) (sym within))))) is

stands-past : (p : Read) (parts : List Read) (k : ℕ) → false ≡ nat_lt k (length parts) → stands p parts k ≡ false
stands-past p [] k past = refl
stands-past p (r ∷ parts) zero past = absurd (omega (arith, ltb-false 0 (suc (length parts)) (sym past)))
stands-past p (r ∷ parts) (suc k) past = stands-past p parts k (sym (le-ltb k (length parts) (omega (arith, ltb-false (suc k) (suc (length parts)) (sym past)))))

-- the part is there
pub stays : (p q : Read) (parts shown : List Read) (k : ℕ) → shown ≡ parts → k ≡ place p parts → true ≡ nat_lt k (length shown) → q ≡ slice_index_or shown k q
    → same_part q p ≡ true → parts ≡ with_part parts p
stays p q parts shown k view at within is same =
    sym (with_part-at parts p ∙ cond-true (stands p parts (place p parts)) _ _ (ap₂ (stands p) (sym view) (sym at) ∙ stands-at p q shown k within is ∙ same))

-- another is there
pub put_before : (p q : Read) (parts shown : List Read) (k : ℕ) → shown ≡ parts → k ≡ place p parts → true ≡ nat_lt k (length shown) → q ≡ slice_index_or shown k q
    → same_part q p ≡ false → insert parts k p ≡ with_part parts p
put_before p q parts shown k view at within is other =
    ap (λ n. insert parts n p) at
    ∙ sym (with_part-at parts p ∙ cond-false (stands p parts (place p parts)) _ _ (ap₂ (stands p) (sym view) (sym at) ∙ stands-at p q shown k within is ∙ other))

-- none is there
pub put_last : (p : Read) (parts shown : List Read) (k : ℕ) → shown ≡ parts → k ≡ place p parts → false ≡ nat_lt k (length shown) → insert parts k p ≡ with_part parts p
put_last p parts shown k view at past =
    ap (λ n. insert parts n p) at
    ∙ sym (with_part-at parts p ∙ cond-false (stands p parts (place p parts)) _ _ (ap₂ (stands p) (sym view) (sym at) ∙ stands-past p shown k past))
