-- The first place that passes a test, in numbers that follow each other and in what is made from them.
use Rattle.std.proofs.Common.{◌≡◌, ◌+◌, ◌<◌, ℕ, zero, suc, Bool, true, false, get_or, position, Option, Some, None, sym, ap, ◌∙◌, arith}
use Rattle.std.specs.List.{range_with_len}
use Rattle.line_words.proofs.PositionLemmas.{first_place, no_place, first_among, none_among, none_found, one_found}
use Rattle.nvm_model.specs.Numbered.{list_from}
use Rattle.nvm_model.proofs.NumberedLemmas.{length-list_from}

-- among numbers from 0
pub first_below : (p : ℕ → Bool) (n i : ℕ) → i < n → ((k : ℕ) → k < i → p k ≡ false) → p i ≡ true → position p (range_with_len 0 n) ≡ Some i
first_below p n i within before here =
    let at : (k : ℕ) → 0 + k ≡ k = λ k. omega arith in
    first_among p 0 n i within (λ k lt. ap p (at k) ∙ before k lt) (ap p (at i) ∙ here)

pub none_below : (p : ℕ → Bool) (n : ℕ) → ((k : ℕ) → k < n → p k ≡ false) → position p (range_with_len 0 n) ≡ None
none_below p n fails = none_among p 0 n (λ k lt. let at : 0 + k ≡ k = omega arith in ap p at ∙ fails k lt)

-- where nothing is found among them none passes
pub fails_below : (p : ℕ → Bool) (n k : ℕ) → position p (range_with_len 0 n) ≡ None → k < n → p k ≡ false
fails_below p n k none below = let at : 0 + k ≡ k = omega arith in ap p (sym at) ∙ none_found p 0 n k none below

-- in a list made by number
pub get_or-list_from : {A : Type 0} (f : ℕ → A) (n count i : ℕ) (d : A) → i < count → get_or (list_from f n count) i d ≡ f (n + i)
get_or-list_from f n zero i d lt = absurd (omega arith)
get_or-list_from f n (suc count) zero d lt = let e : n + 0 ≡ n = omega arith in ap f (sym e)
get_or-list_from f n (suc count) (suc i) d lt =
    let e : n + suc i ≡ suc n + i = omega arith in get_or-list_from f (suc n) count i d (omega arith) ∙ ap f (sym e)

pub first_made : {A : Type 0} (f : ℕ → A) (p : A → Bool) (a n i : ℕ) → i < n → ((k : ℕ) → k < i → p (f (a + k)) ≡ false) → p (f (a + i)) ≡ true → position p (list_from f a n) ≡ Some i
first_made f p a n i within before here =
    let size = length-list_from f a n in
    let at = λ (k : ℕ) (lt : k < n). ap p (get_or-list_from f a n k (f a) lt) in
    first_place p (list_from f a n) i (f a) (omega arith) (λ k lt. at k (omega arith) ∙ before k lt) (at i within ∙ here)

pub none_made : {A : Type 0} (f : ℕ → A) (p : A → Bool) (a n : ℕ) → ((k : ℕ) → k < n → p (f (a + k)) ≡ false) → position p (list_from f a n) ≡ None
none_made f p a n fails =
    let size = length-list_from f a n in
    no_place p (list_from f a n) (f a)
    (λ k lt. let within : k < n = omega arith in ap p (get_or-list_from f a n k (f a) within) ∙ fails k within)

-- what is found among numbers is found in what is made of them
pub found_made : {A : Type 0} (f : ℕ → A) (p : A → Bool) (q : ℕ → Bool) (a n : ℕ) (o : Option ℕ) → ((k : ℕ) → p (f k) ≡ q k) → o ≡ position q (range_with_len a n) → o ≡ position p (list_from f a n)
found_made f p q a n None same is = sym (none_made f p a n (λ k below. same (a + k) ∙ none_found q a n k (sym is) below))
found_made f p q a n (Some i) same is =
    let found = one_found q a n i (sym is) in
    sym (first_made f p a n i found.within (λ k lt. same (a + k) ∙ found.before k lt) (same (a + i) ∙ found.here))
