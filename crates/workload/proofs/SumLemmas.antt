-- Sums of bytes that wrap, taken part by part.
use Rattle.std.proofs.Common.{◌≡◌, ℕ, ◌+◌, ◌*◌, ◌%◌, ◌^◌, ◌<◌, List, [], ◌++◌, replicate, sum, Option, Some, None, refl, sym, ap, ◌∙◌, arith, append-nil, mul_comm, drop, length, get_or}
use Rattle.std.proofs.lemmas.Option.{same_Some}
use Rattle.std.proofs.lemmas.List.Sums.{sum_by-append}
use Rattle.std.proofs.lemmas.List.Folds.{sum_by-replicate}
use Rattle.nvm_base.specs.Data.{ByteRun, followed, item_of, items_of, run, spelled}
use Rattle.nvm_base.proofs.ReadingLemmas.{items_of-more, spelled-append}
use Rattle.workload.specs.Summary.{wrapped}

-- a sum, and one that goes on with it
pub after : ℕ → Option ℕ → Option ℕ
after total None = None
after total (Some more) = Some ((total + more) % 2 ^ 64)

-- the bytes of a whole sum to what those taken so far do, and then those of the rest
pub record Summed (whole rest : Option (List ByteRun)) (total : ℕ) : Type 0 where
  pub is : wrapped whole ≡ after total (wrapped rest)

after-nothing : (o : Option (List ByteRun)) → wrapped o ≡ after 0 (wrapped o)
unfolding after
after-nothing None = refl
after-nothing (Some runs) =
    let same : sum (spelled runs) % 2 ^ 64 ≡ (0 + sum (spelled runs) % 2 ^ 64) % 2 ^ 64 = omega arith in
    ap Some same

pub Summed-none : (whole : Option (List ByteRun)) → Summed whole whole 0
Summed-none whole = record { is = after-nothing whole }

-- the sum of some runs before others
sum-spelled : (xs ys : List ByteRun) → sum (spelled (xs ++ ys)) ≡ sum (spelled xs) + sum (spelled ys)
sum-spelled xs ys = ap sum (spelled-append xs ys) ∙ sum_by-append (λ x. x) (spelled xs) (spelled ys)

joins : (total m n : ℕ) → (total + (m + n) % 2 ^ 64) % 2 ^ 64 ≡ ((total + m % 2 ^ 64) % 2 ^ 64 + n % 2 ^ 64) % 2 ^ 64
joins total m n = omega arith

after-more : (total more : ℕ) (runs : List ByteRun) (next : Option (List ByteRun)) → more ≡ sum (spelled runs) % 2 ^ 64 → after total (wrapped (followed (Some runs) next)) ≡ after ((total + more) % 2 ^ 64) (wrapped next)
unfolding after
after-more total more runs None e = refl
after-more total more runs (Some rest) e =
    ap Some (ap (λ n. (total + n % 2 ^ 64) % 2 ^ 64) (sum-spelled runs rest)
    ∙ joins total (sum (spelled runs)) (sum (spelled rest))
    ∙ ap (λ n. ((total + n) % 2 ^ 64 + sum (spelled rest) % 2 ^ 64) % 2 ^ 64) (sym e))

pub Summed-more : (whole rest next : Option (List ByteRun)) (runs : List ByteRun) (total more : ℕ) → Summed whole rest total → rest ≡ followed (Some runs) next → more ≡ sum (spelled runs) % 2 ^ 64 → Summed whole next ((total + more) % 2 ^ 64)
Summed-more whole rest next runs total more s e m = record { is = s.is ∙ ap (λ o. after total (wrapped o)) e ∙ after-more total more runs next m }

pub Summed-bad : (whole rest : Option (List ByteRun)) (total : ℕ) → Summed whole rest total → rest ≡ None → wrapped whole ≡ None
unfolding after
Summed-bad whole rest total s e = s.is ∙ ap (λ o. after total (wrapped o)) e

pub Summed-all : (whole rest : Option (List ByteRun)) (total : ℕ) → Summed whole rest total → rest ≡ Some [] → total < 2 ^ 64 → wrapped whole ≡ Some total
unfolding after
Summed-all whole rest total s e h =
    let fits : (total + 0) % 2 ^ 64 ≡ total = omega arith in
    s.is ∙ ap (λ o. after total (wrapped o)) e ∙ ap Some fits

-- the sum of a run
pub sum-run : (byte count : ℕ) → sum (spelled (run byte count)) ≡ byte * count
sum-run byte count =
    ap sum (append-nil (replicate count byte)) ∙ sum_by-replicate (λ x. x) count byte ∙ mul_comm count byte

pub wrapped-run : (byte count : ℕ) (o : Option (List ByteRun)) → o ≡ Some (run byte count) → wrapped o ≡ Some (byte * count % 2 ^ 64)
wrapped-run byte count o e = ap wrapped e ∙ ap (λ n. Some (n % 2 ^ 64)) (sum-run byte count)

-- the sum of a part that is there, or not
wrapped-none : (o : Option (List ByteRun)) → wrapped o ≡ None → o ≡ None
wrapped-none None e = refl
wrapped-none (Some runs) e = cc e

part_bad : (o more : Option (List ByteRun)) → o ≡ None → followed o more ≡ None
part_bad o more e = ap (λ p. followed p more) e

-- one more item, summed or refused
pub Summed-item : (whole : Option (List ByteRun)) (items : List (List ℕ)) (n : ℕ) (item : List ℕ) (total more : ℕ) → Summed whole (items_of (drop n items)) total → (n < length items) × (item ≡ get_or items n item) → wrapped (item_of item) ≡ Some more → Summed whole (items_of (drop (n + 1) items)) ((total + more) % 2 ^ 64)
Summed-item whole items n item total more s at e = go (item_of item) e (items_of-more items n item at)
  where
    go : (o : Option (List ByteRun)) → wrapped o ≡ Some more → items_of (drop n items) ≡ followed o (items_of (drop (n + 1) items)) → Summed whole (items_of (drop (n + 1) items)) ((total + more) % 2 ^ 64)
    go None e step = cc e
    go (Some runs) e step = Summed-more whole _ _ runs total more s step (sym (same_Some _ _ e))

pub Summed-refused : (whole : Option (List ByteRun)) (items : List (List ℕ)) (n : ℕ) (item : List ℕ) (total : ℕ) → Summed whole (items_of (drop n items)) total → (n < length items) × (item ≡ get_or items n item) → wrapped (item_of item) ≡ None → wrapped whole ≡ None
Summed-refused whole items n item total s at e =
    Summed-bad whole _ total s (items_of-more items n item at ∙ part_bad (item_of item) _ (wrapped-none (item_of item) e))
