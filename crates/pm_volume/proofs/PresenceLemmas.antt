-- Which pages are there, as lists.
use Rattle.std.proofs.Common.{◌≡◌, inl, inr, ℕ, zero, suc, ◌+◌, ◌-◌, ◌<◌, ◌≤◌, ◌&&◌, ◌||◌, Bool, true, false, not, List, [], ◌∷◌, take, drop, set, if◌then◌else◌, refl, sym, ap, ap₂, ◌∙◌, arith}
use Rattle.std.specs.List.{list_any}
use Rattle.std.proofs.lemmas.Bool.{cases_lt, false≢true}
use Rattle.nvm_base.specs.declared.units.Span.{Span}
use Rattle.nvm_base.specs.Units.{units_of}
use Rattle.nvm_model.specs.Numbered.{map_from, is_among}
use Rattle.nvm_model.specs.Page.{Page, discard, discard_page, fill, is_present, presence_of, touches_absent, touches_page}
use Rattle.nvm_model.specs.Page.Page.{Absent}
use Rattle.nvm_model.proofs.PageLemmas.{presence_of-map}
use Rattle.nvm_model.proofs.FillLemmas.{presence_of-fill}
use Rattle.pm_volume.specs.Presence.{switched}
use Rattle.nvm_model.proofs.TouchedPageLemmas.{among_bounds, among_from, not_among, same_tests, touches_among}

-- absent ones among so many pages
lacks : ℕ → ℕ → ℕ → List Bool → Bool
lacks first count n there = list_any (λ l. l) (map_from (λ i is_there. is_among first count i && not is_there) n there)

head_out : (b : Bool) (t rest : Bool) → b ≡ false → ((b && t) || rest) ≡ rest
head_out false t rest is = refl
head_out true t rest is = absurd (false≢true (sym is))

head_in : (b : Bool) (t rest : Bool) → b ≡ true → ((b && t) || rest) ≡ (t || rest)
head_in true t rest is = refl
head_in false t rest is = absurd (false≢true is)

lacks_past : (first count n : ℕ) (there : List Bool) → first ≤ n → lacks first count n there ≡ list_any not (take (first + count - n) there)
unfolding lacks
lacks_past first count n [] from = by_size (first + count - n)
  where
    by_size : (k : ℕ) → false ≡ list_any not (take k [])
    by_size zero = refl
    by_size (suc k) = refl
lacks_past first count n (t ∷ ts) from =
    elim (cases_lt n (first + count)) as (λ _. lacks first count n (t ∷ ts) ≡ list_any not (take (first + count - n) (t ∷ ts))) [
      | inl here ↦
          let size : first + count - n ≡ suc (first + count - suc n) = omega arith in
          head_in (is_among first count n) (not t) (lacks first count (suc n) ts) (among_from first count n from here)
          ∙ ap (λ b. not t || b) (lacks_past first count (suc n) ts (omega arith))
          ∙ ap (λ k. list_any not (take k (t ∷ ts))) (sym size)
      | inr past ↦
          let none : first + count - suc n ≡ 0 = omega arith in
          let size : first + count - n ≡ 0 = omega arith in
          head_out (is_among first count n) (not t) (lacks first count (suc n) ts) (not_among first count n (λ a b. absurd (omega arith)))
          ∙ lacks_past first count (suc n) ts (omega arith)
          ∙ ap (λ k. list_any not (take k ts)) none
          ∙ sym (ap (λ k. list_any not (take k (t ∷ ts))) size)
    ]

lacks_from : (first count n : ℕ) (there : List Bool) → n ≤ first → lacks first count n there ≡ list_any not (take count (drop (first - n) there))
unfolding lacks
lacks_from first count n [] to = by_size (first - n) count
  where
    by_size : (k count : ℕ) → false ≡ list_any not (take count (drop k []))
    by_size zero zero = refl
    by_size zero (suc count) = refl
    by_size (suc k) zero = refl
    by_size (suc k) (suc count) = refl
lacks_from first count n (t ∷ ts) to =
    elim (cases_lt n first) as (λ _. lacks first count n (t ∷ ts) ≡ list_any not (take count (drop (first - n) (t ∷ ts)))) [
      | inl before ↦
          let size : first - n ≡ suc (first - suc n) = omega arith in
          head_out (is_among first count n) (not t) (lacks first count (suc n) ts) (not_among first count n (λ a b. absurd (omega arith)))
          ∙ lacks_from first count (suc n) ts (omega arith)
          ∙ sym (ap (λ k. list_any not (take count (drop k (t ∷ ts)))) size)
      | inr here ↦
          let size : first + count - n ≡ count = omega arith in
          let none : first - n ≡ 0 = omega arith in
          lacks_past first count n (t ∷ ts) (omega arith)
          ∙ ap (λ k. list_any not (take k (t ∷ ts))) size
          ∙ sym (ap (λ k. list_any not (take count (drop k (t ∷ ts)))) none)
    ]

pub absent_touched : (span pages : Span) (there : List Bool) → 1 ≤ span.len → pages ≡ units_of 4096 span → list_any not (take pages.len (drop pages.start there)) ≡ touches_absent span.start span.len there
unfolding lacks
absent_touched span pages there some is =
    let units = units_of 4096 span in
    let at : units.start - 0 ≡ units.start = omega arith in
    ap (λ (p : Span). list_any not (take p.len (drop p.start there))) is
    ∙ sym (lacks_from units.start units.len 0 there (omega arith) ∙ ap (λ k. list_any not (take units.len (drop k there))) at)
    ∙ sym (ap (λ (f : ℕ → Bool). list_any (λ l. l) (map_from (λ i is_there. f i && not is_there) 0 there)) (λ i k. touches_among span.start span.len k some i))

-- which pages are there once a span is filled, or pages are discarded
pub filled_presence : (span : Span) (pages : List Page) → 1 ≤ span.len → presence_of (fill span.start span.len pages) ≡ switched (units_of 4096 span).start (units_of 4096 span).len true (presence_of pages)
filled_presence span pages some =
    presence_of-fill span.start span.len pages
    ∙ ap (λ (f : ℕ → Bool → Bool). map_from f 0 (presence_of pages)) (λ i k was. (one_way was (touches_page span.start span.len k) ∙ ap (λ b. if b then true else was) (touches_among span.start span.len k some)) i)
  where
    one_way : (was b : Bool) → (was || b) ≡ (if b then true else was)
    one_way true true = refl
    one_way true false = refl
    one_way false true = refl
    one_way false false = refl

pub discarded_presence : (first count : ℕ) (pages : List Page) → presence_of (discard first count pages) ≡ switched first count false (presence_of pages)
unfolding discard
discarded_presence first count pages = presence_of-map (discard_page first count) (λ i was. if is_among first count i then false else was) 0 pages by_page
  where
    by_page : (i : ℕ) (page : Page) → is_present (discard_page first count i page) ≡ (if is_among first count i then false else is_present page)
    by_page i page = by_test (is_among first count i)
      where
        by_test : (t : Bool) → is_present (if t then Absent else page) ≡ (if t then false else is_present page)
        by_test true = refl
        by_test false = refl

-- pages switched one after the other
sw : ℕ → ℕ → Bool → ℕ → Bool → Bool
sw first count to i was = if is_among first count i then to else was

pub switched_none : (first : ℕ) (to : Bool) (there : List Bool) → switched first 0 to there ≡ there
switched_none first to there = from 0 there
  where
    from : (n : ℕ) (there : List Bool) → map_from (λ i was. if is_among first 0 i then to else was) n there ≡ there
    from n [] = refl
    from n (t ∷ ts) = ap₂ ◌∷◌ (ap (λ b. if b then to else t) (not_among first 0 n (λ a b. absurd (omega arith)))) (from (suc n) ts)

past_same : (first k n : ℕ) (to : Bool) (there : List Bool) → first + k < n → map_from (sw first k to) n there ≡ map_from (sw first (k + 1) to) n there
unfolding sw
past_same first k n to [] past = refl
past_same first k n to (t ∷ ts) past =
    ap₂ ◌∷◌
    (ap (λ b. if b then to else t) (not_among first k n (λ a b. absurd (omega arith)) ∙ sym (not_among first (k + 1) n (λ a b. absurd (omega arith)))))
    (past_same first k (suc n) to ts (omega arith))

one_more : (first k n j : ℕ) (to : Bool) (there : List Bool) → n + j ≡ first + k → set (map_from (sw first k to) n there) j to ≡ map_from (sw first (k + 1) to) n there
unfolding sw
one_more first k n zero to [] at = refl
one_more first k n (suc j) to [] at = refl
one_more first k n zero to (t ∷ ts) at =
    ap₂ ◌∷◌ (sym (ap (λ b. if b then to else t) (among_from first (k + 1) n (omega arith) (omega arith)))) (past_same first k (suc n) to ts (omega arith))
one_more first k n (suc j) to (t ∷ ts) at =
    ap₂ ◌∷◌
    (ap (λ b. if b then to else t)
    (same_tests (is_among first k n) (is_among first (k + 1) n)
    (λ is. let b = among_bounds first k n is in among_from first (k + 1) n b.0 (omega (arith, b.1)))
    (λ is. let b = among_bounds first (k + 1) n is in among_from first k n b.0 (omega (arith, at)))))
    (one_more first k (suc n) j to ts (omega arith))

pub switched_more : (first k : ℕ) (to : Bool) (there : List Bool) → set (switched first k to there) (first + k) to ≡ switched first (k + 1) to there
unfolding sw
switched_more first k to there = one_more first k 0 (first + k) to there (omega arith)
