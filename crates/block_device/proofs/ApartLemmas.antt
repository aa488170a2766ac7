-- Ranges that are apart, prepared one after the other.
use Rattle.std.proofs.Common.{Err, ◌≡◌, ℕ, zero, suc, Bool, true, false, not, ◌&&◌, ◌||◌, ◌==◌, ◌+◌, ◌-◌, ◌*◌, ◌/◌, ◌%◌, ◌<◌, ◌≤◌, List, [], ◌∷◌, ◌++◌, length, get_or, take, drop, sum_by, nat_lt, refl, sym, ◌∙◌, ap, ap₂, subst, arith, append_assoc, append-nil, drop-drop, length-append, length-drop}
use Rattle.std.specs.List.{list_any}
use Rattle.std.proofs.lemmas.Bool.{or_parts, or_from, and_parts, not-true, ltb-false, eqb-false, ne_eqb, both_ways, false≢true}
use Rattle.std.proofs.lemmas.Bool.Decides.{nat_tests}
use Rattle.std.proofs.lemmas.List.{drop_more, length-map, length-take-le, map-append, take_more}
use Rattle.std.proofs.lemmas.List.Folds.{list_any-append}
use Rattle.std.proofs.lemmas.List.Sums.{sum_by-append, sum_by-cons}
use Rattle.nvm_base.specs.declared.units.Span.{Span}
use Rattle.nvm_base.specs.Units.{overlap}
use Rattle.range_sets.specs.Ranges.{is_disjoint}
use Rattle.nvm_model.specs.Numbered.{list_from}
use Rattle.nvm_model.specs.Storage.{Block}
use Rattle.nvm_model.specs.Blocks.{write, write_ranges}
use Rattle.nvm_model.proofs.NumberedLemmas.{length-list_from}
use Rattle.nvm_model.specs.Blocks.{first_there}
use Rattle.block_device.specs.declared.fault.BlockFault.TheVariants as fault
use Rattle.block_device.specs.Refusals.Refusal.{Range, Length, Limit, Overlap}
use Rattle.block_device.specs.Refusals.{Checks, block_spans, blocks_touched, ranges_refusal, where_}
use Rattle.block_device.specs.declared.change.Change.{Change}
use Rattle.block_device.specs.Changes.{names}
use Rattle.block_device.specs.Prepared.{AreApart, numbers_in, numbers_of}
use Rattle.block_device.proofs.MadeLemmas.{names_by}

abbrev pub span_of : Span → Span
span_of r = record { start = r.start; len = r.len / 512 }

abbrev pub size_of : List Span → ℕ
size_of ranges = sum_by (λ (r : Span). r.len) ranges

abbrev part : Span → Bool
part r = r.len == 0 || not (r.len % 512 == 0)

joined : {A : Type 0} (xs : List A) (i : ℕ) → take i xs ++ drop i xs ≡ xs
joined [] zero = refl
joined [] (suc i) = refl
joined (x ∷ xs) zero = refl
joined (x ∷ xs) (suc i) = ap (λ ys. x ∷ ys) (joined xs i)

-- the ranges before one, that one, and those after it
pub split_at : (ranges : List Span) (i : ℕ) (d : Span) → i < length ranges → take i ranges ++ get_or ranges i d ∷ drop (i + 1) ranges ≡ ranges
split_at ranges i d below = ap (λ rest. take i ranges ++ rest) (sym (drop_more ranges i d below)) ∙ joined ranges i

-- one range more
pub write_ranges-push : (done : List Span) (r : Span) (bytes : List ℕ) (blocks : List Block) → write_ranges (done ++ r ∷ []) bytes blocks ≡ write r.start (take r.len (drop (size_of done) bytes)) (write_ranges done bytes blocks)
write_ranges-push [] r bytes blocks = refl
write_ranges-push (q ∷ qs) r bytes blocks =
    write_ranges-push qs r (drop q.len bytes) (write q.start (take q.len bytes) blocks)
    ∙ ap (λ bs. write r.start (take r.len bs) (write_ranges qs (drop q.len bytes) (write q.start (take q.len bytes) blocks)))
    (drop-drop (size_of qs) q.len bytes ∙ ap (λ n. drop n bytes) (sym (sum_by-cons (λ (s : Span). s.len) q qs)))

numbers_in-append : (xs ys : List Span) → numbers_in (xs ++ ys) ≡ numbers_in xs ++ numbers_in ys
numbers_in-append [] ys = refl
numbers_in-append (x ∷ xs) ys =
    ap (λ ns. list_from (λ b. b) x.start x.len ++ ns) (numbers_in-append xs ys)
    ∙ sym (append_assoc (list_from (λ b. b) x.start x.len) (numbers_in xs) (numbers_in ys))

pub numbers_in-push : (done : List Span) (r : Span) → numbers_in (block_spans (done ++ r ∷ [])) ≡ numbers_in (block_spans done) ++ list_from (λ b. b) r.start (r.len / 512)
numbers_in-push done r =
    ap numbers_in (map-append span_of done (r ∷ []))
    ∙ numbers_in-append (block_spans done) (span_of r ∷ [])
    ∙ ap (λ ns. numbers_in (block_spans done) ++ ns) (append-nil (list_from (λ b. b) r.start (r.len / 512)))

pub length-numbers_in : (spans : List Span) → length (numbers_in spans) ≡ size_of spans
length-numbers_in [] = refl
length-numbers_in (x ∷ xs) =
    length-append (list_from (λ b. b) x.start x.len) (numbers_in xs)
    ∙ ap₂ ◌+◌ (length-list_from (λ b. b) x.start x.len) (length-numbers_in xs)
    ∙ sym (sum_by-cons (λ (s : Span). s.len) x xs)

whole_from : (r : Span) → part r ≡ false → r.len % 512 ≡ 0
whole_from r is = grind (arith, nat_tests, or_parts (r.len == 0) (not (r.len % 512 == 0)) is)

-- whole blocks have 512 bytes each
pub whole_size : (ranges : List Span) → list_any (λ (r : Span). r.len == 0 || not (r.len % 512 == 0)) ranges ≡ false → size_of ranges ≡ 512 * size_of (block_spans ranges)
whole_size [] whole = refl
whole_size (r ∷ rs) whole =
    let parts = or_parts (part r) (list_any (λ (s : Span). s.len == 0 || not (s.len % 512 == 0)) rs) whole in
    let one = whole_from r parts.0 in
    let rest = whole_size rs parts.1 in
    let sums = sum_by-cons (λ (s : Span). s.len) r rs in
    let spans = sum_by-cons (λ (s : Span). s.len) (span_of r) (block_spans rs) in
    omega (arith, one, rest, sums, spans)

apart_from : (xs : List Span) (x : Span) (ys : List Span) → is_disjoint (xs ++ x ∷ ys) ≡ true → list_any (λ q. overlap q x) xs ≡ false
apart_from [] x ys disjoint = refl
apart_from (q ∷ qs) x ys disjoint =
    let parts = and_parts (not (list_any (overlap q) (qs ++ x ∷ ys))) (is_disjoint (qs ++ x ∷ ys)) disjoint in
    let none = sym (list_any-append (overlap q) qs (x ∷ ys)) ∙ not-true (list_any (overlap q) (qs ++ x ∷ ys)) parts.0 in
    let later = (or_parts (list_any (overlap q) qs) (list_any (overlap q) (x ∷ ys)) none).1 in
    or_from (overlap q x) (list_any (λ p. overlap p x) qs) (or_parts (overlap q x) (list_any (overlap q) ys) later).0 (apart_from qs x ys parts.1)

not_numbered : (b start count : ℕ) → (start ≤ b → b < start + count → ⊥) → list_any (λ k. k == b) (list_from (λ k. k) start count) ≡ false
not_numbered b start zero out = refl
not_numbered b start (suc count) out =
    or_from (start == b) (list_any (λ k. k == b) (list_from (λ k. k) (suc start) count))
    (ne_eqb start b (λ e. out (omega arith) (omega arith)))
    (not_numbered b (suc start) count (λ from to. out (omega arith) (omega arith)))

meets : (a m b n i : ℕ) → a ≤ i → i < a + m → b ≤ i → i < b + n → (nat_lt a (b + n) && nat_lt b (a + m)) ≡ true
meets a m b n i from to from_s to_s = grind (arith, nat_tests)

numbers_elsewhere : (xs : List Span) (x : Span) (b : ℕ) → list_any (λ q. overlap q x) xs ≡ false → x.start ≤ b → b < x.start + x.len → list_any (λ k. k == b) (numbers_in xs) ≡ false
numbers_elsewhere [] x b apart from to = refl
numbers_elsewhere (q ∷ qs) x b apart from to =
    let parts = or_parts (overlap q x) (list_any (λ p. overlap p x) qs) apart in
    list_any-append (λ k. k == b) (list_from (λ k. k) q.start q.len) (numbers_in qs)
    ∙ or_from (list_any (λ k. k == b) (list_from (λ k. k) q.start q.len)) (list_any (λ k. k == b) (numbers_in qs))
    (not_numbered b q.start q.len (λ from_q to_q. both_ways (overlap q x) parts.0 (meets q.start q.len x.start x.len b from_q to_q from to)))
    (numbers_elsewhere qs x b parts.1 from to)

-- what is known of a range among those that are apart
pub record IsNext (count : ℕ) (done : List Span) (r : Span) (total : ℕ) : Type 0 where
  pub whole : r.len % 512 ≡ 0
  pub within : r.start + r.len / 512 ≤ count
  pub room : size_of (block_spans done) + r.len / 512 ≤ 64
  pub bytes : size_of done + r.len ≤ total
  pub fresh : (b : ℕ) → r.start ≤ b → b < r.start + r.len / 512 → list_any (λ k. k == b) (numbers_in (block_spans done)) ≡ false

next_of : (count : ℕ) (done : List Span) (r : Span) (rest : List Span) → AreApart count (done ++ r ∷ rest) → IsNext count done r (size_of (done ++ r ∷ rest))
next_of count done r rest x =
    let spans : block_spans (done ++ r ∷ rest) ≡ block_spans done ++ span_of r ∷ block_spans rest = map-append span_of done (r ∷ rest) in
    let past : Span → Bool = λ (s : Span). nat_lt count (s.start + s.len) in
    let len : Span → ℕ = λ (s : Span). s.len in
    let whole = sym (list_any-append part done (r ∷ rest)) ∙ x.whole in
    let within = sym (list_any-append past (block_spans done) (span_of r ∷ block_spans rest)) ∙ ap (list_any past) (sym spans) ∙ x.within in
    let few = subst (λ ss. sum_by len ss ≤ 64) spans x.few in
    let sums = sum_by-append len (block_spans done) (span_of r ∷ block_spans rest) in
    let sum_r = sum_by-cons len (span_of r) (block_spans rest) in
    let sizes = sum_by-append len done (r ∷ rest) in
    let size_r = sum_by-cons len r rest in
    let in_r = (or_parts (list_any past (block_spans done)) (list_any past (span_of r ∷ block_spans rest)) within).1 in
    record {
      whole = whole_from r (or_parts (part r) (list_any part rest) (or_parts (list_any part done) (list_any part (r ∷ rest)) whole).1).0;
      within = ltb-false count (r.start + r.len / 512) (or_parts (past (span_of r)) (list_any past (block_spans rest)) in_r).0;
      room = omega (arith, few, sums, sum_r);
      bytes = omega (arith, sizes, size_r);
      fresh = λ b from to.
          numbers_elsewhere (block_spans done) (span_of r) b
          (apart_from (block_spans done) (span_of r) (block_spans rest) (ap is_disjoint (sym spans) ∙ x.disjoint)) from to;
    }

pub next_at : (count : ℕ) (ranges : List Span) (i : ℕ) (d : Span) → i < length ranges → AreApart count ranges → IsNext count (take i ranges) (get_or ranges i d) (size_of ranges)
next_at count ranges i d below x =
    subst (λ rs. IsNext count (take i ranges) (get_or ranges i d) (size_of rs)) (split_at ranges i d below)
    (next_of count (take i ranges) (get_or ranges i d) (drop (i + 1) ranges) (subst (AreApart count) (sym (split_at ranges i d below)) x))

-- the bytes of a range, as code takes them
module _ (count : ℕ) (done : List Span) (r : Span) (at : ℕ) (bytes piece : List ℕ) (x : IsNext count done r (length bytes)) (is_at : at ≡ size_of done) (is : piece ≡ take (at + r.len - at) (drop at bytes)) where
  piece_len : length piece ≡ r.len
  piece_len =
      ap length is
      ∙ length-take-le (at + r.len - at) (drop at bytes) (let rest = length-drop at bytes in let fits = x.bytes in omega (arith, rest, fits))
      ∙ (omega arith)

  pub piece_blocks : length piece / 512 ≡ r.len / 512
  piece_blocks = ap (λ n. n / 512) piece_len

  pub next_within : (blocks : ℕ) → blocks ≡ count → r.start + length piece / 512 ≤ blocks
  next_within blocks same = let within = x.within in omega (arith, piece_blocks, within)

  module _ (cs : List Change) (numbers : numbers_of cs ≡ numbers_in (block_spans done)) where
    pub next_room : length cs + length piece / 512 ≤ 64
    next_room =
        let len : length cs ≡ size_of (block_spans done) = sym (length-map cs (λ (c : Change). c.block)) ∙ ap length numbers ∙ length-numbers_in (block_spans done) in
        let room = x.room in
        omega (arith, len, room, piece_blocks)

    pub next_unnamed : (k : ℕ) → k < length piece / 512 → names cs (r.start + k) ≡ false
    next_unnamed k less =
        names_by cs (r.start + k) ∙ ap (list_any (λ n. n == r.start + k)) numbers ∙ x.fresh (r.start + k) (omega arith) (omega (arith, less, piece_blocks))

    pub numbers_next : (ds : List Change) → numbers_of ds ≡ numbers_of cs ++ list_from (λ b. b) r.start (length piece / 512) → numbers_of ds ≡ numbers_in (block_spans (done ++ r ∷ []))
    numbers_next ds more =
        more
        ∙ ap₂ ◌++◌ numbers (ap (list_from (λ b. b) r.start) piece_blocks)
        ∙ sym (numbers_in-push done r)

  pub written_next : (old now new : List Block) → now ≡ write_ranges done bytes old → new ≡ write r.start piece now → new ≡ write_ranges (done ++ r ∷ []) bytes old
  written_next old now new before step =
      let one : at + r.len - at ≡ r.len = omega arith in
      step
      ∙ ap₂ (write r.start) (is ∙ ap (λ n. take n (drop at bytes)) one ∙ ap (λ n. take r.len (drop n bytes)) is_at) before
      ∙ sym (write_ranges-push done r bytes old)

  pub size_next : at + r.len ≡ size_of (done ++ r ∷ [])
  size_next =
      let sums = sum_by-append (λ (s : Span). s.len) done (r ∷ []) in
      let one = sum_by-cons (λ (s : Span). s.len) r [] in
      omega (arith, is_at, sums, one)

  pub spans_next : size_of (block_spans done) + length piece / 512 ≡ size_of (block_spans (done ++ r ∷ []))
  spans_next =
      let spans = ap size_of (map-append span_of done (r ∷ [])) in
      let sums = sum_by-append (λ (s : Span). s.len) (block_spans done) (span_of r ∷ []) in
      let one = sum_by-cons (λ (s : Span). s.len) (span_of r) [] in
      omega (arith, spans, sums, one, piece_blocks)

-- all blocks of some first ranges are among those of the bytes
pub done_within : (count total : ℕ) (ranges : List Span) (i : ℕ) → AreApart count ranges → total ≡ size_of ranges → size_of (block_spans (take i ranges)) ≤ total / 512
done_within count total ranges i x is =
    let all = whole_size ranges x.whole in
    let spans = ap size_of (ap block_spans (sym (joined ranges i)) ∙ map-append span_of (take i ranges) (drop i ranges)) in
    let sums = sum_by-append (λ (s : Span). s.len) (block_spans (take i ranges)) (block_spans (drop i ranges)) in
    omega (arith, is, all, spans, sums)

-- with the next one they still are
pub next_done_within : (count total : ℕ) (ranges : List Span) (i : ℕ) (d : Span) → i < length ranges → AreApart count ranges → total ≡ size_of ranges → size_of (block_spans (take i ranges)) + (get_or ranges i d).len / 512 ≤ total / 512
next_done_within count total ranges i d below x is =
    let more = ap size_of (ap block_spans (take_more ranges i d below) ∙ map-append span_of (take i ranges) (get_or ranges i d ∷ [])) in
    let sums = sum_by-append (λ (s : Span). s.len) (block_spans (take i ranges)) (span_of (get_or ranges i d) ∷ []) in
    let one = sum_by-cons (λ (s : Span). s.len) (span_of (get_or ranges i d)) [] in
    let within = done_within count total ranges (i + 1) x is in
    omega (arith, more, sums, one, within)

-- so many changes are prepared for all of them
pub apart_count : (count total : ℕ) (ranges : List Span) (cs ds : List Change) → ds ≡ cs → AreApart count ranges → total ≡ size_of ranges → numbers_of cs ≡ numbers_in (block_spans ranges) → length ds ≡ total / 512
apart_count count total ranges cs ds same x is numbers =
    let len : length cs ≡ size_of (block_spans ranges) = sym (length-map cs (λ (c : Change). c.block)) ∙ ap length numbers ∙ length-numbers_in (block_spans ranges) in
    let first : length ds ≡ length cs = ap length same in
    let all = whole_size ranges x.whole in
    omega (arith, len, first, all, is)

-- which are some
pub apart_some : (ranges : List Span) → 0 < length ranges → list_any (λ (r : Span). r.len == 0 || not (r.len % 512 == 0)) ranges ≡ false → 0 < size_of ranges
apart_some [] some whole = absurd (omega arith)
apart_some (r ∷ rs) some whole =
    let full = eqb-false r.len 0 (or_parts (r.len == 0) (not (r.len % 512 == 0)) (or_parts (part r) (list_any (λ (s : Span). s.len == 0 || not (s.len % 512 == 0)) rs) whole).0).0 in
    let sums = sum_by-cons (λ (s : Span). s.len) r rs in
    omega (arith, full, sums)

-- Ranges that pass the first two tests: their blocks pass theirs.
spans_there : (count : ℕ) (ranges : List Span) → list_any (λ (r : Span). nat_lt count (r.start + blocks_touched r.len)) ranges ≡ false → list_any (λ (r : Span). r.len == 0 || not (r.len % 512 == 0)) ranges ≡ false → (list_any (λ (s : Span). nat_lt count (s.start + s.len)) (block_spans ranges) ≡ false) × (list_any (λ (s : Span). s.len == 0) (block_spans ranges) ≡ false)
spans_there count [] past whole = (refl, refl)
spans_there count (r ∷ rs) past whole =
    let pasts = or_parts (nat_lt count (r.start + blocks_touched r.len)) (list_any (λ (s : Span). nat_lt count (s.start + blocks_touched s.len)) rs) past in
    let parts = or_parts (part r) (list_any (λ (s : Span). s.len == 0 || not (s.len % 512 == 0)) rs) whole in
    let rest = spans_there count rs pasts.1 parts.1 in
    let at = ltb-false count (r.start + blocks_touched r.len) pasts.0 in
    let full = eqb-false r.len 0 (or_parts (r.len == 0) (not (r.len % 512 == 0)) parts.0).0 in
    let even = whole_from r parts.0 in (
      or_from (nat_lt count (r.start + r.len / 512)) (list_any (λ (s : Span). nat_lt count (s.start + s.len)) (block_spans rs)) (not_past (r.start + r.len / 512) (omega (arith, at))) rest.0,
      or_from (r.len / 512 == 0) (list_any (λ (s : Span). s.len == 0) (block_spans rs)) (ne_eqb (r.len / 512) 0 (λ e. full (omega (arith, e, even)))) rest.1,
    )
  where
    not_past : (n : ℕ) → n ≤ count → nat_lt count n ≡ false
    not_past n le = grind (arith, nat_tests)

-- and too many of them are over the limit
pub many_ranges : (T : Type 0) (count : ℕ) (ranges : List Span) → list_any (λ (r : Span). nat_lt count (r.start + blocks_touched r.len)) ranges ≡ false → list_any (λ (r : Span). r.len == 0 || not (r.len % 512 == 0)) ranges ≡ false → 8 < length ranges → Checks {T = T} (ranges_refusal count ranges) (Err fault.Limit)
many_ranges T count ranges past whole many =
    let there = spans_there count ranges past whole in
    let len : length (block_spans ranges) ≡ length ranges = length-map ranges span_of in
    found _ _ _ _ _ _ past whole there.0 there.1 (over (sum_by (λ (s : Span). s.len) (block_spans ranges)) (length (block_spans ranges)) (omega (arith, len, many)))
  where
    over : (a b : ℕ) → 8 < b → (nat_lt 64 a || nat_lt 8 b) ≡ true
    over a b h = grind (arith, nat_tests)

    found : (a b c d e f : Bool) → a ≡ false → b ≡ false → c ≡ false → d ≡ false → e ≡ true → Checks {T = T} (first_there (where_ a Range) (first_there (where_ b Length) (first_there (first_there (where_ c Range) (where_ d Length)) (first_there (where_ e Limit) (where_ f Overlap))))) (Err fault.Limit)
    found false false false false true f p q r s t = refl
    found true b c d e f p q r s t = absurd (false≢true (sym p))
    found false true c d e f p q r s t = absurd (false≢true (sym q))
    found false false true d e f p q r s t = absurd (false≢true (sym r))
    found false false false true e f p q r s t = absurd (false≢true (sym s))
    found false false false false false f p q r s t = absurd (false≢true t)
