-- How many pages are there once a command changed some.
use Rattle.std.proofs.Common.{◌≡◌, ℕ, ◌+◌, ◌-◌, ◌*◌, ◌/◌, ◌<◌, ◌≤◌, Bool, true, false, cond, ◌||◌, List, ◌++◌, length, nat_lt, replicate, slice_index_or, take, refl, ap, ◌∙◌, arith}
use Rattle.std.proofs.lemmas.Bool.{and_parts}
use Rattle.std.proofs.lemmas.Bool.Decides.{nat_tests}
use Rattle.nvm_base.specs.Units.{units_of}
use Rattle.nvm_base.specs.declared.units.Span.{Span}
use Rattle.nvm_model.specs.Cell.{Cell}
use Rattle.nvm_model.specs.Numbered.{is_among}
use Rattle.nvm_model.specs.Page.{Page, absent_touched, change_line, discard, discard_page, fill, is_present, presence_of, put, touches_page}
use Rattle.nvm_model.specs.Page.Page.{Absent, Present}
use Rattle.nvm_model.specs.Touched.{persist_spans}
use Rattle.nvm_model.proofs.FillLemmas.{presence_of-fill}
use Rattle.nvm_model.proofs.MediaLemmas.{presence_of-change}
use Rattle.nvm_model.proofs.PageLemmas.{presence_of-map, presence_of-put}
use Rattle.nvm_model.proofs.ResizeLemmas.{presence_of-resized}
use Rattle.nvm_model.proofs.SeveralLemmas.{presence_of-spans}
use Rattle.file_actions.specs.Refusals.{holes_touched}
use Rattle.file_actions.specs.Rewriting.{rewritten, rewritten_page, touches_any_page}
use Rattle.outcome_runs.proofs.CountLemmas.{gaps, gaps_among, gaps_counted, marked, marked_filled, marked_kept, marked_resized, used}

touched_among : (start len i : ℕ) → 1 ≤ len → touches_page start len i ≡ true → (start / 4096 ≤ i) × (i < start / 4096 + ((start + len - 1) / 4096 + 1 - start / 4096))
touched_among start len i some is =
    let parts = and_parts (nat_lt start (4096 * i + 4096)) (nat_lt (4096 * i) (start + len)) is in
    let low : start < 4096 * i + 4096 = grind (arith, nat_tests) in
    let high : 4096 * i < start + len = grind (arith, nat_tests) in
    (omega (arith, low), omega (arith, low, high, some))

pub used_fill : (start len : ℕ) (pages : List Page) → used (fill start len pages) ≡ used pages + gaps (touches_page start len) 0 (presence_of pages)
used_fill start len pages = ap marked (presence_of-fill start len pages) ∙ marked_filled (touches_page start len) 0 (presence_of pages)

pub used_stored : (at : ℕ) (bytes : List ℕ) (pages : List Page) → 1 ≤ length bytes
    → used (put at bytes (fill at (length bytes) pages)) ≤ used pages + absent_touched at (length bytes) (presence_of pages)
used_stored at bytes pages some =
    let span : Span = units_of 4096 (record { start = at; len = length bytes }) in
    let same : used (put at bytes (fill at (length bytes) pages)) ≡ used (fill at (length bytes) pages) = ap marked (presence_of-put at bytes (fill at (length bytes) pages)) in
    let few = gaps_among (touches_page at (length bytes)) (presence_of pages) span.start span.len (λ i is. touched_among at (length bytes) i some is) in
    omega (arith, same, few, used_fill at (length bytes) pages)

pub used_spans : (spans : List Span) (pages : List Page) → used (persist_spans spans pages) ≡ used pages
used_spans spans pages = ap marked (presence_of-spans spans pages)

pub used_change : (f : Cell → Cell) (n : ℕ) (pages : List Page) → used (change_line f n pages) ≡ used pages
used_change f n pages = ap marked (presence_of-change f n pages)

pub used_discard : (first count : ℕ) (pages : List Page) → used (discard first count pages) ≤ used pages
unfolding discard
used_discard first count pages =
    let there = presence_of-map (discard_page first count) (λ i was. cond (is_among first count i) false was) 0 pages (λ i page. by_test page (is_among first count i)) in
    let few = marked_kept (λ i was. cond (is_among first count i) false was) 0 (presence_of pages) (λ i was. kept was (is_among first count i)) in
    omega (arith, ap marked there, few)
  where
    by_test : (page : Page) (b : Bool) → is_present (cond b Absent page) ≡ cond b false (is_present page)
    by_test page true = refl
    by_test page false = refl

    kept : (was b : Bool) → cond b false was ≡ true → was ≡ true
    kept was true is = cc is
    kept was false is = is

pub used_resized : (n : ℕ) (pages : List Page) → used (take n pages ++ replicate (n - length pages) Absent) ≤ used pages
used_resized n pages = omega (arith, ap marked (presence_of-resized n pages), marked_resized n (n - length (presence_of pages)) (presence_of pages))

pub used_rewritten : (ranges : List Span) (bytes : List ℕ) (pages : List Page) → used (rewritten ranges bytes pages) ≡ used pages + holes_touched ranges (presence_of pages)
unfolding rewritten
used_rewritten ranges bytes pages =
    ap marked (presence_of-map (rewritten_page ranges bytes pages) (λ i was. was || touches_any_page ranges i) 0 pages (λ i page. by_test page (touches_any_page ranges i) _))
    ∙ marked_filled (touches_any_page ranges) 0 (presence_of pages)
    ∙ ap (λ n. used pages + n) (gaps_counted (touches_any_page ranges) (presence_of pages) 0 (presence_of pages) (λ k. let at : 0 + k ≡ k = omega arith in ap (λ i. slice_index_or (presence_of pages) i true) at))
  where
    by_test : (page : Page) (b : Bool) (cells : List Cell) → is_present (cond b (Present cells) page) ≡ is_present page || b
    by_test page true cells = by_page (is_present page)
      where
        by_page : (b : Bool) → true ≡ b || true
        by_page true = refl
        by_page false = refl
    by_test page false cells = by_page (is_present page)
      where
        by_page : (b : Bool) → b ≡ b || false
        by_page true = refl
        by_page false = refl
