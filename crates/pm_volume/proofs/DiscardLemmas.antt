-- Pages that become absent.
use Rattle.std.proofs.Common.{◌≡◌, ◌⊎◌, inl, inr, ℕ, suc, ◌+◌, ◌-◌, ◌*◌, ◌<◌, ◌≤◌, ◌||◌, [], ◌∷◌, ap₂, arith, Bool, true, false, Option, Some, None, option_map, List, Result, Ok, length, slice_get, if◌then◌else◌, refl, sym, ap, subst, ◌∙◌}
use Rattle.std.proofs.lemmas.Bool.{cases_lt}
use Rattle.nvm_base.specs.declared.units.Span.{Span}
use Rattle.line_device.specs.Device.{Device}
use Rattle.line_device.specs.Medium.{Medium}
use Rattle.line_device.proofs.PanelLemmas.{runs_then, runs_within}
use Rattle.line_words.specs.declared.interruption.Interruption.{Interruption}
use Rattle.line_words.specs.Words.{WritesBackOutside}
use Rattle.word_tables.specs.declared.geometry.Geometry.{Geometry}
use Rattle.word_tables.specs.Layout.{meta_lines, volume_line}
use Rattle.word_log.specs.Area.{IsOf}
use Rattle.word_log.specs.Replay.{Replays}
use Rattle.word_log.specs.Held.{EachReplays, IsEither}
use Rattle.word_log.specs.Changes.{commit_calls, commit_persists}
use Rattle.nvm_model.specs.Cell.{Cell}
use Rattle.nvm_model.specs.Numbered.{AreMixed, is_among, map_from}
use Rattle.nvm_model.specs.Page.{Page, PagesStand, discard, discard_page, presence_of}
use Rattle.nvm_model.specs.Page.Page.{Absent, Present}
use Rattle.nvm_model.proofs.NumberedLemmas.{slice_get-map_from}
use Rattle.nvm_model.proofs.PageLemmas.{cell_of-discard, length-discard}
use Rattle.page_lines.specs.Turns.{WritesBackOthers}
use Rattle.page_lines.proofs.OthersLemmas.{others-trans}
use Rattle.pm_volume.specs.Area.{IsOfVolume, volume_area}
use Rattle.pm_volume.specs.Calls.{Switches, Works}
use Rattle.pm_volume.proofs.MarkLemmas.{marks-outside, marks-trans}
use Rattle.std.proofs.lemmas.Result.{on_ok_weaker}
use Rattle.pm_volume.proofs.ResultLemmas.{on_ok-is}
use Rattle.pm_volume.proofs.ServesLemmas.{others-outside, serves-same}
use Rattle.pm_volume.specs.Images.{EachReadsPages, ReadsPages}
use Rattle.pm_volume.specs.Object.{KeepsMarks, VolumeHolds, VolumeServes, VolumeState}
use Rattle.pm_volume.specs.Presence.{presence_words, switched}
use Rattle.pm_volume.proofs.FillLemmas.{holds-others, others-meta, there_not_meta}
use Rattle.pm_volume.proofs.PresenceLemmas.{discarded_presence}
use Rattle.nvm_model.proofs.TouchedPageLemmas.{among_bounds, among_from, not_among, same_tests}
use Rattle.pm_volume.proofs.TurnLemmas.{length-pages}

-- lines that are left stand on
pub discarded-stand : (place : ℕ → ℕ) (m : Medium) (first count : ℕ) (pages : List Page) → PagesStand place m pages → PagesStand place m (discard first count pages)
unfolding discard
discarded-stand place m first count pages stand = record {
  whole = whole;
  lines = λ n cell is. stand.lines n cell (cell_of-discard first count pages n cell is);
}
  where
    whole : (i : ℕ) (cells : List Cell) → slice_get (discard first count pages) i ≡ Some (Present cells) → length cells ≡ 64
    whole i cells is = by_page (slice_get pages i) refl (sym (slice_get-map_from (discard_page first count) 0 pages i) ∙ is)
      where
        by_page : (o : Option Page) → slice_get pages i ≡ o → option_map (discard_page first count (0 + i)) o ≡ Some (Present cells) → length cells ≡ 64
        by_page None was is = cc
        by_page (Some page) was is = by_test (is_among first count (0 + i)) is
          where
            by_test : (t : Bool) → Some (if t then Absent else page) ≡ Some (Present cells) → length cells ≡ 64
            by_test true is = cc
            by_test false is = stand.whole i cells (was ∙ is)

module _ (s : VolumeState) (old new : Medium) (serves : VolumeServes s old) (x : WritesBackOutside (IsOf (volume_area s.geo)) old new) (first count : ℕ) where
  -- a commit leaves the lines of pages alone
  pub committed-holds : (pages : List Page) → VolumeHolds s old pages → VolumeHolds s new pages
  committed-holds pages holds = holds-others s old new (λ n. n < meta_lines s.geo) (there_not_meta s old serves) (others-meta s.geo old new serves.valid x) pages holds

  pub discarded-there : (pages : List Page) → VolumeHolds s old pages → presence_of (discard first count pages) ≡ switched first count false s.present
  discarded-there pages holds = discarded_presence first count pages ∙ ap (switched first count false) holds.there

  pub discarded-holds : (t : VolumeState) → t.geo ≡ s.geo → t.present ≡ switched first count false s.present → (pages : List Page) → VolumeHolds s old pages → VolumeHolds t new (discard first count pages)
  discarded-holds t geo there pages holds = record {
    there = discarded-there pages holds ∙ sym there;
    stand = subst (λ (g : Geometry). PagesStand (volume_line g) new (discard first count pages)) (sym geo) (discarded-stand (volume_line s.geo) new first count pages (committed-holds pages holds).stand);
  }

  -- each image has the pages as they were, or without those
  pub discarded-images : EachReplays (volume_area s.geo) new (presence_words s.geo s.present) (presence_words s.geo (switched first count false s.present)) → (P : List Page → Type 0) (pages : List Page) → VolumeHolds s old pages → P pages → P (discard first count pages) → EachReadsPages s.geo new P
  discarded-images images P pages holds kept gone image at =
      let long = length-pages s old pages holds ∙ serves.all in
      elim (images image at) as (λ _. ReadsPages s.geo new P image) [
        | inl was ↦ record {
          pages = pages;
          is = kept;
          all = long;
          replays = subst (λ (there : List Bool). Replays (volume_area s.geo) image (presence_words s.geo there)) (sym holds.there) was;
          stand = (committed-holds pages holds).stand;
        }
        | inr now ↦ record {
          pages = discard first count pages;
          is = gone;
          all = length-discard first count pages ∙ long;
          replays = subst (λ (there : List Bool). Replays (volume_area s.geo) image (presence_words s.geo there)) (sym (discarded-there pages holds)) now;
          stand = discarded-stand (volume_line s.geo) new first count pages (committed-holds pages holds).stand;
        }
      ]

-- pages discarded one after the other
one_test : (a b c : Bool) (page : Page) → (a || b) ≡ c → (if b then Absent else (if a then Absent else page)) ≡ (if c then Absent else page)
one_test true true c page is = ap (λ t. if t then Absent else page) is
one_test true false c page is = ap (λ t. if t then Absent else page) is
one_test false true c page is = ap (λ t. if t then Absent else page) is
one_test false false c page is = ap (λ t. if t then Absent else page) is

pub among_more : (first k i : ℕ) → (is_among first k i || is_among (first + k) 1 i) ≡ is_among first (k + 1) i
among_more first k i =
    same_tests (is_among first k i || is_among (first + k) 1 i) (is_among first (k + 1) i)
    (λ is.
    elim (or_cases (is_among first k i) (is_among (first + k) 1 i) is) as (λ _. is_among first (k + 1) i ≡ true) [
      | inl here ↦ let b = among_bounds first k i here in among_from first (k + 1) i b.0 (omega (arith, b.1))
      | inr last ↦ let b = among_bounds (first + k) 1 i last in among_from first (k + 1) i (omega (arith, b.0)) (omega (arith, b.1))
    ])
    (λ is.
    let b = among_bounds first (k + 1) i is in
    elim (cases_lt i (first + k)) as (λ _. (is_among first k i || is_among (first + k) 1 i) ≡ true) [
      | inl here ↦ ap (λ t. t || is_among (first + k) 1 i) (among_from first k i b.0 here)
      | inr last ↦ or_right (is_among first k i) (is_among (first + k) 1 i) (among_from (first + k) 1 i last (omega (arith, b.1)))
    ])
  where
    or_cases : (a b : Bool) → (a || b) ≡ true → (a ≡ true) ⊎ (b ≡ true)
    or_cases true b is = inl refl
    or_cases false b is = inr is

    or_right : (a b : Bool) → b ≡ true → (a || b) ≡ true
    or_right true b is = refl
    or_right false b is = is

pub discarded-more : (first k : ℕ) (pages : List Page) → discard (first + k) 1 (discard first k pages) ≡ discard first (k + 1) pages
unfolding discard
discarded-more first k pages = from 0 pages
  where
    from : (n : ℕ) (pages : List Page) → map_from (discard_page (first + k) 1) n (map_from (discard_page first k) n pages) ≡ map_from (discard_page first (k + 1)) n pages
    from n [] = refl
    from n (page ∷ pages) = ap₂ ◌∷◌ (one_test (is_among first k n) (is_among (first + k) 1 n) (is_among first (k + 1) n) page (among_more first k n)) (from (suc n) pages)

pub discarded-none : (first : ℕ) (pages : List Page) → discard first 0 pages ≡ pages
unfolding discard
discarded-none first pages = from 0 pages
  where
    from : (n : ℕ) (pages : List Page) → map_from (discard_page first 0) n pages ≡ pages
    from n [] = refl
    from n (page ∷ pages) = ap₂ ◌∷◌ (ap (λ t. if t then Absent else page) (not_among first 0 n (λ a b. absurd (omega arith)))) (from (suc n) pages)

-- some of them discarded: each page is as before, or absent
pub discarded-some : (first k count : ℕ) (pages : List Page) → k ≤ count → AreMixed Page pages (discard first count pages) (discard first k pages)
unfolding discard
discarded-some first k count pages few = record {
  length = length-discard first k pages;
  each = each;
}
  where
    by_tests : (a b : Bool) (o : Option Page) → (a ≡ true → b ≡ true) → (option_map (λ page. if a then Absent else page) o ≡ o) ⊎ (option_map (λ page. if a then Absent else page) o ≡ option_map (λ page. if b then Absent else page) o)
    by_tests false b None more = inl refl
    by_tests false b (Some page) more = inl refl
    by_tests true true o more = inr refl
    by_tests true false o more = absurd (not_both (more refl))
      where
        not_both : false ≡ true → ⊥
        not_both is = cc

    each : (i : ℕ) → (slice_get (discard first k pages) i ≡ slice_get pages i) ⊎ (slice_get (discard first k pages) i ≡ slice_get (discard first count pages) i)
    each i =
        let one = slice_get-map_from (discard_page first k) 0 pages i in
        let all = slice_get-map_from (discard_page first count) 0 pages i in
        elim (by_tests (is_among first k (0 + i)) (is_among first count (0 + i)) (slice_get pages i) (λ is. let b = among_bounds first k (0 + i) is in among_from first count (0 + i) b.0 (omega (arith, b.1, few)))) as (λ _. (slice_get (discard first k pages) i ≡ slice_get pages i) ⊎ (slice_get (discard first k pages) i ≡ slice_get (discard first count pages) i)) [
          | inl same ↦ inl (one ∙ same)
          | inr gone ↦ inr (one ∙ gone ∙ sym all)
        ]

pub discarded-next : (first page : ℕ) (pages : List Page) → first ≤ page → discard page 1 (discard first (page - first) pages) ≡ discard first (page + 1 - first) pages
discarded-next first page pages from =
    let at : page ≡ first + (page - first) = omega (arith, from) in
    let next : page - first + 1 ≡ page + 1 - first = omega (arith, from) in
    ap (λ n. discard n 1 (discard first (page - first) pages)) at ∙ discarded-more first (page - first) pages ∙ ap (λ n. discard first n pages) next

-- a switch of pages to absent
pub switch-discards : (v s t : VolumeState) (old new : Device) (r : Result (Unit {0}) Interruption) (pages : Span) → v ≡ s → VolumeServes s old.medium → Switches (record v { settled = false }) t old new r pages false
    → Works (record v { settled = false }) t old new r (discard pages.start pages.len) (λ before. IsEither before (discard pages.start pages.len before)) (commit_calls pages.len) (commit_persists pages.len)
switch-discards v s t old new r pages seen serves x =
    let served = subst (λ (w : VolumeState). VolumeServes (record w { settled = false }) old.medium) (sym seen) (serves-same s _ old.medium refl refl serves) in
    record {
      ok = on_ok_weaker r (λ there before holds. discarded-holds _ old.medium new.medium served x.outside pages.start pages.len t x.object.0 there before holds) x.ok;
      images = λ before holds. discarded-images _ old.medium new.medium served x.outside pages.start pages.len x.images (IsEither before (discard pages.start pages.len before)) before holds (inl refl) (inr refl);
      outside = others-outside v.geo old.medium new.medium served.valid x.outside;
      metadata = marks-outside v.geo (IsOf (volume_area v.geo)) old.medium new.medium x.outside;
      serves = x.serves;
      object = (x.object.0, x.object.1, on_ok-is r t.quiet x.object.2);
      runs = x.runs;
    }

-- Pages from `first` on up to this one are absent, of so many.
abbrev pub DiscardsUpTo : VolumeState → VolumeState → Device → Device → Result (Unit {0}) Interruption → ℕ → ℕ → ℕ → Type 0
DiscardsUpTo s t old new r first count page =
    Works s t old new r (discard first (page - first)) (λ before. AreMixed Page before (discard first count before)) (11 * (page - first)) (5 * (page - first))

pub discards-next : (s m t : VolumeState) (old mid new : Device) (r : Result (Unit {0}) Interruption) (first count page : ℕ) → first ≤ page → page < first + count → DiscardsUpTo s m old mid (Ok tt) first count page
    → Switches m t mid new r (record { start = page; len = 1 }) false → DiscardsUpTo s t old new r first count (page + 1)
discards-next s m t old mid new r first count page from below done next =
    let few : page - first ≤ count = omega (arith, from, below) in
    let more : page + 1 - first ≤ count = omega (arith, from, below) in
    let calls : 11 * (page - first) + 11 ≤ 11 * (page + 1 - first) = omega (arith, from) in
    let persists : 5 * (page - first) + 5 ≤ 5 * (page + 1 - first) = omega (arith, from) in
    record {
      ok = on_ok_weaker r
          (λ there before holds.
          subst (VolumeHolds t new.medium) (discarded-next first page before from)
          (discarded-holds m mid.medium new.medium done.serves next.outside page 1 t next.object.0 there (discard first (page - first) before) (done.ok before holds)))
          next.ok;
      images = λ before holds.
          subst (λ (geo : Geometry). EachReadsPages geo new.medium (AreMixed Page before (discard first count before))) done.object.0
          (discarded-images m mid.medium new.medium done.serves next.outside page 1 next.images (AreMixed Page before (discard first count before)) (discard first (page - first) before) (done.ok before holds)
          (discarded-some first (page - first) count before few)
          (subst (AreMixed Page before (discard first count before)) (sym (discarded-next first page before from)) (discarded-some first (page + 1 - first) count before more)));
      outside = others-trans (IsOfVolume s.geo) old.medium mid.medium new.medium done.outside
          (subst (λ (geo : Geometry). WritesBackOthers (IsOfVolume geo) mid.medium new.medium) done.object.0 (others-outside m.geo mid.medium new.medium done.serves.valid next.outside));
      metadata = marks-trans s.geo old.medium mid.medium new.medium done.metadata
          (subst (λ (geo : Geometry). KeepsMarks geo mid.medium new.medium) done.object.0 (marks-outside m.geo (IsOf (volume_area m.geo)) mid.medium new.medium next.outside));
      serves = next.serves;
      object = (next.object.0 ∙ done.object.0, next.object.1 ∙ done.object.1, on_ok-is r t.quiet next.object.2);
      runs = runs_within _ _ _ _ _ _ _ (runs_then _ _ 11 5 _ _ _ _ done.runs next.runs) calls persists;
    }
