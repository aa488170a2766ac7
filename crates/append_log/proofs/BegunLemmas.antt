-- An append that passed its tests, and whose record is written: what its calls are refused for, and what they leave.
use Rattle.std.proofs.Common.{◌≡◌, inl, inr, ℕ, zero, suc, ◌+◌, ◌*◌, ◌/◌, ◌<◌, true, Option, Some, None, option_map, Ok, Err, List, length, get_or, slice_get, refl, sym, ap, subst, ◌∙◌, arith}
use Rattle.std.proofs.lemmas.Option.{none-some, same_Some}
use Rattle.line_device.specs.Medium.{Medium}
use Rattle.line_device.specs.Word.{word_from}
use Rattle.line_device.proofs.WordLemmas.{word_from-cong}
use Rattle.line_words.specs.Told.{Answers, Checks}
use Rattle.line_words.proofs.ToldLemmas.{checks_passed}
use Rattle.word_tables.specs.Layout.{volume_line}
use Rattle.nvm_model.specs.Cell.{Cell}
use Rattle.nvm_model.specs.Page.{Page, cell_of, fill, presence_of}
use Rattle.nvm_model.proofs.PageLemmas.{page_of_line}
use Rattle.pm_volume.specs.Images.{EachReadsPages}
use Rattle.pm_volume.specs.Object.{VolumeHolds, VolumeState}
use Rattle.pm_volume.specs.Refusals.{volume_says}
use Rattle.pm_volume.specs.declared.fault.VolumeFault.{VolumeFault}
use Rattle.pm_volume.proofs.StandingLemmas.{each_pages-then}
use Rattle.append_log.specs.declared.fault.LogFault.{LogFault}
use Rattle.append_log.specs.declared.fault.LogFault.TheVariants.{Volume}
use Rattle.pm_volume.specs.Left.{EachLeft, IsKeptLine, IsSoundLine}
use Rattle.pm_volume.specs.Line.{line_bytes}
use Rattle.append_log.specs.Lines.{count_in, record_of}
use Rattle.append_log.specs.Log.{HoldsLog, LogServes, LogStands, LogState}
use Rattle.append_log.specs.Refusals.{append_refusal, check_refusal, log_says, write_refusal}
use Rattle.append_log.specs.Refusals.LogRefusal.{OfVolume}
use Rattle.pm_volume.specs.Line.{MayWrite, written_line}
use Rattle.append_log.proofs.AppendLemmas.{record-left}
use Rattle.append_log.proofs.CallLemmas.{answers-passed, answers-second, first-written}
use Rattle.append_log.proofs.CheckLemmas.{marks-none}
use Rattle.pm_volume.proofs.HoldsLemmas.{holds-sound, length-holds}
use Rattle.pm_volume.proofs.LeftLemmas.{has_words}
use Rattle.pm_volume.proofs.LineLemmas.{IsStrong, fill-strong, get-line_bytes, stored-strong, written-is}
use Rattle.append_log.proofs.LogLemmas.{log-counted}
use Rattle.pm_volume.proofs.HoldsLemmas.{shown-hold, shown_pages}
use Rattle.pm_volume.proofs.WriteLemmas.{written-keeps}

-- the tests went well
pub record IsTested (s : LogState) (m : Medium) (bytes : List ℕ) : Type 0 where
  pub serves : LogServes s m
  pub room : s.len + 1 < 64 * s.volume.geo.vpages
  pub checks : (pages : List Page) → VolumeHolds s.volume m pages → Checks {T = Unit {0}} {E = LogFault} log_says (check_refusal s pages (length bytes)) (Ok tt)

-- and the record's line is written
pub record IsRecorded (s : LogState) (v : VolumeState) (m new : Medium) (bytes line : List ℕ) : Type 0 where
  pub tested : IsTested s m bytes
  pub parsed : record_of line ≡ Some bytes
  pub whole : length line ≡ 64
  pub small : (k : ℕ) → get_or line k 0 < 256
  pub geo : v.geo ≡ s.volume.geo
  pub held : (pages : List Page) → VolumeHolds s.volume m pages → VolumeHolds v new (written_line (s.len + 1) line pages)

no-count : count_in None ≡ Some 0
unfolding word_from
no-count = ap Some (word_from-cong (λ k. get_or (line_bytes None) (8 * 0 + k) 0) (λ k. 0) (λ k lt. get-line_bytes None (8 * 0 + k) (omega arith)))

module _ (s : LogState) (m : Medium) (bytes : List ℕ) (tested : IsTested s m bytes) where
  passed : (pages : List Page) → VolumeHolds s.volume m pages → check_refusal s pages (length bytes) ≡ None
  passed pages holds = checks_passed log_says (check_refusal s pages (length bytes)) tt (tested.checks pages holds)

  pub first-sound : (pages : List Page) → VolumeHolds s.volume m pages → IsSoundLine (cell_of pages 0)
  first-sound pages holds = (marks-none s pages (length bytes) (passed pages holds)).0

  pub record-sound : (pages : List Page) → VolumeHolds s.volume m pages → IsSoundLine (cell_of pages (s.len + 1))
  record-sound pages holds = (marks-none s pages (length bytes) (passed pages holds)).1

  pub record-refused : (S T : Type 0) (f : VolumeFault) → Answers {T = S} volume_says (write_refusal s.volume m (s.len + 1)) (Err f)
      → (pages : List Page) → VolumeHolds s.volume m pages → Answers {T = T} log_says (append_refusal s m pages (length bytes)) (Err (Volume f))
  record-refused S T f h pages holds = answers-second _ _ (Err (Volume f)) (passed pages holds) (answers-passed S T (write_refusal s.volume m (s.len + 1)) f h)

  pub log-length : (log : List (Option (List ℕ))) → HoldsLog s m log → s.len ≡ length log
  log-length log holds = same_Some _ _ (sym (tested.serves.counts holds.pages holds.holds) ∙ (log-counted holds.pages log holds.stands.reads).count)

  pub record-images : (log : List (Option (List ℕ))) (new : Medium) (line : List ℕ) (P : List Page → Type 0) → length line ≡ 64
      → ((pages : List Page) → VolumeHolds s.volume m pages → EachReadsPages s.volume.geo new (MayWrite (s.len + 1) line pages))
      → ((left : List Page) → LogStands left log → P left) → HoldsLog s m log → EachLeft 8 s.volume.geo new P
  record-images log new line P whole each next holds =
      each_pages-then s.volume.geo new _ _
      (λ after may left leaves.
      next left
      (record-left (volume_line s.volume.geo) m holds.pages log holds.holds.stand holds.stands line whole after left
      (subst (λ n. MayWrite (n + 1) line holds.pages after) (log-length log holds) may) leaves))
      (each holds.pages holds.holds)

module _ (s : LogState) (v : VolumeState) (m new : Medium) (bytes line : List ℕ) (is : IsRecorded s v m new bytes line) where
  apart : s.len + 1 ≡ 0 → ⊥
  apart zero_line = absurd (omega (arith, zero_line))

  kept : (pages : List Page) → VolumeHolds s.volume m pages → IsKeptLine (cell_of pages 0) (cell_of (written_line (s.len + 1) line pages) 0)
  kept pages holds =
      written-keeps (s.len + 1) line is.whole pages 0 (λ same. apart (sym same)) (has_words (volume_line s.volume.geo) m pages holds.stand 0)

  below : (pages : List Page) → VolumeHolds s.volume m pages → s.len + 1 < 64 * length pages
  below pages holds = omega (arith, is.tested.room, length-holds s.volume m pages holds, is.tested.serves.volume.all)

  pub strong : (pages : List Page) → VolumeHolds s.volume m pages → IsStrong (fill (64 * (s.len + 1)) 64 pages) (s.len + 1)
  strong pages holds =
      fill-strong (volume_line s.volume.geo) m pages (s.len + 1) holds.stand (below pages holds) (record-sound s m bytes is.tested pages holds)

  sound-kept : (old after : Option Cell) → IsKeptLine old after → IsSoundLine old → IsSoundLine after
  sound-kept old after (inl same) sound = subst IsSoundLine (sym same) sound
  sound-kept old after (inr filled) sound = subst IsSoundLine (sym filled.1) tt

  pub count-sound : (pages : List Page) → VolumeHolds v new pages → IsSoundLine (cell_of pages 0)
  count-sound pages holds =
      let shown = shown_pages s.volume m in
      let before = shown-hold s.volume m in
      holds-sound v new (written_line (s.len + 1) line shown) pages (is.held shown before) holds 0
      (sound-kept _ _ (kept shown before) (first-sound s m bytes is.tested shown before))

  first_there_is : slice_get v.present 0 ≡ Some true
  first_there_is =
      let shown = shown_pages s.volume m in
      let before = shown-hold s.volume m in
      ap (λ ps. slice_get ps 0) (sym (is.held shown before).there) ∙ by_len shown before s.len refl
    where
      by_cell : (pages : List Page) (n : ℕ) (o : Option Cell) → cell_of pages 0 ≡ o → count_in o ≡ Some (suc n) → (cell : Cell) × (cell_of pages 0 ≡ Some cell)
      by_cell pages n None at counts = let no : 0 ≡ suc n = same_Some _ _ (sym no-count ∙ counts) in absurd (omega (arith, no))
      by_cell pages n (Some cell) at counts = (cell, at)

      by_kept : (old after : Option Cell) (cell : Cell) → IsKeptLine old after → old ≡ Some cell → after ≡ Some cell
      by_kept old after cell (inl same) at = same ∙ at
      by_kept old after cell (inr filled) at = absurd (none-some cell (sym filled.0 ∙ at))

      by_len : (pages : List Page) → VolumeHolds s.volume m pages → (n : ℕ) → s.len ≡ n → slice_get (presence_of (written_line (s.len + 1) line pages)) 0 ≡ Some true
      by_len pages holds zero none =
          let after = written-is pages (s.len + 1) line (stored-strong pages (s.len + 1) line (strong pages holds)) in
          let page : (s.len + 1) / 64 ≡ 0 = omega (arith, none) in
          ap (slice_get (presence_of (written_line (s.len + 1) line pages))) (sym page) ∙ page_of_line (written_line (s.len + 1) line pages) (s.len + 1) _ after
      by_len pages holds (suc n) some =
          let old = by_cell pages n (cell_of pages 0) refl (is.tested.serves.counts pages holds ∙ ap Some some) in
          page_of_line (written_line (s.len + 1) line pages) 0 old.0 (by_kept _ _ old.0 (kept pages holds) old.1)

  -- so the count's line is never refused
  pub count-unrefused : write_refusal v new 0 ≡ None
  count-unrefused = first-written v new first_there_is

  pub count-refused : (S T : Type 0) (f : VolumeFault) → write_refusal s.volume m (s.len + 1) ≡ None → Answers {T = S} volume_says (write_refusal v new 0) (Err f)
      → (pages : List Page) → VolumeHolds s.volume m pages → Answers {T = T} log_says (append_refusal s m pages (length bytes)) (Err (Volume f))
  count-refused S T f none h pages holds =
      answers-second _ _ (Err (Volume f)) (passed s m bytes is.tested pages holds)
      (subst (λ why. Answers {T = T} log_says (option_map OfVolume why) (Err (Volume f))) (count-unrefused ∙ sym none) (answers-passed S T (write_refusal v new 0) f h))

  pub append-done : (T : Type 0) (x : T) → write_refusal s.volume m (s.len + 1) ≡ None
      → (pages : List Page) → VolumeHolds s.volume m pages → Answers {T = T} {E = LogFault} log_says (append_refusal s m pages (length bytes)) (Ok x)
  append-done T x none pages holds =
      answers-second _ _ (Ok x) (passed s m bytes is.tested pages holds) (subst (λ why. Answers {T = T} {E = LogFault} log_says (option_map OfVolume why) (Ok x)) (sym none) tt)
