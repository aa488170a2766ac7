-- An append whose record is written, as line 0 counts it.
use Rattle.std.proofs.Common.{◌≡◌, ◌⊎◌, ℕ, ◌+◌, ◌*◌, ◌<◌, Option, Some, option_map, option_and_then, List, [], ◌∷◌, ◌++◌, length, get_or, sym, ap, subst, ◌∙◌, arith}
use Rattle.line_device.specs.Medium.{Medium}
use Rattle.line_device.specs.Word.{word_at}
use Rattle.word_tables.specs.declared.geometry.Geometry.{Geometry}
use Rattle.word_tables.specs.Layout.{volume_line}
use Rattle.nvm_model.specs.Page.{Page, cell_of, fill}
use Rattle.pm_volume.specs.Images.{EachReadsPages}
use Rattle.pm_volume.specs.Object.{VolumeHolds, VolumeServes, VolumeState}
use Rattle.pm_volume.proofs.StandingLemmas.{each_pages-then}
use Rattle.pm_volume.specs.Left.{EachLeft, IsDurable}
use Rattle.append_log.specs.Lines.{entry_in, record_of}
use Rattle.append_log.specs.Log.{HoldsLog, LogServes, LogStands, LogState}
use Rattle.pm_volume.specs.Line.{MayWrite, written_line}
use Rattle.append_log.proofs.AppendLemmas.{count-left, count-written, record-written}
use Rattle.append_log.proofs.BegunLemmas.{IsRecorded, count-sound, log-length, strong}
use Rattle.pm_volume.proofs.HoldsLemmas.{holds-read, length-holds}
use Rattle.pm_volume.proofs.LineLemmas.{IsStrong, fill-strong, stored-strong, written-durable, written-reads}
use Rattle.pm_volume.proofs.HoldsLemmas.{shown-hold, shown_pages}
use Rattle.pm_volume.proofs.WriteLemmas.{length-written}

module _ (s : LogState) (v : VolumeState) (m new : Medium) (bytes line : List ℕ) (is : IsRecorded s v m new bytes line)
    (count : List ℕ) (whole : length count ≡ 64) (small : (k : ℕ) → get_or count k 0 < 256) (counts : word_at count 0 ≡ s.len + 1) where
  abbrev recorded : List Page → List Page
  recorded pages = written_line (s.len + 1) line pages

  room : (pages : List Page) → VolumeHolds s.volume m pages → s.len + 1 < 64 * length (recorded pages)
  room pages holds = omega (arith, is.tested.room, length-written (s.len + 1) line pages, length-holds s.volume m pages holds, is.tested.serves.volume.all)

  count-strong : (pages : List Page) → VolumeHolds s.volume m pages → IsStrong (fill (64 * 0) 64 (recorded pages)) 0
  count-strong pages holds =
      let held = is.held pages holds in
      fill-strong (volume_line v.geo) new (recorded pages) 0 held.stand (omega (arith, room pages holds)) (count-sound s v m new bytes line is (recorded pages) held)

  module _ (log : List (Option (List ℕ))) (holds : HoldsLog s m log) where
    same : s.len ≡ length log
    same = log-length s m bytes is.tested log holds

    next : s.len + 1 ≡ 1 + length log
    next = omega (arith, same)

    stands : LogStands (recorded holds.pages) log
    stands =
        subst (λ n. LogStands (written_line (n + 1) line holds.pages) log) (sym same)
        (record-written (volume_line s.volume.geo) m holds.pages log holds.holds.stand holds.stands line is.whole)

    lasts : IsDurable (cell_of (recorded holds.pages) (1 + length log))
    lasts =
        subst (λ n. IsDurable (cell_of (recorded holds.pages) n)) next
        (written-durable holds.pages (s.len + 1) line (stored-strong holds.pages (s.len + 1) line (strong s v m new bytes line is holds.pages holds.holds)))

    entry : entry_in (cell_of (recorded holds.pages) (1 + length log)) ≡ Some bytes
    entry =
        subst (λ n. entry_in (cell_of (recorded holds.pages) n) ≡ Some bytes) next
        (ap (option_and_then record_of) (written-reads holds.pages (s.len + 1) line is.whole is.small (strong s v m new bytes line is holds.pages holds.holds)) ∙ is.parsed)

    pub count-images : (last : Medium) → ((pages : List Page) → VolumeHolds v new pages → EachReadsPages v.geo last (MayWrite 0 count pages))
        → EachLeft 8 s.volume.geo last (λ left. LogStands left log ⊎ LogStands left (log ++ Some bytes ∷ []))
    count-images last each =
        let held = is.held holds.pages holds.holds in
        subst (λ (g : Geometry). EachLeft 8 g last (λ left. LogStands left log ⊎ LogStands left (log ++ Some bytes ∷ []))) is.geo
        (each_pages-then v.geo last _ _
        (λ after may left leaves.
        count-left (volume_line v.geo) new (recorded holds.pages) log held.stand stands bytes count whole small (omega (arith, counts, same)) (omega (arith, room holds.pages holds.holds, same))
        (count-strong holds.pages holds.holds) lasts entry after left may leaves)
        (each (recorded holds.pages) held))

    pub append-holds : (v2 : VolumeState) (last : Medium) → ((pages : List Page) → VolumeHolds v new pages → VolumeHolds v2 last (written_line 0 count pages))
        → HoldsLog (record { volume = v2; len = s.len + 1 }) last (log ++ Some bytes ∷ [])
    append-holds v2 last done =
        let held = is.held holds.pages holds.holds in
        record {
          pages = written_line 0 count (recorded holds.pages);
          holds = done (recorded holds.pages) held;
          stands =
              count-written (volume_line v.geo) new (recorded holds.pages) log held.stand stands bytes count whole small (omega (arith, counts, same)) (omega (arith, room holds.pages holds.holds, same))
              (count-strong holds.pages holds.holds) lasts entry;
        }

  pub append-serves : (v2 : VolumeState) (last : Medium) → v2.geo ≡ v.geo → VolumeServes v2 last
      → ((pages : List Page) → VolumeHolds v new pages → VolumeHolds v2 last (written_line 0 count pages)) → LogServes (record { volume = v2; len = s.len + 1 }) last
  append-serves v2 last geo serves done = record {
    volume = serves;
    counts = λ pages holds.
        let shown = shown_pages s.volume m in
        let before = shown-hold s.volume m in
        let after = done (recorded shown) (is.held shown before) in
        ap (option_map (λ bs. word_at bs 0)) (holds-read v2 last pages (written_line 0 count (recorded shown)) holds after 0
        ∙ written-reads (recorded shown) 0 count whole small (count-strong shown before))
        ∙ ap Some counts;
    within = omega (arith, is.tested.room, ap (λ (g : Geometry). g.vpages) (geo ∙ is.geo));
  }
