-- What a mount finds after a restart.
use Rattle.std.proofs.Common.{◌≡◌, ℕ, ◌/◌, ◌<◌, ◌≤◌, true, Some, List, length, slice_get, sym, ap, subst, ◌∙◌, arith}
use Rattle.std.proofs.lemmas.List.{length-map}
use Rattle.line_device.specs.Device.{Depicts}
use Rattle.line_device.specs.History.{MayKeep, newest}
use Rattle.line_device.specs.Medium.{IsHealthy, Medium, Survivors, last_image}
use Rattle.line_device.specs.Panel.{Image}
use Rattle.line_device.specs.declared.line.Choice.{Choice}
use Rattle.line_device.proofs.TornLemmas.{may_keep-torn}
use Rattle.line_words.specs.Words.{WritesBackOutside}
use Rattle.word_tables.specs.declared.geometry.Geometry.{Geometry}
use Rattle.word_tables.specs.Bounds.{IsValid}
use Rattle.word_tables.specs.Layout.{meta_lines, total_lines, volume_line}
use Rattle.word_log.specs.Area.{IsOf}
use Rattle.word_log.specs.Rest.{IsImageOn}
use Rattle.nvm_model.specs.Lines.{AreGood}
use Rattle.nvm_model.specs.Page.{KeepsPages, Page, PagesStand, is_present, presence_of, read_pages}
use Rattle.nvm_model.proofs.PageLemmas.{page_of_line, presence_of-read_pages}
use Rattle.nvm_model.proofs.RestartLemmas.{stand-restarted}
use Rattle.pm_volume.specs.Area.{volume_area}
use Rattle.pm_volume.specs.Images.{ReadsPages}
use Rattle.pm_volume.specs.Left.{EachLeft, MayLeave}
use Rattle.pm_volume.specs.Object.{VolumeHolds, VolumeState}
use Rattle.pm_volume.specs.Presence.{presence_read}
use Rattle.pm_volume.proofs.AreaLemmas.{area_in_metadata}
use Rattle.pm_volume.proofs.CheckLemmas.{meta_within}
use Rattle.pm_volume.proofs.FillLemmas.{holds-others, others-meta}
use Rattle.pm_volume.proofs.LeftLemmas.{has_words}
use Rattle.pm_volume.proofs.PlaceLemmas.{in_volume, line_is_volume, volume_behind_metadata}
use Rattle.pm_volume.proofs.RestartLemmas.{leaves-read}
use Rattle.pm_volume.proofs.ServesLemmas.{holds-same}
use Rattle.pm_volume.proofs.StandingLemmas.{presence_read-replays}

-- The start is an image of what was before.
pub start_was : (geo : Geometry) → IsValid geo → (unit : ℕ) (choice : Choice) (old back : Medium) → old.count ≡ total_lines geo → AreGood old (meta_lines geo) → Survivors unit choice old back
    → IsImageOn (volume_area geo) old (last_image back)
start_was geo valid unit choice old back count good left p of =
    let meta = area_in_metadata geo valid p of in
    let healthy : IsHealthy old (p / 8) = (omega (arith, meta, meta_within geo, count), good (p / 8) meta) in
    let word = left.words p healthy in
    may_keep-torn unit (last_image back p) (old.history p) (subst (λ v. MayKeep unit v (old.history p)) (sym (ap newest word.1.one)) word.1.was)

module _ (geo : Geometry) (valid : IsValid geo) (choice : Choice) (old back new : Medium) (image : Image) (count : old.count ≡ total_lines geo)
    (good : AreGood old (meta_lines geo)) (left : Survivors image.unit choice old back) (shows : Depicts back image)
    (outside : WritesBackOutside (IsOf (volume_area geo)) back new) where
  module _ (P : List Page → Type 0) (found : ReadsPages geo old P (last_image back)) where
    all_there : length (presence_of found.pages) ≡ geo.vpages
    all_there = length-map found.pages is_present ∙ found.all

    behind : (n : ℕ) → slice_get (presence_of found.pages) (n / 64) ≡ Some true → (meta_lines geo ≤ volume_line geo n) × (volume_line geo n < total_lines geo)
    behind n there = volume_behind_metadata geo valid (volume_line geo n) (line_is_volume geo valid n (in_volume geo valid (presence_of found.pages) n true all_there there))

    kept : KeepsPages choice (volume_line geo) image found.pages × PagesStand (volume_line geo) back (read_pages (volume_line geo) image (presence_of found.pages))
    kept =
        stand-restarted choice old back image (volume_line geo) found.pages found.stand
        (λ n cell is. let at = behind n (page_of_line found.pages n cell is) in omega (arith, at.1, count)) left shows

    -- pages that a restart may leave, and that the volume holds once it is mounted
    pub remounted : (s : VolumeState) → s.geo ≡ geo → s.present ≡ presence_read geo (last_image back) → (pages : List Page) × MayLeave image.unit found.pages pages × VolumeHolds s new pages
    remounted s sizes there =
        let pages = read_pages (volume_line geo) image (presence_of found.pages) in
        let read = presence_read-replays geo (last_image back) (presence_of found.pages) all_there found.replays in
        let t : VolumeState = record { geo = geo; present = presence_of found.pages; quiet = s.quiet; settled = s.settled } in
        let holds : VolumeHolds t back pages = record { there = presence_of-read_pages (volume_line geo) image (presence_of found.pages); stand = kept.1 } in (
          pages,
          leaves-read choice (volume_line geo) image found.pages found.stand.whole (has_words (volume_line geo) old found.pages found.stand) kept.0,
          holds-same t s new pages sizes (there ∙ read)
              (holds-others t back new (λ n. n < meta_lines geo) (λ n on low. let at = behind n on in absurd (omega (arith, at.0, low))) (others-meta geo back new valid outside) pages holds),
        )

  -- so what holds of all that a restart may leave, holds of them
  pub remounted-each : (P : List Page → Type 0) → EachLeft image.unit geo old P → (s : VolumeState) → s.geo ≡ geo → s.present ≡ presence_read geo (last_image back)
      → (pages : List Page) × P pages × VolumeHolds s new pages
  remounted-each P each s sizes there =
      let found = each (last_image back) (start_was geo valid image.unit choice old back count good left) in
      let after = remounted (λ pages. (later : List Page) → MayLeave image.unit pages later → P later) found s sizes there in
      (after.0, found.is after.0 after.1, after.2)
