-- The parts of storage lie apart: work on the one leaves the others.
use Rattle.std.proofs.Common.{◌≡◌, ℕ, ◌*◌, ◌/◌, ◌<◌, ◌≤◌, IsTrue, inl, inr, List, length, refl, sym, ◌∙◌, ap, subst, arith}
use Rattle.std.proofs.lemmas.List.{length-map}
use Rattle.line_device.specs.Medium.{Medium, WritesBack}
use Rattle.line_device.specs.Device.{Device}
use Rattle.line_device.proofs.HistoryLemmas.{is_in-part}
use Rattle.word_tables.specs.declared.geometry.Geometry.{Geometry}
use Rattle.word_tables.specs.Bounds.{IsValid}
use Rattle.word_tables.specs.Layout.{volume_log, presence, first_range, second_range, first_line, size, meta_lines, total_lines, volume_line, HasLine}
use Rattle.word_tables.proofs.LayoutLemmas.{volume_line-in}
use Rattle.word_log.specs.Area.{IsOf}
use Rattle.word_log.specs.Rest.{IsImageOn}
use Rattle.nvm_model.specs.Lines.{AreStrong}
use Rattle.nvm_model.specs.Page.{Page}
use Rattle.block_device.specs.Area.{IsBlockLine}
use Rattle.block_device.specs.Object.{BlocksServe, BlocksState}
use Rattle.block_device.proofs.ReadLemmas.{Stays}
use Rattle.block_device.proofs.FrameLemmas.{each_reads-write_back}
use Rattle.block_device.proofs.ServesLemmas.{serves-stays, serves-write_back}
use Rattle.pm_volume.specs.Area.{IsOfVolume, IsVolumePlace, volume_area}
use Rattle.pm_volume.specs.Images.{EachReadsPages}
use Rattle.pm_volume.specs.Object.{VolumeState, VolumeHolds, VolumeServes}
use Rattle.nvm_model.proofs.KeptLemmas.{LineKept, line_kept-write_back}
use Rattle.pm_volume.proofs.StandingLemmas.{pages-kept, each_pages-kept, images-kept, volume_serves-kept}
use Rattle.file_journal.specs.Area.{IsOfFiles}
use Rattle.file_journal.specs.Object.{JournalServes}
use Rattle.file_journal.specs.Tables.{AreTables, known_units}
use Rattle.machine_model.specs.declared.mode.Mode.{Mode}
use Rattle.machine_model.specs.declared.mode.Mode.TheVariants.{On, Stopped}
use Rattle.machine_host.specs.declared.held.HeldFiles.{HeldFiles}
use Rattle.machine_host.specs.Stands.{AreMounted, EachMapping, HasRoom, HostServes, HostState, is_powered, IsOnFile}
use Rattle.machine_host.proofs.FilesAsideLemmas.{files_stand_elsewhere, journal_serves_elsewhere}
use Rattle.machine_host.proofs.LayoutLemmas.{layout-write_back, same_bad, stays_bad}
use Rattle.machine_host.proofs.RoomLemmas.{room_still}

-- no line of the volume is the blocks'
pub volume_apart : (geo : Geometry) (n : ℕ) → IsValid geo → IsOfVolume geo n → IsBlockLine geo n → ⊥
unfolding first_line size
volume_apart geo n valid of_volume of_blocks =
    elim of_blocks as (λ _. ⊥) [
      | inl log ↦ by_area log.0 log.1 (λ r. omega (arith, log, r)) (λ r. omega (arith, log, r)) (λ r. omega (arith, log, r)) (λ r. omega (arith, log, r))
      | inr more ↦ elim more as (λ _. ⊥) [
        | inl map ↦ by_area map.0 map.1 (λ r. omega (arith, map, r)) (λ r. omega (arith, map, r)) (λ r. omega (arith, map, r)) (λ r. omega (arith, map, r))
        | inr data_ ↦ by_area data_.0 data_.1 (λ r. omega (arith, data_, r)) (λ r. omega (arith, data_, r)) (λ r. omega (arith, data_, r)) (λ r. omega (arith, data_, r))
      ]
    ]
  where
    by_area : {A B : ℕ} → A ≤ n → n < B → (HasLine geo volume_log n → ⊥) → (HasLine geo presence n → ⊥) → (HasLine geo first_range n → ⊥) → (HasLine geo second_range n → ⊥) → ⊥
    by_area from to log words first second =
        elim of_volume as (λ _. ⊥) [
          | inl l ↦ log l
          | inr more ↦ elim more as (λ _. ⊥) [ inl w ↦ words w | inr ranges ↦ elim ranges as (λ _. ⊥) [ inl f ↦ first f | inr s ↦ second s ] ]
        ]

-- the first line is neither the volume's nor the blocks'
pub first_not_volume : (geo : Geometry) (p : ℕ) → p < 8 → IsVolumePlace geo p → ⊥
unfolding first_line
first_not_volume geo p below of =
    elim of as (λ _. ⊥) [
      | inl log ↦ omega (arith, log)
      | inr more ↦ elim more as (λ _. ⊥) [ inl words ↦ omega (arith, words) | inr ranges ↦ elim ranges as (λ _. ⊥) [ inl first ↦ omega (arith, first) | inr second ↦ omega (arith, second) ] ]
    ]

pub first_not_blocks : (geo : Geometry) → IsBlockLine geo 0 → ⊥
unfolding first_line
first_not_blocks geo of = elim of as (λ _. ⊥) [ inl log ↦ omega (arith, log) | inr more ↦ elim more as (λ _. ⊥) [ inl map ↦ omega (arith, map) | inr data_ ↦ omega (arith, data_) ] ]

-- all of them are on the device
pub volume_within : (geo : Geometry) (n : ℕ) → IsOfVolume geo n → n < total_lines geo
unfolding first_line size total_lines
volume_within geo n of =
    elim of as (λ _. n < total_lines geo) [
      | inl log ↦ omega (arith, log)
      | inr more ↦ elim more as (λ _. n < total_lines geo) [ inl words ↦ omega (arith, words) | inr ranges ↦ elim ranges as (λ _. n < total_lines geo) [ inl first ↦ omega (arith, first) | inr second ↦ omega (arith, second) ] ]
    ]

-- a word of the volume's log or of its presence words is one of its places
pub area_of_volume : (geo : Geometry) (p : ℕ) → IsValid geo → IsOf (volume_area geo) p → IsVolumePlace geo p
unfolding first_line size
area_of_volume geo p valid of = elim of as (λ _. IsVolumePlace geo p) [ inl log ↦ inl (omega (arith, log), omega (arith, log)) | inr home ↦ inr (inl (omega (arith, home), omega (arith, home))) ]

pub line_of_range : (geo : Geometry) (n : ℕ) → n < 64 * geo.vpages → IsOfVolume geo (volume_line geo n)
line_of_range geo n lt = inr (inr (volume_line-in geo n lt))

-- The volume where none of its lines is worked on: it is mounted still, its images read the same, and it stands for its pages.
module _ (geo : Geometry) (old new : Medium) (valid : IsValid geo) (kept : (line : ℕ) → IsOfVolume geo line → LineKept old new line) where
  volume_images : (image : ℕ → ℕ) → IsImageOn (volume_area geo) new image → IsImageOn (volume_area geo) old image
  volume_images image is = images-kept geo old new (λ p of. kept (p / 8) (area_of_volume geo p valid of)) image is

  pub pages_elsewhere : (P : List Page → Type 0) → EachReadsPages geo old P → EachReadsPages geo new P
  pages_elsewhere P each = each_pages-kept geo old new P volume_images (λ n lt. kept (volume_line geo n) (line_of_range geo n lt)) each

  pub volume_serves_elsewhere : (s : VolumeState) → s.geo ≡ geo → AreStrong new (meta_lines s.geo) → new.count ≡ old.count → VolumeServes s old → VolumeServes s new
  volume_serves_elsewhere s same strong count serves =
      volume_serves-kept s old new
      (λ p of v at. is_in-part v _ _ ((kept (p / 8) (area_of_volume geo p valid (subst (λ g. IsOf (volume_area g) p) same of))).words p refl).part at)
      strong count serves

  pub volume_holds_elsewhere : (s : VolumeState) (pages : List Page) → s.geo ≡ geo → length s.present ≡ s.geo.vpages → VolumeHolds s old pages → VolumeHolds s new pages
  volume_holds_elsewhere s pages same all holds = record {
    there = holds.there;
    stand = pages-kept s.geo old new pages (sym (length-map pages _) ∙ ap length holds.there ∙ all)
        (λ n lt. subst (λ g. LineKept old new (volume_line g n)) (sym same) (kept (volume_line geo n) (line_of_range geo n (subst (λ g. n < 64 * g.vpages) same lt)))) holds.stand;
  }

-- What is mounted stays so where work on one part of storage leaves the lines of the others.
module _ (geo : Geometry) (b : BlocksState) (v : VolumeState) (f : HeldFiles) (old new : Medium) (valid : IsValid geo) (strong : AreStrong new (meta_lines geo))
    (count : new.count ≡ old.count) (mounted : AreMounted geo b v f old) where
  strong_of : (g : Geometry) → g ≡ geo → AreStrong new (meta_lines g)
  strong_of g same = subst (λ k. AreStrong new (meta_lines k)) (sym same) strong

  blocks_serve_on : ((n : ℕ) → IsBlockLine geo n → Stays old new n) → BlocksServe b new
  blocks_serve_on stays = serves-stays b old new (λ n of. stays n (subst (λ g. IsBlockLine g n) mounted.geometry of)) (strong_of b.geo mounted.geometry) count mounted.serves

  volume_serves_on : ((line : ℕ) → IsOfVolume geo line → LineKept old new line) → VolumeServes v new
  volume_serves_on kept = volume_serves_elsewhere geo old new valid kept v mounted.volume_geometry (strong_of v.geo mounted.volume_geometry) count mounted.volume_serves

  journal_serves_on : ((line : ℕ) → IsOfFiles geo line → LineKept old new line) → JournalServes f.pages.journal new
  journal_serves_on kept = journal_serves_elsewhere geo old new kept f.pages.journal mounted.journal_geometry (strong_of f.pages.journal.geo mounted.journal_geometry) count mounted.journal_serves

  room_on : ((line : ℕ) → IsOfFiles geo line → LineKept old new line) → HasRoom f new
  room_on kept =
      room_still f f old new (λ files stand. files_stand_elsewhere geo old new kept f.pages.journal files mounted.journal_geometry mounted.journal_right stand) (omega arith) mounted.room

  -- on the blocks
  pub mounted-blocks : (s : BlocksState) → ((line : ℕ) → IsOfVolume geo line → LineKept old new line) → ((line : ℕ) → IsOfFiles geo line → LineKept old new line)
      → s.geo ≡ b.geo → IsTrue s.settled → BlocksServe s new → AreMounted geo s v f new
  mounted-blocks s volume files same settled serves = record {
    geometry = same ∙ mounted.geometry;
    settled = settled;
    serves = serves;
    volume_geometry = mounted.volume_geometry;
    volume_settled = mounted.volume_settled;
    volume_serves = volume_serves_on volume;
    journal_geometry = mounted.journal_geometry;
    journal_settled = mounted.journal_settled;
    journal_serves = journal_serves_on files;
    journal_right = mounted.journal_right;
    journal_held = mounted.journal_held;
    pages_settled = mounted.pages_settled;
    mapped = mounted.mapped;
    room = room_on files;
  }

  -- on the volume
  pub mounted-volume : (w : VolumeState) → ((n : ℕ) → IsBlockLine geo n → Stays old new n) → ((line : ℕ) → IsOfFiles geo line → LineKept old new line)
      → w.geo ≡ v.geo → IsTrue w.settled → VolumeServes w new → AreMounted geo b w f new
  mounted-volume w blocks files same settled serves = record {
    geometry = mounted.geometry;
    settled = mounted.settled;
    serves = blocks_serve_on blocks;
    volume_geometry = same ∙ mounted.volume_geometry;
    volume_settled = settled;
    volume_serves = serves;
    journal_geometry = mounted.journal_geometry;
    journal_settled = mounted.journal_settled;
    journal_serves = journal_serves_on files;
    journal_right = mounted.journal_right;
    journal_held = mounted.journal_held;
    pages_settled = mounted.pages_settled;
    mapped = mounted.mapped;
    room = room_on files;
  }

  -- on files
  pub mounted-files : (q : HeldFiles) → ((n : ℕ) → IsBlockLine geo n → Stays old new n) → ((line : ℕ) → IsOfVolume geo line → LineKept old new line)
      → q.pages.journal.geo ≡ f.pages.journal.geo → IsTrue q.pages.journal.settled → IsTrue q.pages.settled → JournalServes q.pages.journal new → AreTables geo.fpages q.pages.journal.tables
      → known_units q.pages.journal.tables.pages q.pages.journal.free ≡ known_units f.pages.journal.tables.pages f.pages.journal.free
      → EachMapping (IsOnFile q.pages.journal.tables.files) q.mappings.mappings → HasRoom q new → AreMounted geo b v q new
  mounted-files q blocks volume same journal pages serves right held mapped room = record {
    geometry = mounted.geometry;
    settled = mounted.settled;
    serves = blocks_serve_on blocks;
    volume_geometry = mounted.volume_geometry;
    volume_settled = mounted.volume_settled;
    volume_serves = volume_serves_on volume;
    journal_geometry = same ∙ mounted.journal_geometry;
    journal_settled = journal;
    journal_serves = serves;
    journal_right = right;
    journal_held = held ∙ mounted.journal_held;
    pages_settled = pages;
    mapped = mapped;
    room = room;
  }

-- and where all lines are only written back
pub mounted-write_back : (geo : Geometry) (b : BlocksState) (v : VolumeState) (f : HeldFiles) (old new : Medium) → IsValid geo → WritesBack old new → AreMounted geo b v f old → AreMounted geo b v f new
mounted-write_back geo b v f old new valid w mounted =
    mounted-blocks geo b v f old new valid (λ n below. w.weak n ∙ mounted.serves.strong n (subst (λ g. n < meta_lines g) (sym mounted.geometry) below)) w.count mounted
    b (λ line of. line_kept-write_back old new line w) (λ line of. line_kept-write_back old new line w) refl mounted.settled (serves-write_back b old new w mounted.serves)

-- an order to the device, or a cut, leaves its lines but for write-back
pub serves_ordered : (host : HostState) (mode : Mode) (old new : Device) → HostServes host old → WritesBack old.medium new.medium → new.panel.power ≡ is_powered mode → (mode ≡ On → host.mode ≡ On)
    → (mode ≡ Stopped → host.mode ≡ Stopped) → HostServes (record host { mode = mode }) new
serves_ordered host mode old new serves w power was_on was_stopped = record {
  layout = layout-write_back host.geometry old.medium new.medium serves.layout w;
  readable = λ none.
      each_reads-write_back host.geometry old.medium new.medium (λ _. Unit {0}) serves.layout.valid w (serves.readable (sym (same_bad host.geometry old.medium new.medium (λ n below. w.bad n)) ∙ none));
  power = power;
  mounted = λ on. mounted-write_back host.geometry host.blocks host.volume host.files old.medium new.medium serves.layout.valid w (serves.mounted (was_on on));
  stopped = λ stop. stays_bad host.geometry old.medium new.medium (λ n below. w.bad n) (serves.stopped (was_stopped stop));
}
