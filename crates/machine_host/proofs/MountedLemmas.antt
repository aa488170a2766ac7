-- What host and device stand for once the device is mounted.
use Rattle.std.proofs.Common.{◌≡◌, None, List, [], arith, refl, sym, ap, subst, ◌∙◌}
use Rattle.nvm_base.proofs.FirstLemmas.{neither_there}
use Rattle.line_device.specs.Medium.{Medium, IsSound, last_image}
use Rattle.line_device.specs.Panel.{Image}
use Rattle.line_device.specs.Device.{Device, Depicts}
use Rattle.line_words.specs.Words.{WritesBackOutside}
use Rattle.word_tables.specs.declared.geometry.Geometry.{Geometry}
use Rattle.word_tables.specs.Layout.{volume_line}
use Rattle.line_words.specs.Words.{IsOnly}
use Rattle.word_log.specs.Replay as log
use Rattle.nvm_model.specs.Page.{Page, read_pages}
use Rattle.nvm_model.specs.Storage.{File}
use Rattle.block_device.specs.Area.{block_area}
use Rattle.block_device.specs.Images.{AreReadable, EachReads, ReadsAs}
use Rattle.block_device.specs.Mounting.{wrong_map}
use Rattle.block_device.specs.Object.{BlocksServe, BlocksState, HasGoodMetadata, blocks_of}
use Rattle.block_device.specs.Reading.{blocks_read}
use Rattle.block_device.proofs.ImageLemmas.{each_reads-then, served_reads}
use Rattle.block_device.proofs.RestartLemmas.{block_image-last}
use Rattle.pm_volume.specs.Area.{volume_area}
use Rattle.pm_volume.specs.Images.{EachReadsPages}
use Rattle.pm_volume.specs.Object.{VolumeHolds}
use Rattle.pm_volume.specs.Presence.{presence_read, wrong_presence}
use Rattle.pm_volume.proofs.StandingLemmas.{served_pages}
use Rattle.file_journal.specs.Area.{file_area}
use Rattle.file_journal.specs.Reading.{tables_read, words_read, wrong_table}
use Rattle.file_journal.specs.Standing.{EachReadsFiles, FilesStand, files_read}
use Rattle.file_journal.specs.Tables.{AreTables}
use Rattle.file_journal.proofs.ServesLemmas.{served_files}
use Rattle.recovery.specs.Findings.{geometry_told, first_finding}
use Rattle.recovery.specs.Mounting.{IsOfLogs}
use Rattle.recovery.proofs.FindingLemmas.{early_none as both_none, good_metadata as good_found, strong_metadata as strong_found, is_superblock, nothing_early, nothing_found}
use Rattle.machine_model.specs.declared.mode.Mode.TheVariants as modes
use Rattle.machine_host.specs.Lines.{MetadataStands}
use Rattle.machine_model.specs.Restarting.{holding, reading}
use Rattle.machine_host.specs.Stands.{HostState, HostServes, IsFlushed, Stands, is_powered, no_mappings}
use Rattle.machine_host.proofs.DepictedLemmas.{blocks_depicted, files_depicted, holds_depicted}
use Rattle.recovery.proofs.SuperblockLemmas.{some_lines}
use Rattle.machine_host.proofs.BadLineLemmas.{good_lines}
use Rattle.machine_host.proofs.LayoutLemmas.{IsGood, is_good, none_bad}
use Rattle.machine_host.proofs.MountLemmas.{durable_flushed, first_place, found_map}
use Rattle.machine_host.proofs.ReadingLemmas.{bad_shown, read_whole}
use Rattle.nvm_model.specs.Events.{restart_events}

-- Once all storage is mounted, host and device stand for it.
pub stands_mounted : (host : HostState) (d : Device) (pages : List Page) (files : List File) → d.panel.unit ≡ host.unit → host.mode ≡ modes.On → HostServes host d → MetadataStands host.geometry d.medium []
    → VolumeHolds host.volume d.medium pages → FilesStand host.files.pages.journal.geo d.medium host.files.pages.journal.tables files → host.files.mappings ≡ no_mappings
    → host.files.events.items ≡ restart_events files → Stands host d (record (holding host.geometry (blocks_of host.blocks d.medium) pages files) { unit = host.unit; cut_armed = d.panel.cut_armed; fail_armed = d.panel.fail_armed })
stands_mounted host d pages files unit on serves metadata holds stand none told =
    let mounted = serves.mounted on in
    let good = subst (λ g. HasGoodMetadata g d.medium) (sym mounted.geometry) (good_lines host.geometry d.medium metadata.bad) in
    record {
      geometry = refl;
      unit = refl;
      mode = on;
      blocks = λ _. refl;
      volume = λ _. holds;
      files = λ _. stand;
      mappings = λ _. none;
      events = λ _. told;
      device = record {
        unit = unit;
        metadata = metadata;
        blocks = λ _. subst (λ g. EachReads g d.medium (λ bs. bs ≡ blocks_of host.blocks d.medium)) mounted.geometry (served_reads host.blocks d.medium good mounted.serves);
        volume = λ _. subst (λ g. EachReadsPages g d.medium (λ x. x ≡ pages)) mounted.volume_geometry (served_pages host.volume d.medium pages mounted.volume_serves holds);
        files = λ _. subst (λ g. EachReadsFiles g d.medium (λ x. x ≡ files)) mounted.journal_geometry
            (served_files host.files.pages.journal d.medium files (subst (λ g. AreTables g.fpages host.files.pages.journal.tables) (sym mounted.journal_geometry) mounted.journal_right) mounted.journal_serves stand);
        power = serves.power ∙ ap is_powered on;
        cut_armed = refl;
        fail_armed = refl;
        whole = λ _. refl;
        stopped = λ stop. cc stop;
      };
    }

-- a medium on which nothing is found has the layout that it tells
pub layout_found : (m : Medium) → IsFlushed m → first_finding m ≡ None → IsGood (geometry_told m) m
layout_found m flushed none =
    let geo = geometry_told m in
    let early = both_none m (nothing_early m none) in
    let is = is_superblock m early.0 in
    is_good (record {
      valid = is.valid;
      lines = is.count;
      strong = strong_found geo m early.1;
      superblock = λ p below. subst (λ v. IsOnly v (m.history p)) (is.words p below) (flushed p (omega (arith, first_place p below, is.count, some_lines geo)));
    })
    (good_found geo m early.1)

-- its last values are blocks, and valid logs of volume and files
blocks_found : (m : Medium) → IsFlushed m → first_finding m ≡ None → ReadsAs (geometry_told m) m (λ _. Unit {0}) (last_image m)
blocks_found m flushed none =
    let geo = geometry_told m in
    record {
      log = (neither_there (log.first_wrong (block_area geo) (last_image m)) (wrong_map geo (last_image m)) (nothing_found m none).1).0;
      map = found_map m none;
      durable = durable_flushed m flushed none;
      blocks = tt;
    }

volume_found : (m : Medium) → first_finding m ≡ None → log.first_wrong (volume_area (geometry_told m)) (last_image m) ≡ None
volume_found m none =
    let geo = geometry_told m in (neither_there (log.first_wrong (volume_area geo) (last_image m)) (wrong_presence geo (last_image m)) (nothing_found m none).2).0

files_found : (m : Medium) → first_finding m ≡ None → log.first_wrong (file_area (geometry_told m)) (last_image m) ≡ None
files_found m none =
    let geo = geometry_told m in
    (neither_there (log.first_wrong (file_area geo) (last_image m)) (wrong_table geo (words_read geo (last_image m))) (nothing_found m none).3).0

-- A host that mounted a device stands for what is read there, where each word had one value.
-- and its blocks can be read in each image
pub readable_served : (geo : Geometry) (s : BlocksState) (m : Medium) → s.geo ≡ geo → BlocksServe s m → HasGoodMetadata geo m → AreReadable geo m
readable_served geo s m same serves good =
    subst (λ g. AreReadable g m) same
    (each_reads-then s.geo m (λ bs. bs ≡ blocks_of s m) (λ _. Unit {0}) (λ _ _. tt) (served_reads s m (subst (λ g. HasGoodMetadata g m) (sym same) good) serves))

pub stands_found : (host : HostState) (old new : Device) (image : Image) → IsSound old.medium → IsFlushed old.medium → first_finding old.medium ≡ None → Depicts old.medium image
    → image.unit ≡ host.unit → new.panel.unit ≡ host.unit → host.geometry ≡ geometry_told old.medium → host.mode ≡ modes.On
    → blocks_of host.blocks new.medium ≡ blocks_read (geometry_told old.medium) old.medium.is_bad (last_image old.medium)
    → host.volume.present ≡ presence_read (geometry_told old.medium) (last_image old.medium) → host.files.pages.journal.tables ≡ tables_read (geometry_told old.medium) (last_image old.medium)
    → WritesBackOutside (IsOfLogs (geometry_told old.medium)) old.medium new.medium
    → MetadataStands host.geometry new.medium [] → HostServes host new → host.files.mappings ≡ no_mappings
    → ((files : List File) → FilesStand host.files.pages.journal.geo new.medium host.files.pages.journal.tables files → host.files.events.items ≡ restart_events files)
    → Stands host new (record (reading (geometry_told old.medium) image) { cut_armed = new.panel.cut_armed; fail_armed = new.panel.fail_armed })
stands_found host old new image sound flushed none shows by_unit unit sizes on blocks present tables outside metadata serves unmapped told =
    let m = old.medium in
    let geo = geometry_told m in
    let layout = layout_found m flushed none in
    let shown = bad_shown geo m image layout.lines shows ∙ none_bad geo m layout.good in
    let pages = read_pages (volume_line geo) image (presence_read geo image.word) in
    let read = blocks ∙ blocks_depicted geo m image layout shows (last_image m) (λ _. Unit {0}) (block_image-last geo layout.valid m sound layout.lines) (blocks_found m flushed none) in
    let holds = holds_depicted geo m image layout shows new.medium host.volume sound (volume_found m none) outside ((serves.mounted on).volume_geometry ∙ sizes) present in
    let files = files_read geo image in
    let mounted = serves.mounted on in
    let right = subst (λ g. AreTables g.fpages host.files.pages.journal.tables) sizes mounted.journal_right in
    let stand = files_depicted geo m image layout shows new.medium host.files.pages.journal sound (files_found m none) right outside (mounted.journal_geometry ∙ sizes) tables in
    subst (λ k. Stands host new (record k { cut_armed = new.panel.cut_armed; fail_armed = new.panel.fail_armed })) (sym (read_whole geo image shown))
    (subst (λ u. Stands host new (record (holding geo (blocks_read geo image.is_bad image.word) pages files) { unit = u; cut_armed = new.panel.cut_armed; fail_armed = new.panel.fail_armed })) (sym by_unit)
    (subst (λ bs. Stands host new (record (holding geo bs pages files) { unit = host.unit; cut_armed = new.panel.cut_armed; fail_armed = new.panel.fail_armed })) read
    (subst (λ g. Stands host new (record (holding g (blocks_of host.blocks new.medium) pages files) { unit = host.unit; cut_armed = new.panel.cut_armed; fail_armed = new.panel.fail_armed })) sizes
    (stands_mounted host new pages files unit on serves metadata holds stand unmapped (told files stand)))))
