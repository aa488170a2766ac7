-- A restart of the device: host and device stand for what it left, with nothing mounted yet.
use Rattle.std.proofs.Common.{◌≡◌, ℕ, List, [], ◌∷◌, refl, sym, ap, subst, ◌∙◌}
use Rattle.line_device.specs.Medium.{IsSound, Survivors}
use Rattle.line_device.specs.Panel.{Start}
use Rattle.line_device.specs.Device.{Device, Restarted, Waited}
use Rattle.line_device.specs.declared.line.Choice.{Choice}
use Rattle.line_device.proofs.WriteBackLemmas.{write_back-refl}
use Rattle.word_tables.specs.declared.geometry.Geometry.{Geometry}
use Rattle.block_device.proofs.ReachLemmas.{keeps_reads-write_back}
use Rattle.block_device.proofs.RestartLemmas.{each_reads-restarted, each_reads-waits}
use Rattle.machine_model.specs.declared.mode.Mode.TheVariants as modes
use Rattle.machine_host.specs.Lines.{MetadataStands}
use Rattle.machine_model.specs.Lines.{bad_metadata}
use Rattle.machine_model.specs.Machine.{Machine}
use Rattle.machine_model.specs.Restarting.{RestartMayLeave, restarted}
use Rattle.machine_host.specs.Stands.{HostState, HostServes, Stands}
use Rattle.machine_host.proofs.BackLemmas.{each_back, each_files_back, kept_back, layout_back, readable_back}
use Rattle.machine_host.proofs.BadLineLemmas.{good_lines}
use Rattle.machine_host.proofs.DepictedLemmas.{reads_remounted}
use Rattle.machine_host.proofs.LayoutLemmas.{IsGood, is_good, layout-restarted, layout-waits, metadata-then, same_bad}
use Rattle.machine_host.proofs.ReadingLemmas.{bad_shown, read_stopped, read_whole}

-- a restart that was refused leaves the layout
pub serves_waited : (host : HostState) (old new : Device) → HostServes host old → host.mode ≡ modes.Off → Waited old new → HostServes host new
serves_waited host old new serves off x =
    let geo = host.geometry in
    record {
      layout = layout-waits geo old.medium new.medium serves.layout old.panel.unit x.lines;
      readable = λ none.
          each_reads-waits geo serves.layout.valid old.panel.unit old.medium new.medium (λ _. Unit {0}) x.lines (serves.readable (sym (same_bad geo old.medium new.medium (λ n below. x.lines.bad n)) ∙ none));
      power = x.panel.power ∙ serves.power;
      mounted = λ on. cc (on, off);
      stopped = λ stop. cc (stop, off);
    }

module _ (host : HostState) (choice : Choice) (old mid : Device) (start : Start) (serves : HostServes host old) (left : Restarted choice old mid start)
    (sound_old : IsSound old.medium) (sound : IsSound mid.medium) where
  -- the host with the power on
  abbrev pub back : HostState
  back = record host { mode = modes.Unsettled }

  pub serves_back : HostServes back mid
  serves_back =
      let geo = host.geometry in
      record {
        layout = layout-restarted geo old.medium mid.medium serves.layout old.panel.unit choice sound_old left.lines;
        readable = λ none.
            each_reads-restarted geo serves.layout.valid old.panel.unit choice old.medium mid.medium (λ _. Unit {0}) sound_old serves.layout.lines left.lines
            (serves.readable (sym (same_bad geo old.medium mid.medium (λ n below. left.lines.bad n)) ∙ none));
        power = ap (λ p. p.power) left.panel;
        mounted = λ on. cc on;
        stopped = λ stop. cc stop;
      }

  module _ (h : Machine) (stands : Stands host old h) where
    abbrev geo : Geometry
    geo = h.geometry

    -- the state that is read there
    abbrev pub came_back : Machine
    came_back = record (restarted h start.image) { mode = modes.Unsettled }

    metadata : MetadataStands geo mid.medium h.bad_meta
    metadata =
        let was = stands.device.metadata in
        metadata-then geo old.medium mid.medium h.bad_meta (layout-restarted geo old.medium mid.medium was.layout old.panel.unit choice sound_old left.lines) (λ n below. left.lines.bad n) was

    shown : bad_metadata geo start.image.is_bad ≡ h.bad_meta
    shown = bad_shown geo mid.medium start.image metadata.layout.lines left.image ∙ metadata.bad

    good_was : h.bad_meta ≡ [] → IsGood geo old.medium
    good_was good = is_good stands.device.metadata.layout (good_lines geo old.medium (stands.device.metadata.bad ∙ good))

    -- what was left, by the unit of what is told
    survived : Survivors start.image.unit choice old.medium mid.medium
    survived = subst (λ u. Survivors u choice old.medium mid.medium) (sym left.unit) left.lines

    unit_stays : start.image.unit ≡ h.unit
    unit_stays = left.unit ∙ stands.device.unit

    -- the restart left what it may leave
    pub keeps : RestartMayLeave choice start.image h
    keeps = record {
      unit = unit_stays;
      metadata = shown;
      storage = λ good. kept_back h choice old.medium mid.medium start.image (good_was good) (stands.device.blocks good) (stands.device.volume good) (stands.device.files good) survived left.image sound_old sound;
    }

    pub stands_back : Stands back mid came_back
    stands_back = by_lines h.bad_meta refl
      where
        cut_was : mid.panel.cut_armed ≡ h.cut_armed
        cut_was = ap (λ p. p.cut_armed) left.panel ∙ stands.device.cut_armed

        fail_was : mid.panel.fail_armed ≡ h.fail_armed
        fail_was = ap (λ p. p.fail_armed) left.panel ∙ stands.device.fail_armed

        by_lines : (lines : List ℕ) → h.bad_meta ≡ lines → Stands back mid came_back
        by_lines [] good =
            let was = good_was good in
            let blocks_were = stands.device.blocks good in
            let volume_was = stands.device.volume good in
            let files_were = stands.device.files good in
            subst (λ k. Stands back mid (record k { mode = modes.Unsettled; cut_armed = h.cut_armed; fail_armed = h.fail_armed })) (sym (read_whole geo start.image (shown ∙ good))) (record {
              geometry = stands.geometry;
              unit = stands.unit ∙ sym unit_stays;
              mode = refl;
              blocks = λ on. cc on;
              volume = λ on. cc on;
              files = λ on. cc;
              mappings = λ on. cc on;
              events = λ on. cc on;
              device = record {
                unit = ap (λ p. p.unit) left.panel ∙ sym left.unit;
                metadata = subst (MetadataStands geo mid.medium) good metadata;
                blocks = λ _.
                    reads_remounted geo mid.medium start.image (layout_back h choice old.medium mid.medium start.image was blocks_were volume_was files_were survived left.image sound_old sound) left.image mid.medium
                    (readable_back h choice old.medium mid.medium start.image was blocks_were volume_was files_were survived left.image sound_old sound)
                    (keeps_reads-write_back geo mid.medium mid.medium (write_back-refl mid.medium));
                volume = λ _. each_back h choice old.medium mid.medium start.image was blocks_were volume_was files_were survived left.image sound_old sound;
                files = λ _. each_files_back h choice old.medium mid.medium start.image was blocks_were volume_was files_were survived left.image sound_old sound;
                power = ap (λ p. p.power) left.panel;
                cut_armed = cut_was;
                fail_armed = fail_was;
                whole = λ on. cc on;
                stopped = λ stop. cc stop;
              };
            })
        by_lines (line ∷ lines) bad =
            subst (λ k. Stands back mid (record k { mode = modes.Unsettled; cut_armed = h.cut_armed; fail_armed = h.fail_armed })) (sym (read_stopped geo start.image line lines (shown ∙ bad))) (record {
              geometry = stands.geometry;
              unit = stands.unit ∙ sym unit_stays;
              mode = refl;
              blocks = λ on. cc on;
              volume = λ on. cc on;
              files = λ on. cc;
              mappings = λ on. cc on;
              events = λ on. cc on;
              device = record {
                unit = ap (λ p. p.unit) left.panel ∙ sym left.unit;
                metadata = subst (MetadataStands geo mid.medium) bad metadata;
                blocks = λ none. cc none;
                volume = λ none. cc none;
                files = λ none. cc none;
                power = ap (λ p. p.power) left.panel;
                cut_armed = cut_was;
                fail_armed = fail_was;
                whole = λ on. cc on;
                stopped = λ stop. cc stop;
              };
            })
