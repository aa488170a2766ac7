-- A mount of a device whose host has not mounted it, while the power is on: it runs through, is interrupted, or wants memory.
use Rattle.std.proofs.Common.{◌≡◌, ◌≢◌, ◌⊎◌, ℕ, inl, inr, Bool, true, false, List, [], ◌∷◌, length, Option, Some, None, Err, refl, sym, ap, subst, ◌∙◌, arith}
use Rattle.std.proofs.lemmas.Bool.{false≢true}
use Rattle.std.proofs.lemmas.Option.{none-some}
use Rattle.std.proofs.lemmas.List.{length-map}
use Rattle.line_device.specs.Medium.{IsSound, last_image}
use Rattle.line_device.specs.Panel.{Runs}
use Rattle.line_device.specs.Panel.Outcome.{went}
use Rattle.line_device.specs.Device.{Device}
use Rattle.line_words.specs.declared.interruption.Interruption.{Interruption}
use Rattle.line_words.specs.Ending.{ended}
use Rattle.word_tables.specs.declared.geometry.Geometry.{Geometry}
use Rattle.word_tables.specs.Layout.{volume_line}
use Rattle.word_log.specs.Mount.{Finding}
use Rattle.word_log.specs.Mount.Finding.{bad_line, wrong_word}
use Rattle.word_log.specs.Rest.{EachImage, IsReached}
use Rattle.nvm_model.specs.Page.{is_present, presence_of, PagesStand}
use Rattle.block_device.specs.Object.{BlocksServe, HasGoodMetadata, blocks_of}
use Rattle.block_device.specs.Reading.{blocks_read}
use Rattle.block_device.specs.Images.{EachReads, KeepsReads, ReadsAs}
use Rattle.block_device.proofs.ImageLemmas.{each_reads-then, served_reads}
use Rattle.block_device.proofs.ReachLemmas.{each_reads-kept}
use Rattle.block_device.proofs.RestartLemmas.{block_image-last}
use Rattle.pm_volume.specs.Area.{volume_area}
use Rattle.pm_volume.specs.Images.{EachReadsPages, ReadsPages}
use Rattle.pm_volume.specs.Object.{VolumeHolds}
use Rattle.pm_volume.specs.Presence.{presence_read}
use Rattle.pm_volume.proofs.StandingLemmas.{each_pages-reached, each_pages-then, pages-kept, presence_read-replays, served_pages}
use Rattle.file_journal.specs.Area.{file_area}
use Rattle.file_journal.specs.Reading.{tables_read}
use Rattle.file_journal.specs.Standing.{EachReadsFiles, FilesStand, ReadsFiles}
use Rattle.file_journal.specs.Tables.{AreTables, Tables}
use Rattle.file_journal.proofs.EachFilesLemmas.{each_files-reached, each_files-then}
use Rattle.file_journal.proofs.ServesLemmas.{served_files}
use Rattle.file_journal.proofs.StandingLemmas.{files-kept}
use Rattle.file_journal.proofs.TableReadLemmas.{tables_read-replays}
use Rattle.recovery.specs.Calls.{IsMounted, LeavesDevice}
use Rattle.recovery.specs.declared.Mounted.{Mounted}
use Rattle.recovery.specs.Findings.{geometry_told, first_finding}
use Rattle.reply_text.specs.Answer.{Answer}
use Rattle.reply_text.specs.Answer.Answer.{DoneBad, Stopped}
use Rattle.machine_model.specs.declared.mode.Mode.{Mode}
use Rattle.machine_model.specs.declared.mode.Mode.TheVariants as modes
use Rattle.machine_model.specs.Machine.{Machine}
use Rattle.machine_model.specs.Commands.{MayLeaveBlocks, MayLeaveFiles, MayLeaveVolume}
use Rattle.machine_model.specs.Interrupted.{Interrupts, interrupted_answer, interrupted_mode, stop_in}
use Rattle.machine_model.specs.Restarting.{holding, mounted_answer, stopped_by}
use Rattle.machine_model.specs.Recovering.{RecoversTo, RecoveryMayLeave}
use Rattle.machine_model.specs.Costs.{mount_calls, mount_persists}
use Rattle.machine_model.specs.Run.{worked}
use Rattle.machine_model.specs.Telling.{Tells}
use Rattle.machine_host.specs.Faults.{CountsBad}
use Rattle.machine_host.specs.Lines.{HasLayout, MetadataStands}
use Rattle.machine_model.specs.Lines.{bad_metadata}
use Rattle.machine_host.specs.Stands.{HostState, HostServes, Stands, is_powered, just_mounted}
use Rattle.machine_host.proofs.BadLineLemmas.{bad_found, found_bad, good_lines}
use Rattle.machine_host.proofs.LogLineLemmas.{file_pages_kept, range_kept}
use Rattle.machine_host.proofs.MountEffectLemmas.{durable_mount, good_of, layout_mount, marks_mount, none_found, outside_of, readable_mount}
use Rattle.machine_host.proofs.LayoutLemmas.{IsGood, metadata-then, stays_bad}
use Rattle.machine_host.proofs.MountLemmas.{IsTold, file_image-last, found_tables, is_told, nothing_wrong_there, volume_image-last}
use Rattle.machine_host.proofs.TellingLemmas.{interrupts, never_on, never_stops, power_struck, struck, tells_interrupted, tells_work}
use Rattle.machine_host.proofs.RoomLemmas.{room_of}

-- What it comes to in a state that host and device stand for: it ran through, or was interrupted.
pub record MountsTo (h : Machine) (answer : Answer) (after : HostState) (old new : Device) : Type 0 where
  pub next : Machine
  pub ends : ((answer ≡ mounted_answer next) × RecoveryMayLeave h next) ⊎ ((by : Interruption) × (answer ≡ interrupted_answer by) × Interrupts by h next)
  pub tells : Tells (worked (record { calls = mount_calls; persists = mount_persists }) answer) old.panel new.panel
  pub stands : Stands after new next

-- It ran through: the state that it read, and host and device stand for.
pub record BroughtUp (h : Machine) (after : HostState) (new : Device) : Type 0 where
  pub next : Machine
  pub may : RecoveryMayLeave h next
  pub stands : Stands after new next

module _ (host : HostState) (old new : Device) (serves : HostServes host old) (unsettled : host.mode ≡ modes.Unsettled) (sound : IsSound old.medium) (x : LeavesDevice old.medium new.medium) where
  -- the host in another mode, with nothing mounted
  abbrev pub in_mode : Mode → HostState
  in_mode mode = record { geometry = host.geometry; unit = host.unit; mode = mode; blocks = host.blocks; volume = host.volume; files = host.files }

  layout_new : HasLayout host.geometry new.medium
  layout_new = layout_mount host.geometry old new serves.layout sound x

  pub serves_unmounted : (mode : Mode) → new.panel.power ≡ is_powered mode → (mode ≡ modes.On → ⊥) → (mode ≡ modes.Stopped → bad_metadata host.geometry old.medium.is_bad ≢ []) → HostServes (in_mode mode) new
  serves_unmounted mode power off stopped = record {
    layout = layout_new;
    readable = readable_mount host.geometry old new serves.layout sound x serves.readable;
    power = power;
    mounted = λ on. absurd (off on);
    stopped = λ stop. stays_bad host.geometry old.medium new.medium (marks_mount host.geometry old new serves.layout sound x) (stopped stop);
  }

  -- the mount was done
  module _ (runs : Runs mount_calls mount_persists went old.panel new.panel) (found : first_finding old.medium ≡ None) (made : Mounted) (given : IsMounted old.medium new.medium made) where
    abbrev pub taken : HostState
    taken = record { geometry = host.geometry; unit = host.unit; mode = modes.On; blocks = made.blocks; volume = made.volume; files = just_mounted made.files made.events }

    none : bad_metadata host.geometry old.medium.is_bad ≡ []
    none = none_found host.geometry old new serves.layout sound x found

    good : IsGood host.geometry old.medium
    good = good_of host.geometry old new serves.layout sound x none

    told : IsTold host.geometry old.medium
    told = is_told host.geometry old.medium good sound

    right : AreTables host.geometry.fpages made.files.journal.tables
    right = subst (λ g. AreTables g.fpages made.files.journal.tables) told.sizes (subst (AreTables (geometry_told old.medium).fpages) (sym given.tables) (found_tables old.medium found))

    served : BlocksServe made.blocks new.medium
    served = given.blocks_serve (durable_mount host.geometry old new serves.layout sound x serves.readable none)

    pub serves_taken : HostServes taken new
    serves_taken = record {
      layout = layout_new;
      readable = readable_mount host.geometry old new serves.layout sound x serves.readable;
      power = runs.cause.0 ∙ serves.power ∙ ap is_powered unsettled;
      mounted = λ _. record {
        geometry = given.blocks_geo ∙ told.sizes;
        settled = given.settled.0;
        serves = served;
        volume_geometry = given.volume_geo ∙ told.sizes;
        volume_settled = given.settled.1;
        volume_serves = given.volume_serves;
        journal_geometry = given.journal_geo ∙ told.sizes;
        journal_settled = given.settled.2;
        journal_serves = given.journal_serves;
        journal_right = right;
        journal_held = given.held ∙ ap (λ (g : Geometry). g.fpages) (given.geo ∙ told.sizes);
        pages_settled = given.settled.3;
        mapped = tt;
        room = room_of (just_mounted made.files made.events) new.medium given.room;
      };
      stopped = λ stop. cc stop;
    }

  module _ (h : Machine) (stands : Stands host old h) where
    abbrev geo : Geometry
    geo = h.geometry

    was : HasLayout geo old.medium
    was = stands.device.metadata.layout

    metadata : MetadataStands geo new.medium h.bad_meta
    metadata = metadata-then geo old.medium new.medium h.bad_meta (layout_mount geo old new was sound x) (marks_mount geo old new was sound x) stands.device.metadata

    none_of : h.bad_meta ≡ [] → bad_metadata geo old.medium.is_bad ≡ []
    none_of good = stands.device.metadata.bad ∙ good

    told_of : h.bad_meta ≡ [] → IsTold geo old.medium
    told_of good = is_told geo old.medium (good_of geo old new was sound x (none_of good)) sound

    blocks_kept : h.bad_meta ≡ [] → EachReads geo new.medium (MayLeaveBlocks h.interrupted h.blocks)
    blocks_kept good =
        let told = told_of good in
        each_reads-kept geo old.medium new.medium (MayLeaveBlocks h.interrupted h.blocks) (subst (λ g. KeepsReads g old.medium new.medium) told.sizes (x.reads told.early)) (stands.device.blocks good)

    volume_kept : h.bad_meta ≡ [] → EachReadsPages geo new.medium (MayLeaveVolume geo h.interrupted h.volume)
    volume_kept good =
        let presence = subst (λ g. EachImage (volume_area g) new.medium (IsReached (volume_area g) old.medium)) (told_of good).sizes x.volume in
        each_pages-reached geo old.medium new.medium (MayLeaveVolume geo h.interrupted h.volume) was.valid presence
        (range_kept geo old.medium new.medium was.valid (outside_of geo old new was sound x (none_of good))) (stands.device.volume good)

    files_kept : h.bad_meta ≡ [] → EachReadsFiles geo new.medium (MayLeaveFiles h.mappings h.interrupted h.files)
    files_kept good =
        let reached = subst (λ g. EachImage (file_area g) new.medium (IsReached (file_area g) old.medium)) (told_of good).sizes x.files in
        each_files-reached geo old.medium new.medium (MayLeaveFiles h.mappings h.interrupted h.files) was.valid reached
        (file_pages_kept geo old.medium new.medium was.valid (outside_of geo old new was sound x (none_of good))) (stands.device.files good)

    -- The state stays, where the mount was not done, in this mode and with what is armed then.
    kept : (mode : Mode) → new.panel.unit ≡ old.panel.unit → new.panel.power ≡ is_powered mode → (mode ≡ modes.On → ⊥) → (mode ≡ modes.Stopped → ⊥)
        → Stands (in_mode mode) new (record h { mode = mode; cut_armed = new.panel.cut_armed; fail_armed = new.panel.fail_armed })
    kept mode unit power off up = record {
      geometry = stands.geometry;
      unit = stands.unit;
      mode = refl;
      blocks = λ on. absurd (off on);
      volume = λ on. absurd (off on);
      files = λ on. absurd (off on);
      mappings = λ on. absurd (off on);
      events = λ on. absurd (off on);
      device = record {
        unit = unit ∙ stands.device.unit;
        metadata = metadata;
        blocks = blocks_kept;
        volume = volume_kept;
        files = files_kept;
        power = power;
        cut_armed = refl;
        fail_armed = refl;
        whole = λ on. absurd (off on);
        stopped = λ stop. absurd (up stop);
      };
    }

    -- nothing is wrong where no line of metadata is bad
    pub nothing_found : h.bad_meta ≡ [] → first_finding old.medium ≡ None
    nothing_found good =
        nothing_wrong_there geo old.medium (good_of geo old new was sound x (none_of good)) (told_of good) sound
        (each_reads-then geo old.medium (MayLeaveBlocks h.interrupted h.blocks) (λ _. Unit {0}) (λ bs is. tt) (stands.device.blocks good))
        (each_pages-then geo old.medium (MayLeaveVolume geo h.interrupted h.volume) (λ _. Unit {0}) (λ _ _. tt) (stands.device.volume good))
        (each_files-then geo old.medium (MayLeaveFiles h.mappings h.interrupted h.files) (λ _. Unit {0}) (λ _ _. tt) (stands.device.files good))

    -- and no word is found wrong
    pub never_wrong : (at : ℕ) → first_finding old.medium ≡ Some (wrong_word at) → ⊥
    never_wrong at found = by_lines h.bad_meta refl
      where
        is_line : Option Finding → Bool
        is_line None = false
        is_line (Some (bad_line n)) = true
        is_line (Some (wrong_word n)) = false

        by_lines : (lines : List ℕ) → h.bad_meta ≡ lines → ⊥
        by_lines [] good = none-some (wrong_word at) (sym (nothing_found good) ∙ found)
        by_lines (line ∷ lines) bad = false≢true (ap is_line (sym found ∙ bad_found geo old.medium was sound line lines (stands.device.metadata.bad ∙ bad)))

    -- A mount that was interrupted keeps the state.
    pub mounts_stopped : (by : Interruption) → Runs mount_calls mount_persists (ended {T = Unit {0}} (Err by)) old.panel new.panel → MountsTo h (interrupted_answer by) (in_mode (interrupted_mode by)) old new
    mounts_stopped by runs = record {
      next = struck h by new.panel;
      ends = inr (by, refl, interrupts by h mount_calls mount_persists old.panel new.panel runs stands.device.cut_armed stands.device.fail_armed);
      tells = tells_interrupted (record { calls = mount_calls; persists = mount_persists }) mount_calls mount_persists (omega arith) (omega arith) old.panel new.panel by runs;
      stands = kept (interrupted_mode by) runs.orders.unit (power_struck by h mount_calls mount_persists old.panel new.panel runs (serves.power ∙ ap is_powered unsettled)) (never_on by) (never_stops by);
    }

    module _ (runs : Runs mount_calls mount_persists went old.panel new.panel) where
      cut_stays : new.panel.cut_armed ≡ h.cut_armed
      cut_stays = runs.cause.2 ∙ stands.device.cut_armed

      fail_stays : new.panel.fail_armed ≡ h.fail_armed
      fail_stays = runs.cause.3 ∙ stands.device.fail_armed

      power_stays : new.panel.power ≡ true
      power_stays = runs.cause.0 ∙ serves.power ∙ ap is_powered unsettled

      -- so does one that had no memory
      pub kept_unmounted : Stands host new h
      kept_unmounted =
          let mode = sym unsettled ∙ stands.mode in
          subst (λ (k : HostState). Stands k new h) (ap in_mode (sym unsettled))
          (subst (λ m. Stands (in_mode modes.Unsettled) new (record h { mode = m })) mode
          (subst (λ cut. Stands (in_mode modes.Unsettled) new (record h { mode = modes.Unsettled; cut_armed = cut })) cut_stays
          (subst (λ fail. Stands (in_mode modes.Unsettled) new (record h { mode = modes.Unsettled; cut_armed = new.panel.cut_armed; fail_armed = fail })) fail_stays
          (kept modes.Unsettled runs.orders.unit power_stays (λ on. cc on) (λ stop. cc stop)))))

      -- A bad line of metadata stops the host.
      module _ (line : ℕ) (found : first_finding old.medium ≡ Some (bad_line line)) where
        pub stopped_up : BroughtUp h (in_mode modes.Stopped) new
        stopped_up =
            let bad = found_bad geo old.medium was sound line found in
            let is : h.bad_meta ≡ line ∷ bad.0 = sym stands.device.metadata.bad ∙ bad.1 in
            let next : Machine = record (stopped_by geo (line ∷ bad.0)) { unit = h.unit; cut_armed = h.cut_armed; fail_armed = h.fail_armed } in
            record {
              next = next;
              may = subst (λ lines. RecoversTo lines h next) (sym is) refl;
              stands = record {
                geometry = stands.geometry;
                unit = stands.unit;
                mode = refl;
                blocks = λ on. cc on;
                volume = λ on. cc on;
                files = λ on. cc;
                mappings = λ on. cc on;
                events = λ on. cc on;
                device = record {
                  unit = runs.orders.unit ∙ stands.device.unit;
                  metadata = subst (MetadataStands geo new.medium) is metadata;
                  blocks = λ none. cc none;
                  volume = λ none. cc none;
                  files = λ none. cc none;
                  power = power_stays;
                  cut_armed = cut_stays;
                  fail_armed = fail_stays;
                  whole = λ on. cc on;
                  stopped = λ _ none. cc none;
                };
              };
            }

        pub mounts_bad : MountsTo h (Stopped line) (in_mode modes.Stopped) old new
        unfolding stopped_up
        mounts_bad = record {
          next = stopped_up.next;
          ends = inl (refl, stopped_up.may);
          tells = tells_work (record { calls = mount_calls; persists = mount_persists }) mount_calls mount_persists (omega arith) (omega arith) old.panel new.panel (Stopped line) refl runs;
          stands = stopped_up.stands;
        }

      -- A mount that was done brings the host into mode On.
      module _ (found : first_finding old.medium ≡ None) (made : Mounted) (given : IsMounted old.medium new.medium made) where
        good_meta : h.bad_meta ≡ []
        good_meta = sym stands.device.metadata.bad ∙ none_found geo old new was sound x found

        told_now : IsTold geo old.medium
        told_now = told_of good_meta

        reads_last : ReadsAs geo old.medium (MayLeaveBlocks h.interrupted h.blocks) (last_image old.medium)
        reads_last = stands.device.blocks good_meta (last_image old.medium) (block_image-last geo was.valid old.medium sound was.lines)

        pages_last : ReadsPages geo old.medium (MayLeaveVolume geo h.interrupted h.volume) (last_image old.medium)
        pages_last = stands.device.volume good_meta (last_image old.medium) (volume_image-last geo old.medium sound (good_of geo old new was sound x (none_of good_meta)))

        -- the volume that was mounted stands for its pages
        holds : VolumeHolds made.volume new.medium pages_last.pages
        holds =
            let pages = pages_last.pages in
            let size : length (presence_of pages) ≡ geo.vpages = length-map pages is_present ∙ pages_last.all in
            record {
              there = sym (given.present ∙ ap (λ g. presence_read g (last_image old.medium)) told_now.sizes ∙ presence_read-replays geo (last_image old.medium) (presence_of pages) size pages_last.replays);
              stand = subst (λ g. PagesStand (volume_line g) new.medium pages) (sym (given.volume_geo ∙ told_now.sizes))
                  (pages-kept geo old.medium new.medium pages pages_last.all (range_kept geo old.medium new.medium was.valid (outside_of geo old new was sound x (none_of good_meta))) pages_last.stand);
            }

        files_last : ReadsFiles geo old.medium (MayLeaveFiles h.mappings h.interrupted h.files) (last_image old.medium)
        files_last = stands.device.files good_meta (last_image old.medium) (file_image-last geo old.medium sound (good_of geo old new was sound x (none_of good_meta)))

        -- and the journal for its files
        stands_for : FilesStand made.files.journal.geo new.medium made.files.journal.tables files_last.files
        stands_for =
            let t = files_last.tables in
            let tables = given.tables ∙ ap (λ g. tables_read g (last_image old.medium)) told_now.sizes
            ∙ tables_read-replays geo (last_image old.medium) files_last.word t files_last.replays files_last.holds files_last.right in
            subst (λ g. FilesStand g new.medium made.files.journal.tables files_last.files) (sym (given.journal_geo ∙ told_now.sizes))
            (subst (λ (x : Tables). FilesStand geo new.medium x files_last.files) (sym tables)
            (files-kept geo old.medium new.medium t files_last.files files_last.right
            (file_pages_kept geo old.medium new.medium was.valid (outside_of geo old new was sound x (none_of good_meta))) files_last.stand))

        seen : blocks_of made.blocks new.medium ≡ blocks_read geo old.medium.is_bad (last_image old.medium)
        seen = given.blocks ∙ ap (λ g. blocks_read g old.medium.is_bad (last_image old.medium)) told_now.sizes

        pub done_up : BroughtUp h (taken runs found made given) new
        done_up =
            let mounted = (serves_taken runs found made given).mounted refl in
            let next : Machine = record (holding geo (blocks_of made.blocks new.medium) pages_last.pages files_last.files) { unit = h.unit; cut_armed = h.cut_armed; fail_armed = h.fail_armed } in
            record {
              next = next;
              may = subst (λ lines. RecoversTo lines h next) (sym good_meta)
                  (record { blocks = subst (MayLeaveBlocks h.interrupted h.blocks) (sym seen) reads_last.blocks; volume = pages_last.is; files = files_last.is; state = refl });
              stands = record {
                geometry = stands.geometry;
                unit = stands.unit;
                mode = refl;
                blocks = λ _. refl;
                volume = λ _. holds;
                files = λ _. stands_for;
                mappings = λ _. refl;
                events = λ _. given.events files_last.files stands_for;
                device = record {
                  unit = runs.orders.unit ∙ stands.device.unit;
                  metadata = subst (MetadataStands geo new.medium) good_meta metadata;
                  blocks = λ _.
                      subst (λ g. EachReads g new.medium (λ bs. bs ≡ blocks_of made.blocks new.medium)) (mounted.geometry ∙ stands.geometry)
                      (served_reads made.blocks new.medium (subst (λ g. HasGoodMetadata g new.medium) (sym (mounted.geometry ∙ stands.geometry)) (good_lines geo new.medium (metadata.bad ∙ good_meta))) mounted.serves);
                  volume = λ _. subst (λ g. EachReadsPages g new.medium (λ pages. pages ≡ pages_last.pages)) (given.volume_geo ∙ told_now.sizes) (served_pages made.volume new.medium pages_last.pages given.volume_serves holds);
                  files = λ _.
                      subst (λ g. EachReadsFiles g new.medium (λ files. files ≡ files_last.files)) (given.journal_geo ∙ told_now.sizes)
                      (served_files made.files.journal new.medium files_last.files (subst (λ g. AreTables g.fpages made.files.journal.tables) (sym mounted.journal_geometry) mounted.journal_right) given.journal_serves stands_for);
                  power = power_stays;
                  cut_armed = cut_stays;
                  fail_armed = fail_stays;
                  whole = λ _. refl;
                  stopped = λ stop. cc stop;
                };
              };
            }

        pub mounts_done : (answer : Answer) → CountsBad made.blocks made.volume made.files.journal new.medium answer → MountsTo h answer (taken runs found made given) old new
        unfolding done_up
        mounts_done answer counts = record {
          next = done_up.next;
          ends = inl (counts.told ∙ ap (λ n. DoneBad n) (counts.count pages_last.pages holds files_last.files stands_for), done_up.may);
          tells = tells_work (record { calls = mount_calls; persists = mount_persists }) mount_calls mount_persists (omega arith) (omega arith) old.panel new.panel answer (ap stop_in counts.told) runs;
          stands = done_up.stands;
        }
