use Rattle.std.proofs.Common.{◌≡◌, List, [], refl, ap, sym, subst, ◌∙◌}
use Rattle.file_journal.specs.Tables.{AreTables}
use Rattle.recovery.specs.Findings.{geometry_told}
use Rattle.recovery.specs.Mounting.{IsInOrder}
use Rattle.machine_host.specs.Lines.{MetadataStands}
use Rattle.machine_host.specs.declared.held.HeldFiles.{HeldFiles}
use Rattle.machine_host.specs.Stands.{AreMounted, just_mounted}
use Rattle.machine_host.proofs.MountLemmas.{durable_flushed, found_tables, metadata_mounted, mount_within}
use Rattle.machine_host.proofs.MountedLemmas.{readable_served, stands_found}
use Rattle.machine_host.proofs.BadLineLemmas.{good_lines}
use Rattle.machine_host.proofs.host.Host.mount.Goals as goal
use Rattle.nvm_model.specs.Events.{restart_events}
use Rattle.nvm_model.specs.Storage.{File}
use Rattle.file_journal.specs.Standing.{FilesStand}
use Rattle.machine_host.proofs.RoomLemmas.{room_of}

pub returns-clause-metadata : goal.returns-clause-metadata
returns-clause-metadata g c =
    let old = (g.D.Lines.state c.args.device.now).medium in
    let new = (g.D.Lines.state c.mount.new.dev).medium in
    let x = c.in_ok-mounted.ensures in
    let is = x.mounted in
    subst (λ geo. MetadataStands geo new []) (sym is.geo)
    (metadata_mounted old new c.requires.some c.requires.flushed x.finds x.leaves.outside (subst (λ geo. IsInOrder geo new) is.geo is.order))

pub returns-clause-serves : goal.returns-clause-serves
returns-clause-serves g c =
    let old = (g.D.Lines.state c.args.device.now).medium in
    let new = (g.D.Lines.state c.mount.new.dev).medium in
    let x = c.in_ok-mounted.ensures in
    let is = x.mounted in
    record {
      layout = (returns-clause-metadata g c).layout;
      readable = λ none. readable_served c.in_ok-mounted.mounted.geo c.in_ok-mounted.mounted.blocks new (is.blocks_geo ∙ sym is.geo) (is.blocks_serve (durable_flushed _ c.requires.flushed)) (good_lines c.in_ok-mounted.mounted.geo new none);
      power = x.runs.cause.0 ∙ c.requires.on;
      mounted = λ _. subst (λ (f : HeldFiles). AreMounted c.in_ok-mounted.mounted.geo c.in_ok-mounted.mounted.blocks c.in_ok-mounted.mounted.volume f new) (sym c.of.ensures) (record {
        geometry = is.blocks_geo ∙ sym is.geo;
        settled = is.settled.0;
        serves = is.blocks_serve (durable_flushed _ c.requires.flushed);
        volume_geometry = is.volume_geo ∙ sym is.geo;
        volume_settled = is.settled.1;
        volume_serves = is.volume_serves;
        journal_geometry = is.journal_geo ∙ sym is.geo;
        journal_settled = is.settled.2;
        journal_serves = is.journal_serves;
        journal_held = is.held;
        pages_settled = is.settled.3;
        mapped = tt;
        room = room_of (just_mounted c.in_ok-mounted.mounted.files c.in_ok-mounted.mounted.events) new is.room;
        journal_right = subst (λ geo. AreTables geo.fpages c.in_ok-mounted.mounted.files.journal.tables) (sym is.geo)
            (subst (AreTables (geometry_told old).fpages) (sym is.tables) (found_tables old x.finds));
      });
      stopped = λ stop. cc stop;
    }

pub returns-clause-stands : goal.returns-clause-stands
returns-clause-stands g c = λ image shows by_unit.
    let old = (g.D.Lines.state c.args.device.now) in
    let new = (g.D.Lines.state c.mount.new.dev) in
    let x = c.in_ok-mounted.ensures in
    let is = x.mounted in
    stands_found _ old new image (g.met.D.Lines.sound c.args.device.now) c.requires.flushed x.finds shows by_unit (x.runs.orders.unit ∙ sym c.requires.unit) is.geo refl is.blocks is.present (ap (λ (f : HeldFiles). f.pages.journal.tables) c.of.ensures ∙ is.tables) x.leaves.outside (returns-clause-metadata g c)
    (returns-clause-serves g c) (ap (λ (f : HeldFiles). f.mappings) c.of.ensures)
    (subst (λ (f : HeldFiles). (files : List File) → FilesStand f.pages.journal.geo new.medium f.pages.journal.tables files → f.events.items ≡ restart_events files) (sym c.of.ensures) is.events)

pub returns-clause-runs : goal.returns-clause-runs
returns-clause-runs g c = mount_within (g.D.Lines.state c.args.device.now).medium _ _ _ c.in_ok-mounted.ensures.runs
