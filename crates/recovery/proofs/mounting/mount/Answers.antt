use Rattle.std.proofs.Common.{refl, ◌∙◌}
use Rattle.word_tables.specs.declared.geometry.Geometry.{Geometry}
use Rattle.recovery.specs.declared.Mounted.{Mounted}
use Rattle.recovery.specs.Findings.{geometry_told, first_finding}
use Rattle.recovery.proofs.FindingLemmas.{finds_before, finds_on, finds_stopped, handed, inspected_parts}
use Rattle.recovery.proofs.MountLemmas.{left_unreplayed, logs_same, mount_files, mount_finds, mount_leaves, mount_mounted}
use Rattle.recovery.proofs.mounting.mount.Goals as goal

pub returns-in_err-geo-clause-leaves : goal.returns-in_err-geo-clause-leaves
returns-in_err-geo-clause-leaves g c =
    let old = (g.L.Lines.state c.args.dev.now).medium in
    left_unreplayed old (g.L.Lines.state c.inspect.new.dev).medium (geometry_told old) refl c.in_err-geo.ensures.lines

pub returns-in_err-geo-clause-finds : goal.returns-in_err-geo-clause-finds
returns-in_err-geo-clause-finds g c =
    let m = (g.L.Lines.state c.args.dev.now).medium in
    let f = c.in_err-geo.field-0.0 in
    finds_on (first_finding m) c.from_residual.result f (handed c.from_residual.result f c.from_residual.ensures.1) (finds_before Mounted Geometry m f c.in_err-geo.ensures.finds)

pub replay_logs-requires-clause-right : goal.replay_logs-requires-clause-right
replay_logs-requires-clause-right g c =
    let old = (g.L.Lines.state c.args.dev.now).medium in
    let now = (g.L.Lines.state c.inspect.new.dev).medium in
    logs_same old now c.in_ok-geo.geo c.in_ok-geo.ensures.geo c.in_ok-geo.ensures.lines ∙ (inspected_parts old c.in_ok-geo.ensures.finds).1

pub returns-in_err-tables-clause-finds : goal.returns-in_err-tables-clause-finds
returns-in_err-tables-clause-finds g c =
    let f = c.in_err-tables.field-0.0 in
    let r = c.from_residual-in_err-tables.result in
    finds_stopped (first_finding (g.L.Lines.state c.args.dev.now).medium) r f (handed r f c.from_residual-in_err-tables.ensures.1) c.in_err-tables.ensures.stop

pub returns-in_err-tables-clause-leaves : goal.returns-in_err-tables-clause-leaves
returns-in_err-tables-clause-leaves g c =
    let old = (g.L.Lines.state c.args.dev.now).medium in
    let now = (g.L.Lines.state c.inspect.new.dev).medium in
    let geo = c.in_ok-geo.ensures in
    mount_leaves old now c.in_ok-geo.geo geo.geo geo.lines geo.finds (g.L.Lines.state c.replay_logs.new.dev).medium geo.order c.in_err-tables.ensures.left

pub judge_tables-requires-clause-serves : goal.judge_tables-requires-clause-serves
judge_tables-requires-clause-serves g c =
    let old = (g.L.Lines.state c.args.dev.now).medium in
    let now = (g.L.Lines.state c.inspect.new.dev).medium in
    let new = (g.L.Lines.state c.replay_logs.new.dev).medium in
    let geo = c.in_ok-geo.ensures in
    let told = c.in_ok-tables.ensures in
    mount_files old now c.in_ok-geo.geo geo.geo geo.lines geo.finds c.in_ok-tables.tables told.tables new geo.order told.left told.files_rest

pub returns-clause-leaves : goal.returns-clause-leaves
returns-clause-leaves g c =
    let old = (g.L.Lines.state c.args.dev.now).medium in
    let now = (g.L.Lines.state c.inspect.new.dev).medium in
    let geo = c.in_ok-geo.ensures in
    mount_leaves old now c.in_ok-geo.geo geo.geo geo.lines geo.finds (g.L.Lines.state c.replay_logs.new.dev).medium geo.order c.in_ok-tables.ensures.left

pub returns-clause-mounted : goal.returns-clause-mounted
returns-clause-mounted g c =
    let old = (g.L.Lines.state c.args.dev.now).medium in
    let now = (g.L.Lines.state c.inspect.new.dev).medium in
    let new = (g.L.Lines.state c.replay_logs.new.dev).medium in
    let geo = c.in_ok-geo.ensures in
    let told = c.in_ok-tables.ensures in
    mount_mounted old now c.in_ok-geo.geo geo.geo geo.lines geo.finds c.in_ok-tables.tables told.tables new geo.order told.left told.files_rest told.blocks_rest told.volume_rest
    c.judge_tables.result c.judge_tables.ensures.made c.judge_tables.ensures.finds

pub returns-clause-finds : goal.returns-clause-finds
returns-clause-finds g c =
    let old = (g.L.Lines.state c.args.dev.now).medium in
    let now = (g.L.Lines.state c.inspect.new.dev).medium in
    let geo = c.in_ok-geo.ensures in
    mount_finds old now c.in_ok-geo.geo geo.geo geo.lines geo.finds c.in_ok-tables.tables c.in_ok-tables.ensures.tables c.judge_tables.result c.judge_tables.ensures.finds
