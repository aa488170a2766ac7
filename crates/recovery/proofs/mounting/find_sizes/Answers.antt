use Rattle.std.proofs.Common.{Ok, Err, Result, sym, ◌∙◌, ap, subst}
use Rattle.line_device.specs.Panel.{Outcome, Runs}
use Rattle.word_tables.specs.declared.geometry.Geometry.{Geometry}
use Rattle.word_tables.specs.Bounds.{IsValid}
use Rattle.word_tables.specs.Layout.{total_lines}
use Rattle.recovery.specs.declared.fault.MountFault.{MountFault}
use Rattle.recovery.specs.Findings.{early_finding}
use Rattle.recovery.specs.Mounting.{mount_outcome}
use Rattle.recovery.proofs.FindingLemmas.{finds_on, handed, finds_superblock, finds_early, is_superblock, good_metadata, strong_metadata}
use Rattle.recovery.proofs.mounting.find_sizes.Goals as goal

pub returns-in_err-geo-clause-finds : goal.returns-in_err-geo-clause-finds
returns-in_err-geo-clause-finds g c =
    let m = (g.L.Lines.state c.args.dev.now).medium in
    let f = c.in_err-geo.field-0.0 in
    finds_on (early_finding m) c.from_residual.result f (handed c.from_residual.result f c.from_residual.ensures.1) (finds_superblock Geometry Geometry m f c.in_err-geo.ensures.finds)

pub check_metadata-requires-clause-valid : goal.check_metadata-requires-clause-valid
check_metadata-requires-clause-valid g c =
    subst IsValid (sym c.in_ok-geo.ensures.geo) (is_superblock (g.L.Lines.state c.args.dev.now).medium c.in_ok-geo.ensures.finds).valid

pub check_metadata-requires-clause-lines : goal.check_metadata-requires-clause-lines
check_metadata-requires-clause-lines g c =
    c.in_ok-geo.ensures.lines.count ∙ (is_superblock (g.L.Lines.state c.args.dev.now).medium c.in_ok-geo.ensures.finds).count ∙ ap total_lines (sym c.in_ok-geo.ensures.geo)

pub returns-in_err-check_metadata-clause-finds : goal.returns-in_err-check_metadata-clause-finds
returns-in_err-check_metadata-clause-finds g c =
    let old = (g.L.Lines.state c.args.dev.now).medium in
    let now = (g.L.Lines.state c.read_superblock.new.dev).medium in
    let f = c.in_err-check_metadata.field-0.0 in
    let r = c.from_residual-in_err-check_metadata.result in
    finds_on (early_finding old) r f (handed r f c.from_residual-in_err-check_metadata.ensures.1)
    (finds_early {T = Geometry} c.in_ok-geo.geo old now (Err f) c.in_ok-geo.ensures.geo c.in_ok-geo.ensures.lines c.in_ok-geo.ensures.finds c.in_err-check_metadata.ensures.finds)

pub returns-in_err-check_metadata-clause-runs : goal.returns-in_err-check_metadata-clause-runs
returns-in_err-check_metadata-clause-runs g c =
    let f = c.in_err-check_metadata.field-0.0 in
    let r = c.from_residual-in_err-check_metadata.result in
    subst (λ (e : Outcome). Runs 1 0 e (g.L.Lines.state c.args.dev.now).panel (g.L.Lines.state c.read_superblock.new.dev).panel)
    (sym (ap (λ (q : Result Geometry MountFault). mount_outcome q) (handed r f c.from_residual-in_err-check_metadata.ensures.1) ∙ c.in_err-check_metadata.ensures.went))
    c.in_ok-geo.ensures.runs

pub returns-clause-order : goal.returns-clause-order
returns-clause-order g c =
    let now = (g.L.Lines.state c.read_superblock.new.dev).medium in
    let told = is_superblock (g.L.Lines.state c.args.dev.now).medium c.in_ok-geo.ensures.finds in
    record {
      valid = subst IsValid (sym c.in_ok-geo.ensures.geo) told.valid;
      count = c.in_ok-geo.ensures.lines.count ∙ told.count ∙ ap total_lines (sym c.in_ok-geo.ensures.geo);
      good = good_metadata c.in_ok-geo.geo now c.in_ok-check_metadata.ensures.finds;
      strong = strong_metadata c.in_ok-geo.geo now c.in_ok-check_metadata.ensures.finds;
    }

pub returns-clause-finds : goal.returns-clause-finds
returns-clause-finds g c =
    let old = (g.L.Lines.state c.args.dev.now).medium in
    let now = (g.L.Lines.state c.read_superblock.new.dev).medium in
    finds_early {T = Geometry} c.in_ok-geo.geo old now (Ok c.in_ok-geo.geo) c.in_ok-geo.ensures.geo c.in_ok-geo.ensures.lines c.in_ok-geo.ensures.finds c.in_ok-check_metadata.ensures.finds
