use Rattle.std.proofs.Common.{length, sym, ◌∙◌, ap, subst}
use Rattle.line_words.specs.Told.{outcome_by, told_outcome}
use Rattle.line_words.proofs.ToldLemmas.{ended_as}
use Rattle.word_log.specs.declared.area.LogArea.{LogArea}
use Rattle.word_log.specs.Area.{Fits, IsOf, IsStrong}
use Rattle.word_log.specs.Leaving.{LeavesLog}
use Rattle.word_log.specs.Mount.{says}
use Rattle.word_log.proofs.FindingLemmas.{finds-table, read_of, right_of}
use Rattle.block_device.specs.Area.{block_area}
use Rattle.block_device.specs.Mounting.{mount_says, wrong_map, wrong_map_word}
use Rattle.block_device.proofs.PlaceLemmas.{area_fits, area_in_metadata, area_strong}
use Rattle.block_device.proofs.ReachLemmas.{keeps_reads-reached}
use Rattle.block_device.proofs.MountedLemmas.{judged_reads, judged_serves, mounted_runs, mounted_words}
use Rattle.block_device.proofs.Blocks.mount.Goals as goal

pub mount_words-requires-clause-fits : goal.mount_words-requires-clause-fits
mount_words-requires-clause-fits g c =
    let m = (g.L.Lines.state c.args.dev.now).medium in
    subst (λ (a : LogArea). Fits a m) (sym c.block_area.ensures) (area_fits c.args.geo c.requires.valid m c.requires.lines)

pub mount_words-requires-clause-strong : goal.mount_words-requires-clause-strong
mount_words-requires-clause-strong g c =
    let m = (g.L.Lines.state c.args.dev.now).medium in
    subst (λ (a : LogArea). IsStrong a m) (sym c.block_area.ensures) (area_strong c.args.geo c.requires.valid m c.requires.strong)

pub returns-in_err-log-clause-leaves : goal.returns-in_err-log-clause-leaves
returns-in_err-log-clause-leaves g c =
    subst (λ (a : LogArea). LeavesLog a (g.L.Lines.state c.args.dev.now).medium (g.L.Lines.state c.mount_words.new.dev).medium) c.block_area.ensures c.in_err-log.ensures.leaves

pub returns-in_err-log-clause-reads : goal.returns-in_err-log-clause-reads
returns-in_err-log-clause-reads g c =
    let geo = c.args.geo in
    let old = (g.L.Lines.state c.args.dev.now).medium in
    let new = (g.L.Lines.state c.mount_words.new.dev).medium in
    let leaves = subst (λ (a : LogArea). LeavesLog a old new) c.block_area.ensures c.in_err-log.ensures.leaves in
    keeps_reads-reached geo (IsOf (block_area geo)) (area_in_metadata geo c.requires.valid) old new c.requires.valid leaves.outside leaves.images

pub returns-in_err-log-clause-runs : goal.returns-in_err-log-clause-runs
returns-in_err-log-clause-runs g c =
    mounted_runs c.args.geo c.block_area.result (outcome_by mount_says c.from_residual.result) (told_outcome (says c.in_err-log.field-0.0)) _ _ c.requires.valid.whole_lines c.block_area.ensures
    (sym (ended_as mount_says c.from_residual.result (says c.in_err-log.field-0.0) c.from_residual.ensures.1)) c.in_err-log.ensures.runs

pub judge-requires-clause-length : goal.judge-requires-clause-length
judge-requires-clause-length g c =
    ap length c.as_slice.ensures ∙ c.in_ok-log.ensures.words.all ∙ ap (λ (a : LogArea). a.home.len) c.block_area.ensures

pub returns : goal.returns
returns g c =
    let geo = c.args.geo in
    let area = block_area geo in
    let valid = c.requires.valid in
    let old = (g.L.Lines.state c.args.dev.now).medium in
    let new = (g.L.Lines.state c.mount_words.new.dev).medium in
    let words = c.as_slice.result.now in
    let x = c.in_ok-log.ensures in
    let read = read_of c.block_area.result area c.block_area.ensures old new _ words c.as_slice.ensures x.words x.rest x.leaves.outside in
    let leaves = subst (λ (a : LogArea). LeavesLog a old new) c.block_area.ensures x.leaves in
    let in_meta = area_in_metadata geo valid in
    let made = c.judge.ensures in
    record {
      ok = judged_reads geo valid (IsOf area) in_meta old new words read c.judge.result made.blocks made.finds;
      finds =
          finds-table mount_says area (wrong_map geo) old (right_of c.block_area.result area c.block_area.ensures old x.finds)
          (wrong_map_word geo words) c.judge.result (ap (wrong_map_word geo) (mounted_words geo old words read.words)) made.finds;
      leaves = leaves;
      reads = keeps_reads-reached geo (IsOf area) in_meta old new valid leaves.outside leaves.images;
      serves = judged_serves geo valid (IsOf area) in_meta old new words read c.judge.result c.requires.lines c.requires.strong made.blocks made.finds;
      settled = made.settled;
      runs = mounted_runs geo c.block_area.result _ _ _ _ valid.whole_lines c.block_area.ensures (sym made.went) x.runs;
    }
