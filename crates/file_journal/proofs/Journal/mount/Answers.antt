use Rattle.std.proofs.Common.{sym, ap, subst}
use Rattle.line_words.specs.Told.{outcome_by, told_outcome}
use Rattle.line_words.proofs.ToldLemmas.{ended_as}
use Rattle.word_log.specs.declared.area.LogArea.{LogArea}
use Rattle.word_log.specs.Area.{Fits, IsOf, IsStrong}
use Rattle.word_log.specs.Leaving.{LeavesLog}
use Rattle.word_log.specs.Mount.{says}
use Rattle.word_log.proofs.FindingLemmas.{finds-table, read_of, right_of}
use Rattle.file_journal.specs.Area.{file_area}
use Rattle.file_journal.specs.Mounting.{journal_mount_says}
use Rattle.file_journal.specs.Reading.{words_read, wrong_table}
use Rattle.file_journal.proofs.AreaLemmas.{area_fits, area_strong}
use Rattle.file_journal.proofs.MountLemmas.{judged_serves, judged_tables, mounted_runs, mounted_words}
use Rattle.file_journal.proofs.Journal.mount.Goals as goal

pub mount_words-requires-clause-fits : goal.mount_words-requires-clause-fits
mount_words-requires-clause-fits g c =
    let m = (g.L.Lines.state c.args.dev.now).medium in
    subst (λ (a : LogArea). Fits a m) (sym c.file_area.ensures) (area_fits c.args.geo c.requires.valid m c.requires.lines)

pub mount_words-requires-clause-strong : goal.mount_words-requires-clause-strong
mount_words-requires-clause-strong g c =
    let m = (g.L.Lines.state c.args.dev.now).medium in
    subst (λ (a : LogArea). IsStrong a m) (sym c.file_area.ensures) (area_strong c.args.geo c.requires.valid m c.requires.strong)

pub returns-in_err-log-clause-leaves : goal.returns-in_err-log-clause-leaves
returns-in_err-log-clause-leaves g c = subst (λ (a : LogArea). LeavesLog a (g.L.Lines.state c.args.dev.now).medium (g.L.Lines.state c.mount_words.new.dev).medium) c.file_area.ensures c.in_err-log.ensures.leaves

pub returns-clause-leaves : goal.returns-clause-leaves
returns-clause-leaves g c = subst (λ (a : LogArea). LeavesLog a (g.L.Lines.state c.args.dev.now).medium (g.L.Lines.state c.mount_words.new.dev).medium) c.file_area.ensures c.in_ok-log.ensures.leaves

pub returns-in_err-log-clause-runs : goal.returns-in_err-log-clause-runs
returns-in_err-log-clause-runs g c =
    mounted_runs c.args.geo c.file_area.result (outcome_by journal_mount_says c.from_residual.result) (told_outcome (says c.in_err-log.field-0.0)) _ _ c.file_area.ensures
    (sym (ended_as journal_mount_says c.from_residual.result (says c.in_err-log.field-0.0) c.from_residual.ensures.1)) c.in_err-log.ensures.runs

pub returns-clause-ok : goal.returns-clause-ok
returns-clause-ok g c =
    let old = (g.L.Lines.state c.args.dev.now).medium in
    let new = (g.L.Lines.state c.mount_words.new.dev).medium in
    let x = c.in_ok-log.ensures in
    let read = read_of c.file_area.result (file_area c.args.geo) c.file_area.ensures old new _ c.as_slice.result.now c.as_slice.ensures x.words x.rest x.leaves.outside in
    judged_tables c.args.geo old c.as_slice.result.now read.words c.judge.result c.judge.ensures.journal

pub returns-clause-serves : goal.returns-clause-serves
returns-clause-serves g c =
    let old = (g.L.Lines.state c.args.dev.now).medium in
    let new = (g.L.Lines.state c.mount_words.new.dev).medium in
    let x = c.in_ok-log.ensures in
    judged_serves c.args.geo old new (IsOf (file_area c.args.geo)) c.as_slice.result.now
    (read_of c.file_area.result (file_area c.args.geo) c.file_area.ensures old new _ c.as_slice.result.now c.as_slice.ensures x.words x.rest x.leaves.outside)
    c.judge.result c.requires.lines c.requires.strong c.judge.ensures.journal c.judge.ensures.finds

pub returns-clause-finds : goal.returns-clause-finds
returns-clause-finds g c =
    let old = (g.L.Lines.state c.args.dev.now).medium in
    let new = (g.L.Lines.state c.mount_words.new.dev).medium in
    let x = c.in_ok-log.ensures in
    let geo = c.args.geo in
    let read = read_of c.file_area.result (file_area geo) c.file_area.ensures old new _ c.as_slice.result.now c.as_slice.ensures x.words x.rest x.leaves.outside in
    finds-table journal_mount_says (file_area geo) (λ word. wrong_table geo (words_read geo word)) old
    (right_of c.file_area.result (file_area geo) c.file_area.ensures old x.finds)
    (wrong_table geo c.as_slice.result.now) c.judge.result (ap (wrong_table geo) (mounted_words geo old c.as_slice.result.now read.words)) c.judge.ensures.finds

pub returns-clause-runs : goal.returns-clause-runs
returns-clause-runs g c = mounted_runs c.args.geo c.file_area.result _ _ _ _ c.file_area.ensures (sym c.judge.ensures.went) c.in_ok-log.ensures.runs
