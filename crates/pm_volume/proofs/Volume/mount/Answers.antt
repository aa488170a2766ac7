use Rattle.std.proofs.Common.{sym, ap, subst}
use Rattle.line_words.specs.Told.{outcome_by, told_outcome}
use Rattle.line_words.proofs.ToldLemmas.{ended_as}
use Rattle.word_log.specs.declared.area.LogArea.{LogArea}
use Rattle.word_log.specs.Area.{Fits, IsOf, IsStrong}
use Rattle.word_log.specs.Mount.{says}
use Rattle.word_log.proofs.FindingLemmas.{IsRead, finds-table, read_of, right_of}
use Rattle.pm_volume.specs.Area.{volume_area}
use Rattle.pm_volume.specs.Mounting.{volume_mount_says}
use Rattle.pm_volume.specs.Presence.{wrong_page_word, wrong_presence}
use Rattle.pm_volume.proofs.AreaLemmas.{area_fits, area_strong}
use Rattle.pm_volume.proofs.MountedLemmas.{judged_pages, judged_serves, mounted_runs, mounted_words}
use Rattle.pm_volume.proofs.Volume.mount.Given as given
use Rattle.pm_volume.proofs.Volume.mount.Goals as goal
use Rattle.pm_volume.proofs.Volume.mount.Goals.{After-judge}

read : (g : given.Over) (c : goal.After-judge g) → IsRead (volume_area c.args.geo) (IsOf (volume_area c.args.geo)) (g.L.Lines.state c.args.dev.now).medium (g.L.Lines.state c.mount_words.new.dev).medium c.as_slice.result.now
read g c =
    let x = c.in_ok-log.ensures in
    read_of c.volume_area.result (volume_area c.args.geo) c.volume_area.ensures (g.L.Lines.state c.args.dev.now).medium (g.L.Lines.state c.mount_words.new.dev).medium _ c.as_slice.result.now c.as_slice.ensures x.words x.rest x.leaves.outside

pub mount_words-requires-clause-fits : goal.mount_words-requires-clause-fits
mount_words-requires-clause-fits g c =
    let m = (g.L.Lines.state c.args.dev.now).medium in
    subst (λ (a : LogArea). Fits a m) (sym c.volume_area.ensures) (area_fits c.args.geo c.requires.valid m c.requires.lines)

pub mount_words-requires-clause-strong : goal.mount_words-requires-clause-strong
mount_words-requires-clause-strong g c =
    let m = (g.L.Lines.state c.args.dev.now).medium in
    subst (λ (a : LogArea). IsStrong a m) (sym c.volume_area.ensures) (area_strong c.args.geo c.requires.valid m c.requires.strong)

pub returns-in_err-log-clause-runs : goal.returns-in_err-log-clause-runs
returns-in_err-log-clause-runs g c =
    mounted_runs c.args.geo c.volume_area.result (outcome_by volume_mount_says c.from_residual.result) (told_outcome (says c.in_err-log.field-0.0)) _ _ c.requires.valid c.volume_area.ensures
    (sym (ended_as volume_mount_says c.from_residual.result (says c.in_err-log.field-0.0) c.from_residual.ensures.1)) c.in_err-log.ensures.runs

pub returns-clause-ok : goal.returns-clause-ok
returns-clause-ok g c = judged_pages c.args.geo (g.L.Lines.state c.args.dev.now).medium c.as_slice.result.now (read g (goal.at.returns-clause-ok g c).After-judge).words c.judge.result c.judge.ensures.volume

pub returns-clause-serves : goal.returns-clause-serves
returns-clause-serves g c =
    judged_serves c.args.geo c.requires.valid _ _ (IsOf (volume_area c.args.geo)) c.as_slice.result.now (read g (goal.at.returns-clause-serves g c).After-judge) c.judge.result c.requires.lines c.requires.strong c.judge.ensures.volume

pub returns-clause-finds : goal.returns-clause-finds
returns-clause-finds g c =
    let old = (g.L.Lines.state c.args.dev.now).medium in
    let geo = c.args.geo in
    finds-table volume_mount_says (volume_area geo) (wrong_presence geo) old
    (right_of c.volume_area.result (volume_area geo) c.volume_area.ensures old c.in_ok-log.ensures.finds)
    (wrong_page_word geo c.as_slice.result.now) c.judge.result (ap (wrong_page_word geo) (mounted_words geo old c.as_slice.result.now (read g (goal.at.returns-clause-finds g c).After-judge).words)) c.judge.ensures.finds

pub returns-clause-runs : goal.returns-clause-runs
returns-clause-runs g c = mounted_runs c.args.geo c.volume_area.result _ _ _ _ c.requires.valid c.volume_area.ensures (sym c.judge.ensures.went) c.in_ok-log.ensures.runs
