use Rattle.std.proofs.Common.{◌∙◌, sym, ap, Some, option_map, arith}
use Rattle.line_device.specs.Word.{word_at}
use Rattle.nvm_model.specs.Page.{cell_of}
use Rattle.pm_volume.specs.Object.{VolumeState}
use Rattle.pm_volume.proofs.HoldsLemmas.{length-holds}
use Rattle.append_log.proofs.OpenLemmas.{counts-kept, found-passed, open-length, open-right, open-wrong}
use Rattle.append_log.specs.Refusals.{load_refusal}
use Rattle.append_log.proofs.log.AppendLog.open.Goals as goal

pub returns-in_err-line-clause-refused : goal.returns-in_err-line-clause-refused
returns-in_err-line-clause-refused g c = λ pages holds.
    found-passed _ _ (load_refusal 0 (cell_of pages 0)) _ c.in_err-line.field-0.0 c.from_residual.result c.from_residual.ensures.1 (c.in_err-line.ensures.refused pages holds)

pub returns-then-len-count-clause-refused : goal.returns-then-len-count-clause-refused
returns-then-len-count-clause-refused g c = λ pages holds.
    let pages_are = ap (λ (v : VolumeState). v.geo.vpages) c.load_line.ensures.object in
    open-wrong pages c.in_ok-line.line (c.in_ok-line.ensures.ok pages holds)
    (omega (arith, c.if-len-count.true, c.count_in-len.ensures, c.count.ensures.count, length-holds c.args.volume _ pages holds, c.requires.ready.serves.all, pages_are))

pub returns-clause-refused : goal.returns-clause-refused
returns-clause-refused g c = λ pages holds.
    let pages_are = ap (λ (v : VolumeState). v.geo.vpages) c.load_line.ensures.object in
    open-right pages c.in_ok-line.line (c.in_ok-line.ensures.ok pages holds)
    (omega (arith, c.if-len-count.false, c.count_in-len.ensures, c.count.ensures.count, length-holds c.args.volume _ pages holds, c.requires.ready.serves.all, pages_are))

pub returns-clause-ok : goal.returns-clause-ok
returns-clause-ok g c = λ pages holds.
    let pages_are = ap (λ (v : VolumeState). v.geo.vpages) c.load_line.ensures.object in
    open-length pages c.in_ok-line.line (c.in_ok-line.ensures.ok pages holds)
    (omega (arith, c.if-len-count.false, c.count_in-len.ensures, c.count.ensures.count, length-holds c.args.volume _ pages holds, c.requires.ready.serves.all, pages_are))
    ∙ ap Some (sym c.count_in-len.ensures)

pub returns-clause-serves : goal.returns-clause-serves
returns-clause-serves g c = record {
  volume = c.load_line.ensures.serves;
  counts =
      counts-kept c.args.volume c.load_line.new.volume (g.L.Lines.state c.args.dev.now).medium (g.L.Lines.state c.load_line.new.dev).medium c.count_in-len.result
      (ap (λ (v : VolumeState). v.geo) c.load_line.ensures.object) (ap (λ (v : VolumeState). v.present) c.load_line.ensures.object) c.load_line.ensures.lines
      (λ pages holds. ap (option_map (λ bs. word_at bs 0)) (c.in_ok-line.ensures.ok pages holds) ∙ ap Some (sym c.count_in-len.ensures));
  within = omega (arith, c.if-len-count.false, c.count.ensures.count);
}
