use Rattle.std.proofs.Common.{◌∙◌}
use Rattle.line_device.proofs.WriteBackLemmas.{write_back-refl, write_back-trans}
use Rattle.image_file.proofs.ExtractLemmas.{extracting-starts, extracting-next}
use Rattle.image_file.proofs.extracting.extract.Goals as goal

pub returns-in_err-reserve-clause-lines : goal.returns-in_err-reserve-clause-lines
returns-in_err-reserve-clause-lines g c = write_back-refl _

pub loop-n-init : goal.loop-n-init
loop-n-init g c = extracting-starts _ _ (c.reserve.ensures.items ∙ c.new-lines.ensures)

pub returns-in_err-line-clause-lines : goal.returns-in_err-line-clause-lines
returns-in_err-line-clause-lines g c = write_back-trans _ _ _ c.loop-n.invariant.wrote c.in_err-line.ensures.lines

pub returns-in_err-push-clause-lines : goal.returns-in_err-push-clause-lines
returns-in_err-push-clause-lines g c = write_back-trans _ _ _ c.loop-n.invariant.wrote c.in_ok-line.ensures.lines

pub loop-n-preserved : goal.loop-n-preserved
loop-n-preserved g c = extracting-next _ _ _ c.loop-n.n _ _ c.in_ok-line.line c.in_ok-push.ensures.ok c.in_ok-line.ensures.told c.in_ok-line.ensures.lines c.in_ok-line.ensures.power c.in_ok-line.ensures.sets_up c.loop-n.invariant
