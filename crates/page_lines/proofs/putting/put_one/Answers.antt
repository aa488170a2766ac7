use Rattle.page_lines.proofs.SpanLemmas.{on_err}
use Rattle.page_lines.proofs.OthersLemmas.{others-trans}
use Rattle.page_lines.proofs.PutLemmas.{may_put-back, err_healed, ok_healed}
use Rattle.page_lines.proofs.putting.put_one.Goals as goal

pub returns-in_err-make_healthy-clause-err : goal.returns-in_err-make_healthy-clause-err
returns-in_err-make_healthy-clause-err g c = on_err c.from_residual.result (may_put-back _ _ c.args.line c.args.offset c.args.n c.args.bytes.now c.in_err-make_healthy.ensures.lines)

pub returns-clause-ok : goal.returns-clause-ok
returns-clause-ok g c = ok_healed c.store_part.result _ _ _ c.args.line c.args.offset c.args.n c.args.bytes.now c.requires.poison c.in_ok-make_healthy.ensures.lines c.store_part.ensures.lines

pub returns-clause-err : goal.returns-clause-err
returns-clause-err g c = err_healed c.store_part.result _ _ _ c.args.line c.args.offset c.args.n c.args.bytes.now c.requires.poison c.in_ok-make_healthy.ensures.lines c.store_part.ensures.lines

pub returns-clause-outside : goal.returns-clause-outside
returns-clause-outside g c = others-trans _ _ _ _ c.in_ok-make_healthy.ensures.outside c.store_part.ensures.outside
