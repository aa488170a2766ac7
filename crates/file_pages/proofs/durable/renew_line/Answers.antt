use Rattle.line_words.proofs.BesideLemmas.{beside-persist, beside-store, beside-trans}
use Rattle.file_pages.proofs.DurableLemmas.{stands-persist}
use Rattle.file_pages.proofs.durable.renew_line.Goals as goal

pub returns-in_err-store_line-clause-outside : goal.returns-in_err-store_line-clause-outside
returns-in_err-store_line-clause-outside g c = beside-trans _ _ _ _ c.in_ok-make_good.ensures.outside (beside-store _ _ _ c.args.line 0 c.args.bytes.now c.store_line.ensures.lines)

pub returns-clause-ok : goal.returns-clause-ok
returns-clause-ok g c = stands-persist c.persist_line.result _ _ _ c.args.line c.args.bytes.now c.in_ok-make_good.ensures.ok c.requires.length c.in_ok-store_line.ensures.lines c.persist_line.ensures.lines

pub returns-clause-outside : goal.returns-clause-outside
returns-clause-outside g c =
    beside-trans _ _ _ _ (beside-trans _ _ _ _ c.in_ok-make_good.ensures.outside (beside-store _ _ _ c.args.line 0 c.args.bytes.now c.store_line.ensures.lines))
    (beside-persist _ _ _ c.args.line c.persist_line.ensures.lines)
