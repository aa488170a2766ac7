use Rattle.std.proofs.Common.{◌+◌, ◌*◌, sym, subst}
use Rattle.page_table.specs.Pages.{MayTake, TableState}
use Rattle.page_table.proofs.SetLemmas.{may_move}
use Rattle.base_tests.proofs.page_tables.move_page.Goals as goal

pub set-requires-2-clause-unit : goal.set-requires-2-clause-unit
set-requires-2-clause-unit c =
    let at = 256 * 0 + c.args.to in
    subst (λ (table : TableState). MayTake table at c.get-unit.result) (sym c.set.ensures.pages)
    (may_move c.args.table.now c.get-unit.ensures.table (256 * 0 + c.args.from) at c.get-unit.result c.get-unit.ensures.unit)
