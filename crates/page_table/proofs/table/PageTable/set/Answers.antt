use Rattle.std.proofs.Common.{◌≡◌, ◌+◌, ◌*◌, ℕ, List, Option, Some, map, set, slice_get, subst, sym, ap, ◌∙◌, arith}
use Rattle.page_table.specs.Pages.{MayTake, TableState, unit_of}
use Rattle.free_pool.proofs.BesideLemmas.{used_after, used_before}
use Rattle.page_table.proofs.SetLemmas.{set_is_table, units_set}
use Rattle.page_table.proofs.table.PageTable.set.Goals as goal

pub recounted-self-inside-requires-clause-old : goal.recounted-self-inside-requires-clause-old
recounted-self-inside-requires-clause-old c =
    let t = c.self.inside in
    let was = subst (λ (table : TableState). slice_get table.pages (256 * c.args.inode + c.args.page) ≡ Some c.get-old.result) (sym c.self.view_is) c.get-old.ensures.unit in
    omega (arith, c.self.invariant.1, used_before (map unit_of t.words.items) (256 * c.args.inode + c.args.page) c.args.unit c.get-old.result was)

pub invariant_of-self : goal.invariant_of-self
invariant_of-self c =
    let t = c.self.inside in
    let at = 256 * c.args.inode + c.args.page in
    let pages = map unit_of t.words.items in
    let was = subst (λ (table : TableState). slice_get table.pages at ≡ Some c.get-old.result) (sym c.self.view_is) c.get-old.ensures.unit in
    let may = subst (λ (table : TableState). MayTake table at c.args.unit) (sym c.self.view_is) c.requires.unit in
    let is = units_set t.words.items c.entry_of.result at c.word_of.result c.args.unit c.entry_of.ensures c.word_of.ensures.inverse in
    rw is (
      set_is_table t.units pages at c.self.invariant.0 c.args.unit may,
      omega (arith, c.self.invariant.1, c.recounted-self-inside.ensures, used_before pages at c.args.unit c.get-old.result was, used_after pages at c.args.unit c.get-old.result was),
    )

pub returns-clause-pages : goal.returns-clause-pages
returns-clause-pages c =
    let t = c.self.inside in
    let at = 256 * c.args.inode + c.args.page in
    let is = units_set t.words.items c.entry_of.result at c.word_of.result c.args.unit c.entry_of.ensures c.word_of.ensures.inverse in
    let after : TableState → TableState = λ table. record table { pages = set table.pages at c.args.unit } in
    ap (λ (pages : List (Option ℕ)). let table : TableState = record { units = t.units; pages = pages } in table) is ∙ ap after c.self.view_is

pub returns-clause-table : goal.returns-clause-table
returns-clause-table c =
    let t = c.self.inside in
    let at = 256 * c.args.inode + c.args.page in
    let may = subst (λ (table : TableState). MayTake table at c.args.unit) (sym c.self.view_is) c.requires.unit in
    let is = units_set t.words.items c.entry_of.result at c.word_of.result c.args.unit c.entry_of.ensures c.word_of.ensures.inverse in
    rw is (set_is_table t.units (map unit_of t.words.items) at c.self.invariant.0 c.args.unit may)
