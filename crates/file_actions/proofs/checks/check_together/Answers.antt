use Rattle.std.proofs.Common.{length, nat_lt, sym, ◌∙◌, arith}
use Rattle.std.proofs.lemmas.Bool.{le-ltb, or_from}
use Rattle.file_actions.specs.Rewriting.{pages_touched}
use Rattle.file_actions.proofs.RefusalLemmas.{overlap_told}
use Rattle.file_actions.proofs.checks.check_together.Goals as goal

pub returns-then-is_some-clause-refused : goal.returns-then-is_some-clause-refused
returns-then-is_some-clause-refused c =
    let few =
    or_from (nat_lt 16 (pages_touched c.args.ranges.now c.args.pages)) (nat_lt 8 (length c.args.ranges.now))
    (le-ltb 16 (pages_touched c.args.ranges.now c.args.pages) (omega (arith, c.if-pages_touched-gt-MOST_PAGES.false, c.pages_touched.ensures))) (le-ltb 8 (length c.args.ranges.now) c.if-ranges-gt-MOST_RANGES.false) in
    overlap_told c.args.pages c.args.ranges.now c.first_overlap.result c.in_ok-check_extents.ensures.refused few c.first_overlap.ensures (sym c.is_some.ensures ∙ c.if-is_some.true)
