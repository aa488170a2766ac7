use Rattle.std.proofs.Common.{true, false, get_or, ltb, sym, ◌∙◌, arith}
use Rattle.std.proofs.lemmas.Bool.{and_from, and_left, and_right, false≢true, le-ltb, lt-ltb}
use Rattle.std.proofs.lemmas.Option.{get_or_from_slice_get}
use Rattle.free_pool.specs.Units.{free_count}
use Rattle.page_table.proofs.ClaimLemmas.{not_free}
use Rattle.page_table.proofs.judging.take.Goals as goal
use Rattle.page_table.proofs.judging.take.Goals.{then-free-le-SPARE_UNITS-via-then-free-le-SPARE_UNITS, then-free-le-SPARE_UNITS-via-else-free-le-SPARE_UNITS+then-not-is_free}

pub returns-then-free-le-SPARE_UNITS-clause-right : goal.returns-then-free-le-SPARE_UNITS-clause-right
returns-then-free-le-SPARE_UNITS-clause-right c =
    let free = c.args.free.now in
    elim c.then-free-le-SPARE_UNITS.branch [
      | then-free-le-SPARE_UNITS-via-then-free-le-SPARE_UNITS w ↦ sym (and_left (ltb 16 (free_count free)) (get_or free c.args.unit false) (le-ltb 16 (free_count free) (omega (arith, c.free.ensures, w.if-free-le-SPARE_UNITS.true))))
      | then-free-le-SPARE_UNITS-via-else-free-le-SPARE_UNITS+then-not-is_free w ↦
          sym (and_right (ltb 16 (free_count free)) (get_or free c.args.unit false) (not_free free c.args.unit (λ is_free. false≢true (sym w.if-not-is_free.true ∙ w.is_free.ensures.1 is_free))))
    ]

pub returns-clause-right : goal.returns-clause-right
returns-clause-right c =
    let free = c.args.free.now in
    sym (and_from (ltb 16 (free_count free)) (get_or free c.args.unit false)
    (lt-ltb 16 (free_count free) (omega (arith, c.free.ensures, c.if-free-le-SPARE_UNITS.false)))
    (get_or_from_slice_get free c.args.unit true false (c.is_free.ensures.0 c.if-not-is_free.false)))
