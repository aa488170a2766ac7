use Rattle.std.proofs.Common.{◌*◌, ◌==◌, length, nat_lt, Some, None, Err, Ok, refl, sym, ◌∙◌}
use Rattle.std.proofs.lemmas.Bool.{le-ltb, lt-ltb, or_from, or_left, or_right}
use Rattle.page_lines.proofs.ResultLemmas.{checks_found}
use Rattle.flush_engine.specs.declared.fault.FlushFault.TheVariants.{Poison}
use Rattle.flush_engine.specs.Refusals.{flush_says}
use Rattle.flush_engine.proofs.RefusedLemmas.{extents_checked, flushed-err, limit_told, poison_told}
use Rattle.flush_engine.proofs.checks.check.Goals as goal
use Rattle.flush_engine.proofs.checks.check.Goals.{then-is_empty-via-then-is_empty, then-is_empty-via-else-is_empty+then-spans-gt-MOST_SPANS}

pub returns-in_err-check_extents-clause-verify : goal.returns-in_err-check_extents-clause-verify
returns-in_err-check_extents-clause-verify g c = flushed-err c.in_err-check_extents.field-0.0 c.from_residual.result c.from_residual.ensures.1 c.in_err-check_extents.ensures.verify

pub returns-in_err-check_extents-clause-refused : goal.returns-in_err-check_extents-clause-refused
returns-in_err-check_extents-clause-refused g c = λ files file at.
    let m = (g.L.Lines.state c.args.dev.now).medium in
    let s = c.args.files.now.journal in
    let told = extents_checked s m c.args.inode c.in_err-check_extents.ensures.tables files file at c.args.spans.now (Err c.in_err-check_extents.field-0.0) c.in_err-check_extents.ensures.refused in
    checks_found flush_says _ _ _ _ c.in_err-check_extents.field-0.0 c.from_residual.result c.from_residual.ensures.1 told

pub returns-then-is_empty-clause-refused : goal.returns-then-is_empty-clause-refused
returns-then-is_empty-clause-refused g c = λ files file at.
    let m = (g.L.Lines.state c.args.dev.now).medium in
    let s = c.args.files.now.journal in
    limit_told s m c.args.inode c.in_ok-check_extents.ensures.tables files file at c.args.spans.now c.in_ok-check_extents.ensures.refused
    (elim c.then-is_empty.branch [
      | then-is_empty-via-then-is_empty w ↦ or_left (length c.args.spans.now == 0) (nat_lt 8 (length c.args.spans.now)) (sym c.is_empty.ensures ∙ w.if-is_empty.true)
      | then-is_empty-via-else-is_empty+then-spans-gt-MOST_SPANS w ↦
          or_right (length c.args.spans.now == 0) (nat_lt 8 (length c.args.spans.now)) (lt-ltb 8 (length c.args.spans.now) w.if-spans-gt-MOST_SPANS.true)
    ])

pub returns-in-Some-clause-refused : goal.returns-in-Some-clause-refused
returns-in-Some-clause-refused g c = λ files file at.
    let m = (g.L.Lines.state c.args.dev.now).medium in
    let spans = c.args.spans.now in
    let fits = or_from (length spans == 0) (nat_lt 8 (length spans)) (sym c.is_empty.ensures ∙ c.if-is_empty.false) (le-ltb 8 (length spans) c.if-spans-gt-MOST_SPANS.false) in
    poison_told c.args.files.now.journal m c.args.inode c.in_ok-check_extents.ensures.tables files file at spans c.in_ok-check_extents.ensures.refused fits
    (Err (Poison (64 * c.in-Some.n))) (Some c.in-Some.n) (sym c.in-Some.is ∙ c.next_bad.ensures.next files file at) refl

pub returns-in-None-clause-refused : goal.returns-in-None-clause-refused
returns-in-None-clause-refused g c = λ files file at.
    let m = (g.L.Lines.state c.args.dev.now).medium in
    let spans = c.args.spans.now in
    let fits = or_from (length spans == 0) (nat_lt 8 (length spans)) (sym c.is_empty.ensures ∙ c.if-is_empty.false) (le-ltb 8 (length spans) c.if-spans-gt-MOST_SPANS.false) in
    poison_told c.args.files.now.journal m c.args.inode c.in_ok-check_extents.ensures.tables files file at spans c.in_ok-check_extents.ensures.refused fits
    (Ok tt) None (sym c.in-None.is ∙ c.next_bad.ensures.next files file at) tt
