use Rattle.std.proofs.Common.{◌++◌, [], ◌∷◌, get_or, length-set, take, sym, ◌∙◌, ap, arith}
use Rattle.std.proofs.lemmas.List.{map-append, take_more, take_more_set}
use Rattle.nvm_base.specs.declared.units.Span.{Span}
use Rattle.block_device.specs.Refusals.{block_spans}
use Rattle.block_device.proofs.ApartLemmas.{span_of}
use Rattle.block_device.proofs.checks.block_spans.Goals as goal

pub loop-i-preserved : goal.loop-i-preserved
loop-i-preserved c =
    let none : Span = record { start = 0; len = 0 } in
    let i = c.loop-i.i in
    let ranges = c.args.ranges.now in
    let r = get_or ranges i none in
    let size = c.loop-i.invariant.0 in (
      length-set c.loop-i.spans i (span_of r) ∙ size,
      take_more_set c.loop-i.spans i (span_of r) (omega (arith, size))
          ∙ ap (λ ss. ss ++ span_of r ∷ []) c.loop-i.invariant.1
          ∙ sym (map-append span_of (take i ranges) (r ∷ []))
          ∙ ap block_spans (sym (take_more ranges i none (omega arith))),
    )
