use Rattle.std.proofs.Common.{◌∙◌, ◌<◌, ◌^◌, IfSome, ap, ap₂, get_or, subst, sym, take}
use Rattle.std.proofs.lemmas.List.{take_more}
use Rattle.nvm_base.specs.declared.units.Span.{Span}
use Rattle.nvm_model.specs.Touched.{next_bad_touched}
use Rattle.flush_engine.specs.Spans.{lower_of}
use Rattle.flush_engine.proofs.LowestLemmas.{lower-if, next-more, next-none}
use Rattle.flush_engine.proofs.finding.next_bad.Goals as goal

pub loop-span-init : goal.loop-span-init
loop-span-init g c = record { next = λ listed file at. next-none file.pages c.args.from; below = tt }

pub loop-span-preserved : goal.loop-span-preserved
loop-span-preserved g c =
    let spans = c.args.spans.now in
    let i = c.loop-span.span-index in
    let none : Span = record { start = 0; len = 0 } in
    record {
      next = λ listed file at.
          c.lower-lowest.ensures
          ∙ ap₂ lower_of (c.loop-span.invariant.next listed file at) (c.next_bad.ensures.next listed file at)
          ∙ next-more (take i spans) (get_or spans i none) file.pages c.args.from
          ∙ ap (λ xs. next_bad_touched xs file.pages c.args.from) (sym (take_more spans i none c.loop-span-test.true));
      below = subst (λ o. IfSome o (λ n. n < 2 ^ 14)) (sym c.lower-lowest.ensures) (lower-if (λ n. n < 2 ^ 14) c.loop-span.lowest c.next_bad.result c.loop-span.invariant.below c.next_bad.ensures.below);
    }
