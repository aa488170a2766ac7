-- Spans that are apart may change together.
use Rattle.std.proofs.Common.{◌∙◌, sum_by, refl, arith}
use Rattle.nvm_base.specs.declared.units.Span.{Span}
use Rattle.word_log.specs.Changes.{commit_calls, commit_persists}
use Rattle.nvm_model.specs.Blocks.{change}
use Rattle.block_device.specs.Changes.{bare_block}
use Rattle.block_device.specs.Images.{IsEither}
use Rattle.block_device.proofs.TogetherLemmas.{asked, asked_blocks, asked_count, asked_prepared, asked_some}
use Rattle.block_device.proofs.WorkLemmas.{works_as, works_switched}
use Rattle.block_device.proofs.Blocks.change_apart.Goals as goal

pub switch-requires-clause-some : goal.switch-requires-clause-some
switch-requires-clause-some g c =
    asked_some _ _ _ _ _ (asked _ c.args.self.now _ (g.L.Lines.state c.args.dev.now) c.args.spans.now c.args.state c.as_slice.result.now c.self.view_is c.self.invariant c.requires.ready c.requires.together c.requires.bare (c.as_slice.ensures.value ∙ c.changes_of-changes.ensures)) c.requires.some

pub switch-requires-clause-prepared : goal.switch-requires-clause-prepared
switch-requires-clause-prepared g c =
    asked_prepared _ _ _ _ _ (asked _ c.args.self.now _ (g.L.Lines.state c.args.dev.now) c.args.spans.now c.args.state c.as_slice.result.now c.self.view_is c.self.invariant c.requires.ready c.requires.together c.requires.bare (c.as_slice.ensures.value ∙ c.changes_of-changes.ensures))

pub returns : goal.returns
returns g c =
    let s = c.args.self.now in
    let old = c.args.dev.now in
    let m = (g.L.Lines.state old).medium in
    let spans = c.args.spans.now in
    let state = c.args.state in
    let cs = c.as_slice.result.now in
    let to = change spans (bare_block state) in
    let x = asked _ s _ (g.L.Lines.state old) spans state cs c.self.view_is c.self.invariant c.requires.ready c.requires.together c.requires.bare (c.as_slice.ensures.value ∙ c.changes_of-changes.ensures) in
    let count = asked_count s m spans state cs x in
    let blocks = sum_by (λ (t : Span). t.len) spans in
    record {
      works =
          works_as g.L.Lines.state s c.switch.new.self old c.switch.new.dev c.switch.result to to IsEither _ _ (commit_calls blocks) (commit_persists blocks) (λ bs. refl) (omega (arith, count)) (omega (arith, count))
          (works_switched g.L.Lines.state s c.switch.new.self old c.switch.new.dev c.switch.result cs to c.requires.ready.serves (asked_prepared s m spans state cs x).may (asked_blocks s m spans state cs x) c.switch.ensures.switches);
    }
