use Rattle.std.proofs.Common.{◌≡◌, ◌++◌, ℕ, [], ◌∷◌, sym, ap, subst, ◌∙◌, arith}
use Rattle.nvm_model.specs.Blocks.{nth}
use Rattle.block_sights.specs.Sights.{Sight, sight}
use Rattle.explorer.specs.Stopping.{DeviceStopped}
use Rattle.cut_places.specs.SightsSeen.Units.{AreBlocks, block_numbers}
use Rattle.explorer.proofs.CauseLemmas.{fell_later, handed_on, stopped_later}
use Rattle.explorer.proofs.BlockLookLemmas.{numbers_more, one_more, put_behind}
use Rattle.explorer.proofs.blocks_look.look_read.Goals as goal

pub loop-b-preserved : goal.loop-b-preserved
loop-b-preserved g c =
    let old = c.loop-b.blocks.items in
    let seen = c.in_ok-seen.seen in
    let first = c.args.read.now.first in
    let now = c.loop-b.invariant in
    let number = c.in_ok-seen.ensures.number in
    let pushed : c.push.new.self.items ≡ old ++ seen ∷ [] =
    put_behind old c.push.new.self.items seen _ c.push.ensures.items c.in_ok-map_err.ensures.variant in (
      c.in_ok-seen.ensures.known,
      omega arith,
      c.in_ok-seen.ensures.geometry ∙ now.2,
      fell_later (g.D.Lines.state c.args.device.now).panel (g.D.Lines.state c.loop-b.device).panel (g.D.Lines.state c.look_block.new.device).panel now.3 c.in_ok-seen.ensures.counts,
      ap block_numbers pushed ∙ numbers_more (block_numbers c.args.blocks.now.items) first c.loop-b.b seen old (omega arith) number now.4,
      λ h stands ready.
          let f : ℕ → Sight = λ b. sight (nth h.blocks b) in
          let before = now.5 h stands ready in
          let step = c.in_ok-seen.ensures.sees h before.1 ready in
          (λ are. subst (AreBlocks f) (sym pushed) (one_more f seen old (before.0 are) (step.0 ∙ ap f (sym number))), step.1),
    )

pub returns-in_err-seen-clause-cause : goal.returns-in_err-seen-clause-cause
returns-in_err-seen-clause-cause g c = λ h stands ready.
    let now = c.loop-b.invariant in
    let old = (g.D.Lines.state c.args.device.now).panel in
    let new = (g.D.Lines.state c.look_block.new.device).panel in
    handed_on (DeviceStopped old new) c.in_err-seen.field-0.0 c.from_residual.result c.from_residual.ensures.1
    (λ is. stopped_later old (g.D.Lines.state c.loop-b.device).panel new now.3 (c.in_err-seen.ensures.cause h (now.5 h stands ready).1 ready is))
