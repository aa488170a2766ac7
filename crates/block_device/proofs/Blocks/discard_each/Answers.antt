-- So many blocks of the span are absent.
use Rattle.std.proofs.Common.{◌≡◌, ◌+◌, ◌-◌, ◌*◌, [], ◌∷◌, Ok, Err, refl, sym, ◌∙◌, ap, arith}
use Rattle.nvm_model.specs.Storage.Block.{Absent}
use Rattle.nvm_model.specs.Blocks.{IsMixed, change}
use Rattle.block_device.proofs.PartLemmas.{change-given, change-step, given}
use Rattle.block_device.proofs.WorkLemmas.{works_as, works_handed, works_more, works_none}
use Rattle.block_device.proofs.Blocks.discard_each.Goals as goal

pub loop-block-init : goal.loop-block-init
loop-block-init g c =
    let at = c.args.blocks.start in
    let none : 0 ≡ at - at = omega arith in
    works_as g.L.Lines.state c.args.self.now c.args.self.now c.args.dev.now c.args.dev.now (Ok tt) (given (λ _. Absent) at 0) (given (λ _. Absent) at (at - at)) IsMixed 0 0 _ _ (λ bs. ap (λ n. given (λ _. Absent) at n bs) none) (omega arith) (omega arith)
    (works_none g.L.Lines.state (λ _. Absent) at c.args.self.now c.args.dev.now c.requires.ready c.requires.good)

pub returns-in_err-change_apart : goal.returns-in_err-change_apart
returns-in_err-change_apart g c =
    let at = c.args.blocks.start in
    let n = c.args.blocks.len in
    let k = c.loop-block.block - at in
    let to = change (c.args.blocks ∷ []) Absent in
    let stop = c.in_err-change_apart.field-0.0 in
    record {
      works =
          works_handed g.L.Lines.state _ c.change_apart.new.self c.args.dev.now c.change_apart.new.dev c.from_residual.result stop to IsMixed _ _ c.from_residual.ensures.1
          (works_more g.L.Lines.state (λ _. Absent) at k n _ to c.args.self.now c.loop-block.self c.change_apart.new.self c.args.dev.now c.loop-block.dev c.change_apart.new.dev (Err stop) _ _ _ _ (11 * n) (5 * n)
          (λ bs. change-step at k c.loop-block.block Absent bs (omega arith)) (λ bs. sym (change-given at n Absent bs)) (omega arith) tt (omega arith) (omega arith) c.loop-block.invariant c.in_err-change_apart.ensures.works);
    }

pub loop-block-preserved : goal.loop-block-preserved
loop-block-preserved g c =
    let at = c.args.blocks.start in
    let k = c.loop-block.block - at in
    let n = c.loop-block.block + 1 - at in
    let next : n ≡ k + 1 = omega arith in
    works_more g.L.Lines.state (λ _. Absent) at k n _ (given (λ _. Absent) at n) c.args.self.now c.loop-block.self c.change_apart.new.self c.args.dev.now c.loop-block.dev c.change_apart.new.dev (Ok tt) _ _ _ _ (11 * n) (5 * n)
    (λ bs. change-step at k c.loop-block.block Absent bs (omega arith)) (λ bs. refl) (omega arith) next (omega arith) (omega arith) c.loop-block.invariant c.in_ok-change_apart.ensures.works

pub returns : goal.returns
returns g c =
    let at = c.args.blocks.start in
    let n = c.args.blocks.len in
    let all : c.loop-block.block - at ≡ n = omega arith in
    record {
      works =
          works_as g.L.Lines.state c.args.self.now c.loop-block.self c.args.dev.now c.loop-block.dev (Ok tt) _ (change (c.args.blocks ∷ []) Absent) IsMixed _ _ _ _
          (λ bs. ap (λ m. given (λ _. Absent) at m bs) all ∙ sym (change-given at n Absent bs)) (omega arith) (omega arith) c.loop-block.invariant;
    }
