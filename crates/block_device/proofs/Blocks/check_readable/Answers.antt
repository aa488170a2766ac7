use Rattle.std.proofs.Common.{◌≡◌, None, option_map, Ok, inl, inr, sym, subst, arith}
use Rattle.std.proofs.lemmas.Bool.{cases_lt}
use Rattle.nvm_model.specs.Blocks.{nth, obstacle_in}
use Rattle.block_device.specs.Object.{blocks_of}
use Rattle.block_device.specs.Refusals.{Checks}
use Rattle.block_device.specs.Refusals.Refusal.{Unreadable}
use Rattle.block_device.proofs.ObstacleLemmas.{found_obstacle, no_obstacle, unobstructed}
use Rattle.block_device.proofs.Blocks.check_readable.Goals as goal

pub loop-k-init : goal.loop-k-init
loop-k-init g c j low high = absurd (omega arith)

pub returns-in-Some : goal.returns-in-Some
returns-in-Some g c =
    found_obstacle (Unit {0}) (blocks_of c.args.self.now (g.L.Lines.state c.args.dev.now).medium) c.args.block c.args.count c.loop-k.k c.in-Some.fault
    (omega arith) (omega arith) c.loop-k.invariant c.in-Some.ensures

pub loop-k-preserved : goal.loop-k-preserved
loop-k-preserved g c j low high =
    let blocks = blocks_of c.args.self.now (g.L.Lines.state c.args.dev.now).medium in
    elim (cases_lt j c.loop-k.k) [
      | inl before ↦ c.loop-k.invariant j low before
      | inr here ↦
          let is : c.loop-k.k ≡ j = omega arith in
          subst (λ i. obstacle_in i (nth blocks i) ≡ None) is (unobstructed (obstacle_in c.loop-k.k (nth blocks c.loop-k.k)) c.in_default.ensures)
    ]

pub returns : goal.returns
returns g c =
    let blocks = blocks_of c.args.self.now (g.L.Lines.state c.args.dev.now).medium in
    subst (λ o. Checks {T = Unit {0}} (option_map Unreadable o) (Ok tt)) (sym (no_obstacle blocks c.args.block c.args.count (λ j low high. c.loop-k.invariant j low (omega arith)))) tt
