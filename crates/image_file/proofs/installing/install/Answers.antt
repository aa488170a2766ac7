use Rattle.std.proofs.Common.{length, IsTrue, subst, sym, ap, ◌∙◌, arith}
use Rattle.line_device.specs.Panel.Outcome.{went}
use Rattle.image_file.proofs.InstallLemmas.{line_lent, partly-starts, partly-next, partly-all}
use Rattle.image_file.proofs.SetUpLemmas.{set_up_then}
use Rattle.image_file.proofs.installing.install.Goals as goal

pub loop-n-init : goal.loop-n-init
loop-n-init g c = record {
  lines = partly-starts c.args.image.now.lines.items c.len.result (g.D.Lines.state c.reset.new.self).medium c.len.ensures c.in_ok-reset.ensures.lines;
  on = c.in_ok-reset.ensures.on;
  unit = c.in_ok-reset.ensures.unit;
  sets_up = c.in_ok-reset.ensures.sets_up;
}

pub loop-n-preserved : goal.loop-n-preserved
loop-n-preserved g c = record {
  lines = partly-next c.args.image.now.lines.items c.loop-n.n _ (g.D.Lines.state c.loop-n.device).medium (g.D.Lines.state c.install.new.self).medium (line_lent c.args.image.now.lines.items c.as_slice-line-items.result.now c.loop-n.n _ c.as_slice-line-items.ensures c.loop-n-test.true) c.loop-n.invariant.lines c.in_ok-install.ensures.lines;
  on = subst IsTrue (sym c.in_ok-install.ensures.power) c.loop-n.invariant.on;
  unit = c.in_ok-install.ensures.sets_up.orders.unit ∙ c.loop-n.invariant.unit;
  sets_up = set_up_then went (g.D.Lines.state c.args.device.now).panel (g.D.Lines.state c.loop-n.device).panel (g.D.Lines.state c.install.new.self).panel c.loop-n.invariant.sets_up c.in_ok-install.ensures.sets_up;
}

pub returns-clause-lines : goal.returns-clause-lines
returns-clause-lines g c = partly-all c.args.image.now.lines.items c.loop-n.n (g.D.Lines.state c.loop-n.device).medium (omega (arith, c.loop-n-test.false, ap length c.as_slice-line-items.ensures)) c.loop-n.invariant.lines
