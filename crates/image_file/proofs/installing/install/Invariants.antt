use Rattle.std.proofs.Common.{◌≡◌, length, IsTrue}
use Rattle.line_device.specs.Panel.{SetsUp, with_unit}
use Rattle.line_device.specs.Panel.Outcome.{went}
use Rattle.image_file.proofs.InstallLemmas.{medium_by, partly}
use Rattle.image_file.proofs.installing.install.Given as goal

abbrev pub invariant-loop-n : goal.invariant-loop-n
invariant-loop-n g l =
    let old = g.D.Lines.state l.fn.device in
    let now = g.D.Lines.state l.device in
    record {
      lines : now.medium ≡ medium_by (length l.image.lines.items) (partly l.image.lines.items l.n);
      on : IsTrue now.panel.power;
      unit : now.panel.unit ≡ l.image.unit;
      sets_up : SetsUp went (with_unit old.panel now.panel.unit) now.panel;
    }
