use Rattle.std.proofs.Common.{◌≡◌, ◌-◌, ◌≤◌}
use Rattle.script_text.specs.Streaming.{IsUnbroken}
use Rattle.script_text.proofs.StepLemmas.{Reading}
use Rattle.script_text.proofs.streaming.LineReader.read_line.Given as goal

abbrev pub invariant-loop-self : goal.invariant-loop-self
invariant-loop-self g l = record {
  reading : Reading l.fn.self l.self (g.T.Source.left l.fn.source) (g.T.Source.left l.source);
  quiet : (IsUnbroken l.fn.self.waiting → ⊥) → (l.source ≡ l.fn.source) × (l.self.waiting ≡ l.fn.self.waiting);
  later : g.T.Source.count l.fn.source ≤ g.T.Source.count l.source;
}

abbrev pub decreases-loop-self : goal.decreases-loop-self
decreases-loop-self g l = 1073741824 - l.self.taken
