use Rattle.std.proofs.Common.{◌≡◌, ◌≤◌, []}
use Rattle.script_text.specs.Streaming.{IsUnbroken, ahead}
use Rattle.machine_host.specs.Stands.{HostServes}
use Rattle.host_program.proofs.GoingLemmas.{Going}
use Rattle.host_program.proofs.running.run_script.Given as goal

-- the lines that were given are performed, and nothing waits once the source is asked
abbrev pub invariant-loop-out : goal.invariant-loop-out
invariant-loop-out g l = record {
  going : Going l.reader (g.T.Source.left l.fn.script) (g.T.Source.left l.script) l.fn.host l.host l.out.items (g.K.Sink.written l.fn.replies) (g.K.Sink.written l.replies) (g.D.Lines.state l.fn.device) (g.D.Lines.state l.device);
  waits : IsUnbroken l.reader.waiting → l.out.items ≡ [];
  serves : HostServes l.host (g.D.Lines.state l.device);
  reads : g.T.Source.count l.fn.script ≤ g.T.Source.count l.script;
  writes : g.K.Sink.count l.fn.replies ≤ g.K.Sink.count l.replies;
}

abbrev pub decreases-loop-out : goal.decreases-loop-out
decreases-loop-out g l = ahead l.reader
