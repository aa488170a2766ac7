use Rattle.std.proofs.Common.{arith, ◌-◌, length, drop, length-take, length-drop}
use Rattle.host_io.proofs.WritingLemmas.{Appends-more}
use Rattle.host_io.proofs.writing.write_all.Goals as goal

pub loop-at-preserved : goal.loop-at-preserved
loop-at-preserved g c =
    let bytes = c.args.bytes.now in
    let wrote = c.in_ok-at.ensures in
    let at = c.loop-at.at in
    record {
      within = omega (arith, wrote.bound, length-take (length bytes - at) (drop at bytes), length-drop at bytes);
      written = Appends-more _ _ _ bytes at c.in_ok-at.field-0 wrote.bound c.loop-at.invariant.written wrote.bytes;
      later = omega (arith, wrote.later, c.loop-at.invariant.later);
    }
