use Rattle.std.proofs.Common.{◌≡◌, take, length, refl, arith}
use Rattle.std.proofs.Math.Seq.{drop-length}
use Rattle.memchr.specs.Find.{NoneBefore, Nowhere, Passes, is_byte}
use Rattle.script_text.proofs.StreamLemmas.{unbroken-take, split-at, from_nowhere}
use Rattle.script_text.proofs.streaming.LineReader.take_part.Goals as goal

pub returns-in-Some : goal.returns-in-Some
returns-in-Some c =
    let waiting = c.self.inside.piece in
    let left : c.as_slice-waiting.result.now ≡ waiting = c.as_slice-waiting.ensures.left in
    let whole = c.in-Some.ensures in
    let found : NoneBefore (Passes (is_byte 10) waiting) 0 (length waiting) c.in-Some.end × Passes (is_byte 10) waiting c.in-Some.end = rw left at whole in
    rw (← c.self.view_is) (record {
      part = take c.in-Some.end waiting;
      unbroken = unbroken-take waiting c.in-Some.end (omega (arith, found.0.high)) found.0.before;
      line = let adds = c.add.ensures in rw left at adds;
      split = rw c.skip.ensures (split-at waiting c.in-Some.end found.0.high found.1);
      taken = refl;
      ended = refl;
    })

pub returns-in-None : goal.returns-in-None
returns-in-None c =
    let waiting = c.self.inside.piece in
    let left : c.as_slice-waiting.result.now ≡ waiting = c.as_slice-waiting.ensures.left in
    let none = c.in-None.ensures in
    let nowhere : Nowhere (Passes (is_byte 10) waiting) 0 (length waiting) = rw left at none in
    rw (← c.self.view_is) (record {
      part = waiting;
      unbroken = from_nowhere waiting nowhere;
      line = let adds = c.add-in-None.ensures in rw left at adds;
      split = (refl, rw (c.skip-in-None.ensures, left) (drop-length waiting));
      taken = refl;
      ended = refl;
    })
