use Rattle.std.proofs.Common.{◌≡◌, ◌<◌, ◌≤◌, ◌+◌, length, None, Some, sym, ◌∙◌, arith}
use Rattle.script_text.specs.Streaming.{kept}
use Rattle.script_text.proofs.StreamLemmas.{kept-over, kept-grown, kept-more}
use Rattle.script_text.proofs.held.Held.add.Goals as goal
use Rattle.script_text.proofs.held.Held.add.Goals.{then-self-via-then-self, then-self-via-else-self+then-more-len}

pub returns-then-self : goal.returns-then-self
returns-then-self c line was =
    let items = c.self.inside.bytes.items in
    let more = c.args.more.now in
    let is = c.self.view_is ∙ was in
    elim c.then-self.branch [
      | then-self-via-then-self w ↦ let none : None ≡ kept line = rw w.if-self.true at is in sym (kept-over line more none)
      | then-self-via-else-self+then-more-len w ↦
          let some : Some items ≡ kept line = rw w.if-self.false at is in
          let long : 65536 < length items + length more = omega (arith, w.len.ensures, w.if-more-len.true) in
          sym (kept-grown items line more some long)
    ]

pub returns : goal.returns
returns c line was =
    let items = c.self.inside.bytes.items in
    let more = c.args.more.now in
    let is = c.self.view_is ∙ was in
    let some : Some items ≡ kept line = rw c.if-self.false at is in
    let short : length items + length more ≤ 65536 = omega (arith, c.len.ensures, c.if-more-len.false, c.self.invariant.0) in
    rw (c.if-self.false, c.in-Ok.ensures.ok) (sym (kept-more items line more some short))
