use Rattle.std.proofs.Common.{ap, not, sym, ◌∙◌}
use Rattle.asked_reads.specs.Outcomes.Pages.{agrees}
use Rattle.asked_reads.specs.Reads.{page_reply}
use Rattle.sights.proofs.ReachLemmas.{unreached}
use Rattle.sights.proofs.lines_fit.agrees.Goals as goal

pub returns-then-not-reaches : goal.returns-then-not-reaches
returns-then-not-reaches c =
    let read = c.args.read.now in
    ap not c.if-not-reaches.true ∙ unreached read.start read.len c.args.p c.args.value c.in-Shows.bytes.items (sym c.reaches.ensures ∙ c.if-not-reaches.true)
    ∙ sym (ap (λ reply. agrees c.args.p c.args.value read.start read.len (page_reply reply)) c.in-Shows.is)
