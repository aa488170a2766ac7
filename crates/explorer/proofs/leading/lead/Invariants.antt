use Rattle.cut_places.specs.AskedReads.declared.question.Question.{Question}
use Rattle.cut_places.specs.MachineModel.Machine.{Machine}
use Rattle.cut_places.specs.Following.{Follows, IsWhole, IsWithin}
use Rattle.explorer.proofs.WentLemmas.{Went}
use Rattle.explorer.proofs.leading.lead.Given as goal

abbrev pub invariant-loop-line : goal.invariant-loop-line
invariant-loop-line g l = record {
  went : Went l.lines l.fn.host (g.D.Lines.state l.fn.device) l.line-index l.host (g.D.Lines.state l.device)
      (λ (h to : Machine). Follows l.fn.sight l.geometry h → Follows l.sight l.geometry to);
  whole : (question : Question) → IsWhole l.fn.sight question → IsWhole l.sight question;
  within : IsWithin l.sight l.geometry;
}
