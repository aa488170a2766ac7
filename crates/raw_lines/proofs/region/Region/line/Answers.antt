use Rattle.std.proofs.Common.{◌≡◌, ◌<◌, None, Some, length, slice_get, ap, subst, sym, ◌∙◌}
use Rattle.std.proofs.lemmas.Option.{slice_get-get_or}
use Rattle.raw_lines.proofs.KeptLemmas.{kept_held}
use Rattle.raw_lines.proofs.region.Region.line.Goals as goal

pub read-requires : goal.read-requires
read-requires c = let r = c.self.inside in let within = subst (λ l. c.args.i < length l) (sym c.self.view_is) c.requires in
    kept_held r.room r.held.items r.lease r.alloc c.self.invariant c.args.i c.index.result.now within c.index.ensures c.if-index.true

pub returns-then-index-clause-value : goal.returns-then-index-clause-value
returns-then-index-clause-value c = let lines = c.self.inside.room.lines in let within = subst (λ l. c.args.i < length l) (sym c.self.view_is) c.requires in
    subst (λ l. slice_get l c.args.i ≡ Some (Some c.read.result.now)) c.self.view_is (slice_get-get_or lines c.args.i None within ∙ ap Some c.read.ensures)
