use Rattle.std.proofs.Common.{◌<◌, None, Some, length, refl, ap, subst, sym, ◌∙◌}
use Rattle.std.proofs.lemmas.Option.{slice_get-get_or}
use Rattle.raw_lines.proofs.KeptLemmas.{kept_held, kept_lent}
use Rattle.raw_lines.proofs.region.Region.line_mut.Goals as goal

pub read_mut-requires : goal.read_mut-requires
read_mut-requires c = let r = c.self.inside in let within = subst (λ l. c.args.i < length l) (sym c.self.view_is) c.requires in
    kept_held r.room r.held.items r.lease r.alloc c.self.invariant c.args.i c.index.result.now within c.index.ensures c.if-not-index.false

pub invariant_of-self-lent : goal.invariant_of-self-lent
invariant_of-self-lent c = λ w. let r = c.self.inside in kept_lent r.room r.held.items r.lease r.alloc c.self.invariant c.args.i c.read_mut.result.now w c.read_mut.ensures.value

pub returns : goal.returns
returns c = let lines = c.self.inside.room.lines in let within = subst (λ l. c.args.i < length l) (sym c.self.view_is) c.requires in
    rw (← c.self.view_is) (refl, record { writes_back = tt; value = slice_get-get_or lines c.args.i None within ∙ ap Some c.read_mut.ensures.value })
