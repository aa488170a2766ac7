use Rattle.std.proofs.Common.{◌≡◌, Bool, cond, ◌++◌, [], ◌∷◌, sym, ap, subst, ◌∙◌}
use Rattle.std.specs.Result.{is_ok}
use Rattle.cut_places.specs.SightsSeen.Seeing.{seen}
use Rattle.explorer.specs.Stopping.{DeviceStopped}
use Rattle.cut_places.specs.SightsSeen.Units.{AreLines, line_numbers}
use Rattle.explorer.proofs.CauseLemmas.{fell_later, handed_on, stopped_later}
use Rattle.explorer.proofs.LookLemmas.{are_more, numbers_more}
use Rattle.explorer.proofs.volume_look.look_read.Goals as goal

pub loop-n-preserved : goal.loop-n-preserved
loop-n-preserved g c =
    let i = c.loop-n.invariant in
    let s = c.in_ok-seen.seen in
    let items : c.push.new.self.items ≡ c.loop-n.lines.items ++ s ∷ [] =
    c.push.ensures.items ∙ ap (λ (b : Bool). cond b (c.loop-n.lines.items ++ s ∷ []) c.loop-n.lines.items) (sym c.map_err.ensures.variant ∙ ap is_ok c.in_ok-map_err.was) in
    record {
      known = c.in_ok-seen.ensures.known;
      geometry = c.in_ok-seen.ensures.geometry ∙ i.geometry;
      counts = fell_later (g.D.Lines.state c.args.device.now).panel (g.D.Lines.state c.loop-n.device).panel (g.D.Lines.state c.look_line.new.device).panel i.counts c.in_ok-seen.ensures.counts;
      ordered = i.ordered;
      within = i.within;
      reads = i.reads;
      numbers = ap line_numbers items ∙ numbers_more c.match-read.touched.start c.loop-n.n (line_numbers c.args.lines.now.items) c.loop-n.lines.items s c.loop-n.auto.n i.numbers c.in_ok-seen.ensures.number;
      sees = λ h stands begins.
          let before = i.sees h stands begins in
          let told = c.in_ok-seen.ensures.sees h before.1 begins in (
            (λ are. subst (AreLines (seen h.volume)) (sym items)
                (are_more (seen h.volume) c.loop-n.lines.items s (before.0 are) (told.0 ∙ ap (seen h.volume) (sym c.in_ok-seen.ensures.number)))),
            told.1,
          );
    }

pub returns-in_err-seen-clause-cause : goal.returns-in_err-seen-clause-cause
returns-in_err-seen-clause-cause g c = λ h stands begins.
    let i = c.loop-n.invariant in
    let old = (g.D.Lines.state c.args.device.now).panel in
    let new = (g.D.Lines.state c.look_line.new.device).panel in
    handed_on (DeviceStopped old new) c.in_err-seen.field-0.0 c.from_residual.result c.from_residual.ensures.1
    (λ is. stopped_later old (g.D.Lines.state c.loop-n.device).panel new i.counts (c.in_err-seen.ensures.cause h (i.sees h stands begins).1 begins is))
