use Rattle.std.proofs.Common.{◌+◌, refl, sym, ap, ◌∙◌}
use Rattle.std.proofs.lemmas.Bool.{and_from}
use Rattle.std.specs.Result.{is_ok}
use Rattle.cut_places.specs.SeesFiles.{is_held}
use Rattle.explorer.proofs.NumberLemmas.{all_read, held_still, held_up_to, was_ok}
use Rattle.explorer.proofs.file_numbers.add_lines.Goals as goal

pub loop-n-preserved : goal.loop-n-preserved
loop-n-preserved c =
    let i = c.loop-n.invariant in
    let keys = was_ok c.insert.result (sym (sym c.map_err.ensures.variant ∙ ap is_ok c.in_ok-map_err.was)) c.insert.ensures.keys in
    record {
      ordered = i.ordered;
      small = i.small;
      reads = i.reads;
      here = held_up_to c.loop-n.held.keys c.insert.new.self.keys c.looked_at-lines.result.start c.loop-n.n keys i.here;
      others = λ n held. ap (λ l. is_held l n) keys ∙ held_still c.loop-n.held.keys c.loop-n.n n (i.others n held);
    }

pub returns-clause-here : goal.returns-clause-here
returns-clause-here c =
    let i = c.loop-n.invariant in
    let lines = c.looked_at-lines.result in
    and_from _ _ (all_read c.loop-n.held.keys _ lines.start (lines.start + lines.len) c.loop-n.n i.reads c.loop-n-test.false i.here) refl
