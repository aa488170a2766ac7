use Rattle.std.proofs.Common.{◌≡◌, None, sym, ◌∙◌, ap, subst}
use Rattle.line_device.proofs.WriteBackLemmas.{write_back-trans, newest-write_back}
use Rattle.line_words.specs.Words.{IsOnly}
use Rattle.line_words.proofs.FrameLemmas.{last_image-write_back}
use Rattle.word_log.specs.Replay.{first_wrong, listed, replayed}
use Rattle.word_log.specs.Rest.{IsAtRest}
use Rattle.word_log.proofs.LeavesLemmas.{leaves-replayed, leaves-write_back}
use Rattle.word_log.proofs.mounting.mount.Goals as goal

pub returns-in_err-changes-clause-leaves : goal.returns-in_err-changes-clause-leaves
returns-in_err-changes-clause-leaves g c = leaves-write_back c.args.area _ _ c.in_err-changes.ensures.lines

pub returns-in_err-make_durable-clause-leaves : goal.returns-in_err-make_durable-clause-leaves
returns-in_err-make_durable-clause-leaves g c =
    leaves-write_back c.args.area _ _ (write_back-trans _ _ _ c.in_ok-changes.ensures.lines c.in_err-make_durable.ensures.lines)

pub redo-requires-clause-awaits : goal.redo-requires-clause-awaits
redo-requires-clause-awaits g c =
    let new = (g.L.Lines.state c.make_durable.new.dev).medium in
    let same = last_image-write_back _ _ (write_back-trans _ _ _ c.in_ok-changes.ensures.lines c.in_ok-make_durable.ensures.lines) in
    record {
      durable = λ p of. subst (λ v. IsOnly v (new.history p)) (sym (newest-write_back _ new c.in_ok-make_durable.ensures.lines p)) (c.in_ok-make_durable.ensures.ok p of);
      valid = subst (λ words. first_wrong c.args.area words ≡ None) (sym same) c.in_ok-changes.ensures.finds.1;
      listed = c.as_slice.ensures ∙ c.in_ok-changes.ensures.changes ∙ ap (listed c.args.area) (sym same);
    }

pub returns-in_err-redo-clause-leaves : goal.returns-in_err-redo-clause-leaves
returns-in_err-redo-clause-leaves g c =
    let x = c.in_err-redo.ensures in
    leaves-replayed c.args.area _ _ _ (g.met.L.Lines.sound c.args.dev.now) c.requires.fits c.in_ok-changes.ensures.finds
    (write_back-trans _ _ _ c.in_ok-changes.ensures.lines c.in_ok-make_durable.ensures.lines) x.images x.closed x.outside

pub returns-clause-ok : goal.returns-clause-ok
returns-clause-ok g c =
    let same = last_image-write_back _ _ (write_back-trans _ _ _ c.in_ok-changes.ensures.lines c.in_ok-make_durable.ensures.lines) in
    let new = (g.L.Lines.state c.redo.new.dev).medium in
    subst (λ words. IsAtRest c.args.area new (replayed c.args.area words)) same c.in_ok-redo.ensures.ok

pub returns-clause-leaves : goal.returns-clause-leaves
returns-clause-leaves g c =
    let x = c.in_ok-redo.ensures in
    leaves-replayed c.args.area _ _ _ (g.met.L.Lines.sound c.args.dev.now) c.requires.fits c.in_ok-changes.ensures.finds
    (write_back-trans _ _ _ c.in_ok-changes.ensures.lines c.in_ok-make_durable.ensures.lines) x.images x.closed x.outside
