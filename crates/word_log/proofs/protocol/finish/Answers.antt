use Rattle.word_log.proofs.FrameLemmas.{fits-outside}
use Rattle.line_words.proofs.FrameLemmas.{outside-trans}
use Rattle.word_log.proofs.StepLemmas.{on_ok-then}
use Rattle.word_log.proofs.PhaseLemmas.{images_open, images_closing, open-outside, open-applied, closed, outside-gate, outside-listed}
use Rattle.word_log.proofs.protocol.finish.Goals as goal

pub returns-in_err-apply-clause-images : goal.returns-in_err-apply-clause-images
returns-in_err-apply-clause-images g c = λ words open_.
    let x = c.in_err-apply.ensures.outside in
    images_open c.args.area c.args.changes.now words _ (open-outside c.args.area c.args.changes.now words _ _ open_ (fits-outside c.args.area _ _ _ c.requires.written.fits x) x)

pub returns-clause-ok : goal.returns-clause-ok
returns-clause-ok g c =
    on_ok-then c.set_gate.result c.set_gate.ensures.ok (λ gate words open_.
    closed c.args.area c.args.changes.now words _ _ (open-applied c.args.area c.args.changes.now words _ _ open_ c.in_ok-apply.ensures.outside c.in_ok-apply.ensures.ok) c.set_gate.ensures.outside gate)

pub returns-clause-images : goal.returns-clause-images
returns-clause-images g c = λ words open_.
    let fits = fits-outside c.args.area _ _ _ c.requires.written.fits c.in_ok-apply.ensures.outside in
    images_closing c.args.area c.args.changes.now words _ _ (open-applied c.args.area c.args.changes.now words _ _ open_ c.in_ok-apply.ensures.outside c.in_ok-apply.ensures.ok)
    (fits-outside c.args.area _ _ _ fits c.set_gate.ensures.outside) c.set_gate.ensures.outside c.set_gate.ensures.either

pub returns-clause-outside : goal.returns-clause-outside
returns-clause-outside g c =
    outside-trans _ _ _ _ (outside-listed c.args.area c.args.changes.now _ _ c.requires.written.taken c.in_ok-apply.ensures.outside)
    (outside-gate c.args.area _ _ _ c.requires.written.fits c.set_gate.ensures.outside)
