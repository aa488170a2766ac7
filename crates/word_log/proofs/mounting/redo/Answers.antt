use Rattle.std.proofs.Common.{sym, subst, arith}
use Rattle.line_device.specs.Medium.{last_image}
use Rattle.line_device.proofs.WriteBackLemmas.{write_back-refl}
use Rattle.line_device.proofs.PanelLemmas.{runs_within}
use Rattle.word_log.specs.Changes.{changed}
use Rattle.word_log.specs.Replay.{Replays}
use Rattle.word_log.specs.Rest.{IsAtRest}
use Rattle.line_words.proofs.FrameLemmas.{outside-refl}
use Rattle.word_log.proofs.StepLemmas.{on_ok-then}
use Rattle.word_log.proofs.PhaseLemmas.{images_rest}
use Rattle.word_log.proofs.ValidLemmas.{durable_empty, durable_some, listed-not_closed}
use Rattle.word_log.proofs.mounting.redo.Goals as goal

pub returns-then-is_empty-clause-ok : goal.returns-then-is_empty-clause-ok
returns-then-is_empty-clause-ok g c =
    durable_empty c.args.area _ c.args.changes.now c.requires.usable.fits c.requires.awaits (sym c.if-is_empty.ensures)

pub returns-then-is_empty-clause-images : goal.returns-then-is_empty-clause-images
returns-then-is_empty-clause-images g c =
    images_rest c.args.area _ _ c.requires.usable.fits
    (durable_empty c.args.area _ c.args.changes.now c.requires.usable.fits c.requires.awaits (sym c.if-is_empty.ensures))

pub returns-then-is_empty-clause-closed : goal.returns-then-is_empty-clause-closed
returns-then-is_empty-clause-closed g c = λ _. write_back-refl _

pub returns-then-is_empty-clause-outside : goal.returns-then-is_empty-clause-outside
returns-then-is_empty-clause-outside g c = outside-refl _ _

pub finish-requires-clause-written : goal.finish-requires-clause-written
finish-requires-clause-written g c =
    (durable_some c.args.area _ c.args.changes.now c.requires.usable.fits c.requires.awaits (sym c.if-is_empty.ensures)).written

pub returns-clause-ok : goal.returns-clause-ok
returns-clause-ok g c =
    let words = last_image (g.L.Lines.state c.args.dev.now).medium in
    let new = (g.L.Lines.state c.finish.new.dev).medium in
    let open_ = durable_some c.args.area _ c.args.changes.now c.requires.usable.fits c.requires.awaits (sym c.if-is_empty.ensures) in
    on_ok-then c.finish.result c.finish.ensures.ok (λ rest. subst (λ cs. IsAtRest c.args.area new (changed cs words)) c.requires.awaits.listed (rest words open_))

pub returns-clause-images : goal.returns-clause-images
returns-clause-images g c =
    let words = last_image (g.L.Lines.state c.args.dev.now).medium in
    let open_ = durable_some c.args.area _ c.args.changes.now c.requires.usable.fits c.requires.awaits (sym c.if-is_empty.ensures) in
    λ image is. subst (λ cs. Replays c.args.area image (changed cs words)) c.requires.awaits.listed (c.finish.ensures.images words open_ image is)

pub returns-clause-closed : goal.returns-clause-closed
returns-clause-closed g c = λ closed. absurd (listed-not_closed c.args.area _ c.args.changes.now c.requires.awaits.listed (sym c.if-is_empty.ensures) closed)

pub returns-clause-runs : goal.returns-clause-runs
returns-clause-runs g c =
    let open_ = durable_some c.args.area _ c.args.changes.now c.requires.usable.fits c.requires.awaits (sym c.if-is_empty.ensures) in
    let few = open_.written.taken.few in
    runs_within _ _ _ _ _ _ _ c.finish.ensures.runs (omega arith) (omega arith)
