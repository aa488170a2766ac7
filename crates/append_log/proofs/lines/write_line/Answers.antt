use Rattle.std.proofs.Common.{subst, sym, IsTrue, Option, length, arith}
use Rattle.line_words.specs.Told.{Answers}
use Rattle.pm_volume.specs.Refusals.{VolumeRefusal, volume_says}
use Rattle.append_log.specs.Refusals.{write_refusal}
use Rattle.append_log.proofs.CallLemmas.{answered-none, volume-passed}
use Rattle.append_log.proofs.StoredLemmas.{store-answered, store-ended, store-synced, sync-answered}
use Rattle.append_log.proofs.lines.write_line.Goals as goal

pub returns-in_err-store-clause-refused : goal.returns-in_err-store-clause-refused
returns-in_err-store-clause-refused g c =
    let s = c.args.volume.now in
    let m = (g.L.Lines.state c.args.dev.now).medium in
    volume-passed (Unit {0}) _ (write_refusal s m c.args.line) c.in_err-store.field-0.0 c.from_residual.result c.from_residual.ensures.1
    (store-answered (Unit {0}) s m c.args.line (length c.args.bytes.now) _ c.requires.whole c.requires.within c.in_err-store.ensures.refused)

pub returns-in_err-store-clause-changes : goal.returns-in_err-store-clause-changes
returns-in_err-store-clause-changes g c =
    store-ended g.L.Lines.state c.args.volume.now _ _ _ c.args.line c.args.bytes.now c.in_err-store.field-0.0 _ c.requires.whole c.from_residual.ensures.1 c.in_err-store.ensures.changes

pub sync-requires : goal.sync-requires
sync-requires g c =
    let x = c.in_ok-store.ensures.changes in
    record { ready = record { serves = x.serves x.object.1; settled = x.object.1; on = subst IsTrue (sym x.runs.cause.0) c.requires.ready.on } }

pub returns-clause-refused : goal.returns-clause-refused
returns-clause-refused g c =
    let s = c.args.volume.now in
    let m = (g.L.Lines.state c.args.dev.now).medium in
    let none = answered-none (write_refusal s m c.args.line) c.in_ok-store.field-0
    (store-answered (Unit {0}) s m c.args.line (length c.args.bytes.now) _ c.requires.whole c.requires.within c.in_ok-store.ensures.refused) in
    subst (λ (why : Option VolumeRefusal). Answers volume_says why c.sync.result) (sym none)
    (sync-answered g.L.Lines.state s c.store.new.self _ _ c.args.line c.args.bytes.now tt c.requires.whole c.requires.within c.requires.ready.serves c.requires.sound c.in_ok-store.ensures.changes c.sync.result c.sync.ensures.syncs.refused)

pub returns-clause-changes : goal.returns-clause-changes
returns-clause-changes g c =
    store-synced g.L.Lines.state c.args.volume.now c.store.new.self _ _ c.args.line c.args.bytes.now tt c.requires.whole c.requires.within c.requires.ready.serves c.requires.sound c.in_ok-store.ensures.changes _ _ c.sync.result c.sync.ensures.syncs

pub returns-clause-bytes : goal.returns-clause-bytes
returns-clause-bytes g c = λ k. omega (arith, c.type_inv.bytes k)

pub returns-in_err-store-clause-bytes : goal.returns-in_err-store-clause-bytes
returns-in_err-store-clause-bytes g c = λ k. omega (arith, c.type_inv.bytes k)
