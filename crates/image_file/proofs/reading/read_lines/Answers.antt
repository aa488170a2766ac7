use Rattle.std.proofs.lemmas.Bool.{eqb-false}
use Rattle.std.proofs.Common.{sym, ◌∙◌, length, drop, arith, ◌-◌}
use Rattle.std.proofs.lemmas.List.{take_all, length-drop}
use Rattle.image_file.proofs.ReadingLemmas.{Reading-starts, Reading-more, Reading-stops, Reading-past}
use Rattle.image_file.proofs.reading.read_lines.Goals as goal

pub loop-init : goal.loop-init
loop-init c =
    let file = c.args.bytes.now in
    Reading-starts c.args.count file _ _ c.requires (c.reserve.ensures.items ∙ c.new-lines.ensures) (take_all (length file - 24) (drop 24 file) (omega (arith, length-drop 24 file)))

pub loop-preserved : goal.loop-preserved
loop-preserved c =
    rw c.in_ok-push-in-Ok.ensures.ok (Reading-more c.args.count c.loop.counter c.args.bytes.now c.loop.lines.items c.in-Ok.line c.loop.rest.now c.in-Ok.after.now c.loop-test.true c.in-Ok.ensures.0 c.in-Ok.ensures.1 c.loop.invariant)

pub returns-in-Err : goal.returns-in-Err
returns-in-Err c = Reading-stops c.args.count c.loop.counter c.in-Err.skip c.args.bytes.now _ _ c.loop-test.true c.in-Err.ensures.1 c.loop.invariant

pub returns-then-not-is_empty : goal.returns-then-not-is_empty
returns-then-not-is_empty c =
    Reading-past c.args.count c.loop.counter c.args.bytes.now _ c.loop.rest.now c.loop-test.false (eqb-false _ _ (sym c.if-not-is_empty.ensures)) c.loop.invariant
