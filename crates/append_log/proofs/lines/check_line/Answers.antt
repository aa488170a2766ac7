use Rattle.std.proofs.Common.{◌∙◌, sym, true, arith}
use Rattle.pm_volume.proofs.PlaceLemmas.{lines_apart}
use Rattle.append_log.proofs.CallLemmas.{marked, marked-bad, marked-good, marked-weak, place-found}
use Rattle.append_log.proofs.lines.check_line.Goals as goal

pub overflow_add-place : goal.overflow_add-place
overflow_add-place g c =
    let s = c.args.volume.now in
    let count = (g.L.Lines.state c.args.dev.now).medium.count in
    let on = (lines_apart s.geo c.requires.serves.valid s.present true count c.requires.serves.all c.requires.serves.count).on c.args.line _ (place-found s c.args.line c.in-Some.first.0 c.in-Some.ensures.lines) in
    let small = (g.met.L.Lines.sound c.args.dev.now).small in
    omega (arith, on, small)

pub is_bad-requires : goal.is_bad-requires
is_bad-requires g c =
    let s = c.args.volume.now in
    let count = (g.L.Lines.state c.args.dev.now).medium.count in
    (lines_apart s.geo c.requires.serves.valid s.present true count c.requires.serves.all c.requires.serves.count).on c.args.line _ (place-found s c.args.line c.in-Some.first.0 c.in-Some.ensures.lines)

pub returns-then-is_bad : goal.returns-then-is_bad
returns-then-is_bad g c pages holds =
    let s = c.args.volume.now in
    let m = (g.L.Lines.state c.args.dev.now).medium in
    marked-bad c.args.line _ _ _ (marked s m pages holds c.args.line _ (place-found s c.args.line c.in-Some.first.0 c.in-Some.ensures.lines)) (sym c.is_bad.ensures ∙ c.if-is_bad.true)

pub is_weak-requires : goal.is_weak-requires
is_weak-requires g c =
    let s = c.args.volume.now in
    let count = (g.L.Lines.state c.args.dev.now).medium.count in
    (lines_apart s.geo c.requires.serves.valid s.present true count c.requires.serves.all c.requires.serves.count).on c.args.line _ (place-found s c.args.line c.in-Some.first.0 c.in-Some.ensures.lines)

pub returns-then-is_weak : goal.returns-then-is_weak
returns-then-is_weak g c pages holds =
    let s = c.args.volume.now in
    let m = (g.L.Lines.state c.args.dev.now).medium in
    marked-weak c.args.line _ _ _ (marked s m pages holds c.args.line _ (place-found s c.args.line c.in-Some.first.0 c.in-Some.ensures.lines)) (sym c.is_bad.ensures ∙ c.if-is_bad.false)
    (sym c.is_weak.ensures ∙ c.if-is_weak.true)

pub returns : goal.returns
returns g c pages holds =
    let s = c.args.volume.now in
    let m = (g.L.Lines.state c.args.dev.now).medium in
    marked-good c.args.line _ _ _ (marked s m pages holds c.args.line _ (place-found s c.args.line c.in-Some.first.0 c.in-Some.ensures.lines)) (sym c.is_bad.ensures ∙ c.if-is_bad.false)
    (sym c.is_weak.ensures ∙ c.if-is_weak.false)
