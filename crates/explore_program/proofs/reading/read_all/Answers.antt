use Rattle.std.proofs.Common.{◌<◌, ◌++◌, take, sym, ap, subst, ◌∙◌, arith}
use Rattle.std.specs.Io.KnownBytes.{Consumes}
use Rattle.std.proofs.lemmas.Result.{err_from_is_err_and}
use Rattle.program_base.proofs.BytesLemmas.{consumes-none, consumes_then}
use Rattle.explore_program.proofs.ReadingLemmas.{consumes-end, consumes-kept, had_bytes, lent_whole, rose-from}
use Rattle.explore_program.proofs.reading.read_all.Goals as goal

pub loop-script-init : goal.loop-script-init
loop-script-init g c = record {
  read = subst (Consumes (g.T.Source.left c.args.script.now) (g.T.Source.left c.args.script.now)) (sym c.new-text.ensures) (consumes-none (g.T.Source.left c.args.script.now));
  later = omega arith;
  size = c.in_ok-piece.ensures.len;
}

pub returns-in_default : goal.returns-in_default
returns-in_default g c = (
  c.loop-script.text.items,
  consumes-kept _ _ _ _ c.loop-script.invariant.read c.in_default.ensures.bytes,
  rose-from _ _ _ c.loop-script.invariant.later c.in_default.ensures.cause,
)

pub returns-then-taken-eq0 : goal.returns-then-taken-eq0
returns-then-taken-eq0 g c = (
  consumes-end _ _ _ c.loop-script.text.items c.read.new.buf c.loop-script.invariant.read
      (subst (λ n. Consumes (g.T.Source.left c.loop-script.script) (g.T.Source.left c.read.new.self) (take n c.read.new.buf)) c.if-taken-eq0.true c.in-Ok.ensures.bytes.0),
  c.in-Ok.ensures.bytes.1 c.if-taken-eq0.true (omega (arith, c.read.auto.buf, c.deref_mut.ensures.len, c.loop-script.invariant.size)),
  subst (λ n. n < 1073741824) c.len.ensures c.loop-script-test.true,
)

pub loop-script-preserved : goal.loop-script-preserved
loop-script-preserved g c = record {
  read = subst (Consumes (g.T.Source.left c.args.script.now) (g.T.Source.left c.read.new.self)) (sym (c.in_ok-extend.ensures.ok ∙ ap (λ piece. c.loop-script.text.items ++ take c.in-Ok.taken piece) c.deref.ensures.value
      ∙ ap (λ piece. c.loop-script.text.items ++ take c.in-Ok.taken piece) (lent_whole c.loop-script.piece.len c.read.new.buf c.loop-script.piece.items (omega (arith, c.read.auto.buf, c.deref_mut.ensures.len)))))
      (consumes_then _ _ _ c.loop-script.text.items (take c.in-Ok.taken c.read.new.buf) c.loop-script.invariant.read c.in-Ok.ensures.bytes.0);
  later = omega (arith, c.loop-script.invariant.later, c.in-Ok.ensures.later);
  size = c.loop-script.invariant.size;
}

pub returns-in_err-extend : goal.returns-in_err-extend
returns-in_err-extend g c =
    let p = err_from_is_err_and c.from_residual-in_err-extend.result c.from_residual-in_err-extend.ensures.1 in
    rw (p.1, p.2) (
      c.loop-script.text.items ++ take c.in-Ok.taken c.read.new.buf,
      consumes_then _ _ _ c.loop-script.text.items (take c.in-Ok.taken c.read.new.buf) c.loop-script.invariant.read c.in-Ok.ensures.bytes.0,
      tt,
    )

pub returns : goal.returns
returns g c = (
  c.loop-script.text.items,
  c.loop-script.invariant.read,
  had_bytes 1073741824 _ _ _ c.loop-script.invariant.read (omega (arith, c.len.ensures, c.loop-script-test.false)),
)
