use Rattle.std.proofs.Common.{◌≡◌, refl, sym, ap, ◌∙◌, arith}
use Rattle.std.proofs.lemmas.Result.{err_from_is_err_and}
use Rattle.script_text.specs.Streaming.{Stream}
use Rattle.script_text.proofs.StepLemmas.{reading-start, reading-part, reading-more, unbroken-waiting}
use Rattle.script_text.proofs.ExitLemmas.{reads-whole, reads-last, reads-faulty}
use Rattle.script_text.proofs.streaming.LineReader.read_line.Goals as goal

pub loop-self-init : goal.loop-self-init
loop-self-init g c = record {
  reading = rw (← c.self.view_is) (reading-start _ _ _ c.clear.ensures refl refl refl);
  quiet = λ _. (refl, ap (λ (s : Stream). s.waiting) c.self.view_is);
  later = omega arith;
}

pub returns-in_err-read_on-clause-reads : goal.returns-in_err-read_on-clause-reads
returns-in_err-read_on-clause-reads g c =
    let p = err_from_is_err_and c.from_residual.result c.from_residual.ensures.1 in
    let part = c.loop-self-test.ensures in
    let now = reading-part _ _ _ _ _ c.loop-self.invariant.reading part in
    rw (p.1, p.2) (reads-faulty _ _ _ _ _ _ _ now part.split.1 c.in_err-read_on.ensures.reads)

pub returns-in_err-read_on-clause-quiet : goal.returns-in_err-read_on-clause-quiet
returns-in_err-read_on-clause-quiet g c whole = absurd (whole (unbroken-waiting _ _ _ (c.loop-self.invariant.quiet whole).1 c.loop-self-test.ensures))

pub returns-then-not-branch-clause-quiet : goal.returns-then-not-branch-clause-quiet
returns-then-not-branch-clause-quiet g c whole = absurd (whole (unbroken-waiting _ _ _ (c.loop-self.invariant.quiet whole).1 c.loop-self-test.ensures))

pub returns-then-not-branch-clause-reads : goal.returns-then-not-branch-clause-reads
returns-then-not-branch-clause-reads g c =
    let part = c.loop-self-test.ensures in
    let now = reading-part _ _ _ _ _ c.loop-self.invariant.reading part in
    let on = c.in_ok-read_on.ensures.reads in
    let is = c.is_empty.ensures in
    let line : c.self-in-loop-self.inside.line ≡ c.read_on.new.self.line = ap (λ (s : Stream). s.line) c.self-in-loop-self.view_is in
    reads-last _ _ _ _ _ _ _ now part.split.1 (rw c.if-not-branch.true at on) (λ empty. sym line ∙ is.0 empty, λ none. is.1 (line ∙ none))

pub loop-self-smaller : goal.loop-self-smaller
loop-self-smaller g c =
    let part = c.loop-self-test.ensures in
    let on = c.in_ok-read_on.ensures.reads in
    let more = rw c.if-not-branch.false at on in
    omega (arith, part.taken, more.count, more.brings.0, more.brings.3)

pub loop-self-preserved : goal.loop-self-preserved
loop-self-preserved g c =
    let part = c.loop-self-test.ensures in
    let now = reading-part _ _ _ _ _ c.loop-self.invariant.reading part in
    let on = c.in_ok-read_on.ensures.reads in
    record {
      reading = reading-more _ _ _ _ _ _ now part.split.1 (rw c.if-not-branch.false at on);
      quiet = λ whole. absurd (whole (unbroken-waiting _ _ _ (c.loop-self.invariant.quiet whole).1 part));
      later = omega (arith, c.in_ok-read_on.ensures.later, c.loop-self.invariant.later);
    }

pub returns-clause-reads : goal.returns-clause-reads
returns-clause-reads g c = reads-whole _ _ _ _ _ c.loop-self.invariant.reading c.loop-self-test.ensures
