use Rattle.std.proofs.Common.{◌⊎◌, inl, inr, ◌+◌, ◌/◌, ◌≡◌, arith}
use Rattle.std.proofs.lemmas.Bool.{cases_lt}
use Rattle.line_device.proofs.WriteBackLemmas.{write_back-refl, write_back-trans}
use Rattle.line_device.proofs.PanelLemmas.{runs-refl, runs_then}
use Rattle.line_words.specs.Words.{IsOnly}
use Rattle.line_device.specs.Medium.{last_image}
use Rattle.line_words.proofs.FrameLemmas.{is_only-one_more, write_back-one_more}
use Rattle.line_words.proofs.lines.persist_lines.Goals as goal

pub loop-k-init : goal.loop-k-init
loop-k-init g c = record {
  lines = write_back-refl _;
  durable = λ p from to. absurd (omega arith);
  runs = runs-refl _;
}

pub returns-in_err-persist_line-clause-lines : goal.returns-in_err-persist_line-clause-lines
returns-in_err-persist_line-clause-lines g c = write_back-trans _ _ _ c.loop-k.invariant.lines c.in_err-persist_line.ensures.lines

pub loop-k-preserved : goal.loop-k-preserved
loop-k-preserved g c =
    let line = c.args.first + c.loop-k.k in
    let strong = (c.requires.good_line line (omega arith) (omega arith)).strong in
    record {
      lines = write_back-one_more _ _ _ line c.loop-k.invariant.lines strong c.in_ok-persist_line.ensures.lines;
      durable = λ p from to.
          is_only-one_more _ _ _ line p c.loop-k.invariant.lines strong c.in_ok-persist_line.ensures.lines
          (elim (cases_lt (p / 8) line) as (λ _. IsOnly (last_image (g.L.Lines.state c.args.dev.now).medium p) ((g.L.Lines.state c.loop-k.dev).medium.history p) ⊎ (p / 8 ≡ line)) [
            | inl before ↦ inl (c.loop-k.invariant.durable p from before)
            | inr on ↦ inr (omega arith)
          ]);
      runs = runs_then _ _ 1 1 _ _ _ _ c.loop-k.invariant.runs c.in_ok-persist_line.ensures.runs;
    }

pub returns-clause-ok : goal.returns-clause-ok
returns-clause-ok g c = λ p from to. c.loop-k.invariant.durable p from (omega arith)
