use Rattle.std.proofs.Common.{[], refl, arith, sym, ◌∙◌}
use Rattle.std.proofs.lemmas.Bool.{true≢false}
use Rattle.script_text.proofs.streaming.LineReader.read_on.Goals as goal

pub returns-in_default-clause-reads : goal.returns-in_default-clause-reads
returns-in_default-clause-reads g c = rw (← c.self.view_is) (record {
  taken = [];
  read = c.in_default.ensures.fills.0;
  count = omega arith;
  waiting = c.in_default.ensures.fills.1;
  line = refl;
  brings = (refl, c.if-self.false, c.if-self.false, omega arith);
  ends = λ _ ended. absurd (true≢false (sym ended ∙ c.if-self.false));
})
