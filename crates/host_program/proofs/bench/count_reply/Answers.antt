use Rattle.std.proofs.Common.{[], ◌∷◌, refl, sym, ap, ◌∙◌}
use Rattle.std.proofs.lemmas.Slice.Eq.{strip_suffix_is}
use Rattle.std.proofs.lemmas.Bool.Decides.{Decides-eqb}
use Rattle.workload.specs.Summary.{added}
use Rattle.host_program.proofs.GivenLemmas.{same_before, some_before}
use Rattle.host_program.proofs.bench.count_reply.Goals as goal

pub returns-in-Some : goal.returns-in-Some
returns-in-Some c =
    let split = strip_suffix_is Decides-eqb c.args.out.now (10 ∷ []) c.strip_suffix.result c.strip_suffix.ensures.cases in
    let whole = rw c.in-Some.is at split in
    record {
      reply = λ text is. c.add.ensures ∙ ap (λ t. added c.args.summary.now c.args.line.now t) (same_before c.in-Some.reply.now text (sym whole ∙ is));
      none = λ empty. absurd (some_before c.in-Some.reply.now (sym whole ∙ empty));
    }

pub returns-in_default : goal.returns-in_default
returns-in_default c =
    let split = strip_suffix_is Decides-eqb c.args.out.now (10 ∷ []) c.strip_suffix.result c.strip_suffix.ensures.cases in
    let other = rw c.in_default.is at split in
    record { reply = λ text is. absurd (other text is); none = λ empty. refl }
