use Rattle.std.proofs.Common.{◌≡◌, ◌*◌, Ok, Err, Some, None, Option, IsOkAnd, option_map, refl, sym, ap, subst, ◌∙◌, arith}
use Rattle.nvm_base.specs.declared.units.LineNo.{LineNo}
use Rattle.line_device.specs.Panel.{Runs, outcome}
use Rattle.line_device.proofs.PanelLemmas.{runs-refl, runs_within}
use Rattle.line_device.proofs.WriteBackLemmas.{write_back-refl}
use Rattle.line_words.specs.Told.{outcome_by}
use Rattle.line_words.proofs.ToldLemmas.{checks_answers}
use Rattle.nvm_model.specs.Lines.{span_shown}
use Rattle.nvm_model.proofs.LineLemmas.{line_shown}
use Rattle.file_pages.specs.Refusals.{page_says}
use Rattle.file_pages.proofs.LentLemmas.{passed_answers, refused_as}
use Rattle.file_pages.proofs.lending.lend.Goals as goal

pub returns-in-Ok : goal.returns-in-Ok
returns-in-Ok g c =
    let m = (g.L.Lines.state c.args.dev.now).medium in
    let left = c.load.follows.holds-at-none in
    let runs = subst (λ e. Runs 1 0 e (g.L.Lines.state c.args.dev.now).panel (g.L.Lines.state c.load.follows.lender-at-none).panel) (ap outcome c.in-Ok.is) left.1 in
    let held = rw c.in-Ok-Some.is at c.in-Ok-Some.field-0-is in
    let place = subst (λ (o : Option LineNo). c.args.place ≡ Ok o) held c.in-Ok-Some.is in (
      (refl, λ _. tt, (left.0, runs)),
      record {
        refused = λ why checks. passed_answers why c.args.place (Some c.in-Ok-Some.line) (Some c.in-Ok.bytes) place checks;
        ok =
            subst (λ r. IsOkAnd r (λ p. Some c.in-Ok.bytes.now ≡ option_map (λ l. span_shown m (64 * l.0) 64) p)) (sym place)
            (ap (λ bytes. Some bytes) (line_shown m c.in-Ok-Some.line.0 c.in-Ok.bytes.now c.in-Ok.ensures.bytes c.know_bytes.ensures.small));
        after = tt;
      },
    )

pub returns-in-Ok-None : goal.returns-in-Ok-None
returns-in-Ok-None g c =
    let m = (g.L.Lines.state c.args.dev.now).medium in
    let held = rw c.in-Ok-None.is at c.in-Ok-None.field-0-is in
    let place = subst (λ (o : Option LineNo). c.args.place ≡ Ok o) held c.in-Ok-None.is in (
      (refl, λ _. tt, (write_back-refl _, runs_within _ _ _ _ _ _ _ (runs-refl _) (omega arith) (omega arith))),
      record {
        refused = λ why checks. passed_answers why c.args.place None None place checks;
        ok = subst (λ r. IsOkAnd r (λ p. None ≡ option_map (λ l. span_shown m (64 * l.0) 64) p)) (sym place) refl;
        after = tt;
      },
    )

pub returns-in-Err : goal.returns-in-Err
returns-in-Err g c =
    let panel = (g.L.Lines.state c.args.dev.now).panel in
    let went_on = sym (sym (ap (outcome_by page_says) c.in-Err.is) ∙ c.requires.went) in (
      (refl, λ _. tt, (write_back-refl _, subst (λ e. Runs 1 0 e panel panel) went_on (runs_within _ _ _ _ _ _ _ (runs-refl panel) (omega arith) (omega arith)))),
      record { refused = λ why checks. checks_answers page_says why (Err c.in-Err.fault) (refused_as _ why c.args.place c.in-Err.fault c.in-Err.is checks); ok = tt; after = tt },
    )
