use Rattle.std.proofs.Common.{inl, inr, ◌+◌, ◌-◌, ◌*◌, ◌≡◌, subst, arith, take, drop}
use Rattle.std.proofs.lemmas.Bool.{cases_lt}
use Rattle.line_device.proofs.PanelLemmas.{runs-refl, runs_then, runs_within}
use Rattle.line_words.proofs.BesideLemmas.{beside-refl, beside-one_more}
use Rattle.nvm_model.specs.Cell.{CellStands}
use Rattle.page_lines.proofs.OthersLemmas.{others-beside}
use Rattle.page_lines.proofs.TurnLemmas.{stands-others}
use Rattle.file_pages.specs.Fresh.{durable_cell}
use Rattle.file_pages.proofs.durable.renew_lines.Goals as goal

pub loop-k-init : goal.loop-k-init
loop-k-init g c = record { stands = λ j less. absurd (omega (arith, less)); outside = beside-refl _ _; runs = runs-refl _ }

pub returns-in_err-renew_line-clause-outside : goal.returns-in_err-renew_line-clause-outside
returns-in_err-renew_line-clause-outside g c = beside-one_more _ _ _ c.args.first c.loop-k.k _ (omega arith) c.loop-k.invariant.outside c.in_err-renew_line.ensures.outside

pub loop-k-preserved : goal.loop-k-preserved
loop-k-preserved g c =
    let now = (g.L.Lines.state c.loop-k.dev).medium in
    let new = (g.L.Lines.state c.renew_line.new.dev).medium in
    let bytes = c.args.bytes.now in
    let k = c.loop-k.k in
    record {
      stands = λ j less.
          elim (cases_lt j k) as (λ _. CellStands new (c.args.first + j) (durable_cell (take 64 (drop (64 * j) bytes)))) [
            | inl before ↦
                stands-others (λ n. n ≡ c.args.first + k) now new (c.args.first + j) (durable_cell (take 64 (drop (64 * j) bytes)))
                (others-beside (λ n. n ≡ c.args.first + k) now new c.in_ok-renew_line.ensures.outside) (λ same. omega (arith, same, before)) (c.loop-k.invariant.stands j before)
            | inr now ↦
                let is : k ≡ j = omega (arith, now, less) in
                let size : 64 * k + 64 - 64 * k ≡ 64 = omega arith in
                subst (λ i. CellStands new (c.args.first + i) (durable_cell (take 64 (drop (64 * i) bytes)))) is
                (subst (λ n. CellStands new (c.args.first + k) (durable_cell (take n (drop (64 * k) bytes)))) size c.in_ok-renew_line.ensures.ok)
          ];
      outside = beside-one_more _ _ _ c.args.first k _ (omega arith) c.loop-k.invariant.outside c.in_ok-renew_line.ensures.outside;
      runs = runs_within _ _ _ _ _ _ _ (runs_then _ _ 3 1 _ _ _ _ c.loop-k.invariant.runs c.in_ok-renew_line.ensures.runs) (omega arith) (omega arith);
    }

pub returns-clause-ok : goal.returns-clause-ok
returns-clause-ok g c = λ k below. c.loop-k.invariant.stands k (omega (arith, below, c.loop-k-test.false))
