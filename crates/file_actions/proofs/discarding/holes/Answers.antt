use Rattle.std.proofs.Common.{◌≡◌, ◌+◌, ◌-◌, ◌++◌, ℕ, suc, [], ◌∷◌, Option, None, length, ap, sym, ◌∙◌, arith}
use Rattle.nvm_model.proofs.NumberedLemmas.{length-list_from}
use Rattle.file_journal.specs.Changes.{holes}
use Rattle.file_journal.proofs.HoleLemmas.{list_from-push}
use Rattle.file_actions.proofs.discarding.holes.Goals as goal

pub push-requires : goal.push-requires
push-requires c =
    let f : ℕ → ℕ × Option ℕ = λ page. (page, None) in
    let size = ap length c.loop-page.invariant.are ∙ length-list_from f c.args.pages.start (c.loop-page.page - c.args.pages.start) in
    omega (arith, size, c.loop-page-test.true, c.requires)

pub loop-page-preserved : goal.loop-page-preserved
loop-page-preserved c =
    let f : ℕ → ℕ × Option ℕ = λ page. (page, None) in
    let first = c.args.pages.start in
    let page = c.loop-page.page in
    let k = page - first in
    let at : first + k ≡ page = omega (arith, c.loop-page.invariant.from) in
    let next : suc k ≡ page + 1 - first = omega (arith, c.loop-page.invariant.from) in
    record {
      from = omega (arith, c.loop-page.invariant.from);
      are =
          c.push.ensures.items
          ∙ ap (λ ws. ws ++ (page, None) ∷ []) c.loop-page.invariant.are
          ∙ ap (λ (p : ℕ). holes first k ++ (p, None) ∷ []) (sym at)
          ∙ sym (list_from-push f first k)
          ∙ ap (λ n. holes first n) next;
    }
