use Rattle.std.proofs.Common.{ℕ, ◌++◌, [], cond, ap, sym, ◌∙◌}
use Rattle.std.proofs.lemmas.List.{append-nil}
use Rattle.nvm_base.specs.Stock.{Stock}
use Rattle.value_tables.proofs.ChangedLemmas.{changes_go}
use Rattle.value_tables.proofs.table.changed_rows.Goals.{then-not-is_there+in_ok-extend, else-not-is_there}
use Rattle.value_tables.proofs.table.changed_rows.Goals as goal

pub loop-i-preserved : goal.loop-i-preserved
loop-i-preserved c =
    let row = c.index-rows-i.result in
    let old = c.loop-i.text.items in
    changes_go c.args.last.now c.args.rows.now c.loop-i.i row old c.if-not-is_there.text.items c.loop-i-test.true c.index-rows-i.is c.loop-i.invariant
    (elim c.if-not-is_there.branch [
      | then-not-is_there+in_ok-extend w ↦
          ap (λ (s : Stock ℕ). s.items) w.text-is ∙ w.in_ok-extend.ensures.ok ∙ ap (λ s. old ++ s) w.as_slice.ensures
          ∙ ap (λ b. old ++ cond b [] row.items) (sym (sym c.is_there.ensures ∙ w.if-not-is_there.true))
      | else-not-is_there w ↦
          ap (λ (s : Stock ℕ). s.items) w.text-is ∙ sym (append-nil old)
          ∙ ap (λ b. old ++ cond b [] row.items) (sym (sym c.is_there.ensures ∙ w.if-not-is_there.false))
    ])
