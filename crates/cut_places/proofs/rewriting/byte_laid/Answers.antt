-- Range by range, each of which has its part of the bytes.
use Rattle.std.proofs.Common.{◌≡◌, ◌-◌, ◌+◌, ◌<◌, ◌≤◌, ℕ, true, false, cond, List, length, drop, slice_index, slice_index_or, sym, ap, ◌∙◌}
use Rattle.std.proofs.lemmas.List.{drop_all, drop_more}
use Rattle.nvm_base.specs.declared.units.Span.{Span}
use Rattle.nvm_model.specs.Numbered.{is_among}
use Rattle.file_actions.specs.Rewriting.{byte_laid}
use Rattle.cut_places.proofs.rewriting.byte_laid.Goals as goal

here : (ranges : List Span) (i : ℕ) (d : Span) (rest : List ℕ) (at old : ℕ) → i < length ranges → is_among (slice_index_or ranges i d).start (slice_index_or ranges i d).len at ≡ true
    → byte_laid (drop i ranges) rest at old ≡ slice_index rest (at - (slice_index_or ranges i d).start)
here ranges i d rest at old lt is =
    ap (λ rs. byte_laid rs rest at old) (drop_more ranges i d lt)
    ∙ ap (λ b. cond b (slice_index rest (at - (slice_index_or ranges i d).start)) (byte_laid (drop (i + 1) ranges) (drop (slice_index_or ranges i d).len rest) at old)) is

later : (ranges : List Span) (i : ℕ) (d : Span) (rest : List ℕ) (at old : ℕ) → i < length ranges → is_among (slice_index_or ranges i d).start (slice_index_or ranges i d).len at ≡ false
    → byte_laid (drop i ranges) rest at old ≡ byte_laid (drop (i + 1) ranges) (drop (slice_index_or ranges i d).len rest) at old
later ranges i d rest at old lt is =
    ap (λ rs. byte_laid rs rest at old) (drop_more ranges i d lt)
    ∙ ap (λ b. cond b (slice_index rest (at - (slice_index_or ranges i d).start)) (byte_laid (drop (i + 1) ranges) (drop (slice_index_or ranges i d).len rest) at old)) is

none : (ranges : List Span) (i : ℕ) (rest : List ℕ) (at old : ℕ) → length ranges ≤ i → old ≡ byte_laid (drop i ranges) rest at old
none ranges i rest at old past = sym (ap (λ rs. byte_laid rs rest at old) (drop_all i ranges past))

pub returns-then-is_among : goal.returns-then-is_among
returns-then-is_among c =
    c.byte_in.ensures
    ∙ sym (here c.args.ranges.now c.loop-range.range-index (record { start = 0; len = 0 }) c.loop-range.rest.now c.args.at c.args.old c.loop-range-test.true (sym c.is_among.ensures ∙ c.if-is_among.true))
    ∙ c.loop-range.invariant

pub loop-range-preserved : goal.loop-range-preserved
loop-range-preserved c =
    ap (λ bytes. byte_laid (drop (c.loop-range.range-index + 1) c.args.ranges.now) bytes c.args.at c.args.old) c.behind-rest.ensures
    ∙ sym (later c.args.ranges.now c.loop-range.range-index (record { start = 0; len = 0 }) c.loop-range.rest.now c.args.at c.args.old c.loop-range-test.true (sym c.is_among.ensures ∙ c.if-is_among.false))
    ∙ c.loop-range.invariant

pub returns : goal.returns
returns c = none c.args.ranges.now c.loop-range.range-index c.loop-range.rest.now c.args.at c.args.old c.loop-range-test.false ∙ c.loop-range.invariant
