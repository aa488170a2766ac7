use Rattle.std.proofs.Common.{◌≡◌, ◌+◌, List, Bool, length, map, ap, subst, sym, ◌∙◌, arith}
use Rattle.std.proofs.lemmas.List.{length-map}
use Rattle.page_table.specs.Pages.{unit_of}
use Rattle.page_table.proofs.ClaimLemmas.{HasClaimed, claimed_all, claimed_more, claimed_to, wrong_unclaimed}
use Rattle.page_table.proofs.TableLemmas.{get_or-units}
use Rattle.page_table.proofs.WrongLemmas.{none_wrong, wrong_first}
use Rattle.page_table.proofs.judging.check.Goals as goal

pub returns-then-not-claim-clause-err : goal.returns-then-not-claim-clause-err
returns-then-not-claim-clause-err c =
    let words = c.args.words.now in
    let entry = c.loop-entry.entry in
    let here = get_or-units words entry in
    let so_far = c.loop-entry.invariant.claimed in
    wrong_first c.args.units c.args.counts.now words entry c.loop-entry-test.true so_far.right
    (wrong_unclaimed c.args.units c.args.counts.now (map unit_of words) entry c.loop-entry.free so_far _ here (sym c.claim.ensures.right ∙ c.if-not-claim.true))

pub loop-entry-preserved : goal.loop-entry-preserved
loop-entry-preserved c =
    let words = c.args.words.now in
    let pages = map unit_of words in
    let entry = c.loop-entry.entry in
    let here = get_or-units words entry in
    let long : length pages ≡ length words = length-map words unit_of in
    let one : HasClaimed c.args.units c.args.counts.now pages (entry + 1) c.claim.new.free = subst (λ (free : List Bool). HasClaimed c.args.units c.args.counts.now pages (entry + 1) free) (sym (c.claim.ensures.free c.if-not-claim.false))
    (claimed_more c.args.units c.args.counts.now pages entry c.loop-entry.free c.loop-entry.invariant.claimed (omega (arith, long, c.loop-entry-test.true)) _ here (sym c.claim.ensures.right ∙ c.if-not-claim.false)) in
    let past = c.past_holes-entry in
    record {
      within = past.ensures.within;
      claimed = claimed_to c.args.units c.args.counts.now pages (entry + 1) past.result c.claim.new.free one past.ensures.from (omega (arith, long, past.ensures.within)) (λ k from below. get_or-units words k ∙ ap unit_of (past.ensures.holes k from below));
    }

pub returns-clause-ok : goal.returns-clause-ok
returns-clause-ok c = none_wrong c.args.units c.args.counts.now c.args.words.now (λ k below. c.loop-entry.invariant.claimed.right k (omega (arith, below, c.loop-entry-test.false)))

pub returns-clause-free : goal.returns-clause-free
returns-clause-free c =
    let words = c.args.words.now in
    let pages = map unit_of words in
    claimed_all c.args.units c.args.counts.now pages c.loop-entry.entry c.loop-entry.free c.loop-entry.invariant.claimed (omega (arith, length-map words unit_of, c.loop-entry-test.false, c.loop-entry.invariant.within))
