use Rattle.std.proofs.Common.{◌≡◌, ◌+◌, ◌<◌, ℕ, Bool, not, true, false, Option, Some, None, IsTrue, nat_lt, if◌then◌else◌, refl, sym, subst, ◌∙◌, arith}
use Rattle.std.proofs.lemmas.Bool.{ltb-true}
use Rattle.std.specs.Option.{is_some}
use Rattle.line_words.proofs.PositionLemmas.{none_found}
use Rattle.page_lines.specs.Placed.{whole}
use Rattle.storage_tests.proofs.spans.are_good.Goals as goal

none_is : (o : Option ℕ) (none : Bool) → is_some o ≡ not none → IsTrue none → o ≡ None
none_is None none e is = refl
none_is (Some x) true e is = cc
none_is (Some x) false e is = cc

whole_is : (count n line : ℕ) → whole count n ≡ Some line → (n < count) × (n ≡ line)
whole_is count n line at = by_test (nat_lt n count) refl at
  where
    by_test : (t : Bool) → nat_lt n count ≡ t → (if t then Some n else None) ≡ Some line → (n < count) × (n ≡ line)
    by_test true is same = (ltb-true n count is, cc)
    by_test false is same = cc

pub returns-then-count-lines : goal.returns-then-count-lines
returns-then-count-lines g c = record {
  good = λ is n line at.
      let w = whole_is c.args.count n line at in
      let from_first : 0 + n ≡ n = omega arith in
      let m = (g.L.Lines.state c.args.dev.now).medium in
      subst (λ i. m.is_bad i ≡ false) w.1
      (subst (λ i. m.is_bad i ≡ false) from_first
      (none_found m.is_bad 0 c.args.count n (sym c.first_bad.ensures.line ∙ none_is _ _ c.is_none.ensures is) w.0));
}
