-- What a search of a span says of the lines that it touches.
use Rattle.std.proofs.Common.{◌≡◌, inl, inr, ◌+◌, ◌-◌, ◌/◌, ◌<◌, ◌≤◌, ◌&&◌, ℕ, Bool, true, false, nat_le, not, Option, Some, None, option_map, position, refl, sym, ap, ◌∙◌, arith}
use Rattle.std.specs.List.{range_with_len}
use Rattle.std.proofs.lemmas.Bool.{and_cases, and_from, and_left, and_parts, and_right, cases_Bool, false≢true, le-leb, leb-true}
use Rattle.std.proofs.lemmas.Option.{none-some, same_Some}
use Rattle.nvm_base.specs.declared.units.Span.{Span}
use Rattle.line_device.specs.Medium.{Medium}
use Rattle.line_words.proofs.PositionLemmas.{none_found, one_found}
use Rattle.nvm_model.specs.Cell.{covers, lowest_touched, touches}
use Rattle.nvm_model.proofs.NextLemmas.{IsLowestFrom}
use Rattle.page_lines.specs.declared.finding.BadLines.TheVariants.{All, NotCovered}
use Rattle.page_lines.specs.Sought.{is_bad_at, is_sought, lowest_bad_in}
use Rattle.page_lines.proofs.LoopLemmas.{touches-within, within-touches}

-- where a search finds nothing, no line that the span touches passes
unmapped : (k : ℕ) (o : Option ℕ) → option_map (λ n. k + n) o ≡ None → o ≡ None
unmapped k None is = refl
unmapped k (Some n) is = absurd (none-some (k + n) (sym is))

pub none_touched : (p : ℕ → Bool) (start len n : ℕ) → 1 ≤ len → lowest_touched p start len ≡ None → touches start len n ≡ true → p n ≡ false
none_touched p start len n some none touched =
    let at = within-touches start len n some touched in
    let first : ℕ = start / 64 in
    let back : first + (n - first) ≡ n = omega (arith, at.0) in
    ap p (sym back)
    ∙ none_found p first ((start + len - 1) / 64 + 1 - start / 64) (n - first)
    (unmapped first (position p (range_with_len first ((start + len - 1) / 64 + 1 - start / 64))) none) (omega (arith, at.0, at.1))

pub all_good : (place : ℕ → Option ℕ) (m : Medium) (span : Span) → 1 ≤ span.len → lowest_bad_in All place m span ≡ None → (n line : ℕ) → touches span.start span.len n ≡ true → place n ≡ Some line → m.is_bad line ≡ false
all_good place m span some none n line touched at =
    sym (ap (is_bad_at m) at) ∙ none_touched (λ k. is_sought All span k && is_bad_at m (place k)) span.start span.len n some none touched

pub all_covered : (place : ℕ → Option ℕ) (m : Medium) (span : Span) → 1 ≤ span.len → lowest_bad_in NotCovered place m span ≡ None → (n line : ℕ) → touches span.start span.len n ≡ true → place n ≡ Some line → m.is_bad line ≡ true → covers span.start span.len n ≡ true
all_covered place m span some none n line touched at bad =
    let fails = none_touched (λ k. is_sought NotCovered span k && is_bad_at m (place k)) span.start span.len n some none touched in
    let bad_there : is_bad_at m (place n) ≡ true = ap (is_bad_at m) at ∙ bad in
    elim (cases_Bool (covers span.start span.len n)) as (λ _. covers span.start span.len n ≡ true) [
      | inl is_covered ↦ is_covered
      | inr lacks ↦ absurd (false≢true (sym fails ∙ and_from (not (covers span.start span.len n)) (is_bad_at m (place n)) (ap not lacks) bad_there))
    ]

-- what is found is a line of the span
pub found_small : (p : ℕ → Bool) (start len n : ℕ) → Some n ≡ lowest_touched p start len → n < start / 64 + ((start + len - 1) / 64 + 1 - start / 64)
found_small p start len n is = by_place (position p (range_with_len (start / 64) ((start + len - 1) / 64 + 1 - start / 64))) refl is
  where
    by_place : (o : Option ℕ) → position p (range_with_len (start / 64) ((start + len - 1) / 64 + 1 - start / 64)) ≡ o → Some n ≡ option_map (λ k. start / 64 + k) o → n < start / 64 + ((start + len - 1) / 64 + 1 - start / 64)
    by_place None found is = absurd (none-some n (sym is))
    by_place (Some k) found is =
        let same : n ≡ start / 64 + k = same_Some _ _ is in
        let first = one_found p (start / 64) ((start + len - 1) / 64 + 1 - start / 64) k found in
        omega (arith, same, first.within)

-- the lowest line from one on that the span touches and that passes
pub lowest-touched : (q : ℕ → Bool) (from start len : ℕ) (lowest : Option ℕ) → 1 ≤ len → lowest ≡ lowest_touched (λ n. nat_le from n && q n) start len
    → IsLowestFrom from (λ n. touches start len n && q n) lowest
lowest-touched q from start len lowest some is = by_lowest lowest is
  where
    sought : ℕ → Bool
    sought n = nat_le from n && q n

    first : ℕ
    first = start / 64

    count : ℕ
    count = (start + len - 1) / 64 + 1 - start / 64

    fails : (n : ℕ) → from ≤ n → sought n ≡ false → q n ≡ false
    fails n past out = elim (and_cases (nat_le from n) (q n) out) as (λ _. q n ≡ false) [
      | inl before ↦ absurd (false≢true (sym before ∙ le-leb from n past))
      | inr not ↦ not
    ]

    untouched : (n : ℕ) → from ≤ n → (touches start len n ≡ true → sought n ≡ false) → (touches start len n && q n) ≡ false
    untouched n past out = elim (cases_Bool (touches start len n)) as (λ _. (touches start len n && q n) ≡ false) [
      | inl touched ↦ and_right (touches start len n) (q n) (fails n past (out touched))
      | inr not ↦ and_left (touches start len n) (q n) not
    ]

    by_place : (n : ℕ) (o : Option ℕ) → position sought (range_with_len first count) ≡ o → Some n ≡ option_map (λ k. first + k) o → IsLowestFrom from (λ k. touches start len k && q k) (Some n)
    by_place n None found same = absurd (none-some n (sym same))
    by_place n (Some i) found same =
        let at : n ≡ first + i = same_Some _ _ same in
        let one = one_found sought first count i found in
        let here = and_parts (nat_le from n) (q n) (ap sought at ∙ one.here) in
        let touched = touches-within start len n some (omega (arith, at)) (omega (arith, at, one.within)) in (
          leb-true from n here.0,
          and_from (touches start len n) (q n) touched here.1,
          λ k past before. untouched k past
              (λ is_touched.
              let w = within-touches start len k some is_touched in
              let back : first + (k - first) ≡ k = omega (arith, w.0) in
              ap sought (sym back) ∙ one.before (k - first) (omega (arith, w.0, before, at))),
        )

    by_lowest : (o : Option ℕ) → o ≡ lowest_touched sought start len → IsLowestFrom from (λ n. touches start len n && q n) o
    by_lowest None is = λ n past. untouched n past (none_touched sought start len n some (sym is))
    by_lowest (Some n) is = by_place n (position sought (range_with_len first count)) refl is
