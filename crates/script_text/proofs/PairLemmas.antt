-- How large pairs of words can be: pairs of numbers, and pairs of a number and DATA.
use Rattle.std.proofs.Common.{All, ◌≡◌, ℕ, ◌+◌, ◌^◌, ◌<◌, ◌≤◌, Bool, true, false, nat_le, List, [], ◌∷◌, ◌++◌, length, Option, Some, None, option_map, if◌then◌else◌, refl, sym, ◌∙◌, subst, ap, arith, rules, tests, sum_by, length-append}
use Rattle.std.proofs.lemmas.List.Sums.{sum_by-cons}
use Rattle.std.proofs.lemmas.List.Elements.{All-nil, All-cons}
use Rattle.nvm_base.specs.declared.units.Span.{Span}
use Rattle.nvm_base.specs.Numbers.{number_of}
use Rattle.nvm_base.specs.Data.{data_of}
use Rattle.script_text.specs.Action.{Action}
use Rattle.script_text.specs.Operands.{with_span, spans_of, spans_action, with_range, ranges_of, fitting, ranges_action}
use Rattle.script_text.specs.Parsing.{InBounds, IsSmall, IsSmallRange, AreSmallRanges}
use Rattle.script_text.proofs.DataLemmas.{data_of-some}
use Rattle.script_text.proofs.OperandLemmas.{Keeps, number_of-below}

-- pairs of numbers, as many as there are words for
spans_of-small : (words : List (List ℕ)) (spans : List Span) → spans_of words ≡ Some spans → All IsSmall spans
spans_of-small [] spans e = let same : [] ≡ spans = cc in subst (All IsSmall) same (All-nil IsSmall)
spans_of-small (x ∷ []) spans e = absurd (cc)
spans_of-small (x ∷ y ∷ words) spans e = go (number_of x) (number_of y) (spans_of words) refl refl (spans_of-small words) refl e
  where
    go : (m n : Option ℕ) (o : Option (List Span)) → number_of x ≡ m → number_of y ≡ n → ((more : List Span) → spans_of words ≡ Some more → All IsSmall more)
        → spans_of words ≡ o → with_span m n o ≡ Some spans → All IsSmall spans
    go None n o is also small rest e = absurd (cc)
    go (Some a) None o is also small rest e = absurd (cc)
    go (Some a) (Some b) None is also small rest e = absurd (cc)
    go (Some a) (Some b) (Some more) is also small rest e =
        let same : record { start = a; len = b } ∷ more ≡ spans = cc in
        subst (All IsSmall) same (All-cons IsSmall _ more (number_of-below x a is, number_of-below y b also) (small more rest))

spans_of-some : (x : List ℕ) (words : List (List ℕ)) (spans : List Span) → spans_of (x ∷ words) ≡ Some spans → 0 < length spans
spans_of-some x [] spans e = absurd (cc)
spans_of-some x (y ∷ words) spans e = go (number_of x) (number_of y) (spans_of words) e
  where
    go : (m n : Option ℕ) (o : Option (List Span)) → with_span m n o ≡ Some spans → 0 < length spans
    go None n o e = absurd (cc)
    go (Some a) None o e = absurd (cc)
    go (Some a) (Some b) None e = absurd (cc)
    go (Some a) (Some b) (Some more) e = let same : record { start = a; len = b } ∷ more ≡ spans = cc in subst (λ ss. 0 < length ss) same (omega arith)

pub spans_action-bounds : (make : List Span → Action) → ((spans : List Span) → 0 < length spans → All IsSmall spans → InBounds (make spans)) → (words : List (List ℕ)) → Keeps (spans_action make words)
spans_action-bounds make small [] action e = absurd (cc)
spans_action-bounds make small (x ∷ words) action e = go (spans_of (x ∷ words)) refl e
  where
    go : (o : Option (List Span)) → spans_of (x ∷ words) ≡ o → option_map make o ≡ Some action → InBounds action
    go None is e = absurd (cc)
    go (Some spans) is e = let same : make spans ≡ action = cc in subst InBounds same (small spans (spans_of-some x words spans is) (spans_of-small (x ∷ words) spans is))

-- ranges and their bytes
abbrev AreSmall : List Span × List ℕ → Type 0
AreSmall p = All IsSmallRange p.0 × (length p.1 ≡ sum_by (λ (r : Span). r.len) p.0)

with_range-small : (start : ℕ) (bytes : List ℕ) (p : List Span × List ℕ) → start < 2 ^ 32 → 0 < length bytes → length (bytes ++ p.1) ≤ 65536 → (length p.1 ≤ 65536 → AreSmall p) → AreSmall (record { start = start; len = length bytes } ∷ p.0, bytes ++ p.1)
with_range-small start bytes p below some most small =
    let both = length-append bytes p.1 in
    let rest = small (omega arith) in
    let total = sum_by-cons (λ (r : Span). r.len) (record { start = start; len = length bytes }) p.0 in
    let few : length bytes ≤ 65536 = omega arith in
    (All-cons IsSmallRange _ p.0 (below, some, few) rest.0, both ∙ ap (λ n. length bytes + n) rest.1 ∙ sym total)

ranges_of-small : (words : List (List ℕ)) (p : List Span × List ℕ) → ranges_of words ≡ Some p → length p.1 ≤ 65536 → AreSmall p
ranges_of-small [] p e most = let same : ([], []) ≡ p = cc in subst AreSmall same (All-nil IsSmallRange, refl)
ranges_of-small (x ∷ []) p e most = absurd (cc)
ranges_of-small (x ∷ text ∷ words) p e most = go (number_of x) (data_of text) (ranges_of words) refl refl (ranges_of-small words) refl e
  where
    go : (m : Option ℕ) (d : Option (List ℕ)) (o : Option (List Span × List ℕ)) → number_of x ≡ m → data_of text ≡ d
        → ((q : List Span × List ℕ) → ranges_of words ≡ Some q → length q.1 ≤ 65536 → AreSmall q)
        → ranges_of words ≡ o → with_range m d o ≡ Some p → AreSmall p
    go None d o is also small rest e = absurd (cc)
    go (Some a) None o is also small rest e = absurd (cc)
    go (Some a) (Some b) None is also small rest e = absurd (cc)
    go (Some a) (Some b) (Some q) is also small rest e =
        let same : (record { start = a; len = length b } ∷ q.0, b ++ q.1) ≡ p = cc in
        let fits : length (b ++ q.1) ≤ 65536 = omega (arith, ap (λ r. length r.1) same) in
        subst AreSmall same (with_range-small a b q (number_of-below x a is) (data_of-some text b also) fits (small q rest))

ranges_of-some : (x : List ℕ) (words : List (List ℕ)) (p : List Span × List ℕ) → ranges_of (x ∷ words) ≡ Some p → 0 < length p.0
ranges_of-some x [] p e = absurd (cc)
ranges_of-some x (text ∷ words) p e = go (number_of x) (data_of text) (ranges_of words) e
  where
    go : (m : Option ℕ) (d : Option (List ℕ)) (o : Option (List Span × List ℕ)) → with_range m d o ≡ Some p → 0 < length p.0
    go None d o e = absurd (cc)
    go (Some a) None o e = absurd (cc)
    go (Some a) (Some b) None e = absurd (cc)
    go (Some a) (Some b) (Some q) e =
        let same : (record { start = a; len = length b } ∷ q.0, b ++ q.1) ≡ p = cc in
        subst (λ r. 0 < length r.0) same (omega arith)

pub ranges_action-bounds : (make : List Span → List ℕ → Action) → ((ranges : List Span) (bytes : List ℕ) → AreSmallRanges ranges bytes → InBounds (make ranges bytes)) → (words : List (List ℕ)) → Keeps (ranges_action make words)
ranges_action-bounds make good [] action e = absurd (cc)
ranges_action-bounds make good (x ∷ words) action e = go (ranges_of (x ∷ words)) refl e
  where
    sized : (p : List Span × List ℕ) (b : Bool) → nat_le (length p.1) 65536 ≡ b → ranges_of (x ∷ words) ≡ Some p
        → option_map (λ p. make p.0 p.1) (if b then Some p else None) ≡ Some action → InBounds action
    sized p true t is e =
        let same : make p.0 p.1 ≡ action = cc in
        let most : length p.1 ≤ 65536 = search (rules, tests) in
        let small = ranges_of-small (x ∷ words) p is most in
        subst InBounds same (good p.0 p.1 (ranges_of-some x words p is, small.0, small.1, most))
    sized p false t is e = absurd (cc)

    go : (o : Option (List Span × List ℕ)) → ranges_of (x ∷ words) ≡ o → option_map (λ p. make p.0 p.1) (fitting 65536 o) ≡ Some action → InBounds action
    go None is e = absurd (cc)
    go (Some p) is e = sized p (nat_le (length p.1) 65536) refl is e
