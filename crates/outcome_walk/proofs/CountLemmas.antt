-- The number of outcomes, from what stands alone.
use Rattle.std.proofs.Common.{◌≡◌, ◌+◌, ◌*◌, ◌<◌, ◌++◌, ℕ, zero, suc, true, false, Bool, Option, Some, None, List, [], ◌∷◌, drop, get_or, length, map, set, refl, sym, ap, ap₂, ◌∙◌, arith, rules, tests, cond, ◌&&◌}
use Rattle.std.specs.List.{flat_map, list_any}
use mathlib.Core.Bool.{beq}
use Rattle.std.specs.Bool.{Decides}
use Rattle.outcome_walk.specs.declared.crowd.Crowd.{Crowd}
use Rattle.outcome_walk.specs.declared.level.Level.{Level}
use Rattle.outcome_walk.specs.declared.level.Link.{Link}
use Rattle.outcome_walk.specs.declared.level.Rows.{Rows}
use Rattle.outcome_walk.specs.declared.sides.Sides.{Sides}
use Rattle.outcome_walk.specs.declared.steps.Move.{Move as MoveHeld}
use Rattle.outcome_walk.specs.Counting.{below, completions, sides_at, some_counted, weighed}
use Rattle.outcome_walk.specs.Holding.{parts_held, ways_held}
use Rattle.outcome_walk.specs.Steps.{Move, all_stepped, if_standing, moves, moves_held, with_move}
use Rattle.outcome_walk.specs.Walking.{Part, Trail, Way, begun, both, grown, stands, walked, with_way}
use Rattle.outcome_walk.proofs.StepLemmas.{ways_moved}
use Rattle.outcome_walk.proofs.WalkLemmas.{next_item}

-- what a function gives of the sides of outcomes, together
abbrev pub summed : (List Sides → ℕ) → List Trail → ℕ
summed f [] = 0
summed f (t ∷ trails) = f t.sides + summed f trails

summed_both : (f : List Sides → ℕ) (xs ys : List Trail) → summed f (xs ++ ys) ≡ summed f xs + summed f ys
summed_both f [] ys = omega arith
summed_both f (x ∷ xs) ys = let rest = summed_both f xs ys in omega (arith, rest)

-- one way
of_test : (f : List Sides → ℕ) (b : Bool) (text : List ℕ) (sides : List Sides) → summed f (cond b (record { text = text; sides = sides } ∷ []) []) ≡ some_counted f (cond b (Some sides) None)
of_test f true text sides = omega arith
of_test f false text sides = refl

-- each of some moves
of_moves : (f : List Sides → ℕ) (t : Trail) (ms : List Move) → summed f (flat_map (with_move t) ms) ≡ below f ms t.sides
of_moves f t [] = refl
of_moves f t (m ∷ ms) =
    summed_both f (with_move t m) (flat_map (with_move t) ms)
    ∙ ap₂ (λ k n. k + n) (of_test f (list_any stands (all_stepped m.steps t.sides)) (t.text ++ m.text) (all_stepped m.steps t.sides)) (of_moves f t ms)

-- of each outcome
of_grown : (places : List Rows) (links : List Link) (f : List Sides → ℕ) (ways : List Way) (trails : List Trail)
    → summed f (grown places links ways trails) ≡ summed (below f (moves places links ways)) trails
of_grown places links f ways [] = refl
of_grown places links f ways (t ∷ trails) =
    summed_both f (flat_map (with_way places links t) ways) (grown places links ways trails)
    ∙ ap₂ (λ m n. m + n) (ap (summed f) (ways_moved places links t ways) ∙ of_moves f t (moves places links ways)) (of_grown places links f ways trails)

each_one : (trails : List Trail) → length trails ≡ summed (λ _. 1) trails
each_one [] = refl
each_one (t ∷ trails) = let rest = each_one trails in omega (arith, rest)

-- all outcomes are as many as come of those so far
pub walked_count : (places : List Rows) (trails : List Trail) (parts : List Part) → length (walked places trails parts) ≡ summed (completions places parts) trails
walked_count places trails [] = each_one trails
walked_count places trails (part ∷ parts) =
    walked_count places (grown places part.links part.ways trails) parts ∙ of_grown places part.links (completions places parts) part.ways trails

-- one crowd, of one outcome
pub begun_count : (places : List Rows) (parts : List Part) (sides : List Sides) → sides ≡ map (λ _. both true) places
    → 1 * completions places parts sides + 0 ≡ length (walked places (begun places ∷ []) parts)
begun_count places parts sides is =
    let all = walked_count places (begun places ∷ []) parts in
    let same : completions places parts sides ≡ completions places parts (map (λ _. both true) places) = ap (completions places parts) is in
    omega (arith, all, same)

-- one crowd more at the end
pub weighed_push : (f : List Sides → ℕ) (crowds : List Crowd) (c : Crowd) → weighed f (crowds ++ c ∷ []) ≡ weighed f crowds + c.number * f c.sides.items
weighed_push f [] c = omega arith
weighed_push f (x ∷ crowds) c = let rest = weighed_push f crowds c in omega (arith, rest)

-- the one of that number
pub sides_there : (crowds : List Crowd) (k : ℕ) (c : Crowd) → k < length crowds → c ≡ get_or crowds k c → sides_at k crowds ≡ Some c.sides.items
sides_there [] k c lt is = absurd (omega (arith, lt))
sides_there (x ∷ crowds) zero c lt is = ap (λ (x : Crowd). Some x.sides.items) (sym is)
sides_there (x ∷ crowds) (suc k) c lt is = sides_there crowds k c (omega (arith, lt)) is

heavier : (n more all v a b rest : ℕ) → all ≡ n + more → a ≡ v → b ≡ v → all * b + rest ≡ n * a + rest + more * v
heavier n more all v a b rest is here also = ap₂ (λ x y. x * y + rest) is also ∙ sums ∙ ap (λ y. n * y + rest + more * v) (sym here)
  where
    sums : (n + more) * v + rest ≡ n * v + rest + more * v
    sums = omega arith

-- so many more of those that stand so
pub weighed_more : (f : List Sides → ℕ) (crowds : List Crowd) (k : ℕ) (sides : List Sides) (old new : Crowd) (more : ℕ) → sides_at k crowds ≡ Some sides → old ≡ get_or crowds k old
    → new.sides.items ≡ old.sides.items → new.number ≡ old.number + more → weighed f (set crowds k new) ≡ weighed f crowds + more * f sides
weighed_more f [] k sides old new more at is same grown = cc
weighed_more f (x ∷ crowds) zero sides old new more at is same grown =
    let here : x.sides.items ≡ sides = cc in
    let also : new.sides.items ≡ sides = same ∙ ap (λ (c : Crowd). c.sides.items) is ∙ here in
    let number : new.number ≡ x.number + more = grown ∙ ap (λ (c : Crowd). c.number + more) is in
    heavier (x.number) more new.number (f sides) (f x.sides.items) (f new.sides.items) (weighed f crowds) number (ap f here) (ap f also)
weighed_more f (x ∷ crowds) (suc k) sides old new more at is same grown =
    let rest = weighed_more f crowds k sides old new more at is same grown in omega (arith, rest)

-- `==` of sides
pub sides_same : (a b : Sides) → Decides (beq a.old b.old && beq a.new b.new) (a ≡ b)
sides_same a b = search (rules, tests)

-- one choice more
module _ (f : List Sides → ℕ) (sides : List Sides) (ms : List MoveHeld) (i : ℕ) (x : MoveHeld) (lt : i < length ms) (is : x ≡ get_or ms i x) where
  pub choice_more : (n old new all : ℕ) (next : Option (List Sides)) → next ≡ if_standing (all_stepped x.steps.items sides) → new ≡ old + n * some_counted f next
      → old + n * below f (moves_held (drop i ms)) sides ≡ all → new + n * below f (moves_held (drop (i + 1) ms)) sides ≡ all
  choice_more n old new all next stepped more were =
      let later = below f (moves_held (drop (i + 1) ms)) sides in
      ap (λ m. m + n * later) (more ∙ ap (λ o. old + n * some_counted f o) stepped) ∙ regroup old n (some_counted f (if_standing (all_stepped x.steps.items sides))) later
      ∙ ap (λ xs. old + n * below f (moves_held xs) sides) (sym (next_item ms i x lt is)) ∙ were
    where
      regroup : (old n here later : ℕ) → old + n * here + n * later ≡ old + n * (here + later)
      regroup old n here later = omega arith

-- one level more
pub level_more : (places : List Rows) (levels : List Level) (i : ℕ) (x : Level) → i < length levels → x ≡ get_or levels i x
    → (old new : List Crowd) (all : ℕ) → weighed (completions places (parts_held (drop i levels))) old ≡ all
    → ((f : List Sides → ℕ) → weighed f new ≡ weighed (below f (moves places x.links.items (ways_held x.choices.items))) old)
    → weighed (completions places (parts_held (drop (i + 1) levels))) new ≡ all
level_more places levels i x lt is old new all were grown =
    grown (completions places (parts_held (drop (i + 1) levels))) ∙ ap (λ ls. weighed (completions places (parts_held ls)) old) (sym (next_item levels i x lt is)) ∙ were
