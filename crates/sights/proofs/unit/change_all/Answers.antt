use Rattle.std.proofs.Common.{◌≡◌, ◌<◌, ◌+◌, ◌++◌, ◌∙◌, ℕ, List, ap, sym, length, map, take, drop, get_or, arith, slice_set}
use Rattle.std.proofs.lemmas.List.Edits.{map_over_more}
use Rattle.script_text.specs.Action.{action_of}
use Rattle.sights.proofs.unit.change_all.Goals as goal

one_more : {X : Type 0} (f : X → X) (xs ys : List X) (i : ℕ) (x y : X) → i < length xs → ys ≡ map f (take i xs) ++ drop i xs → x ≡ get_or ys i x → y ≡ f (get_or ys i x)
    → slice_set ys i y ≡ map f (take (i + 1) xs) ++ drop (i + 1) xs
one_more f xs ys i x y below so is e = ap (slice_set ys i) (e ∙ ap f (sym is)) ∙ map_over_more f xs ys i x below so is

pub loop-unit-preserved : goal.loop-unit-preserved
loop-unit-preserved g c = one_more (g.U.Unit.once_done c.args.geometry (action_of c.args.command.now))
    c.args.units.now.items c.loop-unit.unit-items c.loop-unit.unit-index c.unit-item.result c.change.new.self
    (omega (arith, c.loop-unit-test.true, ap length c.deref_mut-unit-items.ensures.value)) c.loop-unit.invariant c.unit-item.is c.in_ok-change.ensures
