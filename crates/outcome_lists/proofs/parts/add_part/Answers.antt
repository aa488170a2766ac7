use Rattle.std.proofs.Common.{◌≡◌, ap, sym, ◌∙◌, arith}
use Rattle.outcome_lists.proofs.PartOrderLemmas.{place, place-low, put_before, put_last, stays}
use Rattle.outcome_lists.proofs.parts.add_part.Goals.{in_default-via-in-Some+else-same_part, in_default-via-in_default}
use Rattle.outcome_lists.proofs.parts.add_part.Goals as goal

pub insert-requires : goal.insert-requires
insert-requires c =
    let at : c.place_of-place.result ≡ place c.args.part c.args.parts.now.items = c.place_of-place.ensures ∙ ap (place c.args.part) c.deref.ensures.value in
    omega (arith, at, place-low c.args.part c.args.parts.now.items)

pub returns-in-Some : goal.returns-in-Some
returns-in-Some c =
    let parts = c.args.parts.now.items in
    let at = c.place_of-place.ensures ∙ ap (place c.args.part) c.deref.ensures.value in
    let found = c.in-Some.ensures.lookup in
    let shown = c.deref-2.result.now in
    record { parts = stays c.args.part c.in-Some.other.now parts shown c.place_of-place.result c.deref-2.ensures.value at found.0 found.1 (sym c.if-same_part.ensures) }

pub returns-in_ok-insert-in_default : goal.returns-in_ok-insert-in_default
returns-in_ok-insert-in_default c =
    let parts = c.args.parts.now.items in
    let shown = c.deref-2.result.now in
    let k = c.place_of-place.result in
    let at = c.place_of-place.ensures ∙ ap (place c.args.part) c.deref.ensures.value in
    elim c.in_default.branch [
      | in_default-via-in-Some+else-same_part w ↦
          let found = w.in-Some.ensures.lookup in
          let placed = put_before c.args.part w.in-Some.other.now parts shown k c.deref-2.ensures.value at found.0 found.1 (sym w.if-same_part.ensures) in
          record { parts = c.in_ok-insert-in_default.ensures.items ∙ placed }
      | in_default-via-in_default w ↦
          record { parts = c.in_ok-insert-in_default.ensures.items ∙ put_last c.args.part parts shown k c.deref-2.ensures.value at w.in_default.ensures.lookup.0 }
    ]
