-- What is looked at, once a command was followed.
use Rattle.std.proofs.Common.{◌≡◌, true, false, Option, Some, None, IsTrue, map, refl, sym, ap, subst, ◌∙◌}
use Rattle.std.specs.Option.{is_none}
use Rattle.word_tables.specs.declared.geometry.Geometry.{Geometry}
use Rattle.script_text.specs.Action.{Action}
use Rattle.reply_text.specs.Answer.{Answer}
use Rattle.cut_places.specs.MachineModel.Machine.{Machine}
use Rattle.cut_places.specs.MachineModel.Commands.{fate, meaning, refusal, unless_refused}
use Rattle.cut_places.specs.Outcomes.Stops.{is_of_program, led_to}
use Rattle.cut_places.specs.declared.sight.Sight.{Sight}
use Rattle.cut_places.specs.Following.{Follows, IsWithin}
use Rattle.cut_places.specs.Sights.{files_once_done}
use Rattle.cut_places.proofs.StepLemmas.{ready_after, sees_after}
use Rattle.cut_places.specs.SightsSeen.Units.{block_once_done, line_once_done}
use Rattle.cut_places.proofs.SightsSeen.SizeLemmas.{geometry_stays}

-- once it is done, or refused
pub follows_done : (now after : Sight) (geo : Geometry) (h : Machine) (action : Action) → Follows now geo h → IsWithin now geo → is_none (refusal h action) ≡ true
    → IsTrue (is_of_program action)
    → after.lines.items ≡ map (line_once_done geo action) now.lines.items → after.blocks.items ≡ map (block_once_done geo action) now.blocks.items
    → after.files ≡ files_once_done action now.files → Follows after geo (led_to h (fate h action))
follows_done now after geo h action follows within done program lines blocks files =
    subst (Follows after geo) (sym (ap (λ o. led_to h (unless_refused h o ((meaning action).comes h))) allowed)) (record {
      ready = ready_after h action follows.ready program allowed;
      sizes = geometry_stays h action ∙ follows.sizes;
      sees = sees_after h action now after allowed follows.ready follows.sees (subst (IsWithin now) (sym follows.sizes) within)
          (lines ∙ ap (λ sizes. map (line_once_done sizes action) now.lines.items) (sym follows.sizes))
          (blocks ∙ ap (λ sizes. map (block_once_done sizes action) now.blocks.items) (sym follows.sizes)) files;
    })
  where
    none_is : (o : Option Answer) → is_none o ≡ true → o ≡ None
    none_is None none = refl
    none_is (Some why) none = cc none

    allowed : refusal h action ≡ None
    allowed = none_is (refusal h action) done

pub follows_refused : (now : Sight) (geo : Geometry) (h : Machine) (action : Action) → Follows now geo h → is_none (refusal h action) ≡ false
    → Follows now geo (led_to h (fate h action))
follows_refused now geo h action follows refused = by_refusal (refusal h action) refused
  where
    by_refusal : (o : Option Answer) → is_none o ≡ false → Follows now geo (led_to h (unless_refused h o ((meaning action).comes h)))
    by_refusal None none = cc none
    by_refusal (Some why) none = follows
