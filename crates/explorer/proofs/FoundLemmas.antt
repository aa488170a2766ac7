-- The first place of a cut that shows what is asked, and what is kept there.
use Rattle.std.proofs.Common.{◌≡◌, ◌-◌, Option, Some, None, List, refl, sym, ap, subst}
use Rattle.std.proofs.lemmas.Option.{slice_get_within}
use Rattle.script_text.specs.declared.command.Command.{Command}
use Rattle.script_text.specs.Script.{Input}
use Rattle.cut_places.specs.MachineModel.Machine.{Machine}
use Rattle.cut_places.specs.Outcomes.Finds.{armed}
use Rattle.cut_places.specs.Outcomes.Seen.{Seen, may_show}
use Rattle.word_tables.specs.declared.geometry.Geometry.{Geometry}
use Rattle.cut_places.specs.AskedReads.declared.question.Question.{Question}
use Rattle.cut_places.specs.declared.place.CutPlace.{CutPlace}
use Rattle.cut_places.specs.declared.place.CutPlace.TheVariants.{Before, Inside}
use Rattle.cut_places.specs.declared.sight.Sight.{Sight}
use Rattle.cut_places.specs.Following.{IsFirst, ShowsAt}
use Rattle.cut_places.specs.Places.{Stop, cut_places, first_stop, found_stop}
use Rattle.explorer.specs.Finding.{IsFound, IsOn}
use Rattle.explorer.specs.declared.found.Found.{Found}

-- where nothing is found
pub nothing_found : (all look : List Seen) (stops : List Stop) → first_stop (may_show look) stops ≡ None → IsFound all look (first_stop (may_show look) stops) None
nothing_found all look stops none = subst (λ stop. IsFound all look stop None) (sym none) tt

-- in a state in which a cut is armed already
pub found_armed : (all look : List Seen) (program : List Input) (h : Machine) (found : Option Found) → armed h ≡ h
    → IsFound all look (first_stop (may_show look) (cut_places 1 h program)) found → IsFound all look (found_stop h program look) found
found_armed all look program h found same is =
    subst (λ stop. IsFound all look stop found) (ap (λ m. first_stop (may_show look) (cut_places 1 m program)) (sym same)) is

-- no place is the first one
pub none_first : (lines : List (Option Command)) (look : List Seen) (now : Sight) (geo : Geometry) (stops : List Stop) (found : Option CutPlace) → ((place : CutPlace) → found ≡ Some place → ⊥)
    → IsFirst lines look now geo stops found → first_stop (may_show look) stops ≡ None
none_first lines look now geo stops None none first = first
none_first lines look now geo stops (Some place) none first = absurd (none place refl)

-- a place that shows the look is one of the program's lines
pub on_shown : (lines : List (Option Command)) (q : Question) (now : Sight) (geo : Geometry) (place : CutPlace) → ShowsAt lines q now geo place → IsOn lines place
on_shown lines q now geo (Before n) shown = tt
on_shown lines q now geo (Inside n) shown = (shown.1, slice_get_within lines (n - 1) (Some shown.0) shown.2)
