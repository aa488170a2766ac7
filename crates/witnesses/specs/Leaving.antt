-- Which units a cut leaves as they are, where others are as a command makes them.
use Rattle.std.specs.Prelude.{◌==◌, ◌||◌, ℕ, Bool, true, not, List, Option, Some, None, if◌then◌else◌}
use Rattle.std.specs.List.{list_all}
use Rattle.script_text.specs.Action.{Action}
use Rattle.cut_places.specs.SightsSeen.declared.way.Way.{Way}
use Rattle.cut_places.specs.SightsSeen.declared.way.Way.TheVariants.{Each, Together, ByPage}

-- A unit stays as it is where the test passes it so, or all units that are changed together with it.
abbrev pub stays : {A : Type 0} → Option Way → (A → Bool) → (A → ℕ) → List A → A → Bool
stays None now page units u = true
stays (Some Each) now page units u = now u
stays (Some Together) now page units u = list_all now units
stays (Some ByPage) now page units u = list_all (λ v. not (page v == page u) || now v) units

-- a unit as the command makes it, if there is one
abbrev pub made_by : {A : Type 0} → (Action → A → A) → Option Action → A → A
made_by done None u = u
made_by done (Some action) u = done action u

-- the command, where a cut inside it may leave some units as it makes them
abbrev pub mixing : Option Way → Option Action → Option Action
mixing None inside = None
mixing (Some way) inside = inside

-- a unit as it is left
abbrev pub unit_left : {A : Type 0} → Option Way → (A → Bool) → (A → A) → (A → ℕ) → List A → A → A
unit_left way now made page units u = if stays way now page units u then u else made u
