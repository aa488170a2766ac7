-- The first place that may show what is asked, over the stops of one command and of those behind it.
use Rattle.std.proofs.Common.{◌≡◌, ℕ, suc, Bool, true, false, cond, Option, Some, None, List, [], ◌∷◌, ◌++◌, refl}
use Rattle.script_text.specs.Action.{Action}
use Rattle.script_text.specs.Script.{Input}
use Rattle.script_text.specs.Script.Input.{Asked}
use Rattle.sights.specs.MachineModel.Machine.{Machine}
use Rattle.sights.specs.MachineModel.Commands.{fate}
use Rattle.sights.specs.Outcomes.Stops.{led_to}
use Rattle.cut_places.specs.Following.{command_stops}
use Rattle.cut_places.specs.Places.{Stop, cut_places, first_stop}

module _ (test : Machine → Bool) where
  skip : (b : Bool) (stop : Stop) (o p q : Option Stop) → cond b (Some stop) o ≡ None → (o ≡ None → p ≡ q) → cond b (Some stop) p ≡ q
  skip true stop o p q none next = cc none
  skip false stop o p q none next = next none

  -- none of the first ones, so the first of the others
  pub none_before : (xs ys : List Stop) → first_stop test xs ≡ None → first_stop test (xs ++ ys) ≡ first_stop test ys
  none_before [] ys none = refl
  none_before (x ∷ xs) ys none =
      skip (test x.state) x (first_stop test xs) (first_stop test (xs ++ ys)) (first_stop test ys) none (none_before xs ys)

  keep : (b : Bool) (first stop : Stop) (o p : Option Stop) → cond b (Some first) o ≡ Some stop → (o ≡ Some stop → p ≡ Some stop) → cond b (Some first) p ≡ Some stop
  keep true first stop o p some next = some
  keep false first stop o p some next = next some

  pub some_before : (xs ys : List Stop) (stop : Stop) → first_stop test xs ≡ Some stop → first_stop test (xs ++ ys) ≡ Some stop
  some_before [] ys stop some = cc some
  some_before (x ∷ xs) ys stop some =
      keep (test x.state) x stop (first_stop test xs) (first_stop test (xs ++ ys)) some (some_before xs ys stop)

-- the stops of a program, command by command
pub stops_of_command : (n : ℕ) (h : Machine) (action : Action) (inputs : List Input)
    → cut_places n h (Asked action ∷ inputs) ≡ command_stops n h action ++ cut_places (suc n) (led_to h (fate h action)) inputs
stops_of_command n h action inputs = refl
