-- A table is printed, place by place.
use Rattle.std.specs.Prelude.{◌≡◌, ◌++◌, ℕ, List}
use Rattle.word_tables.specs.declared.geometry.Geometry.{Geometry}
use Rattle.script_text.specs.Action.{Action}
use Rattle.cut_places.specs.MachineModel.Machine.{Machine}
use Rattle.cut_places.specs.MachineModel.Commands.{fate}
use Rattle.cut_places.specs.Outcomes.Stops.{led_to}
use Rattle.cut_places.specs.declared.sight.Sight.{Sight}
use Rattle.cut_places.specs.Following.{Follows, command_stops}
use Rattle.cut_places.specs.Places.{Stop}
use Rattle.cut_places.specs.AskedReads.declared.read.Read.{Read}
use Rattle.value_tables.specs.declared.table.Table.{Table}
use Rattle.value_tables.specs.Sides.{texts}
use Rattle.value_tables.specs.Tables.{table_from}

-- what is printed of a table, with the parts of places that come
abbrev pub with_places : List Read → Table → List Stop → List ℕ
with_places look table stops = table.text.items ++ table_from (texts table.last.items) look stops

-- The places of a command are printed, and what is looked at is that of the next state.
pub record Prints (look : List Read) (geo : Geometry) (line : ℕ) (action : Action) (h : Machine) (old new : Table) (after : Sight) : Type 0 where
  pub follows : Follows after geo (led_to h (fate h action))
  pub text : (later : List Stop) → with_places look old (command_stops line h action ++ later) ≡ with_places look new later
