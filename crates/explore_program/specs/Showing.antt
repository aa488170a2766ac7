-- What is written before the answers: the commands that are refused otherwise than the script says, a table of what the look may find, and a list.
use Rattle.std.specs.Prelude.{◌++◌, ℕ, Bool, List, [], if◌then◌else◌}
use Rattle.script_text.specs.Script.{Input}
use Rattle.outcome_lists.specs.MachineModel.Machine.{Machine}
use Rattle.outcome_lists.specs.OutcomeTest.Finds.{armed}
use Rattle.outcome_lists.specs.AskedReads.declared.read.Read.{Read}
use Rattle.outcome_lists.specs.CutPlaces.Places.{cut_places}
use Rattle.outcome_lists.specs.ValueTables.Tables.{table_text}
use Rattle.outcome_lists.specs.Lists.{outcome_list}
use Rattle.outcome_lists.specs.Explorer.Leading.{led_through}
use Rattle.outcome_lists.specs.Explorer.Reporting.{refusals_from}
use Rattle.explore_program.specs.declared.form.Form.{Form}
use Rattle.explore_program.specs.declared.form.Form.TheVariants as forms

-- the state to which first lines lead, in which no cut is asked about, with a cut armed
abbrev pub begun_at : Machine → List Input → Machine
begun_at h first = armed (led_through (armed h) first)

-- the commands that are refused, or done, otherwise than is wanted: those of the first lines, and then those of the program
abbrev pub refusals : Machine → List Input → List Input → List Bool → List ℕ
refusals h first program wanted = refusals_from 1 (armed h) first wanted ++ refusals_from 1 (begun_at h first) program wanted

-- what may be found, from that state on
abbrev pub form_text : Form → Machine → List Input → List Read → List ℕ
form_text forms.Table h program look = table_text look (cut_places 1 h program)
form_text forms.List h program look = outcome_list h program look

-- whether it is asked for
abbrev pub is_asked : Form → Bool → Bool → Bool
is_asked forms.Table table list = table
is_asked forms.List table list = list

-- if it is
abbrev pub if_asked : Bool → Form → Machine → List Input → List Read → List ℕ
if_asked is form h program look = if is then form_text form h program look else []

-- the table and the list, where they are asked for
abbrev pub shown : Bool → Bool → Machine → List Input → List Read → List ℕ
shown table list h program look = if_asked table forms.Table h program look ++ if_asked list forms.List h program look
