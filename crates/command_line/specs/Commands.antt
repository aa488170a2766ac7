-- The commands of the program, and what their values name.
use Rattle.std.specs.Prelude.{ℕ, true, List, Option, None, if◌then◌else◌, codes, option_map, option_and_then}
use Rattle.std.specs.Str.{bytes_eq}
use Rattle.clap.specs.Words.{App, Row, Rule, Shape, Text, first_of, new_app, new_rule, with_rule, with_subcommand}
use Rattle.nvm_base.specs.Numbers.{number_of}
use Rattle.command_line.specs.Words.{Form, of_new, of_run, of_check, bench_named, sizes_named}

-- a value that has to be given
abbrev pub required : Text → Rule
required name = record (new_rule name) { required = true }

-- `new` and `newbyte` have the same values
abbrev pub new_command : Text → App
new_command name = with_rule (with_rule (with_rule (with_rule (new_app name) (required (codes "IMAGE")))
    (required (codes "BLOCKS"))) (required (codes "VPAGES"))) (required (codes "FPAGES"))

abbrev pub run_command : App
run_command = with_rule (with_rule (new_app (codes "run")) (required (codes "IN"))) (required (codes "OUT"))

abbrev pub check_command : App
check_command = with_rule (new_app (codes "check")) (required (codes "IN"))

-- a workload's seed and how many rounds it has
abbrev pub bench_command : App
bench_command = with_rule (with_rule (new_app (codes "bench")) (required (codes "SEED"))) (required (codes "N"))

-- a subcommand is required, and there is no help
abbrev pub closed : Shape → Shape
closed s = record s {
  no_binary_name = true;
  disable_help_flag = true;
  disable_help_subcommand = true;
  disable_version_flag = true;
  subcommand_required = true;
}

-- the program
abbrev pub program : App
program =
    let image_commands = with_subcommand (with_subcommand (with_subcommand (new_app (codes "nvmhost")) (new_command (codes "new")).top) run_command.top) check_command.top in
    let app = with_subcommand (with_subcommand image_commands bench_command.top) (new_command (codes "newbyte")).top in
    record app { top = closed app.top }

-- the number that a value is
abbrev pub number_at : Text → List Row → Option ℕ
number_at name values = option_and_then number_of (first_of name values)

abbrev pub new_of : ℕ → List Row → Option Form
new_of unit values = option_and_then (λ image. option_map (of_new unit image)
    (sizes_named (number_at (codes "BLOCKS") values) (number_at (codes "VPAGES") values) (number_at (codes "FPAGES") values)))
    (first_of (codes "IMAGE") values)

abbrev pub run_of : List Row → Option Form
run_of values = option_and_then (λ from. option_map (of_run from) (first_of (codes "OUT") values)) (first_of (codes "IN") values)

abbrev pub check_of : List Row → Option Form
check_of values = option_map of_check (first_of (codes "IN") values)

-- the workload that the values name
abbrev pub bench_of : List Row → Option Form
bench_of values = bench_named (number_at (codes "SEED") values) (number_at (codes "N") values)

-- the form of a command with its values
unfoldable pub command_form : Text → List Row → Option Form
command_form name values =
    if bytes_eq name (codes "new") then new_of 8 values
    else (if bytes_eq name (codes "run") then run_of values
    else (if bytes_eq name (codes "check") then check_of values
    else (if bytes_eq name (codes "bench") then bench_of values
    else (if bytes_eq name (codes "newbyte") then new_of 1 values else None))))

-- the form of the command that was met, where one was
abbrev pub met_form : Option (Text × List Row) → Option Form
met_form = option_and_then (λ met. command_form met.0 met.1)
