-- From the command that was met to the form.
use Rattle.std.proofs.Common.{◌≡◌, ◌∙◌, ◌≢◌, Bool, cond, false, List, Option, Some, None, refl, sym, ap, ap₂, option_map, codes, bytes_eq}
use Rattle.std.specs.Prelude.{unwrap_or}
use Rattle.clap.specs.Words.{Row, Text, subcommand_name_of, subcommand_rows_of}
use Rattle.clap.specs.declared.parser.matches.ArgMatches.{ArgMatches}
use Rattle.command_line.specs.Words.{Form}
use Rattle.command_line.specs.Commands.{bench_of, check_of, command_form, met_form, new_of, run_of}
use Rattle.command_line.proofs.ProgramLemmas.{differs, some≢none}

name_of_pair : {X : Type 0} (f : X → Text) (g : X → List Row) (o : Option X)
    → option_map f o ≡ option_map (λ (p : Text × List Row). p.0) (option_map (λ x. (f x, g x)) o)
name_of_pair f g None = refl
name_of_pair f g (Some x) = refl

name_of_rows : (m : ArgMatches) → subcommand_name_of m ≡ option_map (λ (p : Text × List Row). p.0) (subcommand_rows_of m)
name_of_rows m = name_of_pair _ _ _

both_of : (o : Option (Text × List Row)) (name : Text) (rows : List Row) → Some name ≡ option_map (λ (p : Text × List Row). p.0) o
    → Some rows ≡ option_map (λ (p : Text × List Row). p.1) o → o ≡ Some (name, rows)
both_of None name rows is_name is_rows = absurd (some≢none name is_name)
both_of (Some p) name rows is_name is_rows =
    ap₂ (λ (n : Text) (rs : List Row). Some (n, rs)) (sym (ap (λ (o : Option Text). unwrap_or o name) is_name)) (sym (ap (λ (o : Option (List Row)). unwrap_or o rows) is_rows))

-- the form of the command that was met, by its name and its values
pub met_is : (m : ArgMatches) (name : Text) (rows : List Row) → Some name ≡ subcommand_name_of m
    → Some rows ≡ option_map (λ (p : Text × List Row). p.1) (subcommand_rows_of m) → met_form (subcommand_rows_of m) ≡ command_form name rows
met_is m name rows is_name is_rows = ap met_form (both_of (subcommand_rows_of m) name rows (is_name ∙ name_of_rows m) is_rows)

pub command_new : (name : Text) (rows : List Row) → name ≡ codes "new" → command_form name rows ≡ new_of 8 rows
unfolding command_form
command_new name rows is = ap (λ (n : Text). command_form n rows) is

pub command_run : (name : Text) (rows : List Row) → name ≡ codes "run" → command_form name rows ≡ run_of rows
unfolding command_form
command_run name rows is = ap (λ (n : Text). command_form n rows) is

pub command_check : (name : Text) (rows : List Row) → name ≡ codes "check" → command_form name rows ≡ check_of rows
unfolding command_form
command_check name rows is = ap (λ (n : Text). command_form n rows) is

pub command_bench : (name : Text) (rows : List Row) → name ≡ codes "bench" → command_form name rows ≡ bench_of rows
unfolding command_form
command_bench name rows is = ap (λ (n : Text). command_form n rows) is

pub command_new_byte : (name : Text) (rows : List Row) → name ≡ codes "newbyte" → command_form name rows ≡ new_of 1 rows
unfolding command_form
command_new_byte name rows is = ap (λ (n : Text). command_form n rows) is

abbrev picked : Bool → Bool → Bool → Bool → Bool → List Row → Option Form
picked new run check bench byte rows =
    cond new (new_of 8 rows) (cond run (run_of rows) (cond check (check_of rows) (cond bench (bench_of rows) (cond byte (new_of 1 rows) None))))

pub command_other : (name : Text) (rows : List Row) → name ≢ codes "new" → name ≢ codes "run" → name ≢ codes "check" → name ≢ codes "bench" → name ≢ codes "newbyte" → command_form name rows ≡ None
unfolding command_form
command_other name rows not_new not_run not_check not_bench not_byte =
    let run = bytes_eq name (codes "run") in
    let check = bytes_eq name (codes "check") in
    let bench = bytes_eq name (codes "bench") in
    let byte = bytes_eq name (codes "newbyte") in
    ap (λ (t : Bool). picked t run check bench byte rows) (differs name (codes "new") not_new)
    ∙ ap (λ (t : Bool). picked false t check bench byte rows) (differs name (codes "run") not_run)
    ∙ ap (λ (t : Bool). picked false false t bench byte rows) (differs name (codes "check") not_check)
    ∙ ap (λ (t : Bool). picked false false false t byte rows) (differs name (codes "bench") not_bench)
    ∙ ap (λ (t : Bool). picked false false false false t rows) (differs name (codes "newbyte") not_byte)
