-- Which values each command takes.
use Rattle.std.proofs.Common.{◌≡◌, ◌∙◌, ℕ, List, [], ◌∷◌, refl, ap}
use Rattle.std.specs.Prelude.{Some}
use Rattle.clap.specs.Walk.{Held, nothing_held}
use Rattle.clap.specs.Simple.{Shape, built, built_leaf, inherited}
use Rattle.clap.specs.Words.{Text}
use Rattle.clap.specs.declared.error.kind.ErrorKind.TheVariants.{UnknownArgument, MissingRequiredArgument}
use Rattle.clap.proofs.OnLiterals.{clap_on_literals}
use Rattle.nvm_base.specs.Numbers.{number_of}
use Rattle.command_line.specs.Words.{bench_named, new_named, of_check, of_run}
use Rattle.command_line.specs.Commands.{bench_command, bench_of, check_command, check_of, new_command, new_of, program, run_command, run_of}
use Rattle.command_line.proofs.WordLemmas.{IsValue, before, filled, leaf_refusals, leaf_rows, refused_already, refused_first, refused_from, refused_next, rows_first, rows_from, rows_next}

-- a command as the program holds it
abbrev pub ready : Shape → Shape
ready s = built_leaf (inherited (built program).top s)

abbrev pub check : Shape
check = ready check_command.top

abbrev pub run : Shape
run = ready run_command.top

abbrev pub new : Text → Shape
new name = ready (new_command name).top

abbrev pub bench : Shape
bench = ready bench_command.top

-- what is held after one value more
abbrev then : Shape → ℕ → Held → Text → Held
then s place h w = (filled s place h w).held

-- ---- check

check_past_1 : (a : Text) → IsValue a → (rest : List Text)
    → leaf_refusals check (a ∷ rest) ≡ refused_from check [] (before 2 (then check 1 nothing_held a)) rest
check_past_1 a pa rest = refused_first check (a ∷ rest) ∙ refused_next check 1 nothing_held a pa rest

check_ends_0 : refused_from check [] (before 1 nothing_held) [] ≡ MissingRequiredArgument ∷ []
unfolding refused_from clap_on_literals
check_ends_0 = refl

pub check_none : leaf_refusals check [] ≡ MissingRequiredArgument ∷ []
check_none = refused_first check [] ∙ check_ends_0

check_ends_1 : (a : Text) → refused_from check [] (before 2 (then check 1 nothing_held a)) [] ≡ []
unfolding refused_from clap_on_literals
check_ends_1 a = refl

pub check_one : (a : Text) → IsValue a → leaf_refusals check (a ∷ []) ≡ []
check_one a pa = check_past_1 a pa [] ∙ check_ends_1 a

pub check_many : (a b : Text) → IsValue a → IsValue b → (rest : List Text)
    → leaf_refusals check (a ∷ b ∷ rest) ≡ UnknownArgument ∷ []
check_many a b pa pb rest = check_past_1 a pa (b ∷ rest)
    ∙ refused_next check 2 (then check 1 nothing_held a) b pb rest
    ∙ refused_already check UnknownArgument [] (filled check 2 (then check 1 nothing_held a) b) rest

check_reads : (a : Text) → check_of (rows_from check (before 2 (then check 1 nothing_held a)) []) ≡ Some (of_check a)
unfolding rows_from clap_on_literals
check_reads a = refl

pub check_read : (a : Text) → IsValue a
    → check_of (leaf_rows check (a ∷ [])) ≡ Some (of_check a)
check_read a pa = ap check_of (rows_first check (a ∷ [])
    ∙ rows_next check 1 nothing_held a pa [])
    ∙ check_reads a

-- ---- run

run_past_1 : (a : Text) → IsValue a → (rest : List Text)
    → leaf_refusals run (a ∷ rest) ≡ refused_from run [] (before 2 (then run 1 nothing_held a)) rest
run_past_1 a pa rest = refused_first run (a ∷ rest) ∙ refused_next run 1 nothing_held a pa rest

run_past_2 : (a b : Text) → IsValue a → IsValue b → (rest : List Text)
    → leaf_refusals run (a ∷ b ∷ rest) ≡ refused_from run [] (before 3 (then run 2 (then run 1 nothing_held a) b)) rest
run_past_2 a b pa pb rest = run_past_1 a pa (b ∷ rest) ∙ refused_next run 2 (then run 1 nothing_held a) b pb rest

run_ends_0 : refused_from run [] (before 1 nothing_held) [] ≡ MissingRequiredArgument ∷ []
unfolding refused_from clap_on_literals
run_ends_0 = refl

pub run_none : leaf_refusals run [] ≡ MissingRequiredArgument ∷ []
run_none = refused_first run [] ∙ run_ends_0

run_ends_1 : (a : Text) → refused_from run [] (before 2 (then run 1 nothing_held a)) [] ≡ MissingRequiredArgument ∷ []
unfolding refused_from clap_on_literals
run_ends_1 a = refl

pub run_one : (a : Text) → IsValue a → leaf_refusals run (a ∷ []) ≡ MissingRequiredArgument ∷ []
run_one a pa = run_past_1 a pa [] ∙ run_ends_1 a

run_ends_2 : (a b : Text) → refused_from run [] (before 3 (then run 2 (then run 1 nothing_held a) b)) [] ≡ []
unfolding refused_from clap_on_literals
run_ends_2 a b = refl

pub run_two : (a b : Text) → IsValue a → IsValue b → leaf_refusals run (a ∷ b ∷ []) ≡ []
run_two a b pa pb = run_past_2 a b pa pb [] ∙ run_ends_2 a b

pub run_many : (a b c : Text) → IsValue a → IsValue b → IsValue c → (rest : List Text)
    → leaf_refusals run (a ∷ b ∷ c ∷ rest) ≡ UnknownArgument ∷ []
run_many a b c pa pb pc rest = run_past_2 a b pa pb (c ∷ rest)
    ∙ refused_next run 3 (then run 2 (then run 1 nothing_held a) b) c pc rest
    ∙ refused_already run UnknownArgument [] (filled run 3 (then run 2 (then run 1 nothing_held a) b) c) rest

run_reads : (a b : Text) → run_of (rows_from run (before 3 (then run 2 (then run 1 nothing_held a) b)) []) ≡ Some (of_run a b)
unfolding rows_from clap_on_literals
run_reads a b = refl

pub run_read : (a b : Text) → IsValue a → IsValue b
    → run_of (leaf_rows run (a ∷ b ∷ [])) ≡ Some (of_run a b)
run_read a b pa pb = ap run_of (rows_first run (a ∷ b ∷ [])
    ∙ rows_next run 1 nothing_held a pa (b ∷ [])
    ∙ rows_next run 2 (then run 1 nothing_held a) b pb [])
    ∙ run_reads a b

-- ---- new, and newbyte

module _ (verb : Text) where
  new_past_1 : (a : Text) → IsValue a → (rest : List Text)
      → leaf_refusals (new verb) (a ∷ rest) ≡ refused_from (new verb) [] (before 2 (then (new verb) 1 nothing_held a)) rest
  new_past_1 a pa rest = refused_first (new verb) (a ∷ rest) ∙ refused_next (new verb) 1 nothing_held a pa rest

  new_past_2 : (a b : Text) → IsValue a → IsValue b → (rest : List Text)
      → leaf_refusals (new verb) (a ∷ b ∷ rest) ≡ refused_from (new verb) [] (before 3 (then (new verb) 2 (then (new verb) 1 nothing_held a) b)) rest
  new_past_2 a b pa pb rest = new_past_1 a pa (b ∷ rest) ∙ refused_next (new verb) 2 (then (new verb) 1 nothing_held a) b pb rest

  new_past_3 : (a b c : Text) → IsValue a → IsValue b → IsValue c → (rest : List Text)
      → leaf_refusals (new verb) (a ∷ b ∷ c ∷ rest) ≡ refused_from (new verb) [] (before 4 (then (new verb) 3 (then (new verb) 2 (then (new verb) 1 nothing_held a) b) c)) rest
  new_past_3 a b c pa pb pc rest = new_past_2 a b pa pb (c ∷ rest) ∙ refused_next (new verb) 3 (then (new verb) 2 (then (new verb) 1 nothing_held a) b) c pc rest

  new_past_4 : (a b c d : Text) → IsValue a → IsValue b → IsValue c → IsValue d → (rest : List Text)
      → leaf_refusals (new verb) (a ∷ b ∷ c ∷ d ∷ rest) ≡ refused_from (new verb) [] (before 5 (then (new verb) 4 (then (new verb) 3 (then (new verb) 2 (then (new verb) 1 nothing_held a) b) c) d)) rest
  new_past_4 a b c d pa pb pc pd rest = new_past_3 a b c pa pb pc (d ∷ rest) ∙ refused_next (new verb) 4 (then (new verb) 3 (then (new verb) 2 (then (new verb) 1 nothing_held a) b) c) d pd rest

  new_ends_0 : refused_from (new verb) [] (before 1 nothing_held) [] ≡ MissingRequiredArgument ∷ []
  unfolding refused_from clap_on_literals
  new_ends_0 = refl

  pub new_none : leaf_refusals (new verb) [] ≡ MissingRequiredArgument ∷ []
  new_none = refused_first (new verb) [] ∙ new_ends_0

  new_ends_1 : (a : Text) → refused_from (new verb) [] (before 2 (then (new verb) 1 nothing_held a)) [] ≡ MissingRequiredArgument ∷ []
  unfolding refused_from clap_on_literals
  new_ends_1 a = refl

  pub new_one : (a : Text) → IsValue a → leaf_refusals (new verb) (a ∷ []) ≡ MissingRequiredArgument ∷ []
  new_one a pa = new_past_1 a pa [] ∙ new_ends_1 a

  new_ends_2 : (a b : Text) → refused_from (new verb) [] (before 3 (then (new verb) 2 (then (new verb) 1 nothing_held a) b)) [] ≡ MissingRequiredArgument ∷ []
  unfolding refused_from clap_on_literals
  new_ends_2 a b = refl

  pub new_two : (a b : Text) → IsValue a → IsValue b → leaf_refusals (new verb) (a ∷ b ∷ []) ≡ MissingRequiredArgument ∷ []
  new_two a b pa pb = new_past_2 a b pa pb [] ∙ new_ends_2 a b

  new_ends_3 : (a b c : Text) → refused_from (new verb) [] (before 4 (then (new verb) 3 (then (new verb) 2 (then (new verb) 1 nothing_held a) b) c)) [] ≡ MissingRequiredArgument ∷ []
  unfolding refused_from clap_on_literals
  new_ends_3 a b c = refl

  pub new_three : (a b c : Text) → IsValue a → IsValue b → IsValue c → leaf_refusals (new verb) (a ∷ b ∷ c ∷ []) ≡ MissingRequiredArgument ∷ []
  new_three a b c pa pb pc = new_past_3 a b c pa pb pc [] ∙ new_ends_3 a b c

  new_ends_4 : (a b c d : Text) → refused_from (new verb) [] (before 5 (then (new verb) 4 (then (new verb) 3 (then (new verb) 2 (then (new verb) 1 nothing_held a) b) c) d)) [] ≡ []
  unfolding refused_from clap_on_literals
  new_ends_4 a b c d = refl

  pub new_four : (a b c d : Text) → IsValue a → IsValue b → IsValue c → IsValue d → leaf_refusals (new verb) (a ∷ b ∷ c ∷ d ∷ []) ≡ []
  new_four a b c d pa pb pc pd = new_past_4 a b c d pa pb pc pd [] ∙ new_ends_4 a b c d

  pub new_many : (a b c d e : Text) → IsValue a → IsValue b → IsValue c → IsValue d → IsValue e → (rest : List Text)
      → leaf_refusals (new verb) (a ∷ b ∷ c ∷ d ∷ e ∷ rest) ≡ UnknownArgument ∷ []
  new_many a b c d e pa pb pc pd pe rest = new_past_4 a b c d pa pb pc pd (e ∷ rest)
      ∙ refused_next (new verb) 5 (then (new verb) 4 (then (new verb) 3 (then (new verb) 2 (then (new verb) 1 nothing_held a) b) c) d) e pe rest
      ∙ refused_already (new verb) UnknownArgument [] (filled (new verb) 5 (then (new verb) 4 (then (new verb) 3 (then (new verb) 2 (then (new verb) 1 nothing_held a) b) c) d) e) rest

  new_reads : (unit : ℕ) (a b c d : Text) → new_of unit (rows_from (new verb) (before 5 (then (new verb) 4 (then (new verb) 3 (then (new verb) 2 (then (new verb) 1 nothing_held a) b) c) d)) []) ≡ new_named unit a b c d
  unfolding rows_from clap_on_literals
  new_reads unit a b c d = refl

  pub new_read : (unit : ℕ) (a b c d : Text) → IsValue a → IsValue b → IsValue c → IsValue d
      → new_of unit (leaf_rows (new verb) (a ∷ b ∷ c ∷ d ∷ [])) ≡ new_named unit a b c d
  new_read unit a b c d pa pb pc pd = ap (new_of unit) (rows_first (new verb) (a ∷ b ∷ c ∷ d ∷ [])
      ∙ rows_next (new verb) 1 nothing_held a pa (b ∷ c ∷ d ∷ [])
      ∙ rows_next (new verb) 2 (then (new verb) 1 nothing_held a) b pb (c ∷ d ∷ [])
      ∙ rows_next (new verb) 3 (then (new verb) 2 (then (new verb) 1 nothing_held a) b) c pc (d ∷ [])
      ∙ rows_next (new verb) 4 (then (new verb) 3 (then (new verb) 2 (then (new verb) 1 nothing_held a) b) c) d pd [])
      ∙ new_reads unit a b c d

-- ---- bench

bench_past_1 : (a : Text) → IsValue a → (rest : List Text)
    → leaf_refusals bench (a ∷ rest) ≡ refused_from bench [] (before 2 (then bench 1 nothing_held a)) rest
bench_past_1 a pa rest = refused_first bench (a ∷ rest) ∙ refused_next bench 1 nothing_held a pa rest

bench_past_2 : (a b : Text) → IsValue a → IsValue b → (rest : List Text)
    → leaf_refusals bench (a ∷ b ∷ rest) ≡ refused_from bench [] (before 3 (then bench 2 (then bench 1 nothing_held a) b)) rest
bench_past_2 a b pa pb rest = bench_past_1 a pa (b ∷ rest) ∙ refused_next bench 2 (then bench 1 nothing_held a) b pb rest

bench_ends_0 : refused_from bench [] (before 1 nothing_held) [] ≡ MissingRequiredArgument ∷ []
unfolding refused_from clap_on_literals
bench_ends_0 = refl

pub bench_none : leaf_refusals bench [] ≡ MissingRequiredArgument ∷ []
bench_none = refused_first bench [] ∙ bench_ends_0

bench_ends_1 : (a : Text) → refused_from bench [] (before 2 (then bench 1 nothing_held a)) [] ≡ MissingRequiredArgument ∷ []
unfolding refused_from clap_on_literals
bench_ends_1 a = refl

pub bench_one : (a : Text) → IsValue a → leaf_refusals bench (a ∷ []) ≡ MissingRequiredArgument ∷ []
bench_one a pa = bench_past_1 a pa [] ∙ bench_ends_1 a

bench_ends_2 : (a b : Text) → refused_from bench [] (before 3 (then bench 2 (then bench 1 nothing_held a) b)) [] ≡ []
unfolding refused_from clap_on_literals
bench_ends_2 a b = refl

pub bench_two : (a b : Text) → IsValue a → IsValue b → leaf_refusals bench (a ∷ b ∷ []) ≡ []
bench_two a b pa pb = bench_past_2 a b pa pb [] ∙ bench_ends_2 a b

pub bench_many : (a b c : Text) → IsValue a → IsValue b → IsValue c → (rest : List Text)
    → leaf_refusals bench (a ∷ b ∷ c ∷ rest) ≡ UnknownArgument ∷ []
bench_many a b c pa pb pc rest = bench_past_2 a b pa pb (c ∷ rest)
    ∙ refused_next bench 3 (then bench 2 (then bench 1 nothing_held a) b) c pc rest
    ∙ refused_already bench UnknownArgument [] (filled bench 3 (then bench 2 (then bench 1 nothing_held a) b) c) rest

bench_reads : (a b : Text) → bench_of (rows_from bench (before 3 (then bench 2 (then bench 1 nothing_held a) b)) []) ≡ bench_named (number_of a) (number_of b)
unfolding rows_from clap_on_literals
bench_reads a b = refl

pub bench_read : (a b : Text) → IsValue a → IsValue b
    → bench_of (leaf_rows bench (a ∷ b ∷ [])) ≡ bench_named (number_of a) (number_of b)
bench_read a b pa pb = ap bench_of (rows_first bench (a ∷ b ∷ [])
    ∙ rows_next bench 1 nothing_held a pa (b ∷ [])
    ∙ rows_next bench 2 (then bench 1 nothing_held a) b pb [])
    ∙ bench_reads a b
