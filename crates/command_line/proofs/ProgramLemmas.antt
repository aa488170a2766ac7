-- Which words the program takes.
use Rattle.std.proofs.Common.{◌≡◌, ◌∙◌, ◌≢◌, ◌⊎◌, ◌||◌, ℕ, Bool, cond, suc, true, false, List, [], ◌∷◌, Option, Some, None, refl, sym, ap, ap₂, subst, arith, inl, inr, ⊎_elim, fold, is_some, option_map, bytes_eq, codes, All, true≢false}
use Rattle.std.specs.Prelude.{find}
use Rattle.std.specs.Option.{option_map_or}
use Rattle.std.proofs.lemmas.Slice.Eq.{bytes_eq-Decides}
use Rattle.clap.specs.Walk.{Walk, answers_to, finished, idle, nothing_held, settled, subcommand_met, walk_from, walked}
use Rattle.clap.specs.Simple.{built, entered, label_of, names_of, rows_at}
use Rattle.clap.specs.Words.{App, HasKind, Row, Shape, Text, fault_of, is_simple, is_simple_and_free, kind_of, subcommand_of}
use Rattle.clap.specs.Kinds.{Kinds, or_else}
use Rattle.clap.specs.Faults.{built_fault, check_fault, defaults_fault, entered_fault, level_fault, settle_fault, turn_fault, walk_fault}
use Rattle.clap.specs.declared.error.Error.{Error}
use Rattle.clap.specs.declared.error.kind.ErrorKind.{ErrorKind}
use Rattle.clap.specs.declared.error.kind.ErrorKind.TheVariants.{OutOfMemory, InvalidSubcommand, MissingSubcommand, UnknownArgument}
use Rattle.clap.proofs.OnLiterals.{clap_on_literals}
use Rattle.clap.proofs.WalkLemmas.{walk_stopped}
use Rattle.clap.proofs.FaultLemmas.{stopped_fault}
use Rattle.command_line.specs.Words.{Form, IsPlain, bench_named, named, new_named, of_check, of_run}
use Rattle.command_line.specs.Commands.{command_form, met_form, new_of, program}
use Rattle.nvm_base.specs.Numbers.{number_of}
use Rattle.command_line.proofs.WordLemmas.{IsValue, leaf_refusals, leaf_rows, plain_is_value, turn_value}
use Rattle.command_line.proofs.LeafLemmas.{bench, bench_many, bench_none, bench_one, bench_read, bench_two, check, check_many, check_none, check_one, check_read, new, new_four, new_many, new_none, new_one, new_read, new_three, new_two, run, run_many, run_none, run_one, run_read, run_two}

abbrev start : Walk
start = walk_from nothing_held

abbrev stopped_at : Text → List Text → Walk
stopped_at verb rest = record start { stopped = Some (verb, rest) }

-- what a command refuses, by where the walk over its words ends
unfoldable refusals_at : App → Kinds → Walk → Kinds
refusals_at a first end =
    or_else first (or_else (entered_fault a end.stopped)
    (or_else (settle_fault a.top.rules a.top.args_override_self end.held)
    (or_else (defaults_fault (settled a.top.rules end.held).rows a.top.rules)
    (check_fault a.top (finished a.top.rules end.held) (is_some (entered a end.stopped))))))

-- The words are taken and read as the form that they name, or refused and name none.
abbrev pub Agrees : List Text → Type 0
Agrees words = ((fault_of program words ≡ []) × (met_form (subcommand_of program words) ≡ named words))
    ⊎ ((fault_of program words ≢ []) × (named words ≡ None))

or_else-nil : (k : Kinds) → or_else k [] ≡ k
or_else-nil [] = refl
or_else-nil (k ∷ ks) = refl

abbrev has_any : Kinds → Bool
has_any [] = false
has_any (k ∷ ks) = true

refuses : (a : Kinds) (k : ErrorKind) (ks : Kinds) → a ≡ k ∷ ks → a ≢ []
refuses a k ks is none = true≢false (sym (ap has_any is) ∙ ap has_any none)

abbrev walk_on : App → Text → Walk
walk_on a word = walked a.top.rules (names_of a) start word

abbrev named_by : Text → App → Option Shape
named_by verb a = find (λ (s : Shape). answers_to verb (label_of s)) a.subs

module _ (a : App) (word : Text) (rest : List Text) where
  refused_by : built_fault a nothing_held (word ∷ rest)
      ≡ refusals_at a (or_else (turn_fault a.top (names_of a) start word) (walk_fault a.top (names_of a) (walk_on a word) rest)) (fold (walked a.top.rules (names_of a)) (walk_on a word) rest)
  unfolding walk_fault refusals_at
  refused_by = refl

  ends : walk_on a word ≡ stopped_at word [] → fold (walked a.top.rules (names_of a)) (walk_on a word) rest ≡ stopped_at word rest
  ends walks = ap (λ (w : Walk). fold (walked a.top.rules (names_of a)) w rest) walks ∙ sym (walk_stopped a.top.rules (names_of a) start word [] rest)

  refused_in : walk_on a word ≡ stopped_at word [] → turn_fault a.top (names_of a) start word ≡ [] → built_fault a nothing_held (word ∷ rest) ≡ refusals_at a [] (stopped_at word rest)
  refused_in walks passes =
      refused_by
      ∙ ap₂ (λ (k : Kinds) (w : Walk). refusals_at a (or_else k (walk_fault a.top (names_of a) w rest)) (fold (walked a.top.rules (names_of a)) (walk_on a word) rest)) passes walks
      ∙ ap₂ (refusals_at a) (stopped_fault a.top (names_of a) start (word, []) rest) (ends walks)

  -- the command that is entered refuses, and nothing else does
  refused_below : (s : Shape) → named_by word a ≡ Some s
      → or_else (defaults_fault [] a.top.rules) (check_fault a.top (finished a.top.rules nothing_held) true) ≡ []
      → refusals_at a [] (stopped_at word rest) ≡ leaf_refusals s rest
  unfolding refusals_at leaf_refusals
  refused_below s found quiet =
      ap (λ (o : Option Shape). or_else (option_map_or (λ (x : Shape). level_fault x [] nothing_held rest false []) o [])
      (or_else (defaults_fault [] a.top.rules) (check_fault a.top (finished a.top.rules nothing_held) (is_some (option_map (λ (x : Shape). rows_at x rest) o))))) found
      ∙ ap (or_else (level_fault s [] nothing_held rest false [])) quiet ∙ or_else-nil (level_fault s [] nothing_held rest false [])

  met_below : (s : Shape) → walk_on a word ≡ stopped_at word [] → named_by word a ≡ Some s
      → entered a (fold (walked a.top.rules (names_of a)) (walk_on a word) rest).stopped ≡ Some (s.name, leaf_rows s rest)
  unfolding leaf_rows
  met_below s walks found = ap (λ (w : Walk). entered a w.stopped) (ends walks) ∙ ap (option_map (λ (x : Shape). rows_at x rest)) found

refused_at_once : (a : App) (k : ErrorKind) (ks : Kinds) (end : Walk) → refusals_at a (k ∷ ks) end ≡ k ∷ ks
unfolding refusals_at
refused_at_once a k ks end = refl

abbrev whole : App
whole = built program

quiet : or_else (defaults_fault [] whole.top.rules) (check_fault whole.top (finished whole.top.rules nothing_held) true) ≡ []
unfolding clap_on_literals
quiet = refl

check_walks : walk_on whole (codes "check") ≡ stopped_at (codes "check") []
unfolding clap_on_literals
check_walks = refl

check_passes : turn_fault whole.top (names_of whole) start (codes "check") ≡ []
unfolding clap_on_literals
check_passes = refl

check_found : named_by (codes "check") whole ≡ Some check
check_found = refl

run_walks : walk_on whole (codes "run") ≡ stopped_at (codes "run") []
unfolding clap_on_literals
run_walks = refl

run_passes : turn_fault whole.top (names_of whole) start (codes "run") ≡ []
unfolding clap_on_literals
run_passes = refl

run_found : named_by (codes "run") whole ≡ Some run
run_found = refl

bench_walks : walk_on whole (codes "bench") ≡ stopped_at (codes "bench") []
unfolding clap_on_literals
bench_walks = refl

bench_passes : turn_fault whole.top (names_of whole) start (codes "bench") ≡ []
unfolding clap_on_literals
bench_passes = refl

bench_found : named_by (codes "bench") whole ≡ Some bench
bench_found = refl

-- ---- check

check_fails : (rest : List Text) → fault_of program (codes "check" ∷ rest) ≡ leaf_refusals check rest
check_fails rest = refused_in whole (codes "check") rest check_walks check_passes ∙ refused_below whole (codes "check") rest check check_found quiet

check_met : (rest : List Text) → subcommand_of program (codes "check" ∷ rest) ≡ Some (codes "check", leaf_rows check rest)
check_met rest = met_below whole (codes "check") rest check check_walks check_found

check_named : (a b : Text) (rest : List Text) → named (codes "check" ∷ a ∷ b ∷ rest) ≡ None
unfolding named
check_named a b [] = refl
check_named a b (c ∷ []) = refl
check_named a b (c ∷ d ∷ []) = refl
check_named a b (c ∷ d ∷ e ∷ rest) = refl

-- ---- run

run_fails : (rest : List Text) → fault_of program (codes "run" ∷ rest) ≡ leaf_refusals run rest
run_fails rest = refused_in whole (codes "run") rest run_walks run_passes ∙ refused_below whole (codes "run") rest run run_found quiet

run_met : (rest : List Text) → subcommand_of program (codes "run" ∷ rest) ≡ Some (codes "run", leaf_rows run rest)
run_met rest = met_below whole (codes "run") rest run run_walks run_found

run_named : (a b c : Text) (rest : List Text) → named (codes "run" ∷ a ∷ b ∷ c ∷ rest) ≡ None
unfolding named
run_named a b c [] = refl
run_named a b c (d ∷ []) = refl
run_named a b c (d ∷ e ∷ rest) = refl

-- ---- bench

bench_fails : (rest : List Text) → fault_of program (codes "bench" ∷ rest) ≡ leaf_refusals bench rest
bench_fails rest = refused_in whole (codes "bench") rest bench_walks bench_passes ∙ refused_below whole (codes "bench") rest bench bench_found quiet

bench_met : (rest : List Text) → subcommand_of program (codes "bench" ∷ rest) ≡ Some (codes "bench", leaf_rows bench rest)
bench_met rest = met_below whole (codes "bench") rest bench bench_walks bench_found

bench_many_named : (a b c : Text) (rest : List Text) → named (codes "bench" ∷ a ∷ b ∷ c ∷ rest) ≡ None
unfolding named
bench_many_named a b c [] = refl
bench_many_named a b c (d ∷ []) = refl
bench_many_named a b c (d ∷ e ∷ rest) = refl

-- ---- all

abbrev Values : List Text → Type 0
Values [] = Unit {0}
Values (w ∷ ws) = IsValue w × Values ws

values : (ws : List Text) → All IsPlain ws → Values ws
values [] h = tt
values (w ∷ ws) h = (plain_is_value w (h 0 w (omega arith)), values ws (λ k d lt. h (suc k) d (omega arith)))

check_agrees : (rest : List Text) → Values rest → Agrees (codes "check" ∷ rest)
unfolding named command_form
check_agrees [] h = inr (refuses _ _ _ (check_fails [] ∙ check_none), refl)
check_agrees (a ∷ []) h = inl (check_fails (a ∷ []) ∙ check_one a h.0, ap met_form (check_met (a ∷ [])) ∙ check_read a h.0)
check_agrees (a ∷ b ∷ rest) h = inr (refuses _ _ _ (check_fails (a ∷ b ∷ rest) ∙ check_many a b h.0 h.1.0 rest), check_named a b rest)

run_agrees : (rest : List Text) → Values rest → Agrees (codes "run" ∷ rest)
unfolding named command_form
run_agrees [] h = inr (refuses _ _ _ (run_fails [] ∙ run_none), refl)
run_agrees (a ∷ []) h = inr (refuses _ _ _ (run_fails (a ∷ []) ∙ run_one a h.0), refl)
run_agrees (a ∷ b ∷ []) h = inl (run_fails (a ∷ b ∷ []) ∙ run_two a b h.0 h.1.0, ap met_form (run_met (a ∷ b ∷ [])) ∙ run_read a b h.0 h.1.0)
run_agrees (a ∷ b ∷ c ∷ rest) h = inr (refuses _ _ _ (run_fails (a ∷ b ∷ c ∷ rest) ∙ run_many a b c h.0 h.1.0 h.1.1.0 rest), run_named a b c rest)

-- the word is the name of a command for new images of this unit
record IsNew (verb : Text) (unit : ℕ) : Type 0 where
  pub walks : walk_on whole verb ≡ stopped_at verb []
  pub passes : turn_fault whole.top (names_of whole) start verb ≡ []
  pub found : named_by verb whole ≡ Some (new verb)
  pub form : (rows : List Row) → command_form verb rows ≡ new_of unit rows
  pub one : (a : Text) → named (verb ∷ a ∷ []) ≡ None
  pub two : (a b : Text) → named (verb ∷ a ∷ b ∷ []) ≡ None
  pub four : (a b c d : Text) → named (verb ∷ a ∷ b ∷ c ∷ d ∷ []) ≡ new_named unit a b c d

is_new : IsNew (codes "new") 8
unfolding clap_on_literals named command_form
is_new = record { walks = refl; passes = refl; found = refl; form = λ rows. refl; one = λ a. refl; two = λ a b. refl; four = λ a b c d. refl }

is_new_byte : IsNew (codes "newbyte") 1
unfolding clap_on_literals named command_form
is_new_byte = record { walks = refl; passes = refl; found = refl; form = λ rows. refl; one = λ a. refl; two = λ a b. refl; four = λ a b c d. refl }

module _ (verb : Text) (unit : ℕ) (is : IsNew verb unit) where
  new_fails : (rest : List Text) → fault_of program (verb ∷ rest) ≡ leaf_refusals (new verb) rest
  new_fails rest = refused_in whole verb rest is.walks is.passes ∙ refused_below whole verb rest (new verb) is.found quiet

  new_met : (rest : List Text) → met_form (subcommand_of program (verb ∷ rest)) ≡ new_of unit (leaf_rows (new verb) rest)
  new_met rest = ap met_form (met_below whole verb rest (new verb) is.walks is.found) ∙ is.form (leaf_rows (new verb) rest)

  new_agrees : (rest : List Text) → Values rest → Agrees (verb ∷ rest)
  unfolding named
  new_agrees [] h = inr (refuses _ _ _ (new_fails [] ∙ new_none verb), refl)
  new_agrees (a ∷ []) h = inr (refuses _ _ _ (new_fails (a ∷ []) ∙ new_one verb a h.0), is.one a)
  new_agrees (a ∷ b ∷ []) h = inr (refuses _ _ _ (new_fails (a ∷ b ∷ []) ∙ new_two verb a b h.0 h.1.0), is.two a b)
  new_agrees (a ∷ b ∷ c ∷ []) h = inr (refuses _ _ _ (new_fails (a ∷ b ∷ c ∷ []) ∙ new_three verb a b c h.0 h.1.0 h.1.1.0), refl)
  new_agrees (a ∷ b ∷ c ∷ d ∷ []) h = inl (
    new_fails (a ∷ b ∷ c ∷ d ∷ []) ∙ new_four verb a b c d h.0 h.1.0 h.1.1.0 h.1.1.1.0,
    new_met (a ∷ b ∷ c ∷ d ∷ []) ∙ new_read verb unit a b c d h.0 h.1.0 h.1.1.0 h.1.1.1.0 ∙ sym (is.four a b c d),
  )
  new_agrees (a ∷ b ∷ c ∷ d ∷ e ∷ rest) h =
      inr (refuses _ _ _ (new_fails (a ∷ b ∷ c ∷ d ∷ e ∷ rest) ∙ new_many verb a b c d e h.0 h.1.0 h.1.1.0 h.1.1.1.0 h.1.1.1.1.0 rest), refl)

bench_agrees : (rest : List Text) → Values rest → Agrees (codes "bench" ∷ rest)
unfolding named command_form
bench_agrees [] h = inr (refuses _ _ _ (bench_fails [] ∙ bench_none), refl)
bench_agrees (a ∷ []) h = inr (refuses _ _ _ (bench_fails (a ∷ []) ∙ bench_one a h.0), refl)
bench_agrees (a ∷ b ∷ []) h = inl (bench_fails (a ∷ b ∷ []) ∙ bench_two a b h.0 h.1.0, ap met_form (bench_met (a ∷ b ∷ [])) ∙ bench_read a b h.0 h.1.0)
bench_agrees (a ∷ b ∷ c ∷ rest) h = inr (refuses _ _ _ (bench_fails (a ∷ b ∷ c ∷ rest) ∙ bench_many a b c h.0 h.1.0 h.1.1.0 rest), bench_many_named a b c rest)

-- ---- other words

pub differs : (a b : Text) → a ≢ b → bytes_eq a b ≡ false
differs a b other = go (bytes_eq a b) refl
  where
    go : (t : Bool) → bytes_eq a b ≡ t → t ≡ false
    go true e = absurd (other ((bytes_eq-Decides a b).0 e))
    go false e = refl

is_or_differs : (a b : Text) → (a ≡ b) ⊎ (a ≢ b)
is_or_differs a b = go (bytes_eq a b) refl
  where
    go : (t : Bool) → bytes_eq a b ≡ t → (a ≡ b) ⊎ (a ≢ b)
    go true e = inl ((bytes_eq-Decides a b).0 e)
    go false e = inr (λ same. true≢false (sym ((bytes_eq-Decides a b).1 same) ∙ e))

abbrev picked : Bool → Bool → Bool → Bool → Bool → Option Text
picked new run check bench byte = option_map (λ (s : Text × List Text). s.0)
    (cond (new || false) (Some (codes "new", [])) (cond (run || false) (Some (codes "run", [])) (cond (check || false) (Some (codes "check", []))
    (cond (bench || false) (Some (codes "bench", [])) (cond (byte || false) (Some (codes "newbyte", [])) None)))))

module _ (w : Text) (is : IsValue w) (not_new : w ≢ codes "new") (not_run : w ≢ codes "run") (not_check : w ≢ codes "check") (not_bench : w ≢ codes "bench")
    (not_byte : w ≢ codes "newbyte") where
  none_met : subcommand_met (names_of whole) idle w ≡ None
  none_met =
      let run = bytes_eq (codes "run") w in
      let check = bytes_eq (codes "check") w in
      let bench = bytes_eq (codes "bench") w in
      let byte = bytes_eq (codes "newbyte") w in
      ap (λ (t : Bool). picked t run check bench byte) (differs (codes "new") w (λ e. not_new (sym e)))
      ∙ ap (λ (t : Bool). picked false t check bench byte) (differs (codes "run") w (λ e. not_run (sym e)))
      ∙ ap (λ (t : Bool). picked false false t bench byte) (differs (codes "check") w (λ e. not_check (sym e)))
      ∙ ap (λ (t : Bool). picked false false false t byte) (differs (codes "bench") w (λ e. not_bench (sym e)))
      ∙ ap (λ (t : Bool). picked false false false false t) (differs (codes "newbyte") w (λ e. not_byte (sym e)))

  other_fails : (rest : List Text) → fault_of program (w ∷ rest) ≡ UnknownArgument ∷ InvalidSubcommand ∷ []
  other_fails rest = refused_by whole w rest
      ∙ ap (λ (k : Kinds). refusals_at whole (or_else k (walk_fault whole.top (names_of whole) (walk_on whole w) rest)) (fold (walked whole.top.rules (names_of whole)) (walk_on whole w) rest))
      (turn_value whole.top (names_of whole) 1 nothing_held w none_met is)
      ∙ refused_at_once whole UnknownArgument (InvalidSubcommand ∷ []) (fold (walked whole.top.rules (names_of whole)) (walk_on whole w) rest)

  other_named : (rest : List Text) → named (w ∷ rest) ≡ None
  unfolding named
  other_named [] = refl
  other_named (a ∷ []) = ap (λ (t : Bool). cond t (Some (of_check a)) None) (differs w (codes "check") not_check)
  other_named (a ∷ b ∷ []) =
      let bench = bench_named (number_of a) (number_of b) in
      ap (λ (t : Bool). cond t (Some (of_run a b)) (cond (bytes_eq w (codes "bench")) bench None)) (differs w (codes "run") not_run)
      ∙ ap (λ (t : Bool). cond t bench None) (differs w (codes "bench") not_bench)
  other_named (a ∷ b ∷ c ∷ []) = refl
  other_named (a ∷ b ∷ c ∷ d ∷ []) =
      let of_byte = new_named 1 a b c d in
      ap (λ (t : Bool). cond t (new_named 8 a b c d) (cond (bytes_eq w (codes "newbyte")) of_byte None)) (differs w (codes "new") not_new)
      ∙ ap (λ (t : Bool). cond t of_byte None) (differs w (codes "newbyte") not_byte)
  other_named (a ∷ b ∷ c ∷ d ∷ e ∷ rest) = refl

none_fails : fault_of program [] ≡ MissingSubcommand ∷ []
unfolding clap_on_literals
none_fails = refl

none_named : named [] ≡ None
unfolding named
none_named = refl

pub words_agree : (words : List Text) → All IsPlain words → Agrees words
words_agree [] h = inr (refuses _ _ _ none_fails, none_named)
words_agree (w ∷ rest) h =
    let all : IsValue w × Values rest = values (w ∷ rest) h in
    elim (is_or_differs w (codes "new")) [
      | inl e ↦ subst (λ v. Agrees (v ∷ rest)) (sym e) (new_agrees (codes "new") 8 is_new rest all.1)
      | inr not_new ↦ elim (is_or_differs w (codes "run")) [
        | inl e ↦ subst (λ v. Agrees (v ∷ rest)) (sym e) (run_agrees rest all.1)
        | inr not_run ↦ elim (is_or_differs w (codes "check")) [
          | inl e ↦ subst (λ v. Agrees (v ∷ rest)) (sym e) (check_agrees rest all.1)
          | inr not_check ↦ elim (is_or_differs w (codes "bench")) [
            | inl e ↦ subst (λ v. Agrees (v ∷ rest)) (sym e) (bench_agrees rest all.1)
            | inr not_bench ↦ elim (is_or_differs w (codes "newbyte")) [
              | inl e ↦ subst (λ v. Agrees (v ∷ rest)) (sym e) (new_agrees (codes "newbyte") 1 is_new_byte rest all.1)
              | inr not_byte ↦
                  inr (refuses _ _ _ (other_fails w all.0 not_new not_run not_check not_bench not_byte rest), other_named w all.0 not_new not_run not_check not_bench not_byte rest)
            ]
          ]
        ]
      ]
    ]

-- ---- what the parse then says

pub program_is_simple : is_simple program ≡ true
unfolding clap_on_literals
program_is_simple = refl

pub program_is_free : is_simple_and_free program ≡ true
unfolding clap_on_literals
program_is_free = refl

pub some≢none : {X : Type 0} (x : X) → Some x ≢ None
some≢none x e = true≢false (ap is_some e)

-- words that are taken are read as the form that they name
pub form_met : (words : List Text) → All IsPlain words → fault_of program words ≡ [] → met_form (subcommand_of program words) ≡ named words
form_met words h taken = elim (words_agree words h) [
  | inl agree ↦ agree.1
  | inr other ↦ absurd (other.0 taken)
]

-- words that name a form are refused only for want of memory
pub refused_for_memory : (words : List Text) → All IsPlain words → (error : Error) → HasKind (fault_of program words) error
    → (form : Form) → named words ≡ Some form → kind_of error ≡ OutOfMemory
refused_for_memory words h error has form is = elim (words_agree words h) [
  | inl agree ↦ ⊎_elim (λ memory. memory) (λ none. absurd none) (subst (λ kinds. HasKind kinds error) agree.0 has)
  | inr other ↦ absurd (some≢none form (sym is ∙ other.1))
]
