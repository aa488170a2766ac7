-- A plain word is a value, and goes to the next argument that is filled by its place.
use Rattle.std.proofs.Common.{◌≡◌, ◌∙◌, ◌==◌, ℕ, Bool, cond, false, List, [], ◌∷◌, Option, Some, None, refl, ap, ap₂, ne_eqb, fold, option_and_then, bytes_eq}
use Rattle.std.specs.Option.{option_map_or}
use Rattle.clap.specs.Lexer.{long_of, long_of_rest, short_of, short_of_rest, strip_byte}
use Rattle.clap.specs.Walk.{Held, Names, Row, Step, Text, Walk, after_step, arg_by_index, finished, idle, long_or_other, nothing_held, rows_after, settled, short_or_plain, subcommand_met, subcommand_or_other, to_positional, trailing, value, walked, word_met}
use Rattle.clap.specs.Simple.{Shape}
use Rattle.clap.specs.Kinds.{Kinds, or_else}
use Rattle.clap.specs.Faults.{bundle_fault, check_fault, defaults_fault, flag_word_fault, level_fault, other_fault, settle_fault, step_fault, turn_fault, walk_fault, word_fault}
use Rattle.clap.specs.declared.error.kind.ErrorKind.{ErrorKind}
use Rattle.command_line.specs.Words.{IsPlain}

-- the word is no flag, and does not end the flags
pub record IsValue (w : Text) : Type 0 where
  pub no_end : bytes_eq w (45 ∷ 45 ∷ []) ≡ false
  pub no_long : long_of w ≡ None
  pub no_short : short_of w ≡ None

pub plain_is_value : (w : Text) → IsPlain w → IsValue w
plain_is_value [] h = absurd h
plain_is_value (x ∷ xs) h =
    let other : (x == 45) ≡ false = ne_eqb x 45 h in
    record {
      no_end = rw other refl;
      no_long = ap (λ b. option_and_then long_of_rest (option_and_then (strip_byte 45) (cond b (Some xs) None))) other;
      no_short = ap (λ b. option_and_then short_of_rest (cond b (Some xs) None)) other;
    }

-- between two words
abbrev pub before : ℕ → Held → Walk
before place h = record { held = h; waiting = idle; position = place; is_trailing = false; stopped = None }

-- why a command with no commands of its own refuses values
unfoldable pub leaf_refusals : Shape → List Text → Kinds
leaf_refusals s values = level_fault s [] nothing_held values false []

unfoldable pub leaf_rows : Shape → List Text → List Row
leaf_rows s values = rows_after s.rules [] values

-- the same from between two words on, after a first refusal
unfoldable pub refused_from : Shape → Kinds → Walk → List Text → Kinds
refused_from s first w words =
    let end = (fold (walked s.rules []) w words).held in
    or_else (or_else first (walk_fault s [] w words))
    (or_else (settle_fault s.rules s.args_override_self end)
    (or_else (defaults_fault (settled s.rules end).rows s.rules) (check_fault s (finished s.rules end) false)))

unfoldable pub rows_from : Shape → Walk → List Text → List Row
rows_from s w words = finished s.rules (fold (walked s.rules []) w words).held

pub refused_first : (s : Shape) (values : List Text) → leaf_refusals s values ≡ refused_from s [] (before 1 nothing_held) values
unfolding leaf_refusals refused_from
refused_first s values = refl

pub rows_first : (s : Shape) (values : List Text) → leaf_rows s values ≡ rows_from s (before 1 nothing_held) values
unfolding leaf_rows rows_from
rows_first s values = refl

-- the walk after a value
abbrev pub filled : Shape → ℕ → Held → Text → Walk
filled s place h w = to_positional s.rules (arg_by_index s.rules place) w (before place h) h

module _ (s : Shape) (names : Names) (place : ℕ) (h : Held) (w : Text) (none : subcommand_met names idle w ≡ None) (is : IsValue w) where
  met_value : word_met s.rules names false idle place w h ≡ (h, value)
  met_value =
      ap (λ (o : Option Text). subcommand_or_other s.rules o idle place w h) none
      ∙ ap (λ (b : Bool). cond b (h, trailing place) (long_or_other s.rules idle w (long_of w) h)) is.no_end
      ∙ ap (λ (o : Option (Text × Option Text)). long_or_other s.rules idle w o h) is.no_long
      ∙ ap (λ (o : Option Text). short_or_plain s.rules idle w o h) is.no_short

  no_refusal : word_fault s names false idle w h ≡ []
  no_refusal =
      ap (λ (o : Option Text). other_fault s o w h) none
      ∙ ap (λ (b : Bool). cond b [] (flag_word_fault s.rules s.args_override_self (long_of w) w h)) is.no_end
      ∙ ap (λ (o : Option (Text × Option Text)). flag_word_fault s.rules s.args_override_self o w h) is.no_long
      ∙ ap (λ (o : Option Text). option_map_or (λ flags. bundle_fault s.rules s.args_override_self flags h) o []) is.no_short

  walked_value : walked s.rules names (before place h) w ≡ filled s place h w
  unfolding walked
  walked_value = ap (λ (m : Held × Step). after_step s.rules w (before place h) m.0 m.1) met_value

  pub turn_value : turn_fault s names (before place h) w ≡ step_fault s place h value
  turn_value = ap₂ (λ (k : Kinds) (m : Held × Step). or_else k (step_fault s place m.0 m.1)) no_refusal met_value

pub refused_next : (s : Shape) (place : ℕ) (h : Held) (w : Text) → IsValue w → (rest : List Text)
    → refused_from s [] (before place h) (w ∷ rest) ≡ refused_from s (step_fault s place h value) (filled s place h w) rest
unfolding refused_from walk_fault
refused_next s place h w is rest = ap₂ (λ (k : Kinds) (now : Walk). refused_from s k now rest) (turn_value s [] place h w refl is) (walked_value s [] place h w refl is)

pub rows_next : (s : Shape) (place : ℕ) (h : Held) (w : Text) → IsValue w → (rest : List Text) → rows_from s (before place h) (w ∷ rest) ≡ rows_from s (filled s place h w) rest
unfolding rows_from
rows_next s place h w is rest = ap (λ (now : Walk). rows_from s now rest) (walked_value s [] place h w refl is)

pub refused_already : (s : Shape) (k : ErrorKind) (ks : Kinds) (w : Walk) (rest : List Text) → refused_from s (k ∷ ks) w rest ≡ k ∷ ks
unfolding refused_from
refused_already s k ks w rest = refl
