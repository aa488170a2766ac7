-- The words after a command's name, and the action they ask for.
use Rattle.std.specs.Prelude.{ℕ, List, [], ◌∷◌, ◌++◌, length, nat_le, Option, Some, None, option_map, option_and_then, Result, Ok, Err, if◌then◌else◌, codes}
use Rattle.std.specs.Str.{bytes_eq}
use Rattle.nvm_base.specs.declared.units.Span.{Span}
use Rattle.nvm_base.specs.declared.files.Kind.{Kind}
use Rattle.nvm_base.specs.declared.files.Kind.TheVariants.{Shared, Private}
use Rattle.nvm_base.specs.Numbers.{number_of}
use Rattle.nvm_base.specs.Names.{name_of}
use Rattle.nvm_base.specs.Data.{data_of, data_within}
use Rattle.script_text.specs.Action.{Action}

-- an action on two numbers or names
abbrev pub of_both : {A B : Type 0} → (A → B → Action) → Option A → Option B → Option Action
of_both make (Some a) (Some b) = Some (make a b)
of_both make (Some a) None = None
of_both make None b = None

-- an action on a number and DATA
abbrev pub of_data : {E : Type 0} → (ℕ → List ℕ → Action) → Option ℕ → Result (List ℕ) E → Option Action
of_data make (Some a) (Ok bytes) = Some (make a bytes)
of_data make (Some a) (Err e) = None
of_data make None bytes = None

-- The words: none, one of any bytes, one number, two, one name, two, a name and a number, a number and DATA, a mapping's kind, pairs of
-- numbers, pairs of a number and DATA, or a name or a number before any of these.
abbrev pub bare_action : Action → List (List ℕ) → Option Action
bare_action action [] = Some action
bare_action action (word ∷ words) = None

abbrev pub word_action : (List ℕ → Action) → List (List ℕ) → Option Action
word_action make (a ∷ []) = Some (make a)
word_action make _ = None

abbrev pub number_action : (ℕ → Action) → List (List ℕ) → Option Action
number_action make (a ∷ []) = option_map make (number_of a)
number_action make _ = None

abbrev pub span_action : (ℕ → ℕ → Action) → List (List ℕ) → Option Action
span_action make (a ∷ b ∷ []) = of_both make (number_of a) (number_of b)
span_action make _ = None

abbrev pub name_action : (List ℕ → Action) → List (List ℕ) → Option Action
name_action make (a ∷ []) = option_map make (name_of a)
name_action make _ = None

abbrev pub names_action : (List ℕ → List ℕ → Action) → List (List ℕ) → Option Action
names_action make (a ∷ b ∷ []) = of_both make (name_of a) (name_of b)
names_action make _ = None

abbrev pub sized_action : (List ℕ → ℕ → Action) → List (List ℕ) → Option Action
sized_action make (a ∷ b ∷ []) = of_both make (name_of a) (number_of b)
sized_action make _ = None

abbrev pub data_action : (ℕ → List ℕ → Action) → List (List ℕ) → Option Action
data_action make (a ∷ text ∷ []) = of_data make (number_of a) (data_within 65536 text)
data_action make _ = None

abbrev pub named_action : (List ℕ → List (List ℕ) → Option Action) → List (List ℕ) → Option Action
named_action more [] = None
named_action more (a ∷ words) = option_and_then (λ name. more name words) (name_of a)

abbrev pub numbered_action : (ℕ → List (List ℕ) → Option Action) → List (List ℕ) → Option Action
numbered_action more [] = None
numbered_action more (a ∷ words) = option_and_then (λ n. more n words) (number_of a)

-- whether a mapping shows its file, or a copy of it
abbrev pub kind_of : List ℕ → Option Kind
kind_of word = if bytes_eq word (codes "shared") then Some Shared else (if bytes_eq word (codes "private") then Some Private else None)

abbrev pub kind_action : (Kind → Action) → List (List ℕ) → Option Action
kind_action make (a ∷ []) = option_map make (kind_of a)
kind_action make _ = None

-- one span more, where all of it is there
abbrev pub with_span : Option ℕ → Option ℕ → Option (List Span) → Option (List Span)
with_span (Some start) (Some len) (Some spans) = Some (record { start = start; len = len } ∷ spans)
with_span (Some start) (Some len) None = None
with_span (Some start) None spans = None
with_span None len spans = None

abbrev pub spans_of : List (List ℕ) → Option (List Span)
spans_of [] = Some []
spans_of (a ∷ []) = None
spans_of (a ∷ b ∷ words) = with_span (number_of a) (number_of b) (spans_of words)

abbrev pub spans_action : (List Span → Action) → List (List ℕ) → Option Action
spans_action make [] = None
spans_action make (a ∷ words) = option_map make (spans_of (a ∷ words))

-- one range more and its bytes before those of the others, where all of it is there
abbrev pub with_range : Option ℕ → Option (List ℕ) → Option (List Span × List ℕ) → Option (List Span × List ℕ)
with_range (Some start) (Some bytes) (Some p) = Some (record { start = start; len = length bytes } ∷ p.0, bytes ++ p.1)
with_range (Some start) (Some bytes) None = None
with_range (Some start) None rest = None
with_range None bytes rest = None

-- ranges from pairs of a number and DATA, their lengths in bytes, and the bytes one after another
abbrev pub ranges_of : List (List ℕ) → Option (List Span × List ℕ)
ranges_of [] = Some ([], [])
ranges_of (a ∷ []) = None
ranges_of (a ∷ text ∷ words) = with_range (number_of a) (data_of text) (ranges_of words)

-- ranges and their bytes, where there is room for all bytes together
abbrev pub fitting : ℕ → Option (List Span × List ℕ) → Option (List Span × List ℕ)
fitting room None = None
fitting room (Some p) = if nat_le (length p.1) room then Some p else None

abbrev pub ranges_action : (List Span → List ℕ → Action) → List (List ℕ) → Option Action
ranges_action make [] = None
ranges_action make (a ∷ words) = option_map (λ p. make p.0 p.1) (fitting 65536 (ranges_of (a ∷ words)))

-- an action on a byte of a file or of the volume
abbrev pub placed_action : (List ℕ → ℕ → Action) → (ℕ → Action) → List (List ℕ) → Option Action
placed_action in_file in_volume [] = None
placed_action in_file in_volume (word ∷ words) =
    if bytes_eq word (codes "file") then sized_action in_file words
    else (if bytes_eq word (codes "volume") then number_action in_volume words else None)
