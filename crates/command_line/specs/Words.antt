-- The forms of the command line.
use Rattle.std.specs.Prelude.{◌≡◌, ◌≢◌, ◌≤◌, ℕ, List, [], ◌∷◌, Option, Some, None, if◌then◌else◌, codes, option_map, All}
use Rattle.std.specs.Str.{bytes_eq}
use Rattle.nvm_base.specs.Numbers.{number_of}
use Rattle.word_tables.specs.declared.geometry.Geometry.{Geometry}
use Rattle.word_tables.specs.Bounds.{IsValid}
use Rattle.command_line.specs.declared.form.Form.{Form as Read}
use Rattle.command_line.specs.declared.form.Form.TheVariants.{New, Run, Check, Bench, NewByte}

-- a form of the command line, with the texts of its names and its numbers; of a new image first the survival unit
pub data Form : Type 0 where
  of_new : ℕ → List ℕ → Geometry → Form
  of_run : List ℕ → List ℕ → Form
  of_check : List ℕ → Form
  of_bench : ℕ → ℕ → Form

-- the form that was read
abbrev pub form_of : Read → Form
form_of (New image geometry) = of_new 8 image.now geometry
form_of (Run from to) = of_run from.now to.now
form_of (Check image) = of_check image.now
form_of (Bench seed count) = of_bench seed count
form_of (NewByte image geometry) = of_new 1 image.now geometry

-- the three sizes, where each is a number
abbrev pub sizes_named : Option ℕ → Option ℕ → Option ℕ → Option Geometry
sizes_named (Some blocks) (Some vpages) (Some fpages) = Some (record { blocks = blocks; vpages = vpages; fpages = fpages })
sizes_named (Some blocks) (Some vpages) None = None
sizes_named (Some blocks) None fpages = None
sizes_named None vpages fpages = None

-- the workload, where its seed and its rounds are numbers
abbrev pub bench_named : Option ℕ → Option ℕ → Option Form
bench_named (Some seed) (Some count) = Some (of_bench seed count)
bench_named (Some seed) None = None
bench_named None count = None

-- the image of a new machine of this unit, where its sizes are numbers
abbrev pub new_named : ℕ → List ℕ → List ℕ → List ℕ → List ℕ → Option Form
new_named unit image blocks vpages fpages = option_map (of_new unit image) (sizes_named (number_of blocks) (number_of vpages) (number_of fpages))

-- the form that the words name, by how many they are and the first of them
unfoldable pub named : List (List ℕ) → Option Form
named (verb ∷ image ∷ []) = if bytes_eq verb (codes "check") then Some (of_check image) else None
named (verb ∷ first ∷ second ∷ []) =
    if bytes_eq verb (codes "run") then Some (of_run first second)
    else (if bytes_eq verb (codes "bench") then bench_named (number_of first) (number_of second) else None)
named (verb ∷ image ∷ blocks ∷ vpages ∷ fpages ∷ []) =
    if bytes_eq verb (codes "new") then new_named 8 image blocks vpages fpages
    else (if bytes_eq verb (codes "newbyte") then new_named 1 image blocks vpages fpages else None)
named _ = None

-- not empty, and not begun by a hyphen
abbrev pub IsPlain : List ℕ → Type 0
IsPlain [] = ⊥
IsPlain (first ∷ rest) = first ≢ 45

-- sizes are within their limits
abbrev pub HasSizes : Form → Type 0
HasSizes (of_new unit image geometry) = IsValid geometry
HasSizes (of_run from to) = Unit {0}
HasSizes (of_check image) = Unit {0}
HasSizes (of_bench seed count) = (1 ≤ count) × (count ≤ 100000)

-- The words are this form of the command line.
pub record IsForm (words : List (List ℕ)) (form : Form) : Type 0 where
  pub named : named words ≡ Some form
  pub plain : All IsPlain words
  pub sizes : HasSizes form
