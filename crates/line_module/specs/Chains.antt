-- The values of a line's words after the durable ones.
use Rattle.std.specs.Prelude.{◌≡◌, ℕ, Bool, true, false, List, [], ◌∷◌, Option, Some, None, slice_get, if◌then◌else◌}
use Rattle.line_device.specs.Word.{word_at, reaches}
use Rattle.arrayvec.specs.ArrayVec.{ArrayVec}
use Rattle.line_module.specs.Words.{any_below}
use Rattle.line_module.specs.Memory.{one_more}
use Rattle.line_module.specs.declared.chain.Chain.{Chain}
use Rattle.line_module.specs.declared.state.State.{State}
use Rattle.line_module.specs.declared.state.Next.{Next}
use Rattle.line_module.specs.declared.state.State.TheVariants.{Clean, Dirty, Weak}
use Rattle.line_module.specs.declared.state.Next.TheVariants as next

-- the values of a word, none where there is no such word
abbrev pub items_in : Option (ArrayVec ℕ) → List ℕ
items_in None = []
items_in (Some values) = values.items

-- the values of word w after its durable one
abbrev pub values_in : Chain → ℕ → List ℕ
values_in k w = items_in (slice_get k.words.items w)

-- no word has one
abbrev pub IsEmptyChain : Chain → Type 0
IsEmptyChain k = (w : ℕ) → values_in k w ≡ []

-- the same of a line by its state; None past the end
abbrev pub after_durable : Option State → ℕ → List ℕ
after_durable None w = []
after_durable (Some Clean) w = []
after_durable (Some (Dirty k)) w = values_in k w
after_durable (Some (Weak k)) w = values_in k w

-- there is a value
abbrev pub is_more : List ℕ → Bool
is_more [] = false
is_more (v ∷ vs) = true

-- some word has a value after its durable one
abbrev pub is_dirty : Option State → Bool
is_dirty state = any_below 8 (λ w. is_more (after_durable state w))

-- the line is weak
abbrev pub is_weak_state : Option State → Bool
is_weak_state None = false
is_weak_state (Some Clean) = false
is_weak_state (Some (Dirty k)) = false
is_weak_state (Some (Weak k)) = true

-- the line takes part in the order
abbrev pub is_listed : Option State → Bool
is_listed None = false
is_listed (Some Clean) = false
is_listed (Some (Dirty k)) = true
is_listed (Some (Weak k)) = false

-- the line has no chain
abbrev pub is_clean : Option State → Bool
is_clean None = true
is_clean (Some Clean) = true
is_clean (Some (Dirty k)) = false
is_clean (Some (Weak k)) = false

-- a word's values once bytes are put over the line, which then has these
abbrev pub grown_word : ℕ → ℕ → List ℕ → ℕ → List ℕ → List ℕ
grown_word at len line w h = if reaches at len w then one_more h (word_at line w) else h

-- whether a line is weak then, that was or was not before
abbrev pub is_weak_next : Next → Bool → Bool
is_weak_next next.Clean weak = false
is_weak_next (next.Weak k) weak = true
is_weak_next next.Same weak = weak

-- a chain that comes with it has no values
abbrev pub IsEmptyNext : Next → Type 0
IsEmptyNext next.Clean = Unit {0}
IsEmptyNext (next.Weak k) = IsEmptyChain k
IsEmptyNext next.Same = Unit {0}

-- the line has no chain then, whatever it was
abbrev pub is_clean_next : Next → Bool
is_clean_next next.Clean = true
is_clean_next (next.Weak k) = false
is_clean_next next.Same = false
