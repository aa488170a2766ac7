-- The values that a word has had since it was last made durable: the first is durable, the last is what a load gives.
use Rattle.std.specs.Prelude.{◌≡◌, ◌⊎◌, ◌==◌, ℕ, Bool, true, false, List, [], ◌∷◌, take, IsTrue}
use Rattle.std.specs.Int.{byte_at}

-- the last value alone
abbrev pub latest : List ℕ → List ℕ
latest [] = []
latest (x ∷ []) = x ∷ []
latest (x ∷ y ∷ ys) = latest (y ∷ ys)

-- the last value, 0 where there is none
abbrev pub newest : List ℕ → ℕ
newest [] = 0
newest (x ∷ []) = x
newest (x ∷ y ∷ ys) = newest (y ∷ ys)

-- v is one of the values
abbrev pub IsIn : ℕ → List ℕ → Type 0
IsIn v [] = ⊥
IsIn v (x ∷ xs) = (v ≡ x) ⊎ IsIn v xs

-- each byte of v is that byte of one of the values
unfoldable pub IsTorn : ℕ → List ℕ → Type 0
IsTorn v history = (k : ℕ) → (x : ℕ) × IsIn x history × (byte_at k v ≡ byte_at k x)

-- what a cut may keep of a word, as a module keeps its bytes independently or not
abbrev pub may_keep_by : Bool → ℕ → List ℕ → Type 0
may_keep_by true v history = IsTorn v history
may_keep_by false v history = IsIn v history

-- what a cut may keep of a word where the survival unit is this: a byte, or else a word
abbrev pub MayKeep : ℕ → ℕ → List ℕ → Type 0
MayKeep unit v history = may_keep_by (unit == 1) v history

-- `part` is `whole` with some values left out
abbrev pub IsPart : List ℕ → List ℕ → Type 0
IsPart [] whole = Unit {0}
IsPart (x ∷ xs) [] = ⊥
IsPart (x ∷ xs) (y ∷ ys) = ((x ≡ y) × IsPart xs ys) ⊎ IsPart (x ∷ xs) ys

-- Write-back and forgetting, of one word: values may be gone, but not the last one, nor the first in a weak line.
pub record WordWritesBack (weak : Bool) (old new : List ℕ) : Type 0 where
  pub part : IsPart new old
  pub last : latest new ≡ latest old
  pub first : IsTrue weak → take 1 new ≡ take 1 old
