-- Changes of words: a list of places and the values that they get.
use Rattle.std.specs.Prelude.{◌≡◌, ℕ, ◌<◌, ◌≤◌, ◌==◌, Bool, false, List, [], ◌∷◌, length, if◌then◌else◌, IsTrue, ◌+◌, ◌*◌}
use Rattle.std.specs.List.{list_any}
use Rattle.word_log.specs.declared.area.LogArea.{LogArea}
use Rattle.word_log.specs.Area.{IsHome}

-- words, those listed with their listed values
abbrev pub changed : List (ℕ × ℕ) → (ℕ → ℕ) → ℕ → ℕ
changed [] word p = word p
changed (c ∷ cs) word p = if c.0 == p then c.1 else changed cs word p

-- the word at p is among those that change
abbrev pub lists : List (ℕ × ℕ) → ℕ → Bool
lists changes p = list_any (λ c. c.0 == p) changes

-- no word is there twice
abbrev pub IsDistinct : List (ℕ × ℕ) → Type 0
IsDistinct [] = Unit {0}
IsDistinct (c ∷ cs) = (lists cs c.0 ≡ false) × IsDistinct cs

-- changes that the log takes at once: some, but no more than it has room for, of home words, none twice
pub record MayCommit (a : LogArea) (changes : List (ℕ × ℕ)) : Type 0 where
  pub some : 0 < length changes
  pub few : length changes ≤ a.cap
  pub home : (p : ℕ) → IsTrue (lists changes p) → IsHome a p
  pub distinct : IsDistinct changes

-- counted calls of a commit of so many changes, at most, and persists
abbrev pub commit_calls : ℕ → ℕ
commit_calls n = 5 * n + 6

abbrev pub commit_persists : ℕ → ℕ
commit_persists n = 2 * n + 3
