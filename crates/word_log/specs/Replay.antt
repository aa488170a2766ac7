-- What a log says of its home words. Images and tables of words are one kind of thing, a function from place to word.
use Rattle.std.specs.Prelude.{◌≡◌, ℕ, zero, suc, ◌+◌, ◌==◌, Bool, true, false, ◌&&◌, nat_lt, nat_le, not, List, [], ◌∷◌, ◌++◌, Option, Some, None, if◌then◌else◌}
use Rattle.word_log.specs.declared.area.LogArea.{LogArea}
use Rattle.word_log.specs.Area.{gate_place, count_place, entry_place, is_home, IsHome}
use Rattle.word_log.specs.Changes.{changed, lists}

-- so many entries from a place on, each the place of a word and its value
abbrev pub entries : (ℕ → ℕ) → ℕ → ℕ → List (ℕ × ℕ)
entries word at zero = []
entries word at (suc n) = (word at, word (at + 1)) ∷ entries word (at + 2) n

-- the changes that a log lists, as its gate is open or not
abbrev pub listed_if : Bool → LogArea → (ℕ → ℕ) → List (ℕ × ℕ)
listed_if true a word = entries word (entry_place a 0) (word (count_place a))
listed_if false a word = []

-- the changes that a log lists: its entries where the gate is 1, else none
unfoldable pub listed : LogArea → (ℕ → ℕ) → List (ℕ × ℕ)
listed a word = listed_if (word (gate_place a) == 1) a word

-- the words after a replay: those listed have their listed values
abbrev pub replayed : LogArea → (ℕ → ℕ) → ℕ → ℕ
replayed a word = changed (listed a word) word

-- where the first of these entries stands that changes no home word, or one that an entry before it changes
abbrev pub wrong_entry : LogArea → ℕ → List (ℕ × ℕ) → List (ℕ × ℕ) → Option ℕ
wrong_entry a at before [] = None
wrong_entry a at before (c ∷ cs) =
    if is_home a c.0 && not (lists before c.0) then wrong_entry a (at + 2) (before ++ c ∷ []) cs else Some at

-- what is wrong with an open log, as its count is in order or not
abbrev pub wrong_open : Bool → LogArea → (ℕ → ℕ) → Option ℕ
wrong_open true a word = wrong_entry a (entry_place a 0) [] (entries word (entry_place a 0) (word (count_place a)))
wrong_open false a word = Some (count_place a)

-- what is wrong with a log, by its gate
abbrev pub wrong_at : ℕ → LogArea → (ℕ → ℕ) → Option ℕ
wrong_at zero a word = None
wrong_at (suc zero) a word = wrong_open (nat_lt 0 (word (count_place a)) && nat_le (word (count_place a)) a.cap) a word
wrong_at (suc (suc n)) a word = Some (gate_place a)

-- The lowest place of the log that is wrong: a gate other than 0 and 1; where it is 1, a count of 0 or over the cap; a
-- counted entry's place that is no home word or repeats an earlier one.
unfoldable pub first_wrong : LogArea → (ℕ → ℕ) → Option ℕ
first_wrong a word = wrong_at (word (gate_place a)) a word

-- the log is valid, and after its replay the home words are these
pub record Replays (a : LogArea) (image words : ℕ → ℕ) : Type 0 where
  pub valid : first_wrong a image ≡ None
  pub home : (p : ℕ) → IsHome a p → replayed a image p ≡ words p
