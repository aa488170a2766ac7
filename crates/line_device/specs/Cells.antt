-- Lines of memory that keep of each word its first and its last value.
use Rattle.std.specs.Prelude.{◌/◌, ◌==◌, ℕ, Bool, true, false, not, List, [], ◌∷◌, Option, Some, None, if◌then◌else◌, slice_get, take}
use Rattle.std.specs.Vec.{vec_len}
use Rattle.line_device.specs.Word.{word_at}
use Rattle.line_device.specs.History.{latest, newest}
use Rattle.line_device.specs.Medium.{Medium, with_at}
use Rattle.line_device.specs.declared.line.Choice.{Choice}
use Rattle.line_device.specs.declared.line.Choice.TheVariants.{Firsts, Lasts, Seed}
use Rattle.line_device.specs.declared.plain.cells.Mark.{Mark}
use Rattle.line_device.specs.declared.plain.cells.Mark.TheVariants.{Healthy, Weak, Bad}
use Rattle.line_device.specs.declared.plain.cells.Cells.{Cells}

-- a first and a last value, once where they are one
abbrev pub first_and_last : ℕ → ℕ → List ℕ
first_and_last x y = if x == y then y ∷ [] else x ∷ y ∷ []

-- of these values the first and the last
abbrev pub ends : List ℕ → List ℕ
ends [] = []
ends (x ∷ xs) = first_and_last x (newest (x ∷ xs))

-- the lines with of each word the first and the last value
abbrev pub ends_of : Medium → Medium
ends_of m = record m { history = λ p. ends (m.history p) }

-- the line is weak, if it is not bad
abbrev pub weakened : Medium → ℕ → Medium
weakened m line = record m { is_weak = with_at m.is_weak line (not (m.is_bad line)) }

-- the lines after a restart that keeps each word's last value, or for any other choice the first
abbrev pub kept : Choice → Medium → Medium
kept Firsts m = record m { history = λ p. take 1 (m.history p) }
kept Lasts m = record m { history = λ p. latest (m.history p) }
kept (Seed seed) m = record m { history = λ p. take 1 (m.history p) }

-- the mark of a line, None past the end
abbrev pub is_bad_mark : Option Mark → Bool
is_bad_mark None = false
is_bad_mark (Some Healthy) = false
is_bad_mark (Some Weak) = false
is_bad_mark (Some Bad) = true

abbrev pub is_weak_mark : Option Mark → Bool
is_weak_mark None = false
is_weak_mark (Some Healthy) = false
is_weak_mark (Some Weak) = true
is_weak_mark (Some Bad) = false

-- the mark of a line that is not bad
abbrev pub good_mark : Bool → Mark
good_mark false = Healthy
good_mark true = Weak

-- whether a line with this mark has words
abbrev pub has_words : Option Mark → Bool
has_words None = false
has_words (Some Healthy) = true
has_words (Some Weak) = true
has_words (Some Bad) = false

-- lines with these marks, whose words have these durable bytes and these last ones
abbrev pub memory : ℕ → List Mark → List ℕ → List ℕ → Medium
memory count marks durable last = record {
  count = count;
  is_bad = λ n. is_bad_mark (slice_get marks n);
  is_weak = λ n. is_weak_mark (slice_get marks n);
  history = λ p. if has_words (slice_get marks (p / 8)) then first_and_last (word_at durable p) (word_at last p) else [];
}

abbrev pub medium_of : Cells → Medium
medium_of c = memory (vec_len c.marks) c.marks.items c.durable.items c.last.items
