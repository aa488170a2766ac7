-- What a module's memory is, and what each call makes of it, exactly.
use Rattle.std.specs.Prelude.{true, false, ℕ, zero, suc, ◌+◌, ◌*◌, Bool, not, ◌&&◌, ◌||◌, ◌==◌, eqb, nat_lt, List, [], ◌∷◌, ◌++◌, length, take, drop, Option, Some, None, slice_get, if◌then◌else◌}
use Rattle.std.specs.List.{list_any, filter}
use Rattle.line_device.specs.Word.{word_over, reaches}
use Rattle.line_device.specs.History.{newest}
use Rattle.line_device.specs.Medium.{Medium, on_line, flushed, persisted, cleared, poisoned, installed, zeros}
use Rattle.line_device.specs.Cells.{weakened}
use Rattle.line_device.specs.declared.line.Choice.{Choice}
use Rattle.line_device.specs.declared.line.LineState.{LineState}
use Rattle.line_device.specs.declared.line.LineState.TheVariants.{Healthy, Weak, Bad}
use Rattle.line_module.specs.Words.{any_below}
use Rattle.line_module.specs.Survivors.{survivor_of}

-- the lines, and the dirty ones of those that are not weak, in the order in which they became dirty
pub record Memory : Type 0 where
  pub medium : Medium
  pub order : List ℕ

-- the line is listed
abbrev pub has : ℕ → List ℕ → Bool
has line order = list_any (eqb line) order

-- the list without that line
abbrev pub without : ℕ → List ℕ → List ℕ
without line order = filter (λ n. not (eqb line n)) order

-- a line is dirty where one of its words has more values than one
abbrev pub is_dirty_line : Medium → ℕ → Bool
is_dirty_line m line = any_below 8 (λ w. nat_lt 1 (length (m.history (8 * line + w))))

-- the line is written back
abbrev pub written_back : Memory → ℕ → Memory
written_back s line = record { medium = flushed s.medium line; order = without line s.order }

-- a line is written back, if there is one to be
abbrev pub with_back : Memory → Option ℕ → Memory
with_back s None = s
with_back s (Some line) = written_back s line

-- one value more in a history of at most sixteen, which the second one makes room for where there is none
abbrev pub one_more : List ℕ → ℕ → List ℕ
one_more h v = if nat_lt (length h) 16 then h ++ v ∷ [] else take 1 h ++ drop 2 h ++ v ∷ []

-- a word that the stored bytes reach has one value more
abbrev pub word_put : ℕ → List ℕ → ℕ → List ℕ → List ℕ
word_put at bytes w h = if reaches at (length bytes) w then one_more h (word_over at bytes w (newest h)) else h

-- bytes are put over a line, which is dirty from then on
abbrev pub put_over : Memory → ℕ → ℕ → List ℕ → Memory
put_over s line at bytes = record {
  medium = record s.medium { history = on_line line (word_put at bytes) s.medium.history };
  order = if s.medium.is_weak line || has line s.order then s.order else s.order ++ line ∷ [];
}

-- bytes of this length at an offset would give one of eight words a seventeenth value
abbrev pub is_full_at : (ℕ → List ℕ) → ℕ → ℕ → Bool
is_full_at history at len = any_below 8 (λ w. reaches at len w && (length (history w) == 16))

-- the same of a line
abbrev pub is_full : Medium → ℕ → ℕ → ℕ → Bool
is_full m line at len = is_full_at (λ w. m.history (8 * line + w)) at len

-- What a store has to have written back first: a line that is full, unless it is weak; the oldest dirty line where
-- 1,024 are and this one would be one more; else nothing.
abbrev pub in_the_way : Memory → ℕ → ℕ → ℕ → Option ℕ
in_the_way s line at len =
    if s.medium.is_weak line then None
    else (if is_full s.medium line at len then Some line
    else (if not (has line s.order) && (length s.order == 1024) then slice_get s.order 0 else None))

-- so many lines of zeros
abbrev pub memory_after_reset : ℕ → Memory
memory_after_reset lines = record { medium = zeros lines; order = [] }

-- the memory after each call that changes it
abbrev pub memory_after_store : Memory → ℕ → ℕ → List ℕ → Memory
memory_after_store s line at bytes = put_over (with_back s (in_the_way s line at (length bytes))) line at bytes

abbrev pub memory_after_persist : Memory → ℕ → Memory
memory_after_persist s line = record { medium = persisted s.medium line; order = without line s.order }

abbrev pub memory_after_clear : Memory → ℕ → Memory
memory_after_clear s line = record { medium = cleared s.medium line; order = without line s.order }

abbrev pub memory_after_poison : Memory → ℕ → Memory
memory_after_poison s line = record { medium = poisoned s.medium line; order = without line s.order }

abbrev pub memory_after_weaken : Memory → ℕ → Memory
memory_after_weaken s line = record { medium = weakened s.medium line; order = without line s.order }

abbrev pub memory_after_install : Memory → ℕ → LineState → Memory
memory_after_install s line told = record { medium = installed s.medium line told; order = without line s.order }

-- the line is to be weak
abbrev pub is_told_weak : LineState → Bool
is_told_weak (Healthy bytes) = false
is_told_weak (Weak bytes) = true
is_told_weak Bad = false

-- so many of the oldest dirty lines are written back, all where there are fewer
abbrev pub memory_after_evict : Memory → ℕ → Memory
memory_after_evict s zero = s
memory_after_evict s (suc n) = memory_after_evict (with_back s (slice_get s.order 0)) n

-- each word of a line keeps one value
abbrev pub with_survivors : ℕ → Memory → ℕ → Choice → Memory
with_survivors unit s line choice = record {
  medium = record s.medium { history = on_line line (λ w h. survivor_of unit choice (8 * line + w) h) s.medium.history };
  order = without line s.order;
}

-- each word keeps one value, so that no line is dirty
abbrev pub memory_after_restart : ℕ → Memory → Choice → Memory
memory_after_restart unit s choice = record {
  medium = record s.medium { history = λ p. survivor_of unit choice p (s.medium.history p) };
  order = [];
}
