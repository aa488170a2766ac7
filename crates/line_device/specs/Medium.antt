-- The lines of a device, and what calls do to them. A word's place is 8 * line + word.
use Rattle.std.specs.Prelude.{◌≡◌, ◌↔◌, ◌+◌, ◌*◌, ◌/◌, ◌%◌, ◌<◌, ◌≤◌, ◌^◌, ◌==◌, not, ℕ, Bool, true, false, List, [], ◌∷◌, ◌++◌, ◌⊎◌, length, if◌then◌else◌, nat_lt, IsTrue, take}
use Rattle.line_device.specs.Word.{word_at, word_over, reaches}
use Rattle.line_device.specs.History.{latest, newest, IsIn, IsTorn, MayKeep, WordWritesBack}
use Rattle.line_device.specs.declared.line.LineState.{LineState}
use Rattle.line_device.specs.declared.line.LineState.TheVariants.{Healthy, Weak, Bad}
use Rattle.line_device.specs.declared.line.Choice.{Choice}
use Rattle.line_device.specs.declared.line.Choice.TheVariants.{Firsts, Lasts}

-- how many lines there are, which are bad or weak, and the history of each word; that of a bad line or past the end is []
pub record Medium : Type 0 where
  pub count : ℕ
  pub is_bad : ℕ → Bool
  pub is_weak : ℕ → Bool
  pub history : ℕ → List ℕ

-- the line is on the device and not bad
abbrev pub IsHealthy : Medium → ℕ → Type 0
IsHealthy m line = (line < m.count) × (m.is_bad line ≡ false)

-- What is true of every device: it is small enough that places don't overflow, a healthy word has a last value, and a
-- bad line has neither values nor a mark.
pub record IsSound (m : Medium) : Type 0 where
  pub small : m.count ≤ 2 ^ 57
  pub last : (p : ℕ) → IsHealthy m (p / 8) → IsIn (newest (m.history p)) (m.history p)
  pub lost : (p : ℕ) → m.is_bad (p / 8) ≡ true → m.history p ≡ []
  pub unmarked : (n : ℕ) → m.is_bad n ≡ true → m.is_weak n ≡ false

-- one value for each place, such as a cut may leave them, whether it keeps words whole or byte by byte
abbrev pub IsImage : Medium → (ℕ → ℕ) → Type 0
IsImage m image = (p : ℕ) → IsHealthy m (p / 8) → IsTorn (image p) (m.history p)

-- the image of all last values
abbrev pub last_image : Medium → ℕ → ℕ
last_image m p = newest (m.history p)

-- f with another value at n
abbrev pub with_at : {A : Type 0} → (ℕ → A) → ℕ → A → ℕ → A
with_at f n v k = if k == n then v else f k

-- the histories, those of one line changed by what is done to each word of it
abbrev pub on_line : ℕ → (ℕ → List ℕ → List ℕ) → (ℕ → List ℕ) → ℕ → List ℕ
on_line line change history p = if p / 8 == line then change (p % 8) (history p) else history p

-- What a call leaves of the lines beside its effect: the cache may write back, and values between may be forgotten.
pub record WritesBack (old new : Medium) : Type 0 where
  pub count : new.count ≡ old.count
  pub bad : (n : ℕ) → new.is_bad n ≡ old.is_bad n
  pub weak : (n : ℕ) → new.is_weak n ≡ old.is_weak n
  pub word_write_back : (p : ℕ) → WordWritesBack (old.is_weak (p / 8)) (old.history p) (new.history p)

-- a word that the stored bytes reach has one value more
abbrev pub word_stored : ℕ → List ℕ → ℕ → List ℕ → List ℕ
word_stored at bytes w old = if reaches at (length bytes) w then old ++ word_over at bytes w (newest old) ∷ [] else old

-- bytes put at an offset of a line
abbrev pub stored : Medium → ℕ → ℕ → List ℕ → Medium
stored m line at bytes = record m { history = on_line line (word_stored at bytes) m.history }

-- a line with these marks and these values of its words, whatever it was
abbrev pub renewed : Medium → ℕ → Bool → Bool → (ℕ → List ℕ) → Medium
renewed m line bad weak words =
    record m { is_bad = with_at m.is_bad line bad; is_weak = with_at m.is_weak line weak; history = on_line line (λ w _. words w) m.history }

-- the line is lost
abbrev pub poisoned : Medium → ℕ → Medium
poisoned m line = renewed m line true false (λ _. [])

-- what the line's words have is durable
abbrev pub flushed : Medium → ℕ → Medium
flushed m line = record m { history = on_line line (λ _ old. latest old) m.history }

-- a persist: a weak line does not survive it
abbrev pub persisted : Medium → ℕ → Medium
persisted m line = if m.is_weak line then poisoned m line else flushed m line

-- a line of zeros, healthy and durable
abbrev pub cleared : Medium → ℕ → Medium
cleared m line = renewed m line false false (λ _. 0 ∷ [])

-- A line is weak from now on, if it is healthy. Before it is, it may be written back, so but for the mark the lines are only written back.
pub record Weakens (line : ℕ) (old new : Medium) : Type 0 where
  pub marks : (n : ℕ) → new.is_weak n ≡ with_at old.is_weak line (not (old.is_bad line)) n
  pub write_back : WritesBack old (record new { is_weak = old.is_weak })

-- this many lines of zeros
abbrev pub zeros : ℕ → Medium
zeros count = record {
  count = count;
  is_bad = λ _. false;
  is_weak = λ _. false;
  history = λ p. if nat_lt (p / 8) count then 0 ∷ [] else [];
}

-- the line is as given, and durable
abbrev pub installed : Medium → ℕ → LineState → Medium
installed m line (Healthy bytes) = renewed m line false false (λ w. word_at bytes w ∷ [])
installed m line (Weak bytes) = renewed m line false true (λ w. word_at bytes w ∷ [])
installed m line Bad = poisoned m line

-- a load of the line gives these bytes
pub record IsLine (m : Medium) (line : ℕ) (bytes : List ℕ) : Type 0 where
  pub length : length bytes ≡ 64
  pub words : (w : ℕ) → w < 8 → newest (m.history (8 * line + w)) ≡ word_at bytes w

-- the line's mark, and its bytes where it has any
abbrev pub Shows : Medium → ℕ → LineState → Type 0
Shows m line (Healthy bytes) = (m.is_bad line ≡ false) × (m.is_weak line ≡ false) × IsLine m line bytes
Shows m line (Weak bytes) = (m.is_bad line ≡ false) × (m.is_weak line ≡ true) × IsLine m line bytes
Shows m line Bad = m.is_bad line ≡ true

-- A word after the power came back: what the device's unit may keep of it. Where first values were asked for it is one of its values on any
-- unit, in a weak line the first; where last ones were asked for it is the last.
pub record Survives (unit : ℕ) (choice : Choice) (weak : Bool) (old new : List ℕ) (value : ℕ) : Type 0 where
  pub one : new ≡ value ∷ []
  pub was : MayKeep unit value old
  pub last : choice ≡ Lasts → value ≡ newest old
  pub whole : choice ≡ Firsts → IsIn value old
  pub first : choice ≡ Firsts → IsTrue weak → take 1 old ≡ value ∷ []

-- each healthy word has one of its values, and marks stay
pub record Survivors (unit : ℕ) (choice : Choice) (old new : Medium) : Type 0 where
  pub count : new.count ≡ old.count
  pub bad : (n : ℕ) → new.is_bad n ≡ old.is_bad n
  pub weak : (n : ℕ) → new.is_weak n ≡ old.is_weak n
  pub lost : (p : ℕ) → old.history p ≡ [] → new.history p ≡ []
  pub words : (p : ℕ) → IsHealthy old (p / 8) → (value : ℕ) × Survives unit choice (old.is_weak (p / 8)) (old.history p) (new.history p) value

-- what a restart that was refused may leave of a word: its values, or one of them
pub record Waits (unit : ℕ) (old new : Medium) : Type 0 where
  pub count : new.count ≡ old.count
  pub bad : (n : ℕ) → new.is_bad n ≡ old.is_bad n
  pub weak : (n : ℕ) → new.is_weak n ≡ old.is_weak n
  pub words : (p : ℕ) → WordWritesBack (old.is_weak (p / 8)) (old.history p) (new.history p)
      ⊎ ((value : ℕ) × MayKeep unit value (old.history p) × (new.history p ≡ value ∷ []))

-- what an effect may leave of the lines, is also what it may leave of lines that were written back before it
abbrev pub IsBetweenWriteBacks : (Medium → Medium) → Type 0
IsBetweenWriteBacks effect = (old new : Medium) → WritesBack (effect old) new ↔ ((between : Medium) × WritesBack old between × WritesBack (effect between) new)
