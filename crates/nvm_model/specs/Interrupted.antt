-- What an interrupted action may leave of pages.
use Rattle.std.specs.Prelude.{◌≡◌, ◌⊎◌, ◌*◌, ℕ, Bool, true, false, List, [], ◌∷◌, length, replicate, Option, Some, None}
use Rattle.nvm_base.specs.declared.units.Span.{Span}
use Rattle.line_device.specs.Medium.{word_stored}
use Rattle.nvm_model.specs.Numbered.{map_from, AreMixed}
use Rattle.nvm_model.specs.Cell.{Cell, covers, persist_cell}
use Rattle.nvm_model.specs.Cell.Cell.{Bad, Kept}
use Rattle.nvm_model.specs.Page.{Page, cell_of, fill, presence_of}
use Rattle.nvm_model.specs.Touched.{persist_touched}

-- a line of these words, some of which have what was put there
abbrev pub HasSome : ℕ → List ℕ → ℕ → Bool → List (List ℕ) → Cell → Type 0
HasSome at bytes n weak words Bad = ⊥
HasSome at bytes n weak words (Kept mark mixed) = (mark ≡ weak) × AreMixed (List ℕ) words (map_from (word_stored at bytes) (8 * n) words) mixed

-- what may be left of line n in a put: some of its words are put, and a bad line that is covered is bad still, or was made zeros before
abbrev pub MayPut : ℕ → List ℕ → ℕ → Cell → Cell → Type 0
MayPut at bytes n Bad new = (new ≡ Bad) ⊎ ((covers at (length bytes) n ≡ true) × HasSome at bytes n false (replicate 8 (0 ∷ [])) new)
MayPut at bytes n (Kept weak words) new = HasSome at bytes n weak words new

-- what may be left of line n as it is made durable: it is, or it is as before
abbrev pub MayPersist : ℕ → ℕ → ℕ → Cell → Cell → Type 0
MayPersist start len n old new = (new ≡ old) ⊎ (new ≡ persist_cell start len n old)

-- each line that is there became what R says, and no other is there
abbrev pub Became : (Cell → Cell → Type 0) → Option Cell → Option Cell → Type 0
Became R None None = Unit {0}
Became R None (Some new) = ⊥
Became R (Some old) None = ⊥
Became R (Some old) (Some new) = R old new

-- the same pages are there, and each line of them became what R says
pub record LineByLine (R : ℕ → Cell → Cell → Type 0) (old new : List Page) : Type 0 where
  pub there : presence_of new ≡ presence_of old
  pub each : (n : ℕ) → Became (R n) (cell_of old n) (cell_of new n)

-- what an interrupted store may leave: all as before; or its pages are filled, and its lines put in part
abbrev pub MayStore : ℕ → List ℕ → List Page → List Page → Type 0
MayStore at bytes old new = (new ≡ old) ⊎ LineByLine (MayPut at bytes) (fill at (length bytes) old) new

-- what an interrupted sync may leave
abbrev pub MaySync : ℕ → ℕ → List Page → List Page → Type 0
MaySync start len = LineByLine (MayPersist start len)

-- and of one over several spans
abbrev pub MayPersistTouched : List Span → ℕ → Cell → Cell → Type 0
MayPersistTouched spans n old new = (new ≡ old) ⊎ (new ≡ persist_touched spans n old)

abbrev pub MaySyncAll : List Span → List Page → List Page → Type 0
MaySyncAll spans = LineByLine (MayPersistTouched spans)
