-- What the images that a cut may leave stand for.
use Rattle.std.specs.Prelude.{◌≡◌, ◌⊎◌, ◌/◌, ℕ, false, List, None}
use Rattle.line_device.specs.History.{IsTorn}
use Rattle.line_device.specs.Medium.{Medium}
use Rattle.word_tables.specs.declared.geometry.Geometry.{Geometry}
use Rattle.word_log.specs.Area.{IsOf}
use Rattle.word_log.specs.Held as held
use Rattle.word_log.specs.Replay.{Replays, first_wrong, replayed}
use Rattle.block_map.specs.States.{IsMap}
use Rattle.nvm_model.specs.Storage.{Block}
use Rattle.block_device.specs.Area.{block_area, IsBlockPlace}
use Rattle.block_device.specs.Reading.{states_read, blocks_read}
use Rattle.block_device.specs.Object.{AreDurable}

-- one value for each healthy word of log, map and units, such as a cut may leave them
abbrev pub IsBlockImage : Geometry → Medium → (ℕ → ℕ) → Type 0
IsBlockImage geo m image = (p : ℕ) → IsBlockPlace geo p → m.is_bad (p / 8) ≡ false → IsTorn (image p) (m.history p)

-- such an image has a valid log and a map, what it names is durable, and its blocks are like that
pub record ReadsAs (geo : Geometry) (m : Medium) (P : List Block → Type 0) (image : ℕ → ℕ) : Type 0 where
  pub log : first_wrong (block_area geo) image ≡ None
  pub map : IsMap (states_read geo image)
  pub durable : AreDurable geo m (states_read geo image)
  pub blocks : P (blocks_read geo m.is_bad image)

-- each image of the blocks reads so
abbrev pub EachReads : Geometry → Medium → (List Block → Type 0) → Type 0
EachReads geo m P = (image : ℕ → ℕ) → IsBlockImage geo m image → ReadsAs geo m P image

-- the one, or the other
abbrev pub IsEither : List Block → List Block → List Block → Type 0
IsEither one other blocks = held.IsEither one other blocks

-- each image is one of blocks
abbrev pub AreReadable : Geometry → Medium → Type 0
AreReadable geo m = EachReads geo m (λ blocks. Unit {0})

-- log and map have the same words, or the log was valid before, and both replay to the same
abbrev pub IsSameLog : Geometry → (ℕ → ℕ) → (ℕ → ℕ) → Type 0
IsSameLog geo before image =
    ((p : ℕ) → IsOf (block_area geo) p → image p ≡ before p)
    ⊎ (first_wrong (block_area geo) before ≡ None) × Replays (block_area geo) image (replayed (block_area geo) before)

-- An image of `new` came of an image of `old`: log and map are the same, or were replayed. Where those of that one are in
-- order, and what it names is durable, so it is with this one, and the blocks are the same.
pub record ReadsAsBefore (geo : Geometry) (old new : Medium) (image : ℕ → ℕ) : Type 0 where
  pub before : ℕ → ℕ
  pub was : IsBlockImage geo old before
  pub same : IsSameLog geo before image
  pub reads : ReadsAs geo old (λ blocks. Unit {0}) before → ReadsAs geo new (λ blocks. blocks ≡ blocks_read geo old.is_bad before) image

-- each image does
abbrev pub KeepsReads : Geometry → Medium → Medium → Type 0
KeepsReads geo old new = (image : ℕ → ℕ) → IsBlockImage geo new image → ReadsAsBefore geo old new image
