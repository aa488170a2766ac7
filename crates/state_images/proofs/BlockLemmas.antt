-- The blocks in the image.
use Rattle.std.proofs.Common.{◌≡◌, ℕ, zero, suc, ◌+◌, ◌*◌, ◌/◌, ◌%◌, ◌<◌, Bool, Option, Some, None, if◌then◌else◌, option_map, List, [], ◌∷◌, length, map, get_or, slice_get, refl, sym, ap, ap₂, subst, ◌∙◌, arith}
use Rattle.std.specs.Int.{byte_at}
use Rattle.std.proofs.lemmas.List.{length-map, same_lists}
use Rattle.std.proofs.lemmas.Option.{get_or_from_slice_get, slice_get-map}
use Rattle.line_device.specs.Word.{word_at}
use Rattle.line_device.proofs.WordLemmas.{byte_at-word_from}
use Rattle.word_tables.specs.declared.geometry.Geometry.{Geometry}
use Rattle.word_tables.specs.Bounds.{IsValid}
use Rattle.word_tables.specs.Layout.{block_line, block_log, block_map, first_line, size, total_lines, blocks as block_area_name}
use Rattle.word_tables.specs.Words.{place, of_block}
use Rattle.word_log.specs.Replay.{replayed}
use Rattle.block_map.specs.States.{state_of}
use Rattle.nvm_model.specs.Cell.{Cell}
use Rattle.nvm_model.specs.Numbered.{list_from}
use Rattle.nvm_model.specs.Page.{Page}
use Rattle.nvm_model.specs.Storage.{Block, File}
use Rattle.nvm_model.specs.Storage.Block.{Absent, Scarred, Data}
use Rattle.nvm_model.proofs.NumberedLemmas.{length-list_from, slice_get-list_from}
use Rattle.block_device.specs.Area.{block_area}
use Rattle.block_device.specs.Reading.{block_read, blocks_read, byte_of, line_read, states_read}
use Rattle.state_images.specs.Cells.{block_word, line_in_block, line_of_blocks, line_of_bytes, map_word_of}
use Rattle.state_images.specs.Images.{image_of, line_of}
use Rattle.state_images.specs.Lines.{image_of_lines, shown_bad, shown_word, words_line}
use Rattle.state_images.specs.Storable.{AreBytes, AreLinesOfBytes, AreStorableBlocks, AreWholeBlocks, IsLineOfBytes, IsWholeBlock}
use Rattle.state_images.proofs.CellLemmas.{same_items, some_item, word-at, word-in, words_line-good}
use Rattle.state_images.proofs.LaidLemmas.{area-at}
use Rattle.state_images.proofs.WordLemmas.{gate-closed, replayed-closed, table-word}

pub small-byte : (bytes : List ℕ) (k : ℕ) → AreBytes bytes → get_or bytes k 0 < 256
small-byte [] k all = omega arith
small-byte (byte ∷ bytes) zero all = all.0
small-byte (byte ∷ bytes) (suc k) all = small-byte bytes k all.1

pub block-whole : (blocks : List Block) (b : ℕ) (block : Block) → AreWholeBlocks blocks → slice_get blocks b ≡ Some block → IsWholeBlock block
block-whole [] b block all is = cc
block-whole (first ∷ blocks) zero block all is = let same : first ≡ block = cc in subst IsWholeBlock same all.0
block-whole (first ∷ blocks) (suc b) block all is = block-whole blocks b block all.1 is

pub line-whole : (lines : List (Option (List ℕ))) (i : ℕ) (line : Option (List ℕ)) → AreLinesOfBytes lines → slice_get lines i ≡ Some line → IsLineOfBytes line
line-whole [] i line all is = cc
line-whole (first ∷ lines) zero line all is = let same : first ≡ line = cc in subst IsLineOfBytes same all.0
line-whole (first ∷ lines) (suc i) line all is = line-whole lines i line all.1 is

-- a line of bytes reads as these
module _ (count : ℕ) (line : ℕ → Cell) (n : ℕ) where
  byte-read : (bytes : List ℕ) (k : ℕ) → line n ≡ words_line (word_at bytes) 0 → AreBytes bytes → k < 64
      → byte_of (image_of_lines count line).word (64 * n + k) ≡ get_or bytes k 0
  byte-read bytes k is all below =
      let word : ℕ → ℕ = (image_of_lines count line).word in
      let rest : (64 * n + k) % 8 ≡ k % 8 = omega arith in
      let at : (64 * n + k) / 8 ≡ 8 * n + k / 8 = omega arith in
      let own : 8 * 0 + k / 8 ≡ k / 8 = omega arith in
      let back : 8 * (k / 8) + k % 8 ≡ k = omega arith in
      ap₂ (λ (r p : ℕ). byte_at r (word p)) rest at
      ∙ ap (byte_at (k % 8))
      (word-at count line n (k / 8) (omega arith) ∙ ap (λ c. shown_word c (k / 8)) is ∙ word-in (word_at bytes) 0 (k / 8) (omega arith) ∙ ap (word_at bytes) own)
      ∙ byte_at-word_from (λ j. get_or bytes (8 * (k / 8) + j) 0) (k % 8) (λ j low. small-byte bytes (8 * (k / 8) + j) all) (omega arith)
      ∙ ap (λ j. get_or bytes j 0) back

  bytes-read : (bytes : List ℕ) → line n ≡ words_line (word_at bytes) 0 → length bytes ≡ 64 → AreBytes bytes
      → list_from (byte_of (image_of_lines count line).word) (64 * n) 64 ≡ bytes
  bytes-read bytes is all small =
      same_lists _ bytes (length-list_from (byte_of (image_of_lines count line).word) (64 * n) 64 ∙ sym all) (λ k d low.
      let below : k < 64 = omega (arith, low, length-list_from (byte_of (image_of_lines count line).word) (64 * n) 64) in
      get_or_from_slice_get (list_from (byte_of (image_of_lines count line).word) (64 * n) 64) k (byte_of (image_of_lines count line).word (64 * n + k)) d
      (slice_get-list_from (byte_of (image_of_lines count line).word) (64 * n) 64 k below)
      ∙ byte-read bytes k is small below
      ∙ other_default bytes k d (omega arith))
    where
      other_default : (xs : List ℕ) (k d : ℕ) → k < length xs → get_or xs k 0 ≡ get_or xs k d
      other_default [] k d low = absurd (omega arith)
      other_default (x ∷ xs) zero d low = refl
      other_default (x ∷ xs) (suc k) d low = other_default xs k d (omega arith)

  line-read : (o : Option (List ℕ)) → line n ≡ line_of_bytes o → IsLineOfBytes o → line_read (image_of_lines count line).is_bad (image_of_lines count line).word n ≡ o
  line-read None is whole = ap (λ b. if b then None else Some (list_from (byte_of (image_of_lines count line).word) (64 * n) 64)) (ap shown_bad is)
  line-read (Some bytes) is whole =
      ap (λ b. if b then None else Some (list_from (byte_of (image_of_lines count line).word) (64 * n) 64)) (ap shown_bad is ∙ words_line-good (word_at bytes) 0)
      ∙ ap Some (bytes-read bytes is whole.0 whole.1)

units_enough : (geo : Geometry) → size geo block_area_name ≡ 8 * (geo.blocks + 64)
unfolding size
units_enough geo = refl

words_enough : (geo : Geometry) → IsValid geo → 8 * size geo block_map ≡ geo.blocks
unfolding size
words_enough geo valid = omega arith

pub log_some : (geo : Geometry) → 0 < size geo block_log
unfolding size
log_some geo = omega arith

module _ (geo : Geometry) (blocks : List Block) (volume : List Page) (files : List File) where
  -- a line of the unit of a block
  unit-line : (b i : ℕ) → b < geo.blocks → i < 8 → line_of geo blocks volume files (block_line geo b + i) ≡ line_in_block (slice_get blocks b) i
  unit-line b i below small =
      let at : first_line geo block_area_name + 8 * b + i ≡ first_line geo block_area_name + (8 * b + i) = omega arith in
      let unit : (8 * b + i) / 8 ≡ b = omega arith in
      let rest : (8 * b + i) % 8 ≡ i = omega arith in
      ap (line_of geo blocks volume files) at
      ∙ area-at geo blocks volume files block_area_name (line_of_blocks blocks) (8 * b + i) refl (omega (arith, units_enough geo))
      ∙ ap₂ (λ (u l : ℕ). line_in_block (slice_get blocks u) l) unit rest

  module _ (valid : IsValid geo) (storable : AreStorableBlocks geo blocks) where
    pub map-word : (b : ℕ) → b < geo.blocks → replayed (block_area geo) (image_of geo blocks volume files).word (place geo (of_block b)) ≡ map_word_of blocks b
    map-word b below =
        replayed-closed (block_area geo) (image_of geo blocks volume files).word (place geo (of_block b)) (gate-closed geo blocks volume files block_log refl (log_some geo))
        ∙ table-word geo blocks volume files block_map (map_word_of blocks) b refl (omega (arith, words_enough geo valid))

    -- the lines of a block
    lines-read : (b : ℕ) (lines : List (Option (List ℕ))) → b < geo.blocks → slice_get blocks b ≡ Some (Data lines)
        → list_from (line_read (image_of geo blocks volume files).is_bad (image_of geo blocks volume files).word) (block_line geo b) 8 ≡ lines
    lines-read b lines below is =
        let f : ℕ → Option (List ℕ) = line_read (image_of geo blocks volume files).is_bad (image_of geo blocks volume files).word in
        let whole : IsWholeBlock (Data lines) = block-whole blocks b (Data lines) storable.whole is in
        same_items (list_from f (block_line geo b) 8) lines (length-list_from f (block_line geo b) 8 ∙ sym whole.0) (λ k low.
        let small : k < 8 = omega (arith, low, length-list_from f (block_line geo b) 8) in
        slice_get-list_from f (block_line geo b) 8 k small ∙ by_line k small whole (slice_get lines k) refl)
      where
        by_line : (k : ℕ) → k < 8 → IsWholeBlock (Data lines) → (o : Option (Option (List ℕ))) → slice_get lines k ≡ o
            → Some (line_read (image_of geo blocks volume files).is_bad (image_of geo blocks volume files).word (block_line geo b + k)) ≡ o
        by_line k small whole None none = absurd (some_item lines k (omega (arith, whole.0)) none)
        by_line k small whole (Some line) here =
            ap Some
            (line-read (total_lines geo) (line_of geo blocks volume files) (block_line geo b + k) line
            (unit-line b k below small ∙ ap (λ o. line_in_block o k) is ∙ ap line_of_bytes (get_or_from_slice_get lines k line (Some []) here))
            (line-whole lines k line whole.1 here))

    block-is : (b : ℕ) (o : Option Block) → b < geo.blocks → slice_get blocks b ≡ o
        → Some (block_read geo (image_of geo blocks volume files).is_bad (image_of geo blocks volume files).word (state_of (block_word b o))) ≡ o
    block-is b None below is = absurd (some_item blocks b (omega (arith, storable.all)) is)
    block-is b (Some Absent) below is = refl
    block-is b (Some Scarred) below is = refl
    block-is b (Some (Data lines)) below is =
        let word : b + 2 ≡ suc (suc b) = omega arith in
        ap (λ (w : ℕ). Some (block_read geo (image_of geo blocks volume files).is_bad (image_of geo blocks volume files).word (state_of w))) word
        ∙ ap (λ (ls : List (Option (List ℕ))). Some (Data ls)) (lines-read b lines below is)

    pub blocks-are : blocks_read geo (image_of geo blocks volume files).is_bad (image_of geo blocks volume files).word ≡ blocks
    unfolding blocks_read states_read
    blocks-are =
        let bad : ℕ → Bool = (image_of geo blocks volume files).is_bad in
        let word : ℕ → ℕ = (image_of geo blocks volume files).word in
        let states : ℕ → _ = λ b. state_of (replayed (block_area geo) word (place geo (of_block b))) in
        let size_read : length (map (block_read geo bad word) (list_from states 0 geo.blocks)) ≡ geo.blocks = length-map (list_from states 0 geo.blocks) (block_read geo bad word) ∙ length-list_from states 0 geo.blocks in
        same_items (map (block_read geo bad word) (list_from states 0 geo.blocks)) blocks (size_read ∙ sym storable.all) (λ k low.
        let below : k < geo.blocks = omega (arith, low, size_read) in
        let at : 0 + k ≡ k = omega arith in
        slice_get-map (block_read geo bad word) (list_from states 0 geo.blocks) k
        ∙ ap (option_map (block_read geo bad word)) (slice_get-list_from states 0 geo.blocks k below ∙ ap (λ j. Some (states j)) at)
        ∙ ap (λ w. Some (block_read geo bad word (state_of w))) (map-word k below)
        ∙ block-is k (slice_get blocks k) below refl)
