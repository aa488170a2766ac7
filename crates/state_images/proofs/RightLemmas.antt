-- A mount finds nothing wrong with superblock, block map and presence words of the image.
use Rattle.std.proofs.Common.{◌≡◌, ℕ, zero, suc, ◌+◌, ◌-◌, ◌*◌, ◌<◌, false, Option, Some, None, option_map, List, [], ◌∷◌, length, get_or, slice_get, refl, sym, ap, subst, ◌∙◌, arith}
use Rattle.std.specs.Option.{option_or}
use Rattle.std.proofs.lemmas.List.{length-map}
use Rattle.std.proofs.lemmas.Option.{slice_get_within}
use Rattle.word_tables.specs.declared.geometry.Geometry.{Geometry}
use Rattle.word_tables.specs.Bounds.{IsValid}
use Rattle.word_tables.specs.Layout.{block_log, first_line, presence, size, superblock, total_lines, volume_log}
use Rattle.word_tables.specs.Superblock.{IsSuperblock, geometry_of, superblock_word}
use Rattle.word_tables.specs.Words.{place, of_block}
use Rattle.word_log.specs.Replay.{Replays, replayed}
use Rattle.word_log.proofs.ReplayLemmas.{replays_closed}
use Rattle.block_map.specs.States.{IsMap, state_of}
use Rattle.block_map.specs.declared.state.BlockState.{BlockState}
use Rattle.block_map.specs.declared.state.BlockState.TheVariants.{At}
use Rattle.block_map.proofs.MapLemmas.{map_right}
use Rattle.nvm_model.specs.Page.{Page, is_present, presence_of}
use Rattle.nvm_model.specs.Page.Page.{Absent, Present}
use Rattle.nvm_model.specs.Storage.{Block, File}
use Rattle.nvm_model.specs.Storage.Block.{Absent as AbsentBlock, Scarred, Data}
use Rattle.nvm_model.proofs.NumberedLemmas.{length-list_from, slice_get-list_from}
use Rattle.block_device.specs.Area.{block_area}
use Rattle.block_device.specs.Mounting.{wrong_map, wrong_place}
use Rattle.block_device.specs.Reading.{states_read}
use Rattle.pm_volume.specs.Area.{volume_area}
use Rattle.pm_volume.specs.Presence.{presence_word, presence_words, wrong_volume_place}
use Rattle.pm_volume.proofs.StandingLemmas.{nothing_wrong}
use Rattle.state_images.specs.Cells.{block_word, map_word_of, page_word, presence_word_of}
use Rattle.state_images.specs.Images.{image_of}
use Rattle.state_images.specs.Storable.{AreStorableBlocks, IsStorableVolume}
use Rattle.state_images.proofs.BlockLemmas.{map-word, log_some as block-log_some}
use Rattle.state_images.proofs.VolumeLemmas.{log_some, words_enough}
use Rattle.state_images.proofs.WordLemmas.{gate-closed, table-word}

one_line : (geo : Geometry) → size geo superblock ≡ 1
unfolding size
one_line geo = refl

first : (geo : Geometry) → first_line geo superblock ≡ 0
unfolding first_line
first geo = refl

-- a block that is on a unit is on that of its number
own-unit : (b unit : ℕ) (o : Option Block) → state_of (block_word b o) ≡ At unit → unit ≡ b
own-unit b unit None is = cc
own-unit b unit (Some AbsentBlock) is = cc
own-unit b unit (Some Scarred) is = cc
own-unit b unit (Some (Data lines)) is =
    let word : b + 2 ≡ suc (suc b) = omega arith in
    let on : At b ≡ At unit = ap state_of (sym word) ∙ is in
    cc

word-of_page : (pages : List Page) (i : ℕ) → page_word (slice_get pages i) ≡ presence_word (get_or (presence_of pages) i false)
word-of_page [] i = refl
word-of_page (Absent ∷ pages) zero = refl
word-of_page (Present cells ∷ pages) zero = refl
word-of_page (page ∷ pages) (suc i) = word-of_page pages i

module _ (geo : Geometry) (blocks : List Block) (volume : List Page) (files : List File) where
  pub superblock-at : (w : ℕ) → w < 8 → (image_of geo blocks volume files).word w ≡ superblock_word geo w
  superblock-at w below =
      let at : w ≡ 8 * first_line geo superblock + w = omega (arith, first geo) in
      ap (image_of geo blocks volume files).word at ∙ table-word geo blocks volume files superblock (superblock_word geo) w refl (omega (arith, one_line geo))

  geometry-told : geometry_of (image_of geo blocks volume files).word ≡ geo
  geometry-told =
      let word : ℕ → ℕ = (image_of geo blocks volume files).word in
      ap (λ (n : ℕ). let g : Geometry = record { blocks = n; vpages = word 3; fpages = word 4 } in g) (superblock-at 2 (omega arith))
      ∙ ap (λ (n : ℕ). let g : Geometry = record { blocks = geo.blocks; vpages = n; fpages = word 4 } in g) (superblock-at 3 (omega arith))
      ∙ ap (λ (n : ℕ). let g : Geometry = record { blocks = geo.blocks; vpages = geo.vpages; fpages = n } in g) (superblock-at 4 (omega arith))

  pub superblock-right : IsValid geo → IsSuperblock (total_lines geo) (image_of geo blocks volume files).word
  superblock-right valid = record {
    valid = subst IsValid (sym geometry-told) valid;
    count = ap total_lines (sym geometry-told);
    words = λ w below. superblock-at w below ∙ ap (λ (g : Geometry). superblock_word g w) (sym geometry-told);
  }

  module _ (valid : IsValid geo) (storable : AreStorableBlocks geo blocks) where
    states-all : length (states_read geo (image_of geo blocks volume files).word) ≡ geo.blocks
    unfolding states_read
    states-all = length-list_from (λ b. state_of (replayed (block_area geo) (image_of geo blocks volume files).word (place geo (of_block b)))) 0 geo.blocks

    state-at : (b : ℕ) → b < geo.blocks → slice_get (states_read geo (image_of geo blocks volume files).word) b ≡ Some (state_of (map_word_of blocks b))
    unfolding states_read
    state-at b below =
        let f : ℕ → BlockState = λ b. state_of (replayed (block_area geo) (image_of geo blocks volume files).word (place geo (of_block b))) in
        let at : 0 + b ≡ b = omega arith in
        slice_get-list_from f 0 geo.blocks b below ∙ ap (λ k. Some (f k)) at ∙ ap (λ w. Some (state_of w)) (map-word geo blocks volume files valid storable b below)

    unit-own : (b unit : ℕ) → slice_get (states_read geo (image_of geo blocks volume files).word) b ≡ Some (At unit) → (b < geo.blocks) × (unit ≡ b)
    unit-own b unit is =
        let below : b < geo.blocks = omega (arith, slice_get_within (states_read geo (image_of geo blocks volume files).word) b (At unit) is, states-all) in
        let same : Some (state_of (map_word_of blocks b)) ≡ Some (At unit) = sym (state-at b below) ∙ is in
        (below, own-unit b unit (slice_get blocks b) cc)

    are-map : IsMap (states_read geo (image_of geo blocks volume files).word)
    are-map = record {
      within = λ b unit is. let own = unit-own b unit is in omega (arith, own.0, own.1, states-all);
      apart = λ a b unit is also. sym (unit-own a unit is).1 ∙ (unit-own b unit also).1;
    }

    pub map-right : wrong_place geo (image_of geo blocks volume files).word ≡ None
    map-right =
        let word : ℕ → ℕ = (image_of geo blocks volume files).word in
        let closed = replays_closed (block_area geo) word word (gate-closed geo blocks volume files block_log refl (block-log_some geo)) (λ p home. refl) in
        ap (λ o. option_or o (wrong_map geo word)) closed.valid
        ∙ ap (option_map (λ b. place geo (of_block b))) (map_right (states_read geo word) are-map)

  pub presence-right : IsStorableVolume geo volume → wrong_volume_place geo (image_of geo blocks volume files).word ≡ None
  presence-right storable =
      let word : ℕ → ℕ = (image_of geo blocks volume files).word in
      let start : ℕ = 8 * first_line geo presence in
      let there : Replays (volume_area geo) word (presence_words geo (presence_of volume)) =
      replays_closed (volume_area geo) word (presence_words geo (presence_of volume)) (gate-closed geo blocks volume files volume_log refl (log_some geo)) (λ p home.
      let at : p ≡ start + (p - start) = omega (arith, home) in
      let below : p - start < 8 * size geo presence = omega (arith, home, words_enough geo) in
      ap word at ∙ table-word geo blocks volume files presence (presence_word_of volume) (p - start) refl below ∙ word-of_page volume (p - start)) in
      nothing_wrong geo word (presence_of volume) (length-map volume is_present ∙ storable.all) there
