-- What a mount of the blocks' log and a look at their map give.
use Rattle.std.proofs.Common.{◌≡◌, ℕ, zero, suc, ◌+◌, ◌-◌, ◌*◌, ◌/◌, ◌%◌, ◌<◌, List, [], ◌∷◌, length, get_or, map, None, Result, Ok, Err, IfOk, refl, sym, ◌∙◌, ap, ap₂, subst, arith}
use Rattle.line_device.specs.Medium.{Medium, last_image}
use Rattle.nvm_base.proofs.FirstLemmas.{not_mapped}
use Rattle.word_tables.specs.declared.geometry.Geometry.{Geometry}
use Rattle.word_tables.specs.Bounds.{IsValid}
use Rattle.word_tables.specs.Layout.{block_log, block_map, first_line, meta_lines, size, total_lines}
use Rattle.word_tables.specs.Words.{place, of_block}
use Rattle.word_log.specs.declared.area.LogArea.{LogArea}
use Rattle.word_log.specs.Area.{AreHomeWords, IsHome}
use Rattle.word_log.specs.Replay.{replayed}
use Rattle.word_log.proofs.FindingLemmas.{IsRead, runs_of}
use Rattle.word_log.proofs.HeldLemmas.{rest-then}
use Rattle.block_map.specs.declared.state.BlockState.{BlockState}
use Rattle.block_map.specs.declared.state.BlockState.TheVariants.{Absent}
use Rattle.block_map.specs.States.{IsMap, state_of, word_of}
use Rattle.block_map.specs.Wrong as table
use Rattle.block_map.proofs.MapLemmas.{word_of-state_of, is_map as map_right_words}
use Rattle.nvm_model.specs.Numbered.{list_from}
use Rattle.nvm_model.proofs.NumberedLemmas.{list_from-is}
use Rattle.block_device.specs.Area.{block_area}
use Rattle.block_device.specs.Object.{BlocksState, BlocksServe, AreDurable, HasStrongMetadata, blocks_of, map_words}
use Rattle.block_device.specs.Reading.{map_read, states_read, blocks_read}
use Rattle.block_device.specs.Mounting.{FindsMap, wrong_map_word}
use Rattle.block_device.specs.declared.fault.MountFault.{MountFault}
use Rattle.line_device.specs.Panel.{Outcome, Panel, Runs}
use Rattle.line_device.proofs.PanelLemmas.{runs_within}
use Rattle.block_device.proofs.ReadLemmas.{IsNamed, map_read-outside, durable-outside}
use Rattle.block_device.proofs.PlaceLemmas.{data_behind_metadata, named_is_data}
use Rattle.block_device.proofs.PositionLemmas.{get_or-list_from}
use Rattle.block_device.proofs.ImageLemmas.{state_of-word_of, map_words-at}
use Rattle.block_device.proofs.FrameLemmas.{length-states_read}

-- a map is known by its words
map_back : (states : List BlockState) → map state_of (map word_of states) ≡ states
map_back [] = refl
map_back (s ∷ ss) = ap₂ ◌∷◌ (state_of-word_of s) (map_back ss)

pub states_same : (a b : List BlockState) → map word_of a ≡ map word_of b → a ≡ b
states_same a b same = sym (map_back a) ∙ ap (map state_of) same ∙ map_back b

words_from : (f : ℕ → ℕ) (n count : ℕ) → map word_of (list_from (λ b. state_of (f b)) n count) ≡ list_from f n count
words_from f n zero = refl
words_from f n (suc count) = ap₂ ◌∷◌ (word_of-state_of (f n)) (words_from f (suc n) count)

-- the words that the log replays to
after : Geometry → Medium → ℕ → ℕ
after geo old b = replayed (block_area geo) (last_image old) (place geo (of_block b))

map_of_words : (geo : Geometry) (old : Medium) → map word_of (states_read geo (last_image old)) ≡ list_from (after geo old) 0 geo.blocks
unfolding states_read after
map_of_words geo old = words_from (after geo old) 0 geo.blocks

-- the words that the log's mount tells are those of the map
pub mounted_words : (geo : Geometry) (old : Medium) (words : List ℕ) → AreHomeWords (block_area geo) (replayed (block_area geo) (last_image old)) words → words ≡ map word_of (states_read geo (last_image old))
unfolding after
mounted_words geo old words are =
    list_from-is (after geo old) 0 words (λ k below.
    let at : 8 * first_line geo block_map + k ≡ place geo (of_block (0 + k)) = omega arith in
    are.each k (omega (arith, below, are.all)) ∙ ap (replayed (block_area geo) (last_image old)) at)
    ∙ ap (list_from (after geo old) 0) are.all
    ∙ sym (map_of_words geo old)

-- a lookup in the map
state_at : (geo : Geometry) (old : Medium) (b : ℕ) → b < geo.blocks → word_of (get_or (states_read geo (last_image old)) b Absent) ≡ after geo old b
unfolding states_read after
state_at geo old b below =
    let at : 0 + b ≡ b = omega arith in
    ap word_of (get_or-list_from (λ k. state_of (after geo old k)) 0 geo.blocks b Absent below) ∙ word_of-state_of (after geo old (0 + b)) ∙ ap (after geo old) at

-- a map whose words are right
pub map_from_right : (states : List BlockState) (words : List ℕ) → map word_of states ≡ words → table.first_wrong_entry words ≡ None → IsMap states
map_from_right states words is right = subst IsMap (ap (map state_of) (sym is) ∙ map_back states) (map_right_words words right)

-- A mount of the log, where only words of the metadata are changed.
module _ (geo : Geometry) (valid : IsValid geo) (inside : ℕ → Type 0) (in_meta : (p : ℕ) → inside p → p / 8 < meta_lines geo) (old mid : Medium) (words : List ℕ) (read : IsRead (block_area geo) inside old mid words) where
  home_word : (states : List BlockState) → states ≡ states_read geo (last_image old) → (p : ℕ) → IsHome (block_area geo) p → replayed (block_area geo) (last_image old) p ≡ map_words geo states p
  unfolding after
  home_word states is p in_home =
      let b : ℕ = p - 8 * first_line geo block_map in
      let at : place geo (of_block b) ≡ p = omega (arith, in_home) in
      let below : b < geo.blocks = omega (arith, in_home) in
      sym
      (ap (map_words geo states) (sym at)
      ∙ map_words-at geo states b
      ∙ ap (λ (ss : List BlockState). word_of (get_or ss b Absent)) is
      ∙ state_at geo old b below
      ∙ ap (replayed (block_area geo) (last_image old)) at)

  -- a map of these words
  module _ (states : List BlockState) (is : states ≡ states_read geo (last_image old)) (is_map : IsMap states) where
    all : length states ≡ geo.blocks
    all = ap length is ∙ length-states_read geo (last_image old)

    apart : (p : ℕ) → IsNamed geo states (p / 8) → inside p → ⊥
    apart p named of =
        let behind = data_behind_metadata geo valid (p / 8) (named_is_data geo valid states (p / 8) all is_map named) in
        let meta = in_meta p of in
        omega arith

    -- the blocks are those of the last image
    mounted_reads : map_read geo mid.is_bad (last_image mid) states ≡ blocks_read geo old.is_bad (last_image old)
    unfolding blocks_read
    mounted_reads = map_read-outside geo states old mid inside read.outside apart ∙ ap (map_read geo old.is_bad (last_image old)) is

    -- what the map names is durable, if it was before
    mounted_serves : (s : BlocksState) → s.geo ≡ geo → s.map ≡ states → old.count ≡ total_lines geo → HasStrongMetadata geo old → AreDurable geo old (states_read geo (last_image old)) → BlocksServe s mid
    mounted_serves s geo_is map_is count strong durable =
        let serves : BlocksServe (record s { geo = geo; map = states }) mid =
        record {
          valid = valid;
          all = all;
          is_map = is_map;
          count = read.outside.count ∙ count;
          strong = λ n below. read.outside.weak n ∙ strong n below;
          rest = rest-then (block_area geo) mid (replayed (block_area geo) (last_image old)) (map_words geo states) (home_word states is) read.rest;
          durable = durable-outside geo states old mid inside read.outside apart (subst (AreDurable geo old) (sym is) durable);
        } in
        subst (λ g. BlocksServe (record s { geo = g }) mid) (sym geo_is) (subst (λ ss. BlocksServe (record s { geo = geo; map = ss }) mid) (sym map_is)
        (record { valid = serves.valid; all = serves.all; is_map = serves.is_map; count = serves.count; strong = serves.strong; rest = serves.rest; durable = serves.durable }))

  -- what is made of them
  same_states : (map_is : List BlockState) → map word_of map_is ≡ words → map_is ≡ states_read geo (last_image old)
  same_states map_is made = states_same map_is (states_read geo (last_image old)) (made ∙ mounted_words geo old words read.words)

  right_states : (map_is : List BlockState) → map word_of map_is ≡ words → wrong_map_word geo words ≡ None → IsMap map_is
  right_states map_is made right = map_from_right map_is words made (not_mapped (λ b. place geo (of_block b)) (table.first_wrong_entry words) right)

  pub judged_reads : (r : Result BlocksState MountFault) → IfOk r (λ b. (b.geo ≡ geo) × (map word_of b.map ≡ words)) → FindsMap geo words r → IfOk r (λ b. (b.geo ≡ geo) × (blocks_of b mid ≡ blocks_read geo old.is_bad (last_image old)))
  judged_reads (Ok b) made right = (
    made.0,
    ap (λ g. map_read g mid.is_bad (last_image mid) b.map) made.0 ∙ mounted_reads b.map (same_states b.map made.1) (right_states b.map made.1 right),
  )
  judged_reads (Err f) made right = tt

  pub judged_serves : (r : Result BlocksState MountFault) → old.count ≡ total_lines geo → HasStrongMetadata geo old → IfOk r (λ b. (b.geo ≡ geo) × (map word_of b.map ≡ words)) → FindsMap geo words r → IfOk r (λ b. AreDurable geo old (states_read geo (last_image old)) → BlocksServe b mid)
  judged_serves (Ok b) count strong made right = λ durable. mounted_serves b.map (same_states b.map made.1) (right_states b.map made.1 right) b made.0 refl count strong durable
  judged_serves (Err f) count strong made right = tt

-- calls of the log's mount with its loads
pub mounted_runs : (geo : Geometry) (a : LogArea) (e f : Outcome) (p q : Panel) → geo.blocks % 8 ≡ 0 → a ≡ block_area geo → f ≡ e → Runs (a.log.len + a.home.len / 8 + 4 * a.cap + 6 + (a.home.len + 7) / 8) (a.log.len + a.home.len / 8 + a.cap + 3) f p q → Runs (geo.blocks / 4 + 279) (geo.blocks / 8 + 84) e p q
unfolding size
mounted_runs geo a e f p q whole is ended x =
    let same : Runs (size geo block_log + geo.blocks / 8 + 4 * 64 + 6 + (geo.blocks + 7) / 8) (size geo block_log + geo.blocks / 8 + 64 + 3) e p q = runs_of a (block_area geo) is e f p q ended x in
    runs_within _ _ (geo.blocks / 4 + 279) (geo.blocks / 8 + 84) e p q same (omega arith) (omega arith)
