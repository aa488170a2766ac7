-- A commit of the words of changes, and the map that it leaves.
use Rattle.std.proofs.Common.{◌≡◌, inl, inr, ℕ, false, ◌||◌, ◌==◌, ◌-◌, ◌*◌, ◌/◌, ◌<◌, ◌≤◌, List, [], ◌∷◌, length, set, if◌then◌else◌, IsTrue, refl, sym, ◌∙◌, ap, subst, arith, get_or-set_same, get_or-set_other}
use Rattle.std.proofs.lemmas.Bool.{cases_eq, eq-eqb, ne_eqb, both_ways}
use Rattle.std.proofs.lemmas.List.{length-map}
use Rattle.line_device.specs.Medium.{Medium, last_image}
use Rattle.line_device.specs.Panel.{Panel}
use Rattle.line_words.specs.Words.{WritesBackOutside}
use Rattle.word_tables.specs.declared.geometry.Geometry.{Geometry}
use Rattle.word_tables.specs.Bounds.{IsValid}
use Rattle.word_tables.specs.Layout.{block_map, first_line}
use Rattle.word_tables.specs.Words.{place, of_block}
use Rattle.word_log.specs.declared.area.LogArea.{LogArea}
use Rattle.word_log.specs.Area.{IsOf, IsHome, IsUsable, IsWhole, IsStrong, Fits}
use Rattle.word_log.specs.Changes.{changed, lists, IsDistinct, MayCommit}
use Rattle.word_log.specs.Replay.{Replays}
use Rattle.word_log.proofs.ChangeLemmas.{changed-cong, changed-unlisted}
use Rattle.word_log.proofs.FrameLemmas.{whole-outside}
use Rattle.word_log.proofs.HeldLemmas.{ChangesImages, ChangesRest, words-images, words-rest}
use Rattle.block_map.specs.declared.state.BlockState.{BlockState}
use Rattle.block_map.specs.declared.state.BlockState.TheVariants.{Absent}
use Rattle.block_map.specs.States.{IsMap, word_of}
use Rattle.block_device.specs.declared.change.Change.{Change}
use Rattle.block_device.specs.Area.{block_area}
use Rattle.block_device.specs.Reading.{map_read}
use Rattle.block_device.specs.Object.{BlocksState, IsKept, BlocksServe, AreDurable, HasGoodMetadata, map_words}
use Rattle.block_device.specs.Changes.{changed_map, names, MayChange, word_changes}
use Rattle.block_device.specs.Prepared.{ArePrepared}
use Rattle.block_device.specs.Images.{IsBlockImage, ReadsAs, EachReads, IsEither}
use Rattle.block_device.proofs.ReadLemmas.{IsNamed, map_read-outside, durable-outside}
use Rattle.block_device.proofs.PlaceLemmas.{area_fits, area_whole, area_strong, block_is_home, named_apart, image_on_area}
use Rattle.block_device.proofs.ImageLemmas.{map_words-at, reads, reads-then}
use Rattle.block_device.proofs.ChangeLemmas.{may_change-later, is_map-changed, length-changed_map}

same_place : (geo : Geometry) (a b : ℕ) → (place geo (of_block a) == place geo (of_block b)) ≡ (a == b)
same_place geo a b =
    elim (cases_eq a b) as (λ _. (place geo (of_block a) == place geo (of_block b)) ≡ (a == b)) [
      | inl is ↦ eq-eqb (place geo (of_block a)) (place geo (of_block b)) (ap (λ n. place geo (of_block n)) is) ∙ sym (eq-eqb a b is)
      | inr other ↦ ne_eqb (place geo (of_block a)) (place geo (of_block b)) (λ e. other (omega arith)) ∙ sym (ne_eqb a b other)
    ]

-- the words of changes are those of the blocks that they name
pub words-lists : (geo : Geometry) (cs : List Change) (b : ℕ) → lists (word_changes geo cs) (place geo (of_block b)) ≡ names cs b
words-lists geo [] b = refl
words-lists geo (c ∷ cs) b =
    ap (λ t. t || lists (word_changes geo cs) (place geo (of_block b))) (same_place geo c.block b) ∙ ap (λ t. c.block == b || t) (words-lists geo cs b)

words-distinct : (geo : Geometry) (states : List BlockState) (cs : List Change) → MayChange states cs → IsDistinct (word_changes geo cs)
words-distinct geo states [] may = tt
words-distinct geo states (c ∷ cs) may = (words-lists geo cs c.block ∙ may.2, words-distinct geo states cs may.4)

words-home : (geo : Geometry) (states : List BlockState) (cs : List Change) (p : ℕ) → IsValid geo → length states ≡ geo.blocks → MayChange states cs → IsTrue (lists (word_changes geo cs) p) → IsHome (block_area geo) p
words-home geo states [] p valid all may is = absurd (both_ways false refl is)
words-home geo states (c ∷ cs) p valid all may is =
    let later = lists (word_changes geo cs) p in
    elim (cases_eq (place geo (of_block c.block)) p) as (λ _. IsHome (block_area geo) p) [
      | inl here ↦ subst (IsHome (block_area geo)) here (block_is_home geo valid c.block (omega (arith, may.0)))
      | inr other ↦ words-home geo states cs p valid all may.4 (sym (ap (λ b. b || later) (ne_eqb (place geo (of_block c.block)) p other)) ∙ is)
    ]

pub words-taken : (geo : Geometry) (states : List BlockState) (cs : List Change) → IsValid geo → length states ≡ geo.blocks → 0 < length cs → length cs ≤ 64 → MayChange states cs → MayCommit (block_area geo) (word_changes geo cs)
words-taken geo states cs valid all some few may =
    let same : length (word_changes geo cs) ≡ length cs = length-map cs (λ (c : Change). (place geo (of_block c.block), word_of c.state)) in
    record {
      some = omega arith;
      few = omega arith;
      home = λ p is. words-home geo states cs p valid all may is;
      distinct = words-distinct geo states cs may;
    }

-- where a block's word is, another block's is not
map_words-other : (geo : Geometry) (states : List BlockState) (b p : ℕ) (s : BlockState) → 8 * first_line geo block_map ≤ p → (place geo (of_block b) ≡ p → ⊥) → map_words geo (set states b s) p ≡ map_words geo states p
map_words-other geo states b p s from other =
    ap word_of (get_or-set_other states b (p - 8 * first_line geo block_map) s Absent (λ e. other (omega arith)))

-- the words of the map after the changes
pub words-changed : (geo : Geometry) (states : List BlockState) (cs : List Change) (p : ℕ) → MayChange states cs → 8 * first_line geo block_map ≤ p → changed (word_changes geo cs) (map_words geo states) p ≡ map_words geo (changed_map cs states) p
words-changed geo states [] p may from = refl
words-changed geo states (c ∷ cs) p may from =
    let ws = word_changes geo cs in
    let then_ = set states c.block c.state in
    let rest : changed ws (map_words geo then_) p ≡ map_words geo (changed_map cs then_) p = words-changed geo then_ cs p (may_change-later states c cs may) from in
    elim (cases_eq (place geo (of_block c.block)) p) as (λ _. (if place geo (of_block c.block) == p then word_of c.state else changed ws (map_words geo states) p) ≡ map_words geo (changed_map cs then_) p) [
      | inl here ↦
          let out : lists ws p ≡ false = ap (lists ws) (sym here) ∙ words-lists geo cs c.block ∙ may.2 in
          let value : map_words geo then_ p ≡ word_of c.state =
          ap (map_words geo then_) (sym here) ∙ map_words-at geo then_ c.block ∙ ap word_of (get_or-set_same states c.block c.state Absent may.0) in
          ap (λ b. if b then word_of c.state else changed ws (map_words geo states) p) (eq-eqb (place geo (of_block c.block)) p here)
          ∙ sym (changed-unlisted ws (map_words geo then_) p out ∙ value)
          ∙ rest
      | inr other ↦
          ap (λ b. if b then word_of c.state else changed ws (map_words geo states) p) (ne_eqb (place geo (of_block c.block)) p other)
          ∙ changed-cong ws (map_words geo states) (map_words geo then_) p (sym (map_words-other geo states c.block p c.state from other))
          ∙ rest
    ]

-- blocks that are served, on good metadata, and changes that they may take
pub record IsReady (s : BlocksState) (area : LogArea) (m : Medium) (cs : List Change) : Type 0 where
  pub kept : IsKept s area
  pub serves : BlocksServe s m
  pub good : HasGoodMetadata s.geo m
  pub prepared : ArePrepared s m cs

pub ready_from : (view s : BlocksState) (area : LogArea) (m : Medium) (cs : List Change) → view ≡ s → IsKept view area → BlocksServe s m → HasGoodMetadata s.geo m → ArePrepared s m cs → IsReady s area m cs
ready_from view s area m cs is kept serves good prepared = record { kept = subst (λ t. IsKept t area) is kept; serves = serves; good = good; prepared = prepared }

module _ (s : BlocksState) (area : LogArea) (old : Medium) (cs : List Change) (ready : IsReady s area old cs) where
  ready_whole : IsWhole area old
  ready_whole = subst (λ a. IsWhole a old) (sym ready.kept.area) (area_whole s.geo ready.kept.valid old ready.good)

  pub ready_usable : (panel : Panel) → IsTrue panel.power → IsUsable area (record { medium = old; panel = panel })
  ready_usable panel on = record {
    on = on;
    fits = subst (λ a. Fits a old) (sym ready.kept.area) (area_fits s.geo ready.kept.valid old ready.serves.count);
    strong = subst (λ a. IsStrong a old) (sym ready.kept.area) (area_strong s.geo ready.kept.valid old ready.serves.strong);
    whole = ready_whole;
  }

  pub ready_taken : (words : List (ℕ × ℕ)) → words ≡ word_changes s.geo cs → 0 < length cs → length cs ≤ 64 → MayCommit area words
  ready_taken words is some few =
      subst (λ a. MayCommit a words) (sym ready.kept.area)
      (subst (MayCommit (block_area s.geo)) (sym is) (words-taken s.geo s.map cs ready.kept.valid ready.kept.all some few ready.prepared.may))

  changed_all : length (changed_map cs s.map) ≡ s.geo.blocks
  changed_all = length-changed_map cs s.map ∙ ready.kept.all

  -- the units of a map are no words of the log's area
  apart_of : (states : List BlockState) → length states ≡ s.geo.blocks → IsMap states → (p : ℕ) → IsNamed s.geo states (p / 8) → IsOf area p → ⊥
  apart_of states all is_map p named of =
      named_apart s.geo ready.kept.valid states p all is_map named (subst (λ a. IsOf a p) ready.kept.area of)

  -- the changes turn the words of the map into those of the other one
  turns : (words : List (ℕ × ℕ)) → words ≡ word_changes s.geo cs → (p : ℕ) → IsHome (block_area s.geo) p → changed words (map_words s.geo s.map) p ≡ map_words s.geo (changed_map cs s.map) p
  turns words named p in_home = ap (λ ws. changed ws (map_words s.geo s.map) p) named ∙ words-changed s.geo s.map cs p ready.prepared.may (omega (arith, in_home))

  module _ (new : Medium) (x : WritesBackOutside (IsOf area) old new) where
    -- an image that replays to the words of one of the two maps
    image_reads : (states : List BlockState) (image : ℕ → ℕ) → length states ≡ s.geo.blocks → IsMap states → AreDurable s.geo old states → IsBlockImage s.geo new image → Replays (block_area s.geo) image (map_words s.geo states) → ReadsAs s.geo new (λ bs. bs ≡ map_read s.geo old.is_bad (last_image old) states) image
    image_reads states image all is_map durable is replays =
        reads-then s.geo new (λ bs. bs ≡ map_read s.geo new.is_bad (last_image new) states) (λ bs. bs ≡ map_read s.geo old.is_bad (last_image old) states) image
        (λ bs e. e ∙ map_read-outside s.geo states old new (IsOf area) x (apart_of states all is_map))
        (reads s.geo new states image ready.kept.valid all is_map (durable-outside s.geo states old new (IsOf area) x (apart_of states all is_map) durable) is replays)

    -- wherever the power goes during the commit, the blocks are as they were or as they become
    pub switch-images : (words : List (ℕ × ℕ)) → words ≡ word_changes s.geo cs → ChangesImages area old new words → EachReads s.geo new (IsEither (map_read s.geo old.is_bad (last_image old) s.map) (map_read s.geo old.is_bad (last_image old) (changed_map cs s.map)))
    switch-images words named images image is =
        let one = map_read s.geo old.is_bad (last_image old) s.map in
        let other = map_read s.geo old.is_bad (last_image old) (changed_map cs s.map) in
        let whole = whole-outside area (IsOf area) old new ready_whole x in
        let on = subst (λ a. IsWhole a new) ready.kept.area whole in
        let of_area = image_on_area s.geo ready.kept.valid new image on is in
        let replays = words-images area (block_area s.geo) ready.kept.area old new words (map_words s.geo s.map) (map_words s.geo (changed_map cs s.map)) ready.serves.rest (turns words named) images image of_area in
        elim replays as (λ _. ReadsAs s.geo new (IsEither one other) image) [
          | inl was ↦
              reads-then s.geo new (λ bs. bs ≡ one) (IsEither one other) image (λ bs e. inl e)
              (image_reads s.map image ready.kept.all ready.kept.is_map ready.serves.durable is was)
          | inr now ↦
              reads-then s.geo new (λ bs. bs ≡ other) (IsEither one other) image (λ bs e. inr e)
              (image_reads (changed_map cs s.map) image changed_all (is_map-changed cs s.map ready.prepared.may ready.kept.is_map) ready.prepared.durable is now)
        ]

    pub switch-outside : WritesBackOutside (IsOf (block_area s.geo)) old new
    switch-outside = subst (λ a. WritesBackOutside (IsOf a) old new) ready.kept.area x

    -- after it the device is the one of the new map
    pub switch-serves : (words : List (ℕ × ℕ)) (t : BlocksState) → words ≡ word_changes s.geo cs → t.geo ≡ s.geo → t.map ≡ changed_map cs s.map → ChangesRest area old new words → BlocksServe t new
    switch-serves words t named geo map rests =
        let after = changed_map cs s.map in
        let serves : BlocksServe (record s { map = after }) new =
        record {
          valid = ready.kept.valid;
          all = changed_all;
          is_map = is_map-changed cs s.map ready.prepared.may ready.kept.is_map;
          count = x.count ∙ ready.serves.count;
          strong = λ n below. x.weak n ∙ ready.serves.strong n below;
          rest = words-rest area (block_area s.geo) ready.kept.area old new words (map_words s.geo s.map) (map_words s.geo after) ready.serves.rest (turns words named) rests;
          durable = durable-outside s.geo after old new (IsOf area) x (apart_of after changed_all (is_map-changed cs s.map ready.prepared.may ready.kept.is_map)) ready.prepared.durable;
        } in
        subst (λ g. BlocksServe (record t { geo = g }) new) (sym geo) (subst (λ ss. BlocksServe (record t { geo = s.geo; map = ss }) new) (sym map)
        (record { valid = serves.valid; all = serves.all; is_map = serves.is_map; count = serves.count; strong = serves.strong; rest = serves.rest; durable = serves.durable }))
