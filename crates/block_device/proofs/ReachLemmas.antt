-- What images of the blocks read as stays, where lines write_back and where a mount replays the log.
use Rattle.std.proofs.Common.{◌≡◌, ◌⊎◌, inl, inr, ℕ, Bool, ◌/◌, ◌<◌, ◌≤◌, List, None, map, if◌then◌else◌, nat_lt, refl, sym, ◌∙◌, ap, subst, arith}
use Rattle.std.specs.Option.{option_map}
use Rattle.std.proofs.lemmas.Bool.{lt-ltb, le-ltb}
use Rattle.line_device.specs.History.{IsTorn}
use Rattle.line_device.specs.Medium.{Medium, WritesBack}
use Rattle.line_device.proofs.TornLemmas.{torn-word_write_back}
use Rattle.line_words.specs.Words.{WritesBackOutside}
use Rattle.word_tables.specs.declared.geometry.Geometry.{Geometry}
use Rattle.word_tables.specs.Bounds.{IsValid}
use Rattle.word_tables.specs.Layout.{size, meta_lines}
use Rattle.word_tables.specs.Words.{place, of_block}
use Rattle.word_log.specs.Area.{IsOf, IsWhole}
use Rattle.word_log.specs.Replay.{Replays, first_wrong, replayed}
use Rattle.word_log.specs.Rest.{EachImage, IsReached}
use Rattle.word_log.proofs.FrameLemmas.{whole-outside}
use Rattle.word_log.proofs.RestLemmas.{replays-same, replays-then, replays-reached}
use Rattle.block_map.specs.declared.state.BlockState.{BlockState}
use Rattle.block_map.specs.States.{IsMap, state_of, word_of}
use Rattle.block_map.specs.Wrong as table
use Rattle.block_map.proofs.MapLemmas.{map_right}
use Rattle.nvm_model.specs.Blocks.{first_there}
use Rattle.nvm_model.specs.Storage.{Block}
use Rattle.block_device.specs.Area.{block_area, IsBlockPlace}
use Rattle.block_device.specs.Object.{AreDurable}
use Rattle.block_device.specs.Reading.{map_read, states_read, blocks_read}
use Rattle.block_device.specs.Images.{IsBlockImage, IsSameLog, ReadsAs, EachReads, KeepsReads}
use Rattle.block_device.specs.Mounting.{wrong_place}
use Rattle.block_device.proofs.ReadLemmas.{IsNamed, list_from-cong, map_read-same, durable-outside, durable-write_back}
use Rattle.block_device.proofs.PlaceLemmas.{area_in_metadata, block_is_home, data_behind_metadata, image_on_area, named_is_data}
use Rattle.block_device.proofs.AreaLemmas.{area_shaped}
use Rattle.block_device.proofs.FrameLemmas.{length-states_read}
use Rattle.block_device.proofs.ImageLemmas.{reads-then}

-- nothing is wrong with an image of blocks
pub reads_right : (geo : Geometry) (m : Medium) (P : List Block → Type 0) (image : ℕ → ℕ) → ReadsAs geo m P image → wrong_place geo image ≡ None
reads_right geo m P image x =
    let where_ : ℕ → ℕ = λ b. place geo (of_block b) in
    ap (λ wrong. first_there wrong (option_map where_ (table.first_wrong_entry (map word_of (states_read geo image))))) x.log
    ∙ ap (option_map where_) (map_right (states_read geo image) x.map)

-- what each image before reads as, each image reads as
pub each_reads-kept : (geo : Geometry) (old new : Medium) (P : List Block → Type 0) → KeepsReads geo old new → EachReads geo old P → EachReads geo new P
each_reads-kept geo old new P keeps each image is =
    let k = keeps image is in
    let was = each k.before k.was in
    reads-then geo new (λ bs. bs ≡ blocks_read geo old.is_bad k.before) P image (λ bs same. subst P (sym same) was.blocks) (k.reads (reads-then geo old P (λ _. Unit {0}) k.before (λ _ _. tt) was))

own_replay : (geo : Geometry) (v : ℕ → ℕ) → first_wrong (block_area geo) v ≡ None → Replays (block_area geo) v (replayed (block_area geo) v)
own_replay geo v valid = record { valid = valid; home = λ p _. refl }

-- what one image came of, and that one of another
same_log-trans : (geo : Geometry) (v w image : ℕ → ℕ) → IsValid geo → IsSameLog geo v w → IsSameLog geo w image → IsSameLog geo v image
same_log-trans geo v w image valid first second =
    let area = block_area geo in
    let shape = area_shaped geo valid in
    elim second as (λ _. IsSameLog geo v image) [
      | inl same ↦ elim first as (λ _. IsSameLog geo v image) [
        | inl was ↦ inl (λ p of. same p of ∙ was p of)
        | inr (fine, replays) ↦ inr (fine, replays-same area image w (replayed area v) shape same replays)
      ]
      | inr (fine, replays) ↦ elim first as (λ _. IsSameLog geo v image) [
        | inl was ↦
            let of_v = replays-same area v w (replayed area w) shape (λ p of. sym (was p of)) (own_replay geo w fine) in
            inr (of_v.valid, replays-then area image (replayed area w) (replayed area v) (λ p at. sym (of_v.home p at)) replays)
        | inr (was_fine, was) ↦ inr (was_fine, replays-then area image (replayed area w) (replayed area v) was.home replays)
      ]
    ]

pub keeps_reads-trans : (geo : Geometry) (a b c : Medium) → IsValid geo → KeepsReads geo a b → KeepsReads geo b c → KeepsReads geo a c
keeps_reads-trans geo a b c valid x y image is =
    let second = y image is in
    let first = x second.before second.was in
    record {
      before = first.before;
      was = first.was;
      same = same_log-trans geo first.before second.before image valid first.same second.same;
      reads = λ was.
          let now = first.reads was in
          reads-then geo c (λ bs. bs ≡ blocks_read geo b.is_bad second.before) (λ bs. bs ≡ blocks_read geo a.is_bad first.before) image (λ bs same. same ∙ now.blocks)
          (second.reads (reads-then geo b (λ bs. bs ≡ blocks_read geo a.is_bad first.before) (λ _. Unit {0}) second.before (λ _ _. tt) now));
    }

-- lines that are only written back have fewer images
pub keeps_reads-write_back : (geo : Geometry) (old new : Medium) → WritesBack old new → KeepsReads geo old new
keeps_reads-write_back geo old new x image is =
    let marks : new.is_bad ≡ old.is_bad = λ i n. x.bad n i in
    record {
      before = image;
      was = λ p place good. torn-word_write_back (old.is_weak (p / 8)) (image p) (old.history p) (new.history p) (x.word_write_back p) (is p place (x.bad (p / 8) ∙ good));
      same = inl (λ p of. refl);
      reads = λ r.
          record {
            log = r.log;
            map = r.map;
            durable = durable-write_back geo (states_read geo image) old new x r.durable;
            blocks = ap (λ (bad : ℕ → Bool). blocks_read geo bad image) marks;
          };
    }

pub each_reads-write_back : (geo : Geometry) (old new : Medium) (P : List Block → Type 0) → WritesBack old new → EachReads geo old P → EachReads geo new P
each_reads-write_back geo old new P x = each_reads-kept geo old new P (keeps_reads-write_back geo old new x)

-- the map goes by what the log replays to
pub states_read-replays : (geo : Geometry) (image other : ℕ → ℕ) → IsValid geo → Replays (block_area geo) image (replayed (block_area geo) other) → states_read geo image ≡ states_read geo other
unfolding states_read
states_read-replays geo image other valid replays =
    list_from-cong (λ b. state_of (replayed (block_area geo) image (place geo (of_block b)))) (λ b. state_of (replayed (block_area geo) other (place geo (of_block b)))) 0 geo.blocks
    (λ b from to. ap state_of (replays.home (place geo (of_block b)) (block_is_home geo valid b (omega arith))))

-- one image in the metadata, and the other behind it
joined : Geometry → (ℕ → ℕ) → (ℕ → ℕ) → ℕ → ℕ
joined geo before behind p = if nat_lt (p / 8) (meta_lines geo) then before p else behind p

joined-in : (geo : Geometry) (before behind : ℕ → ℕ) (p : ℕ) → p / 8 < meta_lines geo → joined geo before behind p ≡ before p
unfolding joined
joined-in geo before behind p below = ap (λ b. if b then before p else behind p) (lt-ltb (p / 8) (meta_lines geo) below)

joined-out : (geo : Geometry) (before behind : ℕ → ℕ) (p : ℕ) → meta_lines geo ≤ p / 8 → joined geo before behind p ≡ behind p
unfolding joined
joined-out geo before behind p from = ap (λ b. if b then before p else behind p) (le-ltb (p / 8) (meta_lines geo) from)

-- a word of the blocks is one of log and map, or behind the metadata
block_place : (geo : Geometry) (p : ℕ) → IsValid geo → IsBlockPlace geo p → IsOf (block_area geo) p ⊎ (meta_lines geo ≤ p / 8)
unfolding size
block_place geo p valid is =
    elim is as (λ _. IsOf (block_area geo) p ⊎ (meta_lines geo ≤ p / 8)) [
      | inl log ↦ inl (inl (omega arith, omega arith))
      | inr other ↦ elim other as (λ _. IsOf (block_area geo) p ⊎ (meta_lines geo ≤ p / 8)) [
        | inl home ↦ inl (inr (omega arith, omega arith))
        | inr unit ↦ inr (data_behind_metadata geo valid (p / 8) unit)
      ]
    ]

-- Only words of the metadata are changed.
module _ (geo : Geometry) (inside : ℕ → Type 0) (in_meta : (p : ℕ) → inside p → p / 8 < meta_lines geo) (old new : Medium) (valid : IsValid geo) (x : WritesBackOutside inside old new) (image before : ℕ → ℕ) where
  -- an image before the mount, of what one after it came from
  joined_image : ((p : ℕ) → IsOf (block_area geo) p → IsTorn (before p) (old.history p)) → IsBlockImage geo new image → IsBlockImage geo old (joined geo before image)
  joined_image was is p place good =
      elim (block_place geo p valid place) as (λ _. IsTorn (joined geo before image p) (old.history p)) [
        | inl of ↦ subst (λ v. IsTorn v (old.history p)) (sym (joined-in geo before image p (area_in_metadata geo valid p of))) (was p of)
        | inr behind ↦
            subst (λ v. IsTorn v (old.history p)) (sym (joined-out geo before image p behind))
            (torn-word_write_back (old.is_weak (p / 8)) (image p) (old.history p) (new.history p)
            (x.word_write_back p (λ of. let meta = in_meta p of in omega arith)) (is p place (x.bad (p / 8) ∙ good)))
      ]

  -- they read alike
  joined_reads : Replays (block_area geo) image (replayed (block_area geo) (joined geo before image)) → ReadsAs geo old (λ _. Unit {0}) (joined geo before image) → ReadsAs geo new (λ bs. bs ≡ blocks_read geo old.is_bad (joined geo before image)) image
  unfolding blocks_read
  joined_reads replays r =
      let j : ℕ → ℕ = joined geo before image in
      let states : List BlockState = states_read geo j in
      let same : states_read geo image ≡ states = states_read-replays geo image j valid replays in
      let behind : (p : ℕ) → IsNamed geo states (p / 8) → meta_lines geo ≤ p / 8 =
      λ p named. data_behind_metadata geo valid (p / 8) (named_is_data geo valid states (p / 8) (length-states_read geo j) r.map named) in
      let apart : (p : ℕ) → IsNamed geo states (p / 8) → inside p → ⊥ = λ p named of. let meta = in_meta p of in let data_ = behind p named in omega arith in
      record {
        log = replays.valid;
        map = subst IsMap (sym same) r.map;
        durable = subst (AreDurable geo new) (sym same) (durable-outside geo states old new inside x apart r.durable);
        blocks =
            ap (map_read geo new.is_bad image) same
            ∙ map_read-same geo old.is_bad new.is_bad j image states (λ n _. x.bad n) (λ p named _. sym (joined-out geo before image p (behind p named)));
      }

-- A mount keeps what images read as.
pub keeps_reads-reached : (geo : Geometry) (inside : ℕ → Type 0) → ((p : ℕ) → inside p → p / 8 < meta_lines geo) → (old new : Medium) → IsValid geo → WritesBackOutside inside old new → EachImage (block_area geo) new (IsReached (block_area geo) old) → IsWhole (block_area geo) old → KeepsReads geo old new
keeps_reads-reached geo inside in_meta old new valid x images whole image is =
    let area = block_area geo in
    let reached = images image (image_on_area geo valid new image (whole-outside area inside old new whole x) is) in
    let j : ℕ → ℕ = joined geo reached.before image in
    let same : (p : ℕ) → IsOf area p → reached.before p ≡ j p = λ p of. sym (joined-in geo reached.before image p (area_in_metadata geo valid p of)) in
    record {
      before = j;
      was = joined_image geo inside in_meta old new valid x image reached.before reached.was is;
      same = same_log-trans geo j reached.before image valid (inl same) reached.same;
      reads = λ r.
          let own : Replays area j (replayed area j) = record { valid = r.log; home = λ p _. refl } in
          let was = replays-same area reached.before j (replayed area j) (area_shaped geo valid) same own in
          joined_reads geo inside in_meta old new valid x image reached.before (replays-reached area old image (replayed area j) (area_shaped geo valid) reached was) r;
    }
