-- What images read as where the lines of log, map and units keep what they have.
use Rattle.std.proofs.Common.{◌≡◌, inr, ℕ, Bool, false, ◌/◌, List, length, refl, sym, ◌∙◌, subst}
use Rattle.line_device.specs.History.{IsTorn}
use Rattle.line_device.specs.Medium.{Medium, WritesBack, last_image}
use Rattle.line_device.proofs.TornLemmas.{torn-word_write_back}
use Rattle.line_words.specs.Words.{IsOnly, WritesBackOutside, WritesBackBeside}
use Rattle.line_words.proofs.FrameLemmas.{outside-write_back}
use Rattle.word_tables.specs.declared.geometry.Geometry.{Geometry}
use Rattle.word_tables.specs.Bounds.{IsValid}
use Rattle.word_tables.specs.Layout.{blocks, HasLine}
use Rattle.block_map.specs.States.{IsMap}
use Rattle.nvm_model.specs.Storage.{Block}
use Rattle.nvm_model.proofs.NumberedLemmas.{length-list_from}
use Rattle.block_device.specs.Area.{IsBlockLine, IsBlockPlace}
use Rattle.block_device.specs.Reading.{states_read, blocks_read}
use Rattle.block_device.specs.Images.{IsBlockImage, EachReads}
use Rattle.block_device.proofs.ReadLemmas.{Stays, map_read-same, stays-beside, stays-outside, newest-stays, is_only-stays}
use Rattle.block_device.proofs.PlaceLemmas.{named_is_data}

pub length-states_read : (geo : Geometry) (image : ℕ → ℕ) → length (states_read geo image) ≡ geo.blocks
unfolding states_read
length-states_read geo image = length-list_from _ 0 geo.blocks

-- blocks go by the marks of the units' lines
pub blocks_read-marks : (geo : Geometry) (bad bad' : ℕ → Bool) (image : ℕ → ℕ) → IsValid geo → IsMap (states_read geo image) → ((n : ℕ) → HasLine geo blocks n → bad' n ≡ bad n) → blocks_read geo bad' image ≡ blocks_read geo bad image
unfolding blocks_read
blocks_read-marks geo bad bad' image valid is_map marks =
    let states = states_read geo image in
    map_read-same geo bad bad' image image states
    (λ n named. marks n (named_is_data geo valid states n (length-states_read geo image) is_map named))
    (λ p _ _. refl)

-- The blocks' lines keep their marks, a cut leaves of a good one what it might have left before, and a unit's word of one value keeps it.
pub record Keeps (geo : Geometry) (old new : Medium) : Type 0 where
  pub bad : (n : ℕ) → IsBlockLine geo n → new.is_bad n ≡ old.is_bad n
  pub was : (p v : ℕ) → IsBlockPlace geo p → old.is_bad (p / 8) ≡ false → IsTorn v (new.history p) → IsTorn v (old.history p)
  pub durable : (p : ℕ) → HasLine geo blocks (p / 8) → IsOnly (last_image old p) (old.history p) → IsOnly (last_image new p) (new.history p)

pub each_reads-kept : (geo : Geometry) (old new : Medium) (P : List Block → Type 0) → IsValid geo → Keeps geo old new → EachReads geo old P → EachReads geo new P
each_reads-kept geo old new P valid keeps each image is =
    let before : IsBlockImage geo old image = λ p of good. keeps.was p (image p) of good (is p of (keeps.bad (p / 8) of ∙ good)) in
    let was = each image before in
    let states = states_read geo image in
    record {
      log = was.log;
      map = was.map;
      durable = λ block unit at p from to.
          keeps.durable p
          (named_is_data geo valid states (p / 8) (length-states_read geo image) was.map (record { block = block; unit = unit; at = at; from = from; to = to }))
          (was.durable block unit at p from to);
      blocks = subst P (sym (blocks_read-marks geo old.is_bad new.is_bad image valid was.map (λ n has. keeps.bad n (inr (inr has))))) was.blocks;
    }

-- where all of these lines stay
pub keeps-stays : (geo : Geometry) (old new : Medium) → ((n : ℕ) → IsBlockLine geo n → Stays old new n) → Keeps geo old new
keeps-stays geo old new stays = record {
  bad = λ n of. (stays n of).bad;
  was = λ p v of _ at. torn-word_write_back (old.is_weak (p / 8)) v (old.history p) (new.history p) ((stays (p / 8) of).word_write_back p refl) at;
  durable = λ p has only.
      let x = stays (p / 8) (inr (inr has)) in
      subst (λ v. IsOnly v (new.history p)) (sym (newest-stays old new p x)) (is_only-stays old new p (last_image old p) x only);
}

pub each_reads-stays : (geo : Geometry) (old new : Medium) (P : List Block → Type 0) → IsValid geo → ((n : ℕ) → IsBlockLine geo n → Stays old new n) → EachReads geo old P → EachReads geo new P
each_reads-stays geo old new P valid stays reads = each_reads-kept geo old new P valid (keeps-stays geo old new stays) reads

-- work on other words
pub each_reads-outside : (geo : Geometry) (inside : ℕ → Type 0) (old new : Medium) (P : List Block → Type 0) → IsValid geo → ((p : ℕ) → IsBlockPlace geo p → inside p → ⊥) → WritesBackOutside inside old new → EachReads geo old P → EachReads geo new P
each_reads-outside geo inside old new P valid apart x =
    each_reads-kept geo old new P valid
    (keeps-stays geo old new (λ n of. stays-outside inside old new n x (λ p is. apart p (subst (IsBlockLine geo) (sym is) of))))

-- work on other lines
pub each_reads-beside : (geo : Geometry) (lines : ℕ → Type 0) (old new : Medium) (P : List Block → Type 0) → IsValid geo → ((n : ℕ) → IsBlockLine geo n → lines n → ⊥) → WritesBackBeside lines old new → EachReads geo old P → EachReads geo new P
each_reads-beside geo lines old new P valid apart x =
    each_reads-kept geo old new P valid (keeps-stays geo old new (λ n of. stays-beside lines old new n x (apart n of)))

-- lines that are only written back
pub each_reads-write_back : (geo : Geometry) (old new : Medium) (P : List Block → Type 0) → IsValid geo → WritesBack old new → EachReads geo old P → EachReads geo new P
each_reads-write_back geo old new P valid x =
    each_reads-outside geo (λ _. ⊥) old new P valid (λ _ _ none. none) (outside-write_back (λ _. ⊥) old new x)
