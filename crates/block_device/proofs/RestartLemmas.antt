-- What the blocks read as when the power came back, and while it stays off.
use Rattle.std.proofs.Common.{◌≡◌, inl, inr, ℕ, Bool, true, false, ◌/◌, ◌<◌, List, [], ◌∷◌, refl, sym, ◌∙◌, ap, subst, arith}
use Rattle.line_device.specs.History.{newest, IsIn, IsTorn, MayKeep}
use Rattle.line_device.specs.Medium.{Medium, IsHealthy, IsSound, Survivors, Waits, last_image}
use Rattle.line_device.specs.Panel.{Image}
use Rattle.line_device.specs.Device.{Depicts}
use Rattle.line_device.specs.declared.line.Choice.{Choice}
use Rattle.line_device.proofs.HistoryLemmas.{is_in-one, is_in-word_write_back, newest-word_write_back}
use Rattle.line_device.proofs.TornLemmas.{may_keep-torn, torn-in, torn-one, torn-word_write_back}
use Rattle.line_words.specs.Words.{IsOnly}
use Rattle.word_tables.specs.declared.geometry.Geometry.{Geometry}
use Rattle.word_tables.specs.Bounds.{IsValid}
use Rattle.word_tables.specs.Layout.{block_log, block_map, total_lines}
use Rattle.word_tables.proofs.LayoutLemmas.{areas_laid_out}
use Rattle.nvm_model.specs.Storage.{Block}
use Rattle.block_device.specs.Area.{IsBlockLine, IsBlockPlace}
use Rattle.block_device.specs.Reading.{blocks_read}
use Rattle.block_device.specs.Images.{IsBlockImage, EachReads}
use Rattle.block_device.proofs.PlaceLemmas.{data_on_device}
use Rattle.block_device.proofs.FrameLemmas.{each_reads-kept, blocks_read-marks}

pub is_only-one : (v : ℕ) (history : List ℕ) → history ≡ v ∷ [] → IsOnly (newest history) history
is_only-one v history one w at = is_in-one w v (subst (IsIn w) one at) ∙ sym (ap newest one)

pub is_only-none : (v : ℕ) (history : List ℕ) → history ≡ [] → IsOnly v history
is_only-none v history none w at = absurd (subst (IsIn w) none at)

module _ (geo : Geometry) (valid : IsValid geo) where
  -- the blocks' lines are on the device
  pub block_on_device : (n : ℕ) → IsBlockLine geo n → n < total_lines geo
  block_on_device n of =
      let within = (areas_laid_out geo valid).within in
      let log_ends = within block_log in
      let map_ends = within block_map in
      elim of as (λ _. n < total_lines geo) [
        | inl in_log ↦ omega arith
        | inr rest ↦ elim rest as (λ _. n < total_lines geo) [ inl in_map ↦ omega arith | inr in_unit ↦ data_on_device geo valid n in_unit ]
      ]

  pub block_healthy : (m : Medium) (p : ℕ) → m.count ≡ total_lines geo → IsBlockPlace geo p → m.is_bad (p / 8) ≡ false → IsHealthy m (p / 8)
  block_healthy m p count of good = (subst (λ c. p / 8 < c) (sym count) (block_on_device (p / 8) of), good)

  -- the last values are an image
  pub block_image-last : (m : Medium) → IsSound m → m.count ≡ total_lines geo → IsBlockImage geo m (last_image m)
  block_image-last m sound count p of good = torn-in (last_image m p) (m.history p) (sound.last p (block_healthy m p count of good))

  pub blocks_read-last : (m : Medium) (found : List Block) → IsSound m → m.count ≡ total_lines geo → EachReads geo m (λ bs. bs ≡ found) → blocks_read geo m.is_bad (last_image m) ≡ found
  blocks_read-last m found sound count each = (each (last_image m) (block_image-last m sound count)).blocks

  -- what a restart left is an image of the lines before it
  pub block_image-restarted : (unit : ℕ) (choice : Choice) (old new : Medium) (image : Image) → old.count ≡ total_lines geo → Survivors unit choice old new → Depicts new image → IsBlockImage geo old image.word
  block_image-restarted unit choice old new image count x shows p of good =
      let healthy = block_healthy old p count of good in
      let survived = x.words p healthy in
      let word = shows.words p (subst (λ c. p / 8 < c) (sym x.count) healthy.0, x.bad (p / 8) ∙ good) in
      may_keep-torn unit (image.word p) (old.history p) (subst (λ v. MayKeep unit v (old.history p)) (ap newest (sym survived.1.one ∙ word)) survived.1.was)

  pub blocks_read-restarted : (unit : ℕ) (choice : Choice) (old new : Medium) (image : Image) (P : List Block → Type 0) → old.count ≡ total_lines geo → Survivors unit choice old new → Depicts new image → EachReads geo old P → P (blocks_read geo image.is_bad image.word)
  blocks_read-restarted unit choice old new image P count x shows each =
      let was = each image.word (block_image-restarted unit choice old new image count x shows) in
      let on : (n : ℕ) → n < total_lines geo → n < new.count = λ n below. subst (λ c. n < c) (sym (x.count ∙ count)) below in
      subst P
      (sym (blocks_read-marks geo old.is_bad image.is_bad image.word valid was.map (λ n has. shows.bad n (on n (data_on_device geo valid n has)) ∙ x.bad n)))
      was.blocks

  pub blocks_kept : (unit : ℕ) (choice : Choice) (old new : Medium) (image : Image) (found : List Block) → old.count ≡ total_lines geo → Survivors unit choice old new → Depicts new image → EachReads geo old (λ bs. bs ≡ found) → blocks_read geo image.is_bad image.word ≡ found
  blocks_kept unit choice old new image found count x shows each = blocks_read-restarted unit choice old new image (λ bs. bs ≡ found) count x shows each

  -- the lines as the power came back
  pub each_reads-restarted : (unit : ℕ) (choice : Choice) (old new : Medium) (P : List Block → Type 0) → IsSound old → old.count ≡ total_lines geo → Survivors unit choice old new → EachReads geo old P → EachReads geo new P
  each_reads-restarted unit choice old new P sound count x =
      each_reads-kept geo old new P valid
      (record {
        bad = λ n _. x.bad n;
        was = λ p v of good at.
            let survived = x.words p (block_healthy old p count of good) in
            subst (λ w. IsTorn w (old.history p)) (sym (torn-one survived.0 v (subst (IsTorn v) survived.1.one at))) (may_keep-torn unit survived.0 (old.history p) survived.1.was);
        durable = λ p has _. one_value p (inr (inr has)) (old.is_bad (p / 8)) refl;
      })
    where
      one_value : (p : ℕ) → IsBlockPlace geo p → (bad : Bool) → old.is_bad (p / 8) ≡ bad → IsOnly (last_image new p) (new.history p)
      one_value p of true is = is_only-none (last_image new p) (new.history p) (x.lost p (sound.lost p is))
      one_value p of false is =
          let survived = x.words p (block_healthy old p count of is) in
          is_only-one survived.0 (new.history p) survived.1.one

  -- the lines while the power stays off
  pub each_reads-waits : (unit : ℕ) (old new : Medium) (P : List Block → Type 0) → Waits unit old new → EachReads geo old P → EachReads geo new P
  each_reads-waits unit old new P x =
      each_reads-kept geo old new P valid
      (record {
        bad = λ n _. x.bad n;
        was = λ p v _ _ at.
            elim (x.words p) as (λ _. IsTorn v (old.history p)) [
              | inl word_write_back ↦ torn-word_write_back (old.is_weak (p / 8)) v (old.history p) (new.history p) word_write_back at
              | inr one ↦ subst (λ w. IsTorn w (old.history p)) (sym (torn-one one.0 v (subst (IsTorn v) one.2 at))) (may_keep-torn unit one.0 (old.history p) one.1)
            ];
        durable = λ p _ only.
            elim (x.words p) as (λ _. IsOnly (last_image new p) (new.history p)) [
              | inl word_write_back ↦ λ v at.
                  only v (is_in-word_write_back (old.is_weak (p / 8)) v (old.history p) (new.history p) word_write_back at)
                  ∙ sym (newest-word_write_back (old.is_weak (p / 8)) (old.history p) (new.history p) word_write_back)
              | inr one ↦ is_only-one one.0 (new.history p) one.2
            ];
      })
