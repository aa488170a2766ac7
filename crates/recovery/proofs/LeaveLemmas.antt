-- A replay of one log leaves the others, and what is told of them.
use Rattle.std.proofs.Common.{◌≡◌, ◌⊎◌, inl, inr, ℕ, ◌+◌, ◌/◌, List, None, refl, sym, ◌∙◌, subst, arith}
use Rattle.line_device.specs.Medium.{Medium, WritesBack, last_image}
use Rattle.line_device.proofs.TornLemmas.{torn-word_write_back}
use Rattle.line_device.proofs.WriteBackLemmas.{newest-write_back, write_back-trans}
use Rattle.line_words.specs.Words.{IsOnly, WritesBackOutside}
use Rattle.line_words.proofs.FrameLemmas.{newest-outside, outside-trans, outside-wider, outside-write_back}
use Rattle.word_tables.specs.declared.geometry.Geometry.{Geometry}
use Rattle.word_tables.specs.Bounds.{IsValid}
use Rattle.word_log.specs.declared.area.LogArea.{LogArea}
use Rattle.word_log.specs.Area.{AreHomeWords, IsOf, IsShaped, gate_place}
use Rattle.word_log.specs.Leaving.{LeavesLog}
use Rattle.word_log.specs.Replay.{Replays, first_wrong, replayed}
use Rattle.word_log.specs.Rest.{EachImage, IsAtRest, IsReached}
use Rattle.word_log.proofs.PhaseLemmas.{reached_write_back}
use Rattle.word_log.proofs.RestLemmas.{replays-same, replays-then}
use Rattle.block_device.specs.Area.{block_area}
use Rattle.block_device.proofs.AreaLemmas as map
use Rattle.pm_volume.specs.Area.{volume_area}
use Rattle.pm_volume.proofs.AreaLemmas as pages
use Rattle.file_journal.specs.Area.{file_area}
use Rattle.file_journal.proofs.AreaLemmas as files
use Rattle.recovery.specs.Mounting.{IsOfLogs}
use Rattle.recovery.specs.Tables.{LeavesLogs}
use Rattle.recovery.proofs.LogLemmas.{IsLogOf, blocks_files, blocks_volume, of_each, volume_files}

-- work elsewhere
module _ (a : LogArea) (inside : ℕ → Type 0) (old new : Medium) (x : WritesBackOutside inside old new) (apart : (p : ℕ) → IsOf a p → inside p → ⊥) where
  pub each_kept : EachImage a new (IsReached a old)
  each_kept image is = record {
    before = image;
    was = λ p of. torn-word_write_back (old.is_weak (p / 8)) (image p) (old.history p) (new.history p) (x.word_write_back p (apart p of)) (is p of);
    same = inl (λ p of. refl);
  }

  -- a log that is in order stays so, and replays to the same words
  pub replays_still : IsShaped a → first_wrong a (last_image old) ≡ None → Replays a (last_image new) (replayed a (last_image old))
  replays_still shape right =
      replays-same a (last_image new) (last_image old) (replayed a (last_image old)) shape
      (λ p of. newest-outside inside old new p x (apart p of))
      (record { valid = right; home = λ p _. refl })

-- what is told of a log by its words now, is told by those before
module _ (a : LogArea) (old now : ℕ → ℕ) (same : Replays a now (replayed a old)) where
  pub rest_told : (m : Medium) → IsAtRest a m (replayed a now) → IsAtRest a m (replayed a old)
  rest_told m rest = record { gate = rest.gate; home = λ p home. subst (λ v. IsOnly v (m.history p)) (same.home p home) (rest.home p home) }

  pub words_told : (ws : List ℕ) → AreHomeWords a (replayed a now) ws → AreHomeWords a (replayed a old) ws
  words_told ws are = record { all = are.all; each = λ k below. are.each k below ∙ same.home (a.home.start + k) (omega arith, omega arith) }

  pub replays_twice : (words : ℕ → ℕ) → Replays a words (replayed a now) → Replays a words (replayed a old)
  replays_twice words replays = replays-then a words (replayed a now) (replayed a old) same.home replays

-- images that reach images that reach others reach these
pub reached-trans : (a : LogArea) (old mid new : Medium) → IsShaped a → EachImage a mid (IsReached a old) → EachImage a new (IsReached a mid) → EachImage a new (IsReached a old)
reached-trans a old mid new shape first second image is =
    let late = second image is in
    let early = first late.before late.was in
    record {
      before = early.before;
      was = early.was;
      same = elim late.same as (λ _. ((p : ℕ) → IsOf a p → image p ≡ early.before p) ⊎ (first_wrong a early.before ≡ None) × Replays a image (replayed a early.before)) [
        | inl kept ↦ elim early.same as (λ _. ((p : ℕ) → IsOf a p → image p ≡ early.before p) ⊎ (first_wrong a early.before ≡ None) × Replays a image (replayed a early.before)) [
          | inl was ↦ inl (λ p of. kept p of ∙ was p of)
          | inr done ↦ inr (done.0, replays-same a image late.before (replayed a early.before) shape kept done.1)
        ]
        | inr done ↦ elim early.same as (λ _. ((p : ℕ) → IsOf a p → image p ≡ early.before p) ⊎ (first_wrong a early.before ≡ None) × Replays a image (replayed a early.before)) [
          | inl was ↦
              let back = replays-same a early.before late.before (replayed a late.before) shape (λ p of. sym (was p of)) (record { valid = done.0; home = λ p _. refl }) in
              inr (back.valid, replays-then a image (replayed a late.before) (replayed a early.before) (λ p home. sym (back.home p home)) done.1)
          | inr before ↦ inr (before.0, replays-then a image (replayed a late.before) (replayed a early.before) before.1.home done.1)
        ]
      ];
    }

-- lines that are written back leave all logs
pub leaves-write_back : (geo : Geometry) (old new : Medium) → WritesBack old new → LeavesLogs geo old new
leaves-write_back geo old new x = record {
  blocks = reached_write_back (block_area geo) old new x;
  volume = reached_write_back (volume_area geo) old new x;
  files = reached_write_back (file_area geo) old new x;
  closed = λ _ _ _. x;
  outside = outside-write_back (IsOfLogs geo) old new x;
}

-- and so does one after another
pub leaves-then : (geo : Geometry) → IsValid geo → (old mid new : Medium) → LeavesLogs geo old mid → LeavesLogs geo mid new → LeavesLogs geo old new
leaves-then geo valid old mid new x y = record {
  blocks = reached-trans (block_area geo) old mid new (map.area_shaped geo valid) x.blocks y.blocks;
  volume = reached-trans (volume_area geo) old mid new (pages.area_shaped geo valid) x.volume y.volume;
  files = reached-trans (file_area geo) old mid new (files.area_shaped geo valid) x.files y.files;
  closed = λ block page file.
      let w = x.closed block page file in
      write_back-trans old mid new w
      (y.closed (newest-write_back old mid w (gate_place (block_area geo)) ∙ block)
      (newest-write_back old mid w (gate_place (volume_area geo)) ∙ page)
      (newest-write_back old mid w (gate_place (file_area geo)) ∙ file));
  outside = outside-trans (IsOfLogs geo) old mid new x.outside y.outside;
}

-- one log is mounted, and the others are left
pub leaves_one : (geo : Geometry) → IsValid geo → (a : LogArea) → IsLogOf geo a → (old new : Medium) → LeavesLog a old new → LeavesLogs geo old new
leaves_one geo valid a is old new =
    of_each geo a is (λ b. LeavesLog b old new → LeavesLogs geo old new)
    (λ left. record {
      blocks = left.images;
      volume = each_kept (volume_area geo) (IsOf (block_area geo)) old new left.outside (λ p page block. blocks_volume geo valid p block page);
      files = each_kept (file_area geo) (IsOf (block_area geo)) old new left.outside (λ p file block. blocks_files geo valid p block file);
      closed = λ zero _ _. left.closed zero;
      outside = outside-wider (IsOf (block_area geo)) (IsOfLogs geo) old new (λ p of. inl of) left.outside;
    })
    (λ left. record {
      blocks = each_kept (block_area geo) (IsOf (volume_area geo)) old new left.outside (blocks_volume geo valid);
      volume = left.images;
      files = each_kept (file_area geo) (IsOf (volume_area geo)) old new left.outside (λ p file page. volume_files geo valid p page file);
      closed = λ _ zero _. left.closed zero;
      outside = outside-wider (IsOf (volume_area geo)) (IsOfLogs geo) old new (λ p of. inr (inl of)) left.outside;
    })
    (λ left. record {
      blocks = each_kept (block_area geo) (IsOf (file_area geo)) old new left.outside (blocks_files geo valid);
      volume = each_kept (volume_area geo) (IsOf (file_area geo)) old new left.outside (volume_files geo valid);
      files = left.images;
      closed = λ _ _ zero. left.closed zero;
      outside = outside-wider (IsOf (file_area geo)) (IsOfLogs geo) old new (λ p of. inr (inr of)) left.outside;
    })
