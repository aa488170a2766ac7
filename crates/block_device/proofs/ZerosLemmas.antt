-- What the blocks of a new device read as.
use Rattle.std.proofs.Common.{◌≡◌, inr, ℕ, zero, suc, Bool, true, false, ◌/◌, List, [], ◌∷◌, nat_lt, if◌then◌else◌, refl, sym, ◌∙◌, ap, subst, arith}
use Rattle.line_device.specs.History.{IsIn}
use Rattle.line_device.specs.Medium.{Medium, WritesBack, zeros}
use Rattle.line_device.proofs.HistoryLemmas.{is_in-one, is_in-word_write_back}
use Rattle.line_device.proofs.TornLemmas.{torn-only}
use Rattle.word_tables.specs.declared.geometry.Geometry.{Geometry}
use Rattle.word_tables.specs.Bounds.{IsValid}
use Rattle.word_tables.specs.Layout.{total_lines}
use Rattle.word_tables.specs.Words.{place, of_block}
use Rattle.word_log.specs.Area.{gate_place}
use Rattle.word_log.specs.Replay.{Replays, replayed}
use Rattle.word_log.proofs.PhaseLemmas.{gate_of}
use Rattle.word_log.proofs.ReplayLemmas.{replays_closed}
use Rattle.block_map.specs.declared.state.BlockState.{BlockState}
use Rattle.block_map.specs.declared.state.BlockState.TheVariants as state
use Rattle.block_map.specs.States.{IsMap, IsAt, state_of}
use Rattle.nvm_model.specs.Numbered.{list_from}
use Rattle.nvm_model.specs.Storage.Block.{Absent}
use Rattle.block_device.specs.Area.{block_area, IsBlockPlace}
use Rattle.block_device.specs.Images.{IsBlockImage, EachReads, AreReadable}
use Rattle.block_device.specs.Reading.{map_read, states_read, blocks_read}
use Rattle.block_device.proofs.ReadLemmas.{IsNamed, list_from-cong, map_read-same}
use Rattle.block_device.proofs.PlaceLemmas.{area_fits, area_is_block, block_is_home}
use Rattle.block_device.proofs.ImageLemmas.{each_reads-then}

-- as many states, no block allocated
abbrev pub all_absent : Geometry → List BlockState
all_absent geo = list_from (λ _. state.Absent) 0 geo.blocks

none_at : (n count block unit : ℕ) → IsAt (list_from (λ _. state.Absent) n count) block unit → ⊥
none_at n zero block unit at = cc
none_at n (suc count) zero unit at = cc
none_at n (suc count) (suc block) unit at = none_at (suc n) count block unit at

none_named : (geo : Geometry) (n : ℕ) → IsNamed geo (all_absent geo) n → ⊥
none_named geo n named = none_at 0 geo.blocks named.block named.unit named.at

absent_is_map : (geo : Geometry) → IsMap (all_absent geo)
absent_is_map geo = record {
  within = λ block unit at. absurd (none_at 0 geo.blocks block unit at);
  apart = λ a b unit at_a at_b. absurd (none_at 0 geo.blocks a unit at_a);
}

module _ (geo : Geometry) (valid : IsValid geo) where
  -- a log that replays to zeros allocates nothing
  states_read-zeros : (image : ℕ → ℕ) → Replays (block_area geo) image (λ _. 0) → states_read geo image ≡ all_absent geo
  unfolding states_read
  states_read-zeros image replays =
      list_from-cong (λ b. state_of (replayed (block_area geo) image (place geo (of_block b)))) (λ _. state.Absent) 0 geo.blocks
      (λ b from to. ap state_of (replays.home (place geo (of_block b)) (block_is_home geo valid b (omega arith))))

  blocks_read-zeros : (bad : ℕ → Bool) (image : ℕ → ℕ) → Replays (block_area geo) image (λ _. 0) → blocks_read geo bad image ≡ map_read geo (λ _. false) (λ _. 0) (all_absent geo)
  unfolding blocks_read
  blocks_read-zeros bad image replays =
      ap (map_read geo bad image) (states_read-zeros image replays)
      ∙ map_read-same geo (λ _. false) bad (λ _. 0) image (all_absent geo) (λ n named. absurd (none_named geo n named)) (λ p named _. absurd (none_named geo (p / 8) named))

  all_zeros : Replays (block_area geo) (λ _. 0) (λ _. 0)
  all_zeros = replays_closed (block_area geo) (λ _. 0) (λ _. 0) refl (λ _ _. refl)

  -- the blocks of zeros
  pub zeros_absent : blocks_read geo (λ _. false) (λ _. 0) ≡ list_from (λ _. Absent) 0 geo.blocks
  zeros_absent = blocks_read-zeros (λ _. false) (λ _. 0) all_zeros ∙ all 0 geo.blocks
    where
      all : (n count : ℕ) → map_read geo (λ _. false) (λ _. 0) (list_from (λ _. state.Absent) n count) ≡ list_from (λ _. Absent) n count
      all n zero = refl
      all n (suc count) = ap (λ bs. Absent ∷ bs) (all (suc n) count)

  module _ (count : ℕ) (m : Medium) (total : count ≡ total_lines geo) (x : WritesBack (zeros count) m) where
    -- each word of a new device is 0
    zero_word : (p v : ℕ) → IsIn v (m.history p) → v ≡ 0
    zero_word p v at = zero_in (nat_lt (p / 8) count) (is_in-word_write_back false v ((zeros count).history p) (m.history p) (x.word_write_back p) at)
      where
        zero_in : (b : Bool) → IsIn v (if b then 0 ∷ [] else []) → v ≡ 0
        zero_in true at = is_in-one v 0 at
        zero_in false at = absurd at

    zeros_replay : (image : ℕ → ℕ) → IsBlockImage geo m image → Replays (block_area geo) image (λ _. 0)
    zeros_replay image is =
        let area = block_area geo in
        let word : (p : ℕ) → IsBlockPlace geo p → image p ≡ 0 = λ p of. torn-only 0 (image p) (m.history p) (zero_word p) (is p of (x.bad (p / 8))) in
        replays_closed area image (λ _. 0)
        (word (gate_place area) (area_is_block geo valid (gate_place area) (gate_of area m (area_fits geo valid m (x.count ∙ total)))))
        (λ p in_home. word p (area_is_block geo valid p (inr in_home)))

    pub zeros_read : EachReads geo m (λ bs. bs ≡ blocks_read geo (λ _. false) (λ _. 0))
    zeros_read image is =
        let replays = zeros_replay image is in
        let absent = sym (states_read-zeros image replays) in
        record {
          log = replays.valid;
          map = subst IsMap absent (absent_is_map geo);
          durable = λ block unit at p from to. absurd (none_at 0 geo.blocks block unit (subst (λ states. IsAt states block unit) (sym absent) at));
          blocks = blocks_read-zeros m.is_bad image replays ∙ sym (blocks_read-zeros (λ _. false) (λ _. 0) all_zeros);
        }

    pub zeros_readable : AreReadable geo m
    zeros_readable = each_reads-then geo m (λ bs. bs ≡ blocks_read geo (λ _. false) (λ _. 0)) (λ _. Unit {0}) (λ _ _. tt) zeros_read
