-- The logs are replayed one after another.
use Rattle.std.proofs.Common.{◌≡◌, ℕ, ◌+◌, ◌*◌, ◌/◌, List, None, sym, subst, arith}
use Rattle.line_device.specs.Medium.{Medium, last_image}
use Rattle.line_device.specs.Panel.{Outcome, Panel, Runs}
use Rattle.line_device.specs.Panel.Outcome.{went}
use Rattle.line_device.proofs.PanelLemmas.{runs_then, runs_within}
use Rattle.line_words.specs.Words.{WritesBackOutside}
use Rattle.word_tables.specs.declared.geometry.Geometry.{Geometry}
use Rattle.word_log.specs.declared.area.LogArea.{LogArea}
use Rattle.word_log.specs.Area.{AreHomeWords, IsOf}
use Rattle.word_log.specs.Replay.{Replays, first_wrong, replayed}
use Rattle.word_log.specs.Rest.{IsAtRest}
use Rattle.word_log.proofs.RestLemmas.{rest-elsewhere}
use Rattle.block_device.specs.Area.{block_area}
use Rattle.block_device.proofs.PlaceLemmas as blocks
use Rattle.pm_volume.specs.Area.{volume_area}
use Rattle.pm_volume.proofs.AreaLemmas as pages
use Rattle.file_journal.specs.Area.{file_area}
use Rattle.file_journal.proofs.AreaLemmas as files
use Rattle.recovery.specs.Findings.{wrong_log}
use Rattle.recovery.specs.Mounting.{IsInOrder}
use Rattle.recovery.proofs.FindingLemmas.{logs_right}
use Rattle.recovery.proofs.LogLemmas.{blocks_files, blocks_volume, in_order-outside, volume_files}
use Rattle.recovery.proofs.LeaveLemmas.{replays_still, replays_twice, rest_told, words_told}

-- what is right of an area is right of another name for it
pub right_at : (a b : LogArea) (word : ℕ → ℕ) → a ≡ b → first_wrong b word ≡ None → first_wrong a word ≡ None
right_at a b word is right = subst (λ c. first_wrong c word ≡ None) (sym is) right

module _ (geo : Geometry) (old mid : Medium) (order : IsInOrder geo old) (right : wrong_log geo (last_image old) ≡ None) (b : LogArea) (is_b : b ≡ block_area geo) (x : WritesBackOutside (IsOf b) old mid) where
  beside_blocks : WritesBackOutside (IsOf (block_area geo)) old mid
  beside_blocks = subst (λ a. WritesBackOutside (IsOf a) old mid) is_b x

  -- after the blocks' log
  pub mid_order : IsInOrder geo mid
  mid_order = in_order-outside geo (IsOf b) old mid order x

  volume_still : Replays (volume_area geo) (last_image mid) (replayed (volume_area geo) (last_image old))
  volume_still =
      replays_still (volume_area geo) (IsOf (block_area geo)) old mid beside_blocks (λ p page block. blocks_volume geo order.valid p block page) (pages.area_shaped geo order.valid)
      (logs_right geo (last_image old) right).1

  pub volume_right : first_wrong (volume_area geo) (last_image mid) ≡ None
  volume_right = volume_still.valid

  pub map_words : (ws : List ℕ) → AreHomeWords b (replayed b (last_image old)) ws → AreHomeWords (block_area geo) (replayed (block_area geo) (last_image old)) ws
  map_words ws are = subst (λ a. AreHomeWords a (replayed a (last_image old)) ws) is_b are

  module _ (late : Medium) (v : LogArea) (is_v : v ≡ volume_area geo) (y : WritesBackOutside (IsOf v) mid late) where
    beside_volume : WritesBackOutside (IsOf (volume_area geo)) mid late
    beside_volume = subst (λ a. WritesBackOutside (IsOf a) mid late) is_v y

    -- and after the volume's
    pub late_order : IsInOrder geo late
    late_order = in_order-outside geo (IsOf v) mid late mid_order y

    files_still : Replays (file_area geo) (last_image late) (replayed (file_area geo) (last_image old))
    files_still =
        let first = replays_still (file_area geo) (IsOf (block_area geo)) old mid beside_blocks (λ p file block. blocks_files geo order.valid p block file) (files.area_shaped geo order.valid)
        (logs_right geo (last_image old) right).2 in
        replays_twice (file_area geo) (last_image old) (last_image mid) first (last_image late)
        (replays_still (file_area geo) (IsOf (volume_area geo)) mid late beside_volume (λ p file page. volume_files geo order.valid p page file) (files.area_shaped geo order.valid) first.valid)

    pub files_right : first_wrong (file_area geo) (last_image late) ≡ None
    files_right = files_still.valid

    pub presence_words : (ws : List ℕ) → AreHomeWords v (replayed v (last_image mid)) ws → AreHomeWords (volume_area geo) (replayed (volume_area geo) (last_image old)) ws
    presence_words ws are =
        words_told (volume_area geo) (last_image old) (last_image mid) volume_still ws (subst (λ a. AreHomeWords a (replayed a (last_image mid)) ws) is_v are)

    module _ (f : LogArea) (is_f : f ≡ file_area geo) where
      pub file_words : (ws : List ℕ) → AreHomeWords f (replayed f (last_image late)) ws → AreHomeWords (file_area geo) (replayed (file_area geo) (last_image old)) ws
      file_words ws are =
          words_told (file_area geo) (last_image old) (last_image late) files_still ws (subst (λ a. AreHomeWords a (replayed a (last_image late)) ws) is_f are)

      -- and in the end
      module _ (new : Medium) (z : WritesBackOutside (IsOf f) late new) where
        beside_files : WritesBackOutside (IsOf (file_area geo)) late new
        beside_files = subst (λ a. WritesBackOutside (IsOf a) late new) is_f z

        pub blocks_rest : IsAtRest b mid (replayed b (last_image old)) → IsAtRest (block_area geo) new (replayed (block_area geo) (last_image old))
        blocks_rest rest =
            let words = replayed (block_area geo) (last_image old) in
            rest-elsewhere (block_area geo) (IsOf (file_area geo)) words late new (blocks_files geo order.valid) (blocks.area_fits geo order.valid late late_order.count)
            (rest-elsewhere (block_area geo) (IsOf (volume_area geo)) words mid late (blocks_volume geo order.valid) (blocks.area_fits geo order.valid mid mid_order.count)
            (subst (λ a. IsAtRest a mid (replayed a (last_image old))) is_b rest) beside_volume)
            beside_files

        pub volume_rest : IsAtRest v late (replayed v (last_image mid)) → IsAtRest (volume_area geo) new (replayed (volume_area geo) (last_image old))
        volume_rest rest =
            rest-elsewhere (volume_area geo) (IsOf (file_area geo)) (replayed (volume_area geo) (last_image old)) late new (volume_files geo order.valid)
            (pages.area_fits geo order.valid late late_order.count)
            (rest_told (volume_area geo) (last_image old) (last_image mid) volume_still late (subst (λ a. IsAtRest a late (replayed a (last_image mid))) is_v rest))
            beside_files

        pub files_rest : IsAtRest f new (replayed f (last_image late)) → IsAtRest (file_area geo) new (replayed (file_area geo) (last_image old))
        files_rest rest =
            rest_told (file_area geo) (last_image old) (last_image late) files_still new (subst (λ a. IsAtRest a new (replayed a (last_image late))) is_f rest)

-- calls of one log, of two, and of all
module _ (geo : Geometry) (e : Outcome) where
  pub runs_one : (p q : Panel) → Runs (geo.blocks / 4 + 279) (geo.blocks / 8 + 84) e p q → Runs (geo.blocks / 4 + 6761 + 2 * ((geo.vpages + 7) / 8)) (geo.blocks / 8 + 2864 + (geo.vpages + 7) / 8) e p q
  runs_one p q x =
      runs_within (geo.blocks / 4 + 279) (geo.blocks / 8 + 84) (geo.blocks / 4 + 6761 + 2 * ((geo.vpages + 7) / 8)) (geo.blocks / 8 + 2864 + (geo.vpages + 7) / 8) e p q x (omega arith) (omega arith)

  pub runs_two : (p q r : Panel) → Runs (geo.blocks / 4 + 279) (geo.blocks / 8 + 84) went p q → Runs (1095 + 2 * ((geo.vpages + 7) / 8)) (324 + (geo.vpages + 7) / 8) e q r
      → Runs (geo.blocks / 4 + 6761 + 2 * ((geo.vpages + 7) / 8)) (geo.blocks / 8 + 2864 + (geo.vpages + 7) / 8) e p r
  runs_two p q r x y =
      runs_within (geo.blocks / 4 + 279 + (1095 + 2 * ((geo.vpages + 7) / 8))) (geo.blocks / 8 + 84 + (324 + (geo.vpages + 7) / 8))
      (geo.blocks / 4 + 6761 + 2 * ((geo.vpages + 7) / 8)) (geo.blocks / 8 + 2864 + (geo.vpages + 7) / 8) e p r
      (runs_then (geo.blocks / 4 + 279) (geo.blocks / 8 + 84) (1095 + 2 * ((geo.vpages + 7) / 8)) (324 + (geo.vpages + 7) / 8) e p q r x y)
      (omega arith) (omega arith)

  pub runs_all : (p q r s : Panel) → Runs (geo.blocks / 4 + 279) (geo.blocks / 8 + 84) went p q → Runs (1095 + 2 * ((geo.vpages + 7) / 8)) (324 + (geo.vpages + 7) / 8) went q r → Runs 5387 2456 e r s
      → Runs (geo.blocks / 4 + 6761 + 2 * ((geo.vpages + 7) / 8)) (geo.blocks / 8 + 2864 + (geo.vpages + 7) / 8) e p s
  runs_all p q r s x y z =
      runs_within (geo.blocks / 4 + 279 + (1095 + 2 * ((geo.vpages + 7) / 8) + 5387)) (geo.blocks / 8 + 84 + (324 + (geo.vpages + 7) / 8 + 2456))
      (geo.blocks / 4 + 6761 + 2 * ((geo.vpages + 7) / 8)) (geo.blocks / 8 + 2864 + (geo.vpages + 7) / 8) e p s
      (runs_then (geo.blocks / 4 + 279) (geo.blocks / 8 + 84) (1095 + 2 * ((geo.vpages + 7) / 8) + 5387) (324 + (geo.vpages + 7) / 8 + 2456) e p q s x
      (runs_then (1095 + 2 * ((geo.vpages + 7) / 8)) (324 + (geo.vpages + 7) / 8) 5387 2456 e q r s y z))
      (omega arith) (omega arith)
