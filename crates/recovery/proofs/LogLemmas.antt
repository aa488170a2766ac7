-- The logs of a device, and where they lie.
use Rattle.std.proofs.Common.{◌≡◌, ◌⊎◌, inl, inr, ℕ, ◌/◌, ◌<◌, ◌≤◌, sym, ◌∙◌, subst, arith}
use Rattle.line_device.specs.Medium.{Medium, WritesBack}
use Rattle.line_words.specs.Words.{WritesBackOutside}
use Rattle.line_words.proofs.FrameLemmas.{outside-write_back}
use Rattle.word_tables.specs.declared.geometry.Geometry.{Geometry}
use Rattle.word_tables.specs.Bounds.{IsValid}
use Rattle.word_tables.specs.Layout.{first_line, size, meta_lines}
use Rattle.word_log.specs.declared.area.LogArea.{LogArea}
use Rattle.word_log.specs.Area.{Fits, IsOf, IsStrong, IsWhole}
use Rattle.block_device.specs.Area.{block_area}
use Rattle.block_device.proofs.PlaceLemmas as blocks
use Rattle.pm_volume.specs.Area.{volume_area}
use Rattle.pm_volume.proofs.AreaLemmas as pages
use Rattle.file_journal.specs.Area.{file_area}
use Rattle.file_journal.proofs.AreaLemmas as files
use Rattle.recovery.specs.Mounting.{IsInOrder, IsOfLogs}

-- the area is that of one of the logs
abbrev pub IsLogOf : Geometry → LogArea → Type 0
IsLogOf geo a = (a ≡ block_area geo) ⊎ (a ≡ volume_area geo) ⊎ (a ≡ file_area geo)

module _ (geo : Geometry) (valid : IsValid geo) where
  -- no two of them have a word in common
  pub blocks_volume : (p : ℕ) → IsOf (block_area geo) p → IsOf (volume_area geo) p → ⊥
  unfolding first_line size
  blocks_volume p block page =
      elim block as (λ _. ⊥) [
        | inl log ↦ elim page as (λ _. ⊥) [ inl other ↦ omega (arith, log, other) | inr home ↦ omega (arith, log, home) ]
        | inr map ↦ elim page as (λ _. ⊥) [ inl other ↦ omega (arith, map, other) | inr home ↦ omega (arith, map, home) ]
      ]

  pub blocks_files : (p : ℕ) → IsOf (block_area geo) p → IsOf (file_area geo) p → ⊥
  unfolding first_line size
  blocks_files p block file =
      elim block as (λ _. ⊥) [
        | inl log ↦ elim file as (λ _. ⊥) [ inl other ↦ omega (arith, log, other) | inr home ↦ omega (arith, log, home) ]
        | inr map ↦ elim file as (λ _. ⊥) [ inl other ↦ omega (arith, map, other) | inr home ↦ omega (arith, map, home) ]
      ]

  pub volume_files : (p : ℕ) → IsOf (volume_area geo) p → IsOf (file_area geo) p → ⊥
  unfolding first_line size
  volume_files p page file =
      elim page as (λ _. ⊥) [
        | inl log ↦ elim file as (λ _. ⊥) [ inl other ↦ omega (arith, log, other) | inr home ↦ omega (arith, log, home) ]
        | inr words ↦ elim file as (λ _. ⊥) [ inl other ↦ omega (arith, words, other) | inr home ↦ omega (arith, words, home) ]
      ]

-- they lie behind the first line
pub logs_behind : (geo : Geometry) (p : ℕ) → IsOfLogs geo p → 8 ≤ p
unfolding first_line
logs_behind geo p of =
    elim of as (λ _. 8 ≤ p) [
      | inl block ↦ elim block as (λ _. 8 ≤ p) [ inl log ↦ omega (arith, log) | inr home ↦ omega (arith, home) ]
      | inr rest ↦
          elim rest as (λ _. 8 ≤ p) [
            | inl page ↦ elim page as (λ _. 8 ≤ p) [ inl log ↦ omega (arith, log) | inr home ↦ omega (arith, home) ]
            | inr file ↦ elim file as (λ _. 8 ≤ p) [ inl log ↦ omega (arith, log) | inr home ↦ omega (arith, home) ]
          ]
    ]

-- and in the metadata
pub logs_in_metadata : (geo : Geometry) → IsValid geo → (p : ℕ) → IsOfLogs geo p → p / 8 < meta_lines geo
logs_in_metadata geo valid p of =
    elim of as (λ _. p / 8 < meta_lines geo) [
      | inl block ↦ blocks.area_in_metadata geo valid p block
      | inr rest ↦
          elim rest as (λ _. p / 8 < meta_lines geo) [
            | inl page ↦ pages.area_in_metadata geo valid p page
            | inr file ↦ files.area_in_metadata geo valid p file
          ]
    ]

-- where other words are only written back, the device stays in order
pub in_order-outside : (geo : Geometry) (inside : ℕ → Type 0) (now new : Medium) → IsInOrder geo now → WritesBackOutside inside now new → IsInOrder geo new
in_order-outside geo inside now new order x = record {
  valid = order.valid;
  count = x.count ∙ order.count;
  good = λ n below. x.bad n ∙ order.good n below;
  strong = λ n below. x.weak n ∙ order.strong n below;
}

pub in_order-write_back : (geo : Geometry) (now new : Medium) → IsInOrder geo now → WritesBack now new → IsInOrder geo new
in_order-write_back geo now new order x = in_order-outside geo (λ _. ⊥) now new order (outside-write_back (λ _. ⊥) now new x)

-- each log
module _ (geo : Geometry) (a : LogArea) (is : IsLogOf geo a) where
  pub of_each : (P : LogArea → Type 0) → P (block_area geo) → P (volume_area geo) → P (file_area geo) → P a
  of_each P block page file =
      elim is as (λ _. P a) [ inl b ↦ subst P (sym b) block | inr rest ↦ elim rest as (λ _. P a) [ inl v ↦ subst P (sym v) page | inr f ↦ subst P (sym f) file ] ]

  pub log_fits : (m : Medium) → IsInOrder geo m → Fits a m
  log_fits m order =
      of_each (λ b. Fits b m) (blocks.area_fits geo order.valid m order.count) (pages.area_fits geo order.valid m order.count) (files.area_fits geo order.valid m order.count)

  pub log_strong : (m : Medium) → IsInOrder geo m → IsStrong a m
  log_strong m order =
      of_each (λ b. IsStrong b m) (blocks.area_strong geo order.valid m order.strong) (pages.area_strong geo order.valid m order.strong) (files.area_strong geo order.valid m order.strong)

  pub log_whole : (m : Medium) → IsInOrder geo m → IsWhole a m
  log_whole m order =
      of_each (λ b. IsWhole b m) (blocks.area_whole geo order.valid m order.good) (pages.area_whole geo order.valid m order.good) (files.area_whole geo order.valid m order.good)
