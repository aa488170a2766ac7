-- States that a program may begin in: what is read from an image in which nothing is wrong, and the machine as a run begins.
use Rattle.std.proofs.Common.{◌≡◌, ℕ, ◌<◌, false, Option, Some, None, List, [], refl, sym, ap, ◌∙◌, subst, arith}
use Rattle.std.specs.Option.{option_or}
use Rattle.line_device.specs.Panel.{Image}
use Rattle.word_tables.specs.declared.geometry.Geometry.{Geometry}
use Rattle.word_tables.specs.Bounds.{IsValid}
use Rattle.word_tables.specs.Layout.{total_lines, volume_line}
use Rattle.pm_volume.specs.Presence.{presence_read}
use Rattle.word_log.specs.Replay.{first_wrong}
use Rattle.file_journal.specs.Area.{file_area}
use Rattle.file_journal.specs.Reading.{tables_read, words_read, wrong_file_place, wrong_table}
use Rattle.file_journal.specs.Tables.{AreTables}
use Rattle.file_journal.proofs.TableReadLemmas.{right_tables}
use Rattle.machine_model.specs.Lines.{bad_metadata}
use Rattle.machine_model.specs.Machine.{Machine}
use Rattle.machine_model.specs.Restarting.{fresh, read_with, reading, zero_image}
use Rattle.durable.specs.Durable.{IsComplete}
use Rattle.durable.proofs.WholeLemmas.{whole-fresh, whole-reading}
use Rattle.recovery.proofs.ZeroFileLemmas.{words_all, words_at, zero_tables}
use Rattle.outcomes.specs.Finds.{IsReady}
use Rattle.outcome_runs.specs.Kept.{IsKept}
use Rattle.outcome_runs.proofs.ReadKeptLemmas.{blocks_whole, files_have, files_listed, pages_have}

second_none : (a b : Option ℕ) → option_or a b ≡ None → b ≡ None
second_none None b none = none
second_none (Some x) b none = cc none

module _ (geo : Geometry) (image : Image) (valid : IsValid geo) (count : image.count ≡ total_lines geo) where
  kept_tables : AreTables geo.fpages (tables_read geo image.word) → IsKept (read_with [] geo image)
  kept_tables are = record {
    valid = valid;
    blocks = blocks_whole geo image.is_bad image.word;
    values = pages_have (volume_line geo) image (presence_read geo image.word);
    file_values = files_have geo image;
    listed = files_listed geo image count are;
  }

  ready_read : IsComplete (read_with [] geo image) → IsReady (read_with [] geo image)
  ready_read whole = record { whole = whole; unit = refl; mode = refl; settled = refl; metadata = refl; failures = refl }

  reading_is : image.unit ≡ 8 → bad_metadata geo image.is_bad ≡ [] → reading geo image ≡ read_with [] geo image
  unfolding reading
  reading_is by_words good =
      ap (λ (lines : List ℕ). record (read_with lines geo image) { unit = image.unit }) good
      ∙ ap (λ (unit : ℕ). record (read_with [] geo image) { unit = unit }) by_words

  pub read_kept : image.unit ≡ 8 → bad_metadata geo image.is_bad ≡ [] → wrong_file_place geo image.word ≡ None → IsReady (reading geo image) × IsKept (reading geo image)
  read_kept by_words good none =
      let right = second_none (first_wrong (file_area geo) image.word) (wrong_table geo (words_read geo image.word)) none in
      let are = right_tables geo (words_read geo image.word) valid (words_all geo image.word) right in
      let is = reading_is by_words good in
      let whole = whole-reading geo image (read_with [] geo image) (ap (λ (m : Machine). record m { cut_armed = false; fail_armed = false }) (sym is)) in
      subst (λ (h : Machine). IsReady h × IsKept h) (sym is) (ready_read whole, kept_tables are)

zeros_right : (geo : Geometry) → wrong_table geo (words_read geo (λ _. 0)) ≡ None
zeros_right geo =
    let zero = λ (k : ℕ) (below : k < 16896). words_at geo (λ _. 0) refl k below in
    zero_tables geo (words_read geo (λ _. 0)) (words_all geo (λ _. 0)) (λ k below. zero k (omega (arith, below))) (λ k _ below. zero k below)

pub fresh_kept : (geo : Geometry) → IsValid geo → IsReady (fresh geo) × IsKept (fresh geo)
fresh_kept geo valid = (
  ready_read geo (zero_image (total_lines geo)) valid refl (whole-fresh geo (fresh geo) refl),
  kept_tables geo (zero_image (total_lines geo)) valid refl (right_tables geo (words_read geo (λ _. 0)) valid (words_all geo (λ _. 0)) (zeros_right geo)),
)
