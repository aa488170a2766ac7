-- An append, in two writes: what stands after it, and what a cut leaves.
use Rattle.std.proofs.Common.{◌≡◌, ◌⊎◌, inl, inr, ℕ, ◌+◌, ◌*◌, ◌<◌, ◌≤◌, Option, Some, option_map, option_and_then, List, [], ◌∷◌, ◌++◌, length, get_or, ap, subst, ◌∙◌, arith}
use Rattle.std.proofs.lemmas.Bool.{cases_lt}
use Rattle.line_device.specs.Medium.{Medium}
use Rattle.line_device.specs.Word.{word_at}
use Rattle.nvm_model.specs.Page.{Page, PagesStand, cell_of, fill}
use Rattle.pm_volume.specs.Left.{IsDurable, IsKeptLine, MayLeave}
use Rattle.pm_volume.specs.Line.{line_in}
use Rattle.append_log.specs.Lines.{entry_in, record_of}
use Rattle.append_log.specs.Log.{LogStands}
use Rattle.pm_volume.specs.Line.{MayWrite, written_line}
use Rattle.pm_volume.proofs.LeftLemmas.{has_words}
use Rattle.pm_volume.proofs.LineLemmas.{IsStrong, kept-durable, kept-reads, stored-strong, written-durable, written-reads}
use Rattle.append_log.proofs.LogLemmas.{stands-counted, stands-kept, stands-left, stands-more}
use Rattle.pm_volume.proofs.RestartLemmas.{restart-durable, restart-keeps}
use Rattle.pm_volume.proofs.WriteLemmas.{length-left, length-may_write, length-written, may_write-count, may_write-keeps, written-keeps}

-- before line 0 counts the record, the log is as it was
module _ (place : ℕ → ℕ) (m : Medium) (pages : List Page) (log : List (Option (List ℕ))) (stand : PagesStand place m pages) (stands : LogStands pages log)
    (line : List ℕ) (whole : length line ≡ 64) where
  pub record-left : (new left : List Page) → MayWrite (length log + 1) line pages new → MayLeave 8 new left → LogStands left log
  record-left new left may leaves =
      stands-left 8 new left log (length-left 8 new left leaves) leaves
      (stands-kept pages new log (length-may_write (length log + 1) line pages new may)
      (λ n to. may_write-keeps (length log + 1) line whole pages new n (λ is. absurd (omega (arith, to, is))) (has_words place m pages stand n) may) stands)

  pub record-written : LogStands (written_line (length log + 1) line pages) log
  record-written =
      stands-kept pages (written_line (length log + 1) line pages) log (length-written (length log + 1) line pages)
      (λ n to. written-keeps (length log + 1) line whole pages n (λ is. absurd (omega (arith, to, is))) (has_words place m pages stand n)) stands

-- and then the old one or the new one.
module _ (place : ℕ → ℕ) (m : Medium) (pages : List Page) (log : List (Option (List ℕ))) (stand : PagesStand place m pages) (stands : LogStands pages log)
    (bytes count : List ℕ) (whole : length count ≡ 64) (small : (k : ℕ) → get_or count k 0 < 256) (counts : word_at count 0 ≡ length log + 1)
    (within : length log + 1 < 64 * length pages) (strong : IsStrong (fill (64 * 0) 64 pages) 0) (durable : IsDurable (cell_of pages (1 + length log)))
    (entry : entry_in (cell_of pages (1 + length log)) ≡ Some bytes) where
  lasts : (n : ℕ) → n ≤ length log + 1 → IsDurable (cell_of pages n)
  lasts n to =
      elim (cases_lt n (length log + 1)) as (λ _. IsDurable (cell_of pages n)) [
        | inl here ↦ stands.durable n (omega (arith, here))
        | inr last ↦ let same : 1 + length log ≡ n = omega (arith, to, last) in subst (λ k. IsDurable (cell_of pages k)) same durable
      ]

  pub count-left : (new left : List Page) → MayWrite 0 count pages new → MayLeave 8 new left → LogStands left log ⊎ LogStands left (log ++ Some bytes ∷ [])
  count-left new left may leaves =
      elim (may_write-count 0 count pages new left whole small strong (stands.durable 0 (omega arith)) may leaves) as (λ _. LogStands left log ⊎ LogStands left (log ++ Some bytes ∷ [])) [
        | inl old ↦ inl (stands-counted pages left log size old (λ n from to. same n from (omega (arith, to))) (λ n to. restart-durable 8 new left n leaves) stands)
        | inr more ↦
            inr (stands-more pages left log bytes (omega (arith, within, size)) (λ n from to. same n from (omega (arith, to)))
            (ap (option_and_then record_of) (same (1 + length log) (omega arith) (omega arith)) ∙ entry) (more ∙ ap Some counts)
            (λ n to. restart-durable 8 new left n leaves) stands)
      ]
    where
      size : length left ≡ length pages
      size = length-left 8 new left leaves ∙ length-may_write 0 count pages new may

      kept : (n : ℕ) → 1 ≤ n → IsKeptLine (cell_of pages n) (cell_of new n)
      kept n from = may_write-keeps 0 count whole pages new n (λ is. absurd (omega (arith, from, is))) (has_words place m pages stand n) may

      same : (n : ℕ) → 1 ≤ n → n ≤ length log + 1 → line_in (cell_of left n) ≡ line_in (cell_of pages n)
      same n from to =
          ap line_in (restart-keeps 8 new left n (kept-durable _ _ (kept n from) (lasts n to)) leaves) ∙ kept-reads _ _ (kept n from)

  pub count-written : LogStands (written_line 0 count pages) (log ++ Some bytes ∷ [])
  count-written =
      stands-more pages (written_line 0 count pages) log bytes (omega (arith, within, length-written 0 count pages)) (λ n from to. kept-reads _ _ (kept n from))
      (ap (option_and_then record_of) (kept-reads _ _ (kept (1 + length log) (omega arith))) ∙ entry)
      (ap (option_map (λ bs. word_at bs 0)) (written-reads pages 0 count whole small strong) ∙ ap Some counts) durable_new stands
    where
      kept : (n : ℕ) → 1 ≤ n → IsKeptLine (cell_of pages n) (cell_of (written_line 0 count pages) n)
      kept n from = written-keeps 0 count whole pages n (λ is. absurd (omega (arith, from, is))) (has_words place m pages stand n)

      durable_new : (n : ℕ) → n ≤ length log + 1 → IsDurable (cell_of (written_line 0 count pages) n)
      durable_new n to =
          elim (cases_lt n 1) as (λ _. IsDurable (cell_of (written_line 0 count pages) n)) [
            | inl none ↦
                let first : 0 ≡ n = omega (arith, none) in
                subst (λ k. IsDurable (cell_of (written_line 0 count pages) k)) first (written-durable pages 0 count (stored-strong pages 0 count strong))
            | inr some ↦ kept-durable _ _ (kept n (omega (arith, some))) (lasts n to)
          ]
