-- The reads of a look, one after the other.
use Rattle.std.proofs.Common.{◌≡◌, ℕ, suc, ◌+◌, ◌<◌, true, List, ◌∷◌, ◌++◌, drop, drop-cons, get_or, length, map, sym, ap, ◌∙◌, append_assoc, arith}
use Rattle.std.specs.List.{list_all}
use Rattle.std.proofs.lemmas.Bool.{and_parts}
use Rattle.word_tables.specs.declared.geometry.Geometry.{Geometry}
use Rattle.cut_places.specs.AskedReads.declared.read.Read.{Read}
use Rattle.cut_places.specs.SeesFiles.{is_held}
use Rattle.cut_places.proofs.AllLemmas.{all_append}
use Rattle.value_tables.specs.Left.{Found}
use Rattle.value_tables.specs.Looking.{blocks_looked_at, blocks_touched, file_lines_looked_at, file_lines_touched, lines_looked_at, lines_touched, none_refused}
use Rattle.value_tables.specs.Rows.{read_refusal, row_text, rows_of_read, rows_text}
use Rattle.value_tables.specs.Sides.{HasRun}
use Rattle.value_tables.proofs.RowLemmas.{run_rest}

abbrev pub suc_is : (n : ℕ) → suc n ≡ n + 1
suc_is n = omega arith

module _ (geo : Geometry) (reads : List Read) (i : ℕ) (lt : i < length reads) (read : Read) (at_i : read ≡ get_or reads i read) where
  abbrev pub next : drop i reads ≡ read ∷ drop (i + 1) reads
  next = drop-cons reads i read lt ∙ ap (λ r. r ∷ drop (suc i) reads) (sym at_i) ∙ ap (λ n. read ∷ drop n reads) (suc_is i)

  module _ (numbers : List ℕ) (at : ℕ) where
    abbrev pub lines_next : drop at numbers ≡ lines_looked_at geo (drop i reads) → HasRun numbers at (none_refused (read_refusal geo read) (lines_touched read))
    lines_next is = record { others = lines_looked_at geo (drop (i + 1) reads); is = is ∙ ap (lines_looked_at geo) next }

    pub lines_after : (after : ℕ) → drop at numbers ≡ lines_looked_at geo (drop i reads) → after ≡ at + length (none_refused (read_refusal geo read) (lines_touched read))
        → drop after numbers ≡ lines_looked_at geo (drop (i + 1) reads)
    lines_after after is more =
        ap (λ n. drop n numbers) more ∙ run_rest numbers at (none_refused (read_refusal geo read) (lines_touched read)) (lines_next is)

    abbrev pub blocks_next : drop at numbers ≡ blocks_looked_at geo (drop i reads) → HasRun numbers at (none_refused (read_refusal geo read) (blocks_touched read))
    blocks_next is = record { others = blocks_looked_at geo (drop (i + 1) reads); is = is ∙ ap (blocks_looked_at geo) next }

    pub blocks_after : (after : ℕ) → drop at numbers ≡ blocks_looked_at geo (drop i reads) → after ≡ at + length (none_refused (read_refusal geo read) (blocks_touched read))
        → drop after numbers ≡ blocks_looked_at geo (drop (i + 1) reads)
    blocks_after after is more =
        ap (λ n. drop n numbers) more ∙ run_rest numbers at (none_refused (read_refusal geo read) (blocks_touched read)) (blocks_next is)

  -- lines of files that are held, of this read and of those behind it
  module _ (numbers : List ℕ) (held : list_all (is_held numbers) (file_lines_looked_at geo (drop i reads)) ≡ true) where
    of_both : (list_all (is_held numbers) (none_refused (read_refusal geo read) (file_lines_touched read)) ≡ true)
        × (list_all (is_held numbers) (file_lines_looked_at geo (drop (i + 1) reads)) ≡ true)
    of_both =
        and_parts (list_all (is_held numbers) (none_refused (read_refusal geo read) (file_lines_touched read)))
        (list_all (is_held numbers) (file_lines_looked_at geo (drop (i + 1) reads)))
        (sym (all_append (is_held numbers) (none_refused (read_refusal geo read) (file_lines_touched read)) (file_lines_looked_at geo (drop (i + 1) reads)))
        ∙ ap (λ r. list_all (is_held numbers) (file_lines_looked_at geo r)) (sym next) ∙ held)

    pub files_next : list_all (is_held numbers) (none_refused (read_refusal geo read) (file_lines_touched read)) ≡ true
    files_next = of_both.0

    pub files_after : list_all (is_held numbers) (file_lines_looked_at geo (drop (i + 1) reads)) ≡ true
    files_after = of_both.1

  pub rows_after : (may : Found) (old new whole : List (List ℕ)) → old ++ rows_text may (i + 1) geo (drop i reads) ≡ whole
      → new ≡ old ++ map (row_text may (i + 1)) (rows_of_read geo read) → new ++ rows_text may (i + 1 + 1) geo (drop (i + 1) reads) ≡ whole
  rows_after may old new whole is more =
      ap (λ l. l ++ rows_text may (i + 1 + 1) geo (drop (i + 1) reads)) more
      ∙ append_assoc old (map (row_text may (i + 1)) (rows_of_read geo read)) (rows_text may (i + 1 + 1) geo (drop (i + 1) reads))
      ∙ ap (λ n. old ++ (map (row_text may (i + 1)) (rows_of_read geo read) ++ rows_text may n geo (drop (i + 1) reads))) (sym (suc_is (i + 1)))
      ∙ ap (λ r. old ++ rows_text may (i + 1) geo r) (sym next)
      ∙ is
