-- Parts of a read more, and parts of reads more.
use Rattle.std.proofs.Common.{◌≡◌, ℕ, ◌+◌, ◌-◌, ◌≤◌, ◌<◌, List, [], ◌∷◌, ◌++◌, map, take, length, get_or, sym, ap, ◌∙◌, append-nil, append_assoc, arith}
use Rattle.std.specs.List.{range_with_len}
use Rattle.std.proofs.lemmas.List.{take_more}
use Rattle.std.proofs.lemmas.List.FromFn.{map-range_with_len_more}
use Rattle.explorer.specs.ValueTables.Rows.{read_refusal}
use Rattle.word_tables.specs.declared.geometry.Geometry.{Geometry}
use Rattle.explorer.specs.AskedReads.declared.read.Read.{Read}
use Rattle.outcome_lists.specs.Parts.{parts_of_reads, parts_read, unless_refused, with_part, with_parts}
use Rattle.outcome_lists.proofs.PartOrderLemmas.{with_parts-append}

-- the next of a run of numbers
pub next_of_run : (f : ℕ → Read) (first n : ℕ) (before old : List Read) → first ≤ n → old ≡ with_parts before (map f (range_with_len first (n - first)))
    → with_part old (f n) ≡ with_parts before (map f (range_with_len first (n + 1 - first)))
next_of_run f first n before old le was =
    let place : first + (n - first) ≡ n = omega (arith, le) in
    let count : n - first + 1 ≡ n + 1 - first = omega (arith, le) in
    ap (λ found. with_part found (f n)) was
    ∙ sym (with_parts-append before (map f (range_with_len first (n - first))) (f n ∷ []))
    ∙ ap (with_parts before) (sym (map-range_with_len_more f first (n - first) n place))
    ∙ ap (λ k. with_parts before (map f (range_with_len first k))) count

-- of one read more
parts_behind : (geo : Geometry) (reads : List Read) (read : Read)
    → parts_of_reads geo (reads ++ read ∷ []) ≡ parts_of_reads geo reads ++ unless_refused (read_refusal geo read) (parts_read read)
parts_behind geo [] read = append-nil (unless_refused (read_refusal geo read) (parts_read read))
parts_behind geo (first ∷ reads) read =
    let parts = unless_refused (read_refusal geo first) (parts_read first) in
    ap (λ rest. parts ++ rest) (parts_behind geo reads read) ∙ sym (append_assoc parts (parts_of_reads geo reads) (unless_refused (read_refusal geo read) (parts_read read)))

pub next_read : (geo : Geometry) (reads : List Read) (i : ℕ) (read : Read) (old new : List Read) → i < length reads → read ≡ get_or reads i read
    → old ≡ with_parts [] (parts_of_reads geo (take i reads)) → new ≡ with_parts old (unless_refused (read_refusal geo read) (parts_read read))
    → new ≡ with_parts [] (parts_of_reads geo (take (i + 1) reads))
next_read geo reads i read old new lt is was more =
    let parts = unless_refused (read_refusal geo read) (parts_read read) in
    more ∙ ap (λ found. with_parts found parts) was
    ∙ sym (with_parts-append [] (parts_of_reads geo (take i reads)) parts)
    ∙ ap (with_parts []) (sym (parts_behind geo (take i reads) read))
    ∙ ap (λ r. with_parts [] (parts_of_reads geo (take i reads ++ r ∷ []))) is
    ∙ ap (λ l. with_parts [] (parts_of_reads geo l)) (sym (take_more reads i read lt))
