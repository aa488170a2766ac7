-- The log that pages have, by their lines.
use Rattle.std.proofs.Common.{◌≡◌, inl, ℕ, zero, suc, ◌+◌, ◌*◌, ◌<◌, ◌≤◌, Bool, true, false, cond, nat_lt, Option, Some, None, option_map, option_and_then, List, [], ◌∷◌, ◌++◌, length, length-append, refl, sym, ap, ◌∙◌, arith}
use Rattle.std.proofs.lemmas.Bool.{lt-ltb, ltb-true}
use Rattle.std.proofs.lemmas.Option.{none-some, same_Some}
use Rattle.line_device.specs.Word.{word_at}
use Rattle.nvm_model.specs.Numbered.{list_from}
use Rattle.nvm_model.specs.Page.{Page, cell_of}
use Rattle.nvm_model.proofs.NumberedLemmas.{length-list_from}
use Rattle.pm_volume.specs.Left.{IsDurable, IsKeptLine, MayLeave}
use Rattle.pm_volume.specs.Line.{line_in}
use Rattle.append_log.specs.Lines.{count_in, entries, entry_in, log_of, record_of}
use Rattle.append_log.specs.Log.{LogStands}
use Rattle.pm_volume.proofs.LineLemmas.{kept-durable, kept-reads}
use Rattle.pm_volume.proofs.RestartLemmas.{restart-keeps}

-- lists by number
same-numbered : {A : Type 0} (f g : ℕ → A) (n count : ℕ) → ((k : ℕ) → n ≤ k → k < n + count → f k ≡ g k) → list_from f n count ≡ list_from g n count
same-numbered f g n zero h = refl
same-numbered f g n (suc count) h =
    let head : f n ≡ g n = h n (omega arith) (omega arith) in
    let rest : list_from f (suc n) count ≡ list_from g (suc n) count = same-numbered f g (suc n) count (λ k from to. h k (omega arith) (omega arith)) in
    cc

numbered-more : {A : Type 0} (f : ℕ → A) (n count : ℕ) → list_from f n (count + 1) ≡ list_from f n count ++ f (n + count) ∷ []
numbered-more f n zero = let e : n + 0 ≡ n = omega arith in rw e refl
numbered-more f n (suc count) =
    let more : suc count + 1 ≡ suc (count + 1) = omega arith in
    let e : n + suc count ≡ suc n + count = omega arith in
    rw (more, e) (ap (λ xs. f n ∷ xs) (numbered-more f (suc n) count))

-- the records of pages, from line 1 on
unfoldable pub records : List Page → ℕ → List (Option (List ℕ))
records pages count = list_from (λ n. entry_in (cell_of pages n)) 1 count

-- A log is as many records as line 0 has.
pub log-of_count : (pages : List Page) (count : ℕ) → count_in (cell_of pages 0) ≡ Some count → count < 64 * length pages → log_of pages ≡ Some (records pages count)
unfolding log_of records
log-of_count pages count is within =
    ap (option_and_then (entries pages)) is ∙ ap (λ t. cond t (Some (list_from (λ n. entry_in (cell_of pages n)) 1 count)) None) (lt-ltb count (64 * length pages) within)

pub record IsCounted (pages : List Page) (log : List (Option (List ℕ))) : Type 0 where
  pub count : count_in (cell_of pages 0) ≡ Some (length log)
  pub within : length log < 64 * length pages
  pub are : records pages (length log) ≡ log

pub log-counted : (pages : List Page) (log : List (Option (List ℕ))) → log_of pages ≡ Some log → IsCounted pages log
unfolding log_of records
log-counted pages log is = by_count (count_in (cell_of pages 0)) refl is
  where
    by_test : (n : ℕ) (t : Bool) → nat_lt n (64 * length pages) ≡ t → count_in (cell_of pages 0) ≡ Some n
        → cond t (Some (list_from (λ k. entry_in (cell_of pages k)) 1 n)) None ≡ Some log → IsCounted pages log
    by_test n false test found none = absurd (none-some log none)
    by_test n true test found some =
        let same : list_from (λ k. entry_in (cell_of pages k)) 1 n ≡ log = same_Some _ _ some in
        let size : n ≡ length log = sym (length-list_from (λ k. entry_in (cell_of pages k)) 1 n) ∙ ap length same in
        record {
          count = found ∙ ap Some size;
          within = omega (arith, ltb-true n (64 * length pages) test, size);
          are = ap (list_from (λ k. entry_in (cell_of pages k)) 1) (sym size) ∙ same;
        }

    by_count : (o : Option ℕ) → count_in (cell_of pages 0) ≡ o → option_and_then (entries pages) o ≡ Some log → IsCounted pages log
    by_count None found none = absurd (none-some log none)
    by_count (Some n) found some = by_test n (nat_lt n (64 * length pages)) refl found some

-- the same records where their lines read the same
pub same-records : (old new : List Page) (count : ℕ) → ((n : ℕ) → 1 ≤ n → n ≤ count → line_in (cell_of new n) ≡ line_in (cell_of old n)) → records new count ≡ records old count
unfolding records
same-records old new count same =
    same-numbered (λ n. entry_in (cell_of new n)) (λ n. entry_in (cell_of old n)) 1 count (λ n from to. ap (option_and_then record_of) (same n from (omega arith)))

pub records-more : (pages : List Page) (count : ℕ) → records pages (count + 1) ≡ records pages count ++ entry_in (cell_of pages (1 + count)) ∷ []
unfolding records
records-more pages count = numbered-more (λ n. entry_in (cell_of pages n)) 1 count

-- The log stands where its count and its records read the same,
pub stands-counted : (old new : List Page) (log : List (Option (List ℕ))) → length new ≡ length old → count_in (cell_of new 0) ≡ count_in (cell_of old 0)
    → ((n : ℕ) → 1 ≤ n → n ≤ length log → line_in (cell_of new n) ≡ line_in (cell_of old n)) → ((n : ℕ) → n ≤ length log → IsDurable (cell_of new n))
    → LogStands old log → LogStands new log
stands-counted old new log size count same durable stands =
    let was = log-counted old log stands.reads in
    record {
      reads =
          log-of_count new (length log) (count ∙ was.count) (omega (arith, was.within, size))
          ∙ ap Some (same-records old new (length log) same ∙ was.are);
      durable = durable;
    }

-- as where none of its lines changed,
pub stands-kept : (old new : List Page) (log : List (Option (List ℕ))) → length new ≡ length old → ((n : ℕ) → n ≤ length log → IsKeptLine (cell_of old n) (cell_of new n))
    → LogStands old log → LogStands new log
stands-kept old new log size kept stands =
    stands-counted old new log size (ap (option_map (λ bytes. word_at bytes 0)) (kept-reads _ _ (kept 0 (omega arith)))) (λ n from to. kept-reads _ _ (kept n to))
    (λ n to. kept-durable _ _ (kept n to) (stands.durable n to)) stands

-- and after a restart.
pub stands-left : (unit : ℕ) (pages left : List Page) (log : List (Option (List ℕ))) → length left ≡ length pages → MayLeave unit pages left → LogStands pages log → LogStands left log
stands-left unit pages left log size may stands =
    stands-kept pages left log size (λ n to. inl (restart-keeps unit pages left n (stands.durable n to) may)) stands

-- One record more is there once line 0 counts it.
pub stands-more : (old new : List Page) (log : List (Option (List ℕ))) (bytes : List ℕ) → length log + 1 < 64 * length new
    → ((n : ℕ) → 1 ≤ n → n ≤ length log → line_in (cell_of new n) ≡ line_in (cell_of old n)) → entry_in (cell_of new (1 + length log)) ≡ Some bytes
    → count_in (cell_of new 0) ≡ Some (length log + 1) → ((n : ℕ) → n ≤ length log + 1 → IsDurable (cell_of new n)) → LogStands old log
    → LogStands new (log ++ Some bytes ∷ [])
stands-more old new log bytes within same entry count durable stands =
    let was = log-counted old log stands.reads in
    let size : length (log ++ Some bytes ∷ []) ≡ length log + 1 = length-append log (Some bytes ∷ []) in
    record {
      reads =
          log-of_count new (length log + 1) count within
          ∙ ap Some (records-more new (length log) ∙ ap (λ xs. xs ++ entry_in (cell_of new (1 + length log)) ∷ []) (same-records old new (length log) same ∙ was.are)
          ∙ ap (λ e. log ++ e ∷ []) entry);
      durable = λ n to. durable n (omega (arith, to, size));
    }
