-- Numbers of lines that are held, one more each time.
use Rattle.std.proofs.Common.{◌≡◌, ◌==◌, ◌||◌, ◌+◌, ◌-◌, ◌≤◌, ◌<◌, ℕ, Bool, true, false, List, [], ◌∷◌, ◌++◌, zero, suc, get_or, length, map, take, nat_lt, cond, Result, Ok, Err, refl, sym, ap, ◌∙◌, inl, inr, ◌⊎◌, arith}
use Rattle.std.specs.List.{list_all, range_with_len}
use Rattle.std.specs.Ordering.{match_ordering, nat_cmp}
use Rattle.std.specs.Result.{OnOk, is_ok}
use Rattle.std.specs.BTreeSet.{insert_key}
use Rattle.std.specs.declared.cmp.Ordering.{Ordering}
use Rattle.std.specs.declared.cmp.Ordering.TheVariants.{Less, Equal, Greater}
use Rattle.std.proofs.lemmas.Bool.{and_from, and_parts, cases_lt, eq-eqb, eqb-true}
use Rattle.std.proofs.lemmas.List.{map-append, take_more}
use Rattle.std.proofs.lemmas.List.Folds.{list_all-append}
use Rattle.cut_places.specs.Outcomes.Files.{FileRead}
use Rattle.cut_places.specs.Outcomes.Pages.{lines_read}
use Rattle.cut_places.specs.AskedReads.declared.reads.FileRead.{FileRead as Asked}
use Rattle.cut_places.specs.AskedReads.Reads.{file_read, file_reads_asked}
use Rattle.cut_places.specs.SeesFiles.{are_held, is_held}
use Rattle.cut_places.proofs.AllLemmas.{range_so}

-- the first of them, and a later one
held_first : (x n : ℕ) (xs : List ℕ) → x ≡ n → is_held (x ∷ xs) n ≡ true
held_first x n xs same = ap (λ b. b || is_held xs n) (eq-eqb x n same)

held_later : (x n : ℕ) (xs : List ℕ) → is_held xs n ≡ true → is_held (x ∷ xs) n ≡ true
held_later x n xs held = by_first (x == n)
  where
    by_first : (b : Bool) → (b || is_held xs n) ≡ true
    by_first true = refl
    by_first false = held

same_key : (k x : ℕ) → nat_cmp k x ≡ Equal → x ≡ k
same_key k x is = sym (eqb-true k x (by_tests (nat_lt k x) (k == x) is))
  where
    by_tests : (a b : Bool) → cond a Less (cond b Equal Greater) ≡ Equal → b ≡ true
    by_tests true b is = cc is
    by_tests false true is = refl
    by_tests false false is = cc is

-- one number more
pub held_new : (xs : List ℕ) (k : ℕ) → is_held (insert_key nat_cmp xs k) k ≡ true
held_new [] k = held_first k k [] refl
held_new (x ∷ xs) k = by_order (nat_cmp k x) refl (held_new xs k)
  where
    by_order : (r : Ordering) → nat_cmp k x ≡ r → is_held (insert_key nat_cmp xs k) k ≡ true → is_held (match_ordering r (k ∷ x ∷ xs) (x ∷ xs) (x ∷ insert_key nat_cmp xs k)) k ≡ true
    by_order Less is later = held_first k k (x ∷ xs) refl
    by_order Equal is later = held_first x k xs (same_key k x is)
    by_order Greater is later = held_later x k (insert_key nat_cmp xs k) later

pub held_still : (xs : List ℕ) (k n : ℕ) → is_held xs n ≡ true → is_held (insert_key nat_cmp xs k) n ≡ true
held_still [] k n held = cc held
held_still (x ∷ xs) k n held = by_order (nat_cmp k x) (by_first (x == n) held (held_still xs k n))
  where
    by_first : (b : Bool) → (b || is_held xs n) ≡ true → (is_held xs n ≡ true → is_held (insert_key nat_cmp xs k) n ≡ true) → (b || is_held (insert_key nat_cmp xs k) n) ≡ true
    by_first true held later = refl
    by_first false held later = later held

    by_order : (r : Ordering) → is_held (x ∷ insert_key nat_cmp xs k) n ≡ true → is_held (match_ordering r (k ∷ x ∷ xs) (x ∷ xs) (x ∷ insert_key nat_cmp xs k)) n ≡ true
    by_order Less later = held_later k n (x ∷ xs) held
    by_order Equal later = held
    by_order Greater later = later

-- those from one on, of which the last is new
pub held_up_to : (xs ys : List ℕ) (from k : ℕ) → ys ≡ insert_key nat_cmp xs k → ((n : ℕ) → from ≤ n → n < k → is_held xs n ≡ true) → (n : ℕ) → from ≤ n → n < k + 1 → is_held ys n ≡ true
held_up_to xs ys from k are held n low below = ap (λ (l : List ℕ). is_held l n) are ∙ by_case (cases_lt n k)
  where
    by_case : (n < k) ⊎ (k ≤ n) → is_held (insert_key nat_cmp xs k) n ≡ true
    by_case (inl lower) = held_still xs k n (held n low lower)
    by_case (inr last) = let same : k ≡ n = omega (arith, below, last) in ap (is_held (insert_key nat_cmp xs k)) (sym same) ∙ held_new xs k

-- what holds of a result that is one
pub was_ok : {A E P : Type 0} (result : Result A E) → true ≡ is_ok result → OnOk result P → P
was_ok (Ok value) is holds = holds
was_ok (Err fault) is holds = cc is

-- all lines of a read
pub all_read : (xs lines : List ℕ) (from end n : ℕ) → range_with_len from (end - from) ≡ lines → end ≤ n → ((k : ℕ) → from ≤ k → k < n → is_held xs k ≡ true) → list_all (is_held xs) lines ≡ true
all_read xs lines from end n are past held =
    ap (list_all (is_held xs)) (sym are) ∙ range_so (is_held xs) from (end - from) (λ k low below. held k low (omega (arith, low, below, past)))

-- a read at its place among others
pub asked_at : (f : FileRead → Bool) (reads : List Asked) (i : ℕ) (r : Asked) → list_all f (file_reads_asked reads) ≡ true → i < length reads → r ≡ get_or reads i r
    → f (file_read r) ≡ true
asked_at f [] i r all lt is = absurd (omega (arith, lt))
asked_at f (x ∷ reads) zero r all lt is = ap (λ y. f (file_read y)) is ∙ (and_parts (f (file_read x)) (list_all f (file_reads_asked reads)) all).0
asked_at f (x ∷ reads) (suc i) r all lt is = asked_at f reads i r (and_parts (f (file_read x)) (list_all f (file_reads_asked reads)) all).1 (omega (arith, lt)) is

-- where more numbers are held
module _ (xs ys : List ℕ) (still : (n : ℕ) → is_held xs n ≡ true → is_held ys n ≡ true) where
  all_still : (lines : List ℕ) → list_all (is_held xs) lines ≡ true → list_all (is_held ys) lines ≡ true
  all_still [] all = refl
  all_still (n ∷ lines) all =
      let parts = and_parts (is_held xs n) (list_all (is_held xs) lines) all in
      and_from (is_held ys n) (list_all (is_held ys) lines) (still n parts.0) (all_still lines parts.1)

  are_still : (reads : List FileRead) → are_held xs reads ≡ true → are_held ys reads ≡ true
  are_still [] all = refl
  are_still (r ∷ reads) all =
      let lines = lines_read r.pages.start r.pages.len r.pages.reply in
      let parts = and_parts (list_all (is_held xs) lines) (are_held xs reads) all in
      and_from (list_all (is_held ys) lines) (are_held ys reads) (all_still lines parts.0) (are_still reads parts.1)

  pub held_more : (reads : List Asked) (i : ℕ) (r : Asked) → i < length reads → r ≡ get_or reads i r → are_held xs (file_reads_asked (take i reads)) ≡ true
      → are_held ys (file_read r ∷ []) ≡ true → are_held ys (file_reads_asked (take (i + 1) reads)) ≡ true
  held_more reads i r lt is before here =
      let more : file_reads_asked (take (i + 1) reads) ≡ file_reads_asked (take i reads) ++ file_read r ∷ [] =
      ap (map file_read) (take_more reads i r lt ∙ ap (λ x. take i reads ++ x ∷ []) (sym is)) ∙ map-append file_read (take i reads) (r ∷ []) in
      let test : FileRead → Bool = λ q. list_all (is_held ys) (lines_read q.pages.start q.pages.len q.pages.reply) in
      ap (are_held ys) more ∙ list_all-append test (file_reads_asked (take i reads)) (file_read r ∷ [])
      ∙ and_from (list_all test (file_reads_asked (take i reads))) (list_all test (file_read r ∷ [])) (are_still (file_reads_asked (take i reads)) before) here
