-- A line that is written: which lines it keeps, and what a cut may leave of its first word.
use Rattle.std.proofs.Common.{◌≡◌, ◌⊎◌, inl, inr, ℕ, ◌+◌, ◌-◌, ◌*◌, ◌/◌, ◌%◌, ◌<◌, Bool, true, false, cond, Option, Some, None, option_map, List, [], ◌∷◌, ◌++◌, length, map, get_or, slice_get, slice_index_or, refl, sym, ap, subst, ◌∙◌, arith}
use Rattle.std.specs.Int.{byte_at}
use Rattle.std.proofs.lemmas.List.{length-map}
use Rattle.std.proofs.lemmas.Option.{get_or_from_slice_get, same_Some, slice_get-get_or, slice_get-map}
use Rattle.line_device.specs.History.{IsIn, latest, newest}
use Rattle.line_device.specs.Medium.{word_stored}
use Rattle.line_device.specs.Word.{reaches, word_at, word_from, word_over}
use Rattle.line_device.proofs.HistoryLemmas.{is_in-latest, is_in-part, is_in-push, is_part-latest}
use Rattle.line_device.proofs.WordLemmas.{byte_at-word_from, word_from-cong, word_over-whole}
use Rattle.nvm_model.specs.Cell.{Cell, flush_cell, touches}
use Rattle.nvm_model.specs.Cell.Cell.{Bad, Kept}
use Rattle.nvm_model.specs.Interrupted.{Became, MayPersist, MayPut}
use Rattle.nvm_model.specs.Numbered.{map_from}
use Rattle.nvm_model.specs.Page.{Page, cell_of, fill, is_present, presence_of, put}
use Rattle.nvm_model.proofs.NumberedLemmas.{length-map_from, slice_get-map_from}
use Rattle.nvm_model.proofs.PageLemmas.{length-fill, length-persist, length-put_fill}
use Rattle.pm_volume.specs.Left.{HasWords, IsDurable, IsKeptLine, LeavesCell, MayLeave}
use Rattle.pm_volume.specs.Line.{first_word, line_bytes}
use Rattle.pm_volume.specs.Line.{MayWrite, stored_line, written_line}
use Rattle.pm_volume.proofs.LeftLemmas.{fill-kept, persist-keeps, put-keeps, store-keeps, sync-keeps}
use Rattle.pm_volume.proofs.LineLemmas.{IsStrong, get-line_bytes, kept-durable, kept-reads, line_apart, line_touched, stored-is}
use Rattle.pm_volume.proofs.RestartLemmas.{durable_word, restart-keeps}

-- how many pages there are
same_presence : (old new : List Page) → presence_of new ≡ presence_of old → length new ≡ length old
same_presence old new same = sym (length-map new is_present) ∙ ap length same ∙ length-map old is_present

pub length-left : (unit : ℕ) (pages left : List Page) → MayLeave unit pages left → length left ≡ length pages
length-left unit pages left may = same_presence pages left may.there

pub length-written : (n : ℕ) (bytes : List ℕ) (pages : List Page) → length (written_line n bytes pages) ≡ length pages
length-written n bytes pages = length-persist (64 * n) 64 (stored_line n bytes pages) ∙ length-put_fill (64 * n) 64 bytes pages

pub length-may_write : (n : ℕ) (bytes : List ℕ) (old new : List Page) → MayWrite n bytes old new → length new ≡ length old
length-may_write n bytes old new (inl (inl same)) = ap length same
length-may_write n bytes old new (inl (inr put_there)) = same_presence (fill (64 * n) (length bytes) old) new put_there.there ∙ length-fill (64 * n) (length bytes) old
length-may_write n bytes old new (inr synced) = same_presence (stored_line n bytes old) new synced.there ∙ length-put_fill (64 * n) 64 bytes old

module _ (l : ℕ) (bytes : List ℕ) (size : length bytes ≡ 64) where
  out : (n : ℕ) → (n ≡ l → ⊥) → touches (64 * l) (length bytes) n ≡ false
  out n other = ap (λ len. touches (64 * l) len n) size ∙ line_apart l n other

  -- the lines beside it
  stored-keeps : (pages : List Page) (n : ℕ) → (n ≡ l → ⊥) → HasWords (cell_of pages n) → IsKeptLine (cell_of pages n) (cell_of (stored_line l bytes pages) n)
  stored-keeps pages n other has =
      subst (λ len. IsKeptLine (cell_of pages n) (cell_of (put (64 * l) bytes (fill (64 * l) len pages)) n)) size
      (put-keeps (64 * l) bytes pages n (omega (arith, size)) (out n other) has)

  pub written-keeps : (pages : List Page) (n : ℕ) → (n ≡ l → ⊥) → HasWords (cell_of pages n) → IsKeptLine (cell_of pages n) (cell_of (written_line l bytes pages) n)
  written-keeps pages n other has =
      subst (IsKeptLine (cell_of pages n)) (sym (persist-keeps (64 * l) 64 (stored_line l bytes pages) n (line_apart l n other))) (stored-keeps pages n other has)

  pub may_write-keeps : (old new : List Page) (n : ℕ) → (n ≡ l → ⊥) → HasWords (cell_of old n) → MayWrite l bytes old new → IsKeptLine (cell_of old n) (cell_of new n)
  may_write-keeps old new n other has (inl stored) = store-keeps (64 * l) bytes old new n (omega (arith, size)) (out n other) has stored
  may_write-keeps old new n other has (inr synced) =
      subst (IsKeptLine (cell_of old n)) (sym (sync-keeps (64 * l) 64 (stored_line l bytes old) new n (line_apart l n other) synced)) (stored-keeps old n other has)

-- the count of a line by its first word
pub count-word : (weak : Bool) (words : List (List ℕ)) (word : List ℕ) → slice_get words 0 ≡ Some word
    → first_word (Some (Kept weak words)) ≡ Some (word_from (λ k. byte_at k (newest word)))
count-word weak words word is = ap Some (word_from-cong _ _ each)
  where
    each : (k : ℕ) → k < 8 → get_or (line_bytes (Some (Kept weak words))) (8 * 0 + k) 0 ≡ byte_at k (newest word)
    each k lt =
        let at : (8 * 0 + k) / 8 ≡ 0 = omega arith in
        let byte : (8 * 0 + k) % 8 ≡ k = omega arith in
        get-line_bytes (Some (Kept weak words)) (8 * 0 + k) (omega arith)
        ∙ ap (λ w. byte_at ((8 * 0 + k) % 8) (newest (slice_index_or words w []))) at
        ∙ ap (λ i. byte_at i (newest (slice_index_or words 0 []))) byte
        ∙ ap (λ h. byte_at k (newest h)) (get_or_from_slice_get words 0 word [] is)

-- a value of a word that was stored over a durable one
pub stored-value : (at p value : ℕ) (bytes history : List ℕ) → latest history ≡ history → IsIn value (word_stored at bytes p history)
    → (value ≡ newest history) ⊎ (value ≡ word_over at bytes p (newest history))
stored-value at p value bytes history durable was = by_test (reaches at (length bytes) p) was
  where
    before : IsIn value history → value ≡ newest history
    before is = is_in-latest value history (subst (IsIn value) (sym durable) is)

    by_test : (t : Bool) → IsIn value (cond t (history ++ word_over at bytes p (newest history) ∷ []) history)
        → (value ≡ newest history) ⊎ (value ≡ word_over at bytes p (newest history))
    by_test false is = inl (before is)
    by_test true is = elim (is_in-push value (word_over at bytes p (newest history)) history is) [ inl old ↦ inl (before old) | inr new ↦ inr new ]

-- such a word spells the first one of the bytes
pub first-word : (l old : ℕ) (bytes : List ℕ) → length bytes ≡ 64 → ((k : ℕ) → get_or bytes k 0 < 256)
    → word_from (λ k. byte_at k (word_over (64 * l) bytes (8 * l + 0) old)) ≡ word_at bytes 0
first-word l old bytes size small = word_from-cong _ _ each
  where
    each : (k : ℕ) → k < 8 → byte_at k (word_over (64 * l) bytes (8 * l + 0) old) ≡ get_or bytes (8 * 0 + k) 0
    each k lt =
        let at : 8 * (8 * l + 0) + k - 64 * l ≡ 8 * 0 + k = omega arith in
        ap (byte_at k) (word_over-whole (64 * l) (8 * l + 0) old bytes (omega arith) (omega (arith, size)))
        ∙ byte_at-word_from (λ i. get_or bytes (8 * (8 * l + 0) + i - 64 * l) 0) k (λ i _. small (8 * (8 * l + 0) + i - 64 * l)) lt
        ∙ ap (λ i. get_or bytes i 0) at

-- the words of a line that is written, of which each value of the first is the old one or the new one
record HasFirst (old new : ℕ) (o : Option Cell) : Type 0 where
  pub words : List (List ℕ)
  pub is : o ≡ Some (Kept false words)
  pub size : length words ≡ 8
  pub first : (history : List ℕ) (value : ℕ) → slice_get words 0 ≡ Some history → IsIn value history → (value ≡ old) ⊎ (value ≡ new)

-- what a restart leaves of its count
first-left : (a b : ℕ) (o p : Option Cell) → HasFirst a b o → Became (LeavesCell 8) o p
    → (first_word p ≡ Some (word_from (λ k. byte_at k a))) ⊎ (first_word p ≡ Some (word_from (λ k. byte_at k b)))
first-left a b o p has may = by_cell p (subst (λ c. Became (LeavesCell 8) c p) has.is may)
  where
    by_cell : (p : Option Cell) → Became (LeavesCell 8) (Some (Kept false has.words)) p
        → (first_word p ≡ Some (word_from (λ k. byte_at k a))) ⊎ (first_word p ≡ Some (word_from (λ k. byte_at k b)))
    by_cell None is = absurd is
    by_cell (Some Bad) is = absurd is
    by_cell (Some (Kept mark left)) is =
        let was = slice_get-get_or has.words 0 [] (omega (arith, has.size)) in
        let now = slice_get-get_or left 0 [] (omega (arith, has.size, is.1)) in
        let one = is.2 0 _ _ was now in
        let counted = count-word mark left _ now ∙ ap (λ h. Some (word_from (λ k. byte_at k (newest h)))) one.is in
        elim (has.first _ one.value was one.was) [
          | inl old ↦ inl (counted ∙ ap (λ v. Some (word_from (λ k. byte_at k v))) old)
          | inr new ↦ inr (counted ∙ ap (λ v. Some (word_from (λ k. byte_at k v))) new)
        ]

module _ (l : ℕ) (bytes : List ℕ) (size : length bytes ≡ 64) (old : List Page) (strong : IsStrong (fill (64 * l) 64 old) l)
    (durable : map latest strong.words ≡ strong.words) (h : List ℕ) (found : slice_get strong.words 0 ≡ Some h) where
  abbrev over : ℕ
  over = word_over (64 * l) bytes (8 * l + 0) (newest h)

  abbrev stored_words : List (List ℕ)
  stored_words = map_from (word_stored (64 * l) bytes) (8 * l) strong.words

  stored_first : slice_get stored_words 0 ≡ Some (word_stored (64 * l) bytes (8 * l + 0) h)
  stored_first = slice_get-map_from (word_stored (64 * l) bytes) (8 * l) strong.words 0 ∙ ap (option_map (word_stored (64 * l) bytes (8 * l + 0))) found

  settled : latest h ≡ h
  settled = durable_word strong.words 0 h durable found

  of_stored : (history : List ℕ) (value : ℕ) → history ≡ word_stored (64 * l) bytes (8 * l + 0) h → IsIn value history → (value ≡ newest h) ⊎ (value ≡ over)
  of_stored history value is was = stored-value (64 * l) (8 * l + 0) value bytes h settled (subst (IsIn value) is was)

  has-stored : (ws : List (List ℕ)) → ws ≡ stored_words → (o : Option Cell) → o ≡ Some (Kept false ws) → HasFirst (newest h) over o
  has-stored ws same o is = record {
    words = ws;
    is = is;
    size = ap length same ∙ length-map_from _ (8 * l) strong.words ∙ strong.size;
    first = λ history value at was. of_stored history value (same_Some _ _ (sym at ∙ ap (λ (xs : List (List ℕ)). slice_get xs 0) same ∙ stored_first)) was;
  }

  has-synced : (o : Option Cell) → o ≡ Some (Kept false (map latest stored_words)) → HasFirst (newest h) over o
  has-synced o is = record {
    words = map latest stored_words;
    is = is;
    size = length-map stored_words latest ∙ length-map_from _ (8 * l) strong.words ∙ strong.size;
    first = λ history value at was.
        let last : latest (word_stored (64 * l) bytes (8 * l + 0) h) ≡ history =
        same_Some _ _ (sym (slice_get-map latest stored_words 0 ∙ ap (option_map latest) stored_first) ∙ at) in
        of_stored _ value refl (is_in-part value _ _ (is_part-latest (word_stored (64 * l) bytes (8 * l + 0) h)) (subst (IsIn value) (sym last) was));
  }

  has-put : (o : Option Cell) → Became (MayPut (64 * l) bytes l) (Some (Kept false strong.words)) o → HasFirst (newest h) over o
  has-put None may = absurd may
  has-put (Some Bad) may = absurd may
  has-put (Some (Kept mark mixed)) may = record {
    words = mixed;
    is = ap (λ m. Some (Kept m mixed)) may.0;
    size = may.1.length ∙ strong.size;
    first = λ history value at was.
        elim (may.1.each 0) [
          | inl before ↦
              let same : history ≡ h = same_Some _ _ (sym at ∙ before ∙ found) in
              inl (is_in-latest value h (subst (IsIn value) (sym settled) (subst (IsIn value) same was)))
          | inr put_there ↦ of_stored history value (same_Some _ _ (sym at ∙ put_there ∙ stored_first)) was
        ];
  }

  has-written : (new : List Page) → MayWrite l bytes old new → (new ≡ old) ⊎ HasFirst (newest h) over (cell_of new l)
  has-written new (inl (inl same)) = inl same
  has-written new (inl (inr part)) =
      inr (has-put (cell_of new l) (subst (λ o. Became (MayPut (64 * l) bytes l) o (cell_of new l))
      (ap (λ len. cell_of (fill (64 * l) len old) l) size ∙ strong.is) (part.each l)))
  has-written new (inr synced) = inr (by_sync (cell_of new l) (subst (λ o. Became (MayPersist (64 * l) 64 l) o (cell_of new l)) (stored-is old l bytes strong.words strong.is) (synced.each l)))
    where
      by_sync : (o : Option Cell) → Became (MayPersist (64 * l) 64 l) (Some (Kept false stored_words)) o → HasFirst (newest h) over o
      by_sync None may = absurd may
      by_sync (Some new) (inl same) = has-stored stored_words refl (Some new) (ap Some same)
      by_sync (Some new) (inr done) =
          has-synced (Some new) (ap Some (done ∙ ap (λ t. cond t (flush_cell (Kept false stored_words)) (Kept false stored_words)) (line_touched l)))

-- A restart finds the old count or that of the bytes.
pub may_write-count : (l : ℕ) (bytes : List ℕ) (old new left : List Page) → length bytes ≡ 64 → ((k : ℕ) → get_or bytes k 0 < 256)
    → IsStrong (fill (64 * l) 64 old) l → IsDurable (cell_of old l) → MayWrite l bytes old new → MayLeave 8 new left
    → (first_word (cell_of left l) ≡ first_word (cell_of old l)) ⊎ (first_word (cell_of left l) ≡ Some (word_at bytes 0))
may_write-count l bytes old new left size small strong lasts may leaves =
    elim (has-written l bytes size old strong durable h found new may) [
      | inl same ↦ inl (ap first_word (restart-keeps 8 new left l (subst IsDurable (sym (ap (λ (ps : List Page). cell_of ps l) same)) lasts) leaves ∙ ap (λ (ps : List Page). cell_of ps l) same))
      | inr has ↦
          elim (first-left (newest h) _ (cell_of new l) (cell_of left l) has (leaves.each l)) [
            | inl was ↦ inl (was ∙ sym before)
            | inr now ↦ inr (now ∙ ap Some (first-word l (newest h) bytes size small))
          ]
    ]
  where
    filled : IsKeptLine (cell_of old l) (cell_of (fill (64 * l) 64 old) l)
    filled = fill-kept (64 * l) 64 old l

    durable : map latest strong.words ≡ strong.words
    durable = subst IsDurable strong.is (kept-durable _ _ filled lasts)

    h : List ℕ
    h = get_or strong.words 0 []

    found : slice_get strong.words 0 ≡ Some h
    found = slice_get-get_or strong.words 0 [] (omega (arith, strong.size))

    before : first_word (cell_of old l) ≡ Some (word_from (λ k. byte_at k (newest h)))
    before = sym (ap (option_map (λ bs. word_at bs 0)) (kept-reads _ _ filled)) ∙ ap first_word strong.is ∙ count-word false strong.words h found
