-- A byte of the volume that a cut does not take.
use Rattle.std.proofs.Common.{◌≡◌, ◌⊎◌, inl, inr, ℕ, ◌+◌, ◌/◌, ◌%◌, ◌<◌, Bool, true, false, cond, Option, Some, None, option_map, option_and_then, List, length, get_or, slice_get, slice_index_or, replicate, refl, sym, ap, subst, ◌∙◌, arith}
use Rattle.std.proofs.lemmas.Option.{slice_get-map}
use Rattle.line_device.specs.Panel.{Image}
use Rattle.line_device.specs.declared.line.Choice.{Choice}
use Rattle.nvm_base.specs.declared.units.Span.{Span}
use Rattle.nvm_model.specs.Numbered.{AreMixed, is_among}
use Rattle.nvm_model.specs.Cell.{Cell, clear_cell, flush_cell, lose_cell, weaken_cell, put_cell, touches, zero_cell}
use Rattle.nvm_model.specs.Cell.Cell.{Bad, Kept}
use Rattle.nvm_model.specs.Interrupted.{Became, LineByLine, MayPersist, MayPersistTouched, MayPut, MayStore, MaySync, MaySyncAll}
use Rattle.nvm_model.specs.Page.{Page, KeepsPages, change_line, cell_in, cell_of, discard, discard_page, fill, fill_page, is_present, persist, presence_of, put, read_pages, touches_page}
use Rattle.nvm_model.specs.Page.Page.{Absent, Present}
use Rattle.nvm_model.specs.Touched.{persist_spans, touches_any}
use Rattle.nvm_model.proofs.NumberedLemmas.{slice_get-map_from}
use Rattle.nvm_model.proofs.SeveralLemmas.{cell_of-spans, presence_of-spans}
use Rattle.nvm_model.proofs.MediaLemmas.{cell_of-changed, cell_of-unchanged, presence_of-change}
use Rattle.std.proofs.lemmas.Bool.{cases_eq}
use Rattle.nvm_model.proofs.PageLemmas.{cell_of-fill, cell_of-persist, cell_of-put, cell_of-read_pages, presence_of-persist, presence_of-put, presence_of-read_pages}
use Rattle.durable.specs.Place.{is_line_present, is_weak_line, line_has}
use Rattle.durable.specs.Durable.{HaveLines, IsLineThere}
use Rattle.durable.proofs.PresenceLemmas.{absent_line, has_lines, line_in, page_present, zero_at}
use Rattle.durable.proofs.LineLemmas.{HasOrLost, LineKeeps, MayBe, line_has-kept, line_keeps-flush, line_keeps-may_put, line_keeps-put, line_keeps-read, line_keeps-there, line_keeps-zero}

module _ (since : MayBe) where
  -- the page of the byte is absent, where it reads as 0
  pub record AbsentKeeps (pages : List Page) (i : ℕ) (v : Option ℕ) : Type 0 where
    pub absent : is_line_present pages (i / 64) ≡ false
    pub zero : v ≡ Some 0

  -- The byte i of the volume has v, whatever a cut leaves.
  abbrev pub VolumeKeeps : List Page → ℕ → Option ℕ → Type 0
  VolumeKeeps pages i v = AbsentKeeps pages i v ⊎ LineKeeps since (cell_of pages (i / 64)) (i % 64) v

  pub byte-kept : (pages : List Page) (i : ℕ) (v : Option ℕ) → VolumeKeeps pages i v → HasOrLost since.lost (line_has (cell_of pages (i / 64)) (i % 64)) v
  byte-kept pages i v (inl keeps) = inl (ap (λ o. line_has o (i % 64)) (absent_line pages (i / 64) keeps.absent) ∙ sym keeps.zero)
  byte-kept pages i v (inr keeps) = line_has-kept since (cell_of pages (i / 64)) (i % 64) v keeps

  -- and what an absent page has is kept
  pub absent-kept : (pages : List Page) (i : ℕ) → is_line_present pages (i / 64) ≡ false → VolumeKeeps pages i (line_has (cell_of pages (i / 64)) (i % 64))
  absent-kept pages i absent = inl (record { absent = absent; zero = ap (λ o. line_has o (i % 64)) (absent_line pages (i / 64) absent) })

  -- pages of which the same are there
  absent_as : (i : ℕ) (v : Option ℕ) (pages new : List Page) → presence_of new ≡ presence_of pages → AbsentKeeps pages i v → AbsentKeeps new i v
  absent_as i v pages new same keeps =
      record { absent = ap (λ bs. slice_index_or bs (i / 64 / 64) false) same ∙ keeps.absent; zero = keeps.zero }

  -- a line that keeps is one that is there
  pub record KeptLine (o : Option Cell) (i : ℕ) (v : Option ℕ) : Type 0 where
    pub cell : Cell
    pub is : o ≡ Some cell
    pub keeps : LineKeeps since (Some cell) i v

  pub kept_line : (o : Option Cell) (i : ℕ) (v : Option ℕ) → LineKeeps since o i v → KeptLine o i v
  kept_line None i v keeps = absurd keeps
  kept_line (Some cell) i v keeps = record { cell = cell; is = refl; keeps = keeps }

  -- pages of which the line is flushed, where it is touched
  keeps-flush : (touched : Bool) (i : ℕ) (v : Option ℕ) (pages new : List Page) → (touched ≡ true → since.weak ≡ true → since.lost ≡ true) → presence_of new ≡ presence_of pages
      → cell_of new (i / 64) ≡ option_map (λ cell. cond touched (flush_cell cell) cell) (cell_of pages (i / 64)) → VolumeKeeps pages i v → VolumeKeeps new i v
  keeps-flush touched i v pages new loses there line (inl keeps) = inl (absent_as i v pages new there keeps)
  keeps-flush touched i v pages new loses there line (inr keeps) =
      let old = kept_line (cell_of pages (i / 64)) (i % 64) v keeps in
      inr (subst (λ o. LineKeeps since o (i % 64) v) (sym (line ∙ ap (option_map (λ cell. cond touched (flush_cell cell) cell)) old.is))
      (line_keeps-flush since touched (i % 64) v old.cell loses old.keeps))

  pub keeps-persist : (start len i : ℕ) (v : Option ℕ) (pages : List Page) → (touches start len (i / 64) ≡ true → since.weak ≡ true → since.lost ≡ true)
      → VolumeKeeps pages i v → VolumeKeeps (persist start len pages) i v
  keeps-persist start len i v pages loses keeps =
      keeps-flush (touches start len (i / 64)) i v pages (persist start len pages) loses (presence_of-persist start len pages) (cell_of-persist start len pages (i / 64)) keeps

  pub keeps-spans : (spans : List Span) (i : ℕ) (v : Option ℕ) (pages : List Page) → (touches_any spans (i / 64) ≡ true → since.weak ≡ true → since.lost ≡ true)
      → VolumeKeeps pages i v → VolumeKeeps (persist_spans spans pages) i v
  keeps-spans spans i v pages loses keeps =
      keeps-flush (touches_any spans (i / 64)) i v pages (persist_spans spans pages) loses (presence_of-spans spans pages) (cell_of-spans spans pages (i / 64)) keeps

  -- and what any page has, while no cut may come
  pub there-kept : (pages : List Page) (i : ℕ) → since.cut ≡ false → (is_weak_line (cell_of pages (i / 64)) ≡ true → since.weak ≡ true) → HaveLines pages
      → VolumeKeeps pages i (line_has (cell_of pages (i / 64)) (i % 64))
  there-kept pages i uncut may lines = by_page (is_line_present pages (i / 64)) refl
    where
      by_cell : (o : Option Cell) → IsLineThere o → (is_weak_line o ≡ true → since.weak ≡ true) → LineKeeps since o (i % 64) (line_has o (i % 64))
      by_cell None none weak = absurd none
      by_cell (Some cell) size weak = line_keeps-there since cell (i % 64) uncut weak (omega arith) size

      by_page : (b : Bool) → is_line_present pages (i / 64) ≡ b → VolumeKeeps pages i (line_has (cell_of pages (i / 64)) (i % 64))
      by_page true there = inr (by_cell (cell_of pages (i / 64)) (lines (i / 64) there) may)
      by_page false absent = absent-kept pages i absent

  -- pages that a store fills
  page_of-fill : (at len : ℕ) (pages : List Page) (k : ℕ) → slice_get (fill at len pages) k ≡ option_map (fill_page at len (0 + k)) (slice_get pages k)
  unfolding fill
  page_of-fill at len pages k = slice_get-map_from (fill_page at len) 0 pages k

  keeps-fill : (at len i : ℕ) (v : Option ℕ) (pages : List Page) → VolumeKeeps pages i v → VolumeKeeps (fill at len pages) i v
  keeps-fill at len i v pages (inr keeps) =
      let line = kept_line (cell_of pages (i / 64)) (i % 64) v keeps in
      inr (subst (λ o. LineKeeps since o (i % 64) v) (sym (cell_of-fill at len pages (i / 64) line.cell line.is)) line.keeps)
  keeps-fill at len i v pages (inl keeps) = filled
    where
      found : slice_get (fill at len pages) (i / 64 / 64) ≡ option_map (fill_page at len (0 + i / 64 / 64)) (slice_get pages (i / 64 / 64))
      found = page_of-fill at len pages (i / 64 / 64)

      still : has_lines (option_map (fill_page at len (0 + i / 64 / 64)) (slice_get pages (i / 64 / 64))) ≡ false → VolumeKeeps (fill at len pages) i v
      still absent = inl (record { absent = page_present (fill at len pages) (i / 64) ∙ ap has_lines found ∙ absent; zero = keeps.zero })

      zeros : option_map (fill_page at len (0 + i / 64 / 64)) (slice_get pages (i / 64 / 64)) ≡ Some (Present (replicate 64 zero_cell)) → VolumeKeeps (fill at len pages) i v
      zeros is =
          let line : cell_of (fill at len pages) (i / 64) ≡ Some zero_cell = ap (line_in (i / 64)) (found ∙ is) ∙ zero_at 64 (i / 64 % 64) (omega arith) in
          inr (subst (λ o. LineKeeps since o (i % 64) v) (sym line) (line_keeps-zero since (i % 64) v (omega arith) keeps.zero))

      by_page : (o : Option Page) → has_lines o ≡ false
          → (has_lines (option_map (fill_page at len (0 + i / 64 / 64)) o) ≡ false) ⊎ (option_map (fill_page at len (0 + i / 64 / 64)) o ≡ Some (Present (replicate 64 zero_cell)))
      by_page None none = inl refl
      by_page (Some Absent) none = by_test (touches_page at len (0 + i / 64 / 64))
        where
          by_test : (t : Bool) → (is_present (cond t (Present (replicate 64 zero_cell)) Absent) ≡ false) ⊎ (Some (cond t (Present (replicate 64 zero_cell)) Absent) ≡ Some (Present (replicate 64 zero_cell)))
          by_test true = inr refl
          by_test false = inl refl
      by_page (Some (Present cells)) there = cc there

      filled : VolumeKeeps (fill at len pages) i v
      filled = elim (by_page (slice_get pages (i / 64 / 64)) (sym (page_present pages (i / 64)) ∙ keeps.absent)) as (λ _. VolumeKeeps (fill at len pages) i v) [
        | inl absent ↦ still absent
        | inr is ↦ zeros is
      ]

  keeps-put : (at i : ℕ) (v : Option ℕ) (bytes : List ℕ) (pages : List Page) → ((k : ℕ) → get_or bytes k 0 < 256) → is_among at (length bytes) i ≡ false
      → VolumeKeeps pages i v → VolumeKeeps (put at bytes pages) i v
  keeps-put at i v bytes pages small out (inl keeps) = inl (absent_as i v pages (put at bytes pages) (presence_of-put at bytes pages) keeps)
  keeps-put at i v bytes pages small out (inr keeps) =
      let line = kept_line (cell_of pages (i / 64)) (i % 64) v keeps in
      inr (subst (λ o. LineKeeps since o (i % 64) v)
      (sym (cell_of-put at bytes pages (i / 64) ∙ ap (option_map (put_cell at bytes (i / 64))) line.is))
      (line_keeps-put since at i v bytes line.cell small out line.keeps))

  pub keeps-stored : (at i : ℕ) (v : Option ℕ) (bytes : List ℕ) (pages : List Page) → ((k : ℕ) → get_or bytes k 0 < 256) → is_among at (length bytes) i ≡ false
      → VolumeKeeps pages i v → VolumeKeeps (put at bytes (fill at (length bytes) pages)) i v
  keeps-stored at i v bytes pages small out keeps = keeps-put at i v bytes (fill at (length bytes) pages) small out (keeps-fill at (length bytes) i v pages keeps)

  became : (R : Cell → Cell → Type 0) (i : ℕ) (v : Option ℕ) (old : Cell) (new : Option Cell) → ((c : Cell) → R old c → LineKeeps since (Some c) i v)
      → Became R (Some old) new → LineKeeps since new i v
  became R i v old None then may = absurd may
  became R i v old (Some c) then may = then c may

  -- pages each line of which became one that keeps it
  by_lines : (R : ℕ → Cell → Cell → Type 0) (i : ℕ) (v : Option ℕ) (pages left : List Page)
      → ((cell c : Cell) → LineKeeps since (Some cell) (i % 64) v → R (i / 64) cell c → LineKeeps since (Some c) (i % 64) v) → VolumeKeeps pages i v → LineByLine R pages left
      → VolumeKeeps left i v
  by_lines R i v pages left each (inl keeps) lines = inl (absent_as i v pages left lines.there keeps)
  by_lines R i v pages left each (inr keeps) lines =
      let line = kept_line (cell_of pages (i / 64)) (i % 64) v keeps in
      inr (became (R (i / 64)) (i % 64) v line.cell (cell_of left (i / 64)) (λ c may. each line.cell c line.keeps may)
      (subst (λ o. Became (R (i / 64)) o (cell_of left (i / 64))) line.is (lines.each (i / 64))))

  pub keeps-may_store : (at i : ℕ) (v : Option ℕ) (bytes : List ℕ) (pages left : List Page) → ((k : ℕ) → get_or bytes k 0 < 256) → is_among at (length bytes) i ≡ false
      → VolumeKeeps pages i v → MayStore at bytes pages left → VolumeKeeps left i v
  keeps-may_store at i v bytes pages left small out keeps (inl is) = subst (λ p. VolumeKeeps p i v) {x = pages} (sym is) keeps
  keeps-may_store at i v bytes pages left small out keeps (inr lines) =
      by_lines (MayPut at bytes) i v (fill at (length bytes) pages) left (λ cell c line may. line_keeps-may_put since at i v bytes cell c small out line may)
      (keeps-fill at (length bytes) i v pages keeps) lines

  -- a line that is as before, or flushed where it is touched
  may_flush : (touched : Bool) (k : ℕ) (v : Option ℕ) (cell c : Cell) → (touched ≡ true → since.weak ≡ true → since.lost ≡ true) → LineKeeps since (Some cell) k v
      → (c ≡ cell) ⊎ (c ≡ cond touched (flush_cell cell) cell) → LineKeeps since (Some c) k v
  may_flush touched k v cell c loses line (inl is) = subst (λ o. LineKeeps since (Some o) k v) {x = cell} (sym is) line
  may_flush touched k v cell c loses line (inr is) =
      subst (λ o. LineKeeps since (Some o) k v) {x = cond touched (flush_cell cell) cell} (sym is) (line_keeps-flush since touched k v cell loses line)

  pub keeps-may_sync : (start len i : ℕ) (v : Option ℕ) (pages left : List Page) → (touches start len (i / 64) ≡ true → since.weak ≡ true → since.lost ≡ true)
      → VolumeKeeps pages i v → MaySync start len pages left → VolumeKeeps left i v
  keeps-may_sync start len i v pages left loses keeps lines =
      by_lines (MayPersist start len) i v pages left (λ cell c line may. may_flush (touches start len (i / 64)) (i % 64) v cell c loses line may) keeps lines

  pub keeps-may_spans : (spans : List Span) (i : ℕ) (v : Option ℕ) (pages left : List Page) → (touches_any spans (i / 64) ≡ true → since.weak ≡ true → since.lost ≡ true)
      → VolumeKeeps pages i v → MaySyncAll spans pages left → VolumeKeeps left i v
  keeps-may_spans spans i v pages left loses keeps lines =
      by_lines (MayPersistTouched spans) i v pages left (λ cell c line may. may_flush (touches_any spans (i / 64)) (i % 64) v cell c loses line may) keeps lines

  -- a single line that is changed, but for one that holds the byte
  pub keeps-change : (f : Cell → Cell) (n i : ℕ) (v : Option ℕ) (pages : List Page)
      → ((cell : Cell) → i / 64 ≡ n → LineKeeps since (Some cell) (i % 64) v → LineKeeps since (Some (f cell)) (i % 64) v)
      → VolumeKeeps pages i v → VolumeKeeps (change_line f n pages) i v
  keeps-change f n i v pages here (inl keeps) = inl (absent_as i v pages (change_line f n pages) (presence_of-change f n pages) keeps)
  keeps-change f n i v pages here (inr keeps) =
      let line = kept_line (cell_of pages (i / 64)) (i % 64) v keeps in
      elim (cases_eq (i / 64) n) as (λ _. VolumeKeeps (change_line f n pages) i v) [
        | inl same ↦
            inr (subst (λ o. LineKeeps since o (i % 64) v)
            (sym (ap (cell_of (change_line f n pages)) same ∙ cell_of-changed f n pages ∙ ap (option_map f) (ap (cell_of pages) (sym same) ∙ line.is)))
            (here line.cell same line.keeps))
        | inr out ↦ inr (subst (λ o. LineKeeps since o (i % 64) v) (sym (cell_of-unchanged f n pages (i / 64) out)) keeps)
      ]

  -- it is lost, or weak from then on
  pub keeps-lose : (n i : ℕ) (v : Option ℕ) (pages : List Page) → (i / 64 ≡ n → since.lost ≡ true) → VolumeKeeps pages i v → VolumeKeeps (change_line lose_cell n pages) i v
  keeps-lose n i v pages hurt keeps = keeps-change lose_cell n i v pages (λ cell same line. inr (hurt same)) keeps

  pub keeps-weaken : (n i : ℕ) (v : Option ℕ) (pages : List Page) → (i / 64 ≡ n → since.weak ≡ true) → VolumeKeeps pages i v → VolumeKeeps (change_line weaken_cell n pages) i v
  keeps-weaken n i v pages hurt keeps = keeps-change weaken_cell n i v pages weakened keeps
    where
      weakened : (cell : Cell) → i / 64 ≡ n → LineKeeps since (Some cell) (i % 64) v → LineKeeps since (Some (weaken_cell cell)) (i % 64) v
      weakened Bad same line = line
      weakened (Kept weak words) same line = (λ is. hurt same, line.1)

  -- another one is cleared
  pub keeps-clear : (n i : ℕ) (v : Option ℕ) (pages : List Page) → (i / 64 ≡ n → ⊥) → VolumeKeeps pages i v → VolumeKeeps (change_line clear_cell n pages) i v
  keeps-clear n i v pages out keeps = keeps-change clear_cell n i v pages (λ cell same line. absurd (out same)) keeps

  -- pages that have the page of the byte
  pub same_page : (i : ℕ) (v : Option ℕ) (pages new : List Page) → slice_get new (i / 64 / 64) ≡ slice_get pages (i / 64 / 64) → VolumeKeeps pages i v → VolumeKeeps new i v
  same_page i v pages new is (inl keeps) =
      inl (record { absent = page_present new (i / 64) ∙ ap has_lines is ∙ sym (page_present pages (i / 64)) ∙ keeps.absent; zero = keeps.zero })
  same_page i v pages new is (inr keeps) = inr (subst (λ o. LineKeeps since (line_in (i / 64) o) (i % 64) v) (sym is) keeps)

  page_of-discard : (first count k : ℕ) (pages : List Page) → is_among first count k ≡ false → slice_get (discard first count pages) k ≡ slice_get pages k
  unfolding discard
  page_of-discard first count k pages out = slice_get-map_from (discard_page first count) 0 pages k ∙ by_page (slice_get pages k)
    where
      number : 0 + k ≡ k
      number = omega arith

      by_page : (o : Option Page) → option_map (discard_page first count (0 + k)) o ≡ o
      by_page None = refl
      by_page (Some page) = ap (λ j. Some (discard_page first count j page)) number ∙ ap (λ b. Some (cond b Absent page)) out

  -- a byte of a page that is not discarded
  spared_page : (first count i : ℕ) (pages : List Page) → is_among first count (i / 4096) ≡ false
      → slice_get (discard first count pages) (i / 64 / 64) ≡ slice_get pages (i / 64 / 64)
  spared_page first count i pages out =
      let number : i / 64 / 64 ≡ i / 4096 = omega arith in page_of-discard first count (i / 64 / 64) pages (ap (is_among first count) number ∙ out)

  pub keeps-discard : (first count i : ℕ) (v : Option ℕ) (pages : List Page) → is_among first count (i / 4096) ≡ false → VolumeKeeps pages i v
      → VolumeKeeps (discard first count pages) i v
  keeps-discard first count i v pages out keeps = same_page i v pages (discard first count pages) (spared_page first count i pages out) keeps

  pub keeps-may_discard : (first count i : ℕ) (v : Option ℕ) (pages left : List Page) → is_among first count (i / 4096) ≡ false → VolumeKeeps pages i v
      → AreMixed Page pages (discard first count pages) left → VolumeKeeps left i v
  keeps-may_discard first count i v pages left out keeps may = elim (may.each (i / 64 / 64)) as (λ _. VolumeKeeps left i v) [
    | inl is ↦ same_page i v pages left is keeps
    | inr is ↦ same_page i v pages left (is ∙ spared_page first count i pages out) keeps
  ]

  -- a line that is there is one of a page that is there
  page_there : (pages : List Page) (n : ℕ) (cell : Cell) → cell_of pages n ≡ Some cell → slice_get (presence_of pages) (n / 64) ≡ Some true
  page_there pages n cell is = slice_get-map is_present pages (n / 64) ∙ by_page (slice_get pages (n / 64)) is
    where
      by_page : (o : Option Page) → option_and_then (λ page. cell_in page (n % 64)) o ≡ Some cell → option_map is_present o ≡ Some true
      by_page None none = cc none
      by_page (Some Absent) none = cc none
      by_page (Some (Present cells)) found = refl

  pub keeps-read : (choice : Choice) (place : ℕ → ℕ) (image : Image) (there : List Bool) (i : ℕ) (v : Option ℕ) (pages : List Page) → since.cut ≡ true
      → VolumeKeeps pages i v → presence_of pages ≡ there → KeepsPages choice place image pages → VolumeKeeps (read_pages place image there) i v
  keeps-read choice place image there i v pages cuts (inl keeps) present kept =
      inl (absent_as i v pages (read_pages place image there) (presence_of-read_pages place image there ∙ sym present) keeps)
  keeps-read choice place image there i v pages cuts (inr keeps) present kept =
      let line = kept_line (cell_of pages (i / 64)) (i % 64) v keeps in
      let is : slice_get there (i / 64 / 64) ≡ Some true = ap (λ bs. slice_get bs (i / 64 / 64)) (sym present) ∙ page_there pages (i / 64) line.cell line.is in
      inr (subst (λ o. LineKeeps since o (i % 64) v) (sym (cell_of-read_pages place image there (i / 64) is))
      (line_keeps-read since choice image (place (i / 64)) (i % 64) v line.cell cuts (omega arith) line.keeps (kept (i / 64) line.cell line.is)))
