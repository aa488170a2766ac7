-- What is written as a whole in a file is what lasts.
use Rattle.std.proofs.Common.{◌≡◌, ◌||◌, ◌*◌, inl, inr, ℕ, ◌+◌, ◌-◌, ◌/◌, ◌%◌, ◌<◌, Bool, true, false, cond, nat_lt, Option, Some, None, List, [], ◌∷◌, ◌++◌, All, drop, get_or, length, sym, refl, ap, subst, ◌∙◌, arith}
use Rattle.std.specs.Prelude.{slice_index, slice_index_or}
use Rattle.std.specs.List.{list_any}
use Rattle.std.specs.Int.{byte_at}
use Rattle.line_device.specs.History.{MayKeep, newest}
use Rattle.line_device.specs.Word.{word_at}
use Rattle.line_device.specs.declared.line.Choice.{Choice}
use Rattle.line_device.proofs.TornLemmas.{may_keep-one}
use Rattle.std.proofs.lemmas.Bool.{both_ways, not-false, not-true, or_parts}
use Rattle.std.proofs.lemmas.Bool.Decides.{nat_tests}
use Rattle.std.proofs.lemmas.List.{get_or-drop}
use Rattle.std.proofs.lemmas.List.Elements.{All-head, All-tail}
use Rattle.std.proofs.lemmas.Option.{slice_get_cases}
use Rattle.nvm_base.specs.declared.units.Span.{Span}
use Rattle.nvm_base.specs.Units.{overlap}
use Rattle.nvm_base.proofs.FirstLemmas.{not_mapped}
use Rattle.range_sets.specs.Ranges.{has_address, is_disjoint, total_of}
use Rattle.range_sets.proofs.PlaceLemmas.{disjoint_parts, none_has, total_of-cons}
use Rattle.nvm_model.specs.Cell.{Cell}
use Rattle.nvm_model.specs.Numbered.{is_among, list_from}
use Rattle.nvm_model.specs.Page.{Page, byte_in, cell_of, touches_page}
use Rattle.nvm_model.specs.Storage.{File}
use Rattle.file_actions.specs.Refusals.ActionRefusal.{Limit}
use Rattle.file_actions.specs.Refusals.{ActionRefusal, extents_refusal, refused_if, together_refusal}
use Rattle.file_actions.specs.Rewriting.{byte_laid, durable_line, pages_touched, rewritten, touches_any_page}
use Rattle.script_text.specs.Action.Action.{FAtomic, FMulti}
use Rattle.machine_model.specs.Machine.{Machine}
use Rattle.machine_model.specs.OnFileActions.{action_answer, written_together}
use Rattle.machine_model.specs.OnPages.{pages_named}
use Rattle.durable.specs.Place.{byte_at_place, line_has}
use Rattle.durable.specs.Place.Place.{of_file}
use Rattle.durable.specs.Durable.{Does, Lasts}
use Rattle.durable.specs.Whole.{MayShow, ShowsFiles}
use Rattle.durable.proofs.FlushedFileLemmas.{here_and}
use Rattle.durable.proofs.LawLemmas.{durable}
use Rattle.durable.proofs.NamedPageLemmas.{named-own}
use Rattle.durable.proofs.RefusalLemmas.{first_none, places_none}
use Rattle.durable.proofs.RewrittenLemmas.{byte_rewritten, durable_shown, durable_word, rewritten-small, rewritten_line}
use Rattle.durable.proofs.WrittenLemmas.{works_done}

-- a byte of a range that is behind others, with which it shares none
behind : (before after : List Span) (range : Span) (i : ℕ) → All (λ s. has_address s i ≡ false) (before ++ range ∷ after) → has_address range i ≡ false
behind [] after range i all = All-head (λ s. has_address s i ≡ false) range after all
behind (r ∷ before) after range i all = behind before after range i (All-tail (λ s. has_address s i ≡ false) r (before ++ range ∷ after) all)

apart : (r : Span) (before after : List Span) (range : Span) (i : ℕ) → list_any (overlap r) (before ++ range ∷ after) ≡ false → is_among range.start range.len i ≡ true
    → is_among r.start r.len i ≡ false
apart r before after range i none among = by_test (is_among r.start r.len i) refl
  where
    by_test : (b : Bool) → is_among r.start r.len i ≡ b → is_among r.start r.len i ≡ false
    by_test true has = absurd (both_ways _ (behind before after range i (none_has r (before ++ range ∷ after) i has none)) among)
    by_test false out = out

data_in : (before after : List Span) (range : Span) (bytes : List ℕ) (i old : ℕ) → is_disjoint (before ++ range ∷ after) ≡ true → is_among range.start range.len i ≡ true
    → byte_laid (before ++ range ∷ after) bytes i old ≡ slice_index bytes (total_of before + (i - range.start))
data_in [] after range bytes i old disjoint among =
    let first : i - range.start ≡ total_of [] + (i - range.start) = omega arith in
    ap (λ b. cond b (slice_index bytes (i - range.start)) (byte_laid after (drop range.len bytes) i old)) among ∙ ap (slice_index bytes) first
data_in (r ∷ before) after range bytes i old disjoint among =
    let parts = disjoint_parts r (before ++ range ∷ after) disjoint in
    let out = apart r before after range i (not-true _ parts.0) among in
    let place : r.len + (total_of before + (i - range.start)) ≡ total_of (r ∷ before) + (i - range.start) = omega (arith, total_of-cons r before) in
    ap (λ b. cond b (slice_index bytes (i - r.start)) (byte_laid (before ++ range ∷ after) (drop r.len bytes) i old)) out
    ∙ data_in before after range (drop r.len bytes) i old parts.1 among ∙ get_or-drop r.len bytes (total_of before + (i - range.start)) 0 ∙ ap (slice_index bytes) place

-- ranges that are not refused end within the file, and share no byte
refused_none : (b : Bool) (why : ActionRefusal) → refused_if b why ≡ None → b ≡ false
refused_none true why none = cc none
refused_none false why none = refl

ends_within : (pages : ℕ) (before after : List Span) (range : Span) → list_any (λ (r : Span). nat_lt (4096 * pages) (r.start + r.len)) (before ++ range ∷ after) ≡ false
    → nat_lt (4096 * pages) (range.start + range.len) ≡ false
ends_within pages [] after range none = (or_parts _ _ none).0
ends_within pages (r ∷ before) after range none = ends_within pages before after range (or_parts _ _ none).1

-- and a page with a byte of one is touched
has_page : (start len i : ℕ) → is_among start len i ≡ true → touches_page start len (i / 4096) ≡ true
has_page start len i among = grind (arith, nat_tests)

some_page : (before after : List Span) (range : Span) (i : ℕ) → is_among range.start range.len i ≡ true → touches_any_page (before ++ range ∷ after) (i / 4096) ≡ true
some_page [] after range i among = ap (λ b. b || touches_any_page after (i / 4096)) (has_page range.start range.len i among)
some_page (r ∷ before) after range i among = by_test (touches_page r.start r.len (i / 4096)) (some_page before after range i among)
  where
    by_test : (b : Bool) → touches_any_page (before ++ range ∷ after) (i / 4096) ≡ true → (b || touches_any_page (before ++ range ∷ after) (i / 4096)) ≡ true
    by_test true later = refl
    by_test false later = later

-- a durable line shows the one value of each of its words
durable_exact : (unit : ℕ) (choice : Choice) (byte : ℕ → ℕ) (n w k : ℕ) (shown : ℕ → Option ℕ) → w < 8 → k < 8 → MayShow unit choice (Some (durable_line byte n)) w shown
    → shown k ≡ line_has (Some (durable_line byte n)) (8 * w + k)
durable_exact unit choice byte n w k shown low lt may =
    let words : List (List ℕ) = list_from (λ v. word_at (list_from byte (64 * n) 64) v ∷ []) 0 8 in
    let i : ℕ = 8 * w + k in
    let at : i / 8 ≡ w = omega arith in
    let rest : k ≡ i % 8 = omega arith in
    let word : slice_index_or words (i / 8) [] ≡ word_at (list_from byte (64 * n) 64) (i / 8) ∷ [] = durable_word byte n i (omega arith) in
    let same : may.0 ≡ word_at (list_from byte (64 * n) 64) (i / 8) =
    may_keep-one unit may.0 _ (subst (MayKeep unit may.0) (ap (λ v. slice_index_or words v []) (sym at) ∙ word) may.1.was) in
    may.2 k lt
    ∙ ap (λ u. Some (byte_at k u)) same
    ∙ ap (λ j. Some (byte_at j (word_at (list_from byte (64 * n) 64) (i / 8)))) rest
    ∙ sym (ap (λ h. Some (byte_at (i % 8) (newest h))) word)

-- what the pages of the file have then
module _ (before after : List Span) (range : Span) (bytes : List ℕ) (i : ℕ) (small : (k : ℕ) → get_or bytes k 0 < 256) (among : is_among range.start range.len i ≡ true) where
  abbrev ranges : List Span
  ranges = before ++ range ∷ after

  within : (pages : List Page) → together_refusal (length pages) ranges ≡ None → i < 4096 * length pages
  within pages none =
      let inside = ends_within (length pages) before after range (refused_none _ _ (first_none _ _ (first_none (extents_refusal (length pages) ranges) _ none).0).0) in
      grind (arith, nat_tests)

  apart_all : (pages : ℕ) → together_refusal pages ranges ≡ None → is_disjoint ranges ≡ true
  apart_all pages none =
      not-false (is_disjoint ranges)
      (refused_none _ _ (first_none (refused_if (nat_lt 16 (pages_touched ranges pages) || nat_lt 8 (length ranges)) Limit) _ (first_none (extents_refusal pages ranges) _ none).1).1)

  -- the line of the byte is written anew, and has it
  byte_is : (pages : List Page) → together_refusal (length pages) ranges ≡ None → byte_rewritten ranges bytes pages i ≡ slice_index bytes (total_of before + (i - range.start))
  byte_is pages none = data_in before after range bytes i (byte_in pages i) (apart_all (length pages) none) among

  pages_line : (pages : List Page) → together_refusal (length pages) ranges ≡ None
      → cell_of (rewritten ranges bytes pages) (i / 64) ≡ Some (durable_line (byte_rewritten ranges bytes pages) (i / 64))
  pages_line pages none =
      let number : i / 64 / 64 ≡ i / 4096 = omega arith in
      elim (slice_get_cases pages (i / 64 / 64)).1 as (λ _. cell_of (rewritten ranges bytes pages) (i / 64) ≡ Some (durable_line (byte_rewritten ranges bytes pages) (i / 64))) [
        | inl found ↦ rewritten_line ranges bytes pages (i / 64) found.0 (ap (touches_any_page ranges) number ∙ some_page before after range i among) found.2
        | inr past ↦ absurd (omega (arith, past.0, within pages none))
      ]

  -- so it is of a file
  no_file : (pages : List Page) → together_refusal (length pages) ranges ≡ None → pages ≡ [] → ⊥
  no_file pages none empty = let all : length pages ≡ 0 = ap length empty in omega (arith, all, within pages none)

  pub file_line : (name : List ℕ) (files : List File) → together_refusal (length (pages_named name files)) ranges ≡ None
      → cell_of (pages_named name (written_together name ranges bytes files)) (i / 64) ≡ Some (durable_line (byte_rewritten ranges bytes (pages_named name files)) (i / 64))
  file_line name files none = elim (named-own name (rewritten ranges bytes) files) as
      (λ _. cell_of (pages_named name (written_together name ranges bytes files)) (i / 64) ≡ Some (durable_line (byte_rewritten ranges bytes (pages_named name files)) (i / 64))) [
        | inl made ↦ ap (λ p. cell_of p (i / 64)) made ∙ pages_line (pages_named name files) none
        | inr gone ↦ absurd (no_file (pages_named name files) none gone.1)
      ]

  line_shows : (pages : List Page) → together_refusal (length pages) ranges ≡ None
      → line_has (Some (durable_line (byte_rewritten ranges bytes pages) (i / 64))) (i % 64) ≡ Some (slice_index bytes (total_of before + (i - range.start)))
  line_shows pages none =
      let place : 64 * (i / 64) + i % 64 ≡ i = omega arith in
      durable_shown (byte_rewritten ranges bytes pages) (i / 64) (i % 64) (omega arith) (rewritten-small ranges bytes pages small)
      ∙ ap (λ at. Some (byte_rewritten ranges bytes pages at)) place ∙ ap Some (byte_is pages none)

  -- and what a command made that wrote it
  file_shows : (h next : Machine) (name : List ℕ) → together_refusal (length (pages_named name h.files)) ranges ≡ None
      → next ≡ record h { files = written_together name ranges bytes h.files }
      → byte_at_place next (of_file name i) ≡ Some (slice_index bytes (total_of before + (i - range.start)))
  file_shows h next name none is =
      ap (λ m. byte_at_place m (of_file name i)) is ∙ ap (λ o. line_has o (i % 64)) (file_line name h.files none) ∙ line_shows (pages_named name h.files) none

  -- what a restart shows of it
  pub restart_shows : (choice : Choice) (name : List ℕ) (files : List File) (later : Machine) → together_refusal (length (pages_named name files)) ranges ≡ None
      → ShowsFiles choice (written_together name ranges bytes files) later → byte_at_place later (of_file name i) ≡ Some (slice_index bytes (total_of before + (i - range.start)))
  restart_shows choice name files later none shows =
      let line : i / 8 / 8 ≡ i / 64 = omega arith in
      let place : i ≡ 8 * (i / 8) + i % 8 = omega arith in
      let within_line : 8 * (i / 8 % 8) + i % 8 ≡ i % 64 = omega arith in
      let left : List Page = pages_named name (written_together name ranges bytes files) in
      let whole : Cell = durable_line (byte_rewritten ranges bytes (pages_named name files)) (i / 64) in
      ap (λ p. byte_at_place later (of_file name p)) place
      ∙ durable_exact later.unit choice (byte_rewritten ranges bytes (pages_named name files)) (i / 64) (i / 8 % 8) (i % 8) (λ k. byte_at_place later (of_file name (8 * (i / 8) + k))) (omega arith) (omega arith)
      (subst (λ o. MayShow later.unit choice o (i / 8 % 8) (λ k. byte_at_place later (of_file name (8 * (i / 8) + k)))) (ap (cell_of left) line ∙ file_line name files none) (shows name (i / 8)))
      ∙ ap (line_has (Some whole)) within_line
      ∙ line_shows (pages_named name files) none

-- a byte of one of several ranges
pub in_ranges : (h next : Machine) (name : List ℕ) (i : ℕ) (before after : List Span) (range : Span) (bytes : List ℕ) → ((k : ℕ) → get_or bytes k 0 < 256)
    → Does h (FMulti name (before ++ range ∷ after) bytes) next → is_among range.start range.len i ≡ true
    → Lasts next (of_file name i) (Some (slice_index bytes (total_of before + (i - range.start))))
in_ranges h next name i before after range bytes small does among =
    let ranges : List Span = before ++ range ∷ after in
    let done = works_done h (FMulti name ranges bytes) (record h { files = written_together name ranges bytes h.files }) next refl does in
    let none = not_mapped (action_answer name) (together_refusal (length (pages_named name h.files)) ranges) (places_none h (FMulti name ranges bytes) done.0) in
    subst (Lasts next (of_file name i)) (file_shows before after range bytes i small among h next name none done.1)
    (durable h next (FMulti name ranges bytes) (of_file name i) does (here_and name name _ refl (some_page before after range i among)))

-- and of one alone
pub in_one_range : (h next : Machine) (name : List ℕ) (offset i : ℕ) (bytes : List ℕ) → ((k : ℕ) → get_or bytes k 0 < 256) → Does h (FAtomic name offset bytes) next
    → is_among offset (length bytes) i ≡ true → Lasts next (of_file name i) (Some (slice_index bytes (i - offset)))
in_one_range h next name offset i bytes small does among =
    let range : Span = record { start = offset; len = length bytes } in
    let done = works_done h (FAtomic name offset bytes) (record h { files = written_together name (range ∷ []) bytes h.files }) next refl does in
    let none = not_mapped (action_answer name) (together_refusal (length (pages_named name h.files)) (range ∷ [])) (places_none h (FAtomic name offset bytes) done.0) in
    let place : total_of [] + (i - offset) ≡ i - offset = omega arith in
    subst (Lasts next (of_file name i)) (file_shows [] [] range bytes i small among h next name none done.1 ∙ ap (λ k. Some (slice_index bytes k)) place)
    (durable h next (FAtomic name offset bytes) (of_file name i) does (here_and name name _ refl (some_page [] [] range i among)))
