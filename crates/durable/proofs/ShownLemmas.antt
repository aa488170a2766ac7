-- What a write as a whole shows after a restart that took it.
use Rattle.std.proofs.Common.{◌≡◌, inl, inr, ℕ, ◌+◌, ◌-◌, ◌*◌, ◌/◌, ◌%◌, ◌<◌, true, cond, Option, Some, None, option_map, List, [], ◌∷◌, ◌++◌, get_or, length, slice_get, refl, ap, subst, ◌∙◌, arith}
use Rattle.std.specs.Prelude.{slice_index}
use Rattle.line_device.specs.declared.line.Choice.{Choice}
use Rattle.nvm_base.specs.declared.units.Span.{Span}
use Rattle.nvm_base.proofs.FirstLemmas.{not_mapped}
use Rattle.range_sets.specs.Ranges.{total_of}
use Rattle.nvm_model.specs.Blocks.{nth, write}
use Rattle.nvm_model.specs.Numbered.{is_among}
use Rattle.nvm_model.specs.Page.{Page, cell_of, discard, discard_page}
use Rattle.nvm_model.specs.Page.Page.{Absent}
use Rattle.nvm_model.specs.Storage.{File}
use Rattle.nvm_model.proofs.NumberedLemmas.{slice_get-map_from}
use Rattle.file_actions.specs.Refusals.{together_refusal}
use Rattle.script_text.specs.Action.Action.{BAtomic, FAtomic, FMulti}
use Rattle.machine_model.specs.Machine.{Machine}
use Rattle.machine_model.specs.OnFileActions.{action_answer, discarded_in, written_together}
use Rattle.machine_model.specs.OnPages.{pages_named}
use Rattle.durable.specs.Place.{block_has, byte_at_place}
use Rattle.durable.specs.Place.Place.{of_blocks, of_file, of_volume}
use Rattle.durable.specs.Files.{BreaksOff}
use Rattle.durable.specs.Whole.{MayShow, ShowsFiles, ShowsVolume}
use Rattle.durable.specs.Whole.WholeWrite.{atomic, together, atomic_blocks}
use Rattle.durable.proofs.NamedPageLemmas.{named-own}
use Rattle.durable.proofs.PresenceLemmas.{line_in}
use Rattle.durable.proofs.RefusalLemmas.{places_none}
use Rattle.durable.proofs.TogetherLemmas.{restart_shows}
use Rattle.durable.proofs.WholeWriteLemmas.{broken}
use Rattle.durable.proofs.WrittenLemmas.{atomic_within, written_byte}

-- a byte of one of several ranges
pub shown : (h next later : Machine) (name : List ℕ) (i : ℕ) (before after : List Span) (range : Span) (bytes : List ℕ) (choice : Choice) → ((k : ℕ) → get_or bytes k 0 < 256)
    → BreaksOff h (FMulti name (before ++ range ∷ after) bytes) next → ShowsFiles choice (written_together name (before ++ range ∷ after) bytes h.files) later
    → is_among range.start range.len i ≡ true → byte_at_place later (of_file name i) ≡ Some (slice_index bytes (total_of before + (i - range.start)))
shown h next later name i before after range bytes choice small breaks shows among =
    let ranges : List Span = before ++ range ∷ after in
    let at = broken (together name ranges bytes) h next breaks in
    let none = not_mapped (action_answer name) (together_refusal (length (pages_named name h.files)) ranges) (places_none h (FMulti name ranges bytes) at.none) in
    restart_shows before after range bytes i small among choice name h.files later none shows

-- of one alone
pub shown_alone : (h next later : Machine) (name : List ℕ) (offset i : ℕ) (bytes : List ℕ) (choice : Choice) → ((k : ℕ) → get_or bytes k 0 < 256)
    → BreaksOff h (FAtomic name offset bytes) next → ShowsFiles choice (written_together name (record { start = offset; len = length bytes } ∷ []) bytes h.files) later
    → is_among offset (length bytes) i ≡ true → byte_at_place later (of_file name i) ≡ Some (slice_index bytes (i - offset))
shown_alone h next later name offset i bytes choice small breaks shows among =
    let range : Span = record { start = offset; len = length bytes } in
    let at = broken (atomic name offset bytes) h next breaks in
    let none = not_mapped (action_answer name) (together_refusal (length (pages_named name h.files)) (range ∷ [])) (places_none h (FAtomic name offset bytes) at.none) in
    let place : total_of [] + (i - offset) ≡ i - offset = omega arith in
    restart_shows [] [] range bytes i small among choice name h.files later none shows ∙ ap (λ k. Some (slice_index bytes k)) place

-- and of a page that was made a hole
hole : (page count n : ℕ) (pages : List Page) → is_among page count (n / 64) ≡ true → cell_of (discard page count pages) n ≡ None
unfolding discard
hole page count n pages among = ap (line_in n) (slice_get-map_from (discard_page page count) 0 pages (n / 64)) ∙ by_page (slice_get pages (n / 64))
  where
    number : 0 + n / 64 ≡ n / 64
    number = omega arith

    by_page : (o : Option Page) → line_in n (option_map (discard_page page count (0 + n / 64)) o) ≡ None
    by_page None = refl
    by_page (Some p) = ap (λ b. line_in n (Some (cond b Absent p))) (ap (is_among page count) number ∙ among)

-- so of the volume
pub shown_discarded : (later : Machine) (page count i : ℕ) (pages : List Page) (choice : Choice) → ShowsVolume choice (discard page count pages) later
    → is_among page count (i / 4096) ≡ true → byte_at_place later (of_volume i) ≡ Some 0
shown_discarded later page count i pages choice shows among =
    let number : i / 8 / 8 / 64 ≡ i / 4096 = omega arith in
    let place : i ≡ 8 * (i / 8) + i % 8 = omega arith in
    let none : cell_of (discard page count pages) (i / 8 / 8) ≡ None = hole page count (i / 8 / 8) pages (ap (is_among page count) number ∙ among) in
    ap (λ p. byte_at_place later (of_volume p)) place
    ∙ subst (λ o. MayShow later.unit choice o (i / 8 % 8) (λ k. byte_at_place later (of_volume (8 * (i / 8) + k)))) none (shows (i / 8)) (i % 8) (omega arith)

-- the bytes of blocks that were written as a whole
pub shown_blocks : (h next later : Machine) (block i : ℕ) (bytes : List ℕ) → BreaksOff h (BAtomic block bytes) next → later.blocks ≡ write block bytes h.blocks
    → is_among block (length bytes / 512) (i / 512) ≡ true → byte_at_place later (of_blocks i) ≡ Some (slice_index bytes (i - 512 * block))
shown_blocks h next later block i bytes breaks is among =
    let at = broken (atomic_blocks block bytes) h next breaks in
    ap (λ blocks. block_has (nth blocks (i / 512)) (i % 512)) is ∙ written_byte block i bytes h.blocks among (atomic_within h block bytes breaks.whole at.none)

hole_in : (name : List ℕ) (page count i : ℕ) (files : List File) → is_among page count (i / 4096) ≡ true → cell_of (pages_named name (discarded_in name page count files)) (i / 64) ≡ None
hole_in name page count i files among =
    elim (named-own name (discard page count) files) as (λ _. cell_of (pages_named name (discarded_in name page count files)) (i / 64) ≡ None) [
      | inl is ↦
          let number : i / 64 / 64 ≡ i / 4096 = omega arith in
          ap (λ p. cell_of p (i / 64)) is ∙ hole page count (i / 64) (pages_named name files) (ap (is_among page count) number ∙ among)
      | inr none ↦ ap (λ p. cell_of p (i / 64)) (none.0 ∙ none.1)
    ]

pub shown_holes : (later : Machine) (name : List ℕ) (page count i : ℕ) (files : List File) (choice : Choice) → ShowsFiles choice (discarded_in name page count files) later
    → is_among page count (i / 4096) ≡ true → byte_at_place later (of_file name i) ≡ Some 0
shown_holes later name page count i files choice shows among =
    let line : i / 8 / 8 ≡ i / 64 = omega arith in
    let place : i ≡ 8 * (i / 8) + i % 8 = omega arith in
    let none : cell_of (pages_named name (discarded_in name page count files)) (i / 8 / 8) ≡ None =
    ap (cell_of (pages_named name (discarded_in name page count files))) line ∙ hole_in name page count i files among in
    ap (λ p. byte_at_place later (of_file name p)) place
    ∙ subst (λ o. MayShow later.unit choice o (i / 8 % 8) (λ k. byte_at_place later (of_file name (8 * (i / 8) + k)))) none (shows name (i / 8)) (i % 8) (omega arith)
