-- A line of a file that is flushed, or marked.
use Rattle.std.proofs.Common.{◌≡◌, inl, inr, ℕ, ◌/◌, Bool, true, false, cond, Option, Some, None, option_map, List, [], sym, ap, subst, ◌∙◌, if◌then◌else◌}
use Rattle.std.proofs.lemmas.Bool.{and_parts}
use Rattle.std.proofs.lemmas.Slice.Eq.{bytes_eq-Decides}
use Rattle.nvm_base.specs.declared.units.Span.{Span}
use Rattle.nvm_model.specs.Cell.{Cell, flush_cell, touches}
use Rattle.nvm_model.specs.Mappings.{is_shared, mapping_of}
use Rattle.nvm_model.specs.Page.{Page, at_line, cell_of, change_line, persist, presence_of}
use Rattle.nvm_model.specs.Storage.{File, Mapping}
use Rattle.nvm_model.specs.Touched.{persist_spans, touches_any}
use Rattle.nvm_model.proofs.MediaLemmas.{cell_of-change, cell_of-changed}
use Rattle.nvm_model.proofs.PageLemmas.{cell_of-persist, presence_of-persist}
use Rattle.nvm_model.proofs.SeveralLemmas.{cell_of-spans, presence_of-spans}
use Rattle.machine_model.specs.declared.look.Look.{Look}
use Rattle.machine_model.specs.OnFileErrors.{marked_in}
use Rattle.machine_model.specs.OnFlushes.{all_moved, flush_file, flush_through, flush_with, nothing_done, synced_in}
use Rattle.machine_model.specs.OnPages.{pages_named}
use Rattle.durable.specs.Region.{flushed_by, flushed_lines, flushed_through, nothing}
use Rattle.durable.proofs.NamedPageLemmas.{named-own}

-- The same pages are there, and the line of the byte is flushed.
pub record LineFlushed (i : ℕ) (old new : List Page) : Type 0 where
  pub there : presence_of new ≡ presence_of old
  pub line : cell_of new (i / 64) ≡ option_map flush_cell (cell_of old (i / 64))

pub persist-flushed : (start len i : ℕ) (pages : List Page) → touches start len (i / 64) ≡ true → LineFlushed i pages (persist start len pages)
persist-flushed start len i pages touched = record {
  there = presence_of-persist start len pages;
  line = cell_of-persist start len pages (i / 64) ∙ ap (λ t. option_map (λ cell. cond t (flush_cell cell) cell) (cell_of pages (i / 64))) touched;
}

spans-flushed : (spans : List Span) (i : ℕ) (pages : List Page) → touches_any spans (i / 64) ≡ true → LineFlushed i pages (persist_spans spans pages)
spans-flushed spans i pages touched = record {
  there = presence_of-spans spans pages;
  line = cell_of-spans spans pages (i / 64) ∙ ap (λ t. option_map (λ cell. cond t (flush_cell cell) cell) (cell_of pages (i / 64))) touched;
}

-- a line of a file that is not there
no_line : (f : Cell → Cell) (n : ℕ) (pages : List Page) → pages ≡ [] → cell_of pages n ≡ option_map f (cell_of pages n)
no_line f n pages none = ap (λ p. cell_of p n) none ∙ sym (ap (λ p. option_map f (cell_of p n)) none)

pub synced-flushed : (spans : List Span) (name : List ℕ) (i : ℕ) (files : List File) → touches_any spans (i / 64) ≡ true
    → LineFlushed i (pages_named name files) (pages_named name (synced_in name spans files))
synced-flushed spans name i files touched =
    elim (named-own name (persist_spans spans) files) as (λ _. LineFlushed i (pages_named name files) (pages_named name (synced_in name spans files))) [
      | inl is ↦ subst (LineFlushed i (pages_named name files)) (sym is) (spans-flushed spans i (pages_named name files) touched)
      | inr none ↦ record {
        there = ap presence_of none.0;
        line = ap (λ p. cell_of p (i / 64)) none.0 ∙ no_line flush_cell (i / 64) (pages_named name files) none.1;
      }
    ]

-- a flush through a handle that covers the byte
pub through-flushed : (look : Look) (handle : ℕ) (spans : List Span) (mappings : List Mapping) (files : List File) (name : List ℕ) (i : ℕ)
    → (flushed_through mappings handle spans).files name i ≡ true
    → LineFlushed i (pages_named name files) (pages_named name ((flush_with look handle spans).files mappings files))
through-flushed look handle spans mappings files name i = by_mapping (mapping_of handle mappings)
  where
    by_kind : (m : Mapping) (shared : Bool) → (if shared then flushed_lines m.name (all_moved m.start spans) else nothing).files name i ≡ true
        → LineFlushed i (pages_named name files) (pages_named name ((if shared then flush_file look m.name (all_moved m.start spans) else nothing_done).files mappings files))
    by_kind m true covered =
        let both = and_parts _ _ covered in
        subst (λ text. LineFlushed i (pages_named name files) (pages_named name (synced_in text (all_moved m.start spans) files)))
        (sym ((bytes_eq-Decides m.name name).0 both.0)) (synced-flushed (all_moved m.start spans) name i files both.1)
    by_kind m false covered = cc covered

    by_mapping : (o : Option Mapping) → (flushed_by spans o).files name i ≡ true
        → LineFlushed i (pages_named name files) (pages_named name (elim o [ None ↦ files | Some m ↦ (flush_through look spans m).files mappings files ]))
    by_mapping None covered = cc covered
    by_mapping (Some m) covered = by_kind m (is_shared m.kind) covered

-- a line that is marked
pub named-marked : (mark : Cell → Cell) (name : List ℕ) (offset : ℕ) (files : List File)
    → cell_of (pages_named name (marked_in mark name offset files)) (offset / 64) ≡ option_map mark (cell_of (pages_named name files) (offset / 64))
named-marked mark name offset files =
    elim (named-own name (change_line mark (offset / 64)) files) as
    (λ _. cell_of (pages_named name (marked_in mark name offset files)) (offset / 64) ≡ option_map mark (cell_of (pages_named name files) (offset / 64))) [
      | inl is ↦ ap (λ p. cell_of p (offset / 64)) is ∙ cell_of-changed mark (offset / 64) (pages_named name files)
      | inr none ↦ ap (λ p. cell_of p (offset / 64)) none.0 ∙ no_line mark (offset / 64) (pages_named name files) none.1
    ]

-- and each line of that file
pub named-marked_at : (mark : Cell → Cell) (name : List ℕ) (offset n : ℕ) (files : List File)
    → cell_of (pages_named name (marked_in mark name offset files)) n ≡ option_map (at_line mark (offset / 64) n) (cell_of (pages_named name files) n)
named-marked_at mark name offset n files =
    elim (named-own name (change_line mark (offset / 64)) files) as
    (λ _. cell_of (pages_named name (marked_in mark name offset files)) n ≡ option_map (at_line mark (offset / 64) n) (cell_of (pages_named name files) n)) [
      | inl is ↦ ap (λ p. cell_of p n) is ∙ cell_of-change mark (offset / 64) (pages_named name files) n
      | inr none ↦ ap (λ p. cell_of p n) none.0 ∙ no_line (at_line mark (offset / 64) n) n (pages_named name files) none.1
    ]
