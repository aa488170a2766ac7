-- What a command that made a place durable left of it.
use Rattle.std.proofs.Common.{◌≡◌, ◌⊎◌, inl, inr, ℕ, ◌+◌, ◌/◌, ◌%◌, Bool, true, false, Option, Some, None, option_map, List, [], ◌∷◌, length, slice_get, slice_index_or, refl, sym, ap, subst, ◌∙◌, arith, if◌then◌else◌}
use Rattle.std.proofs.lemmas.Bool.{and_parts, eqb-true}
use Rattle.std.specs.Str.{bytes_eq}
use Rattle.std.proofs.lemmas.Slice.Eq.{bytes_eq-Decides}
use Rattle.nvm_base.specs.declared.units.Span.{Span}
use Rattle.nvm_model.specs.Cell.{Cell, clear_cell, flush_cell, zero_cell}
use Rattle.nvm_model.specs.Cell.Cell.{Bad, Kept}
use Rattle.nvm_model.specs.Mappings.{is_shared, mapping_of}
use Rattle.nvm_model.specs.Page.{Page, cell_of, change_line, persist}
use Rattle.nvm_model.specs.Storage.{File, Mapping}
use Rattle.nvm_model.proofs.MediaLemmas.{cell_of-changed}
use Rattle.file_actions.specs.Refusals.{all_bytes}
use Rattle.file_actions.specs.Rewriting.{durable_line, rewritten, rewritten_page, touches_any_page}
use Rattle.marked_lines.specs.Refusals.{line_refusal}
use Rattle.pm_volume.specs.Refusals.{physical_offset}
use Rattle.script_text.specs.Action.{Action}
use Rattle.script_text.specs.Action.Action.{VSync, VPSync, FAtomic, FMulti, FSync, Sync, Flush, FlushVerify, DeepFlush, ClearFile, ClearVolume}
use Rattle.machine_model.specs.declared.look.Look.TheVariants.{Once, Again}
use Rattle.machine_model.specs.Machine.{Machine}
use Rattle.machine_model.specs.Commands.{refusal}
use Rattle.machine_model.specs.OnFileErrors.{marked_in}
use Rattle.machine_model.specs.OnFileActions.{written_together}
use Rattle.machine_model.specs.OnFlushes.{all_moved, synced_in}
use Rattle.machine_model.specs.OnPages.{pages_named}
use Rattle.machine_model.specs.OnVolume.{persist_at}
use Rattle.durable.specs.Place.{Place, byte_at_place, is_line_present, line_has}
use Rattle.durable.specs.Place.Place.{of_volume, of_blocks, of_file}
use Rattle.durable.specs.Region.{flushed_by, flushed_lines, flushed_through, nothing, touched_lines_at}
use Rattle.durable.specs.Touching.{is_made_durable, made_durable}
use Rattle.durable.specs.Durable.{HaveLines, IsComplete, IsLineThere}
use Rattle.durable.proofs.StepKinds.{Alters, files_made}
use Rattle.durable.proofs.LineLemmas.{LineKeeps, MayBe, line_keeps-flushed}
use Rattle.durable.proofs.VolumeLemmas.{VolumeKeeps, absent-kept}
use Rattle.durable.proofs.FileLineLemmas.{LineFlushed, named-marked, persist-flushed, synced-flushed, through-flushed}
use Rattle.durable.proofs.FileThereLemmas.{lines-named}
use Rattle.durable.proofs.NamedPageLemmas.{named-own}
use Rattle.durable.proofs.PresenceLemmas.{has_lines, page_present}
use Rattle.durable.proofs.RewrittenLemmas.{byte_rewritten, page_of-rewritten, rewritten_line}
use Rattle.durable.proofs.KeepLemmas.{PlaceKeeps}
use Rattle.durable.proofs.RefusalLemmas.{line_none, places_none, within_none}

-- a line that is cleared was bad
cleared_bad : (o : Option Cell) → line_refusal o ≡ None → o ≡ Some Bad
cleared_bad None is = cc is
cleared_bad (Some Bad) is = refl
cleared_bad (Some (Kept weak words)) is = cc is

pub was_bad : (h : Machine) (offset : ℕ) → refusal h (ClearVolume offset) ≡ None → cell_of h.volume (offset / 64) ≡ Some Bad
was_bad h offset none = cleared_bad _ (within_none _ _ (line_none _ (places_none h (ClearVolume offset) none))).1

pub was_bad_in : (h : Machine) (name : List ℕ) (offset : ℕ) → refusal h (ClearFile name offset) ≡ None → cell_of (pages_named name h.files) (offset / 64) ≡ Some Bad
was_bad_in h name offset none = cleared_bad _ (within_none _ _ (line_none _ (places_none h (ClearFile name offset) none))).1

-- a sync by addresses covers bytes of the volume alone
pub no_file : (o : Option ℕ) (len : ℕ) (name : List ℕ) (i : ℕ) → (touched_lines_at o len).files name i ≡ true → ⊥
no_file None len name i covered = cc covered
no_file (Some start) len name i covered = cc covered

-- a flush covers bytes of files alone
pub no_volume : (mappings : List Mapping) (handle : ℕ) (spans : List Span) (i : ℕ) → (flushed_through mappings handle spans).volume i ≡ true → ⊥
no_volume mappings handle spans i = by_mapping (mapping_of handle mappings)
  where
    by_kind : (m : Mapping) (shared : Bool) → (if shared then flushed_lines m.name (all_moved m.start spans) else nothing).volume i ≡ true → ⊥
    by_kind m true is = cc is
    by_kind m false is = cc is

    by_mapping : (o : Option Mapping) → (flushed_by spans o).volume i ≡ true → ⊥
    by_mapping None is = cc is
    by_mapping (Some m) is = by_kind m (is_shared m.kind) is

-- a bad line that is zeros now
pub record LineCleared (i : ℕ) (old new : List Page) : Type 0 where
  pub bad : cell_of old (i / 64) ≡ Some Bad
  pub zeros : cell_of new (i / 64) ≡ Some zero_cell

pub file-cleared : (name : List ℕ) (offset i : ℕ) (files : List File) → i / 64 ≡ offset / 64 → cell_of (pages_named name files) (offset / 64) ≡ Some Bad
    → LineCleared i (pages_named name files) (pages_named name (marked_in clear_cell name offset files))
file-cleared name offset i files at bad = record {
  bad = ap (cell_of (pages_named name files)) at ∙ bad;
  zeros = ap (cell_of (pages_named name (marked_in clear_cell name offset files))) at ∙ named-marked clear_cell name offset files ∙ ap (option_map clear_cell) bad;
}

-- The line is durable, with some bytes, or its page is not there.
pub record LineRewritten (i : ℕ) (new : List Page) : Type 0 where
  pub line : (is_line_present new (i / 64) ≡ false) ⊎ ((byte : ℕ → ℕ) × (cell_of new (i / 64) ≡ Some (durable_line byte (i / 64))))

pages-rewritten : (ranges : List Span) (bytes : List ℕ) (i : ℕ) (pages : List Page) → touches_any_page ranges (i / 4096) ≡ true → LineRewritten i (rewritten ranges bytes pages)
pages-rewritten ranges bytes i pages touched = by_page (slice_get pages (i / 64 / 64)) refl
  where
    number : i / 64 / 64 ≡ i / 4096
    number = omega arith

    by_page : (o : Option Page) → slice_get pages (i / 64 / 64) ≡ o → LineRewritten i (rewritten ranges bytes pages)
    by_page None none = record {
      line = inl (page_present (rewritten ranges bytes pages) (i / 64)
          ∙ ap has_lines (page_of-rewritten ranges bytes pages (i / 64 / 64) ∙ ap (option_map (rewritten_page ranges bytes pages (0 + i / 64 / 64))) none));
    }
    by_page (Some page) is =
        record { line = inr (byte_rewritten ranges bytes pages, rewritten_line ranges bytes pages (i / 64) page (ap (touches_any_page ranges) number ∙ touched) is) }

file-rewritten : (text name : List ℕ) (ranges : List Span) (bytes : List ℕ) (i : ℕ) (files : List File) → bytes_eq text name ≡ true → touches_any_page ranges (i / 4096) ≡ true
    → LineRewritten i (pages_named name (written_together text ranges bytes files))
file-rewritten text name ranges bytes i files same touched =
    subst (λ t. LineRewritten i (pages_named name (written_together t ranges bytes files))) (sym ((bytes_eq-Decides text name).0 same))
    (elim (named-own name (rewritten ranges bytes) files) as (λ _. LineRewritten i (pages_named name (written_together name ranges bytes files))) [
      | inl is ↦ subst (LineRewritten i) (sym is) (pages-rewritten ranges bytes i (pages_named name files) touched)
      | inr none ↦ subst (LineRewritten i) {x = []} (sym (none.0 ∙ none.1)) (record { line = inl refl })
    ])

-- A command that covers a byte of a file was done: its line is flushed, or cleared, or, where no weak line is lost, written anew.
abbrev pub IsRenewed : Bool → ℕ → List Page → List Page → Type 0
IsRenewed worn i old new = (LineFlushed i old new ⊎ LineCleared i old new) ⊎ ((worn ≡ false) × LineRewritten i new)

made_renewed : (h : Machine) (action : Action) (name : List ℕ) (i : ℕ) → is_made_durable h action (of_file name i) ≡ true → refusal h action ≡ None
    → IsRenewed (made_durable h.geometry h.mappings action).worn i (pages_named name h.files) (pages_named name (files_made h.mappings action h.files))
made_renewed h (Sync handle offset len) name i covered none =
    inl (inl (through-flushed Once handle (record { start = offset; len = len } ∷ []) h.mappings h.files name i covered))
made_renewed h (Flush handle spans) name i covered none = inl (inl (through-flushed Once handle spans h.mappings h.files name i covered))
made_renewed h (FlushVerify handle spans) name i covered none = inl (inl (through-flushed Again handle spans h.mappings h.files name i covered))
made_renewed h (DeepFlush handle spans) name i covered none = inl (inl (through-flushed Once handle spans h.mappings h.files name i covered))
made_renewed h (FSync text) name i covered none =
    let both = and_parts _ _ covered in
    subst (λ t. IsRenewed true i (pages_named name h.files) (pages_named name (synced_in t all_bytes h.files))) (sym ((bytes_eq-Decides text name).0 both.0))
    (inl (inl (synced-flushed all_bytes name i h.files both.1)))
made_renewed h (FAtomic text offset bytes) name i covered none =
    let both = and_parts _ _ covered in
    inr (refl, file-rewritten text name (record { start = offset; len = length bytes } ∷ []) bytes i h.files both.0 both.1)
made_renewed h (FMulti text ranges bytes) name i covered none =
    let both = and_parts _ _ covered in inr (refl, file-rewritten text name ranges bytes i h.files both.0 both.1)
made_renewed h (ClearFile text offset) name i covered none =
    let both = and_parts _ _ covered in
    subst (λ t. IsRenewed true i (pages_named t h.files) (pages_named t (marked_in clear_cell text offset h.files))) ((bytes_eq-Decides text name).0 both.0)
    (inl (inr (file-cleared text offset i h.files (eqb-true (i / 64) (offset / 64) both.1) (was_bad_in h text offset none))))
made_renewed h (VPSync address len) name i covered none = absurd (no_file (physical_offset h.geometry address len) len name i covered)
made_renewed h action name i covered none = cc covered

pub file_renewed : (h : Machine) (action : Action) (next : Machine) (name : List ℕ) (i : ℕ) → is_made_durable h action (of_file name i) ≡ true → refusal h action ≡ None
    → Alters h action next → IsRenewed (made_durable h.geometry h.mappings action).worn i (pages_named name h.files) (pages_named name next.files)
file_renewed h action next name i covered none to =
    subst (λ fs. IsRenewed (made_durable h.geometry h.mappings action).worn i (pages_named name h.files) (pages_named name fs)) (sym to.files) (made_renewed h action name i covered none)

module _ (since : MayBe) where
  -- what the line of the byte has is kept
  abbrev ShownKept : List Page → ℕ → Type 0
  ShownKept pages i = VolumeKeeps since pages i (line_has (cell_of pages (i / 64)) (i % 64))

  -- so where it was flushed
  flushed_line : (i : ℕ) (old new : List Page) → LineFlushed i old new → HaveLines old → ShownKept new i
  flushed_line i old new flushed lines = by_page (is_line_present old (i / 64)) refl
    where
      by_cell : (o : Option Cell) → IsLineThere o → LineKeeps since (option_map flush_cell o) (i % 64) (line_has (option_map flush_cell o) (i % 64))
      by_cell None none = absurd none
      by_cell (Some cell) size = line_keeps-flushed since cell (i % 64) (omega arith) size

      by_page : (b : Bool) → is_line_present old (i / 64) ≡ b → ShownKept new i
      by_page true there = inr (subst (λ o. LineKeeps since o (i % 64) (line_has o (i % 64))) (sym flushed.line) (by_cell (cell_of old (i / 64)) (lines (i / 64) there)))
      by_page false absent = absent-kept since new i (ap (λ bs. slice_index_or bs (i / 64 / 64) false) flushed.there ∙ absent)

  -- the same where a span is synced that may be none
  synced_at : (o : Option ℕ) (len i : ℕ) (pages : List Page) → HaveLines pages → (touched_lines_at o len).volume i ≡ true → ShownKept (persist_at o len pages) i
  synced_at None len i pages lines covered = cc covered
  synced_at (Some start) len i pages lines covered = flushed_line i pages (persist start len pages) (persist-flushed start len i pages covered) lines

  -- and where it has zeros
  zero_line : (i : ℕ) (pages : List Page) → cell_of pages (i / 64) ≡ Some zero_cell → ShownKept pages i
  zero_line i pages zeros = inr (subst (λ o. LineKeeps since o (i % 64) (line_has o (i % 64))) (sym zeros) (line_keeps-flushed since zero_cell (i % 64) (omega arith) refl))

  cleared_line : (n i : ℕ) (pages : List Page) → i / 64 ≡ n → cell_of pages n ≡ Some Bad → ShownKept (change_line clear_cell n pages) i
  cleared_line n i pages same bad =
      zero_line i (change_line clear_cell n pages) (ap (cell_of (change_line clear_cell n pages)) same ∙ cell_of-changed clear_cell n pages ∙ ap (option_map clear_cell) bad)

  -- and where it was written anew
  anew_line : (i : ℕ) (new : List Page) → LineRewritten i new → ShownKept new i
  anew_line i new made = elim made.line as (λ _. ShownKept new i) [
    | inl absent ↦ absent-kept since new i absent
    | inr (byte, is) ↦
        inr (subst (λ o. LineKeeps since o (i % 64) (line_has o (i % 64))) (sym is) (line_keeps-flushed since (durable_line byte (i / 64)) (i % 64) (omega arith) refl))
  ]

  -- A command that covers the place was done: each value of its word has the byte.
  pub covered_place : (h : Machine) (action : Action) (next : Machine) (x : Place) → IsComplete h → is_made_durable h action x ≡ true → refusal h action ≡ None → Alters h action next
      → PlaceKeeps since next x (byte_at_place next x)
  covered_place h action next (of_blocks i) whole covered none to = inl refl
  covered_place h (VSync offset len) next (of_volume i) whole covered none to = subst (λ p. ShownKept p i) (sym to.volume) (synced_at (Some offset) len i h.volume whole.lines covered)
  covered_place h (VPSync address len) next (of_volume i) whole covered none to =
      subst (λ p. ShownKept p i) (sym to.volume) (synced_at (physical_offset h.geometry address len) len i h.volume whole.lines covered)
  covered_place h (ClearVolume offset) next (of_volume i) whole covered none to =
      subst (λ p. ShownKept p i) (sym to.volume) (cleared_line (offset / 64) i h.volume (eqb-true (i / 64) (offset / 64) covered) (was_bad h offset none))
  covered_place h (Sync handle offset len) next (of_volume i) whole covered none to = absurd (no_volume h.mappings handle (record { start = offset; len = len } ∷ []) i covered)
  covered_place h (Flush handle spans) next (of_volume i) whole covered none to = absurd (no_volume h.mappings handle spans i covered)
  covered_place h (FlushVerify handle spans) next (of_volume i) whole covered none to = absurd (no_volume h.mappings handle spans i covered)
  covered_place h (DeepFlush handle spans) next (of_volume i) whole covered none to = absurd (no_volume h.mappings handle spans i covered)
  covered_place h action next (of_volume i) whole covered none to = cc covered
  covered_place h action next (of_file name i) whole covered none to =
      elim (file_renewed h action next name i covered none to) as (λ _. ShownKept (pages_named name next.files) i) [
        | inl (inl flushed) ↦ flushed_line i (pages_named name h.files) (pages_named name next.files) flushed (lines-named name h.files whole.file_lines)
        | inl (inr cleared) ↦ zero_line i (pages_named name next.files) cleared.zeros
        | inr (worn, made) ↦ anew_line i (pages_named name next.files) made
      ]
