-- Whatever an interruption leaves of pages and files, each word keeps a value.
use Rattle.std.proofs.Common.{◌≡◌, ◌⊎◌, inl, inr, ℕ, ◌*◌, ◌/◌, ◌%◌, ◌≤◌, Bool, true, false, Option, Some, None, option_and_then, List, [], ◌∷◌, length, replicate, slice_get, refl, sym, ap, subst, ◌∙◌}
use Rattle.std.specs.Bool.{Decides}
use Rattle.std.proofs.lemmas.Bool.{both_ways}
use Rattle.std.proofs.lemmas.Slice.Eq.{bytes_eq-Decides}
use Rattle.nvm_base.specs.declared.units.Span.{Span}
use Rattle.line_device.specs.Medium.{word_stored}
use Rattle.word_tables.specs.declared.geometry.Geometry.{Geometry}
use Rattle.nvm_model.specs.Cell.{Cell, persist_cell, touches}
use Rattle.nvm_model.specs.Cell.Cell.{Bad, Kept}
use Rattle.nvm_model.specs.Files.{OneFileLeft}
use Rattle.nvm_model.specs.Interrupted.{Became, LineByLine, MayPersist, MayPersistTouched, MayPut, MayStore, MaySyncAll}
use Rattle.nvm_model.specs.Listing.{file_name, is_named}
use Rattle.nvm_model.specs.Numbered.{AreMixed, map_from}
use Rattle.nvm_model.specs.Page.{Page, cell_in, cell_of, fill}
use Rattle.nvm_model.specs.Storage.{File, Mapping}
use Rattle.nvm_model.specs.Touched.{persist_touched, touches_any}
use Rattle.script_text.specs.Action.{Action}
use Rattle.machine_model.specs.Commands.{LeavesFiles, LeavesVolume, MayLeaveFiles, MayLeaveVolume, meaning}
use Rattle.machine_model.specs.Meaning.{FilesLeft, VolumeLeft}
use Rattle.machine_model.specs.Meaning.FilesLeft.{Unchanged, OldOrNew, StoredInPart, SyncedInPart}
use Rattle.machine_model.specs.Meaning.VolumeLeft.{Kept as AsItWas, PartStored, PartSynced, AllOrNone, PageByPage}
use Rattle.outcomes.specs.Outcome.{AllHaveValues, HasValues, HaveValues}
use Rattle.outcome_runs.proofs.FileValueLemmas.{files_made_have}
use Rattle.outcomes.proofs.ValueLemmas.{fill_have, flushed_has, made_have, stored_words, zeros_have}

-- words of which each is of the one list or of the other
abbrev WordsHave : List (List ℕ) → Type 0
WordsHave words = (w : ℕ) (history : List ℕ) → slice_get words w ≡ Some history → 1 ≤ length history

mixed_have : (one other mixed : List (List ℕ)) → AreMixed (List ℕ) one other mixed → WordsHave one → WordsHave other → WordsHave mixed
mixed_have one other mixed may first second w history is = elim (may.each w) as (λ _. 1 ≤ length history) [
  | inl same ↦ first w history (sym same ∙ is)
  | inr same ↦ second w history (sym same ∙ is)
]

put_left : (at : ℕ) (bytes : List ℕ) (n : ℕ) (old new : Cell) → HasValues old → MayPut at bytes n old new → HasValues new
put_left at bytes n Bad new have (inl is) = subst HasValues {x = Bad} (sym is) tt
put_left at bytes n Bad Bad have (inr may) = tt
put_left at bytes n Bad (Kept mark mixed) have (inr may) =
    mixed_have (replicate 8 (0 ∷ [])) (map_from (word_stored at bytes) (8 * n) (replicate 8 (0 ∷ []))) mixed may.1.1 (λ w history is. zeros_have w 8 history is)
    (stored_words at bytes (8 * n) (replicate 8 (0 ∷ [])) (λ w history is. zeros_have w 8 history is))
put_left at bytes n (Kept weak words) Bad have may = tt
put_left at bytes n (Kept weak words) (Kept mark mixed) have may =
    mixed_have words (map_from (word_stored at bytes) (8 * n) words) mixed may.1 have (stored_words at bytes (8 * n) words have)

flush_left : (touched : Bool) (old new other : Cell) → HasValues old → HasValues other → (new ≡ old) ⊎ (new ≡ other) → HasValues new
flush_left touched old new other have made (inl is) = subst HasValues {x = old} (sym is) have
flush_left touched old new other have made (inr is) = subst HasValues {x = other} (sym is) made

-- lines that became what R says
lines_left : (R : ℕ → Cell → Cell → Type 0) (old left : List Page) → ((n : ℕ) (a b : Cell) → HasValues a → R n a b → HasValues b) → HaveValues old → LineByLine R old left → HaveValues left
lines_left R old left each have lines n cell is = by_old (cell_of old n) refl (subst (Became (R n) (cell_of old n)) is (lines.each n))
  where
    by_old : (o : Option Cell) → cell_of old n ≡ o → Became (R n) o (Some cell) → HasValues cell
    by_old None was became = absurd became
    by_old (Some first) was became = each n first cell (have n first was) became

stored_left : (at : ℕ) (bytes : List ℕ) (old left : List Page) → HaveValues old → MayStore at bytes old left → HaveValues left
stored_left at bytes old left have (inl is) = subst HaveValues {x = old} (sym is) have
stored_left at bytes old left have (inr lines) =
    lines_left (MayPut at bytes) (fill at (length bytes) old) left (put_left at bytes) (fill_have at (length bytes) old have) lines

spans_left : (spans : List Span) (old left : List Page) → HaveValues old → MaySyncAll spans old left → HaveValues left
spans_left spans old left have lines =
    lines_left (MayPersistTouched spans) old left
    (λ n a b has may. flush_left (touches_any spans n) a b (persist_touched spans n a) has (flushed_has (touches_any spans n) a has) may) have lines

mixed_pages : (old to left : List Page) → HaveValues old → HaveValues to → AreMixed Page old to left → HaveValues left
mixed_pages old to left have made may n cell is = elim (may.each (n / 64)) as (λ _. HasValues cell) [
  | inl same ↦ have n cell (sym (ap (option_and_then (λ page. cell_in page (n % 64))) same) ∙ is)
  | inr same ↦ made n cell (sym (ap (option_and_then (λ page. cell_in page (n % 64))) same) ∙ is)
]

volume_leaves : (kind : VolumeLeft) (old to left : List Page) → HaveValues old → HaveValues to → LeavesVolume kind old to left → HaveValues left
volume_leaves AsItWas old to left have made is = subst HaveValues {x = old} (sym is) have
volume_leaves (PartStored at bytes) old to left have made may = stored_left at bytes old left have may
volume_leaves (PartSynced start len) old to left have made lines =
    lines_left (MayPersist start len) old left
    (λ n a b has may. flush_left (touches start len n) a b (persist_cell start len n a) has (flushed_has (touches start len n) a has) may) have lines
volume_leaves AllOrNone old to left have made (inl is) = subst HaveValues {x = old} (sym is) have
volume_leaves AllOrNone old to left have made (inr is) = subst HaveValues {x = to} (sym is) made
volume_leaves PageByPage old to left have made may = mixed_pages old to left have made may

pub volume_left_has : (geo : Geometry) (o : Option Action) (old left : List Page) → HaveValues old → MayLeaveVolume geo o old left → HaveValues left
volume_left_has geo None old left have is = subst HaveValues {x = old} (sym is) have
volume_left_has geo (Some action) old left have may =
    volume_leaves ((meaning action).volume_left geo) old ((meaning action).volume geo old) left have (made_have geo action old have) may

-- files
one_left : (name : List ℕ) (R : List Page → List Page → Type 0) → ((old left : List Page) → HaveValues old → R old left → HaveValues left) → (old new : List File)
    → AllHaveValues old → OneFileLeft name R old new → AllHaveValues new
one_left name R each [] [] all left = tt
one_left name R each [] (y ∷ new) all left = absurd left
one_left name R each (x ∷ old) [] all left = absurd left
one_left name R each (x ∷ old) (y ∷ new) all left = (by_test (is_named file_name name x) (bytes_eq-Decides x.name name), one_left name R each old new all.1 left.2)
  where
    by_test : (b : Bool) → Decides b (x.name ≡ name) → HaveValues y.pages
    by_test true tells = each x.pages y.pages all.0 (left.1.here (tells.0 refl))
    by_test false tells = subst HaveValues {x = x.pages} (sym (left.1.beside (λ is. both_ways false refl (tells.1 is)))) all.0

files_leave : (kind : FilesLeft) (old to new : List File) → AllHaveValues old → AllHaveValues to → LeavesFiles kind old to new → AllHaveValues new
files_leave Unchanged old to new all made is = subst AllHaveValues {x = old} (sym is) all
files_leave OldOrNew old to new all made (inl is) = subst AllHaveValues {x = old} (sym is) all
files_leave OldOrNew old to new all made (inr is) = subst AllHaveValues {x = to} (sym is) made
files_leave (StoredInPart name at bytes) old to new all made left = one_left name (MayStore at bytes) (stored_left at bytes) old new all left
files_leave (SyncedInPart name spans) old to new all made left = one_left name (MaySyncAll spans) (spans_left spans) old new all left

pub files_left_have : (mappings : List Mapping) (o : Option Action) (old new : List File) → AllHaveValues old → MayLeaveFiles mappings o old new → AllHaveValues new
files_left_have mappings None old new all is = subst AllHaveValues {x = old} (sym is) all
files_left_have mappings (Some action) old new all may =
    files_leave ((meaning action).files_left mappings) old ((meaning action).files mappings old) new all (files_made_have action mappings old all) may
