-- Files that an interruption left as they were.
use Rattle.std.proofs.Common.{◌≡◌, inl, ℕ, Option, Some, None, List, refl, sym, subst}
use Rattle.nvm_model.specs.Files.{OneFileLeft}
use Rattle.nvm_base.specs.declared.units.Span.{Span}
use Rattle.nvm_model.specs.Cell.{Cell}
use Rattle.nvm_model.specs.Interrupted.{Became, MayPersistTouched, MayStore, MaySyncAll}
use Rattle.nvm_model.specs.Page.{Page, cell_of}
use Rattle.nvm_model.specs.Storage.{File, Mapping}
use Rattle.nvm_model.proofs.FileLeftLemmas.{one_left-same}
use Rattle.script_text.specs.Action.{Action}
use Rattle.machine_model.specs.Commands.{LeavesFiles, MayLeaveFiles, meaning}
use Rattle.machine_model.specs.Meaning.{FilesLeft}
use Rattle.machine_model.specs.Meaning.FilesLeft.{Unchanged, OldOrNew, StoredInPart, SyncedInPart}

-- a sync that did nothing yet
sync-none : (spans : List Span) (pages : List Page) → MaySyncAll spans pages pages
sync-none spans pages = record { there = refl; each = λ n. by_cell n (cell_of pages n) }
  where
    by_cell : (n : ℕ) (o : Option Cell) → Became (MayPersistTouched spans n) o o
    by_cell n None = tt
    by_cell n (Some cell) = inl refl

leaves-same : (how : FilesLeft) (old to left : List File) → left ≡ old → LeavesFiles how old to left
leaves-same Unchanged old to left same = same
leaves-same OldOrNew old to left same = inl same
leaves-same (StoredInPart name offset bytes) old to left same =
    subst (OneFileLeft name (MayStore offset bytes) old) {x = old} (sym same) (one_left-same name (MayStore offset bytes) (λ pages. inl refl) old)
leaves-same (SyncedInPart name spans) old to left same = subst (OneFileLeft name (MaySyncAll spans) old) {x = old} (sym same) (one_left-same name (MaySyncAll spans) (sync-none spans) old)

-- no action has to change them
pub may_leave-same : (mappings : List Mapping) (o : Option Action) (old left : List File) → left ≡ old → MayLeaveFiles mappings o old left
may_leave-same mappings None old left same = same
may_leave-same mappings (Some action) old left same = leaves-same ((meaning action).files_left mappings) old ((meaning action).files mappings old) left same
