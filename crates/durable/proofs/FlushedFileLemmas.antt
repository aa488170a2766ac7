-- A byte of a file of which lines change or are flushed.
use Rattle.std.proofs.Common.{◌≡◌, ◌&&◌, ◌/◌, inl, inr, ℕ, Bool, true, false, Option, Some, None, List, refl, sym, subst, if◌then◌else◌}
use Rattle.std.proofs.lemmas.Bool.{and_from}
use Rattle.std.proofs.lemmas.Slice.Eq.{bytes_eq-Decides}
use Rattle.std.specs.Bool.{Decides}
use Rattle.std.specs.Str.{bytes_eq}
use Rattle.nvm_base.specs.declared.units.Span.{Span}
use Rattle.nvm_model.specs.Files.{on_pages}
use Rattle.nvm_model.specs.Interrupted.{MaySyncAll}
use Rattle.nvm_model.specs.Listing.{change_file, file_name}
use Rattle.nvm_model.specs.Page.{Page}
use Rattle.nvm_model.specs.Mappings.{is_shared, mapping_of}
use Rattle.nvm_model.specs.Storage.{File, Mapping}
use Rattle.nvm_model.specs.Touched.{persist_spans, touches_any}
use Rattle.machine_model.specs.Commands.{LeavesFiles}
use Rattle.machine_model.specs.Meaning.FilesLeft.{Unchanged}
use Rattle.machine_model.specs.declared.look.Look.{Look}
use Rattle.machine_model.specs.OnFlushes.{all_moved, flush_file, flush_through, flush_with, nothing_done}
use Rattle.machine_model.specs.OnPages.{pages_named}
use Rattle.durable.specs.Region.{Region, flushed_by, flushed_lines, flushed_through, nothing}
use Rattle.durable.proofs.LineLemmas.{MayBe}
use Rattle.durable.proofs.NamedPageLemmas.{named-change, named-left, named-own}
use Rattle.durable.proofs.VolumeLemmas.{VolumeKeeps, keeps-may_spans, keeps-spans}

-- a place of the file that an action names
pub here_and : (text name : List ℕ) (b : Bool) → text ≡ name → b ≡ true → (bytes_eq text name && b) ≡ true
here_and text name b same is = and_from (bytes_eq text name) b ((bytes_eq-Decides text name).1 same) is

module _ (since : MayBe) where
  -- a weak line of the region may be lost, where one may be
  abbrev MayLose : Region → List ℕ → ℕ → Type 0
  MayLose region name i = region.files name i ≡ true → since.weak ≡ true → since.lost ≡ true

  -- The byte i of the file of that name has v, whatever a cut leaves.
  abbrev pub FileKeeps : List File → List ℕ → ℕ → Option ℕ → Type 0
  FileKeeps files name i v = VolumeKeeps since (pages_named name files) i v

  pub same_pages : (name : List ℕ) (i : ℕ) (v : Option ℕ) (old new : List File) → pages_named name new ≡ pages_named name old → FileKeeps old name i v → FileKeeps new name i v
  same_pages name i v old new same keeps = subst (λ p. VolumeKeeps since p i v) {x = pages_named name old} (sym same) keeps

  -- the pages of a file changed by what keeps the byte
  pub keeps-changed_in : (text name : List ℕ) (i : ℕ) (v : Option ℕ) (f : List Page → List Page) (files : List File)
      → (text ≡ name → FileKeeps files name i v → VolumeKeeps since (f (pages_named name files)) i v) → FileKeeps files name i v
      → FileKeeps (change_file file_name text (on_pages f) files) name i v
  keeps-changed_in text name i v f files each keeps = by_name (bytes_eq text name) refl (bytes_eq-Decides text name)
    where
      own : text ≡ name → FileKeeps (change_file file_name name (on_pages f) files) name i v
      own same = elim (named-own name f files) as (λ _. FileKeeps (change_file file_name name (on_pages f) files) name i v) [
        | inl is ↦ subst (λ p. VolumeKeeps since p i v) (sym is) (each same keeps)
        | inr none ↦ same_pages name i v files (change_file file_name name (on_pages f) files) none.0 keeps
      ]

      by_name : (b : Bool) → bytes_eq text name ≡ b → Decides b (text ≡ name) → FileKeeps (change_file file_name text (on_pages f) files) name i v
      by_name true is tells =
          subst (λ t. FileKeeps (change_file file_name t (on_pages f) files) name i v) (sym (tells.0 refl)) (own (tells.0 refl))
      by_name false is tells = same_pages name i v files (change_file file_name text (on_pages f) files) (named-change name text is (on_pages f) (λ x. refl) files) keeps

  -- lines flushed through a handle
  pub keeps-flushed_in : (look : Look) (handle : ℕ) (spans : List Span) (name : List ℕ) (i : ℕ) (v : Option ℕ) (mappings : List Mapping) (files : List File)
      → MayLose (flushed_through mappings handle spans) name i → FileKeeps files name i v → FileKeeps ((flush_with look handle spans).files mappings files) name i v
  keeps-flushed_in look handle spans name i v mappings files loses keeps = by_mapping (mapping_of handle mappings) loses
    where
      by_kind : (m : Mapping) (shared : Bool) → MayLose (if shared then flushed_lines m.name (all_moved m.start spans) else nothing) name i
          → FileKeeps ((if shared then flush_file look m.name (all_moved m.start spans) else nothing_done).files mappings files) name i v
      by_kind m true may =
          keeps-changed_in m.name name i v (persist_spans (all_moved m.start spans)) files
          (λ same kept.
          keeps-spans since (all_moved m.start spans) i v (pages_named name files)
          (λ touched. may (here_and m.name name (touches_any (all_moved m.start spans) (i / 64)) same touched)) kept) keeps
      by_kind m false may = keeps

      by_mapping : (o : Option Mapping) → MayLose (flushed_by spans o) name i
          → FileKeeps (elim o [ None ↦ files | Some m ↦ (flush_through look spans m).files mappings files ]) name i v
      by_mapping None may = keeps
      by_mapping (Some m) may = by_kind m (is_shared m.kind) may

  -- a flush that was interrupted
  pub keeps-part_flushed : (look : Look) (handle : ℕ) (spans : List Span) (name : List ℕ) (i : ℕ) (v : Option ℕ) (mappings : List Mapping) (files left : List File)
      → MayLose (flushed_through mappings handle spans) name i
      → LeavesFiles ((flush_with look handle spans).files_left mappings) files ((flush_with look handle spans).files mappings files) left → FileKeeps files name i v
      → FileKeeps left name i v
  keeps-part_flushed look handle spans name i v mappings files left loses may keeps = by_mapping (mapping_of handle mappings) loses may
    where
      to : List File
      to = (flush_with look handle spans).files mappings files

      same : left ≡ files → FileKeeps left name i v
      same is = subst (λ fs. FileKeeps fs name i v) {x = files} (sym is) keeps

      by_kind : (m : Mapping) (shared : Bool) → MayLose (if shared then flushed_lines m.name (all_moved m.start spans) else nothing) name i
          → LeavesFiles ((if shared then flush_file look m.name (all_moved m.start spans) else nothing_done).files_left mappings) files to left → FileKeeps left name i v
      by_kind m true worn part =
          elim (named-left m.name (MaySyncAll (all_moved m.start spans)) name files left part) as (λ _. FileKeeps left name i v) [
            | inl is ↦ same_pages name i v files left is keeps
            | inr here ↦ keeps-may_spans since (all_moved m.start spans) i v (pages_named name files) (pages_named name left)
                (λ touched. worn (here_and m.name name (touches_any (all_moved m.start spans) (i / 64)) (sym here.0) touched)) keeps here.1
          ]
      by_kind m false worn is = same is

      by_mapping : (o : Option Mapping) → MayLose (flushed_by spans o) name i → LeavesFiles (elim o [ None ↦ Unchanged | Some m ↦ (flush_through look spans m).files_left mappings ]) files to left → FileKeeps left name i v
      by_mapping None worn is = same is
      by_mapping (Some m) worn part = by_kind m (is_shared m.kind) worn part
