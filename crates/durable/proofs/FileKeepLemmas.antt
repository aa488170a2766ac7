-- A byte of a file that a cut does not take.
use Rattle.std.proofs.Common.{◌≡◌, ◌⊎◌, ◌&&◌, ◌||◌, ◌+◌, ◌/◌, ◌<◌, ◌==◌, inl, inr, ℕ, Bool, true, false, Option, Some, None, List, [], ◌∷◌, get_or, length, refl, sym, ap, subst, ◌∙◌, if◌then◌else◌}
use Rattle.std.proofs.lemmas.Bool.{and_from, both_ways, eq-eqb, or_parts}
use Rattle.std.proofs.lemmas.Slice.Eq.{bytes_eq-Decides}
use Rattle.std.specs.Bool.{Decides}
use Rattle.std.specs.Str.{bytes_eq}
use Rattle.line_device.specs.Panel.{Image}
use Rattle.line_device.specs.declared.line.Choice.{Choice}
use Rattle.word_tables.specs.declared.geometry.Geometry.{Geometry}
use Rattle.nvm_model.specs.Files.{OneFileLeft, new_file, on_pages, with_name, with_pages}
use Rattle.nvm_model.specs.Cell.{clear_cell, lose_cell, weaken_cell}
use Rattle.nvm_model.specs.Interrupted.{MayStore, MaySyncAll}
use Rattle.nvm_model.specs.Numbered.{is_among}
use Rattle.nvm_model.specs.Page.{change_line, discard, fill, presence_of, put}
use Rattle.nvm_model.specs.Mappings.{is_shared, mapping_of}
use Rattle.nvm_model.specs.Storage.{File, Mapping}
use Rattle.nvm_base.specs.declared.units.Span.{Span}
use Rattle.nvm_model.specs.Touched.{persist_spans, touches_any}
use Rattle.file_actions.specs.Refusals.{all_bytes}
use Rattle.file_actions.specs.Rewriting.{first_lost, rewritten}
use Rattle.file_journal.specs.Standing.{KeepsFiles, files_read}
use Rattle.script_text.specs.Action.{Action}
use Rattle.script_text.specs.Action.Action.{Create, Delete, Rename, Resize, FWrite, FAtomic, FMulti, FDiscard, FSync, Load, Store, Sync, Flush, FlushVerify, DeepFlush, PoisonFile, WeakenFile, ClearFile}
use Rattle.machine_model.specs.Commands.{LeavesFiles, MayLeaveFiles, meaning}
use Rattle.machine_model.specs.Meaning.FilesLeft.{Unchanged}
use Rattle.machine_model.specs.declared.look.Look.TheVariants.{Once, Again}
use Rattle.machine_model.specs.OnFileActions.{written_together}
use Rattle.machine_model.specs.OnMappings.{load_through, read_copy, store_through, write_copy}
use Rattle.machine_model.specs.OnPages.{fread, fwrite, pages_named, stored_in}
use Rattle.durable.specs.Place.Place.{of_file}
use Rattle.durable.specs.Region.{file_bytes, nothing, stored_by, stored_through}
use Rattle.durable.proofs.LineLemmas.{MayBe}
use Rattle.durable.proofs.NamedPageLemmas.{named-change, named-left, named-own, named-put, named-read, named-rename, named-without}
use Rattle.durable.proofs.FlushedFileLemmas.{FileKeeps, here_and, keeps-changed_in, keeps-flushed_in, keeps-part_flushed, same_pages}
use Rattle.durable.proofs.RewrittenKeepLemmas.{has_byte, keeps-rewritten}
use Rattle.durable.proofs.SparedLemmas.{KeepsBytes, KeptBy, SparedBy, SparesPlace}
use Rattle.durable.proofs.StepKinds.{files_made}
use Rattle.durable.proofs.VolumeLemmas.{VolumeKeeps, keeps-clear, keeps-discard, keeps-lose, keeps-may_spans, keeps-may_store, keeps-read, keeps-spans, keeps-stored, keeps-weaken}

-- a byte that a store in a file spares is one of another file, or beside the bytes
spared_store : (text name : List ℕ) (offset len i : ℕ) → (bytes_eq text name && is_among offset len i) ≡ false → (bytes_eq text name ≡ false) ⊎ ((text ≡ name) × (is_among offset len i ≡ false))
spared_store text name offset len i spared = by_name (bytes_eq text name) (bytes_eq-Decides text name) spared
  where
    by_name : (b : Bool) → Decides b (text ≡ name) → (b && is_among offset len i) ≡ false → (b ≡ false) ⊎ ((text ≡ name) × (is_among offset len i ≡ false))
    by_name true tells out = inr (tells.0 refl, out)
    by_name false tells out = inl refl

-- a place of the file that an action names
pub spared_here : (text name : List ℕ) (b : Bool) → text ≡ name → (bytes_eq text name && b) ≡ false → b ≡ false
spared_here text name b same spared = sym (ap (λ t. t && b) ((bytes_eq-Decides text name).1 same)) ∙ spared

-- one range, as one of several
one_of : (b : Bool) → b ≡ (b || false)
one_of true = refl
one_of false = refl

in_one : (text name : List ℕ) (offset len i : ℕ) → (bytes_eq text name && is_among offset len i) ≡ false
    → (bytes_eq text name && has_byte (record { start = offset; len = len } ∷ []) i) ≡ false
in_one text name offset len i out = ap (λ b. bytes_eq text name && b) (sym (one_of (is_among offset len i))) ∙ out

-- a byte of a line of a file
pub in_line : (text name : List ℕ) (i n : ℕ) → text ≡ name → i / 64 ≡ n → (bytes_eq text name && (i / 64 == n)) ≡ true
in_line text name i n same at = and_from (bytes_eq text name) (i / 64 == n) ((bytes_eq-Decides text name).1 same) (eq-eqb (i / 64) n at)

-- a load leaves all files
pub load-leaves : (handle offset len : ℕ) (mappings : List Mapping) (files : List File) → (meaning (Load handle offset len)).files mappings files ≡ files
load-leaves handle offset len mappings files = by_mapping (mapping_of handle mappings)
  where
    by_kind : (m : Mapping) (shared : Bool) → (if shared then fread m.name (m.start + offset) len else read_copy m offset len).files mappings files ≡ files
    by_kind m true = refl
    by_kind m false = refl

    by_mapping : (o : Option Mapping) → elim o [ None ↦ files | Some m ↦ (load_through offset len m).files mappings files ] ≡ files
    by_mapping None = refl
    by_mapping (Some m) = by_kind m (is_shared m.kind)

load-left : (handle offset len : ℕ) (mappings : List Mapping) (files left : List File) → MayLeaveFiles mappings (Some (Load handle offset len)) files left → left ≡ files
load-left handle offset len mappings files left may = by_mapping (mapping_of handle mappings) may
  where
    to : List File
    to = (meaning (Load handle offset len)).files mappings files

    by_kind : (m : Mapping) (shared : Bool) → LeavesFiles ((if shared then fread m.name (m.start + offset) len else read_copy m offset len).files_left mappings) files to left → left ≡ files
    by_kind m true same = same
    by_kind m false same = same

    by_mapping : (o : Option Mapping) → LeavesFiles (elim o [ None ↦ Unchanged | Some m ↦ (load_through offset len m).files_left mappings ]) files to left → left ≡ files
    by_mapping None same = same
    by_mapping (Some m) same = by_kind m (is_shared m.kind) same

module _ (since : MayBe) where
  -- bytes that are stored beside it
  keeps-stored_in : (text name : List ℕ) (offset i : ℕ) (v : Option ℕ) (bytes : List ℕ) (files : List File) → ((k : ℕ) → get_or bytes k 0 < 256)
      → (bytes_eq text name ≡ false) ⊎ ((text ≡ name) × (is_among offset (length bytes) i ≡ false)) → FileKeeps since files name i v → FileKeeps since (stored_in text offset bytes files) name i v
  keeps-stored_in text name offset i v bytes files small (inl differ) keeps =
      same_pages since name i v files (stored_in text offset bytes files)
      (named-change name text differ (on_pages (λ pages. put offset bytes (fill offset (length bytes) pages))) (λ x. refl) files) keeps
  keeps-stored_in text name offset i v bytes files small (inr here) keeps =
      subst (λ t. FileKeeps since (stored_in t offset bytes files) name i v) (sym here.0)
      (elim (named-own name (λ pages. put offset bytes (fill offset (length bytes) pages)) files) as (λ _. FileKeeps since (stored_in name offset bytes files) name i v) [
        | inl is ↦ subst (λ p. VolumeKeeps since p i v) (sym is) (keeps-stored since offset i v bytes (pages_named name files) small here.1 keeps)
        | inr none ↦ same_pages since name i v files (stored_in name offset bytes files) none.0 keeps
      ])

  -- bytes that are stored through a handle, beside it
  keeps-stored_through : (handle offset : ℕ) (bytes : List ℕ) (name : List ℕ) (i : ℕ) (v : Option ℕ) (mappings : List Mapping) (files : List File) → ((k : ℕ) → get_or bytes k 0 < 256)
      → (stored_through mappings handle offset (length bytes)).files name i ≡ false → FileKeeps since files name i v
      → FileKeeps since ((meaning (Store handle offset bytes)).files mappings files) name i v
  keeps-stored_through handle offset bytes name i v mappings files small spared keeps = by_mapping (mapping_of handle mappings) spared
    where
      by_kind : (m : Mapping) (shared : Bool) → (if shared then file_bytes m.name (m.start + offset) (length bytes) else nothing).files name i ≡ false
          → FileKeeps since ((if shared then fwrite m.name (m.start + offset) bytes else write_copy handle offset bytes).files mappings files) name i v
      by_kind m true out = keeps-stored_in m.name name (m.start + offset) i v bytes files small (spared_store m.name name (m.start + offset) (length bytes) i out) keeps
      by_kind m false out = keeps

      by_mapping : (o : Option Mapping) → (stored_by offset (length bytes) o).files name i ≡ false
          → FileKeeps since (elim o [ None ↦ files | Some m ↦ (store_through handle offset bytes m).files mappings files ]) name i v
      by_mapping None out = keeps
      by_mapping (Some m) out = by_kind m (is_shared m.kind) out

  -- pages that are written as a whole, beside it
  keeps-together : (text name : List ℕ) (ranges : List Span) (i : ℕ) (v : Option ℕ) (bytes : List ℕ) (files : List File) → ((k : ℕ) → get_or bytes k 0 < 256)
      → (bytes_eq text name && has_byte ranges i) ≡ false → first_lost ranges (pages_named text files) ≡ None → FileKeeps since files name i v
      → FileKeeps since (written_together text ranges bytes files) name i v
  keeps-together text name ranges i v bytes files small spared fine keeps =
      keeps-changed_in since text name i v (rewritten ranges bytes) files
      (λ same kept.
      keeps-rewritten since ranges bytes i v (pages_named name files) small (spared_here text name (has_byte ranges i) same spared)
      (subst (λ t. first_lost ranges (pages_named t files) ≡ None) same fine) kept) keeps

  -- what an action makes of files, where it marks none of their lines
  file_meant : (geo : Geometry) (action : Action) (name : List ℕ) (i : ℕ) (v : Option ℕ) (mappings : List Mapping) (files : List File)
      → SparesPlace since geo mappings action (of_file name i) → KeepsBytes action files → FileKeeps since files name i v → FileKeeps since ((meaning action).files mappings files) name i v
  file_meant geo (Create text pages) name i v mappings files spared fine keeps = same_pages since name i v files _ (named-put name (new_file text pages) files spared.change) keeps
  file_meant geo (Delete text) name i v mappings files spared fine keeps = same_pages since name i v files _ (named-without name text spared.change files) keeps
  file_meant geo (Rename text to) name i v mappings files spared fine keeps =
      let apart = or_parts (bytes_eq text name) (bytes_eq to name) spared.change in
      same_pages since name i v files _ (named-rename name text apart.0 to (with_name to) (λ x. refl) apart.1 files) keeps
  file_meant geo (Resize text pages) name i v mappings files spared fine keeps =
      same_pages since name i v files _ (named-change name text spared.change (with_pages pages) (λ x. refl) files) keeps
  file_meant geo (FWrite text offset bytes) name i v mappings files spared fine keeps =
      keeps-stored_in text name offset i v bytes files spared.brings (spared_store text name offset (length bytes) i spared.change) keeps
  file_meant geo (FAtomic text offset bytes) name i v mappings files spared fine keeps =
      keeps-together text name (record { start = offset; len = length bytes } ∷ []) i v bytes files spared.brings (in_one text name offset (length bytes) i spared.change) fine keeps
  file_meant geo (FMulti text ranges bytes) name i v mappings files spared fine keeps =
      keeps-together text name ranges i v bytes files spared.brings spared.change fine keeps
  file_meant geo (FDiscard text page count) name i v mappings files spared fine keeps =
      keeps-changed_in since text name i v (discard page count) files
      (λ same kept. keeps-discard since page count i v (pages_named name files) (spared_here text name (is_among page count (i / 4096)) same spared.change) kept) keeps
  file_meant geo (FSync text) name i v mappings files spared fine keeps =
      keeps-changed_in since text name i v (persist_spans all_bytes) files
      (λ same kept. keeps-spans since all_bytes i v (pages_named name files) (λ touched. spared.cover (here_and text name (touches_any all_bytes (i / 64)) same touched)) kept) keeps
  file_meant geo (Load handle offset len) name i v mappings files spared fine keeps =
      subst (λ fs. FileKeeps since fs name i v) {x = files} (sym (load-leaves handle offset len mappings files)) keeps
  file_meant geo (Store handle offset bytes) name i v mappings files spared fine keeps = keeps-stored_through handle offset bytes name i v mappings files spared.brings spared.change keeps
  file_meant geo (Sync handle offset len) name i v mappings files spared fine keeps =
      keeps-flushed_in since Once handle (record { start = offset; len = len } ∷ []) name i v mappings files spared.cover keeps
  file_meant geo (Flush handle spans) name i v mappings files spared fine keeps = keeps-flushed_in since Once handle spans name i v mappings files spared.cover keeps
  file_meant geo (FlushVerify handle spans) name i v mappings files spared fine keeps = keeps-flushed_in since Again handle spans name i v mappings files spared.cover keeps
  file_meant geo (DeepFlush handle spans) name i v mappings files spared fine keeps = keeps-flushed_in since Once handle spans name i v mappings files spared.cover keeps
  file_meant geo (ClearFile text offset) name i v mappings files spared fine keeps =
      keeps-changed_in since text name i v (change_line clear_cell (offset / 64)) files
      (λ same kept. keeps-clear since (offset / 64) i v (pages_named name files) (λ at. both_ways _ spared.change (in_line text name i (offset / 64) same at)) kept) keeps
  file_meant geo action name i v mappings files spared fine keeps = keeps

  pub file_altered : (geo : Geometry) (action : Action) (name : List ℕ) (i : ℕ) (v : Option ℕ) (mappings : List Mapping) (files : List File)
      → SparesPlace since geo mappings action (of_file name i) → KeepsBytes action files → FileKeeps since files name i v → FileKeeps since (files_made mappings action files) name i v
  file_altered geo (PoisonFile text offset) name i v mappings files spared fine keeps =
      keeps-changed_in since text name i v (change_line lose_cell (offset / 64)) files
      (λ same kept. keeps-lose since (offset / 64) i v (pages_named name files) (λ at. spared.poison (in_line text name i (offset / 64) same at)) kept) keeps
  file_altered geo (WeakenFile text offset) name i v mappings files spared fine keeps =
      keeps-changed_in since text name i v (change_line weaken_cell (offset / 64)) files
      (λ same kept. keeps-weaken since (offset / 64) i v (pages_named name files) (λ at. spared.weaken (in_line text name i (offset / 64) same at)) kept) keeps
  file_altered geo action name i v mappings files spared fine keeps = file_meant geo action name i v mappings files spared fine keeps

  -- one that was interrupted
  keeps-left_in : (text name : List ℕ) (offset i : ℕ) (v : Option ℕ) (bytes : List ℕ) (files left : List File) → ((k : ℕ) → get_or bytes k 0 < 256)
      → (bytes_eq text name && is_among offset (length bytes) i) ≡ false → OneFileLeft text (MayStore offset bytes) files left → FileKeeps since files name i v → FileKeeps since left name i v
  keeps-left_in text name offset i v bytes files left small spared may keeps =
      elim (named-left text (MayStore offset bytes) name files left may) as (λ _. FileKeeps since left name i v) [
        | inl same ↦ same_pages since name i v files left same keeps
        | inr here ↦
            elim (spared_store text name offset (length bytes) i spared) as (λ _. FileKeeps since left name i v) [
              | inl differ ↦ let is = (bytes_eq-Decides text name).1 (sym here.0) in cc (is, differ)
              | inr out ↦ keeps-may_store since offset i v bytes (pages_named name files) (pages_named name left) small out.1 keeps here.1
            ]
      ]

  keeps-part_stored : (handle offset : ℕ) (bytes : List ℕ) (name : List ℕ) (i : ℕ) (v : Option ℕ) (mappings : List Mapping) (files left : List File) → ((k : ℕ) → get_or bytes k 0 < 256)
      → (stored_through mappings handle offset (length bytes)).files name i ≡ false → MayLeaveFiles mappings (Some (Store handle offset bytes)) files left → FileKeeps since files name i v
      → FileKeeps since left name i v
  keeps-part_stored handle offset bytes name i v mappings files left small spared may keeps = by_mapping (mapping_of handle mappings) spared may
    where
      to : List File
      to = (meaning (Store handle offset bytes)).files mappings files

      same : left ≡ files → FileKeeps since left name i v
      same is = subst (λ fs. FileKeeps since fs name i v) {x = files} (sym is) keeps

      by_kind : (m : Mapping) (shared : Bool) → (if shared then file_bytes m.name (m.start + offset) (length bytes) else nothing).files name i ≡ false
          → LeavesFiles ((if shared then fwrite m.name (m.start + offset) bytes else write_copy handle offset bytes).files_left mappings) files to left → FileKeeps since left name i v
      by_kind m true out part = keeps-left_in m.name name (m.start + offset) i v bytes files left small out part keeps
      by_kind m false out is = same is

      by_mapping : (o : Option Mapping) → (stored_by offset (length bytes) o).files name i ≡ false
          → LeavesFiles (elim o [ None ↦ Unchanged | Some m ↦ (store_through handle offset bytes m).files_left mappings ]) files to left → FileKeeps since left name i v
      by_mapping None out is = same is
      by_mapping (Some m) out part = by_kind m (is_shared m.kind) out part

  left_by : (geo : Geometry) (mappings : List Mapping) (a : Action) (name : List ℕ) (i : ℕ) (v : Option ℕ) (files left : List File) → SparesPlace since geo mappings a (of_file name i) → KeepsBytes a files
      → MayLeaveFiles mappings (Some a) files left → FileKeeps since files name i v → FileKeeps since left name i v
  left_by geo mappings a name i v files left spared fine may keeps = by_action a spared fine may
    where
      whole : (a : Action) → SparesPlace since geo mappings a (of_file name i) → KeepsBytes a files → (left ≡ files) ⊎ (left ≡ (meaning a).files mappings files) → FileKeeps since left name i v
      whole a spares fine (inl is) = subst (λ fs. FileKeeps since fs name i v) {x = files} (sym is) keeps
      whole a spares fine (inr is) = subst (λ fs. FileKeeps since fs name i v) {x = (meaning a).files mappings files} (sym is) (file_meant geo a name i v mappings files spares fine keeps)

      by_action : (a : Action) → SparesPlace since geo mappings a (of_file name i) → KeepsBytes a files → MayLeaveFiles mappings (Some a) files left → FileKeeps since left name i v
      by_action (Create text pages) spares fine may = whole (Create text pages) spares fine may
      by_action (Delete text) spares fine may = whole (Delete text) spares fine may
      by_action (Rename text to) spares fine may = whole (Rename text to) spares fine may
      by_action (Resize text pages) spares fine may = whole (Resize text pages) spares fine may
      by_action (FWrite text offset bytes) spares fine may = keeps-left_in text name offset i v bytes files left spares.brings spares.change may keeps
      by_action (FAtomic text offset bytes) spares fine may = whole (FAtomic text offset bytes) spares fine may
      by_action (FMulti text ranges bytes) spares fine may = whole (FMulti text ranges bytes) spares fine may
      by_action (FDiscard text page count) spares fine may = whole (FDiscard text page count) spares fine may
      by_action (FSync text) spares fine may =
          elim (named-left text (MaySyncAll all_bytes) name files left may) as (λ _. FileKeeps since left name i v) [
            | inl is ↦ same_pages since name i v files left is keeps
            | inr here ↦
                keeps-may_spans since all_bytes i v (pages_named name files) (pages_named name left)
                (λ touched. spares.cover (here_and text name (touches_any all_bytes (i / 64)) (sym here.0) touched)) keeps here.1
          ]
      by_action (Load handle offset len) spares fine may = subst (λ fs. FileKeeps since fs name i v) {x = files} (sym (load-left handle offset len mappings files left may)) keeps
      by_action (Store handle offset bytes) spares fine may = keeps-part_stored handle offset bytes name i v mappings files left spares.brings spares.change may keeps
      by_action (Sync handle offset len) spares fine may =
          keeps-part_flushed since Once handle (record { start = offset; len = len } ∷ []) name i v mappings files left spares.cover may keeps
      by_action (Flush handle spans) spares fine may = keeps-part_flushed since Once handle spans name i v mappings files left spares.cover may keeps
      by_action (FlushVerify handle spans) spares fine may = keeps-part_flushed since Again handle spans name i v mappings files left spares.cover may keeps
      by_action (DeepFlush handle spans) spares fine may = keeps-part_flushed since Once handle spans name i v mappings files left spares.cover may keeps
      by_action (ClearFile text offset) spares fine may = whole (ClearFile text offset) spares fine may
      by_action a spares fine is = subst (λ fs. FileKeeps since fs name i v) {x = files} (sym is) keeps

  pub file_left : (geo : Geometry) (mappings : List Mapping) (o : Option Action) (name : List ℕ) (i : ℕ) (v : Option ℕ) (files left : List File)
      → SparedBy since geo mappings o (of_file name i) → KeptBy o files → MayLeaveFiles mappings o files left → FileKeeps since files name i v → FileKeeps since left name i v
  file_left geo mappings None name i v files left spared fine is keeps = subst (λ fs. FileKeeps since fs name i v) {x = files} (sym is) keeps
  file_left geo mappings (Some action) name i v files left spared fine may keeps = left_by geo mappings action name i v files left spared fine may keeps

  -- what a restart reads
  pub file_read : (choice : Choice) (geo : Geometry) (image : Image) (name : List ℕ) (i : ℕ) (v : Option ℕ) (files : List File) → since.cut ≡ true → KeepsFiles choice geo image files
      → FileKeeps since files name i v → FileKeeps since (files_read geo image) name i v
  file_read choice geo image name i v files cuts keeps_files keeps =
      let read = named-read choice geo image name files keeps_files in
      subst (λ p. VolumeKeeps since p i v) (sym read.is) (keeps-read since choice read.place image (presence_of (pages_named name files)) i v (pages_named name files) cuts keeps refl read.keeps)
