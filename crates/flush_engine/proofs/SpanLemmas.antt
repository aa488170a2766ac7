-- A file of which some spans were made durable, and one span more.
use Rattle.std.proofs.Common.{◌≡◌, ℕ, true, List, [], ◌∷◌, ◌++◌, ap, subst, take, ◌∙◌}
use Rattle.std.proofs.lemmas.Bool.{or_left, or_right}
use Rattle.nvm_base.specs.declared.units.Span.{Span}
use Rattle.line_device.specs.Medium.{Medium}
use Rattle.nvm_model.specs.Files.{OneFileLeft, on_pages}
use Rattle.nvm_model.specs.Interrupted.{MaySync, MaySyncAll}
use Rattle.nvm_model.specs.Listing.{change_file, file_name}
use Rattle.nvm_model.specs.Page.{Page, persist}
use Rattle.nvm_model.specs.Storage.{File}
use Rattle.nvm_model.specs.Cell.{touches}
use Rattle.nvm_model.specs.Touched.{persist_spans, touches_any}
use Rattle.nvm_model.proofs.OneFileLemmas.{change-idle, change-twice, found-change, left-change, left-changed}
use Rattle.nvm_model.proofs.SeveralLemmas.{may_sync-after, may_sync_all-done, spans-last, spans-none, touches-last, touches-taken}
use Rattle.page_lines.specs.Placed.{IsPlaced}
use Rattle.page_lines.specs.Turns.{WritesBackOthers}
use Rattle.page_lines.proofs.OthersLemmas.{others-trans, others-wider}
use Rattle.file_journal.specs.Object.{JournalServes, JournalState}
use Rattle.file_journal.specs.Standing.{EachReadsFiles, FilesStand}
use Rattle.file_journal.specs.Tables.{AreTables}
use Rattle.file_journal.proofs.EachFilesLemmas.{each_files-then}
use Rattle.file_pages.specs.Object.{IsFileAt, file_place}
use Rattle.file_pages.proofs.WorkLemmas.{reads-left}
use Rattle.flush_engine.specs.Spans.{IsSpanned}

-- the files with the spans of that one durable
abbrev pub durable : List ℕ → List Span → List File → List File
durable name spans files = change_file file_name name (on_pages (persist_spans spans)) files

pub durable-none : (name : List ℕ) (files : List File) → durable name [] files ≡ files
durable-none name files = change-idle name (persist_spans []) files (λ file has same. spans-none file.pages)

-- each file that an inode was stands with these spans durable
abbrev pub StandDurable : JournalState → ℕ → Medium → Medium → List Span → Type 0
StandDurable s inode old new spans = (files : List File) (file : File) → IsFileAt s old inode files file → FilesStand s.geo new s.tables (durable file.name spans files)

-- it is found with them as it is then
pub at-durable : (s : JournalState) (inode : ℕ) (old mid : Medium) (xs : List Span) → StandDurable s inode old mid xs
    → (files : List File) (file : File) → IsFileAt s old inode files file → IsFileAt s mid inode (durable file.name xs files) (on_pages (persist_spans xs) file)
at-durable s inode old mid xs stand files file at = record { named = at.named; stand = stand files file at; found = found-change file.name (persist_spans xs) files file at.found }

module _ (s : JournalState) (inode : ℕ) (old mid new : Medium) (xs : List Span) (span : Span) (stand : StandDurable s inode old mid xs) where
  pub durable-more : ((files : List File) (file : File) → IsFileAt s mid inode files file → FilesStand s.geo new s.tables (change_file file_name file.name (on_pages (λ pages. persist span.start span.len pages)) files))
      → StandDurable s inode old new (xs ++ span ∷ [])
  durable-more done files file at =
      subst (FilesStand s.geo new s.tables)
      (change-twice file.name (persist span.start span.len) (persist_spans xs) files
      ∙ ap (λ (f : List Page → List Page). change_file file_name file.name (on_pages f) files) (λ i pages. spans-last xs span pages i))
      (done (durable file.name xs files) (on_pages (persist_spans xs) file) (at-durable s inode old mid xs stand files file at))

  pub durable-left : (spans : List Span) → ((n : ℕ) → touches_any (xs ++ span ∷ []) n ≡ true → touches_any spans n ≡ true)
      → ((files : List File) (file : File) → IsFileAt s mid inode files file → EachReadsFiles s.geo new (OneFileLeft file.name (MaySync span.start span.len) files))
      → (files : List File) (file : File) → IsFileAt s old inode files file → EachReadsFiles s.geo new (OneFileLeft file.name (MaySyncAll spans) files)
  durable-left spans so left files file at =
      each_files-then s.geo new (OneFileLeft file.name (MaySync span.start span.len) (durable file.name xs files)) (OneFileLeft file.name (MaySyncAll spans) files)
      (λ ys is. left-changed file.name (persist_spans xs) (MaySync span.start span.len) (MaySyncAll spans) (λ p q may. may_sync-after spans xs span so p q may) files ys is)
      (left (durable file.name xs files) (on_pages (persist_spans xs) file) (at-durable s inode old mid xs stand files file at))

-- where all of them are durable, each image reads so
pub durable-reads : (s : JournalState) (inode : ℕ) (old new : Medium) (spans : List Span) → AreTables s.geo.fpages s.tables → JournalServes s new → StandDurable s inode old new spans
    → (files : List File) (file : File) → IsFileAt s old inode files file → EachReadsFiles s.geo new (OneFileLeft file.name (MaySyncAll spans) files)
durable-reads s inode old new spans are serves stand files file at =
    reads-left s new (durable file.name spans files) (OneFileLeft file.name (MaySyncAll spans) files) are serves (stand files file at)
    (left-change file.name (persist_spans spans) (MaySyncAll spans) (may_sync_all-done spans) files)

-- lines of the device that spans touch, of those before one more, of that one, and of the first ones
module _ (s : JournalState) (inode line : ℕ) where
  pub spanned-before : (xs : List Span) (span : Span) → IsSpanned s inode xs line → IsSpanned s inode (xs ++ span ∷ []) line
  spanned-before xs span is = (is.0, touches-last xs span is.0 ∙ or_left (touches_any xs is.0) (touches span.start span.len is.0) is.1, is.2)

  pub spanned-last : (xs : List Span) (span : Span) → IsPlaced (file_place s inode) span.start span.len line → IsSpanned s inode (xs ++ span ∷ []) line
  spanned-last xs span is = (is.0, touches-last xs span is.0 ∙ or_right (touches_any xs is.0) (touches span.start span.len is.0) is.1, is.2)

  pub spanned-taken : (spans : List Span) (k : ℕ) → IsSpanned s inode (take k spans) line → IsSpanned s inode spans line
  spanned-taken spans k is = (is.0, touches-taken spans k is.0 is.1, is.2)

-- what work on the lines of some spans, and then on those of one more, leaves of the others
pub beside-more : (s : JournalState) (inode : ℕ) (old mid new : Medium) (xs : List Span) (span : Span) → WritesBackOthers (IsSpanned s inode xs) old mid
    → WritesBackOthers (IsPlaced (file_place s inode) span.start span.len) mid new → WritesBackOthers (IsSpanned s inode (xs ++ span ∷ [])) old new
beside-more s inode old mid new xs span x y =
    others-trans (IsSpanned s inode (xs ++ span ∷ [])) old mid new
    (others-wider (IsSpanned s inode xs) (IsSpanned s inode (xs ++ span ∷ [])) old mid (λ line. spanned-before s inode line xs span) x)
    (others-wider (IsPlaced (file_place s inode) span.start span.len) (IsSpanned s inode (xs ++ span ∷ [])) mid new (λ line. spanned-last s inode line xs span) y)
