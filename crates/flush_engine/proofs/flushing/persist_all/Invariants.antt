use Rattle.std.proofs.Common.{◌≡◌, List, take}
use Rattle.line_device.specs.Panel.{Runs}
use Rattle.line_device.specs.Panel.Outcome.{went}
use Rattle.nvm_model.specs.Files.{on_pages}
use Rattle.nvm_model.specs.Listing.{change_file, file_name}
use Rattle.nvm_model.specs.Storage.{File}
use Rattle.nvm_model.specs.Touched.{persist_spans}
use Rattle.page_lines.specs.Turns.{WritesBackOthers}
use Rattle.file_journal.specs.Area.{IsOfFiles}
use Rattle.file_journal.specs.Object.{JournalServes}
use Rattle.file_journal.specs.Standing.{FilesStand}
use Rattle.file_pages.specs.Object.{IsFileAt, KeepsMarks}
use Rattle.flush_engine.specs.Spans.{IsSpanned, lines_in}
use Rattle.flush_engine.proofs.flushing.persist_all.Given as goal

abbrev pub invariant-loop-span : goal.invariant-loop-span
invariant-loop-span g l =
    let old = g.L.Lines.state l.initial.dev in
    let new = g.L.Lines.state l.dev in
    let j = l.initial.files.journal in
    let done = take l.span-index l.spans in
    record {
      files : l.files ≡ l.initial.files;
      stand : (listed : List File) (file : File) → IsFileAt j old.medium l.inode listed file
          → FilesStand j.geo new.medium j.tables (change_file file_name file.name (on_pages (persist_spans done)) listed);
      beside : WritesBackOthers (IsSpanned j l.inode done) old.medium new.medium;
      outside : WritesBackOthers (IsOfFiles j.geo) old.medium new.medium;
      metadata : KeepsMarks j.geo old.medium new.medium;
      serves : JournalServes j new.medium;
      runs : Runs (lines_in j l.inode done) (lines_in j l.inode done) went old.panel new.panel;
    }
