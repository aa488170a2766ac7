-- A journal is served on while lines of other areas are worked on, and each image reads as its files.
use Rattle.std.proofs.Common.{◌≡◌, ℕ, List, refl, subst, sym, ◌∙◌}
use Rattle.line_device.specs.History.{IsIn}
use Rattle.line_device.specs.Medium.{Medium, WritesBack}
use Rattle.word_tables.specs.Layout.{meta_lines}
use Rattle.word_log.specs.Area.{IsOf}
use Rattle.word_log.proofs.HeldLemmas.{images_at_rest, rests-kept, rests-write_back}
use Rattle.nvm_model.specs.Lines.{AreStrong}
use Rattle.nvm_model.specs.Storage.{File}
use Rattle.file_journal.specs.Area.{file_area}
use Rattle.file_journal.specs.Holds.{Holds}
use Rattle.file_journal.specs.Object.{JournalServes, JournalState}
use Rattle.file_journal.specs.Standing.{EachReadsFiles, FilesStand}
use Rattle.file_journal.specs.Tables.{AreTables, Tables}
use Rattle.file_journal.proofs.EachFilesLemmas.{gate_of_files}

-- a journal goes on serving a device whose log and tables have no other values
pub journal-kept : (s : JournalState) (old new : Medium) → ((p : ℕ) → IsOf (file_area s.geo) p → (v : ℕ) → IsIn v (new.history p) → IsIn v (old.history p))
    → AreStrong new (meta_lines s.geo) → new.count ≡ old.count → JournalServes s old → JournalServes s new
journal-kept s old new fewer strong count serves = record {
  count = count ∙ serves.count;
  strong = strong;
  rest = rests-kept (file_area s.geo) (Holds s.geo) old new s.tables (gate_of_files s.geo) fewer serves.rest;
}

pub journal-write_back : (s : JournalState) (old new : Medium) → WritesBack old new → JournalServes s old → JournalServes s new
journal-write_back s old new x serves = record {
  count = x.count ∙ serves.count;
  strong = λ n below. x.weak n ∙ serves.strong n below;
  rest = rests-write_back (file_area s.geo) (Holds s.geo) old new s.tables x serves.rest;
}

-- a journal of the same sizes and tables
pub journal-same : (s t : JournalState) (m : Medium) → t.geo ≡ s.geo → t.tables ≡ s.tables → JournalServes s m → JournalServes t m
journal-same s t m geo tables serves =
    subst (λ g. JournalServes (record t { geo = g }) m) (sym geo)
    (subst (λ (ts : Tables). JournalServes (record t { geo = s.geo; tables = ts }) m) (sym tables)
    (record { count = serves.count; strong = serves.strong; rest = serves.rest }))

-- Each image reads as the files that journal and device stand for.
pub served_files : (s : JournalState) (m : Medium) (files : List File) → AreTables s.geo.fpages s.tables → JournalServes s m → FilesStand s.geo m s.tables files
    → EachReadsFiles s.geo m (λ x. x ≡ files)
served_files s m files right serves stand image is = record {
  tables = s.tables;
  right = right;
  word = serves.rest.word;
  replays = images_at_rest (file_area s.geo) serves.rest.word m (gate_of_files s.geo) serves.rest.rest image is;
  holds = serves.rest.holds;
  files = files;
  is = refl;
  stand = stand;
}
