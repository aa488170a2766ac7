-- A line of a file that is changed, and what journal and device stand for then.
use Rattle.std.proofs.Common.{◌≡◌, ℕ, ◌/◌, ◌<◌, Some, List, sym, ap, subst, ◌∙◌, arith}
use Rattle.line_device.specs.Medium.{Medium, WritesBack}
use Rattle.line_device.proofs.HistoryLemmas.{is_in-word_write_back}
use Rattle.word_tables.specs.Bounds.{IsValid}
use Rattle.word_tables.specs.Layout.{file_pages, meta_lines, HasLine}
use Rattle.nvm_model.specs.Cell.{Cell}
use Rattle.nvm_model.specs.Files.{on_pages}
use Rattle.nvm_model.specs.Listing.{change_file, file_name}
use Rattle.nvm_model.specs.Page.{change_line}
use Rattle.nvm_model.specs.Storage.{File}
use Rattle.nvm_model.proofs.KeptLemmas.{line_kept-write_back}
use Rattle.nvm_model.proofs.MediaLemmas.{presence_of-change}
use Rattle.page_lines.specs.Turns.{WritesBackOthers}
use Rattle.page_lines.proofs.OthersLemmas.{others-wider}
use Rattle.file_journal.specs.Object.{JournalServes, JournalState}
use Rattle.file_journal.specs.Standing.{FilesStand}
use Rattle.file_journal.specs.Tables.{AreTables}
use Rattle.file_journal.proofs.FileLineLemmas.{page_line_apart, page_line_behind}
use Rattle.file_journal.proofs.ServesLemmas.{journal-kept}
use Rattle.file_journal.proofs.StandingLemmas.{files-kept}
use Rattle.file_pages.specs.Object.{IsFileAt, KeepsMarks, file_place, pages_there, units_of}
use Rattle.file_pages.proofs.ListedLemmas.{files-turned}
use Rattle.file_pages.proofs.PlaceLemmas.{line_at, located, place_in, units_own}
use Rattle.marked_lines.proofs.ApartLemmas.{file_apart}
use Rattle.scrub.specs.Lines.{IsFileLine}
use Rattle.scrub.specs.Others.{WritesBackBut}
use Rattle.scrub.proofs.LineLemmas.{ChangesLine, stand-changed}
use Rattle.scrub.proofs.OthersLemmas.{but-wider, strong-but}

module _ (s : JournalState) (old new : Medium) (inode n line : ℕ) (valid : IsValid s.geo) (are : AreTables s.geo.fpages s.tables) (low : inode < 64) (serves : JournalServes s old)
    (at : file_place s inode n ≡ Some line) where
  of_files : HasLine s.geo file_pages line
  of_files = place_in s.geo (units_of s.tables inode) (units_own s.geo.fpages s.tables are inode low) n line at

  -- the pages of that file change alike, and other files stay
  pub files-changed_at : (f : Cell → Cell) → ChangesLine f line old new → (all : List File) (file : File) → IsFileAt s old inode all file
      → FilesStand s.geo new s.tables (change_file file_name file.name (on_pages (change_line f n)) all)
  files-changed_at f x all file is =
      files-turned s.geo s.tables are inode file.name is.named old new (λ l. l ≡ line) x.beside (λ l same. (n, at ∙ sym (ap (λ (k : ℕ). Some k) same))) (change_line f n)
      (λ pages stands. record {
        there = presence_of-change f n pages ∙ stands.there;
        stand = stand-changed (file_place s inode) (line_at s.geo (units_of s.tables inode)) (pages_there s inode) (located s.geo (units_of s.tables inode)) n line at old pages stands.there stands.stand new f
            (λ k also. (file_apart s old inode are low serves).once k n line also at) x;
      })
      all is.stand

  is_line : (l : ℕ) → l ≡ line → IsFileLine s inode n l
  is_line l same = subst (IsFileLine s inode n) (sym same) (record { at = at; of = of_files })

  pub file-others : WritesBackOthers (λ l. l ≡ line) old new → WritesBackOthers (IsFileLine s inode n) old new
  file-others x = others-wider (λ l. l ≡ line) (IsFileLine s inode n) old new is_line x

  module _ (x : WritesBackBut (λ l. l ≡ line) old new) where
    -- the files can be used on, and the other lines stay
    pub file-serves : JournalServes s new
    file-serves =
        journal-kept s old new
        (λ p of v has. is_in-word_write_back (old.is_weak (p / 8)) v (old.history p) (new.history p) (x.word_write_back p (λ same. page_line_apart s.geo line p valid of_files same of)) has)
        (strong-but (λ l. l ≡ line) old new (meta_lines s.geo) (λ l same. let behind = page_line_behind s.geo line of_files in omega (arith, same)) x serves.strong)
        x.count serves

    pub file-outside : WritesBackBut (IsFileLine s inode n) old new
    file-outside = but-wider (λ l. l ≡ line) (IsFileLine s inode n) old new is_line x

    pub file-marks : KeepsMarks s.geo old new
    file-marks k below = x.bad k (λ same. let behind = page_line_behind s.geo line of_files in absurd (omega (arith, same, below)))

pub files-written : (s : JournalState) (old new : Medium) → AreTables s.geo.fpages s.tables → WritesBack old new → (all : List File) → FilesStand s.geo old s.tables all → FilesStand s.geo new s.tables all
files-written s old new are x all stand = files-kept s.geo old new s.tables all are (λ n _. line_kept-write_back old new n x) stand
