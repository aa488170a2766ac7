-- Switches of pages that nothing refuses, and what their commit leaves.
use Rattle.std.proofs.Common.{◌≡◌, ℕ, ◌+◌, ◌-◌, ◌≤◌, List, Option, None, option_map, ap, ap₂, ◌∙◌, arith}
use Rattle.std.proofs.lemmas.Bool.{le-ltb}
use Rattle.line_device.specs.Medium.{Medium}
use Rattle.line_words.specs.Words.{WritesBackOutside}
use Rattle.line_words.proofs.PositionLemmas.{none_among}
use Rattle.word_tables.specs.declared.geometry.Geometry.{Geometry}
use Rattle.word_tables.specs.Layout.{meta_lines}
use Rattle.word_log.specs.Area.{IsOf}
use Rattle.page_table.specs.Pages.{used_pages}
use Rattle.nvm_model.specs.Blocks.{first_there}
use Rattle.nvm_model.specs.Lines.{AreGood}
use Rattle.page_lines.specs.Turns.{WritesBackOthers}
use Rattle.file_journal.specs.Area.{IsOfFiles, file_area}
use Rattle.file_journal.specs.Changes.{filled_holes}
use Rattle.file_journal.specs.Object.{JournalState}
use Rattle.file_journal.specs.Refusals.{full_refusal, metadata_refusal, refused_if, switch_refusal}
use Rattle.file_journal.specs.Refusals.JournalRefusal.{Full, Meta}
use Rattle.file_journal.proofs.FileLineLemmas.{area_of_files}

-- where there is room and metadata is good
pub unrefused : (s : JournalState) (m : Medium) (inode : ℕ) (switches : List (ℕ × Option ℕ)) → used_pages s.tables.pages + filled_holes s.tables inode switches + 16 ≤ s.geo.fpages → AreGood m (meta_lines s.geo)
    → switch_refusal s m inode switches ≡ None
unrefused s m inode switches room good =
    let full : full_refusal s inode switches ≡ None =
    ap (λ b. refused_if b Full) (le-ltb (s.geo.fpages - 16) (used_pages s.tables.pages + filled_holes s.tables inode switches) (omega (arith, room))) in
    let meta : metadata_refusal s.geo m ≡ None =
    ap (option_map Meta) (none_among m.is_bad 0 (meta_lines s.geo) (λ k lt. let e : 0 + k ≡ k = omega arith in ap m.is_bad e ∙ good k lt)) in
    ap₂ (λ a b. first_there a b) full meta

-- what is only written back outside of log and tables is so outside of files
pub area-outside : (geo : Geometry) (old new : Medium) → WritesBackOutside (IsOf (file_area geo)) old new → WritesBackOthers (IsOfFiles geo) old new
area-outside geo old new back = record {
  count = back.count;
  bad = λ n _. back.bad n;
  weak = λ n _. back.weak n;
  stays_strong = λ n strong. back.weak n ∙ strong;
  stays_good = λ n good strong. back.bad n ∙ good;
  word_write_back = λ p apart. back.word_write_back p (λ of. apart (area_of_files geo p of));
}
