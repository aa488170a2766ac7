-- What the tests before an atomic write tell, one after the other.
use Rattle.std.proofs.Common.{◌≡◌, ℕ, ◌+◌, ◌<◌, ◌≤◌, ◌||◌, true, false, not, is_some, All, MatchOption, List, length, nat_lt, Option, Some, None, Result, Ok, Err, refl, sym, subst, arith}
use Rattle.nvm_base.specs.declared.units.Span.{Span}
use Rattle.line_device.specs.Medium.{Medium}
use Rattle.line_words.specs.Told.{Checks}
use Rattle.word_tables.specs.Layout.{meta_lines}
use Rattle.inode_table.specs.Slots.{pages_at}
use Rattle.page_table.specs.Pages.{used_pages}
use Rattle.nvm_model.specs.Lines.{AreGood}
use Rattle.nvm_model.specs.Page.{presence_of}
use Rattle.nvm_model.specs.Blocks.{first_there}
use Rattle.nvm_model.specs.Storage.{File}
use Rattle.page_lines.proofs.ResultLemmas.{checks_second}
use Rattle.range_sets.specs.Faults.{IsFirstOverlap}
use Rattle.range_sets.specs.Ranges.{IsInReach, is_disjoint}
use Rattle.range_sets.proofs.DisjointLemmas.{overlap_not_disjoint}
use Rattle.file_journal.specs.Object.{JournalState}
use Rattle.file_journal.specs.Tables.{AreTables}
use Rattle.file_pages.specs.Object.{IsFileAt, pages_there}
use Rattle.file_pages.proofs.PassLemmas.{length-pages_on, pages_on}
use Rattle.file_actions.specs.declared.fault.ActionFault.{ActionFault}
use Rattle.file_actions.specs.declared.fault.ActionFault.TheVariants as fault
use Rattle.file_actions.specs.Checked.{AreKept, AreTogether, AreWritable, IsWithin}
use Rattle.file_actions.specs.Refusals.{ActionRefusal, action_says, extents_refusal, full_refusal, holes_touched, metadata_refusal, poisoned_at, refused_if, together_refusal, write_refusal}
use Rattle.file_actions.specs.Refusals.ActionRefusal.{Limit, Overlap}
use Rattle.file_actions.specs.Rewriting.{first_lost, pages_touched}
use Rattle.file_actions.proofs.KeptLemmas.{all_kept}

-- ranges of pages end where addresses do
pub in_reach : (pages : ℕ) (ranges : List Span) → pages ≤ 256 → All (IsWithin pages) ranges → All IsInReach ranges
in_reach pages ranges small all k d below = let w = all k d below in omega (arith, w.within, small)

-- ranges that overlap are so refused
overlaps : (ranges : List Span) (o : Option ℕ) → MatchOption o (is_disjoint ranges ≡ true) (IsFirstOverlap ranges) → is_some o ≡ true → is_disjoint ranges ≡ false
overlaps ranges None says is = cc
overlaps ranges (Some i) says is = overlap_not_disjoint ranges i says

pub overlap_told : (pages : ℕ) (ranges : List Span) (o : Option ℕ) → Checks {T = Unit {0}} action_says (extents_refusal pages ranges) (Ok tt)
    → (nat_lt 16 (pages_touched ranges pages) || nat_lt 8 (length ranges)) ≡ false → MatchOption o (is_disjoint ranges ≡ true) (IsFirstOverlap ranges) → is_some o ≡ true
    → Checks {T = Unit {0}} action_says (together_refusal pages ranges) (Err fault.Overlap)
overlap_told pages ranges o extents few says is =
    checks_second action_says (extents_refusal pages ranges) _ tt (Err fault.Overlap) extents
    (checks_second action_says (refused_if (nat_lt 16 (pages_touched ranges pages) || nat_lt 8 (length ranges)) Limit) (refused_if (not (is_disjoint ranges)) Overlap) tt (Err fault.Overlap)
    (subst (λ b. Checks {T = Unit {0}} action_says (refused_if b Limit) (Ok tt)) (sym few) tt)
    (subst (λ b. Checks {T = Unit {0}} action_says (refused_if (not b) Overlap) (Err fault.Overlap)) (sym (overlaps ranges o says is)) refl))

-- what the tests tell by the journal is what the file's pages say
abbrev pub write_told : JournalState → Medium → ℕ → List Span → Option ℕ → Option ActionRefusal
write_told s m inode ranges lost =
    first_there (together_refusal (pages_at s.tables.files inode) ranges)
    (first_there (full_refusal s (holes_touched ranges (pages_there s inode)))
    (first_there (metadata_refusal s.geo m) (poisoned_at lost)))

pub write_checked : {j s : JournalState} → j ≡ s → {m : Medium} {inode : ℕ} (ranges : List Span) → AreTables j.geo.fpages j.tables → {files : List File} {file : File} → IsFileAt s m inode files file
    → (r : Result (Unit {0}) ActionFault) → Checks action_says (write_told j m inode ranges (first_lost ranges file.pages)) r → Checks action_says (write_refusal s m file.pages ranges) r
write_checked {j} {s} same {m} {inode} ranges is_right {files} {file} at r was_told =
    let are = subst (λ (t : JournalState). AreTables t.geo.fpages t.tables) same is_right in
    let told = subst (λ (t : JournalState). Checks action_says (write_told t m inode ranges (first_lost ranges file.pages)) r) same was_told in
    let stands = pages_on s m inode files file are at in
    let size = length-pages_on s m inode file.pages stands in
    subst (λ n. Checks action_says (first_there (together_refusal n ranges) (first_there (full_refusal s (holes_touched ranges (presence_of file.pages))) (first_there (metadata_refusal s.geo m) (poisoned_at (first_lost ranges file.pages))))) r) (sym size)
    (subst (λ bs. Checks action_says (first_there (together_refusal (pages_at s.tables.files inode) ranges) (first_there (full_refusal s (holes_touched ranges bs)) (first_there (metadata_refusal s.geo m) (poisoned_at (first_lost ranges file.pages))))) r) (sym stands.there) told)

-- and where all pass, the ranges can be written
pub writable : (j s : JournalState) → j ≡ s → (m : Medium) (inode : ℕ) (ranges : List Span) → inode < 64 → AreTables j.geo.fpages j.tables → AreTogether (pages_at j.tables.files inode) ranges
    → used_pages j.tables.pages + holes_touched ranges (pages_there j inode) + 16 ≤ j.geo.fpages → AreGood m (meta_lines j.geo)
    → ((files : List File) (file : File) → IsFileAt s m inode files file → None ≡ first_lost ranges file.pages) → AreWritable s m inode ranges
writable j s same m inode ranges low is_right together room good none =
    let are = subst (λ (t : JournalState). AreTables t.geo.fpages t.tables) same is_right in
    let kept = all_kept s m inode ranges are low (λ files file at. sym (none files file at)) in
    subst (λ (t : JournalState). AreKept t m inode ranges → AreWritable t m inode ranges) same
    (λ kept. record { together = together; room = room; good = good; kept = kept }) kept
