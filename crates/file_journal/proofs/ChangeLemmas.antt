-- A change of a journal is one commit, and what stands after it.
use Rattle.std.proofs.Common.{◌≡◌, ◌≤◌, ℕ, List, Option, OnOk, Result, Ok, Err, length, ap, subst, sym, ◌∙◌, arith}
use Rattle.std.specs.Result.{is_ok}
use Rattle.line_device.specs.Device.{Device}
use Rattle.line_device.specs.Medium.{Medium}
use Rattle.line_device.proofs.PanelLemmas.{runs_within}
use Rattle.line_words.specs.declared.interruption.Interruption.{Interruption}
use Rattle.line_words.specs.Words.{WritesBackOutside}
use Rattle.nvm_base.specs.declared.files.FileEntry.{FileEntry}
use Rattle.nvm_model.specs.Lines.{AreGood, AreStrong}
use Rattle.word_log.specs.declared.area.LogArea.{LogArea}
use Rattle.word_log.specs.Area.{IsOf, IsUsable}
use Rattle.word_log.specs.Changes.{MayCommit}
use Rattle.word_log.specs.Commits.{Commits}
use Rattle.word_log.specs.Rest.{IsAtRest}
use Rattle.word_log.proofs.HeldLemmas.{ChangesRest, commit-images, commit-rest}
use Rattle.word_tables.specs.Bounds.{IsValid}
use Rattle.word_tables.specs.Layout.{meta_lines, total_lines}
use Rattle.file_journal.specs.Area.{file_area}
use Rattle.file_journal.specs.Calls.{CanSwitch, IsReady, Works}
use Rattle.file_journal.specs.Changes.{changed_tables, change_words}
use Rattle.file_journal.specs.Holds.{Holds, Turns}
use Rattle.file_journal.specs.Object.{JournalServes, JournalState, KeepsUnits, RestsWith}
use Rattle.file_journal.specs.Tables.{AreTables, Tables}
use Rattle.file_journal.proofs.AreaLemmas.{area_usable}
use Rattle.file_journal.proofs.HoldLemmas.{turns}

-- after it the journal serves with the tables that the words hold
serves_after : (s next : JournalState) (after : Tables) (old new : Medium) → next.geo ≡ s.geo → next.tables ≡ after → WritesBackOutside (IsOf (file_area s.geo)) old new → JournalServes s old → RestsWith s.geo new after → JournalServes next new
serves_after s next after old new geo tables x serves rest = record {
  count = x.count ∙ serves.count ∙ ap total_lines (sym geo);
  strong = subst (λ g. AreStrong new (meta_lines g)) (sym geo) (λ n below. x.weak n ∙ serves.strong n below);
  rest = subst (λ g. RestsWith g new next.tables) (sym geo) (subst (RestsWith s.geo new) (sym tables) rest);
}

-- of a journal that is kept as that one, with the area of its log
module _ (kept s : JournalState) (is : kept ≡ s) where
  pub turned : (inode : ℕ) (slot : Option FileEntry) (switches : List (ℕ × Option ℕ)) → CanSwitch s.geo.fpages s.tables.pages s.free inode switches → (words : List (ℕ × ℕ)) → words ≡ change_words kept.geo inode slot switches → AreTables kept.geo.fpages kept.tables → AreTables s.geo.fpages (changed_tables inode slot switches s.tables) → Turns s.geo words s.tables (changed_tables inode slot switches s.tables)
  turned inode slot switches can words words_are old new =
      turns s.geo inode can.below slot switches can.are words (words_are ∙ ap (λ (t : JournalState). change_words t.geo inode slot switches) is) s.tables
      (subst (λ (t : JournalState). AreTables t.geo.fpages t.tables) is old) new

  module _ (area : LogArea) (area_is : area ≡ file_area kept.geo) where
    here : area ≡ file_area s.geo
    here = area_is ∙ ap (λ (t : JournalState). file_area t.geo) is

    pub usable : IsValid kept.geo → (d : Device) → IsReady s d → AreGood d.medium (meta_lines s.geo) → IsUsable area d
    usable valid d ready good =
        subst (λ (a : LogArea). IsUsable a d) (sym here) (area_usable s.geo (subst (λ (t : JournalState). IsValid t.geo) is valid) d ready.serves.count ready.serves.strong good ready.on)

    pub at_rest : (d : Device) → IsReady s d → (word : ℕ → ℕ) × IsAtRest area d.medium word
    at_rest d ready = subst (λ (a : LogArea). (word : ℕ → ℕ) × IsAtRest a d.medium word) (sym here) (ready.serves.rest.word, ready.serves.rest.rest)

    module _ (words : List (ℕ × ℕ)) (after : Tables) (turn : Turns s.geo words s.tables after) where
      pub may : MayCommit area words
      may = subst (λ (a : LogArea). MayCommit a words) (sym here) turn.may

      -- what a commit of these words promises, a change promises of which they are the words
      pub commit_works : {D : Type 0} (state : D → Device) (t : JournalState) (old new : D) (result end : Result (Unit {0}) Interruption) (named most : ℕ) → end ≡ result → length words ≤ most → IsReady s (state old) → Commits area (state old) (state new) result words
          → t.geo ≡ s.geo → t.settled ≡ is_ok result → OnOk result (t.tables ≡ after) → OnOk result (KeepsUnits named s t) → Works state s t old new end after named most
      commit_works state t old new result end named most is low ready commits geo settled tables units =
          let before = (state old).medium in
          let now = (state new).medium in
          let outside : WritesBackOutside (IsOf (file_area s.geo)) before now = subst (λ (a : LogArea). WritesBackOutside (IsOf a) before now) here commits.outside in
          subst (λ (r : Result (Unit {0}) Interruption). Works state s t old new r after named most) (sym is)
          (record {
            ok = tables;
            images = commit-images area (file_area s.geo) here before now words (Holds s.geo) s.tables after ready.serves.rest turn commits.images;
            outside = outside;
            serves = serves result tables commits.ok outside;
            object = (geo, settled);
            units = units;
            runs = runs_within _ _ _ _ _ _ _ commits.runs (omega arith) (omega arith);
          })
        where
          serves : (r : Result (Unit {0}) Interruption) → OnOk r (t.tables ≡ after) → OnOk r (ChangesRest area (state old).medium (state new).medium words) → WritesBackOutside (IsOf (file_area s.geo)) (state old).medium (state new).medium → OnOk r (JournalServes t (state new).medium)
          serves (Ok x) same rests outside =
              serves_after s t after _ _ geo same outside ready.serves (commit-rest area (file_area s.geo) here _ _ words (Holds s.geo) s.tables after ready.serves.rest turn rests)
          serves (Err stop) same rests outside = tt
