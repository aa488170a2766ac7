-- What is found where a log is opened, or a record is read.
use Rattle.std.proofs.Common.{◌≡◌, ℕ, ◌+◌, ◌*◌, ◌<◌, ◌≤◌, Bool, true, false, cond, not, is_none, Option, Some, None, option_map, option_and_then, Result, Ok, Err, IsErrAnd, List, length, slice_get, refl, sym, ap, subst, ◌∙◌, arith}
use Rattle.std.proofs.lemmas.Bool.{le-ltb, lt-ltb}
use Rattle.std.proofs.lemmas.Option.{none-some, same_Some}
use Rattle.line_device.specs.Medium.{Medium, WritesBack}
use Rattle.line_device.specs.Word.{word_at}
use Rattle.line_words.specs.Told.{Answers, Finds, IfRefused, Told, refusal_of}
use Rattle.line_words.specs.Told.Told.{Refuses, Starves, Stops}
use Rattle.word_tables.specs.Layout.{volume_line}
use Rattle.nvm_model.specs.Blocks.{first_there}
use Rattle.nvm_model.specs.Cell.{Cell}
use Rattle.nvm_model.specs.Page.{Page, cell_of, is_bad_cell}
use Rattle.nvm_model.proofs.NumberedLemmas.{length-list_from, slice_get-list_from}
use Rattle.nvm_model.proofs.StandLemmas.{pages_stand-write_back}
use Rattle.pm_volume.specs.Object.{VolumeHolds, VolumeServes, VolumeState}
use Rattle.pm_volume.specs.Refusals.{VolumeRefusal, refused_if, volume_says}
use Rattle.pm_volume.specs.Refusals.VolumeRefusal.{Poison}
use Rattle.pm_volume.specs.declared.fault.VolumeFault.{VolumeFault}
use Rattle.pm_volume.proofs.ServesLemmas.{holds-same}
use Rattle.append_log.specs.declared.fault.LogFault.{LogFault}
use Rattle.append_log.specs.declared.fault.LogFault.TheVariants.{Volume}
use Rattle.pm_volume.specs.Line.{line_bytes, line_in}
use Rattle.append_log.specs.Lines.{count_in, entries, entry_in, log_of, record_of}
use Rattle.append_log.specs.Log.{HoldsLog, LogServes, LogState}
use Rattle.append_log.specs.Refusals.{LogRefusal, get_refusal, load_refusal, log_says, open_refusal, passed_on, refused_when}
use Rattle.append_log.specs.Refusals.LogRefusal.{NoRecord, OfVolume, Wrong}
use Rattle.pm_volume.proofs.HoldsLemmas.{holds-read}
use Rattle.append_log.proofs.LogLemmas.{log-counted, log-of_count, records}
use Rattle.pm_volume.proofs.HoldsLemmas.{shown-hold, shown_pages}

-- a refusal of the volume is the one that is found, whatever else is sought after it
module _ (why : Option VolumeRefusal) (rest : Option LogRefusal) where
  passed_refusal : (told : Told VolumeRefusal) → refusal_of told ≡ why → IfRefused (passed_on told) (λ w. first_there (option_map OfVolume why) rest ≡ Some w)
  passed_refusal (Refuses w) is = ap (λ o. first_there (option_map OfVolume o) rest) (sym is)
  passed_refusal (Stops stop) is = tt
  passed_refusal Starves is = tt

reason-of : (T : Type 0) (why : Option VolumeRefusal) (f : VolumeFault) → Answers {T = T} volume_says why (Err f) → refusal_of (volume_says f) ≡ why
reason-of T None f h = h
reason-of T (Some why) f h = h

pub found-passed : (S T : Type 0) (why : Option VolumeRefusal) (rest : Option LogRefusal) (f : VolumeFault) (r : Result T LogFault) → IsErrAnd r (λ g. g ≡ Volume f)
    → Answers {T = S} volume_says why (Err f) → Finds log_says (first_there (option_map OfVolume why) rest) r
found-passed S T why rest f (Ok x) is h = absurd is
found-passed S T why rest f (Err g) is h =
    subst (λ e. Finds {T = T} log_says (first_there (option_map OfVolume why) rest) (Err e)) (sym is) (passed_refusal why rest (volume_says f) (reason-of S why f h))

-- a line that gives data is not bad
unrefused : (n : ℕ) (line : Option Cell) (bytes : List ℕ) → line_in line ≡ Some bytes → load_refusal n line ≡ None
unrefused n line bytes is = by_test (is_bad_cell line) is
  where
    by_test : (b : Bool) → cond b None (Some (line_bytes line)) ≡ Some bytes → refused_if b (Poison (64 * n)) ≡ None
    by_test true is = absurd (none-some bytes is)
    by_test false is = refl

-- the count of line 0 is too high, or it is that of the log
module _ (pages : List Page) (bytes : List ℕ) (is : line_in (cell_of pages 0) ≡ Some bytes) where
  counted : count_in (cell_of pages 0) ≡ Some (word_at bytes 0)
  counted = ap (option_map (λ bs. word_at bs 0)) is

  pub open-wrong : 64 * length pages ≤ word_at bytes 0 → open_refusal pages ≡ Some (Wrong 0)
  unfolding log_of records
  open-wrong past =
      ap (λ o. first_there (option_map OfVolume o) (refused_when (is_none (option_and_then (entries pages) (count_in (cell_of pages 0)))) (Wrong 0))) (unrefused 0 (cell_of pages 0) bytes is)
      ∙ ap (λ o. refused_when (is_none (option_and_then (entries pages) o)) (Wrong 0)) counted
      ∙ ap (λ t. refused_when (is_none (cond t (Some (records pages (word_at bytes 0))) None)) (Wrong 0)) (le-ltb (word_at bytes 0) (64 * length pages) past)

  pub open-right : word_at bytes 0 < 64 * length pages → open_refusal pages ≡ None
  open-right within =
      ap (λ o. first_there (option_map OfVolume o) (refused_when (is_none (log_of pages)) (Wrong 0))) (unrefused 0 (cell_of pages 0) bytes is)
      ∙ ap (λ o. refused_when (is_none o) (Wrong 0)) (log-of_count pages (word_at bytes 0) counted within)

  pub open-length : word_at bytes 0 < 64 * length pages → option_map length (log_of pages) ≡ Some (word_at bytes 0)
  unfolding records
  open-length within =
      ap (option_map length) (log-of_count pages (word_at bytes 0) counted within) ∙ ap Some (length-list_from (λ n. entry_in (cell_of pages n)) 1 (word_at bytes 0))

-- the count stays while lines are only written back
pub counts-kept : (s t : VolumeState) (m new : Medium) (count : ℕ) → t.geo ≡ s.geo → t.present ≡ s.present → WritesBack m new
    → ((pages : List Page) → VolumeHolds s m pages → count_in (cell_of pages 0) ≡ Some count)
    → (pages : List Page) → VolumeHolds t new pages → count_in (cell_of pages 0) ≡ Some count
counts-kept s t m new count geo there back counts pages holds =
    let shown = shown_pages s m in
    let before = shown-hold s m in
    let after : VolumeHolds s new shown = record { there = before.there; stand = pages_stand-write_back (volume_line s.geo) m new shown before.stand back } in
    ap (option_map (λ bs. word_at bs 0)) (holds-read t new pages shown holds (holds-same s t new shown geo there after) 0) ∙ counts shown before

pub serves-kept : (s t : LogState) (m new : Medium) → t.volume.geo ≡ s.volume.geo → t.volume.present ≡ s.volume.present → t.len ≡ s.len → WritesBack m new → VolumeServes t.volume new
    → LogServes s m → LogServes t new
serves-kept s t m new geo there len back volume serves = record {
  volume = volume;
  counts = λ pages holds. counts-kept s.volume t.volume m new s.len geo there back serves.counts pages holds ∙ ap Some (sym len);
  within = omega (arith, serves.within, len, ap (λ g. g.vpages) geo);
}

-- a record that is read
module _ (s : LogState) (pages : List Page) (i : ℕ) (below : i < s.len) where
  pub get-from : get_refusal s pages i ≡ first_there (option_map OfVolume (load_refusal (i + 1) (cell_of pages (i + 1)))) (refused_when (is_none (entry_in (cell_of pages (i + 1)))) (Wrong (64 * (i + 1))))
  get-from =
      ap (λ t. first_there (refused_when (not t) NoRecord) (first_there (option_map OfVolume (load_refusal (i + 1) (cell_of pages (i + 1)))) (refused_when (is_none (entry_in (cell_of pages (i + 1)))) (Wrong (64 * (i + 1))))))
      (lt-ltb i s.len below)

  pub get-found : (bytes : List ℕ) (o : Option (List ℕ)) → line_in (cell_of pages (i + 1)) ≡ Some bytes → o ≡ record_of bytes → get_refusal s pages i ≡ refused_when (is_none o) (Wrong (64 * (i + 1)))
  get-found bytes o is parsed =
      get-from ∙ ap (λ w. first_there (option_map OfVolume w) (refused_when (is_none (entry_in (cell_of pages (i + 1)))) (Wrong (64 * (i + 1))))) (unrefused (i + 1) (cell_of pages (i + 1)) bytes is)
      ∙ ap (λ w. refused_when (is_none w) (Wrong (64 * (i + 1)))) (ap (option_and_then record_of) is ∙ sym parsed)

pub get-record : (s : LogState) (m : Medium) (log : List (Option (List ℕ))) (i : ℕ) (bytes items : List ℕ) → i < s.len → LogServes s m → HoldsLog s m log
    → ((pages : List Page) → VolumeHolds s.volume m pages → line_in (cell_of pages (i + 1)) ≡ Some bytes) → Some items ≡ record_of bytes → slice_get log i ≡ Some (Some items)
unfolding records
get-record s m log i bytes items below serves holds line parsed =
    let was = log-counted holds.pages log holds.stands.reads in
    let size : s.len ≡ length log = same_Some _ _ (sym (serves.counts holds.pages holds.holds) ∙ was.count) in
    let at : 1 + i ≡ i + 1 = omega arith in
    ap (λ xs. slice_get xs i) (sym was.are) ∙ slice_get-list_from (λ n. entry_in (cell_of holds.pages n)) 1 (length log) i (omega (arith, below, size))
    ∙ ap (λ k. Some (entry_in (cell_of holds.pages k))) at ∙ ap (λ o. Some (option_and_then record_of o)) (line holds.pages holds.holds) ∙ ap Some (sym parsed)
