-- The image of a device that stands for a state is read again as what that state keeps.
use Rattle.std.proofs.Common.{◌≡◌, ℕ, ◌/◌, ◌%◌, ◌<◌, ◌≤◌, ◌&&◌, Bool, true, false, nat_lt, Option, None, List, [], ◌∷◌, slice_get, inl, inr, refl, sym, ap, subst, ◌∙◌, arith}
use Rattle.std.proofs.lemmas.Bool.{cases_Bool, cases_lt, lt-ltb, le-ltb}
use Rattle.std.proofs.lemmas.Option.{slice_get_past}
use Rattle.image_file.specs.Devices.{DepictsLast, IsLastImage, image_of, is_told_bad, is_told_weak, medium_of, told_values}
use Rattle.image_file.specs.Text.{FitImage}
use Rattle.image_file.proofs.ShownLemmas.{depicted, depicted_last, sound as sound_image}
use Rattle.line_device.specs.Device.{Depicts}
use Rattle.line_device.specs.History.{IsIn}
use Rattle.line_device.specs.Medium.{Medium, IsHealthy, IsSound, Survivors, last_image}
use Rattle.line_device.specs.Panel.{Image}
use Rattle.line_device.specs.declared.line.Choice.TheVariants.{Lasts}
use Rattle.line_device.specs.declared.line.LineState.{LineState}
use Rattle.line_device.proofs.HistoryLemmas.{word_write_back-refl}
use Rattle.line_device.proofs.TornLemmas.{may_keep-in}
use Rattle.word_tables.specs.declared.geometry.Geometry.{Geometry}
use Rattle.word_tables.specs.Bounds.{IsValid}
use Rattle.word_tables.specs.Layout.{meta_lines, total_lines}
use Rattle.block_device.specs.Images.{EachReads}
use Rattle.block_device.proofs.AreaLemmas.{meta_within}
use Rattle.block_device.proofs.FrameLemmas.{each_reads-stays}
use Rattle.block_device.proofs.RestartLemmas.{block_on_device}
use Rattle.pm_volume.specs.Images.{EachReadsPages}
use Rattle.file_journal.specs.Standing.{EachReadsFiles}
use Rattle.file_journal.proofs.FileLineLemmas.{files_within}
use Rattle.nvm_model.proofs.KeptLemmas.{LineKept}
use Rattle.recovery.proofs.SuperblockLemmas.{some_lines, some_meta}
use Rattle.machine_host.specs.Lines.{HasLayout, MetadataStands, bad_metadata}
use Rattle.machine_host.specs.Commands.{MayLeaveBlocks, MayLeaveFiles, MayLeaveVolume}
use Rattle.machine_host.specs.Machine.{Machine}
use Rattle.machine_host.proofs.BackLemmas.{kept_back, nothing_back, told_back}
use Rattle.machine_host.proofs.BadLineLemmas.{bad_found, good_lines}
use Rattle.machine_host.proofs.ElsewhereLemmas.{pages_elsewhere, volume_within}
use Rattle.machine_host.proofs.FilesAsideLemmas.{files_elsewhere}
use Rattle.machine_host.proofs.LayoutLemmas.{IsGood, is_good, layout-kept, layout-restarted, same_bad, stays_of_kept}
use Rattle.host_program.specs.Storing.{IsReadAgain, finding_of}

-- a device has no more lines than an image may have
pub fit_image : (geo : Geometry) → IsValid geo → FitImage (total_lines geo)
unfolding total_lines
fit_image geo valid = (omega (arith, some_lines geo), omega (arith, valid))

-- The lines of a device, none marked past its end: an image tells of no others.
abbrev with_own_marks : Medium → Medium
with_own_marks m = record m { is_bad = λ n. nat_lt n m.count && m.is_bad n; is_weak = λ n. nat_lt n m.count && m.is_weak n }

own_kept : (m : Medium) (line : ℕ) → line < m.count → LineKept m (with_own_marks m) line
own_kept m line there = record {
  bad = ap (λ b. b && m.is_bad line) (lt-ltb line m.count there);
  weak = ap (λ b. b && m.is_weak line) (lt-ltb line m.count there);
  words = λ p at. word_write_back-refl (m.is_weak line) (m.history p);
}

both_true : (a b : Bool) → a && b ≡ true → b ≡ true
both_true true b is = is
both_true false b is = cc is

both_false : (a b : Bool) → b ≡ false → a && b ≡ false
both_false true b is = is
both_false false b is = refl

own_sound : (m : Medium) → IsSound m → IsSound (with_own_marks m)
own_sound m sound = record {
  small = sound.small;
  last = λ p healthy. sound.last p (healthy.0, sym (own_kept m (p / 8) healthy.0).bad ∙ healthy.1);
  lost = λ p bad. sound.lost p (both_true (nat_lt (p / 8) m.count) (m.is_bad (p / 8)) bad);
  unmarked = λ n bad. both_false (nat_lt n m.count) (m.is_weak n) (sound.unmarked n (both_true (nat_lt n m.count) (m.is_bad n) bad));
}

-- the power could have come back to the lines of its image: each word has its last value
own_survivors : (unit : ℕ) (m : Medium) (lines : List LineState) → IsSound m → IsSound (medium_of lines) → IsLastImage m lines → Survivors unit Lasts (with_own_marks m) (medium_of lines)
own_survivors unit m lines sound quiet last = record {
  count = last.count;
  bad = λ n. elim (cases_lt n m.count) as (λ _. (medium_of lines).is_bad n ≡ (nat_lt n m.count && m.is_bad n)) [
    | inl there ↦ told.bad n there ∙ sym (own_kept m n there).bad
    | inr past ↦ ap (λ (line : Option LineState). is_told_bad line) (none_past n past) ∙ sym (ap (λ b. b && m.is_bad n) (le-ltb n m.count past))
  ];
  weak = λ n. elim (cases_lt n m.count) as (λ _. (medium_of lines).is_weak n ≡ (nat_lt n m.count && m.is_weak n)) [
    | inl there ↦ told.weak n there ∙ sym (own_kept m n there).weak
    | inr past ↦ ap (λ (line : Option LineState). is_told_weak line) (none_past n past) ∙ sym (ap (λ b. b && m.is_weak n) (le-ltb n m.count past))
  ];
  lost = λ p none. elim (cases_lt (p / 8) m.count) as (λ _. (medium_of lines).history p ≡ []) [
    | inl there ↦ elim (cases_Bool (m.is_bad (p / 8))) as (λ _. (medium_of lines).history p ≡ []) [
      | inl bad ↦ quiet.lost p (told.bad (p / 8) there ∙ bad)
      | inr good ↦ absurd (subst (IsIn (last_image m p)) none (sound.last p (there, good)))
    ]
    | inr past ↦ ap (λ (line : Option LineState). told_values line (p % 8)) (none_past (p / 8) past)
  ];
  words = λ p healthy.
      let good : IsHealthy m (p / 8) = (healthy.0, sym (own_kept m (p / 8) healthy.0).bad ∙ healthy.1) in
      let line : IsHealthy (medium_of lines) (p / 8) = (subst (λ c. p / 8 < c) (sym last.count) healthy.0, told.bad (p / 8) healthy.0 ∙ good.1) in (
        last_image m p,
        record {
          one = (depicted unit lines).words p line ∙ ap (λ v. v ∷ []) (told.words p good);
          was = may_keep-in unit (last_image m p) (m.history p) (sound.last p good);
          last = λ _. refl;
          whole = λ firsts. cc firsts;
          first = λ firsts _. cc firsts;
        },
      );
}
  where
    told : DepictsLast m (image_of unit lines)
    told = depicted_last m unit lines sound last

    none_past : (n : ℕ) → m.count ≤ n → slice_get lines n ≡ None
    none_past n past = slice_get_past lines n (omega (arith, past, last.count))

-- the device's last values, once more
module _ (h : Machine) (m : Medium) (lines : List LineState) (sound : IsSound m) (last : IsLastImage m lines) (stands : MetadataStands h.geometry m h.bad_meta) where
  abbrev geo : Geometry
  geo = h.geometry

  abbrev n : Medium
  n = medium_of lines

  abbrev own : Medium
  own = with_own_marks m

  on_device : (k : ℕ) → k < total_lines geo → k < m.count
  on_device k below = subst (λ c. k < c) (sym stands.layout.lines) below

  kept_of : (k : ℕ) → k < total_lines geo → LineKept m own k
  kept_of k below = own_kept m k (on_device k below)

  quiet : IsSound n
  quiet = sound_image lines (omega (arith, (fit_image geo stands.layout.valid).1, last.count, stands.layout.lines))

  left : Survivors h.unit Lasts own n
  left = own_survivors h.unit m lines sound quiet last

  abbrev told_image : Image
  told_image = image_of h.unit lines

  shows_image : Depicts n told_image
  shows_image = depicted h.unit lines

  meta_line : (k : ℕ) → k < meta_lines geo → LineKept m own k
  meta_line k below = kept_of k (let within = meta_within geo in omega (arith, below, within))

  own_layout : HasLayout geo own
  own_layout = layout-kept geo m own stands.layout refl meta_line (some_meta geo)

  own_bad : bad_metadata geo own.is_bad ≡ h.bad_meta
  own_bad = same_bad geo m own (λ k below. (meta_line k below).bad) ∙ stands.bad

  image_layout : HasLayout geo n
  image_layout = layout-restarted geo own n own_layout h.unit Lasts (own_sound m sound) left

  image_bad : bad_metadata geo n.is_bad ≡ h.bad_meta
  image_bad = same_bad geo own n (λ k below. left.bad k) ∙ own_bad

  good : h.bad_meta ≡ [] → IsGood geo own
  good none = is_good own_layout (good_lines geo own (own_bad ∙ none))

  module _ (each_block : h.bad_meta ≡ [] → EachReads geo m (MayLeaveBlocks h.interrupted h.blocks))
      (each_page : h.bad_meta ≡ [] → EachReadsPages geo m (MayLeaveVolume geo h.interrupted h.volume))
      (each_file : h.bad_meta ≡ [] → EachReadsFiles geo m (MayLeaveFiles h.mappings h.interrupted h.files)) where
    own_blocks : h.bad_meta ≡ [] → EachReads geo own (MayLeaveBlocks h.interrupted h.blocks)
    own_blocks none =
        let valid = stands.layout.valid in
        each_reads-stays geo m own (MayLeaveBlocks h.interrupted h.blocks) valid (λ k of. stays_of_kept m own k (kept_of k (block_on_device geo valid k of))) (each_block none)

    own_pages : h.bad_meta ≡ [] → EachReadsPages geo own (MayLeaveVolume geo h.interrupted h.volume)
    own_pages none = pages_elsewhere geo m own stands.layout.valid (λ k of. kept_of k (volume_within geo k of)) (MayLeaveVolume geo h.interrupted h.volume) (each_page none)

    own_files : h.bad_meta ≡ [] → EachReadsFiles geo own (MayLeaveFiles h.mappings h.interrupted h.files)
    own_files none = files_elsewhere geo m own (λ k of. kept_of k (files_within geo k of)) (MayLeaveFiles h.mappings h.interrupted h.files) (each_file none)

    pub is_read_again : IsReadAgain (record { unit = h.unit; lines = lines }) h
    is_read_again = by_lines h.bad_meta refl
      where
        by_lines : (bad : List ℕ) → h.bad_meta ≡ bad → IsReadAgain (record { unit = h.unit; lines = lines }) h
        by_lines [] none = record {
          found = nothing_back h Lasts own n told_image (good none) (own_blocks none) (own_pages none) (own_files none) left shows_image (own_sound m sound) quiet ∙ sym (ap finding_of none);
          sizes = λ _. (told_back h Lasts own n told_image (good none) (own_blocks none) (own_pages none) (own_files none) left shows_image (own_sound m sound) quiet).sizes;
          left = record {
            unit = refl;
            metadata = image_bad;
            storage = λ _. kept_back h Lasts own n told_image (good none) (own_blocks none) (own_pages none) (own_files none) left shows_image (own_sound m sound) quiet;
          };
        }
        by_lines (line ∷ rest) some = record {
          found = bad_found geo n image_layout quiet line rest (image_bad ∙ some) ∙ sym (ap finding_of some);
          sizes = λ none. cc (none, some);
          left = record { unit = refl; metadata = image_bad; storage = λ none. cc (none, some) };
        }
