-- What the volume's refusals say of a call on one line.
use Rattle.std.proofs.Common.{◌≡◌, ℕ, ◌+◌, ◌*◌, ◌/◌, ◌%◌, ◌<◌, Bool, true, false, cond, Option, Some, None, option_map, Result, Ok, Err, List, nat_lt, slice_get, refl, sym, ap, subst, ◌∙◌, arith}
use Rattle.std.proofs.lemmas.Option.{get_or_from_slice_get, none-some}
use Rattle.line_device.specs.Medium.{Medium}
use Rattle.line_words.specs.Told.{Answers, Checks, OnRefused, Told, refusal_of}
use Rattle.line_words.specs.Told.Told.{Refuses, Starves, Stops}
use Rattle.nvm_model.specs.Blocks.{first_there}
use Rattle.nvm_model.specs.Cell.{Cell, CellStands}
use Rattle.nvm_model.specs.Cell.Cell.{Bad, Kept}
use Rattle.nvm_model.specs.Page.{Page, cell_of, is_bad_cell, look}
use Rattle.nvm_model.proofs.TouchedPageLemmas.{touches_absent-some}
use Rattle.pm_volume.specs.Object.{VolumeHolds, VolumeState, volume_place}
use Rattle.pm_volume.specs.Refusals as volume
use Rattle.pm_volume.specs.Refusals.{VolumeRefusal, bytes_refusal, metadata_refusal_if, poisoned_at, refused_if, volume_says}
use Rattle.pm_volume.specs.Refusals.VolumeRefusal.{Poison, Range, Length}
use Rattle.pm_volume.specs.declared.fault.VolumeFault.{VolumeFault}
use Rattle.pm_volume.proofs.BadLemmas.{cell_at, cell_there}
use Rattle.pm_volume.proofs.PlaceLemmas.{place_of, placed}
use Rattle.append_log.specs.declared.fault.LogFault.{LogFault}
use Rattle.append_log.specs.declared.fault.LogFault.TheVariants.{Volume}
use Rattle.append_log.specs.declared.fault.LogFault.TheVariants as of_log
use Rattle.pm_volume.specs.declared.fault.VolumeFault.TheVariants as fault
use Rattle.pm_volume.specs.Line.{line_bytes, line_in}
use Rattle.pm_volume.proofs.LineCallLemmas.{line-refused}
use Rattle.append_log.specs.Refusals.{LogRefusal, load_refusal, log_says, mark_refusal, passed_on, write_refusal}
use Rattle.append_log.specs.Refusals.LogRefusal.{OfVolume, Weak}
use Rattle.std.specs.Result.{IsErrAnd}
use Rattle.line_words.proofs.ToldLemmas.{answers_on}
use Rattle.pm_volume.proofs.LineLemmas.{line-loaded}

-- what a load that went well gives
pub loaded : (pages : List Page) (n : ℕ) (bytes : List ℕ) → Answers {T = Unit {0}} volume_says (load_refusal n (cell_of pages n)) (Ok tt) → bytes ≡ look pages (64 * n) 64
    → line_in (cell_of pages n) ≡ Some bytes
loaded pages n bytes answers is = by_test (is_bad_cell (cell_of pages n)) answers
  where
    by_test : (b : Bool) → Answers {T = Unit {0}} volume_says (refused_if b (Poison (64 * n))) (Ok tt) → cond b None (Some (line_bytes (cell_of pages n))) ≡ Some bytes
    by_test true answers = absurd answers
    by_test false answers = ap Some (sym (line-loaded pages n) ∙ sym is)

-- the marks of a line are those of the device's
pub marked-as : ℕ → Bool → Bool → Option LogRefusal
marked-as n bad weak = cond bad (Some (OfVolume (Poison (64 * n)))) (cond weak (Some (Weak (64 * n))) None)

module _ (s : VolumeState) (m : Medium) (pages : List Page) (holds : VolumeHolds s m pages) (n : ℕ) where
  pub unmarked : volume_place s.geo s.present true n ≡ None → mark_refusal n (cell_of pages n) ≡ None
  unmarked nowhere = by_cell (cell_of pages n) refl
    where
      by_cell : (o : Option Cell) → cell_of pages n ≡ o → mark_refusal n o ≡ None
      by_cell None is = refl
      by_cell (Some cell) is = absurd (none-some _ (sym nowhere ∙ place_of s.geo s.present true n (cell_there s m pages holds n cell is)))

  pub marked : (line : ℕ) → volume_place s.geo s.present true n ≡ Some line → mark_refusal n (cell_of pages n) ≡ marked-as n (m.is_bad line) (m.is_weak line)
  unfolding marked-as
  marked line at =
      let there = placed s.geo s.present true n line at in
      let has = cell_at s m pages holds n there.0 in
      ap (mark_refusal n) has.1 ∙ by_cell has.0 (subst (λ k. CellStands m k has.0) there.1 (holds.stand.lines n has.0 has.1))
    where
      by_cell : (cell : Cell) → CellStands m line cell → mark_refusal n (Some cell) ≡ cond (m.is_bad line) (Some (OfVolume (Poison (64 * n)))) (cond (m.is_weak line) (Some (Weak (64 * n))) None)
      by_cell Bad stands = ap (λ b. cond b (Some (OfVolume (Poison (64 * n)))) (cond (m.is_weak line) (Some (Weak (64 * n))) None)) (sym stands)
      by_cell (Kept true words) stands =
          sym (ap (λ b. cond b (Some (OfVolume (Poison (64 * n)))) (cond (m.is_weak line) (Some (Weak (64 * n))) None)) stands.0
          ∙ ap (λ w. cond w (Some (Weak (64 * n))) None) stands.1)
      by_cell (Kept false words) stands =
          sym (ap (λ b. cond b (Some (OfVolume (Poison (64 * n)))) (cond (m.is_weak line) (Some (Weak (64 * n))) None)) stands.0
          ∙ ap (λ w. cond w (Some (Weak (64 * n))) None) stands.1)

-- where line 0 is there a write of it changes no metadata
pub first-written : (s : VolumeState) (m : Medium) → slice_get s.present 0 ≡ Some true → write_refusal s m 0 ≡ None
first-written s m there = ap (λ t. metadata_refusal_if t s.geo m) (touches_absent-some 0 64 s.present (omega arith) ∙ ap (λ (b : Bool). nat_lt 0 (0 + cond b 0 1)) (get_or_from_slice_get s.present 0 true true there))

-- tests in turn, and what the volume was asked
pub answers-first : (T U : Type 0) (a b : Option LogRefusal) (fault : LogFault) → Checks {T = T} log_says a (Err fault) → Answers {T = U} log_says (first_there a b) (Err fault)
answers-first T U None b fault h = absurd h
answers-first T U (Some why) b fault h = h

pub answers-second : {T : Type 0} (a b : Option LogRefusal) (r : Result T LogFault) → a ≡ None → Answers log_says b r → Answers log_says (first_there a b) r
answers-second a b r none h = subst (λ o. Answers log_says (first_there o b) r) (sym none) h

passed_reason : (told : Told VolumeRefusal) → refusal_of (passed_on told) ≡ option_map OfVolume (refusal_of told)
passed_reason (Refuses why) = refl
passed_reason (Stops stop) = refl
passed_reason Starves = refl

pub answers-passed : (T U : Type 0) (why : Option VolumeRefusal) (fault : VolumeFault) → Answers {T = T} volume_says why (Err fault)
    → Answers {T = U} log_says (option_map OfVolume why) (Err (Volume fault))
answers-passed T U None fault h = passed_reason (volume_says fault) ∙ ap (option_map OfVolume) h
answers-passed T U (Some why) fault h = passed_reason (volume_says fault) ∙ ap (option_map OfVolume) h

pub answered-none : {T : Type 0} (why : Option VolumeRefusal) (x : T) → Answers volume_says why (Ok x) → why ≡ None
answered-none None x h = refl
answered-none (Some why) x h = absurd h

-- what is handed on by `?`
pub volume-passed : (S T : Type 0) (why : Option VolumeRefusal) (f : VolumeFault) (r : Result T VolumeFault) → IsErrAnd r (λ g. g ≡ f)
    → Answers {T = S} volume_says why (Err f) → Answers volume_says why r
volume-passed S T why f (Ok x) is h = absurd is
volume-passed S T why f (Err g) is h = subst (λ e. Answers {T = T} volume_says why (Err e)) (sym is) (answers_on T S volume_says why f h)

pub log-passed : (S T : Type 0) (why : Option LogRefusal) (f : LogFault) (r : Result T LogFault) → IsErrAnd r (λ g. g ≡ f)
    → Answers {T = S} log_says why (Err f) → Answers log_says why r
log-passed S T why f (Ok x) is h = absurd is
log-passed S T why f (Err g) is h = subst (λ e. Answers {T = T} log_says why (Err e)) (sym is) (answers_on T S log_says why f h)

-- what a test of the marks tells
pub marked-bad : (n : ℕ) (bad weak : Bool) (why : Option LogRefusal) → why ≡ marked-as n bad weak → bad ≡ true → Checks {T = Unit {0}} log_says why (Err (Volume (fault.Poison (64 * n))))
unfolding marked-as
marked-bad n bad weak why is here =
    subst (λ o. Checks {T = Unit {0}} log_says o (Err (Volume (fault.Poison (64 * n))))) (sym (is ∙ ap (λ b. marked-as n b weak) here)) refl

pub marked-weak : (n : ℕ) (bad weak : Bool) (why : Option LogRefusal) → why ≡ marked-as n bad weak → bad ≡ false → weak ≡ true → Checks {T = Unit {0}} log_says why (Err (of_log.Weak (64 * n)))
unfolding marked-as
marked-weak n bad weak why is good here =
    subst (λ o. Checks {T = Unit {0}} log_says o (Err (of_log.Weak (64 * n)))) (sym (is ∙ ap (λ b. marked-as n b weak) good ∙ ap (marked-as n false) here)) refl

pub marked-good : (n : ℕ) (bad weak : Bool) (why : Option LogRefusal) → why ≡ marked-as n bad weak → bad ≡ false → weak ≡ false → Checks {T = Unit {0}} {E = LogFault} log_says why (Ok tt)
unfolding marked-as
marked-good n bad weak why is good strong =
    subst (λ o. Checks {T = Unit {0}} {E = LogFault} log_says o (Ok tt)) (sym (is ∙ ap (λ b. marked-as n b weak) good ∙ ap (marked-as n false) strong)) tt

-- where a line lies, by the first one of its page
pub place-found : (s : VolumeState) (n first : ℕ) → ((k : ℕ) → k < 64 → volume_place s.geo s.present true (64 * (n / 64) + k) ≡ Some (first + k))
    → volume_place s.geo s.present true n ≡ Some (first + n % 64)
place-found s n first at =
    let split : 64 * (n / 64) + n % 64 ≡ n = omega arith in
    sym (ap (volume_place s.geo s.present true) split) ∙ at (n % 64) (omega arith)

-- a load of a line: refused, and done
module _ (s : VolumeState) (pages : List Page) (n : ℕ) (within : n < 64 * s.geo.vpages) where
  pub line-answered : (T : Type 0) (f : VolumeFault) (r : Result T VolumeFault) → IsErrAnd r (λ g. g ≡ f)
      → Answers {T = Unit {0}} volume_says (volume.load_refusal s pages (64 * n) 64) (Err f) → Answers volume_says (load_refusal n (cell_of pages n)) r
  line-answered T f r is h =
      volume-passed (Unit {0}) T (load_refusal n (cell_of pages n)) f r is
      (subst (λ (why : Option VolumeRefusal). Answers {T = Unit {0}} volume_says why (Err f)) (line-refused s pages n within) h)

  line-none : (u : Unit {0}) → Answers {T = Unit {0}} volume_says (volume.load_refusal s pages (64 * n) 64) (Ok u) → load_refusal n (cell_of pages n) ≡ None
  line-none u h = sym (line-refused s pages n within) ∙ answered-none (volume.load_refusal s pages (64 * n) 64) u h

  pub line-done : (T : Type 0) (x : T) (u : Unit {0}) → Answers {T = Unit {0}} volume_says (volume.load_refusal s pages (64 * n) 64) (Ok u)
      → Answers {T = T} volume_says (load_refusal n (cell_of pages n)) (Ok x)
  line-done T x u h = subst (λ (why : Option VolumeRefusal). Answers {T = T} {E = VolumeFault} volume_says why (Ok x)) (sym (line-none u h)) tt

  pub line-data : (bytes : List ℕ) (u : Unit {0}) → Answers {T = Unit {0}} volume_says (volume.load_refusal s pages (64 * n) 64) (Ok u) → bytes ≡ look pages (64 * n) 64
      → line_in (cell_of pages n) ≡ Some bytes
  line-data bytes u h is =
      loaded pages n bytes (subst (λ (why : Option VolumeRefusal). Answers {T = Unit {0}} {E = VolumeFault} volume_says why (Ok tt)) (sym (line-none u h)) tt) is

-- a call that there is no reason to refuse
pub never-refused : {T : Type 0} (P : Type 0) (r : Result T VolumeFault) → Answers volume_says None r → OnRefused volume_says r P
never-refused P (Ok x) h = tt
never-refused P (Err f) h = λ refused. absurd (refused h)
