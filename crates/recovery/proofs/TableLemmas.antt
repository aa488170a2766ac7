-- What is wrong with logs and with the words of their tables.
use Rattle.std.proofs.Common.{◌≡◌, ℕ, false, None, Some, Option, Result, Ok, Err, IfErr, option_map, refl, sym, ◌∙◌, ap, ap₂, subst}
use Rattle.std.specs.Result.{IsErrAnd}
use Rattle.std.proofs.lemmas.Bool.{false≢true}
use Rattle.std.proofs.lemmas.Option.{none-some}
use Rattle.line_device.specs.Medium.{Medium, WritesBack, last_image}
use Rattle.line_words.specs.Told.{Told, IfRefused, IsStop, refusal_of}
use Rattle.line_words.specs.Told.Told.{Refuses, Stops, Starves}
use Rattle.line_words.proofs.FrameLemmas.{last_image-write_back}
use Rattle.word_tables.specs.declared.geometry.Geometry.{Geometry}
use Rattle.word_log.specs.declared.area.LogArea.{LogArea}
use Rattle.word_log.specs.Area.{IsWhole}
use Rattle.word_log.specs.Mount.{Finding, IsFound}
use Rattle.word_log.specs.Mount.Finding.{bad_line, wrong_word}
use Rattle.word_log.specs.Replay.{first_wrong}
use Rattle.nvm_model.specs.Blocks.{first_there}
use Rattle.block_device.specs.Area.{block_area}
use Rattle.pm_volume.specs.Area.{volume_area}
use Rattle.file_journal.specs.Area.{file_area}
use Rattle.recovery.specs.declared.fault.MountFault.{MountFault}
use Rattle.recovery.specs.Findings.{wrong_log}
use Rattle.recovery.specs.Mounting.{Finds, device_says}
use Rattle.recovery.proofs.FindingLemmas.{all_none, finds_told}

refused_for : (t : Told Finding) (P Q : Finding → Type 0) → ((why : Finding) → P why → Q why) → IfRefused t P → IfRefused t Q
refused_for (Refuses why) P Q next h = next why h
refused_for (Stops stop) P Q next h = tt
refused_for Starves P Q next h = tt

never_refused : (t : Told Finding) (P : Finding → Type 0) → ((why : Finding) → P why → ⊥) → IfRefused t P → refusal_of t ≡ None
never_refused (Refuses why) P none h = absurd (none why h)
never_refused (Stops stop) P none h = refl
never_refused Starves P none h = refl

-- of lines that are good the first wrong word of a log is found
found_word : (a : LogArea) (m : Medium) (why : Finding) → IsWhole a m → IsFound a m why → option_map wrong_word (first_wrong a (last_image m)) ≡ Some why
found_word a m (bad_line n) whole found =
    let of = found.0 in
    absurd (false≢true (sym (subst (λ k. m.is_bad k ≡ false) of.2 (whole of.0 of.1)) ∙ found.1))
found_word a m (wrong_word p) whole found = ap (option_map wrong_word) found.1

first_wrong_word : {A B : Type 0} (f : A → B) (a b : Option A) (why : B) → option_map f a ≡ Some why → option_map f (first_there a b) ≡ Some why
first_wrong_word f None b why h = cc
first_wrong_word f (Some x) b why h = h

later_wrong_word : {A B : Type 0} (f : A → B) (a b : Option A) (why : B) → a ≡ None → option_map f b ≡ Some why → option_map f (first_there a b) ≡ Some why
later_wrong_word f a b why none h = ap (λ o. option_map f (first_there o b)) none ∙ h

-- the first wrong word of the logs is that of the first one that has a wrong word
module _ (geo : Geometry) (word : ℕ → ℕ) where
  module _ (why : Finding) where
    pub blocks_wrong : option_map wrong_word (first_wrong (block_area geo) word) ≡ Some why → option_map wrong_word (wrong_log geo word) ≡ Some why
    blocks_wrong h = first_wrong_word wrong_word (first_wrong (block_area geo) word) (first_there (first_wrong (volume_area geo) word) (first_wrong (file_area geo) word)) why h

    pub volume_wrong : first_wrong (block_area geo) word ≡ None → option_map wrong_word (first_wrong (volume_area geo) word) ≡ Some why → option_map wrong_word (wrong_log geo word) ≡ Some why
    volume_wrong none h =
        later_wrong_word wrong_word (first_wrong (block_area geo) word) (first_there (first_wrong (volume_area geo) word) (first_wrong (file_area geo) word)) why none
        (first_wrong_word wrong_word (first_wrong (volume_area geo) word) (first_wrong (file_area geo) word) why h)

    pub files_wrong : first_wrong (block_area geo) word ≡ None → first_wrong (volume_area geo) word ≡ None → option_map wrong_word (first_wrong (file_area geo) word) ≡ Some why
        → option_map wrong_word (wrong_log geo word) ≡ Some why
    files_wrong none neither h =
        later_wrong_word wrong_word (first_wrong (block_area geo) word) (first_there (first_wrong (volume_area geo) word) (first_wrong (file_area geo) word)) why none
        (later_wrong_word wrong_word (first_wrong (volume_area geo) word) (first_wrong (file_area geo) word) why neither h)

  pub no_wrong_log : first_wrong (block_area geo) word ≡ None → first_wrong (volume_area geo) word ≡ None → first_wrong (file_area geo) word ≡ None → wrong_log geo word ≡ None
  no_wrong_log = all_none (first_wrong (block_area geo) word) (first_wrong (volume_area geo) word) (first_wrong (file_area geo) word)

-- what is told of a log whose lines were only written back, is told of it as it was
module _ (a b : LogArea) (is : a ≡ b) (old now : Medium) (x : WritesBack old now) where
  same_log : first_wrong b (last_image old) ≡ first_wrong a (last_image now)
  same_log = sym (ap₂ first_wrong is (last_image-write_back old now x))

  pub right_before : first_wrong a (last_image now) ≡ None → first_wrong b (last_image old) ≡ None
  right_before none = same_log ∙ none

  pub finds_log : {T : Type 0} (found : Option Finding) (r : Result T MountFault) (t : Told Finding) → IsErrAnd r (λ e. device_says e ≡ t) → IsWhole a now
      → ((why : Finding) → option_map wrong_word (first_wrong b (last_image old)) ≡ Some why → found ≡ Some why) → IfRefused t (IsFound a now) → Finds found r
  finds_log found r t told whole next h =
      finds_told found r t told
      (refused_for t (IsFound a now) (λ why. found ≡ Some why) (λ why h. next why (ap (option_map wrong_word) same_log ∙ found_word a now why whole h)) h)

-- a log that is in order isn't refused
pub not_refused : {T : Type 0} (r : Result T MountFault) (t : Told Finding) (a : LogArea) (m : Medium) → IsErrAnd r (λ e. device_says e ≡ t) → IsWhole a m → first_wrong a (last_image m) ≡ None → IfRefused t (IsFound a m) → IfErr r (IsStop device_says)
not_refused (Ok x) t a m is whole right h = absurd is
not_refused (Err e) t a m is whole right h =
    ap refusal_of is
    ∙ never_refused t (IsFound a m) (λ why found. none-some why (sym (ap (option_map wrong_word) right) ∙ found_word a m why whole found)) h
