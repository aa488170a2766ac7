-- What a mount of the volume's log and a look at its presence words give.
use Rattle.std.proofs.Common.{◌≡◌, ℕ, ◌+◌, ◌-◌, ◌*◌, ◌/◌, ◌==◌, Bool, List, length, get_or, map, Result, Ok, Err, IfOk, sym, ◌∙◌, ap, subst, arith}
use Rattle.std.proofs.lemmas.List.{length-map}
use Rattle.line_device.specs.Medium.{Medium, last_image}
use Rattle.line_device.specs.Panel.{Outcome, Panel, Runs}
use Rattle.line_device.proofs.PanelLemmas.{runs_within}
use Rattle.word_tables.specs.declared.geometry.Geometry.{Geometry}
use Rattle.word_tables.specs.Bounds.{IsValid}
use Rattle.word_tables.specs.Layout.{presence, volume_log, first_line, size, meta_lines, total_lines}
use Rattle.word_tables.specs.Words.{place, of_volume_page}
use Rattle.word_log.specs.declared.area.LogArea.{LogArea}
use Rattle.word_log.specs.Area.{AreHomeWords, IsHome}
use Rattle.word_log.specs.Replay.{replayed}
use Rattle.word_log.proofs.FindingLemmas.{IsRead, runs_of}
use Rattle.word_log.proofs.HeldLemmas.{rest-then}
use Rattle.nvm_model.specs.Lines.{AreStrong}
use Rattle.nvm_model.specs.Numbered.{list_from}
use Rattle.nvm_model.proofs.NumberedLemmas.{list_from-is}
use Rattle.pm_volume.specs.declared.fault.MountFault.{MountFault}
use Rattle.pm_volume.specs.Area.{volume_area}
use Rattle.pm_volume.specs.Object.{VolumeState, VolumeServes}
use Rattle.pm_volume.specs.Presence.{presence_read, presence_word, presence_words, words_read}
use Rattle.pm_volume.proofs.TableLemmas.{presence_at, presence_back}

-- the words that the log's mount tells are those of the pages
pub mounted_words : (geo : Geometry) (old : Medium) (words : List ℕ) → AreHomeWords (volume_area geo) (replayed (volume_area geo) (last_image old)) words → words ≡ words_read geo (last_image old)
unfolding words_read
mounted_words geo old words are =
    let after : ℕ → ℕ = λ i. replayed (volume_area geo) (last_image old) (place geo (of_volume_page i)) in
    list_from-is after 0 words (λ k below.
    let at : 8 * first_line geo presence + k ≡ place geo (of_volume_page (0 + k)) = omega arith in
    are.each k (omega (arith, below, are.all)) ∙ ap (replayed (volume_area geo) (last_image old)) at)
    ∙ ap (list_from after 0) are.all

-- what is made of them
pub judged_pages : (geo : Geometry) (old : Medium) (words : List ℕ) → AreHomeWords (volume_area geo) (replayed (volume_area geo) (last_image old)) words → (r : Result VolumeState MountFault) → IfOk r (λ v. (v.geo ≡ geo) × (map presence_word v.present ≡ words)) → IfOk r (λ v. (v.geo ≡ geo) × (v.present ≡ presence_read geo (last_image old)))
judged_pages geo old words are (Ok v) made = (made.0, sym (presence_back v.present) ∙ ap (map (λ w. w == 1)) (made.1 ∙ mounted_words geo old words are))
judged_pages geo old words are (Err f) made = tt

module _ (geo : Geometry) (valid : IsValid geo) (old mid : Medium) (inside : ℕ → Type 0) (words : List ℕ) (read : IsRead (volume_area geo) inside old mid words) where
  home_word : (there : List Bool) → map presence_word there ≡ words → (p : ℕ) → IsHome (volume_area geo) p → replayed (volume_area geo) (last_image old) p ≡ presence_words geo there p
  home_word there is p home =
      let k : ℕ = p - 8 * first_line geo presence in
      let at : 8 * first_line geo presence + k ≡ p = omega (arith, home) in
      sym (presence_at there k ∙ ap (λ (ws : List ℕ). get_or ws k 0) is ∙ read.words.each k (omega (arith, home)) ∙ ap (replayed (volume_area geo) (last_image old)) at)

  pub judged_serves : (r : Result VolumeState MountFault) → old.count ≡ total_lines geo → AreStrong old (meta_lines geo) → IfOk r (λ v. (v.geo ≡ geo) × (map presence_word v.present ≡ words)) → IfOk r (λ v. VolumeServes v mid)
  judged_serves (Ok v) count strong made =
      let served : VolumeServes (record v { geo = geo }) mid =
      record {
        valid = valid;
        all = sym (length-map v.present presence_word) ∙ ap length made.1 ∙ read.words.all;
        count = read.outside.count ∙ count;
        strong = λ n below. read.outside.weak n ∙ strong n below;
        rest = rest-then (volume_area geo) mid (replayed (volume_area geo) (last_image old)) (presence_words geo v.present) (home_word v.present made.1) read.rest;
      } in
      subst (λ g. VolumeServes (record v { geo = g }) mid) (sym made.0) served
  judged_serves (Err f) count strong made = tt

-- calls of the log's mount with its loads
pub mounted_runs : (geo : Geometry) (a : LogArea) (e f : Outcome) (p q : Panel) → IsValid geo → a ≡ volume_area geo → f ≡ e → Runs (a.log.len + a.home.len / 8 + 4 * a.cap + 6 + (a.home.len + 7) / 8) (a.log.len + a.home.len / 8 + a.cap + 3) f p q → Runs (1095 + 2 * ((geo.vpages + 7) / 8)) (324 + (geo.vpages + 7) / 8) e p q
unfolding size
mounted_runs geo a e f p q valid is ended x =
    let same : Runs (size geo volume_log + geo.vpages / 8 + 4 * 256 + 6 + (geo.vpages + 7) / 8) (size geo volume_log + geo.vpages / 8 + 256 + 3) e p q = runs_of a (volume_area geo) is e f p q ended x in
    runs_within _ _ (1095 + 2 * ((geo.vpages + 7) / 8)) (324 + (geo.vpages + 7) / 8) e p q same (omega arith) (omega arith)
