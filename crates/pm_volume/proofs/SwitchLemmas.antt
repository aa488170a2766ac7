-- A commit of the presence words of pages.
use Rattle.std.proofs.Common.{◌≡◌, Bool, OnOk, Result, refl, sym, subst, ◌∙◌}
use Rattle.std.specs.Result.{is_ok}
use Rattle.std.proofs.lemmas.Result.{on_ok_weaker}
use Rattle.nvm_base.specs.declared.units.Span.{Span}
use Rattle.line_device.specs.Device.{Device}
use Rattle.line_device.specs.Panel.{Runs}
use Rattle.line_words.specs.declared.interruption.Interruption.{Interruption}
use Rattle.line_words.specs.Ending.{ended}
use Rattle.word_tables.specs.Layout.{meta_lines}
use Rattle.word_tables.specs.Words.{place, of_volume_page}
use Rattle.nvm_model.proofs.NumberedLemmas.{length-list_from, length-map_from}
use Rattle.word_log.specs.Area.{IsUsable}
use Rattle.word_log.specs.Changes.{commit_calls, commit_persists}
use Rattle.word_log.specs.Commits.{Commits}
use Rattle.word_log.specs.Rest.{IsAtRest}
use Rattle.word_log.proofs.HeldLemmas.{words-images, words-rest}
use Rattle.nvm_model.specs.Lines.{AreGood}
use Rattle.pm_volume.specs.Area.{volume_area}
use Rattle.pm_volume.specs.Calls.{HasBegun, Switches}
use Rattle.pm_volume.specs.Object.{VolumeState}
use Rattle.pm_volume.specs.Presence.{presence_word, presence_words, switched, word_changes}
use Rattle.pm_volume.proofs.AreaLemmas.{area_fits, area_strong, area_whole}
use Rattle.pm_volume.proofs.ResultLemmas.{on_ok-both}
use Rattle.pm_volume.proofs.ServesLemmas.{serves-same}
use Rattle.pm_volume.proofs.WordLemmas.{words_switched}

-- The log of a volume can be used for that, and it is all that a commit does.
module _ (v s : VolumeState) (seen : v ≡ s) (old : Device) (begun : HasBegun s old) where
  served : HasBegun v old
  served = subst (λ (w : VolumeState). HasBegun w old) (sym seen) begun

  pub switch_usable : AreGood old.medium (meta_lines s.geo) → IsUsable (volume_area v.geo) old
  switch_usable good = record {
    on = begun.on;
    fits = area_fits v.geo served.serves.valid old.medium served.serves.count;
    strong = area_strong v.geo served.serves.valid old.medium served.serves.strong;
    whole = area_whole v.geo served.serves.valid old.medium (subst (λ (w : VolumeState). AreGood old.medium (meta_lines w.geo)) (sym seen) good);
  }

  module _ (new : Device) (r : Result (Unit {0}) Interruption) (pages : Span) (to : Bool) (x : Commits (volume_area v.geo) old new r (word_changes v.geo pages.start pages.len to)) where
    rests : OnOk r (IsAtRest (volume_area v.geo) new.medium (presence_words v.geo (switched pages.start pages.len to v.present)))
    rests =
        on_ok_weaker r
        (words-rest (volume_area v.geo) (volume_area v.geo) refl old.medium new.medium (word_changes v.geo pages.start pages.len to) (presence_words v.geo v.present) (presence_words v.geo (switched pages.start pages.len to v.present)) served.serves.rest
        (λ p home. words_switched v.geo pages.start pages.len to v.present p served.serves.all home))
        x.ok

    pub switches : (t : VolumeState) (answer : Result (Unit {0}) Interruption) → r ≡ answer → t.geo ≡ v.geo → t.settled ≡ v.settled → t.quiet ≡ is_ok r → OnOk r (t.present ≡ switched pages.start pages.len to v.present) → Switches s t old new answer pages to
    switches t answer is geo settled quiet there =
        subst (λ e. Switches s t old new e pages to) is
        (subst (λ (w : VolumeState). Switches w t old new r pages to) seen (record {
          ok = there;
          images =
              words-images (volume_area v.geo) (volume_area v.geo) refl old.medium new.medium (word_changes v.geo pages.start pages.len to) (presence_words v.geo v.present) (presence_words v.geo (switched pages.start pages.len to v.present)) served.serves.rest
              (λ p home. words_switched v.geo pages.start pages.len to v.present p served.serves.all home) x.images;
          outside = x.outside;
          serves = on_ok-both r
              (λ there rest.
              serves-same (record v { present = switched pages.start pages.len to v.present }) t new.medium geo there (record {
                valid = served.serves.valid;
                all = length-map_from _ 0 v.present ∙ served.serves.all;
                count = x.outside.count ∙ served.serves.count;
                strong = λ n below. x.outside.weak n ∙ served.serves.strong n below;
                rest = rest;
              }))
              there rests;
          object = (geo, settled, quiet);
          runs = subst (λ k. Runs (commit_calls k) (commit_persists k) (ended r) old.panel new.panel) (length-list_from (λ page. (place v.geo (of_volume_page page), presence_word to)) pages.start pages.len) x.runs;
        }))
