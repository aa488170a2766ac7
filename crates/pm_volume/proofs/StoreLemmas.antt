-- What a store may leave.
use Rattle.std.proofs.Common.{◌≡◌, ◌⊎◌, inl, inr, ℕ, ◌*◌, List, Result, Ok, length, sym, subst, add_comm, add-zero, le_of_eq}
use Rattle.line_device.specs.Device.{Device}
use Rattle.line_device.proofs.PanelLemmas.{runs_then, runs_within}
use Rattle.line_words.specs.declared.interruption.Interruption.{Interruption}
use Rattle.word_tables.specs.declared.geometry.Geometry.{Geometry}
use Rattle.word_log.specs.Held.{IsEither}
use Rattle.nvm_model.specs.Interrupted.{LineByLine, MayPut, MayStore}
use Rattle.nvm_model.specs.Page.{Page, fill, put}
use Rattle.page_lines.specs.Turns.{WritesBackOthers}
use Rattle.page_lines.proofs.OthersLemmas.{others-trans}
use Rattle.pm_volume.specs.Area.{IsOfVolume}
use Rattle.pm_volume.specs.Calls.{Works, WorksOnLines}
use Rattle.pm_volume.specs.Costs.{fill_calls, lines_touched, store_calls, store_persists}
use Rattle.pm_volume.specs.Images.{EachReadsPages}
use Rattle.pm_volume.specs.Object.{KeepsMarks, VolumeState}
use Rattle.pm_volume.proofs.MarkLemmas.{marks-trans}
use Rattle.std.proofs.lemmas.Result.{on_ok_weaker}
use Rattle.pm_volume.proofs.ResultLemmas.{on_ok-always}
use Rattle.pm_volume.proofs.StandingLemmas.{each_pages-then}
use Rattle.page_lines.proofs.StoreLemmas.{unput}

pub may_store-filled : (at : ℕ) (bytes : List ℕ) (pages left : List Page) → (left ≡ pages) ⊎ (left ≡ fill at (length bytes) pages) → MayStore at bytes pages left
may_store-filled at bytes pages left (inl same) = inl same
may_store-filled at bytes pages left (inr filled) = inr (subst (LineByLine (MayPut at bytes) (fill at (length bytes) pages)) (sym filled) (unput at bytes (fill at (length bytes) pages)))

-- pages filled, and then bytes put
pub stored-works : (s t : VolumeState) (old mid new : Device) (at : ℕ) (bytes : List ℕ) (u : Unit {0}) (r : Result (Unit {0}) Interruption)
    → Works s t old mid (Ok u) (fill at (length bytes)) (λ pages. IsEither pages (fill at (length bytes) pages)) (fill_calls s.present at (length bytes)) (store_persists s.present at (length bytes))
    → WorksOnLines t mid new r (put at bytes) (LineByLine (MayPut at bytes)) (2 * lines_touched at (length bytes)) 0
    → Works s t old new r (λ pages. put at bytes (fill at (length bytes) pages)) (MayStore at bytes) (store_calls s.present at (length bytes)) (store_persists s.present at (length bytes))
stored-works s t old mid new at bytes u r x y = record {
  ok = on_ok_weaker r (λ now pages holds. now (fill at (length bytes) pages) (x.ok pages holds)) y.ok;
  images = λ pages holds.
      subst (λ (geo : Geometry). EachReadsPages geo new.medium (MayStore at bytes pages)) x.object.0 (each_pages-then t.geo new.medium _ _ (λ left is. inr is) (y.images (fill at (length bytes) pages) (x.ok pages holds)));
  outside = others-trans (IsOfVolume s.geo) old.medium mid.medium new.medium x.outside (subst (λ (geo : Geometry). WritesBackOthers (IsOfVolume geo) mid.medium new.medium) x.object.0 y.outside);
  metadata = marks-trans s.geo old.medium mid.medium new.medium x.metadata (subst (λ (geo : Geometry). KeepsMarks geo mid.medium new.medium) x.object.0 y.metadata);
  serves = on_ok-always r y.serves;
  object = (x.object.0, x.object.1, on_ok-always r x.object.2);
  runs = runs_within _ _ _ _ _ _ _ (runs_then _ _ _ _ _ _ _ _ x.runs y.runs) (le_of_eq (add_comm _ _)) (le_of_eq (add-zero _));
}
