-- Bytes put over the volume, and spans of it made durable.
use Rattle.std.proofs.Common.{◌≡◌, inr, ℕ, Bool, true, Some, Option, Result, OnErr, OnOk, List, length, refl, sym, subst}
use Rattle.line_device.specs.Device.{Device}
use Rattle.line_device.specs.Medium.{Medium}
use Rattle.line_device.specs.Panel.{Runs}
use Rattle.line_words.specs.declared.interruption.Interruption.{Interruption}
use Rattle.line_words.specs.Ending.{ended}
use Rattle.nvm_model.specs.Cell.{Cell, persist_cell, put_cell}
use Rattle.nvm_model.specs.Interrupted.{LineByLine, MayPersist, MayPut, MaySync}
use Rattle.nvm_model.specs.Numbered.{map_from}
use Rattle.nvm_model.specs.Page.{map_lines, persist, put}
use Rattle.page_lines.specs.Placed.{AreApart, IsPlaced}
use Rattle.page_lines.specs.Turns.{MayTurn, Turns, WritesBackOthers}
use Rattle.page_lines.proofs.OthersLemmas.{others-wider}
use Rattle.page_lines.proofs.PutLemmas.{may_put-done}
use Rattle.pm_volume.specs.Area.{IsOfVolume}
use Rattle.pm_volume.specs.Calls.{WorksOnLines}
use Rattle.pm_volume.specs.Object.{PlacesState, VolumeServes, VolumeState, volume_place}
use Rattle.pm_volume.proofs.MarkLemmas.{marks-others}
use Rattle.pm_volume.proofs.PlaceLemmas.{lines_apart}
use Rattle.std.proofs.lemmas.Result.{on_ok_weaker}
use Rattle.pm_volume.proofs.ServesLemmas.{of_volume, serves-others}
use Rattle.pm_volume.proofs.TurnLemmas.{holds-turned, images-turned, placed_lines}

-- no two lines of pages lie at the same place
pub places_apart : (l : PlacesState) (s : VolumeState) (m : Medium) (wanted : Bool) → l ≡ record { geo = s.geo; present = s.present; wanted = wanted } → VolumeServes s m → AreApart (volume_place l.geo l.present l.wanted) m.count
places_apart l s m wanted is serves =
    subst (λ (l : PlacesState). AreApart (volume_place l.geo l.present l.wanted) m.count) (sym is) (lines_apart s.geo serves.valid s.present wanted m.count serves.all serves.count)

-- the lines of a span turned, or may have
pub record TurnsLines (place : ℕ → Option ℕ) (f : ℕ → Cell → Cell) (R : ℕ → Cell → Cell → Type 0) (start len : ℕ) (old new : Device) (r : Result (Unit {0}) Interruption) (calls persists : ℕ) : Type 0 where
  pub ok : OnOk r ((n line : ℕ) → place n ≡ Some line → Turns (f n) line old.medium new.medium)
  pub err : OnErr r ((n line : ℕ) → place n ≡ Some line → MayTurn (R n) line old.medium new.medium)
  pub outside : WritesBackOthers (IsPlaced place start len) old.medium new.medium
  pub runs : Runs calls persists (ended r) old.panel new.panel

module _ (s : VolumeState) (old new : Device) (serves : VolumeServes s old.medium) (f : ℕ → Cell → Cell) (R : ℕ → Cell → Cell → Type 0) (start len : ℕ) (r : Result (Unit {0}) Interruption) (calls persists : ℕ) where
  turned-works : ((n : ℕ) (cell : Cell) → R n cell (f n cell)) → TurnsLines (volume_place s.geo s.present true) f R start len old new r calls persists → WorksOnLines s old new r (λ pages. map_from (map_lines f) 0 pages) (LineByLine R) calls persists
  turned-works leaves x = record {
    ok = on_ok_weaker r (holds-turned s old.medium new.medium f serves) x.ok;
    images = images-turned s old.medium new.medium f serves R start len x.outside r leaves x.ok x.err;
    outside = others-wider (IsPlaced (volume_place s.geo s.present true) start len) (IsOfVolume s.geo) old.medium new.medium (λ n is. of_volume s.geo n (placed_lines s old.medium start len n serves is)) x.outside;
    metadata = marks-others s.geo old.medium new.medium (IsPlaced (volume_place s.geo s.present true) start len) serves.valid (λ n is. placed_lines s old.medium start len n serves is) x.outside;
    serves = serves-others s old.medium new.medium (IsPlaced (volume_place s.geo s.present true) start len) (λ n is. placed_lines s old.medium start len n serves is) x.outside serves;
    runs = x.runs;
  }

pub put-works : (s : VolumeState) (old new : Device) (at : ℕ) (bytes : List ℕ) (r : Result (Unit {0}) Interruption) (calls : ℕ) → VolumeServes s old.medium
    → TurnsLines (volume_place s.geo s.present true) (put_cell at bytes) (MayPut at bytes) at (length bytes) old new r calls 0 → WorksOnLines s old new r (put at bytes) (LineByLine (MayPut at bytes)) calls 0
unfolding put
put-works s old new at bytes r calls serves x = turned-works s old new serves (put_cell at bytes) (MayPut at bytes) at (length bytes) r calls 0 (λ n cell. may_put-done at n bytes cell) x

pub persist-works : (s : VolumeState) (old new : Device) (start len : ℕ) (r : Result (Unit {0}) Interruption) (calls : ℕ) → VolumeServes s old.medium
    → TurnsLines (volume_place s.geo s.present true) (persist_cell start len) (MayPersist start len) start len old new r calls calls → WorksOnLines s old new r (persist start len) (MaySync start len) calls calls
unfolding persist
persist-works s old new start len r calls serves x = turned-works s old new serves (persist_cell start len) (MayPersist start len) start len r calls calls (λ n cell. inr refl) x
