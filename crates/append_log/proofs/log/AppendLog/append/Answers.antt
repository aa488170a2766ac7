use Rattle.std.proofs.Common.{◌⊎◌, inl, ◌+◌, ◌++◌, ◌∷◌, [], IsTrue, List, ℕ, Option, Some, None, Err, Ok, ap, length, refl, subst, sym, ◌∙◌}
use Rattle.line_words.specs.Told.{Answers, is_done}
use Rattle.line_words.proofs.ToldLemmas.{checked_went}
use Rattle.nvm_model.specs.Page.{Page}
use Rattle.page_lines.proofs.OthersLemmas.{others-refl, others-trans}
use Rattle.page_lines.specs.Turns.{WritesBackOthers}
use Rattle.word_tables.specs.declared.geometry.Geometry.{Geometry}
use Rattle.pm_volume.specs.Area.{IsOfVolume}
use Rattle.pm_volume.specs.Left.{EachLeft}
use Rattle.pm_volume.specs.Object.{VolumeHolds, VolumeState}
use Rattle.pm_volume.specs.Refusals.{VolumeRefusal, volume_says}
use Rattle.pm_volume.proofs.HoldsLemmas.{shown-hold, shown_pages}
use Rattle.append_log.specs.declared.fault.LogFault.TheVariants.{Volume}
use Rattle.append_log.specs.Log.{HoldsLog, LogServes, LogStands, LogState}
use Rattle.append_log.specs.Refusals.{append_refusal, check_refusal, log_says, write_refusal}
use Rattle.append_log.proofs.BegunLemmas.{IsRecorded, IsTested, append-done, count-refused, count-sound, count-unrefused, record-images, record-refused, record-sound}
use Rattle.append_log.proofs.CallLemmas.{answered-none, answers-first, answers-passed, log-passed}
use Rattle.append_log.proofs.CountedLemmas.{append-holds, append-serves, count-images}
use Rattle.append_log.proofs.PassLemmas.{done-passed, done-refused, never-stopped, refused-passed, tested-result, tested-unworked, worked-through}
use Rattle.append_log.proofs.log.AppendLog.append.Given as given
use Rattle.append_log.proofs.log.AppendLog.append.Goals as goal
use Rattle.append_log.proofs.log.AppendLog.append.Goals.{After-count_line, After-record_line, After-write_line-2}

tested : (g : given.Over) (c : goal.After-record_line g) → IsTested (record { volume = c.self.inside.volume; len = c.self.inside.len }) (g.L.Lines.state c.args.dev.now).medium c.args.record.now
tested g c =
    subst (λ (t : LogState). IsTested t (g.L.Lines.state c.args.dev.now).medium c.args.record.now) (sym c.self.view_is)
    (record { serves = c.requires.open.serves; room = c.in_ok-check.ensures.room; checks = c.in_ok-check.ensures.refused })

recorded : (g : given.Over) (c : goal.After-count_line g) → IsTested (record { volume = c.self.inside.volume; len = c.self.inside.len }) (g.L.Lines.state c.args.dev.now).medium c.args.record.now
    → IsRecorded (record { volume = c.self.inside.volume; len = c.self.inside.len }) c.write_line.new.volume (g.L.Lines.state c.args.dev.now).medium (g.L.Lines.state c.write_line.new.dev).medium c.args.record.now c.record_line.result
recorded g c before = record {
  tested = before;
  parsed = c.record_line.ensures.«record»;
  whole = c.record_line.ensures.length;
  small = c.write_line.ensures.bytes;
  geo = c.in_ok-write_line.ensures.changes.object.0;
  held = c.in_ok-write_line.ensures.changes.ok;
}

outside : (g : given.Over) (c : goal.After-write_line-2 g) → WritesBackOthers (IsOfVolume c.args.self.now.volume.geo) (g.L.Lines.state c.args.dev.now).medium (g.L.Lines.state c.write_line-2.new.dev).medium
outside g c =
    let m = (g.L.Lines.state c.args.dev.now).medium in
    let mid = (g.L.Lines.state c.write_line.new.dev).medium in
    let last = (g.L.Lines.state c.write_line-2.new.dev).medium in
    others-trans (IsOfVolume c.args.self.now.volume.geo) m mid last
    (subst (λ (t : LogState). WritesBackOthers (IsOfVolume t.volume.geo) m mid) c.self.view_is c.write_line.ensures.changes.outside)
    (subst (λ (geo : Geometry). WritesBackOthers (IsOfVolume geo) mid last) (c.in_ok-write_line.ensures.changes.object.0 ∙ ap (λ (t : LogState). t.volume.geo) c.self.view_is) c.write_line-2.ensures.changes.outside)

pub write_line-requires-clause-sound : goal.write_line-requires-clause-sound
write_line-requires-clause-sound g c = record-sound _ _ _ (tested g (goal.at.write_line-requires-clause-sound g c).After-record_line)

pub write_line-requires-2-clause-sound : goal.write_line-requires-2-clause-sound
write_line-requires-2-clause-sound g c =
    let at = goal.at.write_line-requires-2-clause-sound g c in
    count-sound _ _ _ _ _ _ (recorded g at.After-count_line (tested g at.After-record_line))

pub write_line-requires-2-clause-ready : goal.write_line-requires-2-clause-ready
write_line-requires-2-clause-ready g c =
    let x = c.in_ok-write_line.ensures.changes in
    record { serves = x.serves x.object.1; settled = x.object.1; on = subst IsTrue (sym x.runs.cause.0) c.requires.open.on }

pub returns-in_err-check-clause-refused : goal.returns-in_err-check-clause-refused
returns-in_err-check-clause-refused g c =
    let now = c.args.self.now in
    let m = (g.L.Lines.state c.args.dev.now).medium in
    let f = c.in_err-check.field-0.0 in
    λ pages holds.
    log-passed (Unit {0}) _ (append_refusal now m pages (length c.args.record.now)) f c.from_residual.result c.from_residual.ensures.1
    (answers-first (Unit {0}) (Unit {0}) (check_refusal now pages (length c.args.record.now)) _ f (c.in_err-check.ensures.refused pages holds))

pub returns-in_err-check-clause-images : goal.returns-in_err-check-clause-images
returns-in_err-check-clause-images g c =
    let now = c.args.self.now in
    let m = (g.L.Lines.state c.args.dev.now).medium in
    tested-unworked (Unit {0}) _ _ (check_refusal now (shown_pages now.volume m) (length c.args.record.now)) c.in_err-check.field-0.0 c.from_residual.result c.from_residual.ensures.1 (c.in_err-check.ensures.refused (shown_pages now.volume m) (shown-hold now.volume m))

pub returns-in_err-check-clause-outside : goal.returns-in_err-check-clause-outside
returns-in_err-check-clause-outside g c =
    others-refl _ _

pub returns-in_err-check-clause-object : goal.returns-in_err-check-clause-object
returns-in_err-check-clause-object g c =
    let now = c.args.self.now in
    let m = (g.L.Lines.state c.args.dev.now).medium in
    let r = c.from_residual.result in
    let why = check_refusal now (shown_pages now.volume m) (length c.args.record.now) in
    (refl, c.requires.open.settled ∙ sym (ap is_done (checked_went log_says why r (tested-result (Unit {0}) _ why c.in_err-check.field-0.0 r c.from_residual.ensures.1 (c.in_err-check.ensures.refused (shown_pages now.volume m) (shown-hold now.volume m))))))

pub returns-in_err-write_line-clause-refused : goal.returns-in_err-write_line-clause-refused
returns-in_err-write_line-clause-refused g c =
    let s : LogState = record { volume = c.self.inside.volume; len = c.self.inside.len } in
    let m = (g.L.Lines.state c.args.dev.now).medium in
    let f = c.in_err-write_line.field-0.0 in
    let r = c.from_residual-in_err-write_line.result in
    subst (λ (t : LogState). (pages : List Page) → VolumeHolds t.volume m pages → Answers log_says (append_refusal t m pages (length c.args.record.now)) r) c.self.view_is
    (λ pages holds.
    log-passed (Unit {0}) _ (append_refusal s m pages (length c.args.record.now)) (Volume f) r c.from_residual-in_err-write_line.ensures.1
    (record-refused s m c.args.record.now (tested g (goal.at.returns-in_err-write_line-clause-refused g c).After-record_line) (Unit {0}) (Unit {0}) f c.in_err-write_line.ensures.refused pages holds))

pub returns-in_err-write_line-clause-untouched : goal.returns-in_err-write_line-clause-untouched
returns-in_err-write_line-clause-untouched g c =
    refused-passed (Unit {0}) _ _ _ c.in_err-write_line.field-0.0 c.from_residual-in_err-write_line.result c.from_residual-in_err-write_line.ensures.1
    (λ both. (ap (λ (v : VolumeState). record { volume = v; len = c.self.inside.len }) both.0 ∙ c.self.view_is, both.1)) c.in_err-write_line.ensures.changes.untouched

pub returns-in_err-write_line-clause-images : goal.returns-in_err-write_line-clause-images
returns-in_err-write_line-clause-images g c =
    let mid = (g.L.Lines.state c.write_line.new.dev).medium in
    worked-through (Unit {0}) _ _ _ c.in_err-write_line.field-0.0 c.from_residual-in_err-write_line.result c.from_residual-in_err-write_line.ensures.1
    (λ each.
    subst (λ (t : LogState). (log : List (Option (List ℕ))) → HoldsLog t (g.L.Lines.state c.args.dev.now).medium log → EachLeft 8 t.volume.geo mid (λ left. LogStands left log ⊎ LogStands left (log ++ Some c.args.record.now ∷ []))) c.self.view_is
    (λ log holds. record-images _ _ _ (tested g (goal.at.returns-in_err-write_line-clause-images g c).After-record_line) log mid c.record_line.result _ c.record_line.ensures.length each (λ left stands. inl stands) holds)) c.in_err-write_line.ensures.changes.images

pub returns-in_err-write_line-clause-outside : goal.returns-in_err-write_line-clause-outside
returns-in_err-write_line-clause-outside g c =
    subst (λ (t : LogState). WritesBackOthers (IsOfVolume t.volume.geo) (g.L.Lines.state c.args.dev.now).medium (g.L.Lines.state c.write_line.new.dev).medium) c.self.view_is c.write_line.ensures.changes.outside

pub returns-in_err-write_line-clause-serves : goal.returns-in_err-write_line-clause-serves
returns-in_err-write_line-clause-serves g c =
    let s : LogState = record { volume = c.self.inside.volume; len = c.self.inside.len } in
    let x = c.in_err-write_line.ensures.changes in
    λ settled.
    let both = x.untouched (done-refused c.in_err-write_line.field-0.0 (sym x.object.1 ∙ settled)) in
    subst (λ (v : VolumeState). LogServes (record { volume = v; len = s.len }) (g.L.Lines.state c.write_line.new.dev).medium) (sym both.0)
    (subst (λ d. LogServes s (g.L.Lines.state d).medium) (sym both.1) (tested g (goal.at.returns-in_err-write_line-clause-serves g c).After-record_line).serves)

pub returns-in_err-write_line-clause-object : goal.returns-in_err-write_line-clause-object
returns-in_err-write_line-clause-object g c =
    let x = c.in_err-write_line.ensures.changes in
    (x.object.0 ∙ ap (λ (t : LogState). t.volume.geo) c.self.view_is, x.object.1 ∙ done-passed (Unit {0}) _ c.in_err-write_line.field-0.0 c.from_residual-in_err-write_line.result c.from_residual-in_err-write_line.ensures.1)

pub returns-in_err-write_line-2-clause-refused : goal.returns-in_err-write_line-2-clause-refused
returns-in_err-write_line-2-clause-refused g c =
    let at = goal.at.returns-in_err-write_line-2-clause-refused g c in
    let s : LogState = record { volume = c.self.inside.volume; len = c.self.inside.len } in
    let m = (g.L.Lines.state c.args.dev.now).medium in
    let none = answered-none (write_refusal s.volume m (s.len + 1)) c.in_ok-write_line.field-0 c.in_ok-write_line.ensures.refused in
    let f = c.in_err-write_line-2.field-0.0 in
    let r = c.from_residual-in_err-write_line-2.result in
    subst (λ (t : LogState). (pages : List Page) → VolumeHolds t.volume m pages → Answers log_says (append_refusal t m pages (length c.args.record.now)) r) c.self.view_is
    (λ pages holds.
    log-passed (Unit {0}) _ (append_refusal s m pages (length c.args.record.now)) (Volume f) r c.from_residual-in_err-write_line-2.ensures.1
    (count-refused s _ _ _ _ _ (recorded g at.After-count_line (tested g at.After-record_line)) (Unit {0}) (Unit {0}) f none c.in_err-write_line-2.ensures.refused pages holds))

pub returns-in_err-write_line-2-clause-untouched : goal.returns-in_err-write_line-2-clause-untouched
returns-in_err-write_line-2-clause-untouched g c =
    let at = goal.at.returns-in_err-write_line-2-clause-untouched g c in
    let f = c.in_err-write_line-2.field-0.0 in
    let r = c.from_residual-in_err-write_line-2.result in
    never-stopped _ _ r
    (log-passed (Unit {0}) _ None (Volume f) r c.from_residual-in_err-write_line-2.ensures.1
    (answers-passed (Unit {0}) (Unit {0}) None f (subst (λ (why : Option VolumeRefusal). Answers {T = Unit {0}} volume_says why (Err f)) (count-unrefused _ _ _ _ _ _ (recorded g at.After-count_line (tested g at.After-record_line))) c.in_err-write_line-2.ensures.refused)))

pub returns-in_err-write_line-2-clause-images : goal.returns-in_err-write_line-2-clause-images
returns-in_err-write_line-2-clause-images g c =
    let at = goal.at.returns-in_err-write_line-2-clause-images g c in
    let last = (g.L.Lines.state c.write_line-2.new.dev).medium in
    worked-through (Unit {0}) _ _ _ c.in_err-write_line-2.field-0.0 c.from_residual-in_err-write_line-2.result c.from_residual-in_err-write_line-2.ensures.1
    (λ each.
    subst (λ (t : LogState). (log : List (Option (List ℕ))) → HoldsLog t (g.L.Lines.state c.args.dev.now).medium log → EachLeft 8 t.volume.geo last (λ left. LogStands left log ⊎ LogStands left (log ++ Some c.args.record.now ∷ []))) c.self.view_is
    (λ log holds. count-images _ _ _ _ _ _ (recorded g at.After-count_line (tested g at.After-record_line)) c.count_line.result c.count_line.ensures.length c.write_line-2.ensures.bytes c.count_line.ensures.count log holds last each)) c.in_err-write_line-2.ensures.changes.images

pub returns-in_err-write_line-2-clause-outside : goal.returns-in_err-write_line-2-clause-outside
returns-in_err-write_line-2-clause-outside g c = outside g (goal.at.returns-in_err-write_line-2-clause-outside g c).After-write_line-2

pub returns-in_err-write_line-2-clause-serves : goal.returns-in_err-write_line-2-clause-serves
returns-in_err-write_line-2-clause-serves g c =
    let at = goal.at.returns-in_err-write_line-2-clause-serves g c in
    let f = c.in_err-write_line-2.field-0.0 in
    let y = c.in_err-write_line-2.ensures in
    λ settled.
    absurd (done-refused f (sym y.changes.object.1 ∙ settled) (subst (λ (why : Option VolumeRefusal). Answers {T = Unit {0}} volume_says why (Err f)) (count-unrefused _ _ _ _ _ _ (recorded g at.After-count_line (tested g at.After-record_line))) y.refused))

pub returns-in_err-write_line-2-clause-object : goal.returns-in_err-write_line-2-clause-object
returns-in_err-write_line-2-clause-object g c =
    let y = c.in_err-write_line-2.ensures.changes in (
      y.object.0 ∙ c.in_ok-write_line.ensures.changes.object.0 ∙ ap (λ (t : LogState). t.volume.geo) c.self.view_is,
      y.object.1 ∙ done-passed (Unit {0}) _ c.in_err-write_line-2.field-0.0 c.from_residual-in_err-write_line-2.result c.from_residual-in_err-write_line-2.ensures.1,
    )

pub returns-clause-refused : goal.returns-clause-refused
returns-clause-refused g c =
    let at = goal.at.returns-clause-refused g c in
    let s : LogState = record { volume = c.self.inside.volume; len = c.self.inside.len } in
    let m = (g.L.Lines.state c.args.dev.now).medium in
    let none = answered-none (write_refusal s.volume m (s.len + 1)) c.in_ok-write_line.field-0 c.in_ok-write_line.ensures.refused in
    subst (λ (t : LogState). (pages : List Page) → VolumeHolds t.volume m pages → Answers {T = Unit {0}} log_says (append_refusal t m pages (length c.args.record.now)) (Ok tt)) c.self.view_is
    (append-done s _ _ _ _ _ (recorded g at.After-count_line (tested g at.After-record_line)) (Unit {0}) tt none)

pub returns-clause-ok : goal.returns-clause-ok
returns-clause-ok g c =
    let at = goal.at.returns-clause-ok g c in
    let last = (g.L.Lines.state c.write_line-2.new.dev).medium in
    subst (λ (t : LogState). (log : List (Option (List ℕ))) → HoldsLog t (g.L.Lines.state c.args.dev.now).medium log
    → HoldsLog (record { volume = c.write_line-2.new.volume; len = c.self.inside.len + 1 }) last (log ++ Some c.args.record.now ∷ [])) c.self.view_is
    (λ log holds. append-holds _ _ _ _ _ _ (recorded g at.After-count_line (tested g at.After-record_line)) c.count_line.result c.count_line.ensures.length c.write_line-2.ensures.bytes c.count_line.ensures.count log holds c.write_line-2.new.volume last c.in_ok-write_line-2.ensures.changes.ok)

pub returns-clause-images : goal.returns-clause-images
returns-clause-images g c =
    let at = goal.at.returns-clause-images g c in
    let last = (g.L.Lines.state c.write_line-2.new.dev).medium in
    subst (λ (t : LogState). (log : List (Option (List ℕ))) → HoldsLog t (g.L.Lines.state c.args.dev.now).medium log → EachLeft 8 t.volume.geo last (λ left. LogStands left log ⊎ LogStands left (log ++ Some c.args.record.now ∷ []))) c.self.view_is
    (λ log holds. count-images _ _ _ _ _ _ (recorded g at.After-count_line (tested g at.After-record_line)) c.count_line.result c.count_line.ensures.length c.write_line-2.ensures.bytes c.count_line.ensures.count log holds last c.in_ok-write_line-2.ensures.changes.images)

pub returns-clause-outside : goal.returns-clause-outside
returns-clause-outside g c = outside g (goal.at.returns-clause-outside g c).After-write_line-2

pub returns-clause-serves : goal.returns-clause-serves
returns-clause-serves g c =
    let at = goal.at.returns-clause-serves g c in
    let y = c.in_ok-write_line-2.ensures.changes in
    λ settled.
    append-serves _ _ _ _ _ _ (recorded g at.After-count_line (tested g at.After-record_line)) c.count_line.result c.count_line.ensures.length c.write_line-2.ensures.bytes c.count_line.ensures.count c.write_line-2.new.volume (g.L.Lines.state c.write_line-2.new.dev).medium y.object.0 (y.serves y.object.1) y.ok

pub returns-clause-object : goal.returns-clause-object
returns-clause-object g c =
    (c.in_ok-write_line-2.ensures.changes.object.0 ∙ c.in_ok-write_line.ensures.changes.object.0 ∙ ap (λ (t : LogState). t.volume.geo) c.self.view_is, c.in_ok-write_line-2.ensures.changes.object.1)
