use Rattle.std.proofs.Common.{◌≡◌, ◌+◌, ◌<◌, ap, subst, sym, ◌∙◌, List, ℕ, Option, Some, None, IfOk, option_map, slice_get}
use Rattle.line_device.proofs.WriteBackLemmas.{write_back-refl}
use Rattle.line_words.specs.Told.{Finds}
use Rattle.nvm_model.specs.Page.{Page, cell_of}
use Rattle.pm_volume.specs.Object.{VolumeHolds, VolumeState}
use Rattle.pm_volume.specs.Line.{line_in}
use Rattle.append_log.specs.Log.{HoldsLog, LogState}
use Rattle.append_log.specs.Refusals.{LogRefusal, get_refusal, load_refusal, log_says}
use Rattle.append_log.proofs.OpenLemmas.{found-passed, get-found, get-from, get-record, serves-kept}
use Rattle.append_log.proofs.log.AppendLog.get.Goals as goal
use Rattle.append_log.proofs.log.AppendLog.get.Goals.{in-Some, in-None}

pub returns-then-index-self-clause-lines : goal.returns-then-index-self-clause-lines
returns-then-index-self-clause-lines g c = write_back-refl _

pub returns-in_err-line-clause-refused : goal.returns-in_err-line-clause-refused
returns-in_err-line-clause-refused g c =
    let m = (g.L.Lines.state c.args.dev.now).medium in
    let inside : LogState = record { volume = c.self.inside.volume; len = c.self.inside.len } in
    subst (λ (t : LogState). (pages : List Page) → VolumeHolds t.volume m pages → Finds log_says (get_refusal t pages c.args.index) c.from_residual.result) c.self.view_is
    (λ pages holds.
    subst (λ (why : Option LogRefusal). Finds log_says why c.from_residual.result) (sym (get-from inside pages c.args.index c.if-index-self.false))
    (found-passed _ _ (load_refusal (c.args.index + 1) (cell_of pages (c.args.index + 1))) _ c.in_err-line.field-0.0 c.from_residual.result c.from_residual.ensures.1
    (c.in_err-line.ensures.refused pages holds)))

pub returns-in_err-line-clause-serves : goal.returns-in_err-line-clause-serves
returns-in_err-line-clause-serves g c =
    serves-kept c.args.self.now _ (g.L.Lines.state c.args.dev.now).medium _
    (ap (λ (v : VolumeState). v.geo) c.load_line.ensures.object ∙ ap (λ (t : LogState). t.volume.geo) c.self.view_is)
    (ap (λ (v : VolumeState). v.present) c.load_line.ensures.object ∙ ap (λ (t : LogState). t.volume.present) c.self.view_is)
    (ap (λ (t : LogState). t.len) c.self.view_is) c.load_line.ensures.lines c.load_line.ensures.serves c.requires.open.serves

pub returns-clause-refused : goal.returns-clause-refused
returns-clause-refused g c =
    let m = (g.L.Lines.state c.args.dev.now).medium in
    let inside : LogState = record { volume = c.self.inside.volume; len = c.self.inside.len } in
    subst (λ (t : LogState). (pages : List Page) → VolumeHolds t.volume m pages → Finds log_says (get_refusal t pages c.args.index) c.match-record_in.result) c.self.view_is
    (λ pages holds.
    elim c.match-record_in.branch as (λ _. Finds log_says (get_refusal inside pages c.args.index) c.match-record_in.result) [
      | in-Some w ↦
          subst (λ r. Finds log_says (get_refusal inside pages c.args.index) r) (sym w.result-is)
          (get-found inside pages c.args.index c.if-index-self.false c.in_ok-line.line _ (c.in_ok-line.ensures.ok pages holds) (ap (option_map (λ v. v.items)) (sym w.in-Some.is) ∙ c.record_in.ensures))
      | in-None w ↦
          subst (λ r. Finds log_says (get_refusal inside pages c.args.index) r) (sym w.result-is)
          (get-found inside pages c.args.index c.if-index-self.false c.in_ok-line.line None (c.in_ok-line.ensures.ok pages holds) (ap (option_map (λ v. v.items)) (sym w.in-None.is) ∙ c.record_in.ensures))
    ])

pub returns-clause-ok : goal.returns-clause-ok
returns-clause-ok g c =
    let m = (g.L.Lines.state c.args.dev.now).medium in
    elim c.match-record_in.branch as (λ _. IfOk c.match-record_in.result (λ found. (log : List (Option (List ℕ))) → HoldsLog c.args.self.now m log → slice_get log c.args.index ≡ Some (Some found.items))) [
      | in-Some w ↦
          subst (λ r. IfOk r (λ found. (log : List (Option (List ℕ))) → HoldsLog c.args.self.now m log → slice_get log c.args.index ≡ Some (Some found.items))) (sym w.result-is)
          (λ log holds.
          get-record c.args.self.now m log c.args.index c.in_ok-line.line _ (subst (λ (t : LogState). c.args.index < t.len) c.self.view_is c.if-index-self.false) c.requires.open.serves holds
          (subst (λ (t : LogState). (pages : List Page) → VolumeHolds t.volume m pages → line_in (cell_of pages (c.args.index + 1)) ≡ Some c.in_ok-line.line) c.self.view_is c.in_ok-line.ensures.ok)
          (ap (option_map (λ v. v.items)) (sym w.in-Some.is) ∙ c.record_in.ensures))
      | in-None w ↦ subst (λ r. IfOk r (λ found. (log : List (Option (List ℕ))) → HoldsLog c.args.self.now m log → slice_get log c.args.index ≡ Some (Some found.items))) (sym w.result-is) tt
    ]

pub returns-clause-serves : goal.returns-clause-serves
returns-clause-serves g c =
    serves-kept c.args.self.now _ (g.L.Lines.state c.args.dev.now).medium _
    (ap (λ (v : VolumeState). v.geo) c.load_line.ensures.object ∙ ap (λ (t : LogState). t.volume.geo) c.self.view_is)
    (ap (λ (v : VolumeState). v.present) c.load_line.ensures.object ∙ ap (λ (t : LogState). t.volume.present) c.self.view_is)
    (ap (λ (t : LogState). t.len) c.self.view_is) c.load_line.ensures.lines c.load_line.ensures.serves c.requires.open.serves
