use Rattle.std.proofs.Common.{◌≡◌, ℕ, OnErr, OnOk, true, length, ◌∙◌, subst, arith}
use Rattle.line_device.proofs.PanelLemmas.{runs_within}
use Rattle.nvm_model.specs.Numbered.{AreMixed, list_from}
use Rattle.page_lines.specs.Shown.{placed_byte}
use Rattle.pm_volume.specs.Object.{PlacesState, volume_place}
use Rattle.pm_volume.proofs.PutLemmas.{places_apart}
use Rattle.std.proofs.lemmas.Result.{on_err_weaker, on_ok_weaker}
use Rattle.pm_volume.proofs.LoadLemmas.{shown-look}
use Rattle.pm_volume.proofs.CountLemmas.{there_in_most}
use Rattle.pm_volume.proofs.Volume.load.Goals as goal

pub load_lines-requires-clause-apart : goal.load_lines-requires-clause-apart
load_lines-requires-clause-apart g c = places_apart c.lines-lines.result c.args.self.now _ true c.lines-lines.ensures c.requires.served.serves

pub returns : goal.returns
returns g c =
    let m = (g.L.Lines.state c.args.dev.now).medium in
    let len = length c.args.out.now in
    let l = c.lines-lines.result in
    let x = c.load_lines.ensures in
    let most = there_in_most (volume_place l.geo l.present l.wanted) (record { start = c.args.offset; len = len }) in
    record {
      loads = record {
        ok = on_ok_weaker c.load_lines.result
            (λ is pages holds. is ∙ shown-look c.args.self.now m pages holds (record { start = c.args.offset; len = len }) c.requires.readable)
            (subst (λ (l : PlacesState). OnOk c.load_lines.result (c.load_lines.new.out ≡ list_from (placed_byte (volume_place l.geo l.present l.wanted) m) c.args.offset len)) c.lines-lines.ensures x.ok);
        err = on_err_weaker c.load_lines.result
            (λ mixed pages holds. subst (λ bytes. AreMixed ℕ c.args.out.now bytes c.load_lines.new.out) (shown-look c.args.self.now m pages holds (record { start = c.args.offset; len = len }) c.requires.readable) mixed)
            (subst (λ (l : PlacesState). OnErr c.load_lines.result (AreMixed ℕ c.args.out.now (list_from (placed_byte (volume_place l.geo l.present l.wanted) m) c.args.offset len) c.load_lines.new.out)) c.lines-lines.ensures x.err);
        lines = x.lines;
        runs = runs_within _ _ _ _ _ _ _ x.runs (omega (arith, most)) (omega arith);
      };
    }
