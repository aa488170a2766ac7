use Rattle.std.proofs.Common.{◌≡◌, List, ℕ, length, Result, Ok, Err, OnOk, sym, ◌∙◌}
use Rattle.line_device.proofs.WriteBackLemmas.{write_back-refl}
use Rattle.page_lines.proofs.LoadLemmas.{placed-line, placed-nowhere}
use Rattle.page_lines.proofs.loading.load_at.Goals as goal

ok_same : {A F : Type 0} (r : Result A F) (out a b : List ℕ) → a ≡ b → OnOk r (out ≡ a) → OnOk r (out ≡ b)
ok_same (Ok x) out a b same p = p ∙ same
ok_same (Err e) out a b same p = tt

pub returns-in-Some-clause-ok : goal.returns-in-Some-clause-ok
returns-in-Some-clause-ok g c =
    ok_same c.load_part.result _ _ _
    (placed-line (g.P.Places.place c.args.places.now) (g.L.Lines.state c.args.dev.now).medium c.args.offset (length c.args.out.now) c.in-Some.line (sym c.line.ensures ∙ c.in-Some.is) c.requires.one_line) c.load_part.ensures.ok

pub returns-in-None-clause-ok : goal.returns-in-None-clause-ok
returns-in-None-clause-ok g c =
    c.fill.ensures.after (λ y same. same)
    ∙ placed-nowhere (g.P.Places.place c.args.places.now) (g.L.Lines.state c.args.dev.now).medium c.args.offset (length c.args.out.now) (sym c.line.ensures ∙ c.in-None.is) c.requires.one_line

pub returns-in-None-clause-lines : goal.returns-in-None-clause-lines
returns-in-None-clause-lines g c = write_back-refl _
