use Rattle.std.proofs.Common.{◌≡◌, ◌∙◌, sym, ap, subst, IfOk, Some, arith}
use Rattle.line_device.specs.Medium.{last_image}
use Rattle.line_device.proofs.WriteBackLemmas.{write_back-trans}
use Rattle.word_log.specs.Area.{gate_place, count_place, entry_place}
use Rattle.word_log.specs.Replay.{wrong_at, entries}
use Rattle.word_log.specs.Mount.{TellsPlace}
use Rattle.line_words.proofs.FrameLemmas.{last_image-write_back}
use Rattle.word_log.proofs.ReadLemmas.{first_wrong-gate, wrong_at-other, listed-closed, listed-open}
use Rattle.word_log.proofs.reading.read_whole.Goals as goal

pub returns-in-0-clause-tells : goal.returns-in-0-clause-tells
returns-in-0-clause-tells g c =
    let old = last_image (g.L.Lines.state c.args.dev.now).medium in
    let gate : old (gate_place c.args.area) ≡ 0 = ap old (sym c.gate_place.ensures) ∙ sym c.in_ok-load_word.ensures.value ∙ c.in-0.is in
    first_wrong-gate c.args.area old 0 gate

pub returns-in-0-clause-changes : goal.returns-in-0-clause-changes
returns-in-0-clause-changes g c =
    let old = last_image (g.L.Lines.state c.args.dev.now).medium in
    let gate : old (gate_place c.args.area) ≡ 0 = ap old (sym c.gate_place.ensures) ∙ sym c.in_ok-load_word.ensures.value ∙ c.in-0.is in
    c.new.ensures ∙ sym (listed-closed c.args.area old gate)

pub returns-in-1-clause-tells : goal.returns-in-1-clause-tells
returns-in-1-clause-tells g c =
    let old = last_image (g.L.Lines.state c.args.dev.now).medium in
    let gate : old (gate_place c.args.area) ≡ 1 = ap old (sym c.gate_place.ensures) ∙ sym c.in_ok-load_word.ensures.value ∙ c.in-1.is in
    subst (λ wrong. TellsPlace wrong c.read_open.result)
    (ap (wrong_at 1 c.args.area) (last_image-write_back _ _ c.in_ok-load_word.ensures.lines) ∙ sym (first_wrong-gate c.args.area old 1 gate))
    c.read_open.ensures.tells

pub returns-in-1-clause-changes : goal.returns-in-1-clause-changes
returns-in-1-clause-changes g c =
    let old = last_image (g.L.Lines.state c.args.dev.now).medium in
    let gate : old (gate_place c.args.area) ≡ 1 = ap old (sym c.gate_place.ensures) ∙ sym c.in_ok-load_word.ensures.value ∙ c.in-1.is in
    let same = last_image-write_back _ _ c.in_ok-load_word.ensures.lines in
    subst (λ cs. IfOk c.read_open.result (λ changes. changes.items ≡ cs))
    (ap (λ w. entries w (entry_place c.args.area 0) (w (count_place c.args.area))) same ∙ sym (listed-open c.args.area old gate))
    c.read_open.ensures.changes

pub returns-in-1-clause-lines : goal.returns-in-1-clause-lines
returns-in-1-clause-lines g c = write_back-trans _ _ _ c.in_ok-load_word.ensures.lines c.read_open.ensures.lines

pub returns-in_default-clause-tells : goal.returns-in_default-clause-tells
returns-in_default-clause-tells g c =
    let old = last_image (g.L.Lines.state c.args.dev.now).medium in
    let gate : old (gate_place c.args.area) ≡ c.in_ok-load_word.field-0 = ap old (sym c.gate_place.ensures) ∙ sym c.in_ok-load_word.ensures.value in
    first_wrong-gate c.args.area old _ gate
    ∙ wrong_at-other c.args.area old _ (λ e. omega arith) (λ e. omega arith)
    ∙ ap (λ p. Some p) (sym c.gate_place-in_default.ensures)
