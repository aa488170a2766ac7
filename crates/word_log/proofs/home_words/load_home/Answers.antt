use Rattle.std.proofs.Common.{◌≡◌, ◌+◌, ◌*◌, ◌/◌, ℕ, length, get_or, ◌∙◌, ap, arith}
use Rattle.line_device.specs.Medium.{last_image}
use Rattle.line_device.proofs.WriteBackLemmas.{write_back-refl, write_back-trans, newest-write_back, is_healthy-write_back}
use Rattle.line_device.proofs.PanelLemmas.{runs-refl, runs_then}
use Rattle.word_log.proofs.HomeLemmas.{line_more, home_line}
use Rattle.word_log.proofs.home_words.load_home.Goals as goal

pub returns-in_err-reserve-clause-lines : goal.returns-in_err-reserve-clause-lines
returns-in_err-reserve-clause-lines g c = write_back-refl _

pub loop-k-init : goal.loop-k-init
loop-k-init g c = record { all = ap length (c.in_ok-reserve.ensures.items ∙ c.new-words.ensures); each = λ j below. absurd (omega (arith, below)); lines = write_back-refl _; runs = runs-refl _ }

pub load_words-requires-clause-healthy : goal.load_words-requires-clause-healthy
load_words-requires-clause-healthy g c =
    is_healthy-write_back (g.L.Lines.state c.args.dev.now).medium (g.L.Lines.state c.loop-k.dev).medium _ c.loop-k.invariant.lines
    (home_line c.args.area (g.L.Lines.state c.args.dev.now).medium c.loop-k.k c.requires.readable.fits c.requires.readable.whole c.requires.line (omega (arith, c.loop-k-test.true, c.div_ceil-k-end.ensures)))

pub returns-in_err-eight-clause-lines : goal.returns-in_err-eight-clause-lines
returns-in_err-eight-clause-lines g c = write_back-trans _ _ _ c.loop-k.invariant.lines c.in_err-eight.ensures.lines

pub returns-in_err-extend-clause-lines : goal.returns-in_err-extend-clause-lines
returns-in_err-extend-clause-lines g c = write_back-trans _ _ _ c.loop-k.invariant.lines c.in_ok-eight.ensures.lines

pub loop-k-preserved : goal.loop-k-preserved
loop-k-preserved g c =
    let old : ℕ → ℕ = last_image (g.L.Lines.state c.args.dev.now).medium in
    let now = (g.L.Lines.state c.loop-k.dev).medium in
    let home : ℕ = c.args.area.home.start in
    let k = c.loop-k.k in
    let eight = c.in_ok-eight.eight in
    let more = line_more (λ j. old (home + j)) k c.loop-k.words.items eight c.loop-k.invariant.all c.loop-k.invariant.each c.in_ok-eight.ensures.size (λ w below.
    let at : 8 * (home / 8 + k) + w ≡ home + (8 * k + w) = omega (arith, c.requires.line) in
    c.in_ok-eight.ensures.words w below ∙ newest-write_back _ now c.loop-k.invariant.lines _ ∙ ap old at) in
    record {
      all = ap length c.in_ok-extend.ensures.ok ∙ more.0;
      each = λ j below. ap (λ ws. get_or ws j 0) c.in_ok-extend.ensures.ok ∙ more.1 j below;
      lines = write_back-trans _ _ _ c.loop-k.invariant.lines c.in_ok-eight.ensures.lines;
      runs = runs_then _ _ 1 0 _ _ _ _ c.loop-k.invariant.runs c.in_ok-eight.ensures.runs;
    }
