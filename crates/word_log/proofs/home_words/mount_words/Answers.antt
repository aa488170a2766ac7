use Rattle.line_device.specs.Medium.{last_image}
use Rattle.word_log.specs.Replay.{replayed}
use Rattle.word_log.proofs.HomeLemmas.{words_at_rest}
use Rattle.word_log.proofs.LeavesLemmas.{leaves-then}
use Rattle.word_log.proofs.PhaseLemmas.{rest-write_back}
use Rattle.word_log.proofs.home_words.mount_words.Goals as goal

pub returns-in_err-words-clause-leaves : goal.returns-in_err-words-clause-leaves
returns-in_err-words-clause-leaves g c = leaves-then c.args.area _ _ _ c.in_ok-log.ensures.leaves c.in_err-words.ensures.lines

pub returns-clause-words : goal.returns-clause-words
returns-clause-words g c =
    let old = (g.L.Lines.state c.args.dev.now).medium in
    let now = (g.L.Lines.state c.mount.new.dev).medium in
    words_at_rest c.args.area old now (replayed c.args.area (last_image old)) _ c.requires.fits c.in_ok-log.ensures.finds.0 c.in_ok-log.ensures.leaves.outside (g.met.L.Lines.sound c.mount.new.dev) c.in_ok-log.ensures.ok c.in_ok-words.ensures.words

pub returns-clause-rest : goal.returns-clause-rest
returns-clause-rest g c = rest-write_back c.args.area _ _ _ c.in_ok-log.ensures.ok c.in_ok-words.ensures.lines

pub returns-clause-leaves : goal.returns-clause-leaves
returns-clause-leaves g c = leaves-then c.args.area _ _ _ c.in_ok-log.ensures.leaves c.in_ok-words.ensures.lines
