use Rattle.std.proofs.Common.{map, sym, ◌∙◌, ap}
use Rattle.pm_volume.specs.Presence.{presence_word}
use Rattle.pm_volume.proofs.TableLemmas.{no_answer, presence_of_words}
use Rattle.pm_volume.proofs.mounting.read_presence.Goals as goal

pub returns-clause-ok : goal.returns-clause-ok
returns-clause-ok c =
    ap (map presence_word) c.in_ok-present.ensures ∙ presence_of_words c.args.words.now (sym c.first_wrong.ensures.page ∙ no_answer c.first_wrong.result c.in_default.not-Some)
