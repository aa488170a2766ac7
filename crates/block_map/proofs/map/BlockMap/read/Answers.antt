use Rattle.std.proofs.Common.{map, ◌∙◌, ap, sym, subst}
use Rattle.block_map.specs.States.{IsMap, word_of}
use Rattle.block_map.proofs.MapLemmas.{is_map, words_of_states}
use Rattle.block_map.proofs.map.BlockMap.read.Goals as goal

pub invariant_of-result : goal.invariant_of-result
invariant_of-result c = rw c.in_ok-states.ensures (is_map c.args.words.now c.in_ok-check.ensures.ok)

pub returns-clause-words : goal.returns-clause-words
returns-clause-words c = ap (map word_of) c.in_ok-states.ensures ∙ words_of_states c.args.words.now

pub returns-clause-map : goal.returns-clause-map
returns-clause-map c = subst IsMap (sym c.in_ok-states.ensures) (is_map c.args.words.now c.in_ok-check.ensures.ok)
