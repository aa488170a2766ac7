use Rattle.std.proofs.Common.{◌≡◌, length}
use Rattle.script_text.specs.Script.{words_of}
use Rattle.questions.specs.Parts.{after_bar}
use Rattle.questions.proofs.parts.after_bar.Given as goal

abbrev pub invariant-loop-word : goal.invariant-loop-word
invariant-loop-word l = after_bar (words_of l.text) ≡ after_bar (words_of l.rest)

abbrev pub decreases-loop-word : goal.decreases-loop-word
decreases-loop-word l = length (words_of l.rest)
