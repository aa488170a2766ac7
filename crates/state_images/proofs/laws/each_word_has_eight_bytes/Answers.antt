use Rattle.state_images.proofs.laws.each_word_has_eight_bytes.Goals as goal
use Rattle.state_images.proofs.FitLemmas.{every-word-fits}

pub returns : goal.returns
returns c = every-word-fits
