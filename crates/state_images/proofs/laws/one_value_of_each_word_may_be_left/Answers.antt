use Rattle.state_images.proofs.laws.one_value_of_each_word_may_be_left.Goals as goal
use Rattle.state_images.proofs.KeepLemmas.{image-keeps-files, image-keeps-pages}

pub returns-clause-pages : goal.returns-clause-pages
returns-clause-pages c = image-keeps-pages

pub returns-clause-files : goal.returns-clause-files
returns-clause-files c = image-keeps-files
