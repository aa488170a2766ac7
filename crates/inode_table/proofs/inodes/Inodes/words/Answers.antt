use Rattle.std.proofs.Common.{ap, ◌∙◌, ◌+◌, [], ◌∷◌, get_or}
use Rattle.inode_table.specs.Words.{slot_of}
use Rattle.inode_table.proofs.NameWordLemmas.{slot_of-words}
use Rattle.inode_table.proofs.inodes.Inodes.words.Goals as goal

pub returns-clause-inverse : goal.returns-clause-inverse
returns-clause-inverse c =
    ap (λ ws. slot_of ((c.args.pages + 1) ∷ get_or ws 0 0 ∷ get_or ws 1 0 ∷ get_or ws 2 0 ∷ get_or ws 3 0 ∷ [])) c.words_of.ensures.words
    ∙ slot_of-words (record { name = c.args.name.now; pages = c.args.pages }) c.words_of.ensures.name
