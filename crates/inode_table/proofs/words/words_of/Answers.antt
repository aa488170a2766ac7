use Rattle.std.proofs.Common.{ap, ◌∙◌, ◌≡◌, ◌<◌, ◌*◌, ℕ, drop, get_or, length, arith}
use Rattle.byteorder.specs.Endian.{little_number}
use Rattle.nvm_base.specs.Names.{padded}
use Rattle.inode_table.specs.Words.{bytes_in}
use Rattle.inode_table.proofs.NameWordLemmas.{bytes_in-name, read_words}
use Rattle.inode_table.proofs.words.words_of.Goals as goal

pub returns-clause-words : goal.returns-clause-words
returns-clause-words c =
    let size : length c.read_u64_into.new.dst ≡ 4 = omega arith in
    let reads : (k : ℕ) → k < 4 → get_or c.read_u64_into.new.dst k 0 ≡ little_number 8 (drop (8 * k) (padded c.args.name.now)) =
    λ k low. c.read_u64_into.ensures k (omega arith) ∙ ap (λ bytes. little_number 8 (drop (8 * k) bytes)) c.padded-bytes.ensures.bytes in
    read_words c.args.name.now c.read_u64_into.new.dst size reads

pub returns-clause-bytes : goal.returns-clause-bytes
returns-clause-bytes c = ap bytes_in (returns-clause-words c) ∙ bytes_in-name c.args.name.now c.bytes-is_name.ensures.name
