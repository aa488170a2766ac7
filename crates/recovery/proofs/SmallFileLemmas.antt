-- The files' tables of the smallest device.
use Rattle.std.proofs.Common.{◌≡◌, ◌≢◌, ◌+◌, ◌<◌, ◌≤◌, ℕ, Some, None, get_or, if◌then◌else◌, ◌∙◌, ap, arith}
use Rattle.std.proofs.lemmas.Bool.{ne_eqb}
use Rattle.std.proofs.lemmas.List.{get_or_past}
use Rattle.word_tables.specs.Layout.{first_line}
use Rattle.word_tables.specs.Superblock.{superblock_word, superblock_words}
use Rattle.file_journal.specs.Reading.{words_read, wrong_table}
use Rattle.recovery.specs.Examples.{smallest, superblock_but}
use Rattle.recovery.proofs.ZeroFileLemmas.{first_inode_found, first_page_found, words_all, words_at, zero_tables}

-- a superblock ends with its line
pub behind_superblock : (p : ℕ) → 8 ≤ p → superblock_word smallest p ≡ 0
behind_superblock p from = get_or_past (superblock_words smallest) p 0 from

pub beside_word : (at value p : ℕ) → 8 ≤ p → p ≢ at → superblock_but at value p ≡ 0
beside_word at value p from other = ap (λ b. if b then value else superblock_word smallest p) (ne_eqb p at other) ∙ behind_superblock p from

module _ (word : ℕ → ℕ) (closed : word 680 ≡ 0) where
  here : (k : ℕ) → k < 16896 → get_or (words_read smallest word) k 0 ≡ word (1232 + k)
  unfolding first_line
  here k below = words_at smallest word closed k below

  pub nothing_wrong : ((p : ℕ) → 8 ≤ p → word p ≡ 0) → wrong_table smallest (words_read smallest word) ≡ None
  nothing_wrong zeros =
      zero_tables smallest (words_read smallest word) (words_all smallest word) (λ k below. here k (omega arith) ∙ zeros (1232 + k) (omega arith))
      (λ k from below. here k below ∙ zeros (1232 + k) (omega arith))

  pub inode_wrong : word 1232 ≡ 1 → ((p : ℕ) → 8 ≤ p → p ≢ 1232 → word p ≡ 0) → wrong_table smallest (words_read smallest word) ≡ Some 1233
  unfolding first_line
  inode_wrong first zeros =
      first_inode_found smallest (words_read smallest word) (words_all smallest word) (here 0 (omega arith) ∙ first)
      (λ k from small. here k (omega arith) ∙ zeros (1232 + k) (omega arith) (λ is. omega (arith, is, from)))

  pub page_wrong : word 1744 ≡ 1 → ((p : ℕ) → 8 ≤ p → p ≢ 1744 → word p ≡ 0) → wrong_table smallest (words_read smallest word) ≡ Some 1744
  unfolding first_line
  page_wrong first zeros =
      first_page_found smallest (words_read smallest word) (words_all smallest word)
      (λ k below. here k (omega arith) ∙ zeros (1232 + k) (omega arith) (λ is. omega (arith, is, below)))
      0 (here 512 (omega arith) ∙ first)
