-- Whether a line, or a block as reads see it, may be read as is asked.
use Rattle.std.specs.Prelude.{◌≡◌, ◌+◌, ◌-◌, ◌*◌, ◌%◌, ◌==◌, ◌||◌, ℕ, Bool, true, false, not, [], Some, List, is_none, nat_lt, slice_index, slice_index_or, if◌then◌else◌}
use Rattle.std.specs.List.{list_all, list_any, range_with_len}
use Rattle.nvm_model.specs.Cell.{Cell}
use Rattle.nvm_model.specs.Cell.Cell.{Bad, Kept}
use Rattle.nvm_model.specs.Numbered.{is_among}
use Rattle.block_sights.specs.Sights.{Sight, obstacle_seen}
use Rattle.block_sights.specs.Sights.Sight.{Whole, Scar, BadLine}
use Rattle.outcomes.specs.Blocks.{BlockRead, BlockReply, is_bad_line, is_scar}
use Rattle.outcomes.specs.Blocks.BlockReply.{Shows, Scar as AsksScar, BadLine as AsksBadLine, Refuses}
use Rattle.outcomes.specs.Pages.{PageRead, all_agree, line_fits, words_fit}

-- it may be read so once the power is back
abbrev pub cell_fits : List PageRead → ℕ → Cell → Bool
cell_fits reads n cell = line_fits reads n (Some cell)

-- so may word w of a line that is not bad, or all its words
abbrev pub WordFits : List PageRead → ℕ → ℕ → Cell → Bool → Type 0
WordFits reads n w Bad fits = Unit {0}
WordFits reads n w (Kept weak words) fits = fits ≡ list_any (all_agree reads (8 * n + w)) (slice_index_or words w [])

abbrev pub WordsFit : List PageRead → ℕ → Cell → Bool → Type 0
WordsFit reads n Bad fits = Unit {0}
WordsFit reads n (Kept weak words) fits = fits ≡ words_fit reads n words

-- a block that is seen so has these of the bytes of a read, which begins at that one
abbrev pub sight_has : ℕ → List ℕ → ℕ → Sight → Bool
sight_has first bytes b (Whole block) = list_all (λ i. slice_index bytes (i - 512 * first) == slice_index block (i % 512)) (range_with_len (512 * b) 512)
sight_has first bytes b Scar = false
sight_has first bytes b (BadLine line) = false

-- block b may be seen so where a read of it is answered so
abbrev pub sight_allows : ℕ → Sight → ℕ → BlockReply → Bool
sight_allows b sight first (Shows bytes) = sight_has first bytes b sight
sight_allows b sight first (AsksScar named) =
    if nat_lt b named then is_none (obstacle_seen b sight) else (not (b == named) || is_scar (obstacle_seen b sight))
sight_allows b sight first (AsksBadLine named line) =
    if nat_lt b named then is_none (obstacle_seen b sight) else (not (b == named) || is_bad_line line (obstacle_seen b sight))
sight_allows b sight first (Refuses why) = true

abbrev pub sight_fits : List BlockRead → ℕ → Sight → Bool
sight_fits reads b sight = list_all (λ (r : BlockRead). not (is_among r.first r.count b) || sight_allows b sight r.first r.reply) reads
