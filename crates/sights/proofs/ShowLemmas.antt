-- Whether lines and blocks may be as a question asks, as the laws have it and as they are looked at.
use Rattle.std.proofs.Common.{◌≡◌, ℕ, ◌-◌, ◌*◌, ◌%◌, ◌==◌, ◌&&◌, ◌||◌, nat_lt, Bool, cond, not, Option, Some, None, is_none, option_map, List, [], ◌∷◌, position, slice_index, refl, sym, ap, ◌∙◌, arith}
use Rattle.std.specs.List.{list_all, range_with_len}
use Rattle.nvm_model.specs.Blocks.{block_byte, nth, obstacle_in}
use Rattle.nvm_model.specs.Blocks.Obstacle.{bad_line}
use Rattle.nvm_model.specs.Cell.{Cell}
use Rattle.nvm_model.specs.Numbered.{is_among}
use Rattle.nvm_model.specs.Page.{Page, cell_of}
use Rattle.nvm_model.specs.Storage.{Block}
use Rattle.nvm_model.specs.Storage.Block.{Absent, Data, Scarred}
use Rattle.block_sights.specs.Sights.{Sight, obstacle_seen, sight, sight_of_lines}
use Rattle.block_sights.specs.Sights.Sight.{Whole, Scar, BadLine}
use Rattle.block_sights.proofs.SeenLemmas.{seen_bytes}
use Rattle.asked_reads.specs.Outcomes.Blocks.{BlockRead, BlockReply, allows, block_fits, has_bytes, is_bad_line, is_scar}
use Rattle.asked_reads.specs.Outcomes.Blocks.BlockReply.{Shows, Scar as AsksScar, BadLine as AsksBadLine, Refuses}
use Rattle.asked_reads.specs.Outcomes.Pages.{PageRead, line_fits}
use Rattle.asked_reads.specs.declared.question.Question.{Question}
use Rattle.sights.specs.declared.line_seen.LineSeen.{LineSeen}
use Rattle.sights.specs.declared.block_seen.BlockSeen.{BlockSeen}
use Rattle.asked_reads.specs.Asking.{blocks_of, volume_asked}
use Rattle.asked_reads.specs.Fitting.{cell_fits, sight_allows, sight_fits, sight_has}
use Rattle.sights.specs.Seeing.{or_zeros, seen}
use Rattle.sights.specs.Units.{AreBlocks, AreLines, block_may_fit, line_may_fit}
use Rattle.sights.proofs.PassLemmas.{EachUnit}

-- an absent line fits as one of zeros does
pub fits_seen : (reads : List PageRead) (n : ℕ) (o : Option Cell) → line_fits reads n o ≡ cell_fits reads n (or_zeros o)
fits_seen reads n None = refl
fits_seen reads n (Some cell) = refl

pub lines_now : (q : Question) (pages : List Page) (lines : List LineSeen) → AreLines (seen pages) lines
    → EachUnit (λ (s : LineSeen). line_fits (volume_asked q) s.number (cell_of pages s.number) ≡ line_may_fit q s) lines
lines_now q pages [] are = tt
lines_now q pages (s ∷ lines) are =
    (fits_seen (volume_asked q) s.number (cell_of pages s.number) ∙ ap (cell_fits (volume_asked q) s.number) (sym are.0), lines_now q pages lines are.1)

pub tests_same : {A : Type 0} (f g : A → Bool) (xs : List A) → ((x : A) → f x ≡ g x) → list_all f xs ≡ list_all g xs
tests_same f g [] same = refl
tests_same f g (x ∷ xs) same = ap (λ b. b && list_all f xs) (same x) ∙ ap (λ b. g x && b) (tests_same f g xs same)

obstacle_is : (b : ℕ) (block : Block) → obstacle_in b block ≡ obstacle_seen b (sight block)
obstacle_is b Absent = refl
obstacle_is b Scarred = refl
obstacle_is b (Data lines) = by_bad (position is_none lines)
  where
    by_bad : (o : Option ℕ) → option_map (bad_line b) o ≡ obstacle_seen b (sight_of_lines lines o)
    by_bad None = refl
    by_bad (Some k) = refl

module _ (b : ℕ) (block : Block) where
  bytes_same : (first : ℕ) (bytes : List ℕ) (o : Sight) → sight block ≡ o → (is_none (obstacle_seen b o) && has_bytes first bytes b block) ≡ sight_has first bytes b o
  bytes_same first bytes (Whole whole) is =
      tests_same (λ i. slice_index bytes (i - 512 * first) == block_byte block (i % 512)) (λ i. slice_index bytes (i - 512 * first) == slice_index whole (i % 512))
      (range_with_len (512 * b) 512) (λ i. ap (λ v. slice_index bytes (i - 512 * first) == v) (seen_bytes block whole (i % 512) is (omega arith)))
  bytes_same first bytes Scar is = refl
  bytes_same first bytes (BadLine k) is = refl

  reply_same : (first : ℕ) (reply : BlockReply) → allows b block first reply ≡ sight_allows b (sight block) first reply
  reply_same first (Shows bytes) = ap (λ o. is_none o && has_bytes first bytes b block) (obstacle_is b block) ∙ bytes_same first bytes (sight block) refl
  reply_same first (AsksScar named) =
      ap (λ o. cond (nat_lt b named) (is_none o) (not (b == named) || is_scar o)) (obstacle_is b block)
  reply_same first (AsksBadLine named line) =
      ap (λ o. cond (nat_lt b named) (is_none o) (not (b == named) || is_bad_line line o)) (obstacle_is b block)
  reply_same first (Refuses why) = refl

  pub block_seen : (reads : List BlockRead) → block_fits reads b block ≡ sight_fits reads b (sight block)
  block_seen reads =
      tests_same (λ (r : BlockRead). not (is_among r.first r.count b) || allows b block r.first r.reply)
      (λ (r : BlockRead). not (is_among r.first r.count b) || sight_allows b (sight block) r.first r.reply) reads
      (λ r. ap (λ t. not (is_among r.first r.count b) || t) (reply_same r.first r.reply))

pub blocks_now : (q : Question) (blocks : List Block) (units : List BlockSeen) → AreBlocks (λ b. sight (nth blocks b)) units
    → EachUnit (λ (s : BlockSeen). block_fits (blocks_of q) s.number (nth blocks s.number) ≡ block_may_fit q s) units
blocks_now q blocks [] are = tt
blocks_now q blocks (s ∷ units) are =
    (block_seen s.number (nth blocks s.number) (blocks_of q) ∙ ap (sight_fits (blocks_of q) s.number) (sym are.0), blocks_now q blocks units are.1)
