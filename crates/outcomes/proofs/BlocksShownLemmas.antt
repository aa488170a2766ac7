-- What may be shown of blocks is left by some cut.
use Rattle.std.proofs.Common.{◌≡◌, inl, inr, ℕ, true, Option, Some, None, option_map, List, [], ◌∷◌, map, refl, sym, ap, ◌∙◌}
use Rattle.std.specs.List.{list_all}
use Rattle.std.proofs.lemmas.Bool.{and_parts}
use Rattle.word_tables.specs.declared.geometry.Geometry.{Geometry}
use Rattle.nvm_model.specs.Blocks.{Obstacle, first_obstacle, first_there}
use Rattle.nvm_model.specs.Page.{Page}
use Rattle.nvm_model.specs.Storage.{Block, File}
use Rattle.block_device.specs.Refusals.Refusal.{Unreadable}
use Rattle.reply_text.specs.Answer.Answer.{Refused}
use Rattle.reply_text.specs.declared.reply.Why.{Why}
use Rattle.script_text.specs.Action.Action.{BRead}
use Rattle.machine_model.specs.Machine.{Machine}
use Rattle.machine_model.specs.Commands.{MayLeaveBlocks, refusal}
use Rattle.machine_model.specs.Meaning.{most_refusal}
use Rattle.machine_model.specs.OnBlocks.{refusal_answer}
use Rattle.machine_model.specs.Restarting.{holding}
use Rattle.outcomes.specs.Blocks.{BlockRead, all_numbers_read, block_fits, is_block_reply}
use Rattle.outcomes.specs.Left.{blocks_may_pass}
use Rattle.outcomes.specs.Outcome.{AllShown, BlocksOutcome, Shown}
use Rattle.outcomes.specs.Seen.{block_answer, blocks_may_show}
use Rattle.outcomes.specs.Seen.Seen.{of_blocks}
use Rattle.outcomes.proofs.AmongLemmas.{IsAmong, all_of}
use Rattle.outcomes.proofs.BlockLemmas.{obstacle_answer}
use Rattle.outcomes.proofs.BlockTellLemmas.{IsRead, Leaves, Matches, blocks_left, is_read}

module _ (geo : Geometry) (blocks : List Block) (volume : List Page) (files : List File) where
  read_refusal : (first count : ℕ) → refusal (holding geo blocks volume files) (BRead first count)
      ≡ first_there (option_map Refused (most_refusal 128 geo.blocks first count)) (option_map (λ o. refusal_answer (Unreadable o)) (first_obstacle blocks first count))
  unfolding refusal
  read_refusal first count = refl

  shown_by : (r : BlockRead) → IsRead geo.blocks blocks r → Shown (holding geo blocks volume files) (of_blocks r)
  shown_by r read = by_both read.why read.obstacle read.refusal read.kept read.matches
    where
      told : (o : Option Why) (x : Option Obstacle) → most_refusal 128 geo.blocks r.first r.count ≡ o → first_obstacle blocks r.first r.count ≡ x
          → refusal (holding geo blocks volume files) (BRead r.first r.count) ≡ first_there (option_map Refused o) (option_map (λ k. refusal_answer (Unreadable k)) x)
      told o x why kept =
          read_refusal r.first r.count
          ∙ ap (λ w. first_there (option_map Refused w) (option_map (λ k. refusal_answer (Unreadable k)) (first_obstacle blocks r.first r.count))) why
          ∙ ap (λ k. first_there (option_map Refused o) (option_map (λ j. refusal_answer (Unreadable j)) k)) kept

      by_both : (o : Option Why) (x : Option Obstacle) → most_refusal 128 geo.blocks r.first r.count ≡ o → first_obstacle blocks r.first r.count ≡ x → Matches blocks r o x
          → Shown (holding geo blocks volume files) (of_blocks r)
      by_both (Some w) x why kept is = inl (told (Some w) x why kept ∙ ap (λ reply. Some (block_answer reply)) (sym is))
      by_both None (Some k) why kept is = inl (told None (Some k) why kept ∙ ap Some (obstacle_answer k) ∙ ap (λ reply. Some (block_answer reply)) (sym is))
      by_both None None why kept is = inr (told None None why kept, ap block_answer is)

  all_shown_by : (reads : List BlockRead) → ((r : BlockRead) → IsAmong r reads → IsRead geo.blocks blocks r) → AllShown (holding geo blocks volume files) (map of_blocks reads)
  all_shown_by [] each = tt
  all_shown_by (r ∷ reads) each = (shown_by r (each r (inl refl)), all_shown_by reads (λ x among. each x (inr among)))

pub blocks_found : (off : Machine) (reads : List BlockRead) → blocks_may_show off reads ≡ true → BlocksOutcome off reads
blocks_found off reads shows =
    let parts = and_parts (list_all (is_block_reply off.geometry.blocks) reads) (blocks_may_pass off.interrupted (block_fits reads) off.blocks (all_numbers_read reads)) shows in
    let found : Leaves reads (all_numbers_read reads) (MayLeaveBlocks off.interrupted off.blocks) = blocks_left reads (all_numbers_read reads) off.interrupted off.blocks parts.1 in
    record {
      left = found.left;
      may = found.may;
      shown = λ volume files. all_shown_by off.geometry found.left volume files reads (λ r among.
          is_read reads found.left found.fit off.geometry.blocks r among (all_of (is_block_reply off.geometry.blocks) r reads parts.0 among));
    }
