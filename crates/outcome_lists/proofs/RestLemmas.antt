-- A state at rest shows reads of several parts where it shows each of them alone.
use Rattle.std.proofs.Common.{◌≡◌, ◌*◌, ◌&&◌, Bool, true, false, None, List, [], ◌∷◌, map, refl, sym, ap, subst, ◌∙◌}
use Rattle.std.specs.List.{AllByRecursion, list_all}
use Rattle.std.proofs.lemmas.List.Folds.{list_all-map}
use Rattle.explorer.specs.MachineModel.Machine.{Machine}
use Rattle.explorer.specs.Outcomes.Blocks.{all_numbers_read, block_fits, is_block_reply}
use Rattle.explorer.specs.Outcomes.Left.{blocks_may_pass, volume_may_pass}
use Rattle.explorer.specs.Outcomes.Pages.{all_lines_read, is_reply, line_fits}
use Rattle.explorer.specs.Outcomes.Seen.{Seen, block_reads, file_reads, may_show, volume_reads}
use Rattle.explorer.specs.Outcomes.Seen.Seen.{of_blocks, of_file, of_volume}
use Rattle.explorer.specs.ValueTables.Listed.{IsSound}
use Rattle.outcome_lists.specs.Apart.{AreThere}
use Rattle.outcome_lists.specs.ApartBlocks.{shows_block}
use Rattle.outcome_lists.specs.ApartFiles.{shows_word}
use Rattle.outcome_lists.specs.Choices.{Choice}
use Rattle.outcome_lists.specs.Outcomes.{and_seen, look_of, nothing}
use Rattle.outcome_lists.specs.Parts.{AreInOrder, AreParts}
use Rattle.outcome_lists.specs.Together.{EachAtRest}
use Rattle.outcome_lists.proofs.ApartLemmas.{all_both}
use Rattle.outcome_lists.proofs.ApartBlocksLemmas.{all_same, blocks_pass_apart}
use Rattle.outcome_lists.proofs.ApartFilesLemmas.{files_pass_apart}
use Rattle.outcome_lists.proofs.GroupLemmas.{each_alone}
use Rattle.outcome_lists.proofs.KindLemmas.{are_blocks, are_file_words, are_inside, are_words}
use Rattle.outcome_lists.proofs.PickedLemmas.{IsTold, all_seen, part_of, picked, shown_as_seen}
use Rattle.outcome_lists.proofs.SplitLemmas.{both_same, by_kinds, three_same}

-- one read alone
abbrev pub shown_alone : Machine → Seen → Bool
shown_alone m s = may_show (look_of (and_seen nothing s)) m

-- and what it asks of a state at rest
abbrev pub alone_at : Machine → Seen → Bool
alone_at m (of_volume r) = is_reply (4096 * m.geometry.vpages) r && volume_may_pass m.geometry None (line_fits (r ∷ [])) m.volume (all_lines_read (r ∷ []))
alone_at m (of_blocks r) = is_block_reply m.geometry.blocks r && shows_block m.blocks r
alone_at m (of_file r) = shows_word m.files r

trimmed : (a b : Bool) → (((a && true) && b) && true) ≡ (a && b)
trimmed true true = refl
trimmed true false = refl
trimmed false b = refl

-- a state at rest shows what it would show with nothing interrupted
at_rest : (m : Machine) → m.interrupted ≡ None → (look : List Seen) → may_show look m ≡ may_show look (record m { interrupted = None })
at_rest m rests look = ap (λ o. may_show look (record m { interrupted = o })) rests

pub alone_is : (m : Machine) → m.interrupted ≡ None → (s : Seen) → shown_alone m s ≡ alone_at m s
alone_is m rests s = at_rest m rests (look_of (and_seen nothing s)) ∙ by_kind s
  where
    by_kind : (s : Seen) → shown_alone (record m { interrupted = None }) s ≡ alone_at m s
    by_kind (of_volume r) = trimmed (is_reply (4096 * m.geometry.vpages) r) (volume_may_pass m.geometry None (line_fits (r ∷ [])) m.volume (all_lines_read (r ∷ [])))
    by_kind (of_blocks r) = trimmed (is_block_reply m.geometry.blocks r) (shows_block m.blocks r)
    by_kind (of_file r) = refl

-- Reads of parts in order, in a sound state.
module _ (h : Machine) (sound : IsSound h) (ss : List Seen) (are : AreParts h.geometry (map part_of ss)) (order : AreInOrder (map part_of ss))
    (told : AllByRecursion IsTold ss) where
  -- their lines are there
  pub lines_there : AreThere h.volume (volume_reads ss)
  lines_there = record { inside = are_inside h.geometry h.volume sound.counted.pages ss are; words = sound.words }

  -- each kind with nothing interrupted
  words_rest : (list_all (is_reply (4096 * h.geometry.vpages)) (volume_reads ss)
      && volume_may_pass h.geometry None (line_fits (volume_reads ss)) h.volume (all_lines_read (volume_reads ss)))
      ≡ list_all (λ r. alone_at h (of_volume r)) (volume_reads ss)
  words_rest =
      both_same refl (each_alone h.geometry (volume_reads ss) h.volume (are_words h.geometry ss are order told) lines_there)
      ∙ sym (all_both (is_reply (4096 * h.geometry.vpages)) (λ r. volume_may_pass h.geometry None (line_fits (r ∷ [])) h.volume (all_lines_read (r ∷ []))) (volume_reads ss))

  blocks_rest : (list_all (is_block_reply h.geometry.blocks) (block_reads ss) && blocks_may_pass None (block_fits (block_reads ss)) h.blocks (all_numbers_read (block_reads ss)))
      ≡ list_all (λ r. alone_at h (of_blocks r)) (block_reads ss)
  blocks_rest =
      both_same refl (blocks_pass_apart (block_reads ss) (are_blocks h.geometry ss are told) None h.blocks)
      ∙ sym (all_both (is_block_reply h.geometry.blocks) (shows_block h.blocks) (block_reads ss))

  reads_rest : h.interrupted ≡ None → may_show ss h ≡ list_all (shown_alone h) ss
  reads_rest rests =
      at_rest h rests ss
      ∙ three_same words_rest blocks_rest
      (files_pass_apart (file_reads ss) (are_file_words h.geometry ss are order told) h.files sound.file_lines sound.file_values h.mappings None)
      ∙ sym (by_kinds (alone_at h) ss)
      ∙ all_same (alone_at h) (shown_alone h) ss (λ s is. sym (alone_is h rests s))

-- so it shows picked choices where it shows each
pub each_at_rest : EachAtRest
each_at_rest hs parts cs h ready sound are order picks =
    let of = picked hs h.geometry parts cs are picks in
    shown_as_seen cs h
    ∙ reads_rest h sound (all_seen cs) (subst (AreParts h.geometry) (sym of.0) are) (subst AreInOrder (sym of.0) order) of.1 ready.settled
    ∙ list_all-map (shown_alone h) (λ (c : Choice). c.seen) cs
