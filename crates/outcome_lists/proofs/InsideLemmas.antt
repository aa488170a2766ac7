-- A state inside a command shows reads of several parts where each group of them is shown as it was, or as the command makes it.
use Rattle.std.proofs.Common.{◌≡◌, ◌*◌, ◌&&◌, Bool, Option, Some, None, List, [], ◌∷◌, map, refl, sym, ap, subst, ◌∙◌}
use Rattle.std.specs.List.{AllByRecursion}
use Rattle.word_tables.specs.declared.geometry.Geometry.{Geometry}
use Rattle.nvm_model.specs.Page.{Page}
use Rattle.nvm_model.specs.Storage.{Block, File, Mapping}
use Rattle.script_text.specs.Action.{Action}
use Rattle.script_text.specs.Action.Action.{PoisonBlock, PoisonFile, PoisonVolume, WeakenFile, WeakenVolume}
use Rattle.explorer.specs.MachineModel.Machine.{Machine}
use Rattle.explorer.specs.MachineModel.Commands.{meaning, while_interrupted}
use Rattle.explorer.proofs.Durable.StepKinds.{Alters, blocks_after, files_made, volume_after}
use Rattle.explorer.specs.Outcomes.Blocks.{BlockRead, is_block_reply}
use Rattle.explorer.specs.Outcomes.Files.{FileRead}
use Rattle.explorer.specs.Outcomes.Left.{volume_may_pass}
use Rattle.explorer.specs.Outcomes.Pages.{PageRead, all_lines_read, is_reply, line_fits}
use Rattle.explorer.specs.Outcomes.Seen.{Seen, block_reads, blocks_may_show, file_reads, files_may_show, may_show, volume_may_show, volume_reads}
use Rattle.explorer.specs.Outcomes.Seen.Seen.{of_blocks, of_file, of_volume}
use Rattle.explorer.specs.AskedReads.declared.read.Read.{Read}
use Rattle.explorer.specs.SightsSeen.Ways.{blocks_way, lines_way}
use Rattle.explorer.specs.SightsSeen.declared.way.Way.{Way}
use Rattle.explorer.specs.CutPlaces.FileMixing.{way_left}
use Rattle.explorer.specs.ValueTables.Listed.{IsSound}
use Rattle.explorer.proofs.Witnesses.ListLemmas.{IsAmong}
use Rattle.outcome_lists.specs.Apart.{IsWordRead, fits_alone, grouped}
use Rattle.outcome_lists.specs.ApartBlocks.{shows_block}
use Rattle.outcome_lists.specs.ApartFiles.{shows_word}
use Rattle.outcome_lists.specs.Choices.{Choice}
use Rattle.outcome_lists.specs.Levels.{shows_alone}
use Rattle.outcome_lists.specs.Mixing.{way_of, ways_inside}
use Rattle.outcome_lists.specs.Parts.{AreInOrder, AreParts}
use Rattle.outcome_lists.specs.Together.{GroupsInside, goes_by, goes_with, new_by, paired}
use Rattle.outcome_lists.proofs.ApartBlocksLemmas.{blocks_pass_apart}
use Rattle.outcome_lists.proofs.ApartFilesLemmas.{files_pass_apart}
use Rattle.outcome_lists.proofs.GoingLemmas.{goes_itself}
use Rattle.outcome_lists.proofs.GroupLemmas.{each_of, groups_apart, one_alone}
use Rattle.outcome_lists.proofs.KindLemmas.{are_blocks, are_file_words, are_words}
use Rattle.outcome_lists.proofs.LeftGroupLemmas.{blocks_in_groups, blocks_way_is, file_words_in_groups, goes_beside, lines_way_is, words_in_groups}
use Rattle.outcome_lists.proofs.PickedLemmas.{IsTold, all_seen, part_of, picked, shown_as_seen}
use Rattle.outcome_lists.proofs.RestLemmas.{alone_at, alone_is, lines_there, shown_alone}
use Rattle.outcome_lists.proofs.SplitLemmas.{both_same, grouped_alike, grouped_both, grouped_by_kinds, grouped_map, three_same}
use Rattle.outcome_lists.proofs.WayLemmas.{works_so}

-- where old and new are mixed, the new is what the command means
words_made : (geo : Geometry) (action : Action) (pages : List Page) (w : Way) → lines_way action ≡ Some w → volume_after geo action pages ≡ (meaning action).volume geo pages
words_made geo (PoisonVolume offset) pages w is = cc is
words_made geo (WeakenVolume offset) pages w is = cc is
words_made geo action pages w is = refl

blocks_made : (action : Action) (blocks : List Block) (w : Way) → blocks_way action ≡ Some w → blocks_after action blocks ≡ (meaning action).blocks blocks
blocks_made (PoisonBlock block line) blocks w is = cc is
blocks_made action blocks w is = refl

file_words_made : (mappings : List Mapping) (action : Action) (files : List File) (w : Way) → way_left ((meaning action).files_left mappings) ≡ Some w
    → files_made mappings action files ≡ (meaning action).files mappings files
file_words_made mappings (PoisonFile name offset) files w is = cc is
file_words_made mappings (WeakenFile name offset) files w is = cc is
file_words_made mappings action files w is = refl

module _ (h to : Machine) (action : Action) where
  -- two reads go together
  abbrev goes : Seen → Seen → Bool
  goes s t = goes_with (ways_inside h.mappings action) (part_of s) (part_of t)

  -- the state that has the new of a read
  abbrev new_of : Seen → Machine
  new_of s = new_by (way_of (ways_inside h.mappings action) (part_of s)) h to

  module _ (rests : h.interrupted ≡ None) (sound : IsSound h) (made : Alters h action to) where
    new_rests : (way : Option Way) → (new_by way h to).interrupted ≡ None
    new_rests None = rests
    new_rests (Some w) = made.interrupted ∙ rests

    module _ (ss : List Seen) (are : AreParts h.geometry (map part_of ss)) (order : AreInOrder (map part_of ss)) (told : AllByRecursion IsTold ss) where
      -- words of the volume, as they are and as the command makes them
      abbrev words : List PageRead
      words = volume_reads ss

      abbrev replied : PageRead → Bool
      replied r = is_reply (4096 * h.geometry.vpages) r

      abbrev pages_made : List Page
      pages_made = (meaning action).volume h.geometry h.volume

      word_read : (r : PageRead) → IsAmong r words → IsWordRead r
      word_read r is = each_of IsWordRead r words (are_words h.geometry ss are order told).each is

      word_old : (r : PageRead) → IsAmong r words → (replied r && fits_alone h.volume r) ≡ alone_at h (of_volume r)
      word_old r is = ap (λ b. replied r && b) (sym (one_alone h.geometry r h.volume (word_read r is)))

      word_new : (way : Option Way) → lines_way action ≡ way → (r : PageRead) → IsAmong r words
          → (replied r && new_by way (fits_alone h.volume) (fits_alone pages_made) r) ≡ alone_at (new_by way h to) (of_volume r)
      word_new None is r among = word_old r among
      word_new (Some w) is r among =
          ap (λ b. replied r && b) (sym (one_alone h.geometry r pages_made (word_read r among)))
          ∙ ap (λ pages. replied r && volume_may_pass h.geometry None (line_fits (r ∷ [])) pages (all_lines_read (r ∷ [])))
          (sym (made.volume ∙ words_made h.geometry action h.volume w is))
          ∙ ap (λ (geo : Geometry). is_reply (4096 * geo.vpages) r && volume_may_pass geo None (line_fits (r ∷ [])) to.volume (all_lines_read (r ∷ []))) (sym made.geometry)

      words_inside : volume_may_show (while_interrupted h action) words
          ≡ grouped (λ r q. goes (of_volume r) (of_volume q)) (λ r. alone_at h (of_volume r)) (λ r. alone_at (new_of (of_volume r)) (of_volume r)) words
      words_inside =
          let way = lines_way action in
          let old : PageRead → Bool = fits_alone h.volume in
          let new : PageRead → Bool = fits_alone pages_made in
          both_same refl
          (groups_apart h.geometry action words h.volume (are_words h.geometry ss are order told) sound.lines (lines_there h sound ss are order told)
          ∙ words_in_groups old new words ((meaning action).volume_left h.geometry)
          ∙ ap (λ o. grouped (λ r q. goes_by o (part_of (of_volume r)) (part_of (of_volume q))) old (new_by o old new) words) (sym (lines_way_is h.geometry action)))
          ∙ grouped_both (λ r q. goes (of_volume r) (of_volume q)) (λ r. goes_itself (ways_inside h.mappings action) (part_of (of_volume r))) replied words old (new_by way old new)
          ∙ grouped_alike (λ r q. goes (of_volume r) (of_volume q)) (λ r q. goes (of_volume r) (of_volume q)) (λ r. replied r && old r) (λ r. replied r && new_by way old new r)
          (λ r. alone_at h (of_volume r)) (λ r. alone_at (new_of (of_volume r)) (of_volume r)) words (λ r q. refl) word_old (word_new way refl)

      -- blocks
      abbrev block_replied : BlockRead → Bool
      block_replied r = is_block_reply h.geometry.blocks r

      block_new : (way : Option Way) → blocks_way action ≡ way → (r : BlockRead)
          → (block_replied r && new_by way (shows_block h.blocks) (shows_block ((meaning action).blocks h.blocks)) r) ≡ alone_at (new_by way h to) (of_blocks r)
      block_new None is r = refl
      block_new (Some w) is r =
          ap (λ blocks. block_replied r && shows_block blocks r) (sym (made.blocks ∙ blocks_made action h.blocks w is))
          ∙ ap (λ (geo : Geometry). is_block_reply geo.blocks r && shows_block to.blocks r) (sym made.geometry)

      blocks_inside : blocks_may_show (while_interrupted h action) (block_reads ss)
          ≡ grouped (λ r q. goes (of_blocks r) (of_blocks q)) (λ r. alone_at h (of_blocks r)) (λ r. alone_at (new_of (of_blocks r)) (of_blocks r)) (block_reads ss)
      blocks_inside =
          let way = blocks_way action in
          let old : BlockRead → Bool = shows_block h.blocks in
          let new : BlockRead → Bool = shows_block ((meaning action).blocks h.blocks) in
          both_same refl
          (blocks_pass_apart (block_reads ss) (are_blocks h.geometry ss are told) (Some action) h.blocks
          ∙ blocks_in_groups old new (block_reads ss) (meaning action).blocks_left
          ∙ ap (λ o. grouped (λ r q. goes_by o (part_of (of_blocks r)) (part_of (of_blocks q))) old (new_by o old new) (block_reads ss)) (sym (blocks_way_is action)))
          ∙ grouped_both (λ r q. goes (of_blocks r) (of_blocks q)) (λ r. goes_itself (ways_inside h.mappings action) (part_of (of_blocks r))) block_replied (block_reads ss) old (new_by way old new)
          ∙ grouped_alike (λ r q. goes (of_blocks r) (of_blocks q)) (λ r q. goes (of_blocks r) (of_blocks q)) (λ r. block_replied r && old r)
          (λ r. block_replied r && new_by way old new r) (λ r. alone_at h (of_blocks r)) (λ r. alone_at (new_of (of_blocks r)) (of_blocks r)) (block_reads ss)
          (λ r q. refl) (λ r is. refl) (λ r is. block_new way refl r)

      -- words of files
      file_word_new : (way : Option Way) → way_left ((meaning action).files_left h.mappings) ≡ way → (r : FileRead)
          → new_by way (shows_word h.files) (shows_word ((meaning action).files h.mappings h.files)) r ≡ alone_at (new_by way h to) (of_file r)
      file_word_new None is r = refl
      file_word_new (Some w) is r = ap (λ files. shows_word files r) (sym (made.files ∙ file_words_made h.mappings action h.files w is))

      file_words_inside : files_may_show (while_interrupted h action) (file_reads ss)
          ≡ grouped (λ r q. goes (of_file r) (of_file q)) (λ r. alone_at h (of_file r)) (λ r. alone_at (new_of (of_file r)) (of_file r)) (file_reads ss)
      file_words_inside =
          let left = (meaning action).files_left h.mappings in
          let old : FileRead → Bool = shows_word h.files in
          let new : FileRead → Bool = shows_word ((meaning action).files h.mappings h.files) in
          files_pass_apart (file_reads ss) (are_file_words h.geometry ss are order told) h.files sound.file_lines sound.file_values h.mappings (Some action)
          ∙ file_words_in_groups old new (file_reads ss) left
          ∙ grouped_alike (λ r q. goes (of_file r) (of_file q)) (λ r q. goes (of_file r) (of_file q)) old (new_by (way_left left) old new)
          (λ r. alone_at h (of_file r)) (λ r. alone_at (new_of (of_file r)) (of_file r)) (file_reads ss) (λ r q. refl) (λ r is. refl) (λ r is. file_word_new (way_left left) refl r)

      -- all of them
      reads_inside : may_show ss (while_interrupted h action) ≡ grouped goes (shown_alone h) (λ s. shown_alone (new_of s) s) ss
      reads_inside =
          three_same words_inside blocks_inside file_words_inside
          ∙ sym (grouped_by_kinds goes (λ s t. goes_beside (ways_inside h.mappings action) (part_of s) (part_of t)) ss (alone_at h)
          (λ s. alone_at (new_of s) s))
          ∙ grouped_alike goes goes (alone_at h) (λ s. alone_at (new_of s) s) (shown_alone h) (λ s. shown_alone (new_of s) s) ss (λ s t. refl) (λ s is. sym (alone_is h rests s))
          (λ s is. sym (alone_is (new_of s) (new_rests (way_of (ways_inside h.mappings action) (part_of s))) s))

-- choices with the parts that they are read of
abbrev read_part : Choice → Read × Choice
read_part c = (part_of c.seen, c)

paired_seen : (cs : List Choice) → paired (map part_of (all_seen cs)) cs ≡ map read_part cs
paired_seen [] = refl
paired_seen (c ∷ cs) = ap (λ xs. read_part c ∷ xs) (paired_seen cs)

-- so it shows picked choices where it shows each group
pub groups_inside : GroupsInside
groups_inside hs parts cs h action answer to ready sound program are order picks allowed works =
    let of = picked hs h.geometry parts cs are picks in
    let ways = ways_inside h.mappings action in
    let together : Read × Choice → Read × Choice → Bool = λ x y. goes_with ways x.0 y.0 in
    let old : Read × Choice → Bool = λ x. shows_alone x.1 h in
    let new : Read × Choice → Bool = λ x. shows_alone x.1 (new_by (way_of ways x.0) h to) in
    shown_as_seen cs (while_interrupted h action)
    ∙ reads_inside h to action ready.settled sound (works_so h action answer to works) (all_seen cs) (subst (AreParts h.geometry) (sym of.0) are)
    (subst AreInOrder (sym of.0) order) of.1
    ∙ grouped_map (λ (c : Choice). c.seen) (goes h to action) (shown_alone h) (λ s. shown_alone (new_of h to action s) s) cs
    ∙ sym (grouped_map read_part together old new cs)
    ∙ ap (grouped together old new) (sym (paired_seen cs) ∙ ap (λ ps. paired ps cs) of.0)
