-- Reads of one look behind those of another: what a state may show of both.
use Rattle.std.proofs.Common.{◌≡◌, inl, inr, ℕ, ◌*◌, ◌&&◌, true, List, [], ◌∷◌, ◌++◌, map, refl, sym, ap, subst, ◌∙◌, append_assoc, append-nil, Option}
use Rattle.std.specs.List.{list_all}
use Rattle.std.proofs.lemmas.Bool.{and_from, and_parts}
use Rattle.std.proofs.lemmas.List.Folds.{list_all-append}
use Rattle.nvm_model.specs.Cell.{Cell}
use Rattle.nvm_model.specs.Storage.{Block}
use Rattle.cut_places.specs.MachineModel.Machine.{Machine}
use Rattle.cut_places.specs.Outcomes.Blocks.{BlockRead, all_numbers_read, block_fits, is_block_reply, numbers_read}
use Rattle.cut_places.specs.Outcomes.Files.{FileRead}
use Rattle.cut_places.specs.Outcomes.Left.{blocks_may_pass, volume_may_pass}
use Rattle.cut_places.specs.Outcomes.Pages.{PageRead, all_lines_read, is_reply, line_fits, lines_read}
use Rattle.cut_places.specs.Outcomes.Seen.{Seen, block_reads, blocks_may_show, file_reads, files_may_show, may_show, volume_may_show, volume_reads}
use Rattle.cut_places.specs.Outcomes.Seen.Seen.{of_blocks, of_file, of_volume}
use Rattle.witnesses.proofs.ListLemmas.{IsAmong}
use Rattle.witnesses.proofs.MoreLemmas.{blocks_more, volume_more}

pub volume_reads-append : (look more : List Seen) → volume_reads (look ++ more) ≡ volume_reads look ++ volume_reads more
volume_reads-append [] more = refl
volume_reads-append (of_volume r ∷ look) more = ap (λ rs. r ∷ rs) (volume_reads-append look more)
volume_reads-append (of_blocks r ∷ look) more = volume_reads-append look more
volume_reads-append (of_file r ∷ look) more = volume_reads-append look more

pub block_reads-append : (look more : List Seen) → block_reads (look ++ more) ≡ block_reads look ++ block_reads more
block_reads-append [] more = refl
block_reads-append (of_volume r ∷ look) more = block_reads-append look more
block_reads-append (of_blocks r ∷ look) more = ap (λ rs. r ∷ rs) (block_reads-append look more)
block_reads-append (of_file r ∷ look) more = block_reads-append look more

pub file_reads-append : (look more : List Seen) → file_reads (look ++ more) ≡ file_reads look ++ file_reads more
file_reads-append [] more = refl
file_reads-append (of_volume r ∷ look) more = file_reads-append look more
file_reads-append (of_blocks r ∷ look) more = file_reads-append look more
file_reads-append (of_file r ∷ look) more = ap (λ rs. r ∷ rs) (file_reads-append look more)

pub all_lines_read-append : (reads more : List PageRead) → all_lines_read (reads ++ more) ≡ all_lines_read reads ++ all_lines_read more
all_lines_read-append [] more = refl
all_lines_read-append (r ∷ reads) more = ap (λ ns. lines_read r.start r.len r.reply ++ ns) (all_lines_read-append reads more) ∙ sym (append_assoc (lines_read r.start r.len r.reply) (all_lines_read reads) (all_lines_read more))

pub all_numbers_read-append : (reads more : List BlockRead) → all_numbers_read (reads ++ more) ≡ all_numbers_read reads ++ all_numbers_read more
all_numbers_read-append [] more = refl
all_numbers_read-append (r ∷ reads) more = ap (λ ns. numbers_read r.first r.count r.reply ++ ns) (all_numbers_read-append reads more) ∙ sym (append_assoc (numbers_read r.first r.count r.reply) (all_numbers_read reads) (all_numbers_read more))

-- reads of the volume and of blocks
module _ (pages : List PageRead) (blocks : List BlockRead) where
  abbrev pub look_of : List Seen
  look_of = map of_volume pages ++ map of_blocks blocks

  only_blocks : (blocks : List BlockRead) → (volume_reads (map of_blocks blocks) ≡ []) × (block_reads (map of_blocks blocks) ≡ blocks) × (file_reads (map of_blocks blocks) ≡ [])
  only_blocks [] = (refl, refl, refl)
  only_blocks (r ∷ blocks) = let rest = only_blocks blocks in (rest.0, ap (λ rs. r ∷ rs) rest.1, rest.2)

  only_pages : (pages : List PageRead) → (volume_reads (map of_volume pages) ≡ pages) × (block_reads (map of_volume pages) ≡ []) × (file_reads (map of_volume pages) ≡ [])
  only_pages [] = (refl, refl, refl)
  only_pages (r ∷ pages) = let rest = only_pages pages in (ap (λ rs. r ∷ rs) rest.0, rest.1, rest.2)

  pub volume_in : volume_reads look_of ≡ pages
  volume_in =
      volume_reads-append (map of_volume pages) (map of_blocks blocks) ∙ ap (λ rs. rs ++ volume_reads (map of_blocks blocks)) (only_pages pages).0
      ∙ ap (λ rs. pages ++ rs) (only_blocks blocks).0 ∙ append-nil pages

  pub blocks_in : block_reads look_of ≡ blocks
  blocks_in =
      block_reads-append (map of_volume pages) (map of_blocks blocks) ∙ ap (λ rs. rs ++ block_reads (map of_blocks blocks)) (only_pages pages).1 ∙ (only_blocks blocks).1

  pub files_in : file_reads look_of ≡ []
  files_in =
      file_reads-append (map of_volume pages) (map of_blocks blocks) ∙ ap (λ rs. rs ++ file_reads (map of_blocks blocks)) (only_pages pages).2 ∙ (only_blocks blocks).2

-- and of files behind them
module _ (pages : List PageRead) (blocks : List BlockRead) (files : List FileRead) where
  abbrev pub tale_of : List Seen
  tale_of = map of_volume pages ++ (map of_blocks blocks ++ map of_file files)

  only_files : (files : List FileRead) → (volume_reads (map of_file files) ≡ []) × (block_reads (map of_file files) ≡ []) × (file_reads (map of_file files) ≡ files)
  only_files [] = (refl, refl, refl)
  only_files (r ∷ files) = let rest = only_files files in (rest.0, rest.1, ap (λ rs. r ∷ rs) rest.2)

  in_parts : tale_of ≡ look_of pages blocks ++ map of_file files
  in_parts = sym (append_assoc (map of_volume pages) (map of_blocks blocks) (map of_file files))

  pub volume_of : volume_reads tale_of ≡ pages
  volume_of =
      ap volume_reads in_parts ∙ volume_reads-append (look_of pages blocks) (map of_file files) ∙ ap (λ rs. rs ++ volume_reads (map of_file files)) (volume_in pages blocks)
      ∙ ap (λ rs. pages ++ rs) (only_files files).0 ∙ append-nil pages

  pub blocks_of : block_reads tale_of ≡ blocks
  blocks_of =
      ap block_reads in_parts ∙ block_reads-append (look_of pages blocks) (map of_file files) ∙ ap (λ rs. rs ++ block_reads (map of_file files)) (blocks_in pages blocks)
      ∙ ap (λ rs. blocks ++ rs) (only_files files).1 ∙ append-nil blocks

  pub files_of : file_reads tale_of ≡ files
  files_of =
      ap file_reads in_parts ∙ file_reads-append (look_of pages blocks) (map of_file files) ∙ ap (λ rs. rs ++ file_reads (map of_file files)) (files_in pages blocks) ∙ (only_files files).2

-- what is one of some, or of those that these are among
in_both : (some all : List ℕ) (n : ℕ) → ((n : ℕ) → IsAmong n some → IsAmong n all) → IsAmong n (some ++ all) → IsAmong n all
in_both [] all n among is = is
in_both (x ∷ some) all n among (inl same) = among n (inl same)
in_both (x ∷ some) all n among (inr later) = in_both some all n (λ m is. among m (inr is)) later

-- What a state may show of the one look it may show of both, where it looks at all that the other looks at, whatever fits the one fits
-- both, and each reply is one that a read has; and where it may show the reads of files of both.
module _ (off : Machine) (look : List Seen) (pages asked : List PageRead) (blocks units : List BlockRead) (is : volume_reads look ≡ asked) (are : block_reads look ≡ units) (files more_files : List FileRead) (of_files : file_reads look ≡ files)
    (shown : may_show (look_of pages blocks) off ≡ true) (files_shown : files_may_show off (files ++ more_files) ≡ true) where
  parts : (volume_may_show off pages ≡ true) × (blocks_may_show off blocks ≡ true)
  parts =
      let first = and_parts (volume_may_show off (volume_reads (look_of pages blocks))) (blocks_may_show off (block_reads (look_of pages blocks)) && files_may_show off (file_reads (look_of pages blocks))) shown in
      let rest = and_parts (blocks_may_show off (block_reads (look_of pages blocks))) (files_may_show off (file_reads (look_of pages blocks))) first.1 in
      (sym (ap (volume_may_show off) (volume_in pages blocks)) ∙ first.0, sym (ap (blocks_may_show off) (blocks_in pages blocks)) ∙ rest.0)

  both_volume : ((n : ℕ) → IsAmong n (all_lines_read asked) → IsAmong n (all_lines_read pages)) → list_all (is_reply (4096 * off.geometry.vpages)) asked ≡ true
      → ((n : ℕ) → IsAmong n (all_lines_read pages) → (o : Option Cell) → line_fits pages n o ≡ true → line_fits (asked ++ pages) n o ≡ true)
      → volume_may_show off (asked ++ pages) ≡ true
  both_volume among replies more =
      let told = and_parts (list_all (is_reply (4096 * off.geometry.vpages)) pages) (volume_may_pass off.geometry off.interrupted (line_fits pages) off.volume (all_lines_read pages)) parts.0 in
      and_from (list_all (is_reply (4096 * off.geometry.vpages)) (asked ++ pages)) (volume_may_pass off.geometry off.interrupted (line_fits (asked ++ pages)) off.volume (all_lines_read (asked ++ pages)))
      (list_all-append (is_reply (4096 * off.geometry.vpages)) asked pages ∙ and_from (list_all (is_reply (4096 * off.geometry.vpages)) asked) (list_all (is_reply (4096 * off.geometry.vpages)) pages) replies told.0)
      (volume_more (line_fits pages) (line_fits (asked ++ pages)) (all_lines_read pages) (all_lines_read (asked ++ pages))
      (λ n is. in_both (all_lines_read asked) (all_lines_read pages) n among (subst (IsAmong n) (all_lines_read-append asked pages) is)) more off.geometry off.interrupted off.volume told.1)

  both_blocks : ((n : ℕ) → IsAmong n (all_numbers_read units) → IsAmong n (all_numbers_read blocks)) → list_all (is_block_reply off.geometry.blocks) units ≡ true
      → ((n : ℕ) → IsAmong n (all_numbers_read blocks) → (block : Block) → block_fits blocks n block ≡ true → block_fits (units ++ blocks) n block ≡ true)
      → blocks_may_show off (units ++ blocks) ≡ true
  both_blocks among replies more =
      let told = and_parts (list_all (is_block_reply off.geometry.blocks) blocks) (blocks_may_pass off.interrupted (block_fits blocks) off.blocks (all_numbers_read blocks)) parts.1 in
      and_from (list_all (is_block_reply off.geometry.blocks) (units ++ blocks)) (blocks_may_pass off.interrupted (block_fits (units ++ blocks)) off.blocks (all_numbers_read (units ++ blocks)))
      (list_all-append (is_block_reply off.geometry.blocks) units blocks ∙ and_from (list_all (is_block_reply off.geometry.blocks) units) (list_all (is_block_reply off.geometry.blocks) blocks) replies told.0)
      (blocks_more (block_fits blocks) (block_fits (units ++ blocks)) (all_numbers_read blocks) (all_numbers_read (units ++ blocks))
      (λ n is. in_both (all_numbers_read units) (all_numbers_read blocks) n among (subst (IsAmong n) (all_numbers_read-append units blocks) is)) more off.interrupted off.blocks told.1)

  pub both_shown : ((n : ℕ) → IsAmong n (all_lines_read asked) → IsAmong n (all_lines_read pages))
      → ((n : ℕ) → IsAmong n (all_numbers_read units) → IsAmong n (all_numbers_read blocks))
      → list_all (is_reply (4096 * off.geometry.vpages)) asked ≡ true → list_all (is_block_reply off.geometry.blocks) units ≡ true
      → ((n : ℕ) → IsAmong n (all_lines_read pages) → (o : Option Cell) → line_fits pages n o ≡ true → line_fits (asked ++ pages) n o ≡ true)
      → ((n : ℕ) → IsAmong n (all_numbers_read blocks) → (block : Block) → block_fits blocks n block ≡ true → block_fits (units ++ blocks) n block ≡ true)
      → may_show (look ++ tale_of pages blocks more_files) off ≡ true
  both_shown lines numbers replies block_replies more more_blocks =
      let tale = tale_of pages blocks more_files in
      and_from (volume_may_show off (volume_reads (look ++ tale))) (blocks_may_show off (block_reads (look ++ tale)) && files_may_show off (file_reads (look ++ tale)))
      (ap (volume_may_show off) (volume_reads-append look tale ∙ ap (λ rs. rs ++ volume_reads tale) is ∙ ap (λ rs. asked ++ rs) (volume_of pages blocks more_files)) ∙ both_volume lines replies more)
      (and_from (blocks_may_show off (block_reads (look ++ tale))) (files_may_show off (file_reads (look ++ tale)))
      (ap (blocks_may_show off) (block_reads-append look tale ∙ ap (λ rs. rs ++ block_reads tale) are ∙ ap (λ rs. units ++ rs) (blocks_of pages blocks more_files)) ∙ both_blocks numbers block_replies more_blocks)
      (ap (files_may_show off) (file_reads-append look tale ∙ ap (λ rs. rs ++ file_reads tale) of_files ∙ ap (λ rs. files ++ rs) (files_of pages blocks more_files)) ∙ files_shown))
