-- A state that may show reads may show the first of them alone.
use Rattle.std.proofs.Common.{◌≡◌, ℕ, ◌+◌, ◌*◌, ◌/◌, ◌==◌, ◌&&◌, ◌||◌, Bool, true, false, cond, not, Option, Some, None, List, [], ◌∷◌, ◌++◌, length, replicate, refl, sym, ap, ◌∙◌}
use Rattle.std.specs.Prelude.{slice_index_or}
use Rattle.std.specs.List.{list_all, range_with_len}
use Rattle.std.specs.Str.{bytes_eq}
use Rattle.std.proofs.lemmas.Bool.{and_from, and_parts, or_left, or_right}
use Rattle.std.proofs.lemmas.List.Folds.{list_all-append}
use Rattle.nvm_base.specs.declared.units.Span.{Span}
use Rattle.nvm_model.specs.Blocks.{nth}
use Rattle.nvm_model.specs.Cell.{Cell}
use Rattle.nvm_model.specs.Cell.Cell.{Bad, Kept as KeptCell}
use Rattle.nvm_model.specs.Page.{Page, cell_of, fill, persist, put}
use Rattle.nvm_model.specs.Storage.{Block, File, Mapping}
use Rattle.nvm_model.specs.Touched.{persist_spans}
use Rattle.word_tables.specs.declared.geometry.Geometry.{Geometry}
use Rattle.script_text.specs.Action.{Action}
use Rattle.explorer.specs.MachineModel.Commands.{meaning}
use Rattle.explorer.specs.MachineModel.Machine.{Machine}
use Rattle.explorer.specs.MachineModel.Meaning.{BlocksLeft, FilesLeft, VolumeLeft}
use Rattle.explorer.specs.MachineModel.Meaning.BlocksLeft.{Same, Either, Mixed}
use Rattle.explorer.specs.MachineModel.Meaning.FilesLeft.{Unchanged, OldOrNew, StoredInPart, SyncedInPart}
use Rattle.explorer.specs.MachineModel.Meaning.VolumeLeft.{Kept, PartStored, PartSynced, AllOrNone, PageByPage}
use Rattle.explorer.specs.MachineModel.OnPages.{pages_named}
use Rattle.explorer.specs.Outcomes.Blocks.{BlockRead, all_numbers_read, block_fits, is_block_reply}
use Rattle.explorer.specs.Outcomes.Files.{FileRead, all_but, each_file, file_fits, files_fit, is_file_reply, reads_of}
use Rattle.explorer.specs.Outcomes.Left.{blocks_may_pass, blocks_pass, files_may_pass, files_pass, stored_file, stored_passes, synced_file, volume_may_pass, volume_passes}
use Rattle.explorer.specs.Outcomes.Pages.{PageRead, agrees, all_agree, all_allow_good, all_lines_read, allows_bad, allows_good, is_reply, line_fits, words_fit}
use Rattle.explorer.specs.Outcomes.Seen.{Seen, block_reads, blocks_may_show, file_reads, files_may_show, may_show, volume_may_show}
use Rattle.explorer.specs.Outcomes.Seen.Seen.{of_blocks, of_file, of_volume}
use Rattle.explorer.specs.Outcomes.Ways.{all_pass, each_passes, group_passes, groups_pass}
use Rattle.explorer.proofs.CutPlaces.AllLemmas.{all_so}
use Rattle.explorer.proofs.Witnesses.ListLemmas.{any_more}
use Rattle.explorer.proofs.Witnesses.SeenLemmas.{all_lines_read-append, all_numbers_read-append}
use Rattle.outcome_lists.specs.Outcomes.{Asked, and_seen, look_of}
use Rattle.outcome_lists.proofs.LookLemmas.{blocks_back, files_back, volume_back}

-- what all pass the first of them pass
first_pass : {A : Type 0} (f : A → Bool) (xs ys : List A) → list_all f (xs ++ ys) ≡ true → list_all f xs ≡ true
first_pass f xs ys all = (and_parts (list_all f xs) (list_all f ys) (sym (list_all-append f xs ys) ∙ all)).0

-- where each of two tests follows from another
either_so : (a b c d : Bool) → (a ≡ true → c ≡ true) → (b ≡ true → d ≡ true) → (a || b) ≡ true → (c || d) ≡ true
either_so true b c d one other some = or_left c d (one refl)
either_so false b c d one other some = or_right c d (other some)

both_so : (a b c d : Bool) → (a ≡ true → c ≡ true) → (b ≡ true → d ≡ true) → (a && b) ≡ true → (c && d) ≡ true
both_so a b c d one other all = let parts = and_parts a b all in and_from c d (one parts.0) (other parts.1)

-- Where units pass a test from which another one follows, the first of them pass that one.
module _ {A : Type 0} (f g : ℕ → A → Bool) (ns more : List ℕ) (so : (n : ℕ) (x : A) → f n x ≡ true → g n x ≡ true) where
  first_so : (p q : ℕ → Bool) → ((n : ℕ) → p n ≡ true → q n ≡ true) → list_all p (ns ++ more) ≡ true → list_all q ns ≡ true
  first_so p q each all = all_so p q ns (λ n is. each n) (first_pass p ns more all)

  all_first : (state : ℕ → A) → all_pass f state (ns ++ more) ≡ true → all_pass g state ns ≡ true
  all_first state all = first_so (λ n. f n (state n)) (λ n. g n (state n)) (λ n. so n (state n)) all

  each_first : (one other : ℕ → A) → each_passes f one other (ns ++ more) ≡ true → each_passes g one other ns ≡ true
  each_first one other all =
      first_so (λ n. f n (one n) || f n (other n)) (λ n. g n (one n) || g n (other n))
      (λ n. either_so (f n (one n)) (f n (other n)) (g n (one n)) (g n (other n)) (so n (one n)) (so n (other n))) all

  either_first : (one other : ℕ → A) → (all_pass f one (ns ++ more) || all_pass f other (ns ++ more)) ≡ true → (all_pass g one ns || all_pass g other ns) ≡ true
  either_first one other some =
      either_so (all_pass f one (ns ++ more)) (all_pass f other (ns ++ more)) (all_pass g one ns) (all_pass g other ns) (all_first one) (all_first other) some

  module _ (group_of : ℕ → ℕ) where
    group_first : (k : ℕ) (state : ℕ → A) → group_passes f group_of k state (ns ++ more) ≡ true → group_passes g group_of k state ns ≡ true
    group_first k state all =
        first_so (λ n. not (group_of n == k) || f n (state n)) (λ n. not (group_of n == k) || g n (state n))
        (λ n. either_so (not (group_of n == k)) (f n (state n)) (not (group_of n == k)) (g n (state n)) (λ out. out) (so n (state n))) all

    groups_first : (one other : ℕ → A) → groups_pass f group_of one other (ns ++ more) ≡ true → groups_pass g group_of one other ns ≡ true
    groups_first one other all =
        first_so (λ n. group_passes f group_of (group_of n) one (ns ++ more) || group_passes f group_of (group_of n) other (ns ++ more))
        (λ n. group_passes g group_of (group_of n) one ns || group_passes g group_of (group_of n) other ns)
        (λ n. either_so (group_passes f group_of (group_of n) one (ns ++ more)) (group_passes f group_of (group_of n) other (ns ++ more))
        (group_passes g group_of (group_of n) one ns) (group_passes g group_of (group_of n) other ns)
        (group_first (group_of n) one) (group_first (group_of n) other)) all

-- so it is of lines and of blocks, in each way that they may be left
module _ (f g : ℕ → Option Cell → Bool) (ns more : List ℕ) (so : (n : ℕ) (o : Option Cell) → f n o ≡ true → g n o ≡ true) where
  stored_first : (offset : ℕ) (bytes : List ℕ) (old : List Page) → stored_passes offset bytes f old (ns ++ more) ≡ true → stored_passes offset bytes g old ns ≡ true
  stored_first offset bytes old some =
      let filled = fill offset (length bytes) old in
      let stored = put offset bytes filled in
      either_so (all_pass f (cell_of old) (ns ++ more)) (each_passes f (cell_of filled) (cell_of stored) (ns ++ more))
      (all_pass g (cell_of old) ns) (each_passes g (cell_of filled) (cell_of stored) ns)
      (all_first f g ns more so (cell_of old)) (each_first f g ns more so (cell_of filled) (cell_of stored)) some

  volume_left_first : (left : VolumeLeft) (old to : List Page) → volume_passes left f old to (ns ++ more) ≡ true → volume_passes left g old to ns ≡ true
  volume_left_first Kept old to all = all_first f g ns more so (cell_of old) all
  volume_left_first (PartStored offset bytes) old to some = stored_first offset bytes old some
  volume_left_first (PartSynced offset len) old to all = each_first f g ns more so (cell_of old) (cell_of (persist offset len old)) all
  volume_left_first AllOrNone old to some = either_first f g ns more so (cell_of old) (cell_of to) some
  volume_left_first PageByPage old to all = groups_first f g ns more so (λ n. n / 64) (cell_of old) (cell_of to) all

  volume_first : (geo : Geometry) (o : Option Action) (old : List Page) → volume_may_pass geo o f old (ns ++ more) ≡ true → volume_may_pass geo o g old ns ≡ true
  volume_first geo None old all = all_first f g ns more so (cell_of old) all
  volume_first geo (Some action) old all = volume_left_first ((meaning action).volume_left geo) old ((meaning action).volume geo old) all

module _ (f g : ℕ → Block → Bool) (ns more : List ℕ) (so : (n : ℕ) (block : Block) → f n block ≡ true → g n block ≡ true) where
  blocks_left_first : (left : BlocksLeft) (old to : List Block) → blocks_pass left f old to (ns ++ more) ≡ true → blocks_pass left g old to ns ≡ true
  blocks_left_first Same old to all = all_first f g ns more so (nth old) all
  blocks_left_first Either old to some = either_first f g ns more so (nth old) (nth to) some
  blocks_left_first Mixed old to all = each_first f g ns more so (nth old) (nth to) all

  blocks_first : (o : Option Action) (old : List Block) → blocks_may_pass o f old (ns ++ more) ≡ true → blocks_may_pass o g old ns ≡ true
  blocks_first None old all = all_first f g ns more so (nth old) all
  blocks_first (Some action) old all = blocks_left_first (meaning action).blocks_left old ((meaning action).blocks old) all

-- a line that fits reads of pages fits the first of them
module _ (reads more : List PageRead) where
  words_first : (n : ℕ) (words : List (List ℕ)) → words_fit (reads ++ more) n words ≡ true → words_fit reads n words ≡ true
  words_first n words all =
      all_so _ _ (range_with_len 0 8)
      (λ w is. any_more (all_agree (reads ++ more) (8 * n + w)) (all_agree reads (8 * n + w)) (slice_index_or words w [])
      (λ v. first_pass (λ (r : PageRead). agrees (8 * n + w) v r.start r.len r.reply) reads more)) all

  good_first : (n : ℕ) (words : List (List ℕ)) → (all_allow_good (reads ++ more) n && words_fit (reads ++ more) n words) ≡ true
      → (all_allow_good reads n && words_fit reads n words) ≡ true
  good_first n words all =
      both_so (all_allow_good (reads ++ more) n) (words_fit (reads ++ more) n words) (all_allow_good reads n) (words_fit reads n words)
      (first_pass (λ (r : PageRead). allows_good n r.reply) reads more) (words_first n words) all

  line_first : (n : ℕ) (o : Option Cell) → line_fits (reads ++ more) n o ≡ true → line_fits reads n o ≡ true
  line_first n None all = good_first n (replicate 8 (0 ∷ [])) all
  line_first n (Some Bad) all = first_pass (λ (r : PageRead). allows_bad n r.start r.len r.reply) reads more all
  line_first n (Some (KeptCell weak words)) all = good_first n words all

  -- the lines that are looked at are those of the first, and others
  lines_parted : (passes : List ℕ → Bool) → passes (all_lines_read (reads ++ more)) ≡ true → passes (all_lines_read reads ++ all_lines_read more) ≡ true
  lines_parted passes all = sym (ap passes (all_lines_read-append reads more)) ∙ all

-- A test of a file's pages that the first of the reads pass.
abbrev PassesFirst : (List PageRead → List Page → Bool) → Type 0
PassesFirst test = (reads more : List PageRead) (pages : List Page) → test (reads ++ more) pages ≡ true → test reads pages ≡ true

fits_first : PassesFirst file_fits
fits_first reads more pages all =
    all_first (line_fits (reads ++ more)) (line_fits reads) (all_lines_read reads) (all_lines_read more) (line_first reads more) (cell_of pages)
    (lines_parted reads more (all_pass (line_fits (reads ++ more)) (cell_of pages)) all)

stored_file_first : (offset : ℕ) (bytes : List ℕ) → PassesFirst (stored_file offset bytes)
stored_file_first offset bytes reads more pages some =
    stored_first (line_fits (reads ++ more)) (line_fits reads) (all_lines_read reads) (all_lines_read more) (line_first reads more) offset bytes pages
    (lines_parted reads more (stored_passes offset bytes (line_fits (reads ++ more)) pages) some)

synced_file_first : (spans : List Span) → PassesFirst (synced_file spans)
synced_file_first spans reads more pages all =
    each_first (line_fits (reads ++ more)) (line_fits reads) (all_lines_read reads) (all_lines_read more) (line_first reads more) (cell_of pages) (cell_of (persist_spans spans pages))
    (lines_parted reads more (each_passes (line_fits (reads ++ more)) (cell_of pages) (cell_of (persist_spans spans pages))) all)

but_first : (text : List ℕ) (test : List PageRead → List Page → Bool) → PassesFirst test → (name : List ℕ) → PassesFirst (all_but text test name)
but_first text test first name reads more pages all = by_name (bytes_eq text name) all
  where
    by_name : (b : Bool) → cond b (test (reads ++ more) pages) (file_fits (reads ++ more) pages) ≡ true → cond b (test reads pages) (file_fits reads pages) ≡ true
    by_name true passes = first reads more pages passes
    by_name false passes = fits_first reads more pages passes

-- the reads of one file
reads_of-append : (name : List ℕ) (reads more : List FileRead) → reads_of name (reads ++ more) ≡ reads_of name reads ++ reads_of name more
reads_of-append name [] more = refl
reads_of-append name (r ∷ reads) more = by_name (bytes_eq r.name name) (reads_of-append name reads more)
  where
    by_name : (b : Bool) → reads_of name (reads ++ more) ≡ reads_of name reads ++ reads_of name more
        → cond b (r.pages ∷ reads_of name (reads ++ more)) (reads_of name (reads ++ more)) ≡ cond b (r.pages ∷ reads_of name reads) (reads_of name reads) ++ reads_of name more
    by_name true rest = ap (λ rs. r.pages ∷ rs) rest
    by_name false rest = rest

-- files that fit reads fit the first of them, in each way that they may be left
module _ (reads more : List FileRead) where
  files_fit_first : (test : List ℕ → List PageRead → List Page → Bool) → ((name : List ℕ) → PassesFirst (test name)) → (files : List File)
      → files_fit test (reads ++ more) files ≡ true → files_fit test reads files ≡ true
  files_fit_first test first files all =
      all_so (λ (r : FileRead). is_file_reply files r && passes r (reads ++ more)) (λ (r : FileRead). is_file_reply files r && passes r reads) reads
      (λ r is. both_so (is_file_reply files r) (passes r (reads ++ more)) (is_file_reply files r) (passes r reads) (λ replied. replied) (fewer r))
      (first_pass (λ (r : FileRead). is_file_reply files r && passes r (reads ++ more)) reads more all)
    where
      passes : FileRead → List FileRead → Bool
      passes r all_reads = test r.name (reads_of r.name all_reads) (pages_named r.name files)

      fewer : (r : FileRead) → passes r (reads ++ more) ≡ true → passes r reads ≡ true
      fewer r fit =
          first r.name (reads_of r.name reads) (reads_of r.name more) (pages_named r.name files)
          (sym (ap (λ rs. test r.name rs (pages_named r.name files)) (reads_of-append r.name reads more)) ∙ fit)

  each_file_first : (files : List File) → files_fit each_file (reads ++ more) files ≡ true → files_fit each_file reads files ≡ true
  each_file_first files all = files_fit_first each_file (λ name. fits_first) files all

  files_left_first : (left : FilesLeft) (old to : List File) → files_pass left (reads ++ more) old to ≡ true → files_pass left reads old to ≡ true
  files_left_first Unchanged old to all = each_file_first old all
  files_left_first OldOrNew old to some =
      either_so (files_fit each_file (reads ++ more) old) (files_fit each_file (reads ++ more) to) (files_fit each_file reads old) (files_fit each_file reads to)
      (each_file_first old) (each_file_first to) some
  files_left_first (StoredInPart name offset bytes) old to all =
      files_fit_first (all_but name (stored_file offset bytes)) (but_first name (stored_file offset bytes) (stored_file_first offset bytes)) old all
  files_left_first (SyncedInPart name spans) old to all = files_fit_first (all_but name (synced_file spans)) (but_first name (synced_file spans) (synced_file_first spans)) old all

  files_first : (mappings : List Mapping) (o : Option Action) (old : List File) → files_may_pass mappings o (reads ++ more) old ≡ true → files_may_pass mappings o reads old ≡ true
  files_first mappings None old all = each_file_first old all
  files_first mappings (Some action) old all = files_left_first ((meaning action).files_left mappings) old ((meaning action).files mappings old) all

-- what a state may show of reads of each kind it may show of the first
module _ (off : Machine) where
  volume_shown : (reads more : List PageRead) → volume_may_show off (reads ++ more) ≡ true → volume_may_show off reads ≡ true
  volume_shown reads more all =
      both_so (list_all (is_reply (4096 * off.geometry.vpages)) (reads ++ more))
      (volume_may_pass off.geometry off.interrupted (line_fits (reads ++ more)) off.volume (all_lines_read (reads ++ more)))
      (list_all (is_reply (4096 * off.geometry.vpages)) reads) (volume_may_pass off.geometry off.interrupted (line_fits reads) off.volume (all_lines_read reads))
      (first_pass (is_reply (4096 * off.geometry.vpages)) reads more)
      (λ passes. volume_first (line_fits (reads ++ more)) (line_fits reads) (all_lines_read reads) (all_lines_read more) (line_first reads more) off.geometry off.interrupted off.volume
      (lines_parted reads more (volume_may_pass off.geometry off.interrupted (line_fits (reads ++ more)) off.volume) passes)) all

  blocks_shown : (reads more : List BlockRead) → blocks_may_show off (reads ++ more) ≡ true → blocks_may_show off reads ≡ true
  blocks_shown reads more all =
      both_so (list_all (is_block_reply off.geometry.blocks) (reads ++ more)) (blocks_may_pass off.interrupted (block_fits (reads ++ more)) off.blocks (all_numbers_read (reads ++ more)))
      (list_all (is_block_reply off.geometry.blocks) reads) (blocks_may_pass off.interrupted (block_fits reads) off.blocks (all_numbers_read reads))
      (first_pass (is_block_reply off.geometry.blocks) reads more)
      (λ passes. blocks_first (block_fits (reads ++ more)) (block_fits reads) (all_numbers_read reads) (all_numbers_read more) (λ n block. first_pass _ reads more) off.interrupted off.blocks
      (sym (ap (blocks_may_pass off.interrupted (block_fits (reads ++ more)) off.blocks) (all_numbers_read-append reads more)) ∙ passes)) all

  -- of all that is asked, kind by kind
  by_kinds : (a : Asked) → may_show (look_of a) off ≡ (volume_may_show off a.volume && (blocks_may_show off a.blocks && files_may_show off a.files))
  by_kinds a =
      ap (λ rs. volume_may_show off rs && (blocks_may_show off (block_reads (look_of a)) && files_may_show off (file_reads (look_of a)))) (volume_back a)
      ∙ ap (λ rs. volume_may_show off a.volume && (blocks_may_show off rs && files_may_show off (file_reads (look_of a)))) (blocks_back a)
      ∙ ap (λ rs. volume_may_show off a.volume && (blocks_may_show off a.blocks && files_may_show off rs)) (files_back a)

  fewer_shown : (a b : Asked) → (volume_may_show off b.volume ≡ true → volume_may_show off a.volume ≡ true) → (blocks_may_show off b.blocks ≡ true → blocks_may_show off a.blocks ≡ true)
      → (files_may_show off b.files ≡ true → files_may_show off a.files ≡ true) → may_show (look_of b) off ≡ true → may_show (look_of a) off ≡ true
  fewer_shown a b volume blocks files shown =
      by_kinds a
      ∙ both_so (volume_may_show off b.volume) (blocks_may_show off b.blocks && files_may_show off b.files) (volume_may_show off a.volume) (blocks_may_show off a.blocks && files_may_show off a.files)
      volume (both_so (blocks_may_show off b.blocks) (files_may_show off b.files) (blocks_may_show off a.blocks) (files_may_show off a.files) blocks files) (sym (by_kinds b) ∙ shown)

  -- with one read more, and without it
  pub shorter_shown : (a : Asked) (seen : Seen) → may_show (look_of (and_seen a seen)) off ≡ true → may_show (look_of a) off ≡ true
  shorter_shown a (of_volume r) shown = fewer_shown a (and_seen a (of_volume r)) (volume_shown a.volume (r ∷ [])) (λ same. same) (λ same. same) shown
  shorter_shown a (of_blocks r) shown = fewer_shown a (and_seen a (of_blocks r)) (λ same. same) (blocks_shown a.blocks (r ∷ [])) (λ same. same) shown
  shorter_shown a (of_file r) shown =
      fewer_shown a (and_seen a (of_file r)) (λ same. same) (λ same. same) (files_first a.files (r ∷ []) off.mappings off.interrupted off.files) shown
