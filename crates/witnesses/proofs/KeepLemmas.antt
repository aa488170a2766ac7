-- What is kept is left by a cut that leaves what the question asks.
use Rattle.std.proofs.Common.{◌≡◌, ℕ, ◌*◌, ◌/◌, true, cond, ◌&&◌, Option, List, [], ◌∷◌, ◌++◌, filter, flat_map, map, length, refl, sym, ap, ap₂, subst, ◌∙◌}
use Rattle.std.specs.List.{list_all}
use Rattle.std.specs.Option.{option_and_then}
use Rattle.std.proofs.lemmas.Bool.{and_from}
use Rattle.std.proofs.lemmas.List.Folds.{list_all-map}
use Rattle.word_tables.specs.declared.geometry.Geometry.{Geometry}
use Rattle.nvm_model.specs.Blocks.{nth}
use Rattle.nvm_model.specs.Cell.{Cell}
use Rattle.nvm_model.specs.Storage.{Block}
use Rattle.block_sights.specs.Sights.{Sight as Look, sight}
use Rattle.block_sights.specs.Sights.Sight.{Whole}
use Rattle.script_text.specs.Action.{Action}
use Rattle.cut_places.specs.MachineModel.Machine.{Machine}
use Rattle.cut_places.specs.Outcomes.Blocks.{BlockRead, all_numbers_read, block_fits, is_block_reply}
use Rattle.cut_places.specs.Outcomes.Files.{FileRead}
use Rattle.cut_places.specs.Outcomes.Pages.{PageRead, all_lines_read, is_reply, line_fits}
use Rattle.cut_places.specs.Outcomes.Seen.{Seen, files_may_show, may_show}
use Rattle.cut_places.specs.Outcomes.Seen.Seen.{of_blocks, of_file, of_volume}
use Rattle.cut_places.specs.AskedReads.declared.question.Question.{Question}
use Rattle.cut_places.specs.AskedReads.Asking.{IsLook, blocks_of, files_asked, may_be_file_reply, may_be_replies, volume_asked}
use Rattle.cut_places.specs.AskedReads.Fitting.{cell_fits, sight_fits}
use Rattle.cut_places.specs.SightsSeen.declared.line_seen.LineSeen.{LineSeen}
use Rattle.cut_places.specs.SightsSeen.declared.block_seen.BlockSeen.{BlockSeen}
use Rattle.cut_places.specs.FileLeaving.{fit_there}
use Rattle.cut_places.specs.FilesState.{FilesState}
use Rattle.cut_places.specs.SeesFiles.{SeesFiles, are_held}
use Rattle.cut_places.specs.declared.sight.Sight.{Sight}
use Rattle.cut_places.specs.Following.{Follows, IsWhole}
use Rattle.cut_places.specs.SightsSeen.Seeing.{seen}
use Rattle.cut_places.specs.SightsSeen.Units.{block_may_fit, block_numbers, line_may_fit, line_numbers}
use Rattle.cut_places.specs.SightsSeen.Ways.{blocks_way, lines_way}
use Rattle.cut_places.specs.Durable.Durable.{IsComplete}
use Rattle.cut_places.proofs.LeftLinesLemmas.{left_have}
use Rattle.cut_places.proofs.StepLemmas.{blocks_in}
use Rattle.witnesses.specs.declared.block_kept.BlockKept.{BlockKept}
use Rattle.witnesses.specs.declared.file_kept.FileLineKept.{FileLineKept}
use Rattle.witnesses.specs.declared.kept.Kept.{Kept}
use Rattle.witnesses.specs.declared.line_kept.LineKept.{LineKept}
use Rattle.witnesses.specs.declared.size_kept.SizeKept.{SizeKept}
use Rattle.witnesses.specs.Blocks.{block_kept, block_left, block_made, numbers_of_blocks}
use Rattle.witnesses.specs.Files.{files_kept, files_made, left_there, places_of, places_read}
use Rattle.witnesses.specs.Keeping.{LooksThere}
use Rattle.witnesses.specs.Leaving.{stays}
use Rattle.witnesses.specs.Lines.{left_of, line_kept, line_left, line_made, numbers_of_lines}
use Rattle.witnesses.specs.Places.{IsReached, shows_at, state_at}
use Rattle.witnesses.specs.Sizes.{has_line, sizes_kept}
use Rattle.witnesses.specs.Telling.{block_told, file_told, line_told, size_told, told}
use Rattle.witnesses.proofs.AskedLemmas.{block_reply_is, blocks_looked, blocks_told, line_reply_is, files_told, lines_looked, told_question, volume_told}
use Rattle.witnesses.proofs.BlockToldLemmas.{told_as as block_told_as, kept_fits as block_kept_fits, told_fits as block_told_fits}
use Rattle.witnesses.proofs.FilesLemmas.{files_kept_shown, files_tale, kept_tale, none_fit, places_kept}
use Rattle.witnesses.proofs.LeavingLemmas.{left_fits, left_passes, stays_same}
use Rattle.witnesses.proofs.LineToldLemmas.{line_told_as, kept_fits as line_kept_fits, told_fits as line_told_fits}
use Rattle.witnesses.proofs.ListLemmas.{IsAmong, all_from}
use Rattle.witnesses.proofs.ThereLemmas.{block_replies, blocks_among, lines_among, replies, shows_all}
use Rattle.witnesses.proofs.SeenLemmas.{blocks_in as blocks_read_in, both_shown, files_in, look_of, tale_of, volume_in}
use Rattle.witnesses.proofs.UnitLemmas.{all_parts, block_number, block_of, block_same, block_within, change_at, from_numbers, from_parts, geometry_at, line_number, line_of, line_same, line_within, shown_at, sized, there}

module _ (h : Machine) (look : List Seen) (q looked : Question) (inside : Option Action) (now : Sight) (follows : Follows now h.geometry h) (is : IsLook look q)
    (looks : LooksThere h.geometry inside q looked now) (shows : may_show look (state_at h inside) ≡ true) (reached : IsReached h inside) where
  shown : shows_at h.geometry inside q now ≡ true
  shown = shows_all h look q looked inside now follows is looks reached shows

  abbrev geo : Geometry
  geo = h.geometry

  abbrev lines : List LineSeen
  lines = now.lines.items

  abbrev units : List BlockSeen
  units = now.blocks.items

  abbrev pub cell : LineSeen → Cell
  cell s = (line_left h.geometry inside (volume_asked q) now.lines.items s).line

  abbrev pub block : BlockSeen → Look
  block s = (block_left h.geometry inside (blocks_of q) now.blocks.items s).block

  pub lines_fit : (s : LineSeen) → IsAmong s lines → cell_fits (volume_asked q) s.number (cell s) ≡ true
  lines_fit s among =
      ap (λ n. cell_fits (volume_asked q) n (cell s)) (sym (line_number geo inside (stays (option_and_then lines_way inside) (line_may_fit q) (λ (t : LineSeen). t.number / 64) lines s) s))
      ∙ left_fits (line_may_fit q) (line_made geo inside) (λ (t : LineSeen). t.number / 64) lines (option_and_then lines_way inside) (all_parts geo inside q now shown).0 s among

  units_fit : (s : BlockSeen) → IsAmong s units → sight_fits (blocks_of q) s.number (block s) ≡ true
  units_fit s among =
      ap (λ n. sight_fits (blocks_of q) n (block s)) (sym (block_number geo inside (stays (option_and_then blocks_way inside) (block_may_fit q) (λ (t : BlockSeen). t.number) units s) s))
      ∙ left_fits (block_may_fit q) (block_made geo inside) (λ (t : BlockSeen). t.number) units (option_and_then blocks_way inside) (all_parts geo inside q now shown).1 s among

  lines_alike : (s t : LineSeen) → IsAmong s lines → IsAmong t lines → s.number ≡ t.number → cell s ≡ cell t
  lines_alike s t among also number =
      let line : s.line ≡ t.line =
      line_of (seen h.volume) lines s follows.sees.lines among ∙ ap (seen h.volume) number ∙ sym (line_of (seen h.volume) lines t follows.sees.lines also) in
      let fits : line_may_fit q s ≡ line_may_fit q t = ap (λ n. cell_fits (volume_asked q) n s.line) number ∙ ap (cell_fits (volume_asked q) t.number) line in
      ap (λ b. (cond b s (line_made geo inside s)).line)
      (stays_same (line_may_fit q) (line_made geo inside) (λ (u : LineSeen). u.number / 64) lines (option_and_then lines_way inside) s t fits (ap (λ n. n / 64) number))
      ∙ line_same geo inside (stays (option_and_then lines_way inside) (line_may_fit q) (λ (u : LineSeen). u.number / 64) lines t) s t number line

  units_alike : (s t : BlockSeen) → IsAmong s units → IsAmong t units → s.number ≡ t.number → block s ≡ block t
  units_alike s t among also number =
      let same : s.block ≡ t.block =
      block_of (λ b. sight (nth h.blocks b)) units s follows.sees.blocks among ∙ ap (λ b. sight (nth h.blocks b)) number ∙ sym (block_of (λ b. sight (nth h.blocks b)) units t follows.sees.blocks also) in
      let fits : block_may_fit q s ≡ block_may_fit q t = ap (λ n. sight_fits (blocks_of q) n s.block) number ∙ ap (sight_fits (blocks_of q) t.number) same in
      ap (λ b. (cond b s (block_made geo inside s)).block)
      (stays_same (block_may_fit q) (block_made geo inside) (λ (u : BlockSeen). u.number) units (option_and_then blocks_way inside) s t fits number)
      ∙ block_same geo inside (stays (option_and_then blocks_way inside) (block_may_fit q) (λ (u : BlockSeen). u.number) units t) s t number same

  abbrev pages_told : List PageRead
  pages_told = map (line_told_as (volume_asked q) cell) lines

  abbrev blocks_told_so : List BlockRead
  blocks_told_so = map (block_told_as block) units

  abbrev asks : Question
  asks = told_question (volume_asked q) cell block now

  line_passes : (s : LineSeen) → IsAmong s lines → line_may_fit asks (line_left geo inside (volume_asked q) lines s) ≡ true
  line_passes s among =
      ap (λ rs. cell_fits rs (line_left geo inside (volume_asked q) lines s).number (cell s)) (volume_told (volume_asked q) cell block now)
      ∙ ap (λ n. cell_fits pages_told n (cell s)) (line_number geo inside (stays (option_and_then lines_way inside) (line_may_fit q) (λ (t : LineSeen). t.number / 64) lines s) s)
      ∙ line_kept_fits (λ (t : LineSeen). t.number) (volume_asked q) lines cell lines_fit lines_alike s among

  unit_passes : (s : BlockSeen) → IsAmong s units → block_may_fit asks (block_left geo inside (blocks_of q) units s) ≡ true
  unit_passes s among =
      ap (λ rs. sight_fits rs (block_left geo inside (blocks_of q) units s).number (block s)) (blocks_told (volume_asked q) cell block now)
      ∙ ap (λ n. sight_fits blocks_told_so n (block s)) (block_number geo inside (stays (option_and_then blocks_way inside) (block_may_fit q) (λ (t : BlockSeen). t.number) units s) s)
      ∙ block_kept_fits (blocks_of q) units block units_fit units_alike s among

  block_sized : (s : BlockSeen) → IsAmong s units → (bytes : List ℕ) → block s ≡ Whole bytes → length bytes ≡ 512
  block_sized s among bytes is_whole =
      sized h inside s (block_of (λ b. sight (nth h.blocks b)) units s follows.sees.blocks among) reached follows.ready.whole.eight
      (there h.blocks units s (blocks_in h now follows.ready looks.within) among) (stays (option_and_then blocks_way inside) (block_may_fit q) (λ (t : BlockSeen). t.number) units s) bytes is_whole

  -- each told read has a reply that a read has
  told_replies : may_be_replies geo asks ≡ true
  told_replies =
      and_from (list_all (is_reply (4096 * geo.vpages)) (volume_asked asks)) (list_all (is_block_reply geo.blocks) (blocks_of asks) && list_all may_be_file_reply (files_asked asks))
      (ap (list_all (is_reply (4096 * geo.vpages))) (volume_told (volume_asked q) cell block now)
      ∙ list_all-map (is_reply (4096 * geo.vpages)) (line_told_as (volume_asked q) cell) lines
      ∙ all_from (λ s. is_reply (4096 * geo.vpages) (line_told_as (volume_asked q) cell s)) lines
      (λ s among. line_reply_is geo.vpages s.number (left_of (volume_asked q) s.number (cell s)) (line_within geo lines s looks.within.lines among)))
      (and_from (list_all (is_block_reply geo.blocks) (blocks_of asks)) (list_all may_be_file_reply (files_asked asks))
      (ap (list_all (is_block_reply geo.blocks)) (blocks_told (volume_asked q) cell block now)
      ∙ list_all-map (is_block_reply geo.blocks) (block_told_as block) units
      ∙ all_from (λ s. is_block_reply geo.blocks (block_told_as block s)) units
      (λ s among. block_reply_is geo.blocks s.number (block s) (block_sized s among) (block_within geo units s looks.within.blocks among)))
      (ap (list_all may_be_file_reply) (files_told (volume_asked q) cell block now)))

  told_look : IsLook (look_of pages_told blocks_told_so) asks
  told_look = record {
    volume = volume_in pages_told blocks_told_so ∙ sym (volume_told (volume_asked q) cell block now);
    blocks = blocks_read_in pages_told blocks_told_so ∙ sym (blocks_told (volume_asked q) cell block now);
    files = files_in pages_told blocks_told_so ∙ sym (files_told (volume_asked q) cell block now);
  }

  told_whole : IsWhole now asks
  told_whole = record {
    lines = sym (ap all_lines_read (volume_told (volume_asked q) cell block now) ∙ lines_looked (volume_asked q) cell block lines);
    blocks = sym (ap all_numbers_read (blocks_told (volume_asked q) cell block now) ∙ blocks_looked (volume_asked q) cell block units);
    files = ap (are_held now.files.numbers) (files_told (volume_asked q) cell block now);
  }

  -- the state may show all that is told
  told_shown : may_show (look_of pages_told blocks_told_so) (state_at h inside) ≡ true
  told_shown =
      shown_at h (look_of pages_told blocks_told_so) asks inside now follows told_look told_whole looks.within told_replies
      (from_parts geo inside asks now
      (left_passes (line_may_fit q) (line_made geo inside) (λ (s : LineSeen). s.number / 64) lines (line_may_fit asks) (option_and_then lines_way inside) line_passes)
      (left_passes (block_may_fit q) (block_made geo inside) (λ (s : BlockSeen). s.number) units (block_may_fit asks) (option_and_then blocks_way inside) unit_passes)
      (ap (λ rs. fit_there (change_at inside now) rs now.files) (files_told (volume_asked q) cell block now) ∙ none_fit (change_at inside now) now.files))
      reached

  -- and what is told of files
  abbrev files_told_so : List FileRead
  files_told_so = files_tale (files_asked q) (files_asked looked) (left_there inside (files_asked q) now.files).files

  files_shown : files_may_show (state_at h inside) (files_asked q ++ files_told_so) ≡ true
  files_shown =
      files_kept_shown h inside now.files (files_asked q) (files_asked looked) follows.ready.settled follows.sees.files follows.ready.whole reached looks.covers.files looks.whole.files
      (all_parts geo inside q now shown).2 looks.file_words

  -- and what is asked with it
  pub kept_shown : may_show (look ++ tale_of pages_told blocks_told_so files_told_so) (state_at h inside) ≡ true
  kept_shown =
      let off = state_at h inside in
      both_shown off look pages_told (volume_asked q) blocks_told_so (blocks_of q) is.volume is.blocks (files_asked q) files_told_so is.files told_shown files_shown
      (λ n among. subst (IsAmong n) (sym (lines_looked (volume_asked q) cell block lines)) (lines_among h look q looked inside now follows is looks reached shows n among))
      (λ n among. subst (IsAmong n) (sym (blocks_looked (volume_asked q) cell block units)) (blocks_among h look q looked inside now follows is looks reached shows n among))
      (ap (λ (g : Geometry). list_all (is_reply (4096 * g.vpages)) (volume_asked q)) (geometry_at h inside) ∙ replies h look q looked inside now follows is looks reached shows)
      (ap (λ (g : Geometry). list_all (is_block_reply g.blocks) (blocks_of q)) (geometry_at h inside) ∙ block_replies h look q looked inside now follows is looks reached shows)
      (λ n among.
      from_numbers (λ (s : LineSeen). s.number) lines (λ n. (o : Option Cell) → line_fits pages_told n o ≡ true → line_fits (volume_asked q ++ pages_told) n o ≡ true)
      (line_told_fits (λ (t : LineSeen). t.number) (volume_asked q) lines cell lines_fit lines_alike) n (subst (IsAmong n) (lines_looked (volume_asked q) cell block lines) among))
      (λ n among.
      from_numbers (λ (s : BlockSeen). s.number) units (λ n. (b : Block) → block_fits blocks_told_so n b ≡ true → block_fits (blocks_of q ++ blocks_told_so) n b ≡ true)
      (block_told_fits (blocks_of q) units block units_fit units_alike) n (subst (IsAmong n) (blocks_looked (volume_asked q) cell block units) among))

  told_lines : (all lines : List LineSeen) → map (λ (k : LineKept). of_volume (line_told k)) (map (line_kept geo inside (volume_asked q) all) lines)
      ≡ map of_volume (map (line_told_as (volume_asked q) (λ s. (line_left geo inside (volume_asked q) all s).line)) lines)
  told_lines all [] = refl
  told_lines all (s ∷ lines) = ap (λ seen. of_volume (line_told (line_kept geo inside (volume_asked q) all s)) ∷ seen) (told_lines all lines)

  told_units : (all units : List BlockSeen) → map (λ (k : BlockKept). of_blocks (block_told k)) (map (block_kept geo inside (blocks_of q) all) units)
      ≡ map of_blocks (map (block_told_as (λ s. (block_left geo inside (blocks_of q) all s).block)) units)
  told_units all [] = refl
  told_units all (s ∷ units) = ap (λ seen. of_blocks (block_told (block_kept geo inside (blocks_of q) all s)) ∷ seen) (told_units all units)

  -- what is told of all that is kept is that
  pub kept_told : (kept : Kept) → kept.lines.items ≡ map (line_kept geo inside (volume_asked q) lines) lines → kept.blocks.items ≡ map (block_kept geo inside (blocks_of q) units) units
      → kept.sizes.items ≡ sizes_kept inside (files_asked q) (files_asked looked) now.files → kept.files.items ≡ files_kept inside (files_asked q) (files_asked looked) now.files
      → may_show (look ++ told kept) (state_at h inside) ≡ true
  kept_told kept of_lines of_units of_sizes of_files =
      ap (λ seen. may_show (look ++ seen) (state_at h inside))
      (ap₂ (λ xs ys. xs ++ ys)
      (ap (map (λ (k : LineKept). of_volume (line_told k))) of_lines ∙ told_lines lines lines)
      (ap₂ (λ xs ys. xs ++ ys)
      (ap (map (λ (k : BlockKept). of_blocks (block_told k))) of_units ∙ told_units units units)
      (ap (map of_file)
      (ap₂ (λ xs ys. map file_told xs ++ flat_map size_told ys) of_files of_sizes
      ∙ kept_tale (files_asked q) now.files (files_made inside now.files) (left_there inside (files_asked q) now.files) (files_asked looked)))))
      ∙ kept_shown

-- the same where the sizes are those of the state
pub kept_so : (h : Machine) (look : List Seen) (q looked : Question) (inside : Option Action) (now : Sight) (sizes : Geometry) (kept : Kept) → Follows now sizes h → IsLook look q
    → LooksThere sizes inside q looked now → may_show look (state_at h inside) ≡ true → IsReached h inside
    → kept.lines.items ≡ map (line_kept sizes inside (volume_asked q) now.lines.items) now.lines.items → kept.blocks.items ≡ map (block_kept sizes inside (blocks_of q) now.blocks.items) now.blocks.items
    → kept.sizes.items ≡ sizes_kept inside (files_asked q) (files_asked looked) now.files → kept.files.items ≡ files_kept inside (files_asked q) (files_asked looked) now.files
    → may_show (look ++ told kept) (state_at h inside) ≡ true
kept_so h look q looked inside now sizes kept follows is looks shown reached lines blocks lengths files =
    let at : sizes ≡ h.geometry = sym follows.sizes in
    kept_told h look q looked inside now (subst (λ g. Follows now g h) at follows) is (subst (λ g. LooksThere g inside q looked now) at looks) shown reached kept
    (subst (λ g. kept.lines.items ≡ map (line_kept g inside (volume_asked q) now.lines.items) now.lines.items) at lines)
    (subst (λ g. kept.blocks.items ≡ map (block_kept g inside (blocks_of q) now.blocks.items) now.blocks.items) at blocks) lengths files

-- what is kept has the numbers of what is looked at
pub numbers_kept : (sizes : Geometry) (inside : Option Action) (reads : List PageRead) (all lines : List LineSeen) → numbers_of_lines (map (line_kept sizes inside reads all) lines) ≡ line_numbers lines
numbers_kept sizes inside reads all [] = refl
numbers_kept sizes inside reads all (s ∷ lines) = ap (λ ns. s.number ∷ ns) (numbers_kept sizes inside reads all lines)

pub numbers_kept_of_blocks : (sizes : Geometry) (inside : Option Action) (reads : List BlockRead) (all units : List BlockSeen) → numbers_of_blocks (map (block_kept sizes inside reads all) units) ≡ block_numbers units
numbers_kept_of_blocks sizes inside reads all [] = refl
numbers_kept_of_blocks sizes inside reads all (s ∷ units) = ap (λ ns. s.number ∷ ns) (numbers_kept_of_blocks sizes inside reads all units)

-- and the lines of files are those that exist, by the lengths that are kept
pub lines_there : (h : Machine) (inside : Option Action) (asked looked : List FileRead) (s : FilesState) → SeesFiles s h → IsComplete h → IsReached h inside → are_held s.numbers looked ≡ true
    → (sizes : List SizeKept) (kept : List FileLineKept) → sizes ≡ sizes_kept inside asked looked s → kept ≡ files_kept inside asked looked s → places_of kept ≡ filter (has_line sizes) (places_read looked)
lines_there h inside asked looked s sees complete reached held sizes kept of_sizes of_lines =
    ap places_of of_lines
    ∙ places_kept asked s (files_made inside s) (left_there inside asked s) looked s.numbers held (left_have s h inside asked sees complete (λ action is. subst (IsReached h) is reached))
    ∙ sym (ap (λ ks. filter (has_line ks) (places_read looked)) of_sizes)
