-- What is kept at the place that is found is of all that the look's reads touch, and marked as its rows in a table are.
use Rattle.std.proofs.Common.{◌≡◌, inl, inr, ℕ, ◌/◌, ◌*◌, ◌<◌, Bool, true, false, cond, Option, Some, None, List, [], ◌∷◌, ◌++◌, filter, length, map, option_map, is_some, refl, sym, ap, subst, ◌∙◌, arith}
use Rattle.std.specs.Option.{option_and_then}
use Rattle.word_tables.specs.declared.geometry.Geometry.{Geometry}
use Rattle.nvm_model.specs.Cell.{Cell}
use Rattle.nvm_model.specs.Page.{Page}
use Rattle.script_text.specs.Action.{Action, action_of}
use Rattle.script_text.specs.declared.command.Command.{Command}
use Rattle.cut_places.specs.MachineModel.Commands.{meaning, refusal, while_interrupted}
use Rattle.cut_places.specs.MachineModel.Machine.{Machine}
use Rattle.cut_places.specs.Outcomes.Blocks.{all_numbers_read}
use Rattle.cut_places.specs.Outcomes.Files.{FileRead}
use Rattle.cut_places.specs.Outcomes.Pages.{all_lines_read}
use Rattle.cut_places.specs.Outcomes.Seen.{Seen, may_show}
use Rattle.cut_places.specs.Outcomes.Finds.{IsReady}
use Rattle.cut_places.specs.Outcomes.Stops.{IsProgram, led_to}
use Rattle.cut_places.specs.AskedReads.Asking.{IsLook, blocks_of, files_asked, volume_asked}
use Rattle.cut_places.specs.AskedReads.Program.{inputs_of_lines}
use Rattle.cut_places.specs.AskedReads.declared.question.Question.{Question}
use Rattle.cut_places.specs.declared.place.CutPlace.{CutPlace}
use Rattle.cut_places.specs.declared.place.CutPlace.TheVariants.{Before, Inside}
use Rattle.cut_places.specs.declared.sight.Sight.{Sight}
use Rattle.cut_places.specs.FileCommands.{files_change}
use Rattle.cut_places.specs.FileFitting.{now_fits, reads_pass}
use Rattle.cut_places.specs.FilesState.{FilesState, name_seen}
use Rattle.cut_places.specs.SeesFiles.{SeesFile, SeesFiles, is_held}
use Rattle.nvm_model.specs.Listing.{file_name, file_of}
use Rattle.nvm_model.proofs.AlikeLemmas.{alike-found}
use Rattle.cut_places.specs.Following.{Follows, IsAt, IsFirst, IsWhole, IsWithin}
use Rattle.cut_places.specs.Places.{Stop, cut_places, first_stop}
use Rattle.cut_places.specs.Sights.{files_once_done}
use Rattle.cut_places.specs.SightsSeen.declared.line_seen.LineSeen.{LineSeen}
use Rattle.cut_places.specs.SightsSeen.declared.way.Way.{Way}
use Rattle.cut_places.specs.SightsSeen.Changing.{volume_change}
use Rattle.cut_places.specs.SightsSeen.Seeing.{seen}
use Rattle.cut_places.specs.SightsSeen.Ways.{blocks_way, lines_way}
use Rattle.cut_places.proofs.LeavingLemmas.{left_fits}
use Rattle.cut_places.proofs.LeftLinesLemmas.{AllHaveLines, left_have}
use Rattle.cut_places.proofs.SightsSeen.PassLemmas.{EachUnit}
use Rattle.cut_places.proofs.SeesLemmas.{sees_done}
use Rattle.cut_places.proofs.StepLemmas.{blocks_in, lines_of}
use Rattle.value_tables.specs.declared.shown.Shown.TheVariants.{Block}
use Rattle.value_tables.specs.Left.{block_left, file_left, line_left}
use Rattle.value_tables.specs.Listed.{HasWords, IsSound}
use Rattle.value_tables.specs.Sides.{AreBlocksLeft, AreFilesLeft, AreLeft, where_mixed}
use Rattle.value_tables.proofs.FileSideLemmas.{files_cut, files_rest}
use Rattle.value_tables.specs.Values.{cells_of}
use Rattle.value_tables.proofs.FileValueLemmas.{SideHasWords, sides_have}
use Rattle.cut_places.proofs.ValueLemmas.{changed_has, each_of}
use Rattle.value_tables.proofs.SoundLemmas.{places_sound}
use Rattle.value_tables.proofs.SideLemmas.{blocks_cut, blocks_rest, lines_cut, lines_rest}
use Rattle.witnesses.specs.declared.block_kept.BlockKept.{BlockKept}
use Rattle.witnesses.specs.declared.file_kept.FileLineKept.{FileLineKept}
use Rattle.witnesses.specs.declared.kept.Kept.{Kept as KeptAll}
use Rattle.witnesses.specs.declared.line_kept.LineKept.{LineKept}
use Rattle.witnesses.specs.Blocks.{block_kept, block_made, numbers_of_blocks}
use Rattle.witnesses.specs.declared.size_kept.SizeKept.{SizeKept}
use Rattle.witnesses.specs.Files.{files_kept, files_made, files_way, left_there, line_there, places_of, places_read}
use Rattle.cut_places.specs.Enough.{HasEach, IsEnough}
use Rattle.cut_places.specs.SightsSeen.Units.{AreLines, AreWithin}
use Rattle.witnesses.specs.Keeping.{Covers, LooksThere}
use Rattle.witnesses.proofs.HeldPlaceLemmas.{asked_held}
use Rattle.witnesses.specs.Leaving.{made_by, mixing}
use Rattle.witnesses.specs.Lines.{line_kept, line_made, numbers_of_lines}
use Rattle.witnesses.specs.Places.{IsReached, shows_at, state_at}
use Rattle.witnesses.specs.Sizes.{has_line, names_of_sizes, names_read, sizes_kept}
use Rattle.witnesses.specs.Telling.{told}
use Rattle.witnesses.proofs.FilesLemmas.{names_kept}
use Rattle.witnesses.proofs.FilesToldLemmas.{line_left_fits}
use Rattle.witnesses.proofs.KeepLemmas.{lines_fit, lines_there, numbers_kept, numbers_kept_of_blocks}
use Rattle.witnesses.proofs.ListLemmas.{IsAmong}
use Rattle.witnesses.proofs.SidesLemmas.{left_there_is}
use Rattle.witnesses.proofs.ThereLemmas.{shows_all}
use Rattle.witnesses.proofs.UnitLemmas.{all_parts, line_of, line_within}
use Rattle.explorer.specs.Choosing.{file_line_choices, has_choice, line_choices, size_choice}
use Rattle.explorer.specs.Finding.{IsFound, IsKept, action_on, inside_at}
use Rattle.explorer.specs.Tabulating.{LooksWithin}
use Rattle.explorer.proofs.FileMarkLemmas.{both_among, files_marked, have_cells, new_by}
use Rattle.explorer.proofs.MarkLemmas.{blocks_marked, lines_marked}
use Rattle.explorer.proofs.SizeMarkLemmas.{sizes_marked}
use Rattle.explorer.proofs.SoundLemmas.{first_is}

-- each file that is held has lines of the numbers that are held
seen_have : (held : FilesState) (h : Machine) → SeesFiles held h → AllHaveLines held.numbers held.files
seen_have held h sees name x found =
    let there = alike-found name_seen file_name (SeesFile held.numbers) name held.files h.files sees.files x found in (seen there.0.pages, there.3.held, there.3.lines)

unit_has : (cells : List Cell) (line : Cell) → EachUnit HasWords cells → IsAmong line cells → HasWords line
unit_has [] line each is = absurd is
unit_has (cell ∷ cells) line each (inl same) = subst HasWords (sym same) each.0
unit_has (cell ∷ cells) line each (inr later) = unit_has cells line each.1 later

-- and so once a command changed it
made_has : (geo : Geometry) (way : Option Way) (inside : Option Action) (s : LineSeen) → HasWords s.line → HasWords (line_made geo (mixing way inside) s).line
made_has geo None inside s has = has
made_has geo (Some way) None s has = has
made_has geo (Some way) (Some action) s has = changed_has (volume_change geo action) s.number s.line has

-- a line of a state that is sound
line_words : (h : Machine) (lines : List LineSeen) (s : LineSeen) → IsSound h → AreLines (seen h.volume) lines → AreWithin h.geometry lines → IsAmong s lines → HasWords s.line
line_words h lines s sound are within among =
    subst HasWords (sym (line_of (seen h.volume) lines s are among)) (sound.words s.number (page h.geometry h.volume sound.counted.pages (line_within h.geometry lines s within among)))
  where
    page : (geo : Geometry) (pages : List Page) → length pages ≡ geo.vpages → s.number < 64 * geo.vpages → s.number / 64 < length pages
    page geo pages size lt = subst (λ m. s.number / 64 < m) (sym size) (omega (arith, lt))

-- a question of a look within what is looked at
covers_of : (q looked : Question) (look all : List Seen) → IsLook look q → IsLook all looked → LooksWithin all look → Covers q looked
covers_of q looked look all is are under = record {
  lines = λ n among. subst (λ rs. IsAmong n (all_lines_read rs)) are.volume (under.lines n (subst (λ rs. IsAmong n (all_lines_read rs)) (sym is.volume) among));
  blocks = λ b among. subst (λ rs. IsAmong b (all_numbers_read rs)) are.blocks (under.blocks b (subst (λ rs. IsAmong b (all_numbers_read rs)) (sym is.blocks) among));
  files = λ place among. subst (λ rs. IsAmong place (places_read rs)) are.files (under.files place (subst (λ rs. IsAmong place (places_read rs)) (sym is.files) among));
}

-- What is looked at in a state that is sound is enough for it.
pub enough_for : (h : Machine) (q looked : Question) (now : Sight) (geo : Geometry) (look all : List Seen) → Follows now geo h → IsSound h → IsLook look q → IsLook all looked → IsWhole now looked
    → IsWithin now geo → LooksWithin all look → IsEnough now q
enough_for h q looked now geo look all follows sound is are whole within under =
    let covers = covers_of q looked look all is are under in record {
      lines = λ n among. subst (IsAmong n) (sym whole.lines) (covers.lines n among);
      blocks = λ b among. subst (IsAmong b) (sym whole.blocks) (covers.blocks b among);
      files = asked_held now.files.numbers (files_asked q) (files_asked looked) covers.files whole.files;
      words = λ s among. line_words h now.lines.items s sound follows.sees.lines (subst (λ g. AreWithin g now.lines.items) (sym follows.sizes) within.lines) among;
    }

module _ (h : Machine) (q looked : Question) (inside : Option Action) (now : Sight) (look all : List Seen) (follows : Follows now h.geometry h) (is : IsLook look q) (are : IsLook all looked)
    (whole : IsWhole now looked) (within : IsWithin now h.geometry) (under : LooksWithin all look) (shows : may_show look (state_at h inside) ≡ true) (reached : IsReached h inside)
    (sound : IsSound (state_at h inside)) where
  abbrev off : Machine
  off = state_at h inside

  lines_left : AreLeft (line_left off) now.lines.items (where_mixed (option_and_then lines_way inside) (map (line_made h.geometry inside) now.lines.items))
  lines_left = by_place inside reached
    where
      by_place : (o : Option Action) → IsReached h o → AreLeft (line_left (state_at h o)) now.lines.items (where_mixed (option_and_then lines_way o) (map (line_made h.geometry o) now.lines.items))
      by_place None can = lines_rest h follows.ready.settled now.lines.items follows.sees.lines
      by_place (Some action) can = lines_cut h action now.lines.items can follows.ready.whole.lines follows.sees.lines (lines_of h now follows.ready within)

  units_left : AreBlocksLeft (block_left off) now.blocks.items (where_mixed (option_and_then blocks_way inside) (map (block_made h.geometry inside) now.blocks.items))
  units_left = by_place inside reached
    where
      by_place : (o : Option Action) → IsReached h o → AreBlocksLeft (block_left (state_at h o)) now.blocks.items (where_mixed (option_and_then blocks_way o) (map (block_made h.geometry o) now.blocks.items))
      by_place None can = blocks_rest h follows.ready.settled now.blocks.items follows.sees.blocks
      by_place (Some action) can = blocks_cut h action now.blocks.items can follows.ready.whole.eight follows.sees.blocks (blocks_in h now follows.ready within)

  files_left : AreFilesLeft (file_left off) now.files (new_by (option_and_then (files_way now.files) inside) (made_by files_once_done inside now.files))
  files_left = by_place inside reached
    where
      mixed : (way : Option Way) (new : FilesState) → cond (is_some way) (Some new) None ≡ new_by way new
      mixed None new = refl
      mixed (Some way) new = refl

      by_place : (o : Option Action) → IsReached h o → AreFilesLeft (file_left (state_at h o)) now.files (new_by (option_and_then (files_way now.files) o) (made_by files_once_done o now.files))
      by_place None can = files_rest h now.files follows.sees.files follows.ready.settled
      by_place (Some action) can =
          subst (AreFilesLeft (file_left (while_interrupted h action)) now.files) (mixed (files_way now.files action) (files_once_done action now.files))
          (files_cut h now.files follows.sees.files action can follows.ready.whole (files_once_done action now.files) refl)

  have_words : (s : LineSeen) → IsAmong s now.lines.items → HasWords s.line
  have_words s among = by_place inside sound
    where
      by_place : (o : Option Action) → IsSound (state_at h o) → HasWords s.line
      by_place None at = line_words h now.lines.items s at follows.sees.lines within.lines among
      by_place (Some action) at = line_words (while_interrupted h action) now.lines.items s at follows.sees.lines within.lines among

  have_made : AllHaveLines now.files.numbers (files_made inside now.files).files
  have_made = by_place inside reached
    where
      by_way : (action : Action) → refusal h action ≡ None → (way : Option Way) → AllHaveLines now.files.numbers (made_by files_once_done (mixing way (Some action)) now.files).files
      by_way action can None = seen_have now.files h follows.sees.files
      by_way action can (Some way) =
          seen_have (files_once_done action now.files) (led_to h ((meaning action).comes h))
          (sees_done now.files h action (files_once_done action now.files) refl follows.sees.files follows.ready.whole can)

      by_place : (o : Option Action) → IsReached h o → AllHaveLines now.files.numbers (files_made o now.files).files
      by_place None can = seen_have now.files h follows.sees.files
      by_place (Some action) can = by_way action can (files_way now.files action)

  have_sides : (name : List ℕ) (p : ℕ) → EachUnit SideHasWords (file_left off name p)
  have_sides name p = sides_have name p off.mappings off.interrupted off.files sound.file_lines sound.file_values

  abbrev asked : List FileRead
  asked = files_asked q

  -- a line of a file that exists
  line_has : (name : List ℕ) (n : ℕ) (line : Cell) → is_held now.files.numbers n ≡ true → line_there n (file_of name_seen name (left_there inside asked now.files).files) ≡ Some line → HasEach line
  line_has name n line own there =
      let at : 8 * n / 8 ≡ n = omega arith in
      let page : 8 * n / 512 ≡ n / 64 = omega arith in
      let sides = files_left name (8 * n) (ap (is_held now.files.numbers) at ∙ own) in
      each_of line
      (unit_has (cells_of (file_left off name (8 * n))) line (have_cells (file_left off name (8 * n)) (have_sides name (8 * n)))
      (subst (λ ss. IsAmong line (cells_of ss)) (sym sides)
      (both_among n (8 * n) at page inside now.files name line (option_and_then (files_way now.files) inside) (left_there_is asked now.files name n line inside there))))

  covers : Covers q looked
  covers = covers_of q looked look all is are under

  pub looks_there : LooksThere h.geometry inside q looked now
  looks_there = record {
    whole = whole;
    within = within;
    covers = covers;
    words = λ s among. (each_of s.line (have_words s among), each_of _ (made_has h.geometry (option_and_then lines_way inside) inside s (have_words s among)));
    file_words = line_has;
  }

  shown : shows_at h.geometry inside q now ≡ true
  shown = shows_all h look q looked inside now follows is looks_there reached shows

  left_fit : reads_pass (now_fits asked) asked (left_there inside asked now.files).files ≡ true
  left_fit = left_fits asked now.files (option_map (files_change now.files.mappings.mappings) inside) (all_parts h.geometry inside q now shown).2

  have_left : AllHaveLines now.files.numbers (left_there inside asked now.files).files
  have_left = left_have now.files h inside asked follows.sees.files follows.ready.whole (λ action same. subst (IsReached h) same reached)

  module _ (kept : KeptAll) (lines : kept.lines.items ≡ map (line_kept h.geometry inside (volume_asked q) now.lines.items) now.lines.items)
      (blocks : kept.blocks.items ≡ map (block_kept h.geometry inside (blocks_of q) now.blocks.items) now.blocks.items)
      (sizes : kept.sizes.items ≡ sizes_kept inside (files_asked q) (files_asked looked) now.files) (files : kept.files.items ≡ files_kept inside (files_asked q) (files_asked looked) now.files)
      (told_so : may_show (look ++ told kept) off ≡ true) where
    abbrev reads : List FileRead
    reads = files_asked looked

    pub is_kept : IsKept all look off kept
    is_kept = record {
      shown = told_so;
      lines = ap numbers_of_lines lines ∙ numbers_kept h.geometry inside (volume_asked q) now.lines.items now.lines.items ∙ whole.lines ∙ ap all_lines_read (sym are.volume);
      blocks = ap numbers_of_blocks blocks ∙ numbers_kept_of_blocks h.geometry inside (blocks_of q) now.blocks.items now.blocks.items ∙ whole.blocks ∙ ap all_numbers_read (sym are.blocks);
      sizes = ap names_of_sizes sizes ∙ names_kept asked now.files (files_made inside now.files) (left_there inside asked now.files) reads ∙ ap names_read (sym are.files);
      files =
          lines_there h inside asked reads now.files follows.sees.files follows.ready.whole reached whole.files kept.sizes.items kept.files.items sizes files
          ∙ ap (λ rs. filter (has_line kept.sizes.items) (places_read rs)) (sym are.files);
      words =
          ap (map (λ (k : LineKept). k.free)) lines
          ∙ lines_marked h.geometry inside (volume_asked q) now.lines.items off lines_left (lines_fit h look q looked inside now follows is looks_there shows reached) have_words
          ∙ ap (map (line_choices off)) (whole.lines ∙ ap all_lines_read (sym are.volume));
      sights =
          ap (map (λ (k : BlockKept). k.free)) blocks ∙ blocks_marked h.geometry inside (blocks_of q) now.blocks.items off units_left
          ∙ ap (map (λ b. has_choice off (Block b))) (whole.blocks ∙ ap all_numbers_read (sym are.blocks));
      lengths =
          ap (map (λ (k : SizeKept). k.free)) sizes
          ∙ sizes_marked h inside now.files (left_there inside asked now.files) follows.sees.files follows.ready.settled follows.ready.whole reached reads
          ∙ ap (λ rs. map (size_choice off) (names_read rs)) (sym are.files);
      file_words =
          ap (map (λ (k : FileLineKept). k.free)) files
          ∙ files_marked inside asked now.files off files_left
          (λ name n line own there. line_left_fits asked reads now.files.numbers (left_there inside asked now.files).files left_fit covers.files whole.files have_left line_has name n line own there)
          (seen_have now.files h follows.sees.files) have_made have_sides reads whole.files
          ∙ ap (λ ks. map (file_line_choices off) (places_of ks)) (sym files);
    }

-- The same at a place of a program, where the sizes are those of the state.
module _ (program : List (Option Command)) (q looked : Question) (now : Sight) (geo : Geometry) (look all : List Seen) (is : IsLook look q) (are : IsLook all looked) (whole : IsWhole now looked)
    (within : IsWithin now geo) (under : LooksWithin all look) (kept : KeptAll) where
  -- what is found in that state, or inside the action
  module _ (inside : Option Action) (lines : kept.lines.items ≡ map (line_kept geo inside (volume_asked q) now.lines.items) now.lines.items)
      (blocks : kept.blocks.items ≡ map (block_kept geo inside (blocks_of q) now.blocks.items) now.blocks.items)
      (sizes : kept.sizes.items ≡ sizes_kept inside (files_asked q) (files_asked looked) now.files) (files : kept.files.items ≡ files_kept inside (files_asked q) (files_asked looked) now.files)
      (told_so : (h : Machine) → Follows now geo h → IsReached h inside → LooksThere geo inside q looked now → may_show look (state_at h inside) ≡ true
      → may_show (look ++ told kept) (state_at h inside) ≡ true) where
    in_state : (h : Machine) → Follows now geo h → IsReached h inside → may_show look (state_at h inside) ≡ true → IsSound (state_at h inside) → IsKept all look (state_at h inside) kept
    in_state h follows reached shows sound =
        let at : geo ≡ h.geometry = sym follows.sizes in
        let here = subst (λ g. Follows now g h) at follows in
        let there = subst (IsWithin now) at within in
        is_kept h q looked inside now look all here is are whole there under shows reached sound kept
        (subst (λ g. kept.lines.items ≡ map (line_kept g inside (volume_asked q) now.lines.items) now.lines.items) at lines)
        (subst (λ g. kept.blocks.items ≡ map (block_kept g inside (blocks_of q) now.blocks.items) now.blocks.items) at blocks) sizes files
        (told_so h follows reached (subst (λ g. LooksThere g inside q looked now) follows.sizes (looks_there h q looked inside now look all here is are whole there under shows reached sound)) shows)

    pub kept_there : (place : CutPlace) (state : Machine) → inside ≡ inside_at program place → IsAt program now geo place state → may_show look state ≡ true → IsSound state → IsKept all look state kept
    kept_there (Before n) state at follows shows sound =
        let none : inside ≡ None = at in
        subst (λ (s : Machine). IsKept all look s kept) (ap (state_at state) none)
        (in_state state follows (subst (IsReached state) (sym none) tt) (subst (λ (s : Machine). may_show look s ≡ true) (sym (ap (state_at state) none)) shows)
        (subst (λ (s : Machine). IsSound s) (sym (ap (state_at state) none)) sound))
    kept_there (Inside n) state at cut shows sound =
        let some : inside ≡ Some (action_of cut.0) = at ∙ ap action_on cut.1 in
        let where_cut : state ≡ state_at cut.2.before inside = cut.2.is ∙ sym (ap (state_at cut.2.before) some) in
        subst (λ (s : Machine). IsKept all look s kept) (sym where_cut)
        (in_state cut.2.before cut.2.follows (subst (IsReached cut.2.before) (sym some) cut.2.done) (subst (λ (s : Machine). may_show look s ≡ true) where_cut shows)
        (subst (λ (s : Machine). IsSound s) where_cut sound))

-- the first of some places passes
first_passes : (test : Machine → Bool) (stops : List Stop) (stop : Stop) → first_stop test stops ≡ Some stop → test stop.state ≡ true
first_passes test [] stop is = cc is
first_passes test (s ∷ stops) stop is = by_test (test s.state) refl is (first_passes test stops stop)
  where
    by_test : (b : Bool) → test s.state ≡ b → cond b (Some s) (first_stop test stops) ≡ Some stop → (first_stop test stops ≡ Some stop → test stop.state ≡ true) → test stop.state ≡ true
    by_test true passes found rest = let same : s ≡ stop = cc found in subst (λ (t : Stop). test t.state ≡ true) same passes
    by_test false fails found rest = rest found

-- The first place of a program that shows the look, and what is kept there.
pub found_kept : (program : List (Option Command)) (q looked : Question) (now : Sight) (geo : Geometry) (look all : List Seen) (place : CutPlace) (kept : KeptAll) (inside : Option Action) (h : Machine)
    → IsProgram (inputs_of_lines program) → IsReady h → IsSound h → IsFirst program look now geo (cut_places 1 h (inputs_of_lines program)) (Some place) → IsLook look q → IsLook all looked
    → IsWhole now looked → IsWithin now geo → LooksWithin all look → inside ≡ inside_at program place
    → kept.lines.items ≡ map (line_kept geo inside (volume_asked q) now.lines.items) now.lines.items → kept.blocks.items ≡ map (block_kept geo inside (blocks_of q) now.blocks.items) now.blocks.items
    → kept.sizes.items ≡ sizes_kept inside (files_asked q) (files_asked looked) now.files → kept.files.items ≡ files_kept inside (files_asked q) (files_asked looked) now.files
    → ((m : Machine) → Follows now geo m → IsReached m inside → LooksThere geo inside q looked now → may_show look (state_at m inside) ≡ true → may_show (look ++ told kept) (state_at m inside) ≡ true)
    → IsFound all look (first_stop (may_show look) (cut_places 1 h (inputs_of_lines program))) (Some (record { place = place; kept = kept }))
found_kept program q looked now geo look all place kept inside h can ready sound first is are whole within under at lines blocks sizes files told_so =
    let stops = cut_places 1 h (inputs_of_lines program) in
    subst (λ (stop : Option Stop). IsFound all look stop (Some (record { place = place; kept = kept }))) (sym first.1) (
      sym first.2,
      kept_there program q looked now geo look all is are whole within under kept inside lines blocks sizes files told_so place first.0.state at first.3
          (first_passes (may_show look) stops first.0 first.1)
          (first_is IsSound (may_show look) stops first.0 (places_sound (inputs_of_lines program) 1 h ready sound can) first.1),
    )
