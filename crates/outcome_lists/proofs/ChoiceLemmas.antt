-- What a place may show of one part is one of its choices.
use Rattle.std.proofs.Common.{◌≡◌, ◌||◌, ℕ, ◌*◌, ◌/◌, ◌%◌, ◌<◌, Bool, true, false, Option, Some, None, List, [], ◌∷◌, length, map, refl, sym, ap, subst, ◌∙◌, arith}
use Rattle.std.specs.Prelude.{All}
use Rattle.std.specs.List.{list_any}
use Rattle.std.proofs.lemmas.List.Elements.{All-weaker}
use Rattle.word_tables.specs.declared.geometry.Geometry.{Geometry}
use Rattle.nvm_model.specs.Blocks.{nth}
use Rattle.nvm_model.specs.Cell.{Cell}
use Rattle.nvm_model.specs.Page.{Page}
use Rattle.nvm_model.specs.Storage.{Block, File, Mapping}
use Rattle.block_sights.specs.Sights.{Sight, sight}
use Rattle.script_text.specs.Action.{Action}
use Rattle.script_text.specs.Script.{Input}
use Rattle.explorer.specs.MachineModel.Machine.{Machine}
use Rattle.explorer.specs.MachineModel.Commands.{while_interrupted}
use Rattle.explorer.specs.Outcomes.Finds.{IsReady}
use Rattle.explorer.specs.Outcomes.Pages.PageReply.{Shows}
use Rattle.explorer.specs.Outcomes.Seen.{may_show}
use Rattle.explorer.specs.Outcomes.Stops.{IsProgram}
use Rattle.explorer.specs.AskedReads.declared.read.Read.TheVariants.{Volume, Blocks, File as OfFile}
use Rattle.explorer.specs.SightsSeen.BlockTelling.{same_sight}
use Rattle.explorer.specs.SightsSeen.Seeing.{seen}
use Rattle.explorer.specs.CutPlaces.Places.{Stop, cut_places}
use Rattle.explorer.specs.ValueTables.Left.{FileSide, block_left, blocks_left, file_left, file_side, files_left, line_left, lines_left}
use Rattle.explorer.specs.ValueTables.Left.FileSide.{NoFile, PastEnd, OfLine}
use Rattle.explorer.specs.ValueTables.Listed.{IsSized, IsSound, block_read, file_word_read, has_bytes, lists_bytes, lists_sight, reply_of, word_read}
use Rattle.explorer.specs.ValueTables.Values.{cells_of, history_of, values_with}
use Rattle.explorer.proofs.ValueTables.BlockLemmas.{blocks_listed}
use Rattle.explorer.proofs.ValueTables.FileListedLemmas.{file_words_listed}
use Rattle.explorer.proofs.ValueTables.ListedLemmas.{words_listed}
use Rattle.explorer.proofs.ValueTables.OnceLemmas.{any_sight, any_value}
use Rattle.outcome_lists.specs.Choices.{sights_through, states, values_through}
use Rattle.outcome_lists.proofs.WayLemmas.{all_had, block_made, line_made, one_only, side_made}

any_mapped : {A B : Type 0} (test : B → Bool) (f : A → B) (xs : List A) → list_any test (map f xs) ≡ list_any (λ x. test (f x)) xs
any_mapped test f [] = refl
any_mapped test f (x ∷ xs) = ap (λ b. test (f x) || b) (any_mapped test f xs)

-- a test of the line that a word may be sought in
abbrev line_passes : (Cell → Bool) → FileSide → Bool
line_passes test NoFile = false
line_passes test PastEnd = false
line_passes test (OfLine cell) = test cell

any_cell : (test : Cell → Bool) (sides : List FileSide) → list_any test (cells_of sides) ≡ list_any (line_passes test) sides
any_cell test [] = refl
any_cell test (NoFile ∷ sides) = any_cell test sides
any_cell test (PastEnd ∷ sides) = any_cell test sides
any_cell test (OfLine cell ∷ sides) = ap (λ b. test cell || b) (any_cell test sides)

-- a test that is another one, at each place
told : (may : Machine → Bool) (test other : Bool) → test ≡ other → (stops : List Stop) → All (λ (stop : Stop). may stop.state ≡ true → other ≡ true) stops
    → All (λ (stop : Stop). may stop.state ≡ true → test ≡ true) stops
told may test other is stops had =
    All-weaker (λ (stop : Stop). may stop.state ≡ true → other ≡ true) (λ (stop : Stop). may stop.state ≡ true → test ≡ true) (λ stop one shown. is ∙ one shown) stops had

-- where nothing is interrupted all is as it is
line_rest : (test : Cell → Bool) (geo : Geometry) (o : Option Action) (pages : List Page) (n : ℕ) → o ≡ None → list_any test (lines_left geo o pages n) ≡ true → test (seen pages n) ≡ true
line_rest test geo None pages n none some = one_only (test (seen pages n)) some
line_rest test geo (Some action) pages n none some = cc none

block_rest : (test : Sight → Bool) (o : Option Action) (blocks : List Block) (b : ℕ) → o ≡ None → list_any test (blocks_left o blocks b) ≡ true → test (sight (nth blocks b)) ≡ true
block_rest test None blocks b none some = one_only (test (sight (nth blocks b))) some
block_rest test (Some action) blocks b none some = cc none

side_rest : (test : FileSide → Bool) (mappings : List Mapping) (o : Option Action) (files : List File) (name : List ℕ) (p : ℕ) → o ≡ None
    → list_any test (files_left mappings o files name p) ≡ true → test (file_side name p files) ≡ true
side_rest test mappings None files name p none some = one_only (test (file_side name p files)) some
side_rest test mappings (Some action) files name p none some = cc none

module _ (h : Machine) (program : List Input) (ready : IsReady h) (sound : IsSound h) (is_program : IsProgram program) where
  -- a word of the volume, or of a file
  module _ (p : ℕ) (bytes : List ℕ) (eight : length bytes ≡ 8) where
    abbrev test : Cell → Bool
    test cell = list_any (has_bytes bytes) (history_of (p % 8) cell)

    word_in_line : 8 * p / 8 % 8 ≡ p % 8
    word_in_line = omega arith

    pub words : p < 512 * h.geometry.vpages
        → All (λ (stop : Stop). may_show (word_read p (Shows bytes)) stop.state ≡ true → lists_bytes bytes (values_through (Volume (8 * p) 8) [] (states h program)) ≡ true) (cut_places 1 h program)
    words within =
        told (may_show (word_read p (Shows bytes))) (lists_bytes bytes (values_through (Volume (8 * p) 8) [] (states h program))) (list_any has (states h program)) listed (cut_places 1 h program)
        (all_had h.geometry has (may_show (word_read p (Shows bytes)))
        (λ m rests sounds size shown. line_rest test m.geometry m.interrupted m.volume (p / 8) rests.settled (left m sounds size shown))
        (λ m to action rests sounds size made shown. subst (λ pages. (has m || test (seen pages (p / 8))) ≡ true) (sym made.volume)
        (line_made test m.geometry action m.volume (p / 8) (left (while_interrupted m action) sounds size shown)))
        program 1 h ready sound refl is_program)
      where
        has : Machine → Bool
        has m = test (seen m.volume (p / 8))

        left : (m : Machine) → IsSound m → m.geometry ≡ h.geometry → may_show (word_read p (Shows bytes)) m ≡ true → list_any test (line_left m (p / 8)) ≡ true
        left m sounds size shown =
            sym (any_value (has_bytes bytes) (p % 8) [] (line_left m (p / 8)))
            ∙ words_listed m p sounds (subst (λ (geo : Geometry). p < 512 * geo.vpages) (sym size) within) bytes eight ∙ shown

        listed : lists_bytes bytes (values_through (Volume (8 * p) 8) [] (states h program)) ≡ list_any has (states h program)
        listed =
            let line : 8 * p / 64 ≡ p / 8 = omega arith in
            ap (λ w. lists_bytes bytes (values_with w [] (map (λ (m : Machine). seen m.volume (8 * p / 64)) (states h program)))) word_in_line
            ∙ ap (λ n. lists_bytes bytes (values_with (p % 8) [] (map (λ (m : Machine). seen m.volume n) (states h program)))) line
            ∙ any_value (has_bytes bytes) (p % 8) [] (map (λ (m : Machine). seen m.volume (p / 8)) (states h program))
            ∙ any_mapped test (λ (m : Machine). seen m.volume (p / 8)) (states h program)

    pub file_words : (name : List ℕ)
        → All (λ (stop : Stop). may_show (file_word_read name p (Shows bytes)) stop.state ≡ true → lists_bytes bytes (values_through (OfFile name (8 * p) 8) [] (states h program)) ≡ true) (cut_places 1 h program)
    file_words name =
        told (may_show (file_word_read name p (Shows bytes))) (lists_bytes bytes (values_through (OfFile name (8 * p) 8) [] (states h program))) (list_any has (states h program)) listed (cut_places 1 h program)
        (all_had h.geometry has (may_show (file_word_read name p (Shows bytes)))
        (λ m rests sounds size shown. side_rest (line_passes test) m.mappings m.interrupted m.files name p rests.settled (left m sounds shown))
        (λ m to action rests sounds size made shown. subst (λ files. (has m || line_passes test (file_side name p files)) ≡ true) (sym made.files)
        (side_made (line_passes test) m.mappings action m.files name p (left (while_interrupted m action) sounds shown)))
        program 1 h ready sound refl is_program)
      where
        has : Machine → Bool
        has m = line_passes test (file_side name p m.files)

        left : (m : Machine) → IsSound m → may_show (file_word_read name p (Shows bytes)) m ≡ true → list_any (line_passes test) (file_left m name p) ≡ true
        left m sounds shown =
            sym (any_value (has_bytes bytes) (p % 8) [] (cells_of (file_left m name p)) ∙ any_cell test (file_left m name p))
            ∙ file_words_listed m name p sounds.file_lines sounds.file_values bytes eight ∙ shown

        listed : lists_bytes bytes (values_through (OfFile name (8 * p) 8) [] (states h program)) ≡ list_any has (states h program)
        listed =
            let word : 8 * p / 8 ≡ p = omega arith in
            ap (λ q. lists_bytes bytes (values_with (q % 8) [] (cells_of (map (λ (m : Machine). file_side name q m.files) (states h program))))) word
            ∙ any_value (has_bytes bytes) (p % 8) [] (cells_of (map (λ (m : Machine). file_side name p m.files) (states h program)))
            ∙ any_cell test (map (λ (m : Machine). file_side name p m.files) (states h program))
            ∙ any_mapped (line_passes test) (λ (m : Machine). file_side name p m.files) (states h program)

  -- a block
  pub blocks : (b : ℕ) (to_see : Sight) → b < h.geometry.blocks → IsSized to_see
      → All (λ (stop : Stop). may_show (block_read b (reply_of b to_see)) stop.state ≡ true → lists_sight to_see (sights_through (Blocks b 1) [] (states h program)) ≡ true) (cut_places 1 h program)
  blocks b to_see within sized =
      told (may_show (block_read b (reply_of b to_see))) (lists_sight to_see (sights_through (Blocks b 1) [] (states h program))) (list_any has (states h program)) listed (cut_places 1 h program)
      (all_had h.geometry has (may_show (block_read b (reply_of b to_see)))
      (λ m rests sounds size shown. block_rest (same_sight to_see) m.interrupted m.blocks b rests.settled (left m size shown))
      (λ m to action rests sounds size made shown. subst (λ after. (has m || same_sight to_see (sight (nth after b))) ≡ true) (sym made.blocks)
      (block_made (same_sight to_see) action m.blocks b (left (while_interrupted m action) size shown)))
      program 1 h ready sound refl is_program)
    where
      has : Machine → Bool
      has m = same_sight to_see (sight (nth m.blocks b))

      left : (m : Machine) → m.geometry ≡ h.geometry → may_show (block_read b (reply_of b to_see)) m ≡ true → list_any (same_sight to_see) (block_left m b) ≡ true
      left m size shown =
          sym (any_sight (same_sight to_see) (block_left m b))
          ∙ blocks_listed m b (subst (λ (geo : Geometry). b < geo.blocks) (sym size) within) to_see sized ∙ shown

      listed : lists_sight to_see (sights_through (Blocks b 1) [] (states h program)) ≡ list_any has (states h program)
      listed =
          any_sight (same_sight to_see) (map (λ (m : Machine). sight (nth m.blocks b)) (states h program))
          ∙ any_mapped (same_sight to_see) (λ (m : Machine). sight (nth m.blocks b)) (states h program)
