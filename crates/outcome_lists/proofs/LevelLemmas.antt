-- The parts of a look, one by one: where each is looked at, and its level.
use Rattle.std.proofs.Common.{◌≡◌, ◌+◌, ◌<◌, ◌≤◌, ℕ, true, Option, Some, None, List, [], ◌∷◌, ◌++◌, drop, get_or, length, map, sym, ap, ap₂, subst, ◌∙◌, append-nil}
use Rattle.std.specs.List.{list_all}
use Rattle.std.proofs.lemmas.List.{drop_all}
use Rattle.word_tables.specs.declared.geometry.Geometry.{Geometry}
use Rattle.explorer.specs.MachineModel.Machine.{Machine}
use Rattle.explorer.specs.AskedReads.declared.read.Read.{Read}
use Rattle.explorer.specs.CutPlaces.declared.sight.Sight.{Sight}
use Rattle.explorer.specs.CutPlaces.SeesFiles.{is_held}
use Rattle.explorer.proofs.CutPlaces.GoingLemmas.{at_line}
use Rattle.explorer.specs.SightsSeen.Units.{block_numbers, line_numbers}
use Rattle.explorer.specs.ValueTables.Looking.{blocks_looked_at, blocks_touched, file_lines_looked_at, file_lines_touched, lines_looked_at, lines_touched, none_refused}
use Rattle.explorer.specs.ValueTables.Rows.{read_refusal}
use Rattle.explorer.specs.ValueTables.Sides.{HasRun}
use Rattle.explorer.proofs.ValueTables.LookLemmas.{blocks_after, blocks_next, files_after, files_next, lines_after, lines_next}
use Rattle.outcome_walk.specs.declared.level.Level.{Level}
use Rattle.outcome_walk.specs.declared.level.Link.{Link}
use Rattle.outcome_walk.specs.Holding.{part_held, ways_held}
use Rattle.outcome_walk.specs.Walking.{Part, Way}
use Rattle.outcome_lists.specs.declared.place.Place.{Place}
use Rattle.outcome_lists.specs.Choices.{Choice, choices}
use Rattle.outcome_lists.specs.Courses.{IsAt}
use Rattle.outcome_lists.specs.Levels.{fitted, level, levels}
use Rattle.outcome_lists.specs.Mixing.{link}
use Rattle.outcome_lists.specs.Parts.{AreParts, IsPart}
use Rattle.outcome_lists.proofs.CourseLemmas.{grown_by}

module _ (sight : Sight) (geo : Geometry) (parts : List Read) (i : ℕ) (lt : i < length parts) (part : Read) (is : part ≡ get_or parts i part) where
  next : drop i parts ≡ part ∷ drop (i + 1) parts
  next = at_line parts i part lt is

  pub part_here : AreParts geo (drop i parts) → IsPart geo part
  part_here all = (subst (AreParts geo) next all).0

  pub parts_later : AreParts geo (drop i parts) → AreParts geo (drop (i + 1) parts)
  parts_later all = (subst (AreParts geo) next all).1

  module _ (taken : read_refusal geo part ≡ None) where
    -- where it is looked at
    pub placed : (lines blocks : ℕ) → drop lines (line_numbers sight.lines.items) ≡ lines_looked_at geo (drop i parts)
        → drop blocks (block_numbers sight.blocks.items) ≡ blocks_looked_at geo (drop i parts)
        → list_all (is_held sight.files.numbers) (file_lines_looked_at geo (drop i parts)) ≡ true → IsAt sight part lines blocks
    placed lines blocks at_lines at_blocks held = record {
      lines = subst (λ o. HasRun (line_numbers sight.lines.items) lines (none_refused o (lines_touched part))) taken
          (lines_next geo parts i lt part is (line_numbers sight.lines.items) lines at_lines);
      blocks = subst (λ o. HasRun (block_numbers sight.blocks.items) blocks (none_refused o (blocks_touched part))) taken
          (blocks_next geo parts i lt part is (block_numbers sight.blocks.items) blocks at_blocks);
      files = subst (λ o. list_all (is_held sight.files.numbers) (none_refused o (file_lines_touched part)) ≡ true) taken
          (files_next geo parts i lt part is sight.files.numbers held);
    }

    -- and what is looked at behind it
    pub lines_later : (lines after : ℕ) → drop lines (line_numbers sight.lines.items) ≡ lines_looked_at geo (drop i parts) → after ≡ lines + length (lines_touched part)
        → drop after (line_numbers sight.lines.items) ≡ lines_looked_at geo (drop (i + 1) parts)
    lines_later lines after at more =
        lines_after geo parts i lt part is (line_numbers sight.lines.items) lines after at (more ∙ ap (λ o. lines + length (none_refused o (lines_touched part))) (sym taken))

    pub blocks_later : (blocks after : ℕ) → drop blocks (block_numbers sight.blocks.items) ≡ blocks_looked_at geo (drop i parts) → after ≡ blocks + length (blocks_touched part)
        → drop after (block_numbers sight.blocks.items) ≡ blocks_looked_at geo (drop (i + 1) parts)
    blocks_later blocks after at more =
        blocks_after geo parts i lt part is (block_numbers sight.blocks.items) blocks after at (more ∙ ap (λ o. blocks + length (none_refused o (blocks_touched part))) (sym taken))

  pub files_later : list_all (is_held sight.files.numbers) (file_lines_looked_at geo (drop i parts)) ≡ true
      → list_all (is_held sight.files.numbers) (file_lines_looked_at geo (drop (i + 1) parts)) ≡ true
  files_later held = files_after geo parts i lt part is sight.files.numbers held

  module _ (places : List Place) (hs : List Machine) (before : Option Read) where
    -- its level, as it is held
    pub level_held : (held : Level) (cs : List Choice) → held.links.items ≡ map (λ (place : Place). link place.ways before part) places
        → ways_held held.choices.items ≡ map (fitted hs) cs
        → cs ≡ choices hs part → part_held held ≡ level places hs before part
    level_held held cs links ways are = ap₂ part_of links (ways ∙ ap (map (fitted hs)) are)
      where
        part_of : List Link → List Way → Part
        part_of links ways = record { links = links; ways = ways }

    -- stands before those of the parts behind it
    pub levels_next : (found grown all : List Part) (one : Part) → grown ≡ found ++ one ∷ [] → one ≡ level places hs before part
        → found ++ levels places hs before (drop i parts) ≡ all
        → grown ++ levels places hs (Some part) (drop (i + 1) parts) ≡ all
    levels_next found grown all one more same were =
        grown_by found grown (level places hs before part ∷ []) (levels places hs (Some part) (drop (i + 1) parts)) all
        (more ∙ ap (λ p. found ++ p ∷ []) same) (ap (λ ps. found ++ levels places hs before ps) (sym next) ∙ were)

pub levels_last : (places : List Place) (hs : List Machine) (before : Option Read) (parts : List Read) (i : ℕ) (found all : List Part) → length parts ≤ i
    → found ++ levels places hs before (drop i parts) ≡ all → found ≡ all
levels_last places hs before parts i found all ends were =
    sym (append-nil found) ∙ ap (λ ps. found ++ levels places hs before ps) (sym (drop_all i parts ends)) ∙ were
