-- What is kept of the lines of the volume.
use Rattle.std.specs.Prelude.{◌≡◌, ◌==◌, ◌+◌, ◌*◌, ◌/◌, ◌||◌, ℕ, Bool, true, false, not, List, [], slice_index, slice_index_or, find, map, unwrap_or, Option, Some, None, option_and_then}
use Rattle.std.specs.List.{list_any}
use Rattle.word_tables.specs.declared.geometry.Geometry.{Geometry}
use Rattle.nvm_model.specs.Numbered.{list_from}
use Rattle.nvm_model.specs.Cell.{Cell}
use Rattle.nvm_model.specs.Cell.Cell.{Bad, Kept}
use Rattle.script_text.specs.Action.{Action}
use Rattle.cut_places.specs.Outcomes.Pages.{PageRead, all_agree}
use Rattle.cut_places.specs.AskedReads.Fitting.{cell_fits}
use Rattle.cut_places.specs.SightsSeen.declared.line_seen.LineSeen.{LineSeen}
use Rattle.cut_places.specs.SightsSeen.Units.{line_once_done}
use Rattle.cut_places.specs.SightsSeen.Ways.{lines_way}
use Rattle.witnesses.specs.declared.line_kept.LineLeft.{LineLeft}
use Rattle.witnesses.specs.declared.line_kept.LineLeft.TheVariants as left
use Rattle.witnesses.specs.declared.line_kept.LineKept.{LineKept}
use Rattle.witnesses.specs.Leaving.{made_by, mixing, unit_left}

-- the first of these values of word p on which all reads agree, 0 where there is none
abbrev pub first_agreed : List PageRead → ℕ → List ℕ → ℕ
first_agreed reads p values = unwrap_or (find (all_agree reads p) values) 0

-- line n as reads may find it: bad, or each word with the first value on which they agree
abbrev pub left_of : List PageRead → ℕ → Cell → LineLeft
left_of reads n Bad = left.Bad
left_of reads n (Kept weak words) = left.Words (list_from (λ w. first_agreed reads (8 * n + w) (slice_index_or words w [])) 0 8)

-- word w of a line that is not bad
abbrev pub IsAgreed : List PageRead → ℕ → ℕ → Cell → ℕ → Type 0
IsAgreed reads n w Bad value = Unit {0}
IsAgreed reads n w (Kept weak words) value = value ≡ first_agreed reads (8 * n + w) (slice_index_or words w [])

-- word w of such a line may be otherwise: it has another value, or the line is bad on one side alone
abbrev pub may_differ : Cell → ℕ → LineLeft → Bool
may_differ Bad w left.Bad = false
may_differ Bad w (left.Words values) = true
may_differ (Kept weak words) w left.Bad = true
may_differ (Kept weak words) w (left.Words values) = list_any (λ v. not (v == slice_index values w)) (slice_index_or words w [])

-- so it may where this is whether it has another value
abbrev pub HasOther : Cell → ℕ → ℕ → Bool → Type 0
HasOther Bad w value has = Unit {0}
HasOther (Kept weak words) w value has = has ≡ list_any (λ v. not (v == value)) (slice_index_or words w [])

-- any word could be otherwise where no such line may be there
abbrev pub could_differ : Option Cell → ℕ → LineLeft → Bool
could_differ None w left = true
could_differ (Some cell) w left = may_differ cell w left

-- which words may be otherwise where a line is such, or as a command makes it
abbrev pub free_words : Option Cell → Option Cell → LineLeft → List Bool
free_words now made left = list_from (λ w. could_differ now w left || could_differ made w left) 0 8

-- a line as the command makes it, if there is one
abbrev pub line_made : Geometry → Option Action → LineSeen → LineSeen
line_made geo inside seen = made_by (line_once_done geo) inside seen

-- and as a cut inside it may leave the line beside that
abbrev pub line_mixed : Geometry → Option Action → LineSeen → LineSeen
line_mixed geo inside seen = line_made geo (mixing (option_and_then lines_way inside) inside) seen

-- a line as it is left
abbrev pub line_left : Geometry → Option Action → List PageRead → List LineSeen → LineSeen → LineSeen
line_left geo inside reads lines seen =
    unit_left (option_and_then lines_way inside) (λ (s : LineSeen). cell_fits reads s.number s.line) (line_made geo inside) (λ (s : LineSeen). s.number / 64) lines seen

-- what is kept of a line that is left so
abbrev pub kept_line : List PageRead → LineSeen → LineSeen → LineSeen → LineKept
kept_line reads now made left =
    let kept = left_of reads now.number left.line in
    record { number = now.number; left = kept; free = free_words (Some now.line) (Some made.line) kept; reach = now.reach }

-- and of each
abbrev pub line_kept : Geometry → Option Action → List PageRead → List LineSeen → LineSeen → LineKept
line_kept geo inside reads lines seen = kept_line reads seen (line_mixed geo inside seen) (line_left geo inside reads lines seen)

-- the numbers of those that are kept
abbrev pub numbers_of_lines : List LineKept → List ℕ
numbers_of_lines lines = map (λ k. k.number) lines
