-- A table: at each place of a cut the rows that are not as at the place before it.
use Rattle.std.specs.Prelude.{◌++◌, ℕ, List, [], ◌∷◌, codes, decimal, if◌then◌else◌}
use Rattle.std.specs.Str.{bytes_eq}
use Rattle.cut_places.specs.declared.place.CutPlace.{CutPlace}
use Rattle.cut_places.specs.declared.place.CutPlace.TheVariants.{Before, Inside}
use Rattle.cut_places.specs.Places.{Stop}
use Rattle.cut_places.specs.AskedReads.declared.read.Read.{Read}
use Rattle.value_tables.specs.Rows.{rows_at}

-- the rows that are not as the last ones were; all, where there were none
abbrev pub changed : List (List ℕ) → List (List ℕ) → List ℕ
changed last [] = []
changed [] (row ∷ rows) = row ++ changed [] rows
changed (old ∷ last) (row ∷ rows) = (if bytes_eq old row then [] else row) ++ changed last rows

-- the line of a place
abbrev pub place_line : CutPlace → List ℕ
place_line (Before n) = codes "before " ++ (decimal n ++ 10 ∷ [])
place_line (Inside n) = codes "inside " ++ (decimal n ++ 10 ∷ [])

-- it stands where a row is below it
abbrev pub part : CutPlace → List ℕ → List ℕ
part place [] = []
part place (c ∷ rows) = place_line place ++ c ∷ rows

-- the parts of these places, where the last rows were these
abbrev pub table_from : List (List ℕ) → List Read → List Stop → List ℕ
table_from last look [] = []
table_from last look (stop ∷ stops) = part stop.place (changed last (rows_at look stop.state)) ++ table_from (rows_at look stop.state) look stops

-- the table of a look
abbrev pub table_text : List Read → List Stop → List ℕ
table_text look stops = table_from [] look stops
