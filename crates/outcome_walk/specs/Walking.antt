-- The outcomes of a look, part by part. An outcome keeps, for each place of a cut, which sides of the group that is open there still stand.
use Rattle.std.specs.Prelude.{◌+◌, ◌++◌, ◌&&◌, ◌||◌, ℕ, Bool, true, false, List, [], ◌∷◌, Option, Some, None, map, slice_index_or, if◌then◌else◌}
use Rattle.std.specs.List.{flat_map, list_any}
use Rattle.outcome_walk.specs.declared.level.Rows.{Rows}
use Rattle.outcome_walk.specs.declared.level.Link.{Link}
use Rattle.outcome_walk.specs.declared.level.Link.TheVariants.{Alone, Opens, Joins}
use Rattle.outcome_walk.specs.declared.sides.Sides.{Sides}

-- a place leaves what was found: one of the sides stands
abbrev pub stands : Sides → Bool
stands s = s.old || s.new

-- both sides alike
abbrev pub both : Bool → Sides
both b = record { old = b; new = b }

-- whether a choice alone is shown in the state of that number: in none that is not there
abbrev pub is_shown : List Bool → ℕ → Bool
is_shown fits k = slice_index_or fits k false

-- what stands at a place with a choice more: alone, it is as in the state before; one that opens a group goes with what stands on either side; one that joins goes with its own side
abbrev pub moved : Rows → Link → Sides → List Bool → Sides
moved rows Alone s fits = both (stands s && is_shown fits rows.old)
moved rows Opens s fits = record { old = stands s && is_shown fits rows.old; new = stands s && is_shown fits rows.new }
moved rows Joins s fits = record { old = s.old && is_shown fits rows.old; new = s.new && is_shown fits rows.new }

-- at each place, as far as all three lists go
abbrev pub all_moved : List Rows → List Link → List Sides → List Bool → List Sides
all_moved [] links sides fits = []
all_moved (rows ∷ places) [] sides fits = []
all_moved (rows ∷ places) (link ∷ links) [] fits = []
all_moved (rows ∷ places) (link ∷ links) (s ∷ sides) fits = moved rows link s fits ∷ all_moved places links sides fits

-- one way that a part may be found: its text, and for each state whether it is shown there
pub record Way : Type 0 where
  pub text : List ℕ
  pub fits : List Bool

-- a part: its link at each place, and its ways
pub record Part : Type 0 where
  pub links : List Link
  pub ways : List Way

-- an outcome of some parts: its text, and what stands at each place
pub record Trail : Type 0 where
  pub text : List ℕ
  pub sides : List Sides

-- that of no part
abbrev pub begun : List Rows → Trail
begun places = record { text = []; sides = map (λ _. both true) places }

-- one outcome with one way more, where some place leaves that
abbrev pub with_way : List Rows → List Link → Trail → Way → List Trail
with_way places links f c =
    if list_any stands (all_moved places links f.sides c.fits) then record { text = f.text ++ c.text; sides = all_moved places links f.sides c.fits } ∷ []
    else []

-- each outcome with each way
abbrev pub grown : List Rows → List Link → List Way → List Trail → List Trail
grown places links cs fs = flat_map (λ f. flat_map (with_way places links f) cs) fs

-- the outcomes of all parts, where these are those of the parts before
abbrev pub walked : List Rows → List Trail → List Part → List Trail
walked places fs [] = fs
walked places fs (part ∷ parts) = walked places (grown places part.links part.ways fs) parts

-- the first that stands, counted from that number
abbrev pub first_from : ℕ → List Sides → Option ℕ
first_from k [] = None
first_from k (s ∷ sides) = if stands s then Some k else first_from (k + 1) sides

-- the number of the first place that stands
abbrev pub first_standing : List Sides → Option ℕ
first_standing sides = first_from 0 sides
