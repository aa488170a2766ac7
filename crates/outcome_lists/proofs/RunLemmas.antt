-- Which sides of a place stand, part by part in order: at the end some side does where each group is old or new.
use Rattle.std.proofs.Common.{◌≡◌, inl, inr, ◌&&◌, ◌||◌, Bool, true, false, Option, Some, None, List, [], ◌∷◌, map, refl, sym, ap, if◌then◌else◌, ◌∙◌}
use Rattle.std.specs.List.{AllByRecursion}
use Rattle.std.proofs.lemmas.Bool.{true≢false}
use Rattle.explorer.specs.AskedReads.declared.read.Read.{Read}
use Rattle.explorer.specs.SightsSeen.declared.way.Way.{Way}
use Rattle.explorer.proofs.Witnesses.ListLemmas.{IsAmong}
use Rattle.outcome_walk.specs.declared.level.Rows.{Rows}
use Rattle.outcome_walk.specs.declared.level.Link.TheVariants.{Opens, Joins}
use Rattle.outcome_walk.specs.declared.sides.Sides.{Sides}
use Rattle.outcome_walk.specs.Walking.{both, is_shown, moved, stands}
use Rattle.outcome_lists.specs.declared.ways.Ways.{Ways}
use Rattle.outcome_lists.specs.Mixing.{link_by, way_of}
use Rattle.outcome_lists.specs.Parts.{AreInOrder, comes_before}
use Rattle.outcome_lists.specs.Together.{StandsByGroups, goes_by, goes_with, new_by, stood}
use Rattle.outcome_lists.proofs.OpenGroupLemmas.{first_group, joined, opened, stands_on}
use Rattle.outcome_lists.proofs.GoingLemmas.{goes_along, goes_back, goes_either_way, goes_itself, goes_no_more, other_part}

-- A part more. One that stands alone is as a group of its own, whose new side is its old one.
module _ (rows : Rows) (s : Sides) (fits : List Bool) where
  -- what it leaves of either side
  abbrev left_by : Option Way → Bool → Bool → Sides
  left_by o so anew = record { old = so && is_shown fits rows.old; new = anew && is_shown fits (new_by o rows.old rows.new) }

  -- of no group that is open, or of the open one
  moved_off : (o : Option Way) (p q : Read) → goes_by o p q ≡ false → moved rows (link_by o (Some p) q) s fits ≡ left_by o (stands s) (stands s)
  moved_off None p q other = refl
  moved_off (Some way) p q other = ap (λ b. moved rows (if b then Joins else Opens) s fits) other

  moved_on : (o : Option Way) (p q : Read) → comes_before p q ≡ true → goes_by o p q ≡ true → moved rows (link_by o (Some p) q) s fits ≡ left_by o s.old s.new
  moved_on None p q first is = absurd (true≢false (sym is ∙ other_part p q first))
  moved_on (Some way) p q first is = ap (λ b. moved rows (if b then Joins else Opens) s fits) is

-- the first part of all
moved_first : (rows : Rows) (fits : List Bool) (o : Option Way) (q : Read) → moved rows (link_by o None q) (both true) fits ≡ left_by rows (both true) fits o true true
moved_first rows fits None q = refl
moved_first rows fits (Some way) q = refl

-- Choices with their parts, in order.
module _ (rows : Rows) (ways : Ways) where
  abbrev Item : Type 0
  Item = Read × List Bool

  abbrev part_of : Item → Read
  part_of x = x.0

  -- which go together, and whether one is old, or new
  abbrev together : Item → Item → Bool
  together x y = goes_with ways x.0 y.0

  abbrev old : Item → Bool
  old x = is_shown x.1 rows.old

  abbrev new : Item → Bool
  new x = is_shown x.1 (new_by (way_of ways x.0) rows.old rows.new)

  -- they go together by their keys
  own : (x : Item) → together x x ≡ true
  own x = goes_itself ways x.0

  back : (x y : Item) → together x y ≡ together y x
  back x y = goes_back ways x.0 y.0

  along : (x y z : Item) → together x y ≡ true → together x z ≡ together y z
  along x y z is = goes_along ways x.0 y.0 z.0 is

  -- a part stands before each of those behind it
  behind : (p : Read) (y : Item) (xs : List Item) → AllByRecursion (λ q. comes_before p q ≡ true) (map part_of xs) → IsAmong y xs → comes_before p y.0 ≡ true
  behind p y [] all is = absurd is
  behind p y (x ∷ xs) all (inl same) = ap (λ (z : Item). comes_before p z.0) same ∙ all.0
  behind p y (x ∷ xs) all (inr later) = behind p y xs all.1 later

  -- some side stands at the end where the group of p, the last part so far, is old or new with its further items, and so is each other group
  run : (p : Item) (s : Sides) (xs : List Item) → AreInOrder (map part_of (p ∷ xs))
      → stands (stood rows ways (Some p.0) s xs) ≡ stands_on together own back along old new s.old s.new p xs
  run p s [] are = by_sides s.old s.new
    where
      by_sides : (a b : Bool) → (a || b) ≡ (((a && true) || (b && true)) && true)
      by_sides true b = refl
      by_sides false true = refl
      by_sides false false = refl
  run p s (x ∷ xs) are = by_group (λ moves. run x moves xs are.1) (together p x) refl
    where
      by_group : ((moves : Sides) → stands (stood rows ways (Some x.0) moves xs) ≡ stands_on together own back along old new moves.old moves.new x xs)
          → (b : Bool) → together p x ≡ b → stands (stood rows ways (Some p.0) s (x ∷ xs)) ≡ stands_on together own back along old new s.old s.new p (x ∷ xs)
      by_group rest true is =
          ap (λ m. stands (stood rows ways (Some x.0) m xs)) (moved_on rows s x.1 (way_of ways x.0) p.0 x.0 are.0.0 (goes_either_way ways p.0 x.0 ∙ is))
          ∙ rest (record { old = s.old && old x; new = s.new && new x })
          ∙ sym (joined together own back along old new s.old s.new p x xs is)
      by_group rest false other =
          ap (λ m. stands (stood rows ways (Some x.0) m xs)) (moved_off rows s x.1 (way_of ways x.0) p.0 x.0 (goes_either_way ways p.0 x.0 ∙ other))
          ∙ rest (record { old = stands s && old x; new = stands s && new x })
          ∙ sym (opened together own back along old new s.old s.new p x xs none)
        where
          none : (y : Item) → IsAmong y (x ∷ xs) → together p y ≡ false
          none y (inl same) = ap (together p) same ∙ other
          none y (inr later) = goes_no_more ways p.0 x.0 y.0 are.0.0 (behind x.0 y xs are.1.0 later) other

-- parts in order stand where each group of them is all old or all new
pub stands_by_groups : StandsByGroups
stands_by_groups rows ways [] are = refl
stands_by_groups rows ways (x ∷ xs) are =
    ap (λ m. stands (stood rows ways (Some x.0) m xs)) (moved_first rows x.1 (way_of ways x.0) x.0)
    ∙ run rows ways x (record { old = old rows ways x; new = new rows ways x }) xs are
    ∙ sym (first_group (together rows ways) (own rows ways) (back rows ways) (along rows ways) (old rows ways) (new rows ways) x xs)
