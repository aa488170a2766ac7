-- The first place that may show choices of parts together is the first one of which a side stands.
use Rattle.std.proofs.Common.{◌≡◌, ◌&&◌, ◌||◌, ℕ, suc, not, Bool, true, false, IsTrue, Option, Some, None, List, [], ◌∷◌, ◌++◌, map, refl, sym, ap, subst, ◌∙◌, inl, inr}
use Rattle.std.specs.Prelude.{is_none, option_map, if◌then◌else◌}
use Rattle.std.specs.List.{AllByRecursion, list_all}
use Rattle.std.proofs.lemmas.List.Folds.{list_all-map}
use Rattle.word_tables.specs.declared.geometry.Geometry.{Geometry}
use Rattle.reply_text.specs.Answer.{Answer}
use Rattle.script_text.specs.Action.{Action}
use Rattle.script_text.specs.Script.{Input}
use Rattle.script_text.specs.Script.Input.{Skipped, Malformed, Overlong, Asked}
use Rattle.explorer.specs.MachineModel.Machine.{Fate, Machine}
use Rattle.explorer.specs.MachineModel.Machine.Fate.{Gives, Works, Orders, Cuts, Restarts, Recovers}
use Rattle.explorer.specs.MachineModel.Commands.{fate, meaning, refusal, unless_refused, while_interrupted}
use Rattle.explorer.specs.Outcomes.Finds.{IsReady}
use Rattle.explorer.specs.Outcomes.Seen.{Seen, may_show}
use Rattle.explorer.specs.Outcomes.Stops.{IsProgram, inside, is_of_program, led_to}
use Rattle.explorer.specs.AskedReads.declared.read.Read.{Read}
use Rattle.explorer.specs.AskedReads.declared.read.Read.TheVariants.{Volume, Blocks, File}
use Rattle.explorer.specs.SightsSeen.declared.way.Way.{Way}
use Rattle.explorer.specs.SightsSeen.Ways.{blocks_way}
use Rattle.explorer.proofs.SightsSeen.ShowLemmas.{tests_same}
use Rattle.explorer.specs.CutPlaces.declared.place.CutPlace.{CutPlace}
use Rattle.explorer.specs.CutPlaces.declared.place.CutPlace.TheVariants.{Before, Inside}
use Rattle.explorer.specs.CutPlaces.FileMixing.{way_left}
use Rattle.explorer.specs.CutPlaces.Places.{Stop, cut_places, first_stop}
use Rattle.explorer.proofs.CutPlaces.LeftLemmas.{left_same}
use Rattle.explorer.proofs.CutPlaces.WorkLemmas.{ChangesNone, IsWorkAs, works_or_none}
use Rattle.explorer.specs.ValueTables.Listed.{IsSound}
use Rattle.explorer.proofs.ValueTables.SoundLemmas.{next}
use Rattle.outcome_walk.specs.declared.level.Link.TheVariants.{Alone}
use Rattle.outcome_walk.specs.declared.level.Rows.{Rows}
use Rattle.outcome_walk.specs.declared.sides.Sides.{Sides}
use Rattle.outcome_walk.specs.Walking.{both, is_shown, moved, stands}
use Rattle.outcome_lists.specs.declared.place.Place.{Place}
use Rattle.outcome_lists.specs.declared.ways.Ways.{Ways}
use Rattle.outcome_lists.specs.Apart.{grouped}
use Rattle.outcome_lists.specs.Choices.{Choice, choices, states}
use Rattle.outcome_lists.specs.Levels.{before_place, inside_places, places, places_from, shows_alone}
use Rattle.outcome_lists.specs.Listing.{Picks, asked_with}
use Rattle.outcome_lists.specs.Mixing.{link, still, way_of, ways_inside}
use Rattle.outcome_lists.specs.Outcomes.{look_of, nothing, place_of}
use Rattle.outcome_lists.specs.Parts.{AreInOrder, AreParts, IsPart, comes_before}
use Rattle.outcome_lists.specs.Together.{EachAtRest, FirstStands, GroupsInside, StandsByGroups, fitted_pairs, goes_with, new_by, paired, stood, stood_at}
use Rattle.outcome_lists.specs.Walks.{first_place}
use Rattle.outcome_lists.proofs.WayLemmas.{sizes_led}

-- the first of some parts are in order too
all_first : {A : Type 0} (P : A → Type 0) (xs others : List A) → AllByRecursion P (xs ++ others) → AllByRecursion P xs
all_first P [] others all = tt
all_first P (x ∷ xs) others all = (all.0, all_first P xs others all.1)

order_first : (parts others : List Read) → AreInOrder (parts ++ others) → AreInOrder parts
order_first [] others ordered = tt
order_first (p ∷ parts) others ordered = (all_first (λ q. comes_before p q ≡ true) parts others ordered.0, order_first parts others ordered.1)

-- a test of groups of items that are made of others
module _ {A B : Type 0} (f : A → B) (together : B → B → Bool) where
  abbrev go_so : (B → Bool) → B → B → Bool
  go_so test x y = not (together x y) || test y

  one_side : (test : B → Bool) (made : A → Bool) (x : A) (xs : List A) → ((y : A) → test (f y) ≡ made y)
      → list_all (go_so test (f x)) (map f xs) ≡ list_all (λ y. not (together (f x) (f y)) || made y) xs
  one_side test made x xs same =
      list_all-map (go_so test (f x)) f xs
      ∙ tests_same (λ y. go_so test (f x) (f y)) (λ y. not (together (f x) (f y)) || made y) xs (λ y. ap (λ b. not (together (f x) (f y)) || b) (same y))

  grouped_alike : (old new : B → Bool) (was becomes : A → Bool) (xs : List A) → ((x : A) → old (f x) ≡ was x) → ((x : A) → new (f x) ≡ becomes x)
      → grouped together old new (map f xs) ≡ grouped (λ x y. together (f x) (f y)) was becomes xs
  grouped_alike old new was becomes xs same alike =
      list_all-map (λ x. list_all (go_so old x) (map f xs) || list_all (go_so new x) (map f xs)) f xs
      ∙ tests_same (λ x. list_all (go_so old (f x)) (map f xs) || list_all (go_so new (f x)) (map f xs))
      (λ x. list_all (λ y. not (together (f x) (f y)) || was y) xs || list_all (λ y. not (together (f x) (f y)) || becomes y) xs) xs
      (λ x. ap (λ b. b || list_all (go_so new (f x)) (map f xs)) (one_side old was x xs same)
      ∙ ap (λ b. list_all (λ y. not (together (f x) (f y)) || was y) xs || b) (one_side new becomes x xs alike))

-- States stand in a list from number k on, as any test of them finds.
abbrev AreAt : List Machine → ℕ → List Machine → Type 0
AreAt hs k [] = Unit {0}
AreAt hs k (g ∷ gs) = ((test : Machine → Bool) → is_shown (map test hs) k ≡ test g) × AreAt hs (suc k) gs

later_on : (hs : List Machine) (h : Machine) (k : ℕ) (gs : List Machine) → AreAt hs k gs → AreAt (h ∷ hs) (suc k) gs
later_on hs h k [] at = tt
later_on hs h k (g ∷ gs) at = (at.0, later_on hs h (suc k) gs at.1)

all_at : (hs : List Machine) → AreAt hs 0 hs
all_at [] = tt
all_at (h ∷ hs) = (λ test. refl, later_on hs h 0 hs (all_at hs))

-- the state that a program begins in is the first of its states
begins_at : (hs : List Machine) (k : ℕ) (g : Machine) (inputs : List Input) → AreAt hs k (states g inputs) → (test : Machine → Bool) → is_shown (map test hs) k ≡ test g
begins_at hs k g [] at = at.0
begins_at hs k g (Skipped ∷ inputs) at = begins_at hs k g inputs at
begins_at hs k g (Malformed ∷ inputs) at = begins_at hs k g inputs at
begins_at hs k g (Overlong ∷ inputs) at = begins_at hs k g inputs at
begins_at hs k g (Asked action ∷ inputs) at = at.0

-- Where nothing is mixed, a side stands where the old state shows all choices.
and_true : (a : Bool) → (a && true) ≡ a
and_true true = refl
and_true false = refl

said_twice : (a b c : Bool) → ((a && b || (a && b)) && c) ≡ (a && (b && c))
said_twice true true c = refl
said_twice true false c = refl
said_twice false b c = refl

goes_alone : (before : Option Read) (p : Read) → link still before p ≡ Alone
goes_alone before (Volume start len) = refl
goes_alone before (Blocks first count) = refl
goes_alone before (File name start len) = refl

still_stands : (rows : Rows) (before : Option Read) (s : Sides) (xs : List (Read × List Bool))
    → stands (stood rows still before s xs) ≡ (stands s && list_all (λ (x : Read × List Bool). is_shown x.1 rows.old) xs)
still_stands rows before s [] = sym (and_true (stands s))
still_stands rows before s (x ∷ xs) =
    ap (λ l. stands (stood rows still (Some x.0) (moved rows l s x.1) xs)) (goes_alone before x.0)
    ∙ still_stands rows (Some x.0) (both (stands s && is_shown x.1 rows.old)) xs
    ∙ said_twice (stands s) (is_shown x.1 rows.old) (list_all (λ (x : Read × List Bool). is_shown x.1 rows.old) xs)

-- Choices of parts, with the states that show them.
module _ (hs : List Machine) where
  abbrev fit : Read × Choice → Read × List Bool
  fit x = (x.0, map (shows_alone x.1) hs)

  pairs_fit : (parts : List Read) (cs : List Choice) → fitted_pairs hs parts cs ≡ map fit (paired parts cs)
  pairs_fit [] cs = refl
  pairs_fit (p ∷ parts) [] = refl
  pairs_fit (p ∷ parts) (c ∷ cs) = ap (λ xs. fit (p, c) ∷ xs) (pairs_fit parts cs)

  parts_fitted : (parts : List Read) (cs : List Choice) → Picks (choices hs) parts cs → map (λ (x : Read × List Bool). x.0) (fitted_pairs hs parts cs) ≡ parts
  parts_fitted [] cs picks = refl
  parts_fitted (p ∷ parts) [] picks = absurd picks
  parts_fitted (p ∷ parts) (c ∷ cs) picks = ap (λ ps. p ∷ ps) (parts_fitted parts cs picks.1)

  abbrev IsAt : ℕ → Machine → Type 0
  IsAt k g = (test : Machine → Bool) → is_shown (map test hs) k ≡ test g

  all_fitted : (parts : List Read) (cs : List Choice) (k : ℕ) (g : Machine) → Picks (choices hs) parts cs → IsAt k g
      → list_all (λ (x : Read × List Bool). is_shown x.1 k) (fitted_pairs hs parts cs) ≡ list_all (λ c. shows_alone c g) cs
  all_fitted [] [] k g picks at = refl
  all_fitted [] (c ∷ cs) k g picks at = absurd picks
  all_fitted (p ∷ parts) [] k g picks at = absurd picks
  all_fitted (p ∷ parts) (c ∷ cs) k g picks at =
      ap (λ b. b && list_all (λ (x : Read × List Bool). is_shown x.1 k) (fitted_pairs hs parts cs)) (at (shows_alone c))
      ∙ ap (λ b. shows_alone c g && b) (all_fitted parts cs k g picks.1 at)

  new_fitted : (way : Option Way) (test : Machine → Bool) (k j : ℕ) (g to : Machine) → IsAt k g → IsAt j to → is_shown (map test hs) (new_by way k j) ≡ test (new_by way g to)
  new_fitted None test k j g to at next_at = at test
  new_fitted (Some way) test k j g to at next_at = next_at test

-- Stops and places, which go together.
module _ (test : Machine → Bool) (side : Place → Sides) where
  abbrev found : List Stop → Option CutPlace
  found stops = option_map (λ (stop : Stop). stop.place) (first_stop test stops)

  abbrev standing : List Place → Option CutPlace
  standing places = first_place places (map side places)

  -- one more of both, of which a side stands where the state passes
  one_more : (stop : Stop) (stops : List Stop) (place : Place) (places : List Place) → stands (side place) ≡ test stop.state → place.at ≡ stop.place → found stops ≡ standing places
      → found (stop ∷ stops) ≡ standing (place ∷ places)
  one_more stop stops place places same at later =
      by_test (test stop.state) ∙ ap (λ b. if b then Some place.at else standing places) (sym same)
    where
      by_test : (b : Bool) → option_map (λ (stop : Stop). stop.place) (if b then Some stop else first_stop test stops) ≡ (if b then Some place.at else standing places)
      by_test true = ap Some (sym at)
      by_test false = later

  -- a place that stands where the one before it does is never the first
  again : (place other : Place) (places : List Place) → stands (side other) ≡ stands (side place) → standing (place ∷ places) ≡ standing (place ∷ other ∷ places)
  again place other places same =
      by_test (stands (side place)) ∙ ap (λ b. if stands (side place) then Some place.at else if b then Some other.at else standing places) (sym same)
    where
      by_test : (b : Bool) → (if b then Some place.at else standing places) ≡ (if b then Some place.at else if b then Some other.at else standing places)
      by_test true = refl
      by_test false = refl

-- A command that changes nothing that a cut could mix mixes nothing.
mixes_none : (h : Machine) (action : Action) → ChangesNone h action → ways_inside h.mappings action ≡ still
mixes_none h action none =
    let files = way_left ((meaning action).files_left h.mappings) in
    ap (λ way. record { lines = way; blocks = blocks_way action; files = files }) none.lines
    ∙ ap (λ way. record { lines = None; blocks = way; files = files }) none.blocks
    ∙ ap (λ way. record { lines = None; blocks = None; files = way })
    (left_same (λ left to. way_left left) [] (λ to. refl) h.mappings action ∙ ap way_left none.files)

none_of_work : (h : Machine) (action : Action) (to : Fate) → (meaning action).comes h ≡ to → (IsWorkAs to → ⊥) → ChangesNone h action
none_of_work h action to is idle = elim (works_or_none h action) as (λ _. ChangesNone h action) [
  | inl work ↦ absurd (idle (subst IsWorkAs is work))
  | inr none ↦ none
]

module _ (groups : StandsByGroups) (rest : EachAtRest) (within : GroupsInside) (hs : List Machine) (parts : List Read) (cs : List Choice) (geo : Geometry)
    (are : AreParts geo parts) (ordered : AreInOrder parts) (picks : Picks (choices hs) parts cs) where
  abbrev look : List Seen
  look = look_of (asked_with nothing cs)

  abbrev pairs : List (Read × List Bool)
  pairs = fitted_pairs hs parts cs

  abbrev side : Place → Sides
  side place = stood place.rows place.ways None (both true) pairs

  abbrev passes : Machine → Bool
  passes g = may_show look g

  -- one state
  module _ (g : Machine) (ready : IsReady g) (sound : IsSound g) (size : g.geometry ≡ geo) (k : ℕ) (at : IsAt hs k g) where
    are_here : AreParts g.geometry parts
    are_here = subst (λ sizes. AreParts sizes parts) (sym size) are

    -- where nothing is mixed
    unmixed : (new : ℕ) → stands (stood (record { old = k; new = new }) still None (both true) pairs) ≡ passes g
    unmixed new =
        still_stands (record { old = k; new = new }) None (both true) pairs ∙ all_fitted hs parts cs k g picks at
        ∙ sym (rest hs parts cs g ready sound are_here ordered picks)

    module _ (action : Action) (program : IsTrue (is_of_program action)) (n : ℕ) (next_at : IsAt hs (suc k) (led_to g (fate g action))) where
      abbrev ways : Ways
      ways = ways_inside g.mappings action

      abbrev alike : Read × List Bool → Read × List Bool → Bool
      alike x y = goes_with ways x.0 y.0

      abbrev by_old : Read × List Bool → Bool
      by_old x = is_shown x.1 k

      abbrev by_new : Read × List Bool → Bool
      by_new x = is_shown x.1 (new_by (way_of ways x.0) k (suc k))

      abbrev before_it : Place
      before_it = before_place n k

      abbrev inside_it : Place
      inside_it = record { at = Inside n; rows = record { old = k; new = suc k }; ways = ways }

      abbrev at_rest : Stop
      at_rest = record { place = Before n; state = g }

      -- inside a command that is work on the device
      mixed : (answer : Answer) (to : Machine) → refusal g action ≡ None → fate g action ≡ Works answer to → stands (side inside_it) ≡ passes (while_interrupted g action)
      mixed answer to allowed is =
          groups inside_it.rows ways pairs (subst AreInOrder (sym (parts_fitted hs parts cs picks)) ordered)
          ∙ ap (grouped alike by_old by_new) (pairs_fit hs parts cs)
          ∙ grouped_alike (fit hs) alike by_old by_new (λ (x : Read × Choice). shows_alone x.1 g)
          (λ (x : Read × Choice). shows_alone x.1 (new_by (way_of ways x.0) g to)) (paired parts cs) (λ x. at (shows_alone x.1))
          (λ x. new_fitted hs (way_of ways x.0) (shows_alone x.1) k (suc k) g to at (subst (IsAt hs (suc k)) (ap (led_to g) is) next_at))
          ∙ sym (within hs parts cs g action answer to ready sound program are_here ordered picks allowed is)

      -- What is found from here on, where what is found behind the command is told.
      module _ (stops : List Stop) (places : List Place) (later : found passes side stops ≡ standing passes side places) where
        abbrev IsFound : List Place → Fate → Type 0
        IsFound inner to =
            found passes side (at_rest ∷ map (λ m. record { place = Inside n; state = m }) (inside g action to) ++ stops)
            ≡ standing passes side (before_it ∷ inner ++ places)

        only_before : found passes side (at_rest ∷ stops) ≡ standing passes side (before_it ∷ places)
        only_before = one_more passes side at_rest stops before_it places (unmixed k) refl later

        unmoved : ChangesNone g action → found passes side (at_rest ∷ stops) ≡ standing passes side (before_it ∷ inside_it ∷ places)
        unmoved none =
            only_before ∙ again passes side before_it inside_it places
            (ap (λ w. stands (stood (record { old = k; new = suc k }) w None (both true) pairs)) (mixes_none g action none) ∙ unmixed (suc k) ∙ sym (unmixed k))

        by_fate : (to : Fate) → refusal g action ≡ None → (meaning action).comes g ≡ to → IsFound (inside_it ∷ []) to
        by_fate (Gives answer to) allowed is = unmoved (none_of_work g action (Gives answer to) is (λ work. cc work.is))
        by_fate (Works answer to) allowed is =
            one_more passes side at_rest (record { place = Inside n; state = while_interrupted g action } ∷ stops) before_it (inside_it ∷ places) (unmixed k) refl
            (one_more passes side (record { place = Inside n; state = while_interrupted g action }) stops inside_it places
            (mixed answer to allowed (ap (λ o. unless_refused g o ((meaning action).comes g)) allowed ∙ is)) refl later)
        by_fate (Orders order to) allowed is = unmoved (none_of_work g action (Orders order to) is (λ work. cc work.is))
        by_fate (Cuts to) allowed is = unmoved (none_of_work g action (Cuts to) is (λ work. cc work.is))
        by_fate (Restarts choice) allowed is = unmoved (none_of_work g action (Restarts choice) is (λ work. cc work.is))
        by_fate Recovers allowed is = unmoved (none_of_work g action Recovers is (λ work. cc work.is))

        by_refusal : (o : Option Answer) → refusal g action ≡ o → IsFound (inside_places n k (is_none o) ways) (unless_refused g o ((meaning action).comes g))
        by_refusal None is = by_fate ((meaning action).comes g) is refl
        by_refusal (Some why) is = only_before

  -- the rest of a program
  found_from : (inputs : List Input) (n k : ℕ) (g : Machine) → IsReady g → IsSound g → g.geometry ≡ geo → IsProgram inputs → AreAt hs k (states g inputs)
      → place_of (cut_places n g inputs) look ≡ first_place (places_from n k g inputs) (stood_at (places_from n k g inputs) pairs)
  found_from [] n k g ready sound size program at =
      one_more passes side (record { place = Before n; state = g }) [] (before_place n k) [] (unmixed g ready sound size k at.0 k) refl refl
  found_from (Skipped ∷ inputs) n k g ready sound size program at = found_from inputs (suc n) k g ready sound size program at
  found_from (Malformed ∷ inputs) n k g ready sound size program at = found_from inputs (suc n) k g ready sound size program at
  found_from (Overlong ∷ inputs) n k g ready sound size program at = found_from inputs (suc n) k g ready sound size program at
  found_from (Asked action ∷ inputs) n k g ready sound size program at =
      let to = led_to g (fate g action) in
      let step = next g action ready sound program.0 in
      by_refusal g ready sound size k at.0 action program.0 n (begins_at hs (suc k) to inputs at.1) (cut_places (suc n) to inputs) (places_from (suc n) (suc k) to inputs)
      (found_from inputs (suc n) (suc k) to step.0 step.1 (sizes_led g action (refusal g action) ∙ size) program.1 at.1) (refusal g action) refl

pub first_stands : StandsByGroups → EachAtRest → GroupsInside → (h : Machine) (program : List Input) (parts : List Read) → IsReady h → IsSound h → IsProgram program
    → AreParts h.geometry parts → AreInOrder parts → FirstStands (place_of (cut_places 1 h program)) (states h program) (places h program) parts
first_stands groups rest within h program parts ready sound is are ordered before after cs split picks =
    let hs = states h program in
    found_from groups rest within hs before cs h.geometry (all_first (IsPart h.geometry) before after (subst (AreParts h.geometry) split are))
    (order_first before after (subst AreInOrder split ordered)) picks program 1 0 h ready sound refl is (all_at hs)
