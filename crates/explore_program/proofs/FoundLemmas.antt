-- The first place of a cut is there exactly where the test tells that something may be found.
use Rattle.std.proofs.Common.{◌≡◌, ◌||◌, ℕ, suc, Bool, true, false, List, [], ◌∷◌, ◌++◌, map, Option, Some, None, is_some, subst, refl, sym, ap, ◌∙◌, if◌then◌else◌}
use Rattle.std.specs.List.{list_any}
use Rattle.std.proofs.lemmas.Bool.{true≢false}
use Rattle.script_text.specs.Script.{Input}
use Rattle.script_text.specs.Script.Input.{Skipped, Malformed, Overlong, Asked}
use Rattle.outcome_lists.specs.MachineModel.Machine.{Machine}
use Rattle.outcome_lists.specs.MachineModel.Commands.{fate}
use Rattle.outcome_lists.specs.OutcomeTest.Finds.{Finds, armed, may_find}
use Rattle.outcome_lists.specs.OutcomeTest.Seen.{Seen, may_show}
use Rattle.outcome_lists.specs.OutcomeTest.Stops.{inside, led_to, stops}
use Rattle.outcome_lists.specs.CutPlaces.declared.place.CutPlace.TheVariants.{Inside}
use Rattle.outcome_lists.specs.CutPlaces.Places.{Stop, cut_places, first_stop, found_stop}
use Rattle.outcome_lists.specs.Explorer.Finding.{IsFound}
use Rattle.outcome_lists.specs.Explorer.declared.found.Found.{Found}
use Rattle.outcome_lists.specs.Witnesses.Telling.{told}
use Rattle.explore_program.specs.Calls.{AreTheorems}
use Rattle.explore_program.specs.Lists.{ListsRuns}
use Rattle.explore_program.specs.Tables.{TellsRuns}

module _ (test : Machine → Bool) where
  first_more : (stop : Stop) (stops : List Stop) (states : List Machine) → is_some (first_stop test stops) ≡ list_any test states
      → is_some (first_stop test (stop ∷ stops)) ≡ (test stop.state || list_any test states)
  first_more stop stops states rest = by_test (test stop.state)
    where
      by_test : (b : Bool) → is_some (if b then Some stop else first_stop test stops) ≡ (b || list_any test states)
      by_test true = refl
      by_test false = rest

  inside_more : (n : ℕ) (within : List Machine) (stops : List Stop) (states : List Machine) → is_some (first_stop test stops) ≡ list_any test states
      → is_some (first_stop test (map (λ m. record { place = Inside n; state = m }) within ++ stops)) ≡ list_any test (within ++ states)
  inside_more n [] stops states rest = rest
  inside_more n (m ∷ within) stops states rest = first_more (record { place = Inside n; state = m }) _ (within ++ states) (inside_more n within stops states rest)

  stop_may : (n : ℕ) (h : Machine) (inputs : List Input) → is_some (first_stop test (cut_places n h inputs)) ≡ list_any test (stops h inputs)
  stop_may n h [] = first_more _ [] [] refl
  stop_may n h (Skipped ∷ inputs) = stop_may (suc n) h inputs
  stop_may n h (Malformed ∷ inputs) = stop_may (suc n) h inputs
  stop_may n h (Overlong ∷ inputs) = stop_may (suc n) h inputs
  stop_may n h (Asked action ∷ inputs) =
      let to = led_to h (fate h action) in
      let rest = stop_may (suc n) to inputs in
      first_more _ _ (inside h action (fate h action) ++ stops to inputs) (inside_more n (inside h action (fate h action)) (cut_places (suc n) to inputs) (stops to inputs) rest)

pub found_may : (h : Machine) (program : List Input) (look : List Seen) → is_some (found_stop h program look) ≡ may_find h program look
found_may h program look = stop_may (may_show look) 1 (armed h) program

-- what the first stop shows may be found
found_first : (test : Machine → Bool) (xs : List Stop) (stop : Stop) → first_stop test xs ≡ Some stop → (more : Machine → Bool) → more stop.state ≡ true → is_some (first_stop more xs) ≡ true
found_first test [] stop is more shown = cc is
found_first test (x ∷ xs) stop is more shown = by_test (test x.state) is (λ at. found_first test xs stop at more shown)
  where
    by_more : (b : Bool) → is_some (first_stop more xs) ≡ true → is_some (if b then Some x else first_stop more xs) ≡ true
    by_more true rest = refl
    by_more false rest = rest

    by_test : (b : Bool) → (if b then Some x else first_stop test xs) ≡ Some stop → (first_stop test xs ≡ Some stop → is_some (first_stop more xs) ≡ true)
        → is_some (if more x.state then Some x else first_stop more xs) ≡ true
    by_test true at later = let same : stop ≡ x = cc at in ap (λ b. is_some (if b then Some x else first_stop more xs)) (subst (λ s. more s.state ≡ true) same shown)
    by_test false at later = by_more (more x.state) (later at)

kept_found : (h : Machine) (program : List Input) (all look : List Seen) (stop : Option Stop) (found : Found) → found_stop h program look ≡ stop → IsFound all look stop (Some found)
    → may_find h program (look ++ told found.kept) ≡ true
kept_found h program all look None found at is = absurd is
kept_found h program all look (Some stop) found at is =
    sym (found_may h program (look ++ told found.kept)) ∙ found_first (may_show look) (cut_places 1 (armed h) program) stop at (may_show (look ++ told found.kept)) is.1.shown

-- so each answer is a theorem about the machine's runs
pub are_theorems : (h : Machine) (program : List Input) → ((look : List Seen) → (may_find h program look ≡ true → Finds h program look) × (Finds h program look → may_find h program look ≡ true))
    → TellsRuns h program → ListsRuns h program → AreTheorems h program
are_theorems h program tells table list = record {
  never = λ look none finds. true≢false (sym ((tells look).1 finds) ∙ sym (found_may h program look) ∙ ap is_some none);
  may = λ all look found is. (tells (look ++ told found.kept)).0 (kept_found h program all look (found_stop h program look) found refl is);
  table = table;
  list = list;
}
