-- What a list of outcomes has is what some runs find.
use Rattle.std.proofs.Common.{◌≡◌, ◌*◌, ◌<◌, ℕ, Bool, true, false, Option, Some, None, List, [], ◌∷◌, length, is_some, if◌then◌else◌, refl, sym, subst, ◌∙◌}
use Rattle.std.specs.Prelude.{All, Contains}
use Rattle.std.proofs.lemmas.List.Elements.{All-head, All-tail}
use Rattle.block_sights.specs.Sights.{Sight}
use Rattle.std.specs.Option.{option_map}
use Rattle.script_text.specs.Script.{Input}
use Rattle.outcome_lists.specs.MachineModel.Machine.{Machine}
use Rattle.outcome_lists.specs.OutcomeTest.Finds.{Finds, IsReady, armed, may_find}
use Rattle.outcome_lists.specs.OutcomeTest.Pages.PageReply.{Shows}
use Rattle.outcome_lists.specs.OutcomeTest.Stops.{IsProgram}
use Rattle.outcome_lists.specs.OutcomeTest.Seen.{Seen, may_show}
use Rattle.outcome_lists.specs.AskedReads.declared.read.Read.{Read}
use Rattle.outcome_lists.specs.AskedReads.declared.read.Read.TheVariants.{Volume, Blocks, File}
use Rattle.outcome_lists.specs.ValueTables.Listed.{IsSized, IsSound, block_read, file_word_read, lists_bytes, lists_sight, reply_of, word_read}
use Rattle.outcome_lists.specs.CutPlaces.declared.place.CutPlace.{CutPlace}
use Rattle.outcome_lists.specs.CutPlaces.Places.{Stop, cut_places, first_stop, found_stop}
use Rattle.outcome_lists.specs.Choices.{sights_through, states, values_through}
use Rattle.outcome_lists.specs.Listing.{IsFound, StandOnce, asked_with, outcome_at}
use Rattle.outcome_lists.specs.Outcomes.{Outcome, look_of, nothing, outcomes_of, place_of}
use Rattle.explore_program.specs.Lists.{ListsRuns}
use Rattle.explore_program.proofs.FoundLemmas.{found_may}

-- a place is there where a stop is
stop_there : (o : Option Stop) (place : CutPlace) → option_map (λ (stop : Stop). stop.place) o ≡ Some place → is_some o ≡ true
stop_there None place is = cc is
stop_there (Some stop) place is = refl

place_there : (o : Option Stop) → is_some o ≡ true → (place : CutPlace) × (option_map (λ (stop : Stop). stop.place) o ≡ Some place)
place_there None is = cc is
place_there (Some stop) is = (stop.place, refl)

-- what is so at each place where a test passes is so where it passes at some
first_so : (test : Machine → Bool) (is : Bool) (stops : List Stop) → is_some (first_stop test stops) ≡ true → All (λ (stop : Stop). test stop.state ≡ true → is ≡ true) stops → is ≡ true
first_so test is [] some all = cc some
first_so test is (stop ∷ stops) some all =
    by_test (test stop.state) refl some (λ rest. first_so test is stops rest (All-tail (λ (stop : Stop). test stop.state ≡ true → is ≡ true) stop stops all))
  where
    by_test : (b : Bool) → test stop.state ≡ b → is_some (if b then Some stop else first_stop test stops) ≡ true → (is_some (first_stop test stops) ≡ true → is ≡ true) → is ≡ true
    by_test true passes some later = All-head (λ (stop : Stop). test stop.state ≡ true → is ≡ true) stop stops all passes
    by_test false passes some later = later some

-- the laws of a list, from one state on
pub record Lists (h : Machine) (program : List Input) : Type 0 where
  pub listed : (parts : List Read) (o : Outcome) → Contains (outcomes_of h program parts) o → IsFound h program parts o
  pub every : (parts : List Read) (o : Outcome) → IsFound h program parts o → Contains (outcomes_of h program parts) o
  pub once : (parts : List Read) → StandOnce (outcomes_of h program parts)
  pub words : (p : ℕ) (bytes : List ℕ) → IsReady h → IsSound h → IsProgram program → p < 512 * h.geometry.vpages → length bytes ≡ 8
      → All (λ (stop : Stop). may_show (word_read p (Shows bytes)) stop.state ≡ true → lists_bytes bytes (values_through (Volume (8 * p) 8) [] (states h program)) ≡ true) (cut_places 1 h program)
  pub blocks : (b : ℕ) (sight : Sight) → IsReady h → IsSound h → IsProgram program → b < h.geometry.blocks → IsSized sight
      → All (λ (stop : Stop). may_show (block_read b (reply_of b sight)) stop.state ≡ true → lists_sight sight (sights_through (Blocks b 1) [] (states h program)) ≡ true) (cut_places 1 h program)
  pub file_words : (name : List ℕ) (p : ℕ) (bytes : List ℕ) → IsReady h → IsSound h → IsProgram program → length bytes ≡ 8
      → All (λ (stop : Stop). may_show (file_word_read name p (Shows bytes)) stop.state ≡ true → lists_bytes bytes (values_through (File name (8 * p) 8) [] (states h program)) ≡ true) (cut_places 1 h program)

module _ (h : Machine) (program : List Input) (tells : (look : List Seen) → (may_find h program look ≡ true → Finds h program look) × (Finds h program look → may_find h program look ≡ true)) where
  finds_there : (look : List Seen) (place : CutPlace) → place_of (cut_places 1 (armed h) program) look ≡ Some place → Finds h program look
  finds_there look place is = (tells look).0 (sym (found_may h program look) ∙ stop_there (found_stop h program look) place is)

  -- what is so wherever a look may be shown is so where a run finds it
  finds_so : (look : List Seen) (is : Bool) → Finds h program look → All (λ (stop : Stop). may_show look stop.state ≡ true → is ≡ true) (cut_places 1 (armed h) program) → is ≡ true
  finds_so look is finds all = first_so (may_show look) is (cut_places 1 (armed h) program) (found_may h program look ∙ (tells look).1 finds) all

  module _ (ready : IsReady (armed h)) (sound : IsSound (armed h)) (is_program : IsProgram program) where
    pub lists_runs : Lists (armed h) program → ListsRuns h program
    lists_runs list = record {
      found = λ parts o has.
          let is = list.listed parts o has in
          subst (λ (o : Outcome). Finds h program (look_of o.asked)) (sym is.is) (finds_there (look_of (asked_with nothing is.picked)) is.place is.first);
      every = λ parts picked ways finds.
          let look = look_of (asked_with nothing picked) in
          let there = place_there (found_stop h program look) (found_may h program look ∙ (tells look).1 finds) in
          (there.0, list.every parts (outcome_at there.0 picked) (record { picked = picked; ways = ways; place = there.0; first = there.1; is = refl }));
      once = list.once;
      words = λ p bytes within long finds. finds_so (word_read p (Shows bytes)) _ finds (list.words p bytes ready sound is_program within long);
      blocks = λ b sight within sized finds. finds_so (block_read b (reply_of b sight)) _ finds (list.blocks b sight ready sound is_program within sized);
      file_words = λ name p bytes long finds. finds_so (file_word_read name p (Shows bytes)) _ finds (list.file_words name p bytes ready sound is_program long);
    }
