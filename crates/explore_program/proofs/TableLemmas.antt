-- What a table lists at some place of a program is what some run finds.
use Rattle.std.proofs.Common.{◌≡◌, ◌↔◌, ◌||◌, ℕ, suc, ◌*◌, ◌/◌, ◌<◌, Bool, true, false, Option, Some, None, inl, inr, List, [], ◌∷◌, ◌++◌, length, map, is_some, if◌then◌else◌, refl, sym, ap, subst, ◌∙◌}
use Rattle.std.specs.Prelude.{All}
use Rattle.std.specs.List.{list_any}
use Rattle.std.proofs.lemmas.List.Elements.{All-cons, All-head, All-nil, All-tail}
use Rattle.word_tables.specs.declared.geometry.Geometry.{Geometry}
use Rattle.block_sights.specs.Sights.{Sight}
use Rattle.reply_text.specs.Answer.{Answer}
use Rattle.reply_text.specs.declared.reply.Why.TheVariants.{Missing, Range}
use Rattle.script_text.specs.Action.{Action}
use Rattle.script_text.specs.Script.{Input}
use Rattle.script_text.specs.Script.Input.{Skipped, Malformed, Overlong, Asked}
use Rattle.outcome_lists.specs.MachineModel.Machine.{Fate, Machine}
use Rattle.outcome_lists.specs.MachineModel.Machine.Fate.{Gives, Works, Orders, Cuts, Restarts, Recovers}
use Rattle.outcome_lists.specs.MachineModel.Commands.{fate, meaning, refusal, unless_refused, while_interrupted}
use Rattle.outcome_lists.specs.Durable.Durable.{IsCounted}
use Rattle.outcome_lists.specs.OutcomeTest.Finds.{Finds, IsReady, armed, may_find}
use Rattle.outcome_lists.specs.OutcomeTest.Pages.PageReply.{Poison, Refuses, Shows}
use Rattle.outcome_lists.specs.OutcomeTest.Seen.{Seen, may_show}
use Rattle.outcome_lists.specs.OutcomeTest.Stops.{inside, led_to}
use Rattle.outcome_lists.specs.OutcomeRuns.Kept.{IsKept}
use Rattle.outcome_lists.proofs.SightsSeen.SizeLemmas.{geometry_stays}
use Rattle.outcome_lists.specs.CutPlaces.declared.place.CutPlace.{CutPlace}
use Rattle.outcome_lists.specs.CutPlaces.declared.place.CutPlace.TheVariants.{Before, Inside}
use Rattle.outcome_lists.specs.CutPlaces.Places.{Stop, cut_places, first_stop}
use Rattle.outcome_lists.specs.ValueTables.Listed.{IsSized, IsSound, block_read, file_word_read, reply_of, word_read}
use Rattle.outcome_lists.proofs.ValueTables.FileValueLemmas.{seen_has}
use Rattle.explore_program.specs.Tables.{TellsRuns, at_some_place, lists_block, lists_file_poison, lists_file_word, lists_missing, lists_poison, lists_range, lists_word}
use Rattle.explore_program.proofs.FoundLemmas.{found_may}

-- what is listed in a state is what its reads may show
pub record Listed : Type 0 where
  pub words : (off : Machine) (p : ℕ) (bytes : List ℕ) → IsSound off → p < 512 * off.geometry.vpages → length bytes ≡ 8 → lists_word p bytes off ≡ may_show (word_read p (Shows bytes)) off
  pub poison : (off : Machine) (p : ℕ) → IsSound off → p < 512 * off.geometry.vpages → lists_poison p off ≡ may_show (word_read p (Poison (64 * (p / 8)))) off
  pub blocks : (off : Machine) (b : ℕ) (sight : Sight) → b < off.geometry.blocks → IsSized sight → lists_block b sight off ≡ may_show (block_read b (reply_of b sight)) off
  pub missing : (off : Machine) (name : List ℕ) (p : ℕ) → IsSound off → lists_missing name p off ≡ may_show (file_word_read name p (Refuses Missing)) off
  pub range : (off : Machine) (name : List ℕ) (p : ℕ) → IsSound off → lists_range name p off ≡ may_show (file_word_read name p (Refuses Range)) off
  pub file_words : (off : Machine) (name : List ℕ) (p : ℕ) (bytes : List ℕ) → IsSound off → length bytes ≡ 8 → lists_file_word name p bytes off ≡ may_show (file_word_read name p (Shows bytes)) off
  pub file_poison : (off : Machine) (name : List ℕ) (p : ℕ) → IsSound off → lists_file_poison name p off ≡ may_show (file_word_read name p (Poison (64 * (p / 8)))) off

-- the state that is read in an image is sound, a cut armed or not
pub sound_armed : (h : Machine) → IsReady h → IsKept h → IsSound (armed h)
sound_armed h ready kept =
    let counted : IsCounted h = elim ready.whole.counted as (λ _. IsCounted h) [ inl is ↦ is | inr nothing ↦ absurd (nothing.mode ready.mode) ] in record {
      counted = record { blocks = counted.blocks; pages = counted.pages };
      lines = ready.whole.lines;
      words = λ n lt. seen_has h.volume n ready.whole.lines kept.values;
      file_lines = ready.whole.file_lines;
      file_values = kept.file_values;
    }

-- each place has the sizes of the first
abbrev SameSizes : Geometry → Stop → Type 0
SameSizes geo stop = stop.state.geometry ≡ geo

sizes_led : (h : Machine) (action : Action) (o : Option Answer) → (led_to h (unless_refused h o ((meaning action).comes h))).geometry ≡ h.geometry
sizes_led h action None = geometry_stays h action
sizes_led h action (Some why) = refl

sizes_within : (h : Machine) (action : Action) (place : CutPlace) (to : Fate) (rest : List Stop) → All (SameSizes h.geometry) rest
    → All (SameSizes h.geometry) (map (λ m. record { place = place; state = m }) (inside h action to) ++ rest)
sizes_within h action place (Gives answer to) rest all = all
sizes_within h action place (Works answer to) rest all = All-cons (SameSizes h.geometry) (record { place = place; state = while_interrupted h action }) rest refl all
sizes_within h action place (Orders order to) rest all = all
sizes_within h action place (Cuts to) rest all = all
sizes_within h action place (Restarts choice) rest all = all
sizes_within h action place Recovers rest all = all

sizes : (inputs : List Input) (n : ℕ) (h : Machine) → All (SameSizes h.geometry) (cut_places n h inputs)
sizes [] n h = All-cons (SameSizes h.geometry) (record { place = Before n; state = h }) [] refl (All-nil (SameSizes h.geometry))
sizes (Skipped ∷ inputs) n h = sizes inputs (suc n) h
sizes (Malformed ∷ inputs) n h = sizes inputs (suc n) h
sizes (Overlong ∷ inputs) n h = sizes inputs (suc n) h
sizes (Asked action ∷ inputs) n h =
    let to = led_to h (fate h action) in
    All-cons (SameSizes h.geometry) (record { place = Before n; state = h })
    (map (λ m. record { place = Inside n; state = m }) (inside h action (fate h action)) ++ cut_places (suc n) (led_to h (fate h action)) inputs) refl
    (sizes_within h action (Inside n) (fate h action) (cut_places (suc n) (led_to h (fate h action)) inputs)
    (subst (λ (geo : Geometry). All (SameSizes geo) (cut_places (suc n) (led_to h (fate h action)) inputs)) (sizes_led h action (refusal h action)) (sizes inputs (suc n) (led_to h (fate h action)))))

-- tests that agree on such states
any_so : (f g : Machine → Bool) (geo : Geometry) → ((off : Machine) → IsSound off → off.geometry ≡ geo → f off ≡ g off) → (xs : List Stop)
    → All (λ (stop : Stop). IsSound stop.state) xs → All (SameSizes geo) xs → list_any (λ (stop : Stop). f stop.state) xs ≡ list_any (λ (stop : Stop). g stop.state) xs
any_so f g geo each [] sound same = refl
any_so f g geo each (x ∷ xs) sound same =
    ap (λ b. b || list_any (λ (stop : Stop). f stop.state) xs) (each x.state (All-head (λ (stop : Stop). IsSound stop.state) x xs sound) (All-head (SameSizes geo) x xs same))
    ∙ ap (λ b. g x.state || b) (any_so f g geo each xs (All-tail (λ (stop : Stop). IsSound stop.state) x xs sound) (All-tail (SameSizes geo) x xs same))

any_first : (test : Machine → Bool) (xs : List Stop) → list_any (λ (stop : Stop). test stop.state) xs ≡ is_some (first_stop test xs)
any_first test [] = refl
any_first test (x ∷ xs) = by_test (test x.state) (any_first test xs)
  where
    by_test : (b : Bool) → list_any (λ (stop : Stop). test stop.state) xs ≡ is_some (first_stop test xs)
        → (b || list_any (λ (stop : Stop). test stop.state) xs) ≡ is_some (if b then Some x else first_stop test xs)
    by_test true rest = refl
    by_test false rest = rest

module _ (h : Machine) (program : List Input) (tells : (look : List Seen) → (may_find h program look ≡ true → Finds h program look) × (Finds h program look → may_find h program look ≡ true))
    (sound : All (λ (stop : Stop). IsSound stop.state) (cut_places 1 (armed h) program)) where
  told : (f : Machine → Bool) (look : List Seen) → ((off : Machine) → IsSound off → off.geometry ≡ h.geometry → f off ≡ may_show look off) → at_some_place f h program ≡ true ↔ Finds h program look
  told f look each =
      let same : at_some_place f h program ≡ may_find h program look =
      any_so f (may_show look) h.geometry each (cut_places 1 (armed h) program) sound (sizes program 1 (armed h)) ∙ any_first (may_show look) (cut_places 1 (armed h) program) ∙ found_may h program look in
      (λ is. (tells look).0 (sym same ∙ is), λ finds. same ∙ (tells look).1 finds)

  pub tells_runs : Listed → TellsRuns h program
  tells_runs listed = record {
    words = λ p bytes within long. told (lists_word p bytes) (word_read p (Shows bytes)) (λ off is size. listed.words off p bytes is (subst (λ (geo : Geometry). p < 512 * geo.vpages) (sym size) within) long);
    poison = λ p within. told (lists_poison p) (word_read p (Poison (64 * (p / 8)))) (λ off is size. listed.poison off p is (subst (λ (geo : Geometry). p < 512 * geo.vpages) (sym size) within));
    blocks = λ b sight within sized. told (lists_block b sight) (block_read b (reply_of b sight)) (λ off is size. listed.blocks off b sight (subst (λ (geo : Geometry). b < geo.blocks) (sym size) within) sized);
    missing = λ name p. told (lists_missing name p) (file_word_read name p (Refuses Missing)) (λ off is size. listed.missing off name p is);
    range = λ name p. told (lists_range name p) (file_word_read name p (Refuses Range)) (λ off is size. listed.range off name p is);
    file_words = λ name p bytes long. told (lists_file_word name p bytes) (file_word_read name p (Shows bytes)) (λ off is size. listed.file_words off name p bytes is long);
    file_poison = λ name p. told (lists_file_poison name p) (file_word_read name p (Poison (64 * (p / 8)))) (λ off is size. listed.file_poison off name p is);
  }
