-- Every state that a run comes to is kept.
use Rattle.std.proofs.Common.{◌≡◌, ◌⊎◌, inl, inr, false, Option, Some, None, List, [], ◌∷◌, length, map, refl, sym, ap, subst, ◌∙◌, arith}
use Rattle.std.proofs.lemmas.List.{length-map}
use Rattle.line_device.specs.Panel.{Image}
use Rattle.line_device.specs.declared.line.Choice.{Choice}
use Rattle.word_tables.specs.declared.geometry.Geometry.{Geometry}
use Rattle.word_tables.specs.Bounds.{IsValid}
use Rattle.word_tables.specs.Layout.{volume_line}
use Rattle.pm_volume.specs.Presence.{presence_read}
use Rattle.nvm_model.specs.Listing.{AreAlike, file_name}
use Rattle.nvm_model.specs.Page.{is_present, presence_of, read_pages}
use Rattle.nvm_model.specs.Storage.{Block, File, Mapping}
use Rattle.nvm_model.proofs.PageLemmas.{presence_of-read_pages}
use Rattle.block_device.specs.Reading.{blocks_read}
use Rattle.file_journal.specs.Files.{UnitFile, files_of, unit_file_name}
use Rattle.file_journal.specs.Reading.{tables_read}
use Rattle.file_journal.specs.Standing.{KeepsFile, KeepsFiles, file_read, files_read, line_of_file, pages_there}
use Rattle.reply_text.specs.Answer.{Answer}
use Rattle.script_text.specs.Action.{Action}
use Rattle.script_text.specs.Script.{Input}
use Rattle.script_text.specs.Script.Input.{Skipped, Malformed, Overlong, Asked}
use Rattle.machine_model.specs.Commands.{MayLeaveFiles, meaning, refusal}
use Rattle.machine_model.specs.declared.mode.Mode.TheVariants.{On}
use Rattle.machine_model.specs.Machine.{Machine}
use Rattle.machine_model.specs.Run.{Run, Transcript}
use Rattle.durable.specs.Durable.{HasNothing, IsComplete}
use Rattle.durable.proofs.RefusalLemmas.{is_on}
use Rattle.durable.proofs.StepKinds.{Alters, Idles, Remounts, Returns, Step, Stops, blocks_after, files_made, volume_after}
use Rattle.durable.proofs.StepKinds.Step.{idles, alters, stops, returns, remounts, empties}
use Rattle.durable.proofs.StepLemmas.{geometry_step, nothing_step, step_of, unit_run}
use Rattle.durable.proofs.WholeLemmas.{whole-run, whole-step}
use Rattle.outcomes.specs.Finds.{IsReady}
use Rattle.outcomes.specs.Outcome.{AllHaveValues}
use Rattle.state_images.specs.Storable.{AreWholeBlocks}
use Rattle.outcome_runs.specs.Brings.{BringRight, BringsRight}
use Rattle.outcome_runs.specs.Kept.{AreListed, IsKept}
use Rattle.outcome_runs.proofs.BlockKeptLemmas.{whole_after}
use Rattle.outcome_runs.proofs.CountLemmas.{all_used, marked}
use Rattle.outcome_runs.proofs.FileValueLemmas.{files_after_have}
use Rattle.outcome_runs.proofs.KeptLemmas.{MayMake, blocks_made, kept_with, left_listed, makes_kept}
use Rattle.outcome_runs.proofs.LeftLemmas.{blocks_left}
use Rattle.outcome_runs.proofs.LeftValueLemmas.{files_left_have, volume_left_has}
use Rattle.outcome_runs.proofs.ListedLemmas.{listed_alike, listed_by, used_room}
use Rattle.outcome_runs.proofs.ListedStepLemmas.{listed_after}
use Rattle.outcome_runs.proofs.ReadKeptLemmas.{blocks_whole, files_have, pages_have}
use Rattle.outcomes.proofs.ValueLemmas.{volume_have}

-- the files that a restart read of files that were left
abbrev SamePages : File → File → Type 0
SamePages old now = presence_of now.pages ≡ presence_of old.pages

alike_read : (choice : Choice) (geo : Geometry) (image : Image) (xs : List UnitFile) (left : List File) → AreAlike unit_file_name file_name (KeepsFile choice geo image) xs left
    → AreAlike file_name file_name SamePages left (map (file_read geo image) xs)
alike_read choice geo image [] [] alike = tt
alike_read choice geo image [] (y ∷ left) alike = absurd alike
alike_read choice geo image (x ∷ xs) [] alike = absurd alike
alike_read choice geo image (x ∷ xs) (y ∷ left) alike =
    (sym alike.0, presence_of-read_pages (line_of_file geo x) image (pages_there x) ∙ sym alike.1.there, alike_read choice geo image xs left alike.2)

use_alike : (old new : List File) → AreAlike file_name file_name SamePages old new → all_used new ≡ all_used old
use_alike [] [] alike = refl
use_alike [] (y ∷ new) alike = absurd alike
use_alike (x ∷ old) [] alike = absurd alike
use_alike (x ∷ old) (y ∷ new) alike = omega (arith, ap marked alike.1, use_alike old new alike.2)

same_size : (x y : File) → SamePages x y → length y.pages ≡ length x.pages
same_size x y there = sym (length-map y.pages is_present) ∙ ap length there ∙ length-map x.pages is_present

read_listed : (choice : Choice) (geo : Geometry) (image : Image) (left : List File) → KeepsFiles choice geo image left → AreListed geo left → AreListed geo (files_read geo image)
unfolding files_read
read_listed choice geo image left keeps listed =
    let alike = alike_read choice geo image (files_of (tables_read geo image.word)) left keeps in
    listed_alike SamePages geo left (files_read geo image) same_size alike listed (omega (arith, use_alike left (files_read geo image) alike, used_room geo left listed))

-- a command that is interrupted still
makes_same : (h next : Machine) (o : Option Action) → next.geometry ≡ h.geometry → next.blocks ≡ h.blocks → next.files ≡ h.files → next.mappings ≡ h.mappings → MayMake h o → MayMake next o
makes_same h next None geo blocks files mappings makes = tt
makes_same h next (Some action) geo blocks files mappings makes = record {
  blocks = subst (λ (b : List Block). AreWholeBlocks ((meaning action).blocks b)) (sym blocks) makes.blocks;
  values = subst (λ (m : List Mapping). AllHaveValues ((meaning action).files m next.files)) (sym mappings)
      (subst (λ (f : List File). AllHaveValues ((meaning action).files h.mappings f)) (sym files) makes.values);
  listed = λ left may. subst (λ (g : Geometry). AreListed g left) (sym geo)
      (makes.listed left (subst (λ (f : List File). MayLeaveFiles h.mappings (Some action) f left) files
      (subst (λ (m : List Mapping). MayLeaveFiles m (Some action) next.files left) mappings may)));
}

-- what is kept of a state in each mode: nothing is there, or storage is kept that the interrupted command keeps
record Storage (h : Machine) : Type 0 where
  kept : IsKept h
  makes : MayMake h h.interrupted

record Stays (h : Machine) : Type 0 where
  valid : IsValid h.geometry
  whole : IsComplete h
  storage : HasNothing h ⊎ Storage h

settled_storage : (h : Machine) → IsKept h → h.interrupted ≡ None → Storage h
settled_storage h kept settled = record { kept = kept; makes = subst (MayMake h) (sym settled) tt }

module _ (h : Machine) (action : Action) (next : Machine) (right : BringsRight action) (whole : IsComplete h) (s : Storage h) where
  storage_idle : Idles h next → Storage next
  storage_idle to = record {
    kept = kept_with h.geometry h.blocks h.volume h.files next s.kept.valid s.kept.blocks s.kept.values s.kept.file_values s.kept.listed to.geometry to.blocks to.volume to.files;
    makes = subst (MayMake next) (sym to.interrupted) (makes_same h next h.interrupted to.geometry to.blocks to.files to.mappings s.makes);
  }

  storage_altered : refusal h action ≡ None → Alters h action next → Storage next
  storage_altered none to =
      settled_storage next
      (kept_with h.geometry (blocks_after action h.blocks) (volume_after h.geometry action h.volume) (files_made h.mappings action h.files) next s.kept.valid
      (whole_after action h.blocks right s.kept.blocks) (volume_have h.geometry action h.volume s.kept.values) (files_after_have action h.mappings h.files s.kept.file_values)
      (listed_after h action s.kept.listed right none) to.geometry to.blocks to.volume to.files)
      (to.interrupted ∙ whole.settled (is_on h action to.needs none))

  storage_stopped : refusal h action ≡ None → Stops h action next → Storage next
  storage_stopped none to = record {
    kept = kept_with h.geometry h.blocks h.volume h.files next s.kept.valid s.kept.blocks s.kept.values s.kept.file_values s.kept.listed to.geometry to.blocks to.volume to.files;
    makes = subst (MayMake next) (sym to.interrupted)
        (makes_same h next (Some action) to.geometry to.blocks to.files to.mappings (makes_kept h action s.kept right none));
  }

  storage_returned : Returns h next → Storage next
  storage_returned back =
      let image : Image = back.image in
      settled_storage next
      (kept_with h.geometry (blocks_read h.geometry image.is_bad image.word) (read_pages (volume_line h.geometry) image (presence_read h.geometry image.word)) (files_read h.geometry image) next
      s.kept.valid (blocks_whole h.geometry image.is_bad image.word) (pages_have (volume_line h.geometry) image (presence_read h.geometry image.word)) (files_have h.geometry image)
      (read_listed back.choice h.geometry image back.may.files_left back.may.files (left_listed h h.interrupted back.may.files_left s.kept.listed s.makes back.may.may_files))
      back.geometry back.blocks back.volume back.files) back.interrupted

  storage_remounted : Remounts h next → Storage next
  storage_remounted back =
      settled_storage next
      (kept_with h.geometry next.blocks next.volume next.files next s.kept.valid (blocks_left h.interrupted h.blocks next.blocks s.kept.blocks (blocks_made h h.interrupted s.makes) back.blocks)
      (volume_left_has h.geometry h.interrupted h.volume next.volume s.kept.values back.volume) (files_left_have h.mappings h.interrupted h.files next.files s.kept.file_values back.files)
      (left_listed h h.interrupted next.files s.kept.listed s.makes back.files) back.geometry refl refl refl) back.interrupted

stays_step : (h : Machine) (action : Action) (answer : Answer) (next : Machine) → Stays h → BringsRight action → Step h action answer next → Stays next
stays_step h action answer next stays right step = record {
  valid = subst IsValid (sym (geometry_step h action answer next step)) stays.valid;
  whole = whole-step h action answer next stays.whole step;
  storage = by_storage stays.storage;
}
  where
    by_step : Storage h → Step h action answer next → HasNothing next ⊎ Storage next
    by_step s (idles why to) = inr (storage_idle h action next right stays.whole s to)
    by_step s (alters begun none to) = inr (storage_altered h action next right stays.whole s none to)
    by_step s (stops by is none to) = inr (storage_stopped h action next right stays.whole s none to)
    by_step s (returns covered back) = inr (storage_returned h action next right stays.whole s back)
    by_step s (remounts covered back) = inr (storage_remounted h action next right stays.whole s back)
    by_step s (empties covered to) = inl to.nothing

    by_storage : HasNothing h ⊎ Storage h → HasNothing next ⊎ Storage next
    by_storage (inl nothing) = inl (nothing_step h action answer next nothing step)
    by_storage (inr s) = by_step s step

stays_run : (inputs : List Input) (h later : Machine) (said : Transcript) → Stays h → BringRight inputs → Run h inputs said later → Stays later
stays_run [] h later said stays right run = subst Stays (sym run.1) stays
stays_run (Skipped ∷ inputs) h later said stays right run = stays_run inputs run.2 later run.1 (subst Stays (sym run.4.1) stays) right run.5
stays_run (Malformed ∷ inputs) h later said stays right run = stays_run inputs run.2 later run.1 (subst Stays (sym run.4.1) stays) right run.5
stays_run (Overlong ∷ inputs) h later said stays right run = stays_run inputs run.2 later run.1 (subst Stays (sym run.4.1) stays) right run.5
stays_run (Asked action ∷ inputs) h later said stays right run =
    let taken = step_of h action run.0 run.2 run.4 in
    stays_run inputs run.2 later run.1 (stays_step h action taken.answer run.2 stays right.0 taken.step) right.1 run.5

nothing_listed : (geo : Geometry) → AreListed geo []
nothing_listed geo = listed_by geo [] (omega arith) tt refl (omega arith)

kept_of : (h : Machine) → Stays h → IsKept h
kept_of h stays = by_storage stays.storage
  where
    by_storage : HasNothing h ⊎ Storage h → IsKept h
    by_storage (inl nothing) =
        kept_with h.geometry [] [] [] h stays.valid tt (λ n cell is. cc is) tt (nothing_listed h.geometry) refl nothing.blocks nothing.volume nothing.files
    by_storage (inr s) = s.kept

pub run_kept : (start : Machine) (inputs : List Input) (said : Transcript) (h : Machine) → IsReady start → IsKept start → BringRight inputs → Run start inputs said h → IsKept h
run_kept start inputs said h ready kept right run =
    kept_of h (stays_run inputs start h said (record { valid = kept.valid; whole = ready.whole; storage = inr (settled_storage start kept ready.settled) }) right run)

pub run_ready : (start : Machine) (inputs : List Input) (said : Transcript) (h : Machine) → IsReady start → Run start inputs said h → h.mode ≡ On → h.bad_meta ≡ [] → h.fail_armed ≡ false
    → IsReady h
run_ready start inputs said h ready run on good safe =
    let whole = whole-run inputs start h said ready.whole run in
    record { whole = whole; unit = unit_run inputs start h said run ∙ ready.unit; mode = on; settled = whole.settled on; metadata = good; failures = safe }
