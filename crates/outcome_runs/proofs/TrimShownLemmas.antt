-- What is shown of pages is shown of them trimmed.
use Rattle.std.proofs.Common.{◌≡◌, inl, inr, ℕ, ◌*◌, Bool, true, false, cond, ◌||◌, Option, Some, None, option_map, List, [], ◌∷◌, length, map, refl, sym, ap, ◌∙◌}
use Rattle.std.specs.Str.{bytes_eq}
use Rattle.word_tables.specs.declared.geometry.Geometry.{Geometry}
use Rattle.nvm_model.specs.Blocks.{first_there}
use Rattle.nvm_model.specs.Files.{on_pages}
use Rattle.nvm_model.specs.Listing.{file_name, file_of, has_file, is_named}
use Rattle.nvm_model.specs.Page.{Page, first_bad_line, look}
use Rattle.nvm_model.specs.Storage.{Block, File}
use Rattle.pm_volume.specs.Refusals.{poisoned_at}
use Rattle.file_pages.specs.Refusals.{poisoned_at as poisoned_in}
use Rattle.reply_text.specs.Answer.{Answer}
use Rattle.reply_text.specs.Answer.Answer.{Bytes, Refused}
use Rattle.reply_text.specs.declared.reply.Why.TheVariants as because
use Rattle.script_text.specs.Action.Action.{FRead, VLoad}
use Rattle.machine_model.specs.Commands.{refusal}
use Rattle.machine_model.specs.Machine.{Machine}
use Rattle.machine_model.specs.Meaning.{most_refusal}
use Rattle.machine_model.specs.OnPages.{page_answer as file_answer, pages_named}
use Rattle.machine_model.specs.OnVolume.{volume_answer}
use Rattle.machine_model.specs.Restarting.{holding}
use Rattle.durable.specs.Durable.{AllHaveLines}
use Rattle.outcomes.specs.Files.{FileRead}
use Rattle.outcomes.specs.Outcome.{AllShown, FilesSurvive, Shown, bytes_seen}
use Rattle.outcomes.specs.Pages.{PageRead}
use Rattle.outcomes.specs.Seen.{Seen, command}
use Rattle.outcomes.specs.Seen.Seen.{of_volume, of_file}
use Rattle.state_images.specs.Keeping.{FilesSurvive as FilesKept}
use Rattle.state_images.specs.Shapes.{AreFilesWhole}
use Rattle.outcome_runs.proofs.TrimLemmas.{first_bad-trim, length-trim, look-trim, trim, trim_survives, trim_whole}
use Rattle.durable.proofs.NamedPageLemmas.{pages_in}

-- two states that refuse a read alike, and give the same bytes
same_shown : (g other : Machine) (seen : Seen) → refusal other (command seen) ≡ refusal g (command seen) → bytes_seen other seen ≡ bytes_seen g seen → Shown g seen → Shown other seen
same_shown g other seen refused bytes (inl is) = inl (refused ∙ is)
same_shown g other seen refused bytes (inr is) = inr (refused ∙ is.0, is.1 ∙ ap Bytes (sym bytes))

module _ (geo : Geometry) (blocks : List Block) (volume : List Page) (files : List File) where
  load_trimmed : (start len : ℕ) → refusal (holding geo blocks (trim volume) files) (VLoad start len) ≡ refusal (holding geo blocks volume files) (VLoad start len)
  unfolding refusal
  load_trimmed start len =
      ap (λ o. first_there (option_map Refused (most_refusal 65536 (4096 * geo.vpages) start len)) (option_map volume_answer (poisoned_at o))) (first_bad-trim volume start len)

  pub volume_shown : (reads : List PageRead) → AllShown (holding geo blocks volume files) (map of_volume reads) → AllShown (holding geo blocks (trim volume) files) (map of_volume reads)
  volume_shown [] all = tt
  volume_shown (r ∷ reads) all = (
    same_shown (holding geo blocks volume files) (holding geo blocks (trim volume) files) (of_volume r) (load_trimmed r.start r.len) (look-trim volume r.start r.len) all.0,
    volume_shown reads all.1,
  )

-- files with their pages trimmed
abbrev pub trim_files : List File → List File
trim_files files = map (on_pages trim) files

trim_has : (name : List ℕ) (files : List File) → has_file file_name name (trim_files files) ≡ has_file file_name name files
trim_has name [] = refl
trim_has name (x ∷ files) = ap (λ b. bytes_eq x.name name || b) (trim_has name files)

named_trimmed : (name : List ℕ) (files : List File) → pages_named name (trim_files files) ≡ trim (pages_named name files)
named_trimmed name [] = refl
named_trimmed name (x ∷ files) = by_test (is_named file_name name x) (named_trimmed name files)
  where
    by_test : (b : Bool) → pages_named name (trim_files files) ≡ trim (pages_named name files)
        → pages_in (cond b (Some (on_pages trim x)) (file_of file_name name (trim_files files))) ≡ trim (pages_in (cond b (Some x) (file_of file_name name files)))
    by_test true later = refl
    by_test false later = later

module _ (geo : Geometry) (blocks : List Block) (volume : List Page) (files : List File) where
  abbrev refused_by : List ℕ → ℕ → ℕ → Bool → List Page → Option Answer
  refused_by name start len there pages =
      first_there (cond there None (Some (Refused because.Missing))) (first_there (option_map Refused (most_refusal 65536 (4096 * length pages) start len))
      (option_map (file_answer name) (poisoned_in (first_bad_line pages start len))))

  read_is : (some : List File) (name : List ℕ) (start len : ℕ) → refusal (holding geo blocks volume some) (FRead name start len)
      ≡ refused_by name start len (has_file file_name name some) (pages_named name some)
  unfolding refusal
  read_is some name start len = refl

  trimmed_is : (name : List ℕ) (start len : ℕ) (there : Bool) (pages : List Page) → refused_by name start len there (trim pages) ≡ refused_by name start len there pages
  trimmed_is name start len there pages =
      ap (λ n. first_there (cond there None (Some (Refused because.Missing))) (first_there (option_map Refused (most_refusal 65536 (4096 * n) start len))
      (option_map (file_answer name) (poisoned_in (first_bad_line (trim pages) start len))))) (length-trim pages)
      ∙ ap (λ o. first_there (cond there None (Some (Refused because.Missing))) (first_there (option_map Refused (most_refusal 65536 (4096 * length pages) start len))
      (option_map (file_answer name) (poisoned_in o)))) (first_bad-trim pages start len)

  read_trimmed : (name : List ℕ) (start len : ℕ) → refusal (holding geo blocks volume (trim_files files)) (FRead name start len) ≡ refusal (holding geo blocks volume files) (FRead name start len)
  read_trimmed name start len =
      read_is (trim_files files) name start len ∙ ap (λ b. refused_by name start len b (pages_named name (trim_files files))) (trim_has name files)
      ∙ ap (refused_by name start len (has_file file_name name files)) (named_trimmed name files)
      ∙ trimmed_is name start len (has_file file_name name files) (pages_named name files) ∙ sym (read_is files name start len)

  pub files_shown : (reads : List FileRead) → AllShown (holding geo blocks volume files) (map of_file reads) → AllShown (holding geo blocks volume (trim_files files)) (map of_file reads)
  files_shown [] all = tt
  files_shown (r ∷ reads) all = (
    same_shown (holding geo blocks volume files) (holding geo blocks volume (trim_files files)) (of_file r) (read_trimmed r.name r.pages.start r.pages.len)
        (ap (λ (p : List Page). look p r.pages.start r.pages.len) (named_trimmed r.name files) ∙ look-trim (pages_named r.name files) r.pages.start r.pages.len) all.0,
    files_shown reads all.1,
  )

-- what survives of files
pub files_survive : (left files : List File) → FilesSurvive left files → FilesKept left (trim_files files)
files_survive [] [] survive = tt
files_survive [] (y ∷ files) survive = absurd survive
files_survive (x ∷ left) [] survive = absurd survive
files_survive (x ∷ left) (y ∷ files) survive = (survive.0, trim_survives x.pages y.pages survive.1, files_survive left files survive.2)

pub files_whole : (left files : List File) → AllHaveLines left → FilesSurvive left files → AreFilesWhole (trim_files files)
files_whole [] [] lines survive = tt
files_whole [] (y ∷ files) lines survive = absurd survive
files_whole (x ∷ left) [] lines survive = absurd survive
files_whole (x ∷ left) (y ∷ files) lines survive = (trim_whole x.pages y.pages lines.0 survive.1, files_whole left files lines.1 survive.2)
