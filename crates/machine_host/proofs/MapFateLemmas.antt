-- What comes of a mapping of a file, by what refuses it.
use Rattle.std.proofs.Common.{◌≡◌, ◌+◌, ◌*◌, ◌||◌, ◌==◌, ◌∙◌, ℕ, Bool, true, false, cond, Option, Some, None, option_map, List, [], ◌∷◌, length, nat_lt, refl, ap, ap₂, if◌then◌else◌}
use Rattle.nvm_base.specs.declared.files.Kind.{Kind}
use Rattle.nvm_base.specs.declared.units.Span.{Span}
use Rattle.nvm_model.specs.Blocks.{first_there}
use Rattle.nvm_model.specs.Listing.{file_name, file_of, has_file, is_named}
use Rattle.nvm_model.specs.Mappings.{is_full, is_shared}
use Rattle.nvm_model.specs.Page.{Page, first_bad_line}
use Rattle.nvm_model.specs.Storage.{File}
use Rattle.file_pages.specs.Refusals.{poisoned_at}
use Rattle.mappings.specs.Refusals.{copy_refusal, extent_refusal, found_refusal, limit_refusal, map_refusal, refused_if}
use Rattle.mappings.specs.Refusals.MapRefusal.{Length, Limit, Poison, Range}
use Rattle.reply_text.specs.declared.reply.Why.TheVariants as because
use Rattle.reply_text.specs.Answer.{Answer}
use Rattle.reply_text.specs.Answer.Answer.{Refused}
use Rattle.script_text.specs.Action.Action.{Map}
use Rattle.machine_model.specs.declared.mode.Mode.TheVariants.{On}
use Rattle.machine_model.specs.Commands.{fate, meaning, unless_refused}
use Rattle.machine_model.specs.Machine.{Machine}
use Rattle.machine_model.specs.Meaning.{span_refusal}
use Rattle.machine_model.specs.OnMappings.{if_full_of_mappings, map_answer}
use Rattle.machine_model.specs.OnPages.{page_answer}
use Rattle.machine_host.specs.Stands.{mappings_of}
use Rattle.machine_model.proofs.RefusalLemmas.{fate_usable, first_assoc, mapped_first}

-- a file is there exactly where one is found
pub has-found : (name : List ℕ) (files : List File) (file : File) → file_of file_name name files ≡ Some file → has_file file_name name files ≡ true
has-found name [] file found = cc found
has-found name (x ∷ xs) file found = by_test (is_named file_name name x) found (λ later. has-found name xs file later)
  where
    by_test : (b : Bool) → cond b (Some x) (file_of file_name name xs) ≡ Some file → (file_of file_name name xs ≡ Some file → has_file file_name name xs ≡ true) → (b || has_file file_name name xs) ≡ true
    by_test true is later = refl
    by_test false is later = later is

pub has-missing : (name : List ℕ) (files : List File) → file_of file_name name files ≡ None → has_file file_name name files ≡ false
has-missing name [] none = refl
has-missing name (x ∷ xs) none = by_test (is_named file_name name x) none (λ later. has-missing name xs later)
  where
    by_test : (b : Bool) → cond b (Some x) (file_of file_name name xs) ≡ None → (file_of file_name name xs ≡ None → has_file file_name name xs ≡ false) → (b || has_file file_name name xs) ≡ false
    by_test true is later = cc is
    by_test false is later = later is

-- each kind of reason, as the mappings find it
extent_is : (name : List ℕ) (past empty : Bool) → option_map Refused (if past then Some because.Range else (if empty then Some because.Length else None))
    ≡ option_map (map_answer name) (first_there (refused_if past Range) (refused_if empty Length))
extent_is name true empty = refl
extent_is name false true = refl
extent_is name false false = refl

limit_is : (name : List ℕ) (full : Bool) → (if full then Some (Refused because.Limit) else None) ≡ option_map (map_answer name) (refused_if full Limit)
limit_is name true = refl
limit_is name false = refl

copy_is : (name : List ℕ) (shared : Bool) (line : Option ℕ) → (if shared then None else option_map (page_answer name) (poisoned_at line))
    ≡ option_map (map_answer name) (if shared then None else option_map (λ n. Poison (64 * n)) line)
copy_is name true line = refl
copy_is name false None = refl
copy_is name false (Some n) = refl

module _ (h : Machine) (name : List ℕ) (span : Span) (kind : Kind) (on : h.mode ≡ On) where
  abbrev of_pages : List Page → Option Answer
  of_pages pages =
      first_there (first_there (option_map Refused (span_refusal (4096 * length pages) span.start span.len)) (if_full_of_mappings h))
      (if is_shared kind then None else option_map (page_answer name) (poisoned_at (first_bad_line pages span.start span.len)))

  by_pages : (pages : List Page) → of_pages pages
      ≡ option_map (map_answer name) (first_there (extent_refusal (4096 * length pages) span) (first_there (limit_refusal (mappings_of h)) (copy_refusal kind pages span)))
  by_pages pages =
      first_assoc (option_map Refused (span_refusal (4096 * length pages) span.start span.len)) (if_full_of_mappings h) _
      ∙ ap₂ first_there (extent_is name (nat_lt (4096 * length pages) (span.start + span.len)) (span.len == 0))
      (ap₂ first_there (limit_is name (is_full h.mappings h.next_handle)) (copy_is name (is_shared kind) (first_bad_line pages span.start span.len)) ∙ mapped_first (map_answer name) (limit_refusal (mappings_of h)) (copy_refusal kind pages span))
      ∙ mapped_first (map_answer name) (extent_refusal (4096 * length pages) span) (first_there (limit_refusal (mappings_of h)) (copy_refusal kind pages span))

  abbrev of_both : Bool → List Page → Option Answer
  of_both there pages = first_there (if there then None else Some (Refused because.Missing)) (of_pages pages)

  by_file : (o : Option File) → file_of file_name name h.files ≡ o
      → of_both (has_file file_name name h.files) (elim o [ None ↦ [] | Some file ↦ file.pages ]) ≡ option_map (map_answer name) (found_refusal (mappings_of h) o span kind)
  by_file None is = ap (λ b. of_both b []) (has-missing name h.files is)
  by_file (Some file) is = ap (λ b. of_both b file.pages) (has-found name h.files file is) ∙ by_pages file.pages

  pub fate_map : fate h (Map name span kind) ≡ unless_refused h (option_map (map_answer name) (map_refusal (mappings_of h) h.files name span kind)) ((meaning (Map name span kind)).comes h)
  fate_map =
      fate_usable h (Map name span kind) refl on
      ∙ ap (λ o. unless_refused h o ((meaning (Map name span kind)).comes h)) (by_file (file_of file_name name h.files) refl)
