-- What a look shows tells of blocks, volume and files what they are.
use Rattle.std.proofs.Common.{◌≡◌, inl, inr, ℕ, ◌*◌, Bool, true, false, cond, Option, Some, None, option_map, List, [], ◌∷◌, length, refl, sym, ap, subst, ◌∙◌}
use Rattle.std.specs.List.{list_all}
use Rattle.std.specs.Str.{bytes_eq}
use Rattle.std.proofs.lemmas.Bool.{and_from}
use Rattle.std.proofs.lemmas.Slice.Eq.{bytes_eq-Decides}
use Rattle.line_device.specs.Panel.{Image}
use Rattle.word_tables.specs.declared.geometry.Geometry.{Geometry}
use Rattle.nvm_model.specs.Blocks.{first_obstacle, first_there}
use Rattle.nvm_model.specs.Listing.{file_name, has_file}
use Rattle.nvm_model.specs.Page.{Page, first_bad_line, look}
use Rattle.block_device.specs.Refusals.Refusal.{Unreadable}
use Rattle.pm_volume.specs.Refusals.{poisoned_at}
use Rattle.file_pages.specs.Refusals.{poisoned_at as poisoned_in}
use Rattle.reply_text.specs.Answer.{Answer}
use Rattle.reply_text.specs.Answer.Answer.{PoisonFile, PoisonVolume, Refused}
use Rattle.reply_text.specs.declared.reply.Why.{Why}
use Rattle.reply_text.specs.declared.reply.Why.TheVariants as because
use Rattle.script_text.specs.Action.Action.{BRead, FRead, VLoad}
use Rattle.machine_model.specs.Commands.{refusal}
use Rattle.machine_model.specs.Meaning.{most_refusal}
use Rattle.machine_model.specs.OnBlocks.{refusal_answer}
use Rattle.machine_model.specs.OnFiles.{if_missing}
use Rattle.machine_model.specs.OnPages.{page_answer as file_answer, pages_named}
use Rattle.machine_model.specs.OnVolume.{volume_answer}
use Rattle.machine_model.specs.Restarting.{read_with}
use Rattle.outcomes.specs.Files.{FileRead, is_file_reply, is_reply_of, reads_of}
use Rattle.outcomes.specs.Pages.{PageRead, is_refused_for, is_reply}
use Rattle.outcomes.specs.Pages.PageReply.{Refuses}
use Rattle.outcomes.specs.Seen.{Seen, block_reads, file_reads, volume_reads}
use Rattle.outcomes.specs.Seen.Seen.{of_volume, of_blocks, of_file}
use Rattle.outcomes.proofs.BlockLemmas as on_blocks
use Rattle.outcomes.proofs.LineLemmas.{AllAnswered, Answered}
use Rattle.outcomes.proofs.LineLemmas.Answered.{refused}
use Rattle.outcomes.specs.Outcome.{AllShown}
use Rattle.outcomes.proofs.RestLemmas.{IsRefusedBy, IsTold, NamesLines, Replied, refused_by, replied, reply_is, same_why}

volume_names : NamesLines PoisonVolume
volume_names = record {
  apart = λ at to is. cc is;
  no_bytes = λ at bytes is. cc is;
  no_refusal = λ at why is. cc is;
}

file_names : (name : List ℕ) → NamesLines (PoisonFile name)
file_names name = record {
  apart = λ at to is. cc is;
  no_bytes = λ at bytes is. cc is;
  no_refusal = λ at why is. cc is;
}

-- a refusal by a span and by a bad line
abbrev by_both : (ℕ → Answer) → Option Why → Option ℕ → Option Answer
by_both names o l = first_there (option_map Refused o) (option_map (λ n. names (64 * n)) l)

both_cases : (names : ℕ → Answer) (o : Option Why) (l : Option ℕ) → by_both names o l ≡ refused_by names o l
both_cases names (Some why) l = refl
both_cases names None (Some n) = refl
both_cases names None None = refl

volume_line : (l : Option ℕ) → option_map volume_answer (poisoned_at l) ≡ option_map (λ n. PoisonVolume (64 * n)) l
volume_line (Some n) = refl
volume_line None = refl

file_line : (name : List ℕ) (l : Option ℕ) → option_map (file_answer name) (poisoned_in l) ≡ option_map (λ n. PoisonFile name (64 * n)) l
file_line name (Some n) = refl
file_line name None = refl

-- why reads of what was mounted are refused
load_refusal : (geo : Geometry) (image : Image) (start len : ℕ) → refusal (read_with [] geo image) (VLoad start len)
    ≡ first_there (option_map Refused (most_refusal 65536 (4096 * geo.vpages) start len))
    (option_map volume_answer (poisoned_at (first_bad_line (read_with [] geo image).volume start len)))
unfolding refusal
load_refusal geo image start len = refl

read_refusal : (geo : Geometry) (image : Image) (first count : ℕ) → refusal (read_with [] geo image) (BRead first count)
    ≡ first_there (option_map Refused (most_refusal 128 geo.blocks first count))
    (option_map (λ o. refusal_answer (Unreadable o)) (first_obstacle (read_with [] geo image).blocks first count))
unfolding refusal
read_refusal geo image first count = refl

fread_refusal : (geo : Geometry) (image : Image) (name : List ℕ) (start len : ℕ) → refusal (read_with [] geo image) (FRead name start len)
    ≡ first_there (if_missing name (read_with [] geo image).files)
    (first_there (option_map Refused (most_refusal 65536 (4096 * length (pages_named name (read_with [] geo image).files)) start len))
    (option_map (file_answer name) (poisoned_in (first_bad_line (pages_named name (read_with [] geo image).files) start len))))
unfolding refusal
fread_refusal geo image name start len = refl

module _ (geo : Geometry) (image : Image) where
  load_by : (r : PageRead) → IsRefusedBy PoisonVolume (4096 * geo.vpages) (read_with [] geo image).volume r (refusal (read_with [] geo image) (VLoad r.start r.len))
  load_by r = λ o l why line.
      load_refusal geo image r.start r.len
      ∙ ap (first_there (option_map Refused (most_refusal 65536 (4096 * geo.vpages) r.start r.len))) (volume_line (first_bad_line (read_with [] geo image).volume r.start r.len))
      ∙ ap (λ w. by_both PoisonVolume w (first_bad_line (read_with [] geo image).volume r.start r.len)) why ∙ ap (by_both PoisonVolume o) line ∙ both_cases PoisonVolume o l

  load_replied : (r : PageRead) → IsTold PoisonVolume (read_with [] geo image).volume r (refusal (read_with [] geo image) (VLoad r.start r.len))
      → Replied (4096 * geo.vpages) (read_with [] geo image).volume r
  load_replied r told =
      replied PoisonVolume volume_names (4096 * geo.vpages) (read_with [] geo image).volume r (refusal (read_with [] geo image) (VLoad r.start r.len)) (load_by r) told

  pub pages_answered : (look : List Seen) → AllShown (read_with [] geo image) look → AllAnswered (read_with [] geo image).volume (volume_reads look)
  pages_answered [] all = tt
  pages_answered (of_volume r ∷ look) all = ((load_replied r all.0).answered, pages_answered look all.1)
  pages_answered (of_blocks r ∷ look) all = pages_answered look all.1
  pages_answered (of_file r ∷ look) all = pages_answered look all.1

  pub loads_right : (look : List Seen) → AllShown (read_with [] geo image) look → list_all (is_reply (4096 * geo.vpages)) (volume_reads look) ≡ true
  loads_right [] all = refl
  loads_right (of_volume r ∷ look) all =
      and_from (is_reply (4096 * geo.vpages) r) (list_all (is_reply (4096 * geo.vpages)) (volume_reads look)) (load_replied r all.0).right (loads_right look all.1)
  loads_right (of_blocks r ∷ look) all = loads_right look all.1
  loads_right (of_file r ∷ look) all = loads_right look all.1

  pub blocks_answered : (look : List Seen) → AllShown (read_with [] geo image) look → on_blocks.AllAnswered geo.blocks (read_with [] geo image).blocks (block_reads look)
  blocks_answered [] all = tt
  blocks_answered (of_volume r ∷ look) all = blocks_answered look all.1
  blocks_answered (of_blocks r ∷ look) all = (
    on_blocks.answered geo.blocks (read_with [] geo image).blocks r (refusal (read_with [] geo image) (BRead r.first r.count)) (read_refusal geo image r.first r.count) all.0,
    blocks_answered look all.1,
  )
  blocks_answered (of_file r ∷ look) all = blocks_answered look all.1

  -- a read of a file that is there, or that is missing
  abbrev pages_of : List ℕ → List Page
  pages_of name = pages_named name (read_with [] geo image).files

  fread_by : (name : List ℕ) (r : PageRead) → has_file file_name name (read_with [] geo image).files ≡ true
      → IsRefusedBy (PoisonFile name) (4096 * length (pages_of name)) (pages_of name) r (refusal (read_with [] geo image) (FRead name r.start r.len))
  fread_by name r there = λ o l why line.
      fread_refusal geo image name r.start r.len
      ∙ ap (λ b. first_there (cond b None (Some (Refused because.Missing)))
      (first_there (option_map Refused (most_refusal 65536 (4096 * length (pages_of name)) r.start r.len)) (option_map (file_answer name) (poisoned_in (first_bad_line (pages_of name) r.start r.len))))) there
      ∙ ap (first_there (option_map Refused (most_refusal 65536 (4096 * length (pages_of name)) r.start r.len))) (file_line name (first_bad_line (pages_of name) r.start r.len))
      ∙ ap (λ w. by_both (PoisonFile name) w (first_bad_line (pages_of name) r.start r.len)) why ∙ ap (by_both (PoisonFile name) o) line ∙ both_cases (PoisonFile name) o l

  fread_replied : (r : FileRead) → IsTold (PoisonFile r.name) (pages_of r.name) r.pages (refusal (read_with [] geo image) (FRead r.name r.pages.start r.pages.len))
      → Answered (pages_of r.name) r.pages × (is_file_reply (read_with [] geo image).files r ≡ true)
  fread_replied r told = by_there (has_file file_name r.name (read_with [] geo image).files) refl
    where
      size : ℕ
      size = 4096 * length (pages_of r.name)

      by_there : (b : Bool) → has_file file_name r.name (read_with [] geo image).files ≡ b → Answered (pages_of r.name) r.pages × (is_file_reply (read_with [] geo image).files r ≡ true)
      by_there true there =
          let reply = replied (PoisonFile r.name) (file_names r.name) (4096 * length (pages_of r.name)) (pages_of r.name) r.pages
          (refusal (read_with [] geo image) (FRead r.name r.pages.start r.pages.len)) (fread_by r.name r.pages there) told in
          (reply.answered, ap (λ b. is_reply_of b (4096 * length (pages_of r.name)) r.pages) there ∙ reply.right)
      by_there false missing =
          let here : refusal (read_with [] geo image) (FRead r.name r.pages.start r.pages.len) ≡ Some (Refused because.Missing) =
          fread_refusal geo image r.name r.pages.start r.pages.len
          ∙ ap (λ b. first_there (cond b None (Some (Refused because.Missing)))
          (first_there (option_map Refused (most_refusal 65536 (4096 * length (pages_of r.name)) r.pages.start r.pages.len))
          (option_map (file_answer r.name) (poisoned_in (first_bad_line (pages_of r.name) r.pages.start r.pages.len))))) missing in
          elim told as (λ _. Answered (pages_of r.name) r.pages × (is_file_reply (read_with [] geo image).files r ≡ true)) [
            | inl same ↦
                let is = reply_is (PoisonFile r.name) (file_names r.name) r.pages.reply (Refuses because.Missing) (cc (sym same ∙ here)) in (
                  refused because.Missing is,
                  ap (λ b. is_reply_of b (4096 * length (pages_of r.name)) r.pages) missing ∙ ap (is_refused_for because.Missing) is ∙ same_why because.Missing,
                )
            | inr none ↦ absurd (cc (sym none.0 ∙ here))
          ]

  pub files_answered : (name : List ℕ) (look : List Seen) → AllShown (read_with [] geo image) look → AllAnswered (pages_of name) (reads_of name (file_reads look))
  files_answered name [] all = tt
  files_answered name (of_volume r ∷ look) all = files_answered name look all.1
  files_answered name (of_blocks r ∷ look) all = files_answered name look all.1
  files_answered name (of_file r ∷ look) all = by_name (bytes_eq r.name name) refl (files_answered name look all.1)
    where
      by_name : (b : Bool) → bytes_eq r.name name ≡ b → AllAnswered (pages_of name) (reads_of name (file_reads look))
          → AllAnswered (pages_of name) (cond b (r.pages ∷ reads_of name (file_reads look)) (reads_of name (file_reads look)))
      by_name true same others = (subst (λ n. Answered (pages_of n) r.pages) ((bytes_eq-Decides r.name name).0 same) (fread_replied r all.0).0, others)
      by_name false other others = others

  pub freads_right : (look : List Seen) → AllShown (read_with [] geo image) look → list_all (is_file_reply (read_with [] geo image).files) (file_reads look) ≡ true
  freads_right [] all = refl
  freads_right (of_volume r ∷ look) all = freads_right look all.1
  freads_right (of_blocks r ∷ look) all = freads_right look all.1
  freads_right (of_file r ∷ look) all =
      and_from (is_file_reply (read_with [] geo image).files r) (list_all (is_file_reply (read_with [] geo image).files) (file_reads look)) (fread_replied r all.0).1 (freads_right look all.1)
