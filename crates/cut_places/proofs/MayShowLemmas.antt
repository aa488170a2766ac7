-- Whether a state, or one that a command was cut in, may show what is asked, as an exploration looks at it.
use Rattle.std.proofs.Common.{◌≡◌, ◌*◌, ◌&&◌, Bool, true, false, Option, Some, None, List, [], refl, sym, ap, ◌∙◌}
use Rattle.std.specs.List.{list_all}
use Rattle.nvm_model.specs.Blocks.{nth}
use Rattle.nvm_model.specs.Page.{cell_of}
use Rattle.nvm_model.specs.Storage.{File, Mapping}
use Rattle.script_text.specs.Action.{Action}
use Rattle.sights.specs.MachineModel.Machine.{Machine}
use Rattle.sights.specs.MachineModel.Commands.{meaning, refusal, while_interrupted}
use Rattle.sights.specs.MachineModel.Meaning.{FilesLeft}
use Rattle.sights.specs.MachineModel.Meaning.FilesLeft.{Unchanged, OldOrNew, StoredInPart, SyncedInPart}
use Rattle.sights.specs.Durable.Durable.{IsComplete}
use Rattle.sights.specs.Outcomes.Blocks.{BlockRead, all_numbers_read, block_fits, is_block_reply}
use Rattle.sights.specs.Outcomes.Left.{blocks_may_pass, files_may_pass, files_pass, volume_may_pass}
use Rattle.sights.specs.Outcomes.Pages.{PageRead, all_lines_read, is_reply, line_fits}
use Rattle.sights.specs.Outcomes.Seen.{Seen, block_reads, blocks_may_show, file_reads, files_may_show, may_show, volume_may_show, volume_reads}
use Rattle.sights.specs.AskedReads.declared.question.Question.{Question}
use Rattle.cut_places.specs.declared.sight.Sight.{Sight}
use Rattle.sights.specs.AskedReads.Asking.{IsLook, blocks_of, files_asked, may_be_file_reply, may_be_replies, volume_asked}
use Rattle.cut_places.specs.Following.{IsWhole, Sees}
use Rattle.cut_places.specs.Sights.{shows, shows_inside}
use Rattle.sights.specs.Units.{block_may_fit, line_may_fit}
use Rattle.sights.proofs.InsideLemmas.{AreThere, HaveLine, blocks_inside, volume_inside}
use Rattle.sights.proofs.PassLemmas.{all_same}
use Rattle.sights.proofs.ShowLemmas.{blocks_now, lines_now}
use Rattle.cut_places.specs.FileFitting.{fit_now}
use Rattle.cut_places.proofs.InsideLemmas.{command_inside, now_same}
use Rattle.cut_places.proofs.ReplyLemmas.{may_pass_some}

-- nothing is asked of files
files_pass_none : (left : FilesLeft) (old to : List File) → files_pass left [] old to ≡ true
files_pass_none Unchanged old to = refl
files_pass_none OldOrNew old to = refl
files_pass_none (StoredInPart name offset bytes) old to = refl
files_pass_none (SyncedInPart name spans) old to = refl

pub files_show_none : (mappings : List Mapping) (o : Option Action) (files : List File) → files_may_pass mappings o [] files ≡ true
files_show_none mappings None files = refl
files_show_none mappings (Some action) files = files_pass_none ((meaning action).files_left mappings) files ((meaning action).files mappings files)

-- the tests of replies and those of storage, where a file that passes has a reply that it may have
parts : (a l b k c f : Bool) → (f ≡ true → c ≡ true) → ((a && l) && ((b && k) && f)) ≡ ((a && (b && c)) && (l && (k && f)))
parts a l b k true true so = base a l b k
  where
    base : (a l b k : Bool) → ((a && l) && ((b && k) && true)) ≡ ((a && (b && true)) && (l && (k && true)))
    base true true true true = refl
    base true true true false = refl
    base true true false true = refl
    base true true false false = refl
    base true false true true = refl
    base true false true false = refl
    base true false false true = refl
    base true false false false = refl
    base false true true true = refl
    base false true true false = refl
    base false true false true = refl
    base false true false false = refl
    base false false true true = refl
    base false false true false = refl
    base false false false true = refl
    base false false false false = refl
parts a l b k false true so = cc (so refl)
parts a l b k c false so = none a l b k c
  where
    none : (a l b k c : Bool) → ((a && l) && ((b && k) && false)) ≡ ((a && (b && c)) && (l && (k && false)))
    none true true true true true = refl
    none true true true true false = refl
    none true true true false true = refl
    none true true true false false = refl
    none true true false true true = refl
    none true true false true false = refl
    none true true false false true = refl
    none true true false false false = refl
    none true false true true true = refl
    none true false true true false = refl
    none true false true false true = refl
    none true false true false false = refl
    none true false false true true = refl
    none true false false true false = refl
    none true false false false true = refl
    none true false false false false = refl
    none false true true true true = refl
    none false true true true false = refl
    none false true true false true = refl
    none false true true false false = refl
    none false true false true true = refl
    none false true false true false = refl
    none false true false false true = refl
    none false true false false false = refl
    none false false true true true = refl
    none false false true true false = refl
    none false false true false true = refl
    none false false true false false = refl
    none false false false true true = refl
    none false false false true false = refl
    none false false false false true = refl
    none false false false false false = refl

module _ (h off : Machine) (look : List Seen) (q : Question) (is : IsLook look q) (geometry : off.geometry ≡ h.geometry) where
  volume_part : (reads : List PageRead) → reads ≡ volume_asked q → (passes : Bool) → volume_may_pass off.geometry off.interrupted (line_fits (volume_asked q)) off.volume (all_lines_read (volume_asked q)) ≡ passes
      → volume_may_show off reads ≡ (list_all (is_reply (4096 * h.geometry.vpages)) (volume_asked q) && passes)
  volume_part reads are passes pass =
      ap (volume_may_show off) are ∙ ap (λ g. list_all (is_reply (4096 * g.vpages)) (volume_asked q) && volume_may_pass off.geometry off.interrupted (line_fits (volume_asked q)) off.volume (all_lines_read (volume_asked q))) geometry
      ∙ ap (λ b. list_all (is_reply (4096 * h.geometry.vpages)) (volume_asked q) && b) pass

  blocks_part : (reads : List BlockRead) → reads ≡ blocks_of q → (passes : Bool) → blocks_may_pass off.interrupted (block_fits (blocks_of q)) off.blocks (all_numbers_read (blocks_of q)) ≡ passes
      → blocks_may_show off reads ≡ (list_all (is_block_reply h.geometry.blocks) (blocks_of q) && passes)
  blocks_part reads are passes pass =
      ap (blocks_may_show off) are ∙ ap (λ g. list_all (is_block_reply g.blocks) (blocks_of q) && blocks_may_pass off.interrupted (block_fits (blocks_of q)) off.blocks (all_numbers_read (blocks_of q))) geometry
      ∙ ap (λ b. list_all (is_block_reply h.geometry.blocks) (blocks_of q) && b) pass

  -- the parts together
  pub shows_parts : (lines units files : Bool) → volume_may_pass off.geometry off.interrupted (line_fits (volume_asked q)) off.volume (all_lines_read (volume_asked q)) ≡ lines
      → blocks_may_pass off.interrupted (block_fits (blocks_of q)) off.blocks (all_numbers_read (blocks_of q)) ≡ units
      → files_may_pass off.mappings off.interrupted (files_asked q) off.files ≡ files
      → may_show look off ≡ (may_be_replies h.geometry q && (lines && (units && files)))
  shows_parts lines units files volume blocks held =
      ap (λ b. b && (blocks_may_show off (block_reads look) && files_may_show off (file_reads look))) (volume_part (volume_reads look) is.volume lines volume)
      ∙ ap (λ b. (list_all (is_reply (4096 * h.geometry.vpages)) (volume_asked q) && lines) && (b && files_may_show off (file_reads look))) (blocks_part (block_reads look) is.blocks units blocks)
      ∙ ap (λ b. (list_all (is_reply (4096 * h.geometry.vpages)) (volume_asked q) && lines) && ((list_all (is_block_reply h.geometry.blocks) (blocks_of q) && units) && b))
      (ap (files_may_show off) is.files ∙ held)
      ∙ parts (list_all (is_reply (4096 * h.geometry.vpages)) (volume_asked q)) lines (list_all (is_block_reply h.geometry.blocks) (blocks_of q)) units
      (list_all may_be_file_reply (files_asked q)) files (λ pass. may_pass_some off.mappings off.interrupted (files_asked q) off.files (held ∙ pass))

module _ (h : Machine) (look : List Seen) (q : Question) (sight : Sight) (is : IsLook look q) (sees : Sees sight h) (whole : IsWhole sight q) where
  -- at rest
  pub shows_now : h.interrupted ≡ None → may_show look h ≡ (may_be_replies h.geometry q && shows q sight)
  shows_now settled =
      shows_parts h h look q is refl (list_all (line_may_fit q) sight.lines.items) (list_all (block_may_fit q) sight.blocks.items) (fit_now (files_asked q) sight.files)
      (ap (λ o. volume_may_pass h.geometry o (line_fits (volume_asked q)) h.volume (all_lines_read (volume_asked q))) settled
      ∙ ap (λ ns. list_all (λ n. line_fits (volume_asked q) n (cell_of h.volume n)) ns) (sym whole.lines)
      ∙ all_same (λ s. s.number) (λ n. line_fits (volume_asked q) n (cell_of h.volume n)) (line_may_fit q) sight.lines.items (lines_now q h.volume sight.lines.items sees.lines))
      (ap (λ o. blocks_may_pass o (block_fits (blocks_of q)) h.blocks (all_numbers_read (blocks_of q))) settled
      ∙ ap (λ ns. list_all (λ n. block_fits (blocks_of q) n (nth h.blocks n)) ns) (sym whole.blocks)
      ∙ all_same (λ s. s.number) (λ n. block_fits (blocks_of q) n (nth h.blocks n)) (block_may_fit q) sight.blocks.items (blocks_now q h.blocks sight.blocks.items sees.blocks))
      (ap (λ o. files_may_pass h.mappings o (files_asked q) h.files) settled
      ∙ now_same (files_asked q) sight.files.numbers sight.files.files h.files sees.files.files whole.files)

  -- and inside a command
  pub shows_within : (action : Action) → refusal h action ≡ None → IsComplete h → HaveLine h.volume sight.lines.items → AreThere h.blocks sight.blocks.items
      → may_show look (while_interrupted h action) ≡ (may_be_replies h.geometry q && shows_inside h.geometry action q sight)
  shows_within action allowed complete within among =
      shows_parts h (while_interrupted h action) look q is refl _ _ _
      (ap (λ ns. volume_may_pass h.geometry (Some action) (line_fits (volume_asked q)) h.volume ns) (sym whole.lines)
      ∙ volume_inside h q sight.lines.items sees.lines complete.lines within action allowed)
      (ap (λ ns. blocks_may_pass (Some action) (block_fits (blocks_of q)) h.blocks ns) (sym whole.blocks)
      ∙ blocks_inside h q sight.blocks.items sees.blocks complete.eight among action allowed)
      (sym (command_inside (files_asked q) sight.files h action sees.files complete whole.files allowed))
