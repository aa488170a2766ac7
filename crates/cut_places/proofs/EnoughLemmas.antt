-- Whether a state, or one that a command was cut in, may show what is asked, where more is looked at than the question asks about.
use Rattle.std.proofs.Common.{◌≡◌, ℕ, ◌*◌, ◌/◌, ◌<◌, ◌&&◌, ◌==◌, not, true, Option, None, Some, List, [], ◌∷◌, length, inl, inr, refl, sym, ap, subst, ◌∙◌}
use Rattle.std.specs.List.{list_all}
use Rattle.std.proofs.lemmas.Bool.{and_parts}
use Rattle.nvm_model.specs.Blocks.{nth}
use Rattle.nvm_model.specs.Cell.{Cell}
use Rattle.nvm_model.specs.Page.{cell_of}
use Rattle.block_sights.specs.Sights.{Sight as Look, sight}
use Rattle.script_text.specs.Action.{Action}
use Rattle.sights.specs.MachineModel.Machine.{Machine}
use Rattle.sights.specs.MachineModel.Commands.{refusal, while_interrupted}
use Rattle.sights.specs.Durable.Durable.{IsComplete}
use Rattle.sights.specs.Outcomes.Blocks.{all_numbers_read, block_fits}
use Rattle.sights.specs.Outcomes.Left.{blocks_may_pass, files_may_pass, volume_may_pass}
use Rattle.sights.specs.Outcomes.Pages.{all_lines_read, is_reply, line_fits}
use Rattle.sights.specs.Outcomes.Seen.{Seen, may_show}
use Rattle.sights.specs.AskedReads.declared.question.Question.{Question}
use Rattle.sights.specs.AskedReads.Asking.{IsLook, blocks_of, files_asked, may_be_replies, volume_asked}
use Rattle.sights.specs.AskedReads.Fitting.{cell_fits, sight_fits}
use Rattle.sights.specs.declared.line_seen.LineSeen.{LineSeen}
use Rattle.sights.specs.declared.block_seen.BlockSeen.{BlockSeen}
use Rattle.sights.specs.declared.way.Way.{Way}
use Rattle.sights.specs.Changing.{line_changed, volume_change}
use Rattle.sights.specs.ChangingBlocks.{block_changed}
use Rattle.sights.specs.Seeing.{seen}
use Rattle.sights.specs.Units.{AreBlocks, AreLines, block_may_fit, block_numbers, line_may_fit, line_numbers}
use Rattle.sights.specs.Ways.{blocks_way, lines_way, passes_inside}
use Rattle.sights.proofs.InsideLemmas.{AreThere, HaveLine, blocks_inside, volume_inside}
use Rattle.sights.proofs.PassLemmas.{EachUnit, all_same}
use Rattle.sights.proofs.ShowLemmas.{blocks_now, lines_now}
use Rattle.cut_places.specs.declared.sight.Sight.{Sight}
use Rattle.cut_places.specs.Enough.{HasWords, IsAmong, IsEnough}
use Rattle.cut_places.specs.FileFitting.{fit_now}
use Rattle.cut_places.specs.Following.{Sees}
use Rattle.cut_places.specs.Sights.{shows, shows_inside}
use Rattle.cut_places.proofs.AmongLemmas.{some_of}
use Rattle.cut_places.proofs.AsideLemmas.{block_aside, line_aside}
use Rattle.cut_places.proofs.CoverLemmas.{same_all}
use Rattle.cut_places.proofs.InsideLemmas.{command_inside, now_same}
use Rattle.cut_places.proofs.MayShowLemmas.{shows_parts}
use Rattle.cut_places.proofs.ValueLemmas.{changed_has, each_of}

-- what holds of each of some units
each_unit : {A : Type 0} (P : A → Type 0) (units : List A) → ((u : A) → IsAmong u units → P u) → EachUnit P units
each_unit P [] each = tt
each_unit P (u ∷ units) each = (each u (inl refl), each_unit P units (λ v is. each v (inr is)))

unit_of : {A : Type 0} (P : A → Type 0) (units : List A) (u : A) → EachUnit P units → IsAmong u units → P u
unit_of P [] u each is = absurd is
unit_of P (v ∷ units) u each (inl same) = subst P (sym same) each.0
unit_of P (v ∷ units) u each (inr later) = unit_of P units u each.1 later

lines_from : (f : ℕ → Cell) (lines : List LineSeen) → ((s : LineSeen) → IsAmong s lines → s.line ≡ f s.number) → AreLines f lines
lines_from f [] each = tt
lines_from f (s ∷ lines) each = (each s (inl refl), lines_from f lines (λ t is. each t (inr is)))

blocks_from : (f : ℕ → Look) (units : List BlockSeen) → ((s : BlockSeen) → IsAmong s units → s.block ≡ f s.number) → AreBlocks f units
blocks_from f [] each = tt
blocks_from f (s ∷ units) each = (each s (inl refl), blocks_from f units (λ t is. each t (inr is)))

line_of : (f : ℕ → Cell) (lines : List LineSeen) (s : LineSeen) → AreLines f lines → IsAmong s lines → s.line ≡ f s.number
line_of f [] s are is = absurd is
line_of f (x ∷ lines) s are (inl same) = subst (λ (y : LineSeen). y.line ≡ f y.number) (sym same) are.0
line_of f (x ∷ lines) s are (inr later) = line_of f lines s are.1 later

block_of : (f : ℕ → Look) (units : List BlockSeen) (s : BlockSeen) → AreBlocks f units → IsAmong s units → s.block ≡ f s.number
block_of f [] s are is = absurd is
block_of f (x ∷ units) s are (inl same) = subst (λ (y : BlockSeen). y.block ≡ f y.number) (sym same) are.0
block_of f (x ∷ units) s are (inr later) = block_of f units s are.1 later

module _ (h : Machine) (look : List Seen) (q : Question) (now : Sight) (is : IsLook look q) (sees : Sees now h) (enough : IsEnough now q) (replies : may_be_replies h.geometry q ≡ true) where
  abbrev lines : List LineSeen
  lines = now.lines.items

  abbrev units : List BlockSeen
  units = now.blocks.items

  -- those of which the question asks
  asked_lines : (some : List LineSeen) × (line_numbers some ≡ all_lines_read (volume_asked q)) × ((s : LineSeen) → IsAmong s some → IsAmong s lines)
  asked_lines = some_of (λ (s : LineSeen). s.number) lines (all_lines_read (volume_asked q)) enough.lines

  asked_units : (some : List BlockSeen) × (block_numbers some ≡ all_numbers_read (blocks_of q)) × ((s : BlockSeen) → IsAmong s some → IsAmong s units)
  asked_units = some_of (λ (s : BlockSeen). s.number) units (all_numbers_read (blocks_of q)) enough.blocks

  abbrev some_lines : List LineSeen
  some_lines = asked_lines.0

  abbrev some_units : List BlockSeen
  some_units = asked_units.0

  line_is : (s : LineSeen) → IsAmong s lines → s.line ≡ seen h.volume s.number
  line_is s among = line_of (seen h.volume) lines s sees.lines among

  block_is : (s : BlockSeen) → IsAmong s units → s.block ≡ sight (nth h.blocks s.number)
  block_is s among = block_of (λ b. sight (nth h.blocks b)) units s sees.blocks among

  lines_are : AreLines (seen h.volume) some_lines
  lines_are = lines_from (seen h.volume) some_lines (λ s among. line_is s (asked_lines.2 s among))

  units_are : AreBlocks (λ b. sight (nth h.blocks b)) some_units
  units_are = blocks_from (λ b. sight (nth h.blocks b)) some_units (λ s among. block_is s (asked_units.2 s among))

  may_be : list_all (is_reply (4096 * h.geometry.vpages)) (volume_asked q) ≡ true
  may_be = (and_parts _ _ replies).0

  -- they pass as all do
  lines_same : (made : ℕ → Cell → Cell) → ((n : ℕ) (line : Cell) → HasWords line → HasWords (made n line)) → (way : Option Way)
      → passes_inside way (λ (s : LineSeen). cell_fits (volume_asked q) s.number s.line) (λ (s : LineSeen). cell_fits (volume_asked q) s.number (made s.number s.line)) (λ (s : LineSeen). s.number / 64) some_lines
      ≡ passes_inside way (λ (s : LineSeen). cell_fits (volume_asked q) s.number s.line) (λ (s : LineSeen). cell_fits (volume_asked q) s.number (made s.number s.line)) (λ (s : LineSeen). s.number / 64) lines
  lines_same made has way =
      same_all (λ (s : LineSeen). s.number) (λ (s : LineSeen). s.line) (cell_fits (volume_asked q)) made (λ n. n / 64) (seen h.volume) some_lines lines (all_lines_read (volume_asked q)) asked_lines.1 asked_lines.2 line_is
      (λ s among out. (fits s.number s.line (enough.words s among) out, fits s.number (made s.number s.line) (has s.number s.line (enough.words s among)) out)) way
    where
      fits : (n : ℕ) (line : Cell) → HasWords line → list_all (λ m. not (m == n)) (all_lines_read (volume_asked q)) ≡ true → cell_fits (volume_asked q) n line ≡ true
      fits n line words out = line_aside n (4096 * h.geometry.vpages) (volume_asked q) may_be out line (each_of line words)

  units_same : (made : ℕ → Look → Look) (way : Option Way)
      → passes_inside way (λ (s : BlockSeen). sight_fits (blocks_of q) s.number s.block) (λ (s : BlockSeen). sight_fits (blocks_of q) s.number (made s.number s.block)) (λ (s : BlockSeen). s.number) some_units
      ≡ passes_inside way (λ (s : BlockSeen). sight_fits (blocks_of q) s.number s.block) (λ (s : BlockSeen). sight_fits (blocks_of q) s.number (made s.number s.block)) (λ (s : BlockSeen). s.number) units
  units_same made way =
      same_all (λ (s : BlockSeen). s.number) (λ (s : BlockSeen). s.block) (sight_fits (blocks_of q)) made (λ n. n) (λ b. sight (nth h.blocks b)) some_units units (all_numbers_read (blocks_of q)) asked_units.1 asked_units.2 block_is
      (λ s among out. (block_aside s.number (blocks_of q) out s.block, block_aside s.number (blocks_of q) out (made s.number s.block))) way

  -- at rest
  pub enough_now : h.interrupted ≡ None → may_show look h ≡ shows q now
  enough_now settled =
      shows_parts h h look q is refl (list_all (line_may_fit q) lines) (list_all (block_may_fit q) units) (fit_now (files_asked q) now.files)
      (ap (λ o. volume_may_pass h.geometry o (line_fits (volume_asked q)) h.volume (all_lines_read (volume_asked q))) settled
      ∙ ap (λ ns. list_all (λ n. line_fits (volume_asked q) n (cell_of h.volume n)) ns) (sym asked_lines.1)
      ∙ all_same (λ (s : LineSeen). s.number) (λ n. line_fits (volume_asked q) n (cell_of h.volume n)) (line_may_fit q) some_lines (lines_now q h.volume some_lines lines_are)
      ∙ lines_same (λ n line. line) (λ n line has. has) None)
      (ap (λ o. blocks_may_pass o (block_fits (blocks_of q)) h.blocks (all_numbers_read (blocks_of q))) settled
      ∙ ap (λ ns. list_all (λ n. block_fits (blocks_of q) n (nth h.blocks n)) ns) (sym asked_units.1)
      ∙ all_same (λ (s : BlockSeen). s.number) (λ n. block_fits (blocks_of q) n (nth h.blocks n)) (block_may_fit q) some_units (blocks_now q h.blocks some_units units_are)
      ∙ units_same (λ n block. block) None)
      (ap (λ o. files_may_pass h.mappings o (files_asked q) h.files) settled
      ∙ now_same (files_asked q) now.files.numbers now.files.files h.files sees.files.files enough.files)
      ∙ ap (λ r. r && shows q now) replies

  -- and inside a command
  pub enough_within : (action : Action) → refusal h action ≡ None → IsComplete h → HaveLine h.volume lines → AreThere h.blocks units
      → may_show look (while_interrupted h action) ≡ shows_inside h.geometry action q now
  enough_within action allowed complete within among =
      shows_parts h (while_interrupted h action) look q is refl _ _ _
      (ap (λ ns. volume_may_pass h.geometry (Some action) (line_fits (volume_asked q)) h.volume ns) (sym asked_lines.1)
      ∙ volume_inside h q some_lines lines_are complete.lines have_line action allowed
      ∙ lines_same (line_changed (volume_change h.geometry action)) (changed_has (volume_change h.geometry action)) (lines_way action))
      (ap (λ ns. blocks_may_pass (Some action) (block_fits (blocks_of q)) h.blocks ns) (sym asked_units.1)
      ∙ blocks_inside h q some_units units_are complete.eight are_there action allowed
      ∙ units_same (block_changed action) (blocks_way action))
      (sym (command_inside (files_asked q) now.files h action sees.files complete enough.files allowed))
      ∙ ap (λ r. r && shows_inside h.geometry action q now) replies
    where
      have_line : HaveLine h.volume some_lines
      have_line =
          each_unit (λ (s : LineSeen). s.number / 64 < length h.volume) some_lines
          (λ s one. unit_of (λ (t : LineSeen). t.number / 64 < length h.volume) lines s within (asked_lines.2 s one))

      are_there : AreThere h.blocks some_units
      are_there =
          each_unit (λ (s : BlockSeen). s.number < length h.blocks) some_units
          (λ s one. unit_of (λ (t : BlockSeen). t.number < length h.blocks) units s among (asked_units.2 s one))
