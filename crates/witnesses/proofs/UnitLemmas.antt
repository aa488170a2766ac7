-- Lines and blocks that are looked at: what a cut there may leave of them, and those that are of a state.
use Rattle.std.proofs.Common.{◌≡◌, ℕ, ◌*◌, ◌/◌, ◌<◌, Bool, true, false, cond, ◌&&◌, option_map, Option, Some, None, inl, inr, List, [], ◌∷◌, map, length, refl, sym, ap, subst, ◌∙◌}
use Rattle.std.specs.Option.{option_and_then}
use Rattle.std.proofs.lemmas.Bool.{and_from, and_parts}
use Rattle.word_tables.specs.declared.geometry.Geometry.{Geometry}
use Rattle.nvm_model.specs.Blocks.{nth}
use Rattle.nvm_model.specs.Cell.{Cell}
use Rattle.nvm_model.specs.Storage.{Block}
use Rattle.block_sights.specs.Sights.{Sight as Look, sight}
use Rattle.block_sights.specs.Sights.Sight.{Whole}
use Rattle.block_sights.proofs.SeenLemmas.{seen_size}
use Rattle.script_text.specs.Action.{Action}
use Rattle.cut_places.specs.MachineModel.Machine.{Machine}
use Rattle.cut_places.specs.MachineModel.Commands.{meaning}
use Rattle.cut_places.specs.Durable.Durable.{HaveEightLines}
use Rattle.cut_places.specs.Outcomes.Seen.{Seen, may_show}
use Rattle.cut_places.specs.Outcomes.Stops.{led_to}
use Rattle.cut_places.specs.AskedReads.declared.question.Question.{Question}
use Rattle.cut_places.specs.AskedReads.Asking.{IsLook, files_asked, may_be_replies}
use Rattle.cut_places.specs.SightsSeen.declared.line_seen.LineSeen.{LineSeen}
use Rattle.cut_places.specs.SightsSeen.declared.block_seen.BlockSeen.{BlockSeen}
use Rattle.cut_places.specs.declared.sight.Sight.{Sight}
use Rattle.cut_places.specs.FileChanges.{FilesChange}
use Rattle.cut_places.specs.FileCommands.{files_change}
use Rattle.cut_places.specs.FileLeaving.{fit_there}
use Rattle.cut_places.specs.SightsSeen.Changing.{line_changed, volume_change}
use Rattle.cut_places.specs.SightsSeen.ChangingBlocks.{block_changed}
use Rattle.cut_places.specs.Following.{Follows, IsWhole, IsWithin}
use Rattle.cut_places.specs.Sights.{shows, shows_inside}
use Rattle.cut_places.specs.SightsSeen.Units.{AreAmong, AreBlocks, AreLines, AreWithin, block_may_fit, line_may_fit}
use Rattle.cut_places.specs.SightsSeen.Ways.{blocks_way, lines_way, passes_inside}
use Rattle.cut_places.proofs.SightsSeen.BlockChangeLemmas.{blocks_changed}
use Rattle.cut_places.proofs.SightsSeen.InsideLemmas.{AreThere}
use Rattle.cut_places.proofs.MayShowLemmas.{shows_now, shows_within}
use Rattle.cut_places.proofs.StepLemmas.{blocks_in, lines_of}
use Rattle.witnesses.specs.Blocks.{block_made}
use Rattle.witnesses.specs.Lines.{line_made}
use Rattle.witnesses.specs.Places.{IsReached, shows_at, state_at}
use Rattle.witnesses.proofs.ListLemmas.{IsAmong}

-- the change of files that a cut falls in, if there is one
abbrev pub change_at : Option Action → Sight → Option FilesChange
change_at inside now = option_map (files_change now.files.mappings.mappings) inside

-- a cut there leaves lines, blocks and files so, and the other way round
module _ (geo : Geometry) (inside : Option Action) (q : Question) (now : Sight) where
  abbrev lines_so : Bool
  lines_so = passes_inside (option_and_then lines_way inside) (line_may_fit q) (λ s. line_may_fit q (line_made geo inside s)) (λ (s : LineSeen). s.number / 64) now.lines.items

  abbrev blocks_so : Bool
  blocks_so = passes_inside (option_and_then blocks_way inside) (block_may_fit q) (λ s. block_may_fit q (block_made geo inside s)) (λ (s : BlockSeen). s.number) now.blocks.items

  abbrev files_so : Bool
  files_so = fit_there (change_at inside now) (files_asked q) now.files

all_so : (geo : Geometry) (inside : Option Action) (q : Question) (now : Sight) → shows_at geo inside q now ≡ (lines_so geo inside q now && (blocks_so geo inside q now && files_so geo inside q now))
all_so geo None q now = refl
all_so geo (Some action) q now = refl

pub all_parts : (geo : Geometry) (inside : Option Action) (q : Question) (now : Sight) → shows_at geo inside q now ≡ true
    → (passes_inside (option_and_then lines_way inside) (line_may_fit q) (λ s. line_may_fit q (line_made geo inside s)) (λ (s : LineSeen). s.number / 64) now.lines.items ≡ true)
    × (passes_inside (option_and_then blocks_way inside) (block_may_fit q) (λ s. block_may_fit q (block_made geo inside s)) (λ (s : BlockSeen). s.number) now.blocks.items ≡ true)
    × (fit_there (change_at inside now) (files_asked q) now.files ≡ true)
all_parts geo inside q now shown =
    let first = and_parts (lines_so geo inside q now) (blocks_so geo inside q now && files_so geo inside q now) (sym (all_so geo inside q now) ∙ shown) in
    let rest = and_parts (blocks_so geo inside q now) (files_so geo inside q now) first.1 in
    (first.0, rest.0, rest.1)

pub from_parts : (geo : Geometry) (inside : Option Action) (q : Question) (now : Sight)
    → passes_inside (option_and_then lines_way inside) (line_may_fit q) (λ s. line_may_fit q (line_made geo inside s)) (λ (s : LineSeen). s.number / 64) now.lines.items ≡ true
    → passes_inside (option_and_then blocks_way inside) (block_may_fit q) (λ s. block_may_fit q (block_made geo inside s)) (λ (s : BlockSeen). s.number) now.blocks.items ≡ true
    → fit_there (change_at inside now) (files_asked q) now.files ≡ true → shows_at geo inside q now ≡ true
from_parts geo inside q now lines blocks files =
    all_so geo inside q now
    ∙ and_from (lines_so geo inside q now) (blocks_so geo inside q now && files_so geo inside q now) lines (and_from (blocks_so geo inside q now) (files_so geo inside q now) blocks files)

-- what is left of a line, or of a block, has its number
pub line_number : (geo : Geometry) (inside : Option Action) (b : Bool) (s : LineSeen) → (cond b s (line_made geo inside s)).number ≡ s.number
line_number geo inside true s = refl
line_number geo None false s = refl
line_number geo (Some action) false s = refl

pub block_number : (geo : Geometry) (inside : Option Action) (b : Bool) (s : BlockSeen) → (cond b s (block_made geo inside s)).number ≡ s.number
block_number geo inside true s = refl
block_number geo None false s = refl
block_number geo (Some action) false s = refl

-- two that look at the same are left alike
pub line_same : (geo : Geometry) (inside : Option Action) (b : Bool) (s t : LineSeen) → s.number ≡ t.number → s.line ≡ t.line → (cond b s (line_made geo inside s)).line ≡ (cond b t (line_made geo inside t)).line
line_same geo inside true s t number line = line
line_same geo None false s t number line = line
line_same geo (Some action) false s t number line = ap (λ n. line_changed (volume_change geo action) n s.line) number ∙ ap (line_changed (volume_change geo action) t.number) line

pub block_same : (geo : Geometry) (inside : Option Action) (b : Bool) (s t : BlockSeen) → s.number ≡ t.number → s.block ≡ t.block → (cond b s (block_made geo inside s)).block ≡ (cond b t (block_made geo inside t)).block
block_same geo inside true s t number block = block
block_same geo None false s t number block = block
block_same geo (Some action) false s t number block = ap (λ n. block_changed action n s.block) number ∙ ap (block_changed action t.number) block

-- a line among those of a state is its line
pub line_of : (f : ℕ → Cell) (lines : List LineSeen) (s : LineSeen) → AreLines f lines → IsAmong s lines → s.line ≡ f s.number
line_of f [] s are is = absurd is
line_of f (x ∷ lines) s are (inl same) = subst (λ (y : LineSeen). y.line ≡ f y.number) (sym same) are.0
line_of f (x ∷ lines) s are (inr later) = line_of f lines s are.1 later

pub block_of : (f : ℕ → Look) (units : List BlockSeen) (s : BlockSeen) → AreBlocks f units → IsAmong s units → s.block ≡ f s.number
block_of f [] s are is = absurd is
block_of f (x ∷ units) s are (inl same) = subst (λ (y : BlockSeen). y.block ≡ f y.number) (sym same) are.0
block_of f (x ∷ units) s are (inr later) = block_of f units s are.1 later

pub line_within : (geo : Geometry) (lines : List LineSeen) (s : LineSeen) → AreWithin geo lines → IsAmong s lines → s.number < 64 * geo.vpages
line_within geo [] s within is = absurd is
line_within geo (x ∷ lines) s within (inl same) = subst (λ (y : LineSeen). y.number < 64 * geo.vpages) (sym same) within.0
line_within geo (x ∷ lines) s within (inr later) = line_within geo lines s within.1 later

pub block_within : (geo : Geometry) (units : List BlockSeen) (s : BlockSeen) → AreAmong geo units → IsAmong s units → s.number < geo.blocks
block_within geo [] s within is = absurd is
block_within geo (x ∷ units) s within (inl same) = subst (λ (y : BlockSeen). y.number < geo.blocks) (sym same) within.0
block_within geo (x ∷ units) s within (inr later) = block_within geo units s within.1 later

pub there : (blocks : List Block) (units : List BlockSeen) (s : BlockSeen) → AreThere blocks units → IsAmong s units → s.number < length blocks
there blocks [] s are is = absurd is
there blocks (x ∷ units) s are (inl same) = subst (λ (y : BlockSeen). y.number < length blocks) (sym same) are.0
there blocks (x ∷ units) s are (inr later) = there blocks units s are.1 later

-- what holds of the number of each unit holds of each number
pub from_numbers : {A : Type 0} (number : A → ℕ) (units : List A) (P : ℕ → Type 0) → ((s : A) → IsAmong s units → P (number s)) → (n : ℕ) → IsAmong n (map number units) → P n
from_numbers number [] P each n is = absurd is
from_numbers number (s ∷ units) P each n (inl same) = subst P (sym same) (each s (inl refl))
from_numbers number (s ∷ units) P each n (inr later) = from_numbers number units P (λ t among. each t (inr among)) n later

-- a block that can be read has 512 bytes
pub sized : (h : Machine) (inside : Option Action) (s : BlockSeen) → s.block ≡ sight (nth h.blocks s.number) → IsReached h inside → HaveEightLines h.blocks → s.number < length h.blocks
    → (b : Bool) (bytes : List ℕ) → (cond b s (block_made h.geometry inside s)).block ≡ Whole bytes → length bytes ≡ 512
sized h inside s is reached eight within true bytes whole = seen_size (nth h.blocks s.number) bytes (sym is ∙ whole)
sized h None s is reached eight within false bytes whole = seen_size (nth h.blocks s.number) bytes (sym is ∙ whole)
sized h (Some action) s is reached eight within false bytes whole =
    seen_size (nth (led_to h ((meaning action).comes h)).blocks s.number) bytes
    (blocks_changed h action s.number reached eight within ∙ ap (block_changed action s.number) (sym is) ∙ whole)

-- what a state shows there
pub geometry_at : (h : Machine) (inside : Option Action) → (state_at h inside).geometry ≡ h.geometry
geometry_at h None = refl
geometry_at h (Some action) = refl

pub shown_at : (h : Machine) (look : List Seen) (q : Question) (inside : Option Action) (now : Sight) → Follows now h.geometry h → IsLook look q → IsWhole now q → IsWithin now h.geometry
    → may_be_replies h.geometry q ≡ true → shows_at h.geometry inside q now ≡ true → IsReached h inside → may_show look (state_at h inside) ≡ true
shown_at h look q None now follows is whole within replies shown reached =
    shows_now h look q now is follows.sees whole follows.ready.settled ∙ and_from (may_be_replies h.geometry q) (shows q now) replies shown
shown_at h look q (Some action) now follows is whole within replies shown reached =
    shows_within h look q now is follows.sees whole action reached follows.ready.whole (lines_of h now follows.ready within) (blocks_in h now follows.ready within)
    ∙ and_from (may_be_replies h.geometry q) (shows_inside h.geometry action q now) replies shown
