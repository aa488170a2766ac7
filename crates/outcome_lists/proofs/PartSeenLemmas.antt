-- The first line or block that is looked at for one part is its own.
use Rattle.std.proofs.Common.{◌≡◌, ◌+◌, ◌-◌, ◌*◌, ◌/◌, ◌≤◌, ℕ, zero, suc, true, Option, Some, None, Bor, List, [], ◌∷◌, refl, sym, ap, subst, ◌∙◌, append-nil, arith}
use Rattle.std.specs.Option.{option_copied}
use Rattle.std.specs.Prelude.{slice_get}
use Rattle.std.specs.List.{list_all, range_with_len}
use Rattle.std.proofs.lemmas.Bool.{and_parts}
use Rattle.word_tables.specs.declared.geometry.Geometry.{Geometry}
use Rattle.block_sights.specs.Sights.{Sight as BlockSight}
use Rattle.nvm_model.specs.Cell.{Cell}
use Rattle.explorer.specs.MachineModel.Machine.{Machine}
use Rattle.explorer.proofs.MachineModel.RefusalLemmas.{read_within}
use Rattle.explorer.specs.AskedReads.declared.read.Read.TheVariants.{Volume, Blocks, File}
use Rattle.explorer.specs.CutPlaces.declared.sight.Sight.{Sight}
use Rattle.explorer.specs.CutPlaces.Following.{Follows}
use Rattle.explorer.specs.CutPlaces.SeesFiles.{is_held}
use Rattle.explorer.specs.SightsSeen.declared.block_seen.BlockSeen.{BlockSeen}
use Rattle.explorer.specs.SightsSeen.declared.line_seen.LineSeen.{LineSeen}
use Rattle.explorer.specs.SightsSeen.Units.{AreBlocks, AreLines, block_numbers, line_numbers}
use Rattle.explorer.specs.ValueTables.Left.{file_side, files_left}
use Rattle.explorer.specs.ValueTables.Looking.{IsOf}
use Rattle.explorer.specs.ValueTables.Rows.{read_refusal}
use Rattle.explorer.specs.ValueTables.Sides.{side_at}
use Rattle.explorer.proofs.ValueTables.FileSideLemmas.{files_rest}
use Rattle.outcome_lists.proofs.SightLemmas.{blocks_of_part, file_lines_of_part, lines_of_part}

-- numbers that begin with one
range_first : (a n : ℕ) → 1 ≤ n → (others : List ℕ) × (range_with_len a n ≡ a ∷ others)
range_first a zero some = absurd (omega (arith, some))
range_first a (suc n) some = (range_with_len (a + 1) n, refl)

spanned : (start len unit : ℕ) → 1 ≤ len → unit ≡ 64 → 1 ≤ (start + len - 1) / 64 + 1 - start / 64
spanned start len unit some is = omega (arith, some)

-- the first line is that of the word, and the first block the part's
module _ (now : Sight) (geo : Geometry) where
  pub numbers_of_word : (start len : ℕ) → read_refusal geo (Volume start len) ≡ None → IsOf now geo (Volume start len ∷ [])
      → (others : List ℕ) × (line_numbers now.lines.items ≡ start / 64 ∷ others)
  numbers_of_word start len taken of =
      let some = (read_within 65536 (4096 * geo.vpages) start len taken).0 in
      let lines = range_first (start / 64) ((start + len - 1) / 64 + 1 - start / 64) (spanned start len 64 some refl) in
      (lines.0, of.lines ∙ lines_of_part geo (Volume start len) taken ∙ lines.1)

  pub numbers_of_block : (first count : ℕ) → read_refusal geo (Blocks first count) ≡ None → IsOf now geo (Blocks first count ∷ [])
      → (others : List ℕ) × (block_numbers now.blocks.items ≡ first ∷ others)
  numbers_of_block first count taken of =
      let some = (read_within 128 geo.blocks first count taken).0 in
      let blocks = range_first first count some in
      (blocks.0, of.blocks ∙ blocks_of_part geo (Blocks first count) taken ∙ blocks.1)

  pub held_of_word : (name : List ℕ) (start len : ℕ) → read_refusal geo (File name start len) ≡ None → IsOf now geo (File name start len ∷ [])
      → is_held now.files.numbers (start / 8 / 8) ≡ true
  held_of_word name start len taken of =
      let some = (read_within 65536 (start + len) start len taken).0 in
      let lines = range_first (start / 64) ((start + len - 1) / 64 + 1 - start / 64) (spanned start len 64 some refl) in
      let all : list_all (is_held now.files.numbers) (start / 64 ∷ lines.0) ≡ true =
      ap (list_all (is_held now.files.numbers)) (sym (file_lines_of_part geo (File name start len) taken ∙ lines.1)) ∙ of.files in
      let same : start / 8 / 8 ≡ start / 64 = omega arith in
      ap (is_held now.files.numbers) same ∙ (and_parts (is_held now.files.numbers (start / 64)) (list_all (is_held now.files.numbers) lines.0) all).0

pub first_line : (f : ℕ → Cell) (lines : List LineSeen) (s : LineSeen) (n : ℕ) (rest : List LineSeen) (others : List ℕ) → lines ≡ s ∷ rest → line_numbers lines ≡ n ∷ others
    → AreLines f lines → s.line ≡ f n
first_line f lines s n rest others is numbers are =
    let parts : AreLines f (s ∷ rest) = subst (AreLines f) is are in
    let same : s.number ≡ n = cc (ap line_numbers (sym is) ∙ numbers) in
    parts.0 ∙ ap f same

pub no_line : (lines : List LineSeen) (n : ℕ) (others : List ℕ) → lines ≡ [] → line_numbers lines ≡ n ∷ others → ⊥
no_line lines n others none numbers = cc (ap line_numbers (sym none) ∙ numbers)

pub first_block : (f : ℕ → BlockSight) (blocks : List BlockSeen) (s : BlockSeen) (n : ℕ) (rest : List BlockSeen) (others : List ℕ) → blocks ≡ s ∷ rest
    → block_numbers blocks ≡ n ∷ others → AreBlocks f blocks → s.block ≡ f n
first_block f blocks s n rest others is numbers are =
    let parts : AreBlocks f (s ∷ rest) = subst (AreBlocks f) is are in
    let same : s.number ≡ n = cc (ap block_numbers (sym is) ∙ numbers) in
    parts.0 ∙ ap f same

pub no_block : (blocks : List BlockSeen) (n : ℕ) (others : List ℕ) → blocks ≡ [] → block_numbers blocks ≡ n ∷ others → ⊥
no_block blocks n others none numbers = cc (ap block_numbers (sym none) ∙ numbers)

-- where a word of a file is sought
pub side_is : (now : Sight) (geo : Geometry) (h : Machine) (name : List ℕ) (p : ℕ) → Follows now geo h → is_held now.files.numbers (p / 8) ≡ true
    → side_at now.files name p ≡ file_side name p h.files ∷ []
side_is now geo h name p follows held =
    sym (append-nil (side_at now.files name p))
    ∙ sym (files_rest h now.files follows.sees.files follows.ready.settled name p held)
    ∙ ap (λ o. files_left h.mappings o h.files name p) follows.ready.settled

-- a list has a first item, or none
pub there : {A : Type 0} (xs ys : List A) (found : Option (Bor A)) (x : Bor A) → ys ≡ xs → option_copied found ≡ slice_get ys 0 → found ≡ Some x
    → (rest : List A) × (xs ≡ x.now ∷ rest)
there [] ys found x same first is = cc (same, first, is)
there (y ∷ rest) ys found x same first is = (rest, cc (same, first, is))

pub gone : {A : Type 0} (xs ys : List A) (found : Option (Bor A)) → ys ≡ xs → option_copied found ≡ slice_get ys 0 → found ≡ None → xs ≡ []
gone [] ys found same first is = refl
gone (y ∷ rest) ys found same first is = cc (same, first, is)
