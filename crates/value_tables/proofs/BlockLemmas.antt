-- What is listed of a block is what a look of it alone may show.
use Rattle.std.proofs.Common.{◌≡◌, ℕ, ◌+◌, ◌-◌, ◌*◌, ◌%◌, ◌<◌, ◌==◌, ◌&&◌, ◌||◌, nat_lt, not, Bool, true, false, cond, Option, Some, None, List, [], ◌∷◌, length, get_or, refl, sym, ap, ◌∙◌, arith}
use Rattle.std.specs.Prelude.{slice_index}
use Rattle.std.specs.List.{list_all, list_any, range_with_len}
use Rattle.std.specs.Str.{bytes_eq}
use Rattle.std.proofs.lemmas.Bool.{eq-eqb, eqb-true, le-leb, le-ltb, lt-ltb}
use Rattle.std.proofs.lemmas.Bool.Decides.{Decides-eqb, same_from_decides}
use Rattle.std.proofs.lemmas.Grind.{same_number_lists}
use Rattle.std.proofs.lemmas.Slice.Eq.{bytes_eq-Decides}
use Rattle.word_tables.specs.declared.geometry.Geometry.{Geometry}
use Rattle.nvm_model.specs.Blocks.{first_there, nth}
use Rattle.nvm_model.specs.Numbered.{is_among}
use Rattle.nvm_model.specs.Page.{Page}
use Rattle.nvm_model.specs.Storage.{Block}
use Rattle.block_sights.specs.Sights.{Sight, sight}
use Rattle.block_sights.specs.Sights.Sight.{Whole, Scar, BadLine}
use Rattle.block_sights.proofs.SeenLemmas.{seen_size}
use Rattle.reply_text.specs.declared.reply.Why.TheVariants.{Range}
use Rattle.script_text.specs.Action.{Action}
use Rattle.cut_places.specs.MachineModel.Commands.{meaning}
use Rattle.cut_places.specs.MachineModel.Machine.{Machine}
use Rattle.cut_places.specs.MachineModel.Meaning.{BlocksLeft, VolumeLeft, most_refusal}
use Rattle.cut_places.specs.MachineModel.Meaning.BlocksLeft.{Same, Either, Mixed}
use Rattle.cut_places.specs.MachineModel.Meaning.VolumeLeft.{Kept, PartStored, PartSynced, AllOrNone, PageByPage}
use Rattle.cut_places.specs.Outcomes.Blocks.{BlockRead, BlockReply, all_numbers_read, block_fits, is_block_reply, is_block_reply_by, is_read_of_blocks}
use Rattle.cut_places.specs.Outcomes.Left.{blocks_may_pass, volume_may_pass, volume_passes}
use Rattle.cut_places.specs.Outcomes.Pages.{line_fits}
use Rattle.cut_places.specs.Outcomes.Seen.{files_may_show, may_show}
use Rattle.cut_places.specs.AskedReads.Fitting.{sight_allows, sight_fits}
use Rattle.cut_places.proofs.MayShowLemmas.{files_show_none}
use Rattle.cut_places.proofs.SightsSeen.PassLemmas.{EachUnit}
use Rattle.value_tables.specs.Left.{block_left, blocks_left, of_blocks}
use Rattle.value_tables.specs.Listed.{IsSized, block_read, lists_sight, reply_of}
use Rattle.value_tables.specs.Values.{block_values}
use Rattle.cut_places.specs.SightsSeen.BlockTelling.{same_sight}
use Rattle.value_tables.proofs.LeftLemmas.{block_passes}
use Rattle.value_tables.proofs.OnceLemmas.{any_of, any_sight}
use Rattle.value_tables.proofs.RangeLemmas.{range_all, range_each}

abbrev pub read_of : ℕ → BlockReply → List BlockRead
read_of b reply = record { first = b; count = 1; reply = reply } ∷ []

among : (b : ℕ) → is_among b 1 b ≡ true
among b = ap (λ t. t && nat_lt b (b + 1)) (le-leb b b (omega arith)) ∙ lt-ltb b (b + 1) (omega arith)

module _ (b : ℕ) (bytes block : List ℕ) (size : length bytes ≡ 512) (sized : length block ≡ 512) where
  abbrev has_at : ℕ → Bool
  has_at i = slice_index bytes (i - 512 * b) == slice_index block (i % 512)

  byte_is : (k : ℕ) → k < 512 → has_at (512 * b + k) ≡ (get_or bytes k 0 == get_or block k 0)
  byte_is k lt =
      let place : 512 * b + k - 512 * b ≡ k = omega arith in
      let byte : (512 * b + k) % 512 ≡ k = omega (arith, lt) in
      ap (λ i. slice_index bytes i == slice_index block ((512 * b + k) % 512)) place ∙ ap (λ i. get_or bytes k 0 == get_or block i 0) byte

  all_bytes : list_all has_at (range_with_len (512 * b) 512) ≡ bytes_eq bytes block
  all_bytes = same_from_decides {P = bytes ≡ block} (list_all has_at (range_with_len (512 * b) 512)) (bytes_eq bytes block) (
    λ all. same_number_lists bytes block (size ∙ sym sized) (λ k lt. same_at all k (bounded k lt)),
    λ same. range_all has_at (512 * b) 512 (λ k lt. byte_is k lt ∙ eq-eqb (get_or bytes k 0) (get_or block k 0) (ap (λ l. get_or l k 0) same)),
  )
      (bytes_eq-Decides bytes block)
    where
      bounded : (k : ℕ) → k < length bytes → k < 512
      bounded k lt = omega (arith, lt, size)

      same_at : list_all has_at (range_with_len (512 * b) 512) ≡ true → (k : ℕ) → k < 512 → get_or bytes k 0 ≡ get_or block k 0
      same_at all k lt = eqb-true (get_or bytes k 0) (get_or block k 0) (sym (byte_is k lt) ∙ range_each has_at (512 * b) 512 all (512 * b + k) (omega arith) (omega (arith, lt)))

turned : (j k : ℕ) → (k == j) ≡ (j == k)
turned j k = same_from_decides {P = k ≡ j} (k == j) (j == k) (Decides-eqb k j) (λ is. sym (eqb-true j k is), λ is. eq-eqb j k (sym is))

at_named : (below equal : Bool) (one other : Bool) → below ≡ false → equal ≡ true → cond below one (not equal || other) ≡ other
at_named true equal one other is same = cc is
at_named false true one other is same = refl
at_named false false one other is same = cc same

named_here : (b : ℕ) (one other : Bool) → cond (nat_lt b b) one (not (b == b) || other) ≡ other
named_here b one other = at_named (nat_lt b b) (b == b) one other (le-ltb b b (omega arith)) (eq-eqb b b refl)

allows_same : (b : ℕ) (value seen : Sight) → IsSized value → IsSized seen → sight_allows b seen b (reply_of b value) ≡ same_sight value seen
allows_same b (Whole bytes) (Whole block) size sized = all_bytes b bytes block size sized
allows_same b (Whole bytes) Scar size sized = refl
allows_same b (Whole bytes) (BadLine line) size sized = refl
allows_same b Scar (Whole block) size sized = named_here b true false
allows_same b Scar Scar size sized = named_here b false true
allows_same b Scar (BadLine line) size sized = named_here b false false
allows_same b (BadLine line) (Whole block) size sized = named_here b true false
allows_same b (BadLine line) Scar size sized = named_here b false false
allows_same b (BadLine line) (BadLine other) size sized = named_here b false (other == line) ∙ turned line other

fits_same : (b : ℕ) (value seen : Sight) → IsSized value → IsSized seen → sight_fits (read_of b (reply_of b value)) b seen ≡ same_sight value seen
fits_same b value seen size sized =
    ap (λ t. (not t || sight_allows b seen b (reply_of b value)) && true) (among b) ∙ and_all (sight_allows b seen b (reply_of b value)) ∙ allows_same b value seen size sized
  where
    and_all : (t : Bool) → (t && true) ≡ t
    and_all true = refl
    and_all false = refl

sized_of : (block : Block) (seen : Sight) → sight block ≡ seen → IsSized seen
sized_of block (Whole bytes) is = seen_size block bytes is
sized_of block Scar is = tt
sized_of block (BadLine line) is = tt

both_sized : (left : BlocksLeft) (old new : Sight) → IsSized old → IsSized new → EachUnit IsSized (of_blocks left old new)
both_sized Same old new has had = (has, tt)
both_sized Either old new has had = (has, (had, tt))
both_sized Mixed old new has had = (has, (had, tt))

all_sized : (o : Option Action) (blocks : List Block) (b : ℕ) → EachUnit IsSized (blocks_left o blocks b)
all_sized None blocks b = (sized_of (nth blocks b) (sight (nth blocks b)) refl, tt)
all_sized (Some action) blocks b =
    both_sized (meaning action).blocks_left (sight (nth blocks b)) (sight (nth ((meaning action).blocks blocks) b)) (sized_of (nth blocks b) (sight (nth blocks b)) refl)
    (sized_of (nth ((meaning action).blocks blocks) b) (sight (nth ((meaning action).blocks blocks) b)) refl)

-- nothing is asked of lines
nothing_left : (left : VolumeLeft) (old to : List Page) → volume_passes left (line_fits []) old to [] ≡ true
nothing_left Kept old to = refl
nothing_left (PartStored offset bytes) old to = refl
nothing_left (PartSynced offset len) old to = refl
nothing_left AllOrNone old to = refl
nothing_left PageByPage old to = refl

pub no_line : (geo : Geometry) (o : Option Action) (pages : List Page) → volume_may_pass geo o (line_fits []) pages [] ≡ true
no_line geo None pages = refl
no_line geo (Some action) pages = nothing_left ((meaning action).volume_left geo) pages ((meaning action).volume geo pages)

of_parts : (a b c d : Bool) → a ≡ true → b ≡ true → d ≡ true → ((true && a) && (((b && true) && c) && d)) ≡ c
of_parts true true true true x y z = refl
of_parts true true false true x y z = refl
of_parts false b c d x y z = cc x
of_parts true false c d x y z = cc y
of_parts true true true false x y z = cc z
of_parts true true false false x y z = cc z

module _ (off : Machine) (b : ℕ) (within : b < off.geometry.blocks) where
  allowed : most_refusal 128 off.geometry.blocks b 1 ≡ None
  allowed = ap (λ t. first_there (cond t (Some Range) None) None) (le-ltb off.geometry.blocks (b + 1) (omega (arith, within)))

  given : (value : Sight) → IsSized value → is_read_of_blocks b 1 (reply_of b value) ≡ true
  given (Whole bytes) size = eq-eqb (length bytes) 512 size
  given Scar size = among b
  given (BadLine line) size = among b

  one_block : (value : Sight) → all_numbers_read (read_of b (reply_of b value)) ≡ b ∷ []
  one_block (Whole bytes) = refl
  one_block Scar = refl
  one_block (BadLine line) = refl

  pub blocks_listed : (value : Sight) → IsSized value → lists_sight value (block_values (block_left off b)) ≡ may_show (block_read b (reply_of b value)) off
  blocks_listed value size =
      any_sight (same_sight value) (block_left off b)
      ∙ sym (any_of IsSized (sight_fits (read_of b (reply_of b value)) b) (same_sight value) (block_left off b) (all_sized off.interrupted off.blocks b) (λ seen sized. fits_same b value seen size sized))
      ∙ sym shown
    where
      shown : may_show (block_read b (reply_of b value)) off ≡ list_any (sight_fits (read_of b (reply_of b value)) b) (block_left off b)
      shown =
          of_parts (volume_may_pass off.geometry off.interrupted (line_fits []) off.volume []) (is_block_reply off.geometry.blocks (record { first = b; count = 1; reply = reply_of b value }))
          (blocks_may_pass off.interrupted (block_fits (read_of b (reply_of b value))) off.blocks (all_numbers_read (read_of b (reply_of b value)))) (files_may_show off [])
          (no_line off.geometry off.interrupted off.volume) (ap (λ o. is_block_reply_by o b 1 (reply_of b value)) allowed ∙ given value size)
          (files_show_none off.mappings off.interrupted off.files)
          ∙ ap (blocks_may_pass off.interrupted (block_fits (read_of b (reply_of b value))) off.blocks) (one_block value)
          ∙ block_passes (read_of b (reply_of b value)) b off.blocks off.interrupted
