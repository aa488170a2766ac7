-- What picked choices are: reads of their parts, each with a reply that tells of one word or of one block.
use Rattle.std.proofs.Common.{◌≡◌, ℕ, ◌*◌, ◌/◌, ◌&&◌, List, [], ◌∷◌, ◌++◌, codes, get_or, length, map, refl, sym, ap, ◌∙◌, append-nil, append_assoc}
use Rattle.std.specs.Prelude.{All}
use Rattle.std.specs.Int.{w64, to_le_bytes}
use Rattle.std.specs.List.{AllByRecursion}
use Rattle.std.proofs.lemmas.List.Elements.{All-cons, All-contains, All-map}
use Rattle.word_tables.specs.declared.geometry.Geometry.{Geometry}
use Rattle.block_sights.specs.Sights.{Sight}
use Rattle.block_sights.specs.Sights.Sight.{Whole, Scar, BadLine}
use Rattle.reply_text.specs.declared.reply.Why.{Why}
use Rattle.reply_text.specs.declared.reply.Why.TheVariants.{Missing, Range}
use Rattle.explorer.specs.MachineModel.Machine.{Machine}
use Rattle.explorer.specs.Outcomes.Pages.{PageReply}
use Rattle.explorer.specs.Outcomes.Pages.PageReply.{Poison, Refuses, Shows}
use Rattle.explorer.specs.Outcomes.Seen.{Seen, block_reads, blocks_may_show, file_reads, files_may_show, may_show, volume_may_show, volume_reads}
use Rattle.explorer.specs.Outcomes.Seen.Seen.{of_blocks, of_file, of_volume}
use Rattle.explorer.specs.AskedReads.declared.read.Read.{Read}
use Rattle.explorer.specs.AskedReads.declared.read.Read.TheVariants.{Volume, Blocks, File}
use Rattle.explorer.specs.ValueTables.Listed.{reply_of}
use Rattle.outcome_lists.specs.Apart.{IsWordReply}
use Rattle.outcome_lists.specs.ApartBlocks.{IsSight}
use Rattle.outcome_lists.specs.ApartFiles.{NamesItsLine}
use Rattle.outcome_lists.specs.Choices.{Choice, block_choice, block_choices, choices, file_choices, head, sights_through, value_choice, values_through, word_choices}
use Rattle.outcome_lists.specs.Listing.{Picks, asked_with}
use Rattle.outcome_lists.specs.Outcomes.{Asked, and_seen, look_of, nothing}
use Rattle.outcome_lists.specs.Parts.{AreParts, IsWordOrBlock}
use Rattle.outcome_lists.proofs.LookLemmas.{blocks_back, files_back, volume_back}

-- the part that is read
abbrev pub part_of : Seen → Read
part_of (of_volume r) = Volume r.start r.len
part_of (of_blocks r) = Blocks r.first r.count
part_of (of_file r) = File r.name r.pages.start r.pages.len

-- the reply tells of one word, or of one block
abbrev pub IsTold : Seen → Type 0
IsTold (of_volume r) = IsWordReply r.start r.reply
IsTold (of_blocks r) = IsSight r.reply
IsTold (of_file r) = NamesItsLine r.pages.start r.pages.reply

record IsReadOf (part : Read) (seen : Seen) : Type 0 where
  pub is : part_of seen ≡ part
  pub told : IsTold seen

-- each choice of a part is a read of it
module _ (part : Read) where
  abbrev Fits : Choice → Type 0
  Fits c = IsReadOf part c.seen

  of_word : (before : List ℕ) (read : PageReply → Seen) (start : ℕ) (values : List ℕ) → IsReadOf part (read (Poison (64 * (start / 64))))
      → ((bytes : List ℕ) → length bytes ≡ 8 → IsReadOf part (read (Shows bytes))) → All Fits (word_choices before read start values)
  of_word before read start values poison shows =
      All-cons Fits _ (map (value_choice before read) values) poison
      (All-map Fits (value_choice before read) values (λ k d lt. shows (to_le_bytes w64 (get_or values k d)) refl))

  of_block : (before : List ℕ) (first : ℕ) (sights : List Sight) → ((s : Sight) → IsReadOf part (of_blocks (record { first = first; count = 1; reply = reply_of first s })))
      → All Fits (block_choices before first sights)
  of_block before first sights each = All-map Fits (block_choice before first) sights (λ k d lt. each (get_or sights k d))

  of_file_word : (before : List ℕ) (read : PageReply → Seen) (start : ℕ) (values : List ℕ) → ((why : Why) → IsReadOf part (read (Refuses why)))
      → IsReadOf part (read (Poison (64 * (start / 64)))) → ((bytes : List ℕ) → length bytes ≡ 8 → IsReadOf part (read (Shows bytes)))
      → All Fits (file_choices before read start values)
  of_file_word before read start values refuses poison shows =
      let missing : Choice = record { seen = read (Refuses Missing); text = before ++ codes " missing" } in
      let past : Choice = record { seen = read (Refuses Range); text = before ++ codes " range" } in
      let words : List Choice = word_choices before read start values in
      All-cons Fits missing (past ∷ words) (refuses Missing) (All-cons Fits past words (refuses Range) (of_word before read start values poison shows))

sight_told : (b : ℕ) (s : Sight) → IsSight (reply_of b s)
sight_told b (Whole bytes) = tt
sight_told b Scar = tt
sight_told b (BadLine line) = tt

choices_are : (hs : List Machine) (part : Read) → IsWordOrBlock part → All (λ (c : Choice). IsReadOf part c.seen) (choices hs part)
choices_are hs (Volume start len) one =
    of_word (Volume start len) (head (Volume start len)) (λ reply. of_volume (record { start = start; len = len; reply = reply })) start
    (values_through (Volume start len) [] hs) (record { is = refl; told = refl }) (λ bytes eight. record { is = refl; told = eight })
choices_are hs (Blocks first count) one =
    of_block (Blocks first count) (head (Blocks first count)) first (sights_through (Blocks first count) [] hs)
    (λ s. record { is = ap (λ n. Blocks first n) (sym one); told = sight_told first s })
choices_are hs (File name start len) one =
    of_file_word (File name start len) (head (File name start len)) (λ reply. of_file (record { name = name; pages = record { start = start; len = len; reply = reply } })) start
    (values_through (File name start len) [] hs) (λ why. record { is = refl; told = tt }) (record { is = refl; told = refl }) (λ bytes eight. record { is = refl; told = tt })

-- what is seen by choices
abbrev pub all_seen : List Choice → List Seen
all_seen cs = map (λ (c : Choice). c.seen) cs

-- picked choices are reads of the parts
pub picked : (hs : List Machine) (geo : Geometry) (parts : List Read) (cs : List Choice) → AreParts geo parts → Picks (choices hs) parts cs
    → (map part_of (all_seen cs) ≡ parts) × AllByRecursion IsTold (all_seen cs)
picked hs geo [] [] are picks = (refl, tt)
picked hs geo [] (c ∷ cs) are picks = absurd picks
picked hs geo (p ∷ parts) [] are picks = absurd picks
picked hs geo (p ∷ parts) (c ∷ cs) are picks =
    let one = All-contains (λ (x : Choice). IsReadOf p x.seen) (choices hs p) c (choices_are hs p are.0.one) picks.0 in
    let rest = picked hs geo parts cs are.1 picks.1 in
    (ap (λ q. q ∷ map part_of (all_seen cs)) one.is ∙ ap (λ ps. p ∷ ps) rest.0, (one.told, rest.1))

-- what is asked with choices, kind by kind
volume_with : (a : Asked) (cs : List Choice) → (asked_with a cs).volume ≡ a.volume ++ volume_reads (all_seen cs)
volume_with a [] = sym (append-nil a.volume)
volume_with a (c ∷ cs) = volume_with (and_seen a c.seen) cs ∙ by_kind c.seen
  where
    by_kind : (s : Seen) → (and_seen a s).volume ++ volume_reads (all_seen cs) ≡ a.volume ++ volume_reads (s ∷ all_seen cs)
    by_kind (of_volume r) = append_assoc a.volume (r ∷ []) (volume_reads (all_seen cs))
    by_kind (of_blocks r) = refl
    by_kind (of_file r) = refl

blocks_with : (a : Asked) (cs : List Choice) → (asked_with a cs).blocks ≡ a.blocks ++ block_reads (all_seen cs)
blocks_with a [] = sym (append-nil a.blocks)
blocks_with a (c ∷ cs) = blocks_with (and_seen a c.seen) cs ∙ by_kind c.seen
  where
    by_kind : (s : Seen) → (and_seen a s).blocks ++ block_reads (all_seen cs) ≡ a.blocks ++ block_reads (s ∷ all_seen cs)
    by_kind (of_volume r) = refl
    by_kind (of_blocks r) = append_assoc a.blocks (r ∷ []) (block_reads (all_seen cs))
    by_kind (of_file r) = refl

files_with : (a : Asked) (cs : List Choice) → (asked_with a cs).files ≡ a.files ++ file_reads (all_seen cs)
files_with a [] = sym (append-nil a.files)
files_with a (c ∷ cs) = files_with (and_seen a c.seen) cs ∙ by_kind c.seen
  where
    by_kind : (s : Seen) → (and_seen a s).files ++ file_reads (all_seen cs) ≡ a.files ++ file_reads (s ∷ all_seen cs)
    by_kind (of_volume r) = refl
    by_kind (of_blocks r) = refl
    by_kind (of_file r) = append_assoc a.files (r ∷ []) (file_reads (all_seen cs))

-- choices are shown where what is seen by them is, in whatever order
pub shown_as_seen : (cs : List Choice) (m : Machine) → may_show (look_of (asked_with nothing cs)) m ≡ may_show (all_seen cs) m
shown_as_seen cs m =
    let a = asked_with nothing cs in
    ap (λ rs. volume_may_show m rs && (blocks_may_show m (block_reads (look_of a)) && files_may_show m (file_reads (look_of a)))) (volume_back a ∙ volume_with nothing cs)
    ∙ ap (λ rs. volume_may_show m (volume_reads (all_seen cs)) && (blocks_may_show m rs && files_may_show m (file_reads (look_of a)))) (blocks_back a ∙ blocks_with nothing cs)
    ∙ ap (λ rs. volume_may_show m (volume_reads (all_seen cs)) && (blocks_may_show m (block_reads (all_seen cs)) && files_may_show m rs)) (files_back a ∙ files_with nothing cs)
