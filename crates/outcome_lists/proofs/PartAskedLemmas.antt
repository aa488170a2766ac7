-- What the choices of a part ask of it: of its line, of its block, or of lines of its file.
use Rattle.std.proofs.Common.{◌≡◌, ◌*◌, ◌/◌, ℕ, true, List, [], ◌∷◌, map, refl, sym, ap, ◌∙◌, append-nil}
use Rattle.std.specs.Int.{to_le_bytes, w64}
use Rattle.std.specs.List.{list_all, range_with_len}
use Rattle.std.proofs.lemmas.Bool.{and_from}
use Rattle.word_tables.specs.declared.geometry.Geometry.{Geometry}
use Rattle.reply_text.specs.declared.reply.Why.TheVariants.{Missing, Range}
use Rattle.explorer.specs.Outcomes.Blocks.{all_numbers_read}
use Rattle.explorer.specs.Outcomes.Pages.{PageReply, lines_read}
use Rattle.explorer.specs.Outcomes.Pages.PageReply.{Poison, Refuses, Shows}
use Rattle.explorer.specs.Outcomes.Seen.Seen.{of_blocks, of_file, of_volume}
use Rattle.explorer.specs.AskedReads.declared.read.Read.{Read}
use Rattle.explorer.specs.AskedReads.declared.read.Read.TheVariants.{Volume, Blocks, File}
use Rattle.block_sights.specs.Sights.{Sight as BlockSight}
use Rattle.block_sights.specs.Sights.Sight.{Whole, Scar, BadLine}
use Rattle.explorer.specs.CutPlaces.declared.sight.Sight.{Sight}
use Rattle.explorer.specs.CutPlaces.SeesFiles.{is_held}
use Rattle.explorer.specs.ValueTables.Listed.{reply_of}
use Rattle.explorer.specs.ValueTables.Looking.{file_lines_touched, lines_touched}
use Rattle.outcome_lists.specs.Choices.{Choice, choices_from}
use Rattle.outcome_lists.specs.Courses.{AllWith, AreOf}
use Rattle.outcome_lists.specs.Outcomes.{and_seen, nothing}
use Rattle.outcome_lists.specs.Parts.{IsPart}
use Rattle.outcome_lists.proofs.SightLemmas.{blocks_of_part, lines_of_part}

module _ (sight : Sight) (geo : Geometry) where
  -- a read of the part's word, with a reply that tells of its line
  of_word : (start len : ℕ) (reply : PageReply) → IsPart geo (Volume start len) → lines_read start len reply ≡ lines_touched (Volume start len)
      → AreOf sight geo (Volume start len ∷ []) (and_seen nothing (of_volume (record { start = start; len = len; reply = reply })))
  of_word start len reply is tells = record {
    lines = append-nil (lines_read start len reply) ∙ tells ∙ sym (lines_of_part geo (Volume start len) is.taken);
    blocks = sym (blocks_of_part geo (Volume start len) is.taken);
    files = refl;
  }

  -- of its block
  of_block : (first count : ℕ) (s : BlockSight) → IsPart geo (Blocks first count)
      → AreOf sight geo (Blocks first count ∷ []) (and_seen nothing (of_blocks (record { first = first; count = 1; reply = reply_of first s })))
  of_block first count s is = record {
    lines = sym (lines_of_part geo (Blocks first count) is.taken);
    blocks = numbers s ∙ sym (blocks_of_part geo (Blocks first count) is.taken ∙ ap (range_with_len first) is.one);
    files = refl;
  }
    where
      numbers : (s : BlockSight) → all_numbers_read (record { first = first; count = 1; reply = reply_of first s } ∷ []) ≡ first ∷ []
      numbers (Whole bytes) = refl
      numbers Scar = refl
      numbers (BadLine line) = refl

  -- of the word of a file
  of_file_word : (name : List ℕ) (start len : ℕ) (reply : PageReply) → IsPart geo (File name start len)
      → list_all (is_held sight.files.numbers) (lines_read start len reply) ≡ true
      → AreOf sight geo (File name start len ∷ []) (and_seen nothing (of_file (record { name = name; pages = record { start = start; len = len; reply = reply } })))
  of_file_word name start len reply is held = record {
    lines = sym (lines_of_part geo (File name start len) is.taken);
    blocks = sym (blocks_of_part geo (File name start len) is.taken);
    files = and_from (list_all (is_held sight.files.numbers) (lines_read start len reply)) true held refl;
  }

  -- each of them
  all_mapped : {A : Type 0} (part : Read) (choice : A → Choice) → ((x : A) → AreOf sight geo (part ∷ []) (and_seen nothing (choice x).seen))
      → (xs : List A) → AllWith sight geo (part ∷ []) nothing (map choice xs)
  all_mapped part choice is [] = tt
  all_mapped part choice is (x ∷ xs) = (is x, all_mapped part choice is xs)

  pub all_choices : (part : Read) (values : List ℕ) (sights : List BlockSight) → IsPart geo part → list_all (is_held sight.files.numbers) (file_lines_touched part) ≡ true
      → AllWith sight geo (part ∷ []) nothing (choices_from part values sights)
  all_choices (Volume start len) values sights is held =
      (of_word start len (Poison _) is refl, all_mapped (Volume start len) _ (λ v. of_word start len (Shows _) is refl) values)
  all_choices (Blocks first count) values sights is held = all_mapped (Blocks first count) _ (λ s. of_block first count s is) sights
  all_choices (File name start len) values sights is held = (
    of_file_word name start len (Refuses Missing) is refl,
    (
      of_file_word name start len (Refuses Range) is refl,
      (
        of_file_word name start len (Poison (64 * (start / 64))) is held,
        all_mapped (File name start len) _ (λ v. of_file_word name start len (Shows (to_le_bytes w64 v)) is held) values,
      ),
    ),
  )
