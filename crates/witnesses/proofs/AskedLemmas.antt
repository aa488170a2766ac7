-- What is told of lines of the volume and of blocks, as a question of its own.
use Rattle.std.proofs.Common.{◌≡◌, ℕ, ◌+◌, ◌-◌, ◌*◌, ◌/◌, ◌%◌, ◌<◌, ◌≤◌, ◌==◌, ◌&&◌, nat_lt, true, cond, Option, Some, None, List, [], ◌∷◌, ◌++◌, map, length, slice_index, refl, sym, ap, ◌∙◌, arith, eq-eqb}
use Rattle.std.specs.Int.{byte_at}
use Rattle.std.specs.List.{range_with_len}
use Rattle.std.proofs.lemmas.Bool.{and_from, le-ltb, lt-ltb, ne_eqb}
use Rattle.std.proofs.lemmas.List.{length-map}
use Rattle.nvm_model.specs.Cell.{Cell, touches}
use Rattle.nvm_model.proofs.NumberedLemmas.{length-list_from}
use Rattle.block_sights.specs.Sights.{Sight as Seen}
use Rattle.block_sights.specs.Sights.Sight.{Whole, Scar, BadLine}
use Rattle.nvm_model.specs.Blocks.{first_there}
use Rattle.reply_text.specs.declared.reply.Why.{Why}
use Rattle.reply_text.specs.declared.reply.Why.TheVariants as because
use Rattle.cut_places.specs.MachineModel.Meaning.{most_refusal}
use Rattle.cut_places.specs.Outcomes.Blocks.{all_numbers_read, is_block_reply, is_block_reply_by, is_read_of_blocks, numbers_read}
use Rattle.cut_places.specs.Outcomes.Pages.{PageRead, all_lines_read, is_given, is_reply, is_reply_by, lines_read}
use Rattle.cut_places.specs.AskedReads.declared.question.Question.{Question}
use Rattle.cut_places.specs.AskedReads.declared.reads.PageReply.{PageReply as AskedOfPages}
use Rattle.cut_places.specs.AskedReads.declared.reads.PageReply.TheVariants as asked_pages
use Rattle.cut_places.specs.AskedReads.declared.reads.PageRead.{PageRead as AskedPages}
use Rattle.cut_places.specs.AskedReads.declared.reads.BlockReply.{BlockReply as AskedOfBlocks}
use Rattle.cut_places.specs.AskedReads.declared.reads.BlockReply.TheVariants as asked_blocks
use Rattle.cut_places.specs.AskedReads.declared.reads.BlockRead.{BlockRead as AskedBlocks}
use Rattle.cut_places.specs.AskedReads.Asking.{blocks_of, files_asked, volume_asked}
use Rattle.cut_places.specs.AskedReads.Reads.{block_reply as reply_of_blocks, blocks_asked, page_reply, pages_asked}
use Rattle.cut_places.specs.SightsSeen.declared.line_seen.LineSeen.{LineSeen}
use Rattle.cut_places.specs.SightsSeen.declared.block_seen.BlockSeen.{BlockSeen}
use Rattle.cut_places.specs.declared.sight.Sight.{Sight}
use Rattle.cut_places.specs.SightsSeen.Units.{block_numbers, line_numbers}
use Rattle.witnesses.specs.declared.line_kept.LineLeft.{LineLeft}
use Rattle.witnesses.specs.declared.line_kept.LineLeft.TheVariants as left
use Rattle.witnesses.specs.Lines.{left_of}
use Rattle.witnesses.specs.Telling.{block_reply, bytes_of_words, line_reply}
use Rattle.witnesses.proofs.BlockToldLemmas.{among_own, told_as as block_told_as}
use Rattle.witnesses.proofs.LineToldLemmas.{line_told_as}

-- a told read, as a question asks for it
asked_of_line : ℕ → LineLeft → AskedOfPages
asked_of_line n left.Bad = asked_pages.Poison (64 * n)
asked_of_line n (left.Words words) = asked_pages.Shows (record { items = bytes_of_words words; spare = 0 })

asked_of_block : ℕ → Seen → AskedOfBlocks
asked_of_block b (Whole bytes) = asked_blocks.Shows (record { items = bytes; spare = 0 })
asked_of_block b Scar = asked_blocks.Scar b
asked_of_block b (BadLine line) = asked_blocks.BadLine b line

line_same : (n : ℕ) (kept : LineLeft) → page_reply (asked_of_line n kept) ≡ line_reply n kept
unfolding asked_of_line
line_same n left.Bad = refl
line_same n (left.Words words) = refl

block_same : (b : ℕ) (o : Seen) → reply_of_blocks (asked_of_block b o) ≡ block_reply b o
unfolding asked_of_block
block_same b (Whole bytes) = refl
block_same b Scar = refl
block_same b (BadLine line) = refl

one_line : (n : ℕ) → range_with_len (64 * n / 64) ((64 * n + 64 - 1) / 64 + 1 - 64 * n / 64) ≡ n ∷ []
one_line n =
    let first : 64 * n / 64 ≡ n = omega arith in
    let one : (64 * n + 64 - 1) / 64 + 1 - n ≡ 1 = omega arith in
    ap (λ k. range_with_len k ((64 * n + 64 - 1) / 64 + 1 - k)) first ∙ ap (range_with_len n) one

-- the lines that told reads look at
pub lines_at : (n : ℕ) (kept : LineLeft) → lines_read (64 * n) 64 (line_reply n kept) ≡ n ∷ []
lines_at n left.Bad = one_line n
lines_at n (left.Words words) = one_line n

numbers_at : (b : ℕ) (o : Seen) → numbers_read b 1 (block_reply b o) ≡ b ∷ []
numbers_at b (Whole bytes) = refl
numbers_at b Scar = refl
numbers_at b (BadLine line) = refl

-- they are within a device of so many pages, and have a reply that a read has
no_refusal : (most size start len : ℕ) → start + len ≤ size → 0 < len → len ≤ most → most_refusal most size start len ≡ None
no_refusal most size start len within some few =
    let last : Option Why = cond (nat_lt most len) (Some because.Limit) None in
    ap (λ b. first_there (cond b (Some because.Range) (cond (len == 0) (Some because.Length) None)) last) (le-ltb size (start + len) within)
    ∙ ap (λ b. first_there (cond b (Some because.Length) None) last) (ne_eqb len 0 (λ none. absurd (omega (arith, some, none))))
    ∙ ap (λ b. cond b (Some because.Limit) None) (le-ltb most len few)

given_line : (n : ℕ) (kept : LineLeft) → is_given (64 * n) 64 (line_reply n kept) ≡ true
given_line n left.Bad =
    and_from (touches (64 * n) 64 (64 * n / 64)) (64 * n == 64 * (64 * n / 64))
    (ap (touches (64 * n) 64) (omega arith) ∙ ap (λ b. b && nat_lt (64 * n) (64 * n + 64)) (lt-ltb (64 * n) (64 * n + 64) (omega arith)) ∙ lt-ltb (64 * n) (64 * n + 64) (omega arith))
    (eq-eqb (64 * n) (64 * (64 * n / 64)) (omega arith))
given_line n (left.Words words) = eq-eqb (length (bytes_of_words words)) 64 (length-list_from (λ i. byte_at (i % 8) (slice_index words (i / 8))) 0 64)

pub line_reply_is : (pages n : ℕ) (kept : LineLeft) → n < 64 * pages → is_reply (4096 * pages) (record { start = 64 * n; len = 64; reply = line_reply n kept }) ≡ true
line_reply_is pages n kept within =
    ap (λ o. is_reply_by o (64 * n) 64 (line_reply n kept)) (no_refusal 65536 (4096 * pages) (64 * n) 64 (omega (arith, within)) (omega arith) (omega arith)) ∙ given_line n kept

given_block : (b : ℕ) (o : Seen) → ((bytes : List ℕ) → o ≡ Whole bytes → length bytes ≡ 512) → is_read_of_blocks b 1 (block_reply b o) ≡ true
given_block b (Whole bytes) size = eq-eqb (length bytes) 512 (size bytes refl)
given_block b Scar size = among_own b
given_block b (BadLine line) size = among_own b

pub block_reply_is : (size b : ℕ) (o : Seen) → ((bytes : List ℕ) → o ≡ Whole bytes → length bytes ≡ 512) → b < size → is_block_reply size (record { first = b; count = 1; reply = block_reply b o }) ≡ true
block_reply_is size b o whole within =
    ap (λ r. is_block_reply_by r b 1 (block_reply b o)) (no_refusal 128 size b 1 (omega (arith, within)) (omega arith) (omega arith)) ∙ given_block b o whole

module _ (reads : List PageRead) (cell : LineSeen → Cell) (seen : BlockSeen → Seen) where
  asked_line : LineSeen → AskedPages
  asked_line s = record { start = 64 * s.number; len = 64; reply = asked_of_line s.number (left_of reads s.number (cell s)) }

  asked_block : BlockSeen → AskedBlocks
  asked_block s = record { first = s.number; count = 1; reply = asked_of_block s.number (seen s); reach = s.reach }

  -- the question whether these lines and blocks are as they are told, of no files
  pub told_question : Sight → Question
  told_question now = record {
    volume = record {
      ptr = now.lines.ptr;
      len = now.lines.len;
      cap = now.lines.cap;
      alloc = now.lines.alloc;
      items = map asked_line now.lines.items;
      ok = (now.lines.ok.0 ∙ sym (length-map now.lines.items asked_line), now.lines.ok.1);
      small = now.lines.small;
    };
    blocks = record {
      ptr = now.blocks.ptr;
      len = now.blocks.len;
      cap = now.blocks.cap;
      alloc = now.blocks.alloc;
      items = map asked_block now.blocks.items;
      ok = (now.blocks.ok.0 ∙ sym (length-map now.blocks.items asked_block), now.blocks.ok.1);
      small = now.blocks.small;
    };
    files = record {
      ptr = now.lines.ptr;
      len = 0;
      cap = now.lines.cap;
      alloc = now.lines.alloc;
      items = [];
      ok = (refl, omega arith);
      small = now.lines.small;
    };
  }

  lines_asked : (lines : List LineSeen) → pages_asked (map asked_line lines) ≡ map (line_told_as reads cell) lines
  unfolding asked_line
  lines_asked [] = refl
  lines_asked (s ∷ lines) =
      ap (λ reply. record { start = 64 * s.number; len = 64; reply = reply } ∷ pages_asked (map asked_line lines)) (line_same s.number (left_of reads s.number (cell s)))
      ∙ ap (λ rs. line_told_as reads cell s ∷ rs) (lines_asked lines)

  units_asked : (units : List BlockSeen) → blocks_asked (map asked_block units) ≡ map (block_told_as seen) units
  unfolding asked_block
  units_asked [] = refl
  units_asked (s ∷ units) =
      ap (λ reply. record { first = s.number; count = 1; reply = reply } ∷ blocks_asked (map asked_block units)) (block_same s.number (seen s))
      ∙ ap (λ rs. block_told_as seen s ∷ rs) (units_asked units)

  pub volume_told : (now : Sight) → volume_asked (told_question now) ≡ map (line_told_as reads cell) now.lines.items
  unfolding told_question
  volume_told now = lines_asked now.lines.items

  pub blocks_told : (now : Sight) → blocks_of (told_question now) ≡ map (block_told_as seen) now.blocks.items
  unfolding told_question
  blocks_told now = units_asked now.blocks.items

  pub files_told : (now : Sight) → files_asked (told_question now) ≡ []
  unfolding told_question
  files_told now = refl

  -- it looks at these lines and blocks
  pub lines_looked : (lines : List LineSeen) → all_lines_read (map (line_told_as reads cell) lines) ≡ line_numbers lines
  lines_looked [] = refl
  lines_looked (s ∷ lines) =
      ap (λ ns. ns ++ all_lines_read (map (line_told_as reads cell) lines)) (lines_at s.number (left_of reads s.number (cell s))) ∙ ap (λ ns. s.number ∷ ns) (lines_looked lines)

  pub blocks_looked : (units : List BlockSeen) → all_numbers_read (map (block_told_as seen) units) ≡ block_numbers units
  blocks_looked [] = refl
  blocks_looked (s ∷ units) =
      ap (λ ns. ns ++ all_numbers_read (map (block_told_as seen) units)) (numbers_at s.number (seen s)) ∙ ap (λ ns. s.number ∷ ns) (blocks_looked units)
