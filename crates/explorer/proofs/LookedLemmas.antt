-- What a read with its reply touches is looked at, where the read is one of those whose lines and blocks are.
use Rattle.std.proofs.Common.{◌≡◌, inl, inr, ℕ, ◌+◌, ◌*◌, ◌/◌, ◌<◌, ◌≤◌, ◌&&◌, Bool, true, false, cond, Option, Some, None, List, [], ◌∷◌, map, nat_le, nat_lt, refl, sym, ap, subst, ◌∙◌, arith}
use Rattle.std.proofs.lemmas.Bool.{and_parts, leb-true, ltb-true}
use Rattle.word_tables.specs.declared.geometry.Geometry.{Geometry}
use Rattle.nvm_model.specs.Blocks.{first_there}
use Rattle.reply_text.specs.declared.reply.Why.{Why}
use Rattle.reply_text.specs.declared.reply.Why.TheVariants as because
use Rattle.cut_places.specs.MachineModel.Meaning.{most_refusal}
use Rattle.cut_places.proofs.MachineModel.RefusalLemmas.{span_right}
use Rattle.cut_places.specs.Outcomes.Blocks.{BlockRead, BlockReply, all_numbers_read, is_block_reply, is_block_reply_by, numbers_read}
use Rattle.cut_places.specs.Outcomes.Blocks.BlockReply.{Shows as ShowsBlocks, Scar, BadLine, Refuses as RefusesBlocks}
use Rattle.cut_places.specs.Outcomes.Files.{FileRead}
use Rattle.cut_places.specs.Outcomes.Pages.{PageRead, PageReply, all_lines_read, is_given, is_reply, is_reply_by, lines_read}
use Rattle.cut_places.specs.Outcomes.Pages.PageReply.{Shows, Poison, Refuses}
use Rattle.cut_places.specs.Outcomes.Seen.{Seen, block_reads, file_reads, volume_reads}
use Rattle.cut_places.specs.Outcomes.Seen.Seen.{of_blocks, of_file, of_volume}
use Rattle.cut_places.specs.AskedReads.Asking.{is_given_by_some, may_be_file_reply}
use Rattle.cut_places.specs.AskedReads.declared.read.Read.{Read}
use Rattle.cut_places.specs.AskedReads.declared.read.Read.TheVariants as reads
use Rattle.value_tables.specs.Rows.{read_refusal}
use Rattle.witnesses.specs.Files.{places_read}
use Rattle.witnesses.proofs.ListLemmas.{IsAmong, among_first, among_last, among_map}
use Rattle.explorer.specs.Tabulating.{looked, read_looked, unless_refused}

-- a read that is not refused is looked at
looked_among : (geo : Geometry) (rs : List Read) (read : Read) → IsAmong read rs → read_refusal geo read ≡ None → IsAmong (read_looked read) (looked geo rs)
looked_among geo [] read is none = absurd is
looked_among geo (x ∷ rs) read (inl same) none =
    among_first (read_looked read) (unless_refused (read_refusal geo x) (read_looked x)) (looked geo rs)
    (subst (λ y. IsAmong (read_looked read) (unless_refused (read_refusal geo y) (read_looked y))) same
    (subst (λ o. IsAmong (read_looked read) (unless_refused o (read_looked read))) (sym none) (inl refl)))
looked_among geo (x ∷ rs) read (inr later) none = among_last (read_looked read) (unless_refused (read_refusal geo x) (read_looked x)) (looked geo rs) (looked_among geo rs read later none)

-- and so are its lines, its blocks, and the lines of its file
volume_among : (look : List Seen) (r : PageRead) (n : ℕ) → IsAmong (of_volume r) look → IsAmong n (lines_read r.start r.len r.reply) → IsAmong n (all_lines_read (volume_reads look))
volume_among [] r n is at = absurd is
volume_among (of_volume x ∷ look) r n (inl same) at =
    let e : r ≡ x = cc same in among_first n (lines_read x.start x.len x.reply) (all_lines_read (volume_reads look)) (subst (λ (y : PageRead). IsAmong n (lines_read y.start y.len y.reply)) e at)
volume_among (of_volume x ∷ look) r n (inr later) at = among_last n (lines_read x.start x.len x.reply) (all_lines_read (volume_reads look)) (volume_among look r n later at)
volume_among (of_blocks x ∷ look) r n (inl same) at = absurd (cc same)
volume_among (of_blocks x ∷ look) r n (inr later) at = volume_among look r n later at
volume_among (of_file x ∷ look) r n (inl same) at = absurd (cc same)
volume_among (of_file x ∷ look) r n (inr later) at = volume_among look r n later at

blocks_among : (look : List Seen) (r : BlockRead) (b : ℕ) → IsAmong (of_blocks r) look → IsAmong b (numbers_read r.first r.count r.reply) → IsAmong b (all_numbers_read (block_reads look))
blocks_among [] r b is at = absurd is
blocks_among (of_volume x ∷ look) r b (inl same) at = absurd (cc same)
blocks_among (of_volume x ∷ look) r b (inr later) at = blocks_among look r b later at
blocks_among (of_blocks x ∷ look) r b (inl same) at =
    let e : r ≡ x = cc same in among_first b (numbers_read x.first x.count x.reply) (all_numbers_read (block_reads look)) (subst (λ (y : BlockRead). IsAmong b (numbers_read y.first y.count y.reply)) e at)
blocks_among (of_blocks x ∷ look) r b (inr later) at = among_last b (numbers_read x.first x.count x.reply) (all_numbers_read (block_reads look)) (blocks_among look r b later at)
blocks_among (of_file x ∷ look) r b (inl same) at = absurd (cc same)
blocks_among (of_file x ∷ look) r b (inr later) at = blocks_among look r b later at

abbrev places_of_read : FileRead → List (List ℕ × ℕ)
places_of_read r = map (λ n. (r.name, n)) (lines_read r.pages.start r.pages.len r.pages.reply)

files_among : (look : List Seen) (r : FileRead) (place : List ℕ × ℕ) → IsAmong (of_file r) look → IsAmong place (places_of_read r) → IsAmong place (places_read (file_reads look))
files_among [] r place is at = absurd is
files_among (of_volume x ∷ look) r place (inl same) at = absurd (cc same)
files_among (of_volume x ∷ look) r place (inr later) at = files_among look r place later at
files_among (of_blocks x ∷ look) r place (inl same) at = absurd (cc same)
files_among (of_blocks x ∷ look) r place (inr later) at = files_among look r place later at
files_among (of_file x ∷ look) r place (inl same) at =
    let e : r ≡ x = cc same in among_first place (places_of_read x) (places_read (file_reads look)) (subst (λ (y : FileRead). IsAmong place (places_of_read y)) e at)
files_among (of_file x ∷ look) r place (inr later) at = among_last place (places_of_read x) (places_read (file_reads look)) (files_among look r place later at)

-- the lines of a reply are those of any other that shows something
lines_same : (start len : ℕ) (reply : PageReply) (n at : ℕ) → IsAmong n (lines_read start len reply) → IsAmong n (lines_read start len (Poison at))
lines_same start len (Shows bytes) n at is = is
lines_same start len (Poison other) n at is = is
lines_same start len (Refuses why) n at is = absurd is

numbers_same : (first count : ℕ) (reply : BlockReply) (b at : ℕ) → IsAmong b (numbers_read first count reply) → IsAmong b (numbers_read first count (Scar at))
numbers_same first count (ShowsBlocks bytes) b at is = is
numbers_same first count (Scar block) b at is = is
numbers_same first count (BadLine block line) b at is = is
numbers_same first count (RefusesBlocks why) b at is = absurd is

-- a read of which a reply shows something is not refused
pages_allowed : (start len : ℕ) (reply : PageReply) (n : ℕ) (o : Option Why) → is_reply_by o start len reply ≡ true → IsAmong n (lines_read start len reply) → o ≡ None
pages_allowed start len reply n None is at = refl
pages_allowed start len (Shows bytes) n (Some why) is at = absurd (cc is)
pages_allowed start len (Poison other) n (Some why) is at = absurd (cc is)
pages_allowed start len (Refuses other) n (Some why) is at = absurd at

blocks_allowed : (first count : ℕ) (reply : BlockReply) (b : ℕ) (o : Option Why) → is_block_reply_by o first count reply ≡ true → IsAmong b (numbers_read first count reply) → o ≡ None
blocks_allowed first count reply b None is at = refl
blocks_allowed first count (ShowsBlocks bytes) b (Some why) is at = absurd (cc is)
blocks_allowed first count (Scar block) b (Some why) is at = absurd (cc is)
blocks_allowed first count (BadLine block line) b (Some why) is at = absurd (cc is)
blocks_allowed first count (RefusesBlocks other) b (Some why) is at = absurd at

given_within : (start len : ℕ) (reply : PageReply) (n : ℕ) → is_given_by_some start len reply ≡ true → IsAmong n (lines_read start len reply) → (0 < len) × (len ≤ 65536)
given_within start len (Shows bytes) n is at =
    let first = and_parts (nat_lt 0 len) (nat_le len 65536 && is_given start len (Shows bytes)) is in
    let second = and_parts (nat_le len 65536) (is_given start len (Shows bytes)) first.1 in
    (ltb-true 0 len first.0, leb-true len 65536 second.0)
given_within start len (Poison at) n is among =
    let first = and_parts (nat_lt 0 len) (nat_le len 65536 && is_given start len (Poison at)) is in
    let second = and_parts (nat_le len 65536) (is_given start len (Poison at)) first.1 in
    (ltb-true 0 len first.0, leb-true len 65536 second.0)
given_within start len (Refuses why) n is at = absurd at

file_allowed : (start len : ℕ) → 0 < len → len ≤ 65536 → most_refusal 65536 (start + len) start len ≡ None
file_allowed start len some most =
    ap (λ o. first_there o (cond (nat_lt 65536 len) (Some because.Limit) None)) (span_right (start + len) start len (omega (arith, some)) (omega arith)) ∙ by_limit (nat_lt 65536 len) refl
  where
    by_limit : (b : Bool) → nat_lt 65536 len ≡ b → cond b (Some because.Limit) None ≡ None
    by_limit true over = absurd (omega (arith, ltb-true 65536 len over, most))
    by_limit false within = refl

module _ (geo : Geometry) (rs : List Read) where
  pub volume_looked : (r : PageRead) → IsAmong (reads.Volume r.start r.len) rs → is_reply (4096 * geo.vpages) r ≡ true → (n : ℕ) → IsAmong n (lines_read r.start r.len r.reply)
      → IsAmong n (all_lines_read (volume_reads (looked geo rs)))
  volume_looked r is reply n at =
      volume_among (looked geo rs) _ n
      (looked_among geo rs (reads.Volume r.start r.len) is (pages_allowed r.start r.len r.reply n (most_refusal 65536 (4096 * geo.vpages) r.start r.len) reply at)) (lines_same r.start r.len r.reply n (r.start / 64 * 64) at)

  pub blocks_looked : (r : BlockRead) → IsAmong (reads.Blocks r.first r.count) rs → is_block_reply geo.blocks r ≡ true → (b : ℕ) → IsAmong b (numbers_read r.first r.count r.reply)
      → IsAmong b (all_numbers_read (block_reads (looked geo rs)))
  blocks_looked r is reply b at =
      blocks_among (looked geo rs) _ b
      (looked_among geo rs (reads.Blocks r.first r.count) is (blocks_allowed r.first r.count r.reply b (most_refusal 128 geo.blocks r.first r.count) reply at)) (numbers_same r.first r.count r.reply b r.first at)

  pub file_looked : (r : FileRead) → IsAmong (reads.File r.name r.pages.start r.pages.len) rs → may_be_file_reply r ≡ true → (n : ℕ) → IsAmong n (lines_read r.pages.start r.pages.len r.pages.reply)
      → IsAmong (r.name, n) (places_read (file_reads (looked geo rs)))
  file_looked r is reply n at =
      let within = given_within r.pages.start r.pages.len r.pages.reply n reply at in
      let lines = lines_read r.pages.start r.pages.len (Poison 0) in
      files_among (looked geo rs) _ (r.name, n)
      (looked_among geo rs (reads.File r.name r.pages.start r.pages.len) is (file_allowed r.pages.start r.pages.len within.0 within.1))
      (among_map (λ m. (r.name, m)) n lines (lines_same r.pages.start r.pages.len r.pages.reply n 0 at))
