-- A question that looks at all that some reads touch, read by read.
use Rattle.std.proofs.Common.{◌≡◌, ◌+◌, ◌*◌, ◌/◌, ◌≤◌, ◌==◌, ◌&&◌, ℕ, Bool, true, false, Option, Some, None, List, [], ◌∷◌, ◌++◌, map, nat_le, nat_lt, refl, sym, subst, ap, ap₂, ◌∙◌, append-nil, append_assoc, arith}
use Rattle.std.specs.List.{list_all}
use Rattle.std.specs.Option.{is_some}
use Rattle.std.proofs.lemmas.Bool.{and_from, and_parts, eq-eqb, le-leb, lt-ltb}
use Rattle.std.proofs.lemmas.List.{map-append}
use Rattle.std.proofs.lemmas.List.Folds.{list_all-append}
use Rattle.word_tables.specs.declared.geometry.Geometry.{Geometry}
use Rattle.nvm_model.specs.Cell.{touches}
use Rattle.nvm_model.specs.Numbered.{is_among}
use Rattle.reply_text.specs.declared.reply.Why.{Why}
use Rattle.cut_places.specs.MachineModel.Meaning.{most_refusal}
use Rattle.cut_places.proofs.MachineModel.RefusalLemmas.{read_within}
use Rattle.cut_places.specs.Outcomes.Blocks.{all_numbers_read, is_block_reply, is_block_reply_by}
use Rattle.cut_places.specs.Outcomes.Files.{FileRead}
use Rattle.cut_places.specs.Outcomes.Pages.{all_lines_read, is_reply, is_reply_by, lines_read}
use Rattle.cut_places.specs.Outcomes.Pages.PageReply.{Poison}
use Rattle.cut_places.specs.Outcomes.Blocks.BlockReply.{Scar}
use Rattle.cut_places.specs.Outcomes.Seen.{block_reads, file_reads, volume_reads}
use Rattle.cut_places.specs.AskedReads.Asking.{IsLook, blocks_of, files_asked, may_be_file_reply, may_be_replies, volume_asked}
use Rattle.cut_places.specs.AskedReads.Reads.{block_read, file_read, page_read}
use Rattle.cut_places.specs.AskedReads.declared.question.Question.{Question}
use Rattle.cut_places.specs.AskedReads.declared.read.Read.{Read}
use Rattle.cut_places.specs.AskedReads.declared.read.Read.TheVariants as reads
use Rattle.cut_places.specs.AskedReads.declared.reads.PageRead.{PageRead as PageAsked}
use Rattle.cut_places.specs.AskedReads.declared.reads.BlockRead.{BlockRead as BlockAsked}
use Rattle.cut_places.specs.AskedReads.declared.reads.FileRead.{FileRead as FileAsked}
use Rattle.cut_places.specs.SeesFiles.{are_held, is_held}
use Rattle.value_tables.specs.Looking.{blocks_looked_at, blocks_touched, file_lines_looked_at, file_lines_touched, lines_looked_at, lines_touched, none_refused}
use Rattle.value_tables.specs.Rows.{read_refusal}
use Rattle.witnesses.proofs.SeenLemmas.{all_lines_read-append, all_numbers_read-append, block_reads-append, file_reads-append, volume_reads-append}
use Rattle.explorer.specs.Tabulating.{LooksAt, looked, pages_read, read_looked, unless_refused}

-- one read more of a look
lines_more : (geo : Geometry) (look : List Read) (r : Read) → lines_looked_at geo (look ++ r ∷ []) ≡ lines_looked_at geo look ++ none_refused (read_refusal geo r) (lines_touched r)
lines_more geo [] r = append-nil (none_refused (read_refusal geo r) (lines_touched r))
lines_more geo (x ∷ look) r =
    ap (λ ns. none_refused (read_refusal geo x) (lines_touched x) ++ ns) (lines_more geo look r)
    ∙ sym (append_assoc (none_refused (read_refusal geo x) (lines_touched x)) (lines_looked_at geo look) (none_refused (read_refusal geo r) (lines_touched r)))

blocks_more : (geo : Geometry) (look : List Read) (r : Read) → blocks_looked_at geo (look ++ r ∷ []) ≡ blocks_looked_at geo look ++ none_refused (read_refusal geo r) (blocks_touched r)
blocks_more geo [] r = append-nil (none_refused (read_refusal geo r) (blocks_touched r))
blocks_more geo (x ∷ look) r =
    ap (λ ns. none_refused (read_refusal geo x) (blocks_touched x) ++ ns) (blocks_more geo look r)
    ∙ sym (append_assoc (none_refused (read_refusal geo x) (blocks_touched x)) (blocks_looked_at geo look) (none_refused (read_refusal geo r) (blocks_touched r)))

files_more : (geo : Geometry) (look : List Read) (r : Read)
    → file_lines_looked_at geo (look ++ r ∷ []) ≡ file_lines_looked_at geo look ++ none_refused (read_refusal geo r) (file_lines_touched r)
files_more geo [] r = append-nil (none_refused (read_refusal geo r) (file_lines_touched r))
files_more geo (x ∷ look) r =
    ap (λ ns. none_refused (read_refusal geo x) (file_lines_touched x) ++ ns) (files_more geo look r)
    ∙ sym (append_assoc (none_refused (read_refusal geo x) (file_lines_touched x)) (file_lines_looked_at geo look) (none_refused (read_refusal geo r) (file_lines_touched r)))

-- one that touches none of them, and one that is not refused
none_more : (ns ms : List ℕ) (o : Option Why) → ms ≡ ns ++ none_refused o [] → ms ≡ ns
none_more ns ms None more = more ∙ append-nil ns
none_more ns ms (Some why) more = more ∙ append-nil ns

all_more : (ns touched ms : List ℕ) (o : Option Why) → o ≡ None → ms ≡ ns ++ none_refused o touched → ms ≡ ns ++ touched
all_more ns touched ms o none more = more ∙ ap (λ o. ns ++ none_refused o touched) none

-- what is looked at
looked_more : (geo : Geometry) (look : List Read) (r : Read) → looked geo (look ++ r ∷ []) ≡ looked geo look ++ unless_refused (read_refusal geo r) (read_looked r)
looked_more geo [] r = append-nil (unless_refused (read_refusal geo r) (read_looked r))
looked_more geo (x ∷ look) r =
    ap (λ seen. unless_refused (read_refusal geo x) (read_looked x) ++ seen) (looked_more geo look r)
    ∙ sym (append_assoc (unless_refused (read_refusal geo x) (read_looked x)) (looked geo look) (unless_refused (read_refusal geo r) (read_looked r)))

refused_look : (geo : Geometry) (look : List Read) (r : Read) (why : Why) (q : Question) → read_refusal geo r ≡ Some why → IsLook (looked geo look) q → IsLook (looked geo (look ++ r ∷ [])) q
refused_look geo look r why q is asks =
    subst (λ seen. IsLook seen q) (sym (looked_more geo look r ∙ ap (λ o. looked geo look ++ unless_refused o (read_looked r)) is ∙ append-nil (looked geo look))) asks

more_look : (geo : Geometry) (look : List Read) (r : Read) (old new : Question) → read_refusal geo r ≡ None → IsLook (looked geo look) old → volume_asked new ≡ volume_asked old ++ volume_reads (read_looked r ∷ [])
    → blocks_of new ≡ blocks_of old ++ block_reads (read_looked r ∷ []) → files_asked new ≡ files_asked old ++ file_reads (read_looked r ∷ []) → IsLook (looked geo (look ++ r ∷ [])) new
more_look geo look r old new none asks volume blocks files =
    let one = read_looked r ∷ [] in
    subst (λ seen. IsLook seen new) (sym (looked_more geo look r ∙ ap (λ o. looked geo look ++ unless_refused o (read_looked r)) none)) (record {
      volume = volume_reads-append (looked geo look) one ∙ ap (λ rs. rs ++ volume_reads one) asks.volume ∙ sym volume;
      blocks = block_reads-append (looked geo look) one ∙ ap (λ rs. rs ++ block_reads one) asks.blocks ∙ sym blocks;
      files = file_reads-append (looked geo look) one ∙ ap (λ rs. rs ++ file_reads one) asks.files ∙ sym files;
    })

-- one that is refused touches nothing
pub looks-refused : (geo : Geometry) (look : List Read) (r : Read) (why : Why) (q : Question) → read_refusal geo r ≡ Some why → LooksAt geo look q → LooksAt geo (look ++ r ∷ []) q
looks-refused geo look r why q is looks = record {
  lines = looks.lines ∙ sym (lines_more geo look r ∙ ap (λ o. lines_looked_at geo look ++ none_refused o (lines_touched r)) is ∙ append-nil (lines_looked_at geo look));
  blocks = looks.blocks ∙ sym (blocks_more geo look r ∙ ap (λ o. blocks_looked_at geo look ++ none_refused o (blocks_touched r)) is ∙ append-nil (blocks_looked_at geo look));
  files = looks.files ∙ sym (files_more geo look r ∙ ap (λ o. file_lines_looked_at geo look ++ none_refused o (file_lines_touched r)) is ∙ append-nil (file_lines_looked_at geo look));
  replies = looks.replies;
  asks = refused_look geo look r why q is looks.asks;
}

-- the first line that a read touches may be what it is answered, where it is not refused
poison_given : (start len : ℕ) → 1 ≤ len → (touches start len (start / 64 * 64 / 64) && (start / 64 * 64 == 64 * (start / 64 * 64 / 64))) ≡ true
poison_given start len some =
    let line : start / 64 * 64 / 64 ≡ start / 64 = omega arith in
    ap₂ (λ a b. a && b)
    (ap (touches start len) line ∙ ap₂ (λ a b. a && b) (lt-ltb start (64 * (start / 64) + 64) (omega arith)) (lt-ltb (64 * (start / 64)) (start + len) (omega (arith, some))))
    (eq-eqb (start / 64 * 64) (64 * (start / 64 * 64 / 64)) (omega (arith, line)))

may_poison : (size start len : ℕ) → most_refusal 65536 size start len ≡ None → is_reply size (record { start = start; len = len; reply = Poison (start / 64 * 64) }) ≡ true
may_poison size start len none = ap (λ o. is_reply_by o start len (Poison (start / 64 * 64))) none ∙ poison_given start len (read_within 65536 size start len none).0

-- the first of so many is among them
among_first : (first count : ℕ) → 1 ≤ count → is_among first count first ≡ true
among_first first count some = ap₂ (λ a b. a && b) (le-leb first first (omega arith)) (lt-ltb first (first + count) (omega (arith, some)))

may_scar : (size first count : ℕ) → most_refusal 128 size first count ≡ None → is_block_reply size (record { first = first; count = count; reply = Scar first }) ≡ true
may_scar size first count none =
    let some = (read_within 128 size first count none).0 in
    ap (λ o. is_block_reply_by o first count (Scar first)) none ∙ among_first first count some

may_poison_file : (name : List ℕ) (start len : ℕ) → most_refusal 65536 (start + len) start len ≡ None
    → may_be_file_reply (record { name = name; pages = record { start = start; len = len; reply = Poison (start / 64 * 64) } }) ≡ true
may_poison_file name start len none =
    let places = read_within 65536 (start + len) start len none in
    let some = places.0 in
    and_from (nat_lt 0 len) _ (lt-ltb 0 len (omega (arith, some))) (and_from (nat_le len 65536) _ (le-leb len 65536 places.2) (poison_given start len some))

-- each reply may be one
record AllMay (geo : Geometry) (q : Question) : Type 0 where
  volume : list_all (is_reply (4096 * geo.vpages)) (volume_asked q) ≡ true
  blocks : list_all (is_block_reply geo.blocks) (blocks_of q) ≡ true
  files : list_all may_be_file_reply (files_asked q) ≡ true

all_may : (geo : Geometry) (q : Question) → may_be_replies geo q ≡ true → AllMay geo q
all_may geo q may =
    let first = and_parts _ _ may in
    let second = and_parts _ _ first.1 in
    record { volume = first.0; blocks = second.0; files = second.1 }

may_all : (geo : Geometry) (q : Question) → AllMay geo q → may_be_replies geo q ≡ true
may_all geo q all = and_from _ _ all.volume (and_from _ _ all.blocks all.files)

-- one thing more that passes
one_more : {A : Type 0} (f : A → Bool) (xs ys : List A) (x : A) → ys ≡ xs ++ x ∷ [] → list_all f xs ≡ true → f x ≡ true → list_all f ys ≡ true
one_more f xs ys x are all is = ap (list_all f) are ∙ list_all-append f xs (x ∷ []) ∙ and_from (list_all f xs) (f x && true) all (and_from (f x) true is refl)

-- a read of the volume that is not refused
pub looks-lines : (geo : Geometry) (look : List Read) (start len : ℕ) (old new : Question) (asked : PageAsked) → read_refusal geo (reads.Volume start len) ≡ None
    → page_read asked ≡ record { start = start; len = len; reply = Poison (start / 64 * 64) } → new.volume.items ≡ old.volume.items ++ asked ∷ [] → new.blocks.items ≡ old.blocks.items
    → new.files.items ≡ old.files.items → LooksAt geo look old → LooksAt geo (look ++ reads.Volume start len ∷ []) new
looks-lines geo look start len old new asked none is volume same others looks =
    let r : Read = reads.Volume start len in
    let asks : volume_asked new ≡ volume_asked old ++ page_read asked ∷ [] = ap (map page_read) volume ∙ map-append page_read old.volume.items (asked ∷ []) in
    let may = all_may geo old looks.replies in
    record {
      lines = ap all_lines_read asks ∙ all_lines_read-append (volume_asked old) (page_read asked ∷ [])
          ∙ ap₂ (λ a b. a ++ b) looks.lines (ap (λ q. all_lines_read (q ∷ [])) is ∙ append-nil (lines_touched r))
          ∙ sym (all_more (lines_looked_at geo look) (lines_touched r) _ (read_refusal geo r) none (lines_more geo look r));
      blocks = ap (λ xs. all_numbers_read (map block_read xs)) same ∙ looks.blocks ∙ sym (none_more (blocks_looked_at geo look) _ (read_refusal geo r) (blocks_more geo look r));
      files = ap (λ xs. all_lines_read (pages_read (map file_read xs))) others ∙ looks.files ∙ sym (none_more (file_lines_looked_at geo look) _ (read_refusal geo r) (files_more geo look r));
      replies = may_all geo new (record {
        volume = one_more (is_reply (4096 * geo.vpages)) (volume_asked old) (volume_asked new) (page_read asked) asks may.volume
            (ap (is_reply (4096 * geo.vpages)) is ∙ may_poison (4096 * geo.vpages) start len none);
        blocks = ap (λ xs. list_all (is_block_reply geo.blocks) (map block_read xs)) same ∙ may.blocks;
        files = ap (λ xs. list_all may_be_file_reply (map file_read xs)) others ∙ may.files;
      });
      asks = more_look geo look r old new none looks.asks (asks ∙ ap (λ x. volume_asked old ++ x ∷ []) is)
          (ap (map block_read) same ∙ sym (append-nil (blocks_of old))) (ap (map file_read) others ∙ sym (append-nil (files_asked old)));
    }

-- one of blocks
pub looks-blocks : (geo : Geometry) (look : List Read) (first count : ℕ) (old new : Question) (asked : BlockAsked) → read_refusal geo (reads.Blocks first count) ≡ None
    → new.volume.items ≡ old.volume.items → new.blocks.items ≡ old.blocks.items ++ asked ∷ [] → block_read asked ≡ record { first = first; count = count; reply = Scar first }
    → new.files.items ≡ old.files.items → LooksAt geo look old → LooksAt geo (look ++ reads.Blocks first count ∷ []) new
looks-blocks geo look first count old new asked none same blocks is others looks =
    let r : Read = reads.Blocks first count in
    let asks : blocks_of new ≡ blocks_of old ++ block_read asked ∷ [] = ap (map block_read) blocks ∙ map-append block_read old.blocks.items (asked ∷ []) in
    let may = all_may geo old looks.replies in
    record {
      lines = ap (λ xs. all_lines_read (map page_read xs)) same ∙ looks.lines ∙ sym (none_more (lines_looked_at geo look) _ (read_refusal geo r) (lines_more geo look r));
      blocks = ap all_numbers_read asks ∙ all_numbers_read-append (blocks_of old) (block_read asked ∷ [])
          ∙ ap₂ (λ a b. a ++ b) looks.blocks (ap (λ q. all_numbers_read (q ∷ [])) is ∙ append-nil (blocks_touched r))
          ∙ sym (all_more (blocks_looked_at geo look) (blocks_touched r) _ (read_refusal geo r) none (blocks_more geo look r));
      files = ap (λ xs. all_lines_read (pages_read (map file_read xs))) others ∙ looks.files ∙ sym (none_more (file_lines_looked_at geo look) _ (read_refusal geo r) (files_more geo look r));
      replies = may_all geo new (record {
        volume = ap (λ xs. list_all (is_reply (4096 * geo.vpages)) (map page_read xs)) same ∙ may.volume;
        blocks = one_more (is_block_reply geo.blocks) (blocks_of old) (blocks_of new) (block_read asked) asks may.blocks
            (ap (is_block_reply geo.blocks) is ∙ may_scar geo.blocks first count none);
        files = ap (λ xs. list_all may_be_file_reply (map file_read xs)) others ∙ may.files;
      });
      asks = more_look geo look r old new none looks.asks (ap (map page_read) same ∙ sym (append-nil (volume_asked old)))
          (asks ∙ ap (λ x. blocks_of old ++ x ∷ []) is) (ap (map file_read) others ∙ sym (append-nil (files_asked old)));
    }

-- and one of a file
pub looks-file : (geo : Geometry) (look : List Read) (name : List ℕ) (start len : ℕ) (old new : Question) (asked : FileAsked) → read_refusal geo (reads.File name start len) ≡ None
    → new.volume.items ≡ old.volume.items → new.blocks.items ≡ old.blocks.items → new.files.items ≡ old.files.items ++ asked ∷ []
    → file_read asked ≡ record { name = name; pages = record { start = start; len = len; reply = Poison (start / 64 * 64) } } → LooksAt geo look old
    → LooksAt geo (look ++ reads.File name start len ∷ []) new
looks-file geo look name start len old new asked none same others files is looks =
    let r : Read = reads.File name start len in
    let asks : files_asked new ≡ files_asked old ++ file_read asked ∷ [] = ap (map file_read) files ∙ map-append file_read old.files.items (asked ∷ []) in
    let may = all_may geo old looks.replies in
    record {
      lines = ap (λ xs. all_lines_read (map page_read xs)) same ∙ looks.lines ∙ sym (none_more (lines_looked_at geo look) _ (read_refusal geo r) (lines_more geo look r));
      blocks = ap (λ xs. all_numbers_read (map block_read xs)) others ∙ looks.blocks ∙ sym (none_more (blocks_looked_at geo look) _ (read_refusal geo r) (blocks_more geo look r));
      files = ap (λ qs. all_lines_read (pages_read qs)) asks ∙ ap all_lines_read (map-append (λ (q : FileRead). q.pages) (files_asked old) (file_read asked ∷ []))
          ∙ all_lines_read-append (pages_read (files_asked old)) (pages_read (file_read asked ∷ []))
          ∙ ap₂ (λ a b. a ++ b) looks.files (ap (λ q. all_lines_read (pages_read (q ∷ []))) is ∙ append-nil (file_lines_touched r))
          ∙ sym (all_more (file_lines_looked_at geo look) (file_lines_touched r) _ (read_refusal geo r) none (files_more geo look r));
      replies = may_all geo new (record {
        volume = ap (λ xs. list_all (is_reply (4096 * geo.vpages)) (map page_read xs)) same ∙ may.volume;
        blocks = ap (λ xs. list_all (is_block_reply geo.blocks) (map block_read xs)) others ∙ may.blocks;
        files = one_more may_be_file_reply (files_asked old) (files_asked new) (file_read asked) asks may.files (ap may_be_file_reply is ∙ may_poison_file name start len none);
      });
      asks = more_look geo look r old new none looks.asks (ap (map page_read) same ∙ sym (append-nil (volume_asked old)))
          (ap (map block_read) others ∙ sym (append-nil (blocks_of old))) (asks ∙ ap (λ x. files_asked old ++ x ∷ []) is);
    }

-- nothing is looked at for no read
pub looks-none : (geo : Geometry) (q : Question) → q.volume.items ≡ [] → q.blocks.items ≡ [] → q.files.items ≡ [] → LooksAt geo [] q
looks-none geo q volume blocks files = record {
  lines = ap (λ xs. all_lines_read (map page_read xs)) volume;
  blocks = ap (λ xs. all_numbers_read (map block_read xs)) blocks;
  files = ap (λ xs. all_lines_read (pages_read (map file_read xs))) files;
  replies = may_all geo q (record {
    volume = ap (λ xs. list_all (is_reply (4096 * geo.vpages)) (map page_read xs)) volume;
    blocks = ap (λ xs. list_all (is_block_reply geo.blocks) (map block_read xs)) blocks;
    files = ap (λ xs. list_all may_be_file_reply (map file_read xs)) files;
  });
  asks = record { volume = sym (ap (map page_read) volume); blocks = sym (ap (map block_read) blocks); files = sym (ap (map file_read) files) };
}

-- lines of files that are held, read by read
pub held_read : (numbers : List ℕ) (reads : List FileRead) → list_all (is_held numbers) (all_lines_read (pages_read reads)) ≡ are_held numbers reads
held_read numbers [] = refl
held_read numbers (r ∷ reads) =
    let lines = lines_read r.pages.start r.pages.len r.pages.reply in
    list_all-append (is_held numbers) lines (all_lines_read (pages_read reads)) ∙ ap (λ b. list_all (is_held numbers) lines && b) (held_read numbers reads)

pub of_some : {A : Type 0} (o : Option A) → is_some o ≡ true → (x : A) × (o ≡ Some x)
of_some None some = cc some
of_some (Some x) some = (x, refl)

pub of_none : {A : Type 0} (o : Option A) → is_some o ≡ false → o ≡ None
of_none None none = refl
of_none (Some x) none = cc none
