-- A question of which some reads were asked.
use Rattle.std.proofs.Common.{◌≡◌, ℕ, Bool, true, ◌+◌, ◌-◌, ◌==◌, ◌<◌, ◌≤◌, false, ◌++◌, List, [], ◌∷◌, map, drop, get_or, Option, Some, None, Result, Ok, Err, length, subst, append_assoc, append-nil, refl, ap, sym, ◌∙◌, arith}
use Rattle.std.specs.Prelude.{IsOkAnd, IsSomeAnd, is_some, option_map, if◌then◌else◌}
use Rattle.std.specs.List.{list_any}
use Rattle.script_text.specs.Action.{Action}
use Rattle.reply_text.specs.Answer.{Answer}
use Rattle.questions.specs.declared.reply.AskedReply.{AskedReply}
use Rattle.questions.specs.Asked.{answer_asked}
use Rattle.std.proofs.lemmas.List.{drop_all, drop_more, length-map, map-append}
use Rattle.outcomes.specs.Seen.{Seen, block_reads, file_reads, volume_reads}
use Rattle.outcomes.specs.Seen.Seen.{of_blocks, of_file, of_volume}
use Rattle.asked_reads.specs.declared.question.Question.{Question}
use Rattle.asked_reads.specs.declared.reads.PageReply.{PageReply as AskedOfPages}
use Rattle.asked_reads.specs.declared.reads.PageRead.{PageRead as AskedPages}
use Rattle.asked_reads.specs.declared.reads.BlockRead.{BlockRead as AskedBlocks}
use Rattle.asked_reads.specs.declared.reads.FileRead.{FileRead as AskedFile}
use Rattle.asked_reads.specs.Asking.{IsLook}
use Rattle.asked_reads.specs.Reads.{block_read, block_reply as asked_block_reply, file_read, page_read, page_reply}
use Rattle.asked_reads.specs.declared.read.Read.{Read}
use Rattle.asked_reads.specs.declared.read.Read.TheVariants.{Blocks, File, Volume}
use Rattle.word_tables.specs.declared.geometry.Geometry.{Geometry}
use Rattle.exploration.specs.declared.reason.Reason.{Reason}
use Rattle.exploration.specs.declared.reason.Reason.TheVariants.{Replies}
use Rattle.exploration.specs.declared.stop.LineStop.{LineStop}
use Rattle.exploration.specs.declared.stop.LineStop.TheVariants.{Memory, Untaken}
use Rattle.exploration.specs.Exploration.{asked_from, question_of, with_seen}
use Rattle.exploration.specs.Fitting.{fits}
use Rattle.exploration.specs.Steps.{AsksRead, FindsQuestion}
use Rattle.exploration.specs.Reads.{seen_by, seen_of}
use Rattle.asked_reads.specs.Looking.{read_action}
use Rattle.exploration.specs.Replies.{block_reply, volume_reply}
use Rattle.exploration.proofs.LookLemmas.{ok_and}
use Rattle.questions.proofs.AskLemmas.{answers}

-- the commands that reads are
abbrev pub commands : List Read → List Action
commands reads = map read_action reads

-- reads before others, where all may be answered so
abbrev pub before : List Seen → Result (List Seen) Reason → Result (List Seen) Reason
before look (Ok others) = Ok (look ++ others)
before look (Err why) = Err why

-- what is asked of the reads up to number i, and what is left to ask
pub record AskedUpTo (geo : Geometry) (reads : List Read) (replies : List (Option AskedReply)) (q : Question) (i : ℕ) (left : List (Option AskedReply)) : Type 0 where
  pub look : List Seen
  pub is : IsLook look q
  pub goes : asked_from geo 1 (commands reads) (answers replies) ≡ before look (asked_from geo (i + 1) (commands (drop i reads)) (answers left))
  pub counted : length left + i ≡ length replies

-- reads of one read more
volume_reads-append : (look more : List Seen) → volume_reads (look ++ more) ≡ volume_reads look ++ volume_reads more
volume_reads-append [] more = refl
volume_reads-append (of_volume r ∷ look) more = ap (λ reads. r ∷ reads) (volume_reads-append look more)
volume_reads-append (of_blocks r ∷ look) more = volume_reads-append look more
volume_reads-append (of_file r ∷ look) more = volume_reads-append look more

block_reads-append : (look more : List Seen) → block_reads (look ++ more) ≡ block_reads look ++ block_reads more
block_reads-append [] more = refl
block_reads-append (of_volume r ∷ look) more = block_reads-append look more
block_reads-append (of_blocks r ∷ look) more = ap (λ reads. r ∷ reads) (block_reads-append look more)
block_reads-append (of_file r ∷ look) more = block_reads-append look more

file_reads-append : (look more : List Seen) → file_reads (look ++ more) ≡ file_reads look ++ file_reads more
file_reads-append [] more = refl
file_reads-append (of_volume r ∷ look) more = file_reads-append look more
file_reads-append (of_blocks r ∷ look) more = file_reads-append look more
file_reads-append (of_file r ∷ look) more = ap (λ reads. r ∷ reads) (file_reads-append look more)

-- a read of the volume is asked with its reply
pub look-page : (look : List Seen) (old new : Question) (r : AskedPages) → IsLook look old → new.volume.items ≡ old.volume.items ++ r ∷ []
    → new.blocks.items ≡ old.blocks.items → new.files.items ≡ old.files.items → IsLook (look ++ of_volume (page_read r) ∷ []) new
look-page look old new r is pages blocks files = record {
  volume = volume_reads-append look (of_volume (page_read r) ∷ []) ∙ ap (λ reads. reads ++ page_read r ∷ []) is.volume
      ∙ sym (map-append page_read old.volume.items (r ∷ [])) ∙ ap (map page_read) (sym pages);
  blocks = block_reads-append look (of_volume (page_read r) ∷ []) ∙ append-nil (block_reads look) ∙ is.blocks ∙ ap (map block_read) (sym blocks);
  files = file_reads-append look (of_volume (page_read r) ∷ []) ∙ append-nil (file_reads look) ∙ is.files ∙ ap (map file_read) (sym files);
}

pub adds-page : (look : List Seen) (old new : Question) (read : Read) (start len : ℕ) (reply : AskedOfPages) (answer : Answer) → IsLook look old → read ≡ Volume start len
    → volume_reply answer ≡ Some (page_reply reply) → new.volume.items ≡ old.volume.items ++ record { start = start; len = len; reply = reply } ∷ []
    → new.blocks.items ≡ old.blocks.items → new.files.items ≡ old.files.items → IsSomeAnd (seen_of (read_action read) answer) (λ s. IsLook (look ++ s ∷ []) new)
adds-page look old new read start len reply answer is same told pages blocks files =
    rw (same, told) (look-page look old new (record { start = start; len = len; reply = reply }) is pages blocks files)

-- a read of blocks is
pub look-blocks : (look : List Seen) (old new : Question) (r : AskedBlocks) → IsLook look old → new.blocks.items ≡ old.blocks.items ++ r ∷ []
    → new.volume.items ≡ old.volume.items → new.files.items ≡ old.files.items → IsLook (look ++ of_blocks (block_read r) ∷ []) new
look-blocks look old new r is blocks pages files = record {
  volume = volume_reads-append look (of_blocks (block_read r) ∷ []) ∙ append-nil (volume_reads look) ∙ is.volume ∙ ap (map page_read) (sym pages);
  blocks = block_reads-append look (of_blocks (block_read r) ∷ []) ∙ ap (λ reads. reads ++ block_read r ∷ []) is.blocks
      ∙ sym (map-append block_read old.blocks.items (r ∷ [])) ∙ ap (map block_read) (sym blocks);
  files = file_reads-append look (of_blocks (block_read r) ∷ []) ∙ append-nil (file_reads look) ∙ is.files ∙ ap (map file_read) (sym files);
}

pub adds-blocks : (look : List Seen) (old new : Question) (read : Read) (first count : ℕ) (r : AskedBlocks) (answer : Answer) (ok : Bool) → IsLook look old → read ≡ Blocks first count
    → new.blocks.items ≡ (if ok then old.blocks.items ++ r ∷ [] else old.blocks.items) → ok ≡ true → new.volume.items ≡ old.volume.items
    → new.files.items ≡ old.files.items → r.first ≡ first → r.count ≡ count → block_reply answer ≡ Some (asked_block_reply r.reply) → IsSomeAnd (seen_of (read_action read) answer) (λ s. IsLook (look ++ s ∷ []) new)
adds-blocks look old new read first count r answer ok is same blocks done pages files at so told =
    rw (same, ← at, ← so, told) (look-blocks look old new r is (blocks ∙ ap (λ b. if b then old.blocks.items ++ r ∷ [] else old.blocks.items) done) pages files)

-- a read of a file is
pub look-file : (look : List Seen) (old new : Question) (r : AskedFile) → IsLook look old → new.files.items ≡ old.files.items ++ r ∷ []
    → new.volume.items ≡ old.volume.items → new.blocks.items ≡ old.blocks.items → IsLook (look ++ of_file (file_read r) ∷ []) new
look-file look old new r is files pages blocks = record {
  volume = volume_reads-append look (of_file (file_read r) ∷ []) ∙ append-nil (volume_reads look) ∙ is.volume ∙ ap (map page_read) (sym pages);
  blocks = block_reads-append look (of_file (file_read r) ∷ []) ∙ append-nil (block_reads look) ∙ is.blocks ∙ ap (map block_read) (sym blocks);
  files = file_reads-append look (of_file (file_read r) ∷ []) ∙ ap (λ reads. reads ++ file_read r ∷ []) is.files
      ∙ sym (map-append file_read old.files.items (r ∷ [])) ∙ ap (map file_read) (sym files);
}

pub adds-file : (look : List Seen) (old new : Question) (read : Read) (name : List ℕ) (start len : ℕ) (r : AskedFile) (answer : Answer) → IsLook look old → read ≡ File name start len
    → seen_by (File name start len) answer ≡ Some (of_file (file_read r)) → new.files.items ≡ old.files.items ++ r ∷ [] → new.volume.items ≡ old.volume.items
    → new.blocks.items ≡ old.blocks.items → IsSomeAnd (seen_of (read_action read) answer) (λ s. IsLook (look ++ s ∷ []) new)
adds-file look old new read name start len r answer is same told files pages blocks = rw (same, told) (look-file look old new r is files pages blocks)

-- a read more before others
before-more : (look : List Seen) (seen : Result Seen Reason) (s : Seen) (more : Result (List Seen) Reason) → seen ≡ Ok s → before look (with_seen seen more) ≡ before (look ++ s ∷ []) more
before-more look seen s (Err why) e = rw e refl
before-more look seen s (Ok more) e = rw e (ap Ok (sym (append_assoc look (s ∷ []) more)))

before-none : (more : Result (List Seen) Reason) → before [] more ≡ more
before-none (Err why) = refl
before-none (Ok more) = refl

-- before any read is asked
pub asked-start : (geo : Geometry) (reads : List Read) (replies : List (Option AskedReply)) (q : Question) → IsLook [] q → AskedUpTo geo reads replies q 0 replies
asked-start geo reads replies q is = record {
  look = [];
  is = is;
  goes = sym (before-none (asked_from geo 1 (commands reads) (answers replies)));
  counted = omega arith;
}

-- a read of which any reply is asked
pub asked-any : (geo : Geometry) (reads : List Read) (replies left others : List (Option AskedReply)) (q : Question) (i : ℕ) → AskedUpTo geo reads replies q i left
    → i < length reads → left ≡ None ∷ others → AskedUpTo geo reads replies q (i + 1) others
asked-any geo reads replies left others q i up within next = record {
  look = up.look;
  is = up.is;
  goes = up.goes ∙ ap (λ rs. before up.look (asked_from geo (i + 1) (commands rs) (answers left))) (drop_more reads i (Volume 0 0) within)
      ∙ ap (λ l. before up.look (asked_from geo (i + 1) (commands (get_or reads i (Volume 0 0) ∷ drop (i + 1) reads)) (answers l))) next;
  counted = omega (arith, up.counted, ap length next);
}

-- the number of the reply that is next
pub reply_number : (geo : Geometry) (reads : List Read) (replies left others : List (Option AskedReply)) (reply : Option AskedReply) (q : Question) (i : ℕ) → AskedUpTo geo reads replies q i left
    → left ≡ reply ∷ others → length replies - length others ≡ i + 1
reply_number geo reads replies left others reply q i up next = omega (arith, up.counted, ap length next)

-- one that is asked with its reply
pub asked-one : (geo : Geometry) (reads : List Read) (replies left others : List (Option AskedReply)) (old new : Question) (i k : ℕ) (read : Read) (reply : AskedReply) → AskedUpTo geo reads replies old i left
    → drop i reads ≡ read ∷ drop (i + 1) reads → left ≡ Some reply ∷ others → k ≡ length replies - length others
    → ((look : List Seen) → IsLook look old → IsOkAnd (fits geo k (read_action read) (answer_asked reply)) (λ s. IsLook (look ++ s ∷ []) new)) → AskedUpTo geo reads replies new (i + 1) others
asked-one geo reads replies left others old new i k read reply up here next number adds =
    let same : k ≡ i + 1 = number ∙ reply_number geo reads replies left others (Some reply) old i up next in
    let adds_one = subst (λ k. IsOkAnd (fits geo k (read_action read) (answer_asked reply)) (λ s. IsLook (up.look ++ s ∷ []) new)) same (adds up.look up.is) in
    let seen = ok_and (fits geo (i + 1) (read_action read) (answer_asked reply)) (λ s. IsLook (up.look ++ s ∷ []) new) adds_one in
    record {
      look = up.look ++ seen.0 ∷ [];
      is = seen.2;
      goes = up.goes ∙ ap (λ rs. before up.look (asked_from geo (i + 1) (commands rs) (answers left))) here
          ∙ ap (λ l. before up.look (asked_from geo (i + 1) (commands (read ∷ drop (i + 1) reads)) (answers l))) next
          ∙ before-more up.look (fits geo (i + 1) (read_action read) (answer_asked reply)) seen.0 (asked_from geo (i + 1 + 1) (commands (drop (i + 1) reads)) (answers others)) seen.1;
      counted = omega (arith, up.counted, ap length next);
    }

-- one that may not have its reply
pub asked-wrong : (geo : Geometry) (reads : List Read) (replies left others : List (Option AskedReply)) (old new : Question) (i k : ℕ) (read : Read) (reply : AskedReply) (stop : LineStop)
    → AskedUpTo geo reads replies old i left
    → drop i reads ≡ read ∷ drop (i + 1) reads → left ≡ Some reply ∷ others → k ≡ length replies - length others
    → ((look : List Seen) → IsLook look old → AsksRead look (fits geo k (read_action read) (answer_asked reply)) new (Err stop))
    → FindsQuestion (asked_from geo 1 (commands reads) (answers replies)) (Err stop)
asked-wrong geo reads replies left others old new i k read reply (Untaken why) up here next number asks =
    let same : k ≡ i + 1 = number ∙ reply_number geo reads replies left others (Some reply) old i up next in
    let none : fits geo (i + 1) (read_action read) (answer_asked reply) ≡ Err why = ap (λ k. fits geo k (read_action read) (answer_asked reply)) (sym same) ∙ asks up.look up.is in
    up.goes ∙ ap (λ rs. before up.look (asked_from geo (i + 1) (commands rs) (answers left))) here
    ∙ ap (λ l. before up.look (asked_from geo (i + 1) (commands (read ∷ drop (i + 1) reads)) (answers l))) next
    ∙ ap (λ s. before up.look (with_seen s (asked_from geo (i + 1 + 1) (commands (drop (i + 1) reads)) (answers others)))) none
asked-wrong geo reads replies left others old new i k read reply Memory up here next number asks = tt

-- behind all reads, or all replies
asked-over : (geo : Geometry) (reads : List Read) (replies left : List (Option AskedReply)) (q : Question) (i : ℕ) (up : AskedUpTo geo reads replies q i left)
    → asked_from geo (i + 1) (commands (drop i reads)) (answers left) ≡ Ok [] → IsOkAnd (asked_from geo 1 (commands reads) (answers replies)) (λ look. IsLook look q)
asked-over geo reads replies left q i up over =
    let all : asked_from geo 1 (commands reads) (answers replies) ≡ Ok up.look = up.goes ∙ ap (before up.look) over ∙ ap Ok (append-nil up.look) in
    rw all up.is

pub asked-end : (geo : Geometry) (reads : List Read) (replies left : List (Option AskedReply)) (q : Question) (i : ℕ) → AskedUpTo geo reads replies q i left → length reads ≤ i
    → IsOkAnd (asked_from geo 1 (commands reads) (answers replies)) (λ look. IsLook look q)
asked-end geo reads replies left q i up end =
    asked-over geo reads replies left q i up (ap (λ rs. asked_from geo (i + 1) (commands rs) (answers left)) (drop_all i reads end))

pub asked-short : (geo : Geometry) (reads : List Read) (replies left : List (Option AskedReply)) (q : Question) (i : ℕ) → AskedUpTo geo reads replies q i left → i < length reads → length left ≡ 0
    → IsOkAnd (asked_from geo 1 (commands reads) (answers replies)) (λ look. IsLook look q)
asked-short geo reads replies [] q i up within none =
    asked-over geo reads replies [] q i up (ap (λ rs. asked_from geo (i + 1) (commands rs) []) (drop_more reads i (Volume 0 0) within))
asked-short geo reads replies (reply ∷ left) q i up within none = absurd (omega arith)

-- all replies are asked where they are as many as the reads, and none where not
pub question-whole : (geo : Geometry) (reads : List Read) (replies : List (Option AskedReply)) → (length replies == length reads) ≡ true
    → question_of geo (commands reads) (answers replies) ≡ asked_from geo 1 (commands reads) (answers replies)
question-whole geo reads replies same =
    rw (length-map replies (option_map answer_asked), length-map reads read_action, same) refl

pub question-short : (geo : Geometry) (reads : List Read) (replies : List (Option AskedReply)) → (length replies == length reads) ≡ false
    → question_of geo (commands reads) (answers replies) ≡ Err (Replies (length replies) (length reads))
question-short geo reads replies other =
    rw (length-map replies (option_map answer_asked), length-map reads read_action, other) refl

-- whether there is a reply, by its answer
pub any-mapped : (replies : List (Option AskedReply)) → list_any is_some (answers replies) ≡ list_any is_some replies
any-mapped [] = refl
any-mapped (None ∷ replies) = any-mapped replies
any-mapped (Some reply ∷ replies) = refl
