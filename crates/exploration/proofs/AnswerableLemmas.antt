-- The questions of a script that is taken ask of its look's reads alone, each with a reply that it may have.
use Rattle.std.proofs.Common.{◌≡◌, ◌==◌, ◌&&◌, not, inl, inr, ℕ, ◌+◌, ◌++◌, Bool, true, false, List, [], ◌∷◌, length, Option, Some, None, Result, Ok, Err, if◌then◌else◌, refl, ap, sym, ◌∙◌, subst}
use Rattle.std.specs.Prelude.{option_map}
use Rattle.std.proofs.lemmas.Bool.{and_parts}
use Rattle.script_text.specs.Action.{Action}
use Rattle.script_text.specs.Script.{lines_of}
use Rattle.reply_text.specs.Answer.{Answer}
use Rattle.outcomes.specs.Blocks.{BlockReply}
use Rattle.outcomes.specs.Pages.{PageReply}
use Rattle.outcomes.specs.Seen.{Seen}
use Rattle.outcomes.specs.Seen.Seen.{of_blocks, of_file, of_volume}
use Rattle.asked_reads.specs.declared.read.Read.{Read}
use Rattle.asked_reads.specs.declared.read.Read.TheVariants.{Volume, Blocks, File}
use Rattle.word_tables.specs.declared.geometry.Geometry.{Geometry}
use Rattle.exploration.specs.declared.asking.Wanted.{Wanted}
use Rattle.exploration.specs.declared.reason.Reason.{Reason}
use Rattle.exploration.specs.declared.reason.Reason.TheVariants.{Length, NothingAsked, Place, ReadAfterAQuestion, Refusal, Replies}
use Rattle.exploration.specs.Answerable.{AllSeenBy, AreSeenBy, IsReadBy, read_seen}
use Rattle.exploration.specs.Exploration.{Asked as AskedOf, Exploration, Look, asked_as, asked_from, asking_of, asks_nothing, asks_of_reads, is_asked, look_from, look_start, script_of, script_of_parts, script_with, with_line, with_question, with_seen, with_taken}
use Rattle.exploration.specs.Exploration.Script.{Taken}
use Rattle.exploration.specs.Fitting.{fits, fits_read, fits_seen, has_length, has_place, has_refusal, may_be}
use Rattle.exploration.specs.Lines.{LookLine, look_line}
use Rattle.exploration.specs.Lines.LookLine.{Asks, Lists, Passes, Reads, Tables}
use Rattle.exploration.specs.Program.{Parts, Untaken, go_on, parts_from}
use Rattle.exploration.specs.Reads.{read_of, seen_by}
use Rattle.exploration.specs.Replies.{block_reply, file_reply, volume_reply}

-- a read with its answer is seen by it
seen_is : (read : Read) (answer : Answer) (seen : Seen) → seen_by read answer ≡ Some seen → read_seen seen ≡ read
seen_is (Volume start len) answer seen is = by_reply (volume_reply answer) is
  where
    by_reply : (o : Option PageReply) → option_map (λ reply. of_volume (record { start = start; len = len; reply = reply })) o ≡ Some seen → read_seen seen ≡ Volume start len
    by_reply None is = absurd (cc)
    by_reply (Some reply) is = let same : of_volume (record { start = start; len = len; reply = reply }) ≡ seen = cc in sym (ap read_seen same)
seen_is (Blocks first count) answer seen is = by_reply (block_reply answer) is
  where
    by_reply : (o : Option BlockReply) → option_map (λ reply. of_blocks (record { first = first; count = count; reply = reply })) o ≡ Some seen → read_seen seen ≡ Blocks first count
    by_reply None is = absurd (cc)
    by_reply (Some reply) is = let same : of_blocks (record { first = first; count = count; reply = reply }) ≡ seen = cc in sym (ap read_seen same)
seen_is (File name start len) answer seen is = by_reply (file_reply name answer) is
  where
    by_reply : (o : Option PageReply) → option_map (λ reply. of_file (record { name = name; pages = record { start = start; len = len; reply = reply } })) o ≡ Some seen → read_seen seen ≡ File name start len
    by_reply None is = absurd (cc)
    by_reply (Some reply) is = let same : of_file (record { name = name; pages = record { start = start; len = len; reply = reply } }) ≡ seen = cc in sym (ap read_seen same)

-- where a reply fits its read
fits_tests : (geo : Geometry) (k : ℕ) (length place refusal : Bool) (o : Option Seen) (seen : Seen) → fits_seen geo k length place refusal o ≡ Ok seen → (o ≡ Some seen) × (may_be geo seen ≡ true)
fits_tests geo k length place refusal None seen is = absurd (cc)
fits_tests geo k length place refusal (Some s) seen is = by_tests length place (refusal && may_be geo s) refl is
  where
    by_tests : (l p m : Bool) → (refusal && may_be geo s) ≡ m → (if not l then Err (Length k) else (if not p then Err (Place k) else (if m then Ok s else Err (Refusal k)))) ≡ Ok seen
        → (Some s ≡ Some seen) × (may_be geo seen ≡ true)
    by_tests false p m at is = absurd (cc)
    by_tests true false m at is = absurd (cc)
    by_tests true true false at is = absurd (cc)
    by_tests true true true at is = let same : s ≡ seen = cc in (ap Some same, sym (ap (may_be geo) same) ∙ (and_parts refusal (may_be geo s) at).1)

fits_so : (geo : Geometry) (k : ℕ) (action : Action) (answer : Answer) (seen : Seen) → fits geo k action answer ≡ Ok seen → (read_of action ≡ Some (read_seen seen)) × (may_be geo seen ≡ true)
fits_so geo k action answer seen is = by_read (read_of action) is
  where
    by_read : (o : Option Read) → fits_read geo k answer o ≡ Ok seen → (o ≡ Some (read_seen seen)) × (may_be geo seen ≡ true)
    by_read None is = absurd (cc)
    by_read (Some read) is =
        let told = fits_tests geo k (has_length read answer) (has_place read answer) (has_refusal read answer) (seen_by read answer) seen is in
        (ap Some (sym (seen_is read answer seen told.0)), told.1)

-- what some of the reads are asked all are
of_more : (geo : Geometry) (read : Action) (reads : List Action) (look : List Seen) → AreSeenBy geo reads look → AreSeenBy geo (read ∷ reads) look
of_more geo read reads [] are = tt
of_more geo read reads (seen ∷ look) are = (inr are.0, are.1, of_more geo read reads look are.2)

all_of_more : (geo : Geometry) (reads : List Action) (read : Action) (look : List Seen) → AreSeenBy geo reads look → AreSeenBy geo (reads ++ read ∷ []) look
all_of_more geo reads read [] are = tt
all_of_more geo reads read (seen ∷ look) are = (among reads are.0, are.1, all_of_more geo reads read look are.2)
  where
    among : (reads : List Action) → IsReadBy seen reads → IsReadBy seen (reads ++ read ∷ [])
    among [] is = absurd is
    among (first ∷ reads) (inl here) = inl here
    among (first ∷ reads) (inr later) = inr (among reads later)

from_replies : (geo : Geometry) (k : ℕ) (reads : List Action) (replies : List (Option Answer)) (look : List Seen) → asked_from geo k reads replies ≡ Ok look → AreSeenBy geo reads look
from_replies geo k [] replies look is = let none : [] ≡ look = cc in subst (AreSeenBy geo []) none tt
from_replies geo k (read ∷ reads) [] look is = let none : [] ≡ look = cc in subst (AreSeenBy geo (read ∷ reads)) none tt
from_replies geo k (read ∷ reads) (None ∷ replies) look is = of_more geo read reads look (from_replies geo (k + 1) reads replies look is)
from_replies geo k (read ∷ reads) (Some answer ∷ replies) look is =
    by_first (fits geo k read answer) (asked_from geo (k + 1) reads replies) (fits_so geo k read answer) (λ more e. of_more geo read reads more (from_replies geo (k + 1) reads replies more e)) is
  where
    by_first : (first : Result Seen Reason) (rest : Result (List Seen) Reason) → ((seen : Seen) → first ≡ Ok seen → (read_of read ≡ Some (read_seen seen)) × (may_be geo seen ≡ true))
        → ((more : List Seen) → rest ≡ Ok more → AreSeenBy geo (read ∷ reads) more) → with_seen first rest ≡ Ok look → AreSeenBy geo (read ∷ reads) look
    by_first (Err why) rest one others is = absurd (cc)
    by_first (Ok seen) (Err why) one others is = absurd (cc)
    by_first (Ok seen) (Ok more) one others is =
        let same : seen ∷ more ≡ look = cc in
        let told = one seen refl in
        subst (AreSeenBy geo (read ∷ reads)) same (inl told.0, told.1, others more refl)

-- a question that is taken
question_seen : (geo : Geometry) (reads : List Action) (wanted : Wanted) (replies : List (Option Answer)) (asked : AskedOf) → asking_of geo reads wanted replies ≡ Ok asked → AreSeenBy geo reads asked.look
question_seen geo reads wanted replies asked is = by_length (length replies == length reads) (from_replies geo 1 reads replies) is
  where
    by_nothing : (look : List Seen) (b : Bool) → AreSeenBy geo reads look → (if b then Err NothingAsked else Ok (record { wanted = wanted; look = look })) ≡ Ok asked → AreSeenBy geo reads asked.look
    by_nothing look true are is = absurd (cc)
    by_nothing look false are is =
        let same : record { wanted = wanted; look = look } ≡ asked = cc in subst (λ (a : AskedOf). AreSeenBy geo reads a.look) same are

    by_look : (r : Result (List Seen) Reason) → ((look : List Seen) → r ≡ Ok look → AreSeenBy geo reads look) → asked_as wanted replies r ≡ Ok asked → AreSeenBy geo reads asked.look
    by_look (Err why) are is = absurd (cc)
    by_look (Ok look) are is = by_nothing look (asks_nothing wanted replies) (are look refl) is

    by_length : (b : Bool) → ((look : List Seen) → asked_from geo 1 reads replies ≡ Ok look → AreSeenBy geo reads look)
        → asked_as wanted replies (if b then asked_from geo 1 reads replies else Err (Replies (length replies) (length reads))) ≡ Ok asked → AreSeenBy geo reads asked.look
    by_length true are is = by_look (asked_from geo 1 reads replies) are is
    by_length false are is = absurd (cc)

-- and those of some lines of a look
abbrev IsSeen : Geometry → Look → Type 0
IsSeen geo look = AllSeenBy geo look.reads look.questions

one_more : (geo : Geometry) (reads : List Action) (questions : List AskedOf) (asked : AskedOf) → AllSeenBy geo reads questions → AreSeenBy geo reads asked.look → AllSeenBy geo reads (questions ++ asked ∷ [])
one_more geo reads [] asked all is = (is, tt)
one_more geo reads (first ∷ questions) asked all is = (all.0, one_more geo reads questions asked all.1 is)

read_more : (geo : Geometry) (reads : List Action) (read : Action) (questions : List AskedOf) → AllSeenBy geo reads questions → AllSeenBy geo (reads ++ read ∷ []) questions
read_more geo reads read [] all = tt
read_more geo reads read (asked ∷ questions) all = (all_of_more geo reads read asked.look all.0, read_more geo reads read questions all.1)

line_seen : (geo : Geometry) (look next : Look) (line : LookLine) → with_line geo look line ≡ Ok next → IsSeen geo look → IsSeen geo next
line_seen geo look next Passes is seen = let same : look ≡ next = cc in subst (IsSeen geo) same seen
line_seen geo look next (Reads action) is seen = go (is_asked look) is
  where
    go : (b : Bool) → (if b then Err ReadAfterAQuestion else Ok (record look { reads = look.reads ++ action ∷ [] })) ≡ Ok next → IsSeen geo next
    go true is = absurd (cc)
    go false is = let same : record look { reads = look.reads ++ action ∷ [] } ≡ next = cc in subst (IsSeen geo) same (read_more geo look.reads action look.questions seen)
line_seen geo look next Tables is seen = let same : record look { table = true } ≡ next = cc in subst (IsSeen geo) same seen
line_seen geo look next Lists is seen = let same : record look { list = true } ≡ next = cc in subst (IsSeen geo) same seen
line_seen geo look next (Asks wanted replies) is seen = go (asking_of geo look.reads wanted replies) (question_seen geo look.reads wanted replies) is
  where
    go : (r : Result AskedOf Reason) → ((asked : AskedOf) → r ≡ Ok asked → AreSeenBy geo look.reads asked.look) → with_question look r ≡ Ok next → IsSeen geo next
    go (Err why) one is = absurd (cc)
    go (Ok asked) one is =
        let same : record look { questions = look.questions ++ asked ∷ [] } ≡ next = cc in subst (IsSeen geo) same (one_more geo look.reads look.questions asked seen (one asked refl))

taken_seen : (geo : Geometry) (look next : Look) (kind : Result LookLine Reason) → with_taken geo look kind ≡ Ok next → IsSeen geo look → IsSeen geo next
taken_seen geo look next (Err why) is seen = absurd (cc)
taken_seen geo look next (Ok line) is seen = line_seen geo look next line is seen

abbrev unasked : ℕ → Result Look Untaken
unasked n = Err (record { number = n; why = NothingAsked })

look_seen : (geo : Geometry) (n : ℕ) (look end : Look) (lines : List (List ℕ)) → look_from geo n look lines ≡ Ok end → IsSeen geo look → IsSeen geo end
look_seen geo n look end [] is seen = go (asks_of_reads look) is
  where
    go : (b : Bool) → (if b then Ok look else unasked n) ≡ Ok end → IsSeen geo end
    go true is = let same : look ≡ end = cc in subst (IsSeen geo) same seen
    go false is = absurd (cc)
look_seen geo n look end (line ∷ lines) is seen = go (with_taken geo look (look_line line)) (λ next e. taken_seen geo look next (look_line line) e seen) is (λ next e so. look_seen geo (n + 1) next end lines e so)
  where
    go : (r : Result Look Reason) → ((next : Look) → r ≡ Ok next → IsSeen geo next) → go_on n (λ next. look_from geo (n + 1) next lines) r ≡ Ok end
        → ((next : Look) → look_from geo (n + 1) next lines ≡ Ok end → IsSeen geo next → IsSeen geo end) → IsSeen geo end
    go (Err why) one is rest = absurd (cc)
    go (Ok next) one is rest = rest next is (one next refl)

pub all_seen : (geo : Geometry) (text : List ℕ) (e : Exploration) → script_of geo text ≡ Taken e → AllSeenBy geo e.reads e.questions
all_seen geo text e is = by_parts (parts_from [] (lines_of text)) is
  where
    by_look : (parts : Parts) (r : Result Look Untaken) → look_from geo (length parts.lines + 2) look_start parts.look ≡ r → script_with parts.lines r ≡ Taken e → AllSeenBy geo e.reads e.questions
    by_look parts (Err stop) looked is = absurd (cc)
    by_look parts (Ok look) looked is =
        let seen = look_seen geo (length parts.lines + 2) look_start look parts.look looked tt in
        let reads : look.reads ≡ e.reads = cc in
        let questions : look.questions ≡ e.questions = cc in
        subst (λ rs. AllSeenBy geo rs e.questions) reads (subst (AllSeenBy geo look.reads) questions seen)

    by_parts : (r : Result Parts Untaken) → script_of_parts geo r ≡ Taken e → AllSeenBy geo e.reads e.questions
    by_parts (Err stop) is = absurd (cc)
    by_parts (Ok parts) is = by_look parts (look_from geo (length parts.lines + 2) look_start parts.look) refl is
