-- Answers are told by their text.
use Rattle.std.proofs.Common.{All, ◌≡◌, ◌==◌, ℕ, suc, ◌+◌, ◌^◌, ◌<◌, Bool, true, false, not, List, [], ◌∷◌, ◌++◌, length, get_or, map, Ok, codes, decimal, sum_by, refl, sym, ap, ◌∙◌, append_assoc, length-append, arith, rules, tests}
use Rattle.std.specs.Char.{is_ascii_digit}
use Rattle.std.specs.List.{list_all, slice_split, join_with_byte}
use Rattle.std.specs.Result.{result_unwrap_or}
use Rattle.std.specs.Str.{bytes_eq}
use Rattle.std.proofs.lemmas.Bool.{and_parts}
use Rattle.std.proofs.lemmas.List.{append_cancel_left}
use Rattle.std.proofs.lemmas.List.Elements.{All-head, All-tail}
use Rattle.std.proofs.lemmas.List.Folds.{list_all-append}
use Rattle.std.proofs.lemmas.List.Sums.{sum_by-cons}
use Rattle.nvm_base.specs.Data.{data_text, data_within}
use Rattle.nvm_base.specs.Names.{is_name_byte}
use Rattle.nvm_base.specs.declared.units.Span.{Span}
use Rattle.nvm_base.specs.declared.files.FileEntry.{FileEntry}
use Rattle.nvm_base.proofs.DecimalLemmas.{decimal-digits}
use Rattle.nvm_base.proofs.PrintedLemmas.{data_within-text, data_text-some}
use Rattle.nvm_base.proofs.SplitLemmas.{has_none, list_all-weaker, split-alone, split-before}
use Rattle.nvm_model.specs.Storage.{Event}
use Rattle.reply_text.specs.Answer.{Answer, why_text, range_text, ranges_text, file_text, files_text, mapped_text, live_text, offsets_text, answer_text, answer_line, reply_text}
use Rattle.reply_text.specs.Answer.Answer.{Done, DoneBad, Bytes, Ranges, Files, Yes, No, Handle, Happened, NoEvent, BadLines, Attribute, Scarred, PoisonBlock, PoisonVolume, PoisonFile, VerifyFile, DeviceFailed, PowerLost, Stopped, Refused, RefusedMeta}
use Rattle.reply_text.specs.Room.{HasStart}
use Rattle.reply_text.specs.Told.{IsListed, IsEvent, IsWellFormed}
use Rattle.reply_text.specs.declared.reply.Why.{Why}
use Rattle.reply_text.specs.declared.reply.Why.TheVariants as why
use Rattle.reply_text.proofs.ReadLemmas.{number_in, number_in-decimal, bytes_in, ranges_in, file_in, files_in, why_in, answer_in}
use Rattle.reply_text.proofs.SpokenLemmas.{is_visible, are_visible, decimal-visible, data_text-visible, name-visible, split-joined, joined-unended, spaced, spaced-joined}
use Rattle.reply_text.proofs.RangeTextLemmas.{len}

-- the words of an answer's text, and that the answer is read in them
record Told (answer : Answer) : Type 0 where
  pub first : List ℕ
  pub more : List (List ℕ)
  pub text : answer_text answer ≡ join_with_byte 32 (first ∷ more)
  pub seen : are_visible (first ∷ more) ≡ true
  pub back : answer_in (first ∷ more) ≡ answer

-- bytes
bytes-back : (bytes : List ℕ) → length bytes < 2 ^ 32 → ((k : ℕ) → get_or bytes k 0 < 256) → bytes_in (data_text bytes) ≡ bytes
unfolding data_text
bytes-back [] few small = refl
bytes-back (byte ∷ bytes) few small =
    go (data_text (byte ∷ bytes)) (data_text-some (byte ∷ bytes) (omega arith) few small) (data_within-text (byte ∷ bytes) (omega arith) few small 4294967296 (omega arith))
  where
    go : (text : List ℕ) → 0 < length text → data_within 4294967296 text ≡ Ok (byte ∷ bytes) → bytes_in text ≡ byte ∷ bytes
    go [] some is = absurd (omega arith)
    go (c ∷ cs) some is = ap (λ r. result_unwrap_or r []) is

-- three words a range
range_words : ℕ → List Span → List (List ℕ)
range_words offset [] = []
range_words offset (range ∷ ranges) = decimal offset ∷ decimal range.start ∷ decimal range.len ∷ range_words (offset + range.len) ranges

ranges-text : (offset : ℕ) (ranges : List Span) → ranges_text offset ranges ≡ spaced (range_words offset ranges)
unfolding range_words
ranges-text offset [] = refl
ranges-text offset (range ∷ ranges) =
    ap (λ text. range_text offset range ++ text) (ranges-text (offset + range.len) ranges)
    ∙ append_assoc ((32 ∷ decimal offset) ++ (32 ∷ decimal range.start)) (32 ∷ decimal range.len) _
    ∙ append_assoc (32 ∷ decimal offset) (32 ∷ decimal range.start) _

ranges-seen : (offset : ℕ) (ranges : List Span) → All HasStart ranges → offset + sum_by len ranges < 2 ^ 64 → are_visible (range_words offset ranges) ≡ true
unfolding range_words
ranges-seen offset [] starts sum = refl
ranges-seen offset (range ∷ ranges) starts sum =
    let more = sum_by-cons len range ranges in
    let start = All-head HasStart range ranges starts in
    let rest = ranges-seen (offset + range.len) ranges (All-tail HasStart range ranges starts) (omega (arith, more)) in
    rw (decimal-visible offset (omega arith), decimal-visible range.start start, decimal-visible range.len (omega (arith, more)), rest) refl

ranges-back : (offset : ℕ) (ranges : List Span) → All HasStart ranges → offset + sum_by len ranges < 2 ^ 64 → ranges_in (range_words offset ranges) ≡ ranges
unfolding range_words
ranges-back offset [] starts sum = refl
ranges-back offset (range ∷ ranges) starts sum =
    let more = sum_by-cons len range ranges in
    let start = All-head HasStart range ranges starts in
    let rest = ranges-back (offset + range.len) ranges (All-tail HasStart range ranges starts) (omega (arith, more)) in
    rw (number_in-decimal range.start start, number_in-decimal range.len (omega (arith, more)), rest) refl

-- a file's word
abbrev file_word : FileEntry → List ℕ
file_word file = file.name ++ 58 ∷ decimal file.pages

files-text : (files : List FileEntry) → files_text files ≡ spaced (map file_word files)
files-text [] = refl
files-text (file ∷ files) = ap (λ text. file_text file ++ text) (files-text files)

files-seen : (files : List FileEntry) → All IsListed files → are_visible (map file_word files) ≡ true
files-seen [] listed = refl
files-seen (file ∷ files) listed =
    let right = All-head IsListed file files listed in
    let rest = files-seen files (All-tail IsListed file files listed) in
    let word : list_all is_visible (file_word file) ≡ true = list_all-append is_visible file.name (58 ∷ decimal file.pages) ∙ rw (name-visible file.name right.0, decimal-visible file.pages right.1) refl in
    rw (word, rest) refl

name_colon : (c : ℕ) → is_name_byte c ≡ true → not (c == 58) ≡ true
name_colon c e = search (rules, tests)

digit_colon : (c : ℕ) → is_ascii_digit c ≡ true → not (c == 58) ≡ true
digit_colon c e = search (rules, tests)

file-back : (file : FileEntry) → IsListed file → file_in (slice_split (λ c. c == 58) (file_word file)) ≡ file
file-back file right =
    let name = list_all-weaker is_name_byte (λ c. not (c == 58)) name_colon file.name (and_parts _ _ right.0).1 in
    let pages = list_all-weaker is_ascii_digit (λ c. not (c == 58)) digit_colon (decimal file.pages) (decimal-digits file.pages right.1) in
    let parts : slice_split (λ c. c == 58) (file_word file) ≡ file.name ∷ decimal file.pages ∷ [] =
    split-before (λ c. c == 58) file.name 58 (decimal file.pages) name refl ∙ ap (λ rest. file.name ∷ rest) (split-alone (λ c. c == 58) (decimal file.pages) pages) in
    ap file_in parts ∙ rw (number_in-decimal file.pages right.1) refl

files-back : (files : List FileEntry) → All IsListed files → files_in (map file_word files) ≡ files
files-back [] listed = refl
files-back (file ∷ files) listed =
    let first = file-back file (All-head IsListed file files listed) in
    let rest = files-back files (All-tail IsListed file files listed) in
    rw (first, rest) refl

-- offsets
offsets-text : (offsets : List ℕ) → offsets_text offsets ≡ spaced (map decimal offsets)
offsets-text [] = refl
offsets-text (offset ∷ offsets) = ap (λ text. (32 ∷ decimal offset) ++ text) (offsets-text offsets)

offsets-seen : (offsets : List ℕ) → ((k : ℕ) → get_or offsets k 0 < 2 ^ 64) → are_visible (map decimal offsets) ≡ true
offsets-seen [] small = refl
offsets-seen (offset ∷ offsets) small = rw (decimal-visible offset (small 0), offsets-seen offsets (λ k. small (suc k))) refl

offsets-back : (offsets : List ℕ) → ((k : ℕ) → get_or offsets k 0 < 2 ^ 64) → map number_in (map decimal offsets) ≡ offsets
offsets-back [] small = refl
offsets-back (offset ∷ offsets) small = rw (number_in-decimal offset (small 0), offsets-back offsets (λ k. small (suc k))) refl

-- a mark of an event without its blank
abbrev mapped_word : Bool → List ℕ
mapped_word true = codes "mapped"
mapped_word false = codes "unmapped"

abbrev live_word : Bool → List ℕ
live_word true = codes "live"
live_word false = codes "restart"

marks-text : (mapped live : Bool) → mapped_text mapped ++ live_text live ≡ 32 ∷ (mapped_word mapped ++ 32 ∷ live_word live)
marks-text true true = refl
marks-text true false = refl
marks-text false true = refl
marks-text false false = refl

marks-seen : (mapped live : Bool) → are_visible (mapped_word mapped ∷ live_word live ∷ []) ≡ true
marks-seen true true = refl
marks-seen true false = refl
marks-seen false true = refl
marks-seen false false = refl

mapped-back : (mapped : Bool) → bytes_eq (mapped_word mapped) (codes "mapped") ≡ mapped
mapped-back true = refl
mapped-back false = refl

live-back : (live : Bool) → bytes_eq (live_word live) (codes "live") ≡ live
live-back true = refl
live-back false = refl

event-told : (event : Event) → IsEvent event → Told (Happened event)
event-told event right = record {
  first = codes "event";
  more = event.file ∷ decimal event.offset ∷ decimal event.len ∷ mapped_word event.mapped ∷ live_word event.live ∷ [];
  text =
      ap (λ text. codes "event " ++ (event.file ++ (32 ∷ text))) (append_assoc (decimal event.offset) (32 ∷ decimal event.len) _)
      ∙ ap (λ text. codes "event " ++ (event.file ++ (32 ∷ (decimal event.offset ++ (32 ∷ (decimal event.len ++ text)))))) (marks-text event.mapped event.live);
  seen = rw (name-visible event.file right.file, decimal-visible event.offset right.offset, decimal-visible event.len right.len) (marks-seen event.mapped event.live);
  back = rw (number_in-decimal event.offset right.offset, number_in-decimal event.len right.len, mapped-back event.mapped, live-back event.live) refl;
}

-- refusals
record Names (reason : Why) : Type 0 where
  pub seen : list_all is_visible (why_text reason) ≡ true
  pub back : answer_in (codes "refused" ∷ why_text reason ∷ []) ≡ Refused reason

names : (reason : Why) → Names reason
unfolding why_in
names why.Syntax = record { seen = refl; back = refl }
names why.TooLong = record { seen = refl; back = refl }
names why.Off = record { seen = refl; back = refl }
names why.On = record { seen = refl; back = refl }
names why.Recover = record { seen = refl; back = refl }
names why.Missing = record { seen = refl; back = refl }
names why.Exists = record { seen = refl; back = refl }
names why.Handle = record { seen = refl; back = refl }
names why.Mapped = record { seen = refl; back = refl }
names why.Range = record { seen = refl; back = refl }
names why.Length = record { seen = refl; back = refl }
names why.Limit = record { seen = refl; back = refl }
names why.Overlap = record { seen = refl; back = refl }
names why.Address = record { seen = refl; back = refl }
names why.Slots = record { seen = refl; back = refl }
names why.Full = record { seen = refl; back = refl }
names why.Nothing = record { seen = refl; back = refl }
names why.NotPoisoned = record { seen = refl; back = refl }
names why.Unknown = record { seen = refl; back = refl }

told : (answer : Answer) → IsWellFormed answer → Told answer
told Done right = record { first = codes "ok"; more = []; text = refl; seen = refl; back = refl }
told (DoneBad n) right = record {
  first = codes "ok";
  more = codes "bad" ∷ decimal n ∷ [];
  text = refl;
  seen = rw (decimal-visible n right) refl;
  back = rw (number_in-decimal n right) refl;
}
told (Bytes bytes) right = record {
  first = codes "data";
  more = data_text bytes ∷ [];
  text = refl;
  seen = rw (data_text-visible bytes right.0 right.1) refl;
  back = ap Bytes (bytes-back bytes right.0 right.1);
}
told (Ranges ranges) right = record {
  first = codes "ranges";
  more = range_words 0 ranges;
  text = ap (λ text. codes "ranges" ++ text) (ranges-text 0 ranges) ∙ spaced-joined (codes "ranges") (range_words 0 ranges);
  seen = rw (ranges-seen 0 ranges right.0 (omega (arith, right.1))) refl;
  back = ap Ranges (ranges-back 0 ranges right.0 (omega (arith, right.1)));
}
told (Files files) right = record {
  first = codes "files";
  more = map file_word files;
  text = ap (λ text. codes "files" ++ text) (files-text files) ∙ spaced-joined (codes "files") (map file_word files);
  seen = rw (files-seen files right) refl;
  back = ap Files (files-back files right);
}
told Yes right = record { first = codes "yes"; more = []; text = refl; seen = refl; back = refl }
told No right = record { first = codes "no"; more = []; text = refl; seen = refl; back = refl }
told (Handle handle) right = record {
  first = codes "handle";
  more = decimal handle ∷ [];
  text = refl;
  seen = rw (decimal-visible handle right) refl;
  back = rw (number_in-decimal handle right) refl;
}
told (Happened event) right = event-told event right
told NoEvent right = record { first = codes "none"; more = []; text = refl; seen = refl; back = refl }
told (BadLines offsets) right = record {
  first = codes "bad";
  more = decimal (length offsets) ∷ map decimal offsets;
  text =
      ap (λ text. codes "bad " ++ (decimal (length offsets) ++ text)) (offsets-text offsets)
      ∙ ap (λ text. codes "bad " ++ text) (spaced-joined (decimal (length offsets)) (map decimal offsets));
  seen = rw (decimal-visible (length offsets) right.0, offsets-seen offsets right.1) refl;
  back = ap BadLines (offsets-back offsets right.1);
}
told (Attribute n) right = record {
  first = codes "attr";
  more = decimal n ∷ [];
  text = refl;
  seen = rw (decimal-visible n right) refl;
  back = rw (number_in-decimal n right) refl;
}
told (Scarred block) right = record {
  first = codes "scarred";
  more = decimal block ∷ [];
  text = refl;
  seen = rw (decimal-visible block right) refl;
  back = rw (number_in-decimal block right) refl;
}
told (PoisonBlock block line) right = record {
  first = codes "poison";
  more = codes "block" ∷ decimal block ∷ decimal line ∷ [];
  text = refl;
  seen = rw (decimal-visible block right.0, decimal-visible line right.1) refl;
  back = rw (number_in-decimal block right.0, number_in-decimal line right.1) refl;
}
told (PoisonVolume offset) right = record {
  first = codes "poison";
  more = codes "volume" ∷ decimal offset ∷ codes "64" ∷ [];
  text = refl;
  seen = rw (decimal-visible offset right) refl;
  back = rw (number_in-decimal offset right) refl;
}
told (PoisonFile name offset) right = record {
  first = codes "poison";
  more = codes "file" ∷ name ∷ decimal offset ∷ codes "64" ∷ [];
  text = refl;
  seen = rw (name-visible name right.0, decimal-visible offset right.1) refl;
  back = rw (number_in-decimal offset right.1) refl;
}
told (VerifyFile name offset) right = record {
  first = codes "verify";
  more = codes "file" ∷ name ∷ decimal offset ∷ codes "64" ∷ [];
  text = refl;
  seen = rw (name-visible name right.0, decimal-visible offset right.1) refl;
  back = rw (number_in-decimal offset right.1) refl;
}
told DeviceFailed right = record { first = codes "refused"; more = codes "device" ∷ []; text = refl; seen = refl; back = refl }
told PowerLost right = record { first = codes "power"; more = codes "lost" ∷ []; text = refl; seen = refl; back = refl }
told (Stopped line) right = record {
  first = codes "stopped";
  more = codes "meta" ∷ decimal line ∷ [];
  text = refl;
  seen = rw (decimal-visible line right) refl;
  back = rw (number_in-decimal line right) refl;
}
told (Refused reason) right = record {
  first = codes "refused";
  more = why_text reason ∷ [];
  text = refl;
  seen = let name = names reason in rw name.seen refl;
  back = let name = names reason in name.back;
}
told (RefusedMeta line) right = record {
  first = codes "refused";
  more = codes "meta" ∷ decimal line ∷ [];
  text = refl;
  seen = rw (decimal-visible line right) refl;
  back = rw (number_in-decimal line right) refl;
}

-- the same text, the same answer
pub answer-told : (a b : Answer) → IsWellFormed a → IsWellFormed b → answer_text a ≡ answer_text b → a ≡ b
answer-told a b good right is =
    let p = told a good in
    let q = told b right in
    let words : p.first ∷ p.more ≡ q.first ∷ q.more =
    sym (split-joined p.first p.more p.seen) ∙ ap (slice_split (λ c. c == 32)) (sym p.text ∙ is ∙ q.text) ∙ split-joined q.first q.more q.seen in
    sym p.back ∙ ap answer_in words ∙ q.back

unended : (a : Answer) → IsWellFormed a → has_none (λ c. c == 10) (answer_text a) ≡ true
unended a good = let p = told a good in ap (has_none (λ c. c == 10)) p.text ∙ joined-unended p.first p.more p.seen

line-is : (a : Answer) (rest : List ℕ) → answer_line a ++ rest ≡ answer_text a ++ 10 ∷ rest
unfolding answer_line
line-is a rest = append_assoc (answer_text a) (10 ∷ []) rest

line-some : (a : Answer) (rest : List ℕ) → 0 < length (answer_line a ++ rest)
line-some a rest = omega (arith, ap length (line-is a rest), length-append (answer_text a) (10 ∷ rest))

-- the same lines, the same answers
pub answers-told : (some others : List Answer) → All IsWellFormed some → All IsWellFormed others → reply_text some ≡ reply_text others → some ≡ others
answers-told [] [] good right is = refl
answers-told [] (b ∷ rest) good right is = absurd (omega (arith, line-some b (reply_text rest), ap length is))
answers-told (a ∷ more) [] good right is = absurd (omega (arith, line-some a (reply_text more), ap length is))
answers-told (a ∷ more) (b ∷ rest) good right is =
    let first = All-head IsWellFormed a more good in
    let second = All-head IsWellFormed b rest right in
    let lines : answer_text a ++ 10 ∷ reply_text more ≡ answer_text b ++ 10 ∷ reply_text rest = sym (line-is a (reply_text more)) ∙ is ∙ line-is b (reply_text rest) in
    let cut = sym (split-before (λ c. c == 10) (answer_text a) 10 (reply_text more) (unended a first) refl)
    ∙ ap (slice_split (λ c. c == 10)) lines ∙ split-before (λ c. c == 10) (answer_text b) 10 (reply_text rest) (unended b second) refl in
    let text : answer_text a ≡ answer_text b = cc cut in
    let same : a ≡ b = answer-told a b first second text in
    let behind : 10 ∷ reply_text more ≡ 10 ∷ reply_text rest =
    append_cancel_left (answer_text b) (10 ∷ reply_text more) (10 ∷ reply_text rest) (ap (λ l. l ++ 10 ∷ reply_text more) (sym text) ∙ lines) in
    let tails : more ≡ rest = answers-told more rest (All-tail IsWellFormed a more good) (All-tail IsWellFormed b rest right) (cc behind) in
    ap (λ x. x ∷ more) same ∙ ap (λ l. b ∷ l) tails
