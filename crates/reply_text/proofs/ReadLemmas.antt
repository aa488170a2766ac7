-- Answers read back from their words.
use Rattle.std.proofs.Common.{◌≡◌, ◌==◌, ℕ, ◌^◌, ◌<◌, List, [], ◌∷◌, map, drop, get_or, unwrap_or, if◌then◌else◌, codes, decimal, ap}
use Rattle.std.specs.List.{find, slice_split}
use Rattle.std.specs.Result.{result_unwrap_or}
use Rattle.std.specs.Str.{bytes_eq}
use Rattle.nvm_base.specs.Data.{data_within}
use Rattle.nvm_base.specs.Numbers.{digits_after}
use Rattle.nvm_base.specs.declared.units.Span.{Span}
use Rattle.nvm_base.specs.declared.files.FileEntry.{FileEntry}
use Rattle.nvm_base.proofs.DecimalLemmas.{digits_after-decimal}
use Rattle.nvm_model.specs.Storage.{Event}
use Rattle.reply_text.specs.Answer.{Answer, why_text}
use Rattle.reply_text.specs.Answer.Answer.{Done, DoneBad, Bytes, Ranges, Files, Yes, No, Handle, Happened, NoEvent, BadLines, Attribute, Scarred, PoisonBlock, PoisonVolume, PoisonFile, VerifyFile, DeviceFailed, PowerLost, Stopped, Refused, RefusedMeta}
use Rattle.reply_text.specs.declared.reply.Why.{Why}
use Rattle.reply_text.specs.declared.reply.Why.TheVariants as why

-- the number that a word's digits make
abbrev pub number_in : List ℕ → ℕ
number_in word = unwrap_or (digits_after 0 word) 0

pub number_in-decimal : (n : ℕ) → n < 2 ^ 64 → number_in (decimal n) ≡ n
number_in-decimal n small = ap (λ o. unwrap_or o 0) (digits_after-decimal n small)

-- the bytes of a word of DATA, and none of none
abbrev pub bytes_in : List ℕ → List ℕ
bytes_in [] = []
bytes_in (c ∷ cs) = result_unwrap_or (data_within 4294967296 (c ∷ cs)) []

-- ranges, each by three words
abbrev pub ranges_in : List (List ℕ) → List Span
ranges_in [] = []
ranges_in (offset ∷ []) = []
ranges_in (offset ∷ start ∷ []) = []
ranges_in (offset ∷ start ∷ len ∷ words) = record { start = number_in start; len = number_in len } ∷ ranges_in words

-- a file, by the two parts of a word
abbrev pub file_in : List (List ℕ) → FileEntry
file_in parts = record { name = get_or parts 0 []; pages = number_in (get_or parts 1 []) }

abbrev pub files_in : List (List ℕ) → List FileEntry
files_in words = map (λ word. file_in (slice_split (λ c. c == 58) word)) words

abbrev pub event_in : List (List ℕ) → Event
event_in words = record {
  file = get_or words 1 [];
  offset = number_in (get_or words 2 []);
  len = number_in (get_or words 3 []);
  mapped = bytes_eq (get_or words 4 []) (codes "mapped");
  live = bytes_eq (get_or words 5 []) (codes "live");
}

abbrev pub whys : List Why
whys = why.Syntax ∷ why.TooLong ∷ why.Off ∷ why.On ∷ why.Recover ∷ why.Missing ∷ why.Exists ∷ why.Handle ∷ why.Mapped ∷ why.Range ∷ why.Length ∷ why.Limit ∷ why.Overlap ∷ why.Address ∷ why.Slots ∷ why.Full ∷ why.Nothing ∷ why.NotPoisoned ∷ why.Unknown ∷ []

-- the refusal that a word names
unfoldable pub why_in : List ℕ → Why
why_in word = unwrap_or (find (λ reason. bytes_eq word (why_text reason)) whys) why.Syntax

abbrev poison_in : List (List ℕ) → Answer
poison_in words =
    if bytes_eq (get_or words 1 []) (codes "block") then PoisonBlock (number_in (get_or words 2 [])) (number_in (get_or words 3 []))
    else (if bytes_eq (get_or words 1 []) (codes "volume") then PoisonVolume (number_in (get_or words 2 []))
    else PoisonFile (get_or words 2 []) (number_in (get_or words 3 [])))

abbrev refusal_in : List (List ℕ) → Answer
refusal_in words =
    if bytes_eq (get_or words 1 []) (codes "device") then DeviceFailed
    else (if bytes_eq (get_or words 1 []) (codes "meta") then RefusedMeta (number_in (get_or words 2 []))
    else Refused (why_in (get_or words 1 [])))

-- the answer that these words are
abbrev pub answer_in : List (List ℕ) → Answer
answer_in words =
    let first = get_or words 0 [] in
    let number = number_in (get_or words 1 []) in
    if bytes_eq first (codes "ok") then (if bytes_eq (get_or words 1 []) (codes "bad") then DoneBad (number_in (get_or words 2 [])) else Done)
    else (if bytes_eq first (codes "data") then Bytes (bytes_in (get_or words 1 []))
    else (if bytes_eq first (codes "ranges") then Ranges (ranges_in (drop 1 words))
    else (if bytes_eq first (codes "files") then Files (files_in (drop 1 words))
    else (if bytes_eq first (codes "yes") then Yes
    else (if bytes_eq first (codes "no") then No
    else (if bytes_eq first (codes "handle") then Handle number
    else (if bytes_eq first (codes "event") then Happened (event_in words)
    else (if bytes_eq first (codes "none") then NoEvent
    else (if bytes_eq first (codes "bad") then BadLines (map number_in (drop 2 words))
    else (if bytes_eq first (codes "attr") then Attribute number
    else (if bytes_eq first (codes "scarred") then Scarred number
    else (if bytes_eq first (codes "poison") then poison_in words
    else (if bytes_eq first (codes "verify") then VerifyFile (get_or words 2 []) (number_in (get_or words 3 []))
    else (if bytes_eq first (codes "power") then PowerLost
    else (if bytes_eq first (codes "stopped") then Stopped (number_in (get_or words 2 []))
    else refusal_in words)))))))))))))))
