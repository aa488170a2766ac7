-- What is printed may be asked about.
use Rattle.std.proofs.Common.{◌≡◌, ◌&&◌, ℕ, ◌<◌, nat_le, not, ◌^◌, true, List, [], ◌∷◌, ◌++◌, length, Some, codes, decimal, refl, ap, ◌∙◌, arith, rules, tests}
use Rattle.std.specs.List.{list_all}
use Rattle.std.proofs.lemmas.Bool.{and_parts, leb-true}
use Rattle.nvm_base.specs.Data.{data_text}
use Rattle.nvm_base.specs.Names.{is_name_byte, is_name}
use Rattle.reply_text.specs.Answer.{Answer, answer_text}
use Rattle.reply_text.specs.Answer.Answer.{Done, DoneBad, Bytes, Ranges, Files, Yes, No, Handle, Happened, NoEvent, BadLines, Attribute, Scarred, PoisonBlock, PoisonVolume, PoisonFile, VerifyFile, DeviceFailed, PowerLost, Stopped, Refused, RefusedMeta}
use Rattle.reply_text.specs.declared.reply.Why.{Why}
use Rattle.reply_text.specs.declared.reply.Why.TheVariants as why
use Rattle.script_text.specs.Script.{is_blank, words_of}
use Rattle.questions.specs.Asked.{bytes_asked, reply_asked}
use Rattle.questions.specs.Printed.{MayBeAsked}
use Rattle.nvm_base.proofs.DecimalLemmas.{number_of-decimal}
use Rattle.nvm_base.proofs.PrintedLemmas.{data_within-text, data_text-some}
use Rattle.nvm_base.proofs.SplitLemmas.{list_all-weaker}
use Rattle.questions.proofs.TextLemmas.{is_word, words_of-alone, words_of-before}
use Rattle.questions.proofs.DecimalLemmas.{decimal-word, decimal-some}
use Rattle.questions.proofs.DataLemmas.{data_text-word}

-- a word and a space before others
put : (word rest : List ℕ) (words : List (List ℕ)) → is_word word ≡ true → 0 < length word → words_of rest ≡ words → words_of (word ++ 32 ∷ rest) ≡ word ∷ words
put word rest words solid some e = words_of-before word rest solid some ∙ ap (λ more. word ∷ more) e

number : (n : ℕ) → n < 2 ^ 32 → words_of (decimal n) ≡ decimal n ∷ []
number n small = words_of-alone (decimal n) (decimal-word n small) (decimal-some n small)

-- the offset of a line, and its length
line : (offset : ℕ) → offset < 2 ^ 32 → words_of (decimal offset ++ codes " 64") ≡ decimal offset ∷ codes "64" ∷ []
line offset small = put (decimal offset) (codes "64") _ (decimal-word offset small) (decimal-some offset small) (words_of-alone (codes "64") refl (omega arith))

name_byte-solid : (c : ℕ) → is_name_byte c ≡ true → not (is_blank c) ≡ true
name_byte-solid c e = search (rules, tests)

name-word : (name : List ℕ) → is_name name ≡ true → is_word name ≡ true
name-word name good = list_all-weaker is_name_byte (λ c. not (is_blank c)) name_byte-solid name (and_parts _ _ good).1

name-some : (name : List ℕ) → is_name name ≡ true → 0 < length name
name-some name good =
    let bounds = and_parts (nat_le 1 (length name) && nat_le (length name) 32) (list_all is_name_byte name) good in
    let low = and_parts (nat_le 1 (length name)) (nat_le (length name) 32) bounds.0 in
    leb-true 1 (length name) low.0

refusal : (why : Why) → reply_asked (words_of (answer_text (Refused why))) ≡ Some (Refused why)
unfolding words_of
refusal why.Syntax = refl
refusal why.TooLong = refl
refusal why.Off = refl
refusal why.On = refl
refusal why.Recover = refl
refusal why.Missing = refl
refusal why.Exists = refl
refusal why.Handle = refl
refusal why.Mapped = refl
refusal why.Range = refl
refusal why.Length = refl
refusal why.Limit = refl
refusal why.Overlap = refl
refusal why.Address = refl
refusal why.Slots = refl
refusal why.Full = refl
refusal why.Nothing = refl
refusal why.NotPoisoned = refl
refusal why.Unknown = refl

pub asked_again : (answer : Answer) → MayBeAsked answer → reply_asked (words_of (answer_text answer)) ≡ Some answer
asked_again (Bytes bytes) h =
    let few : length bytes < 2 ^ 32 = let most = h.1 in omega arith in
    let words = put (codes "data") (data_text bytes) _ refl (omega arith) (words_of-alone (data_text bytes) (data_text-word bytes h.1 h.2) (data_text-some bytes h.0 few h.2)) in
    ap reply_asked words ∙ ap bytes_asked (data_within-text bytes h.0 few h.2 65536 h.1)
asked_again (PoisonBlock block line) h =
    let words = put (codes "poison") _ _ refl (omega arith) (put (codes "block") _ _ refl (omega arith) (put (decimal block) (decimal line) _ (decimal-word block h.0) (decimal-some block h.0) (number line h.1))) in
    ap reply_asked words ∙ rw (number_of-decimal block h.0, number_of-decimal line h.1) refl
asked_again (PoisonVolume offset) h =
    let words = put (codes "poison") _ _ refl (omega arith) (put (codes "volume") _ _ refl (omega arith) (line offset h)) in
    ap reply_asked words ∙ rw (number_of-decimal offset h) refl
asked_again (PoisonFile name offset) h =
    let words = put (codes "poison") _ _ refl (omega arith) (put (codes "file") _ _ refl (omega arith) (put name _ _ (name-word name h.0) (name-some name h.0) (line offset h.1))) in
    ap reply_asked words ∙ rw (h.0, number_of-decimal offset h.1) refl
asked_again (Scarred block) h =
    let words = put (codes "scarred") (decimal block) _ refl (omega arith) (number block h) in
    ap reply_asked words ∙ rw (number_of-decimal block h) refl
asked_again (Refused why) h = refusal why
asked_again Done h = absurd h
asked_again (DoneBad n) h = absurd h
asked_again (Ranges ranges) h = absurd h
asked_again (Files files) h = absurd h
asked_again Yes h = absurd h
asked_again No h = absurd h
asked_again (Handle handle) h = absurd h
asked_again (Happened event) h = absurd h
asked_again NoEvent h = absurd h
asked_again (BadLines offsets) h = absurd h
asked_again (Attribute n) h = absurd h
asked_again (VerifyFile name offset) h = absurd h
asked_again DeviceFailed h = absurd h
asked_again PowerLost h = absurd h
asked_again (Stopped line) h = absurd h
asked_again (RefusedMeta line) h = absurd h
