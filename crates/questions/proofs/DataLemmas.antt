-- Printed bytes are a word.
use Rattle.std.proofs.Common.{◌≡◌, ℕ, ◌<◌, ◌≤◌, true, not, List, length, get_or, arith, rules, tests}
use Rattle.nvm_base.specs.Data.{data_text}
use Rattle.nvm_base.proofs.PrintedLemmas.{is_data_byte, data_text-bytes}
use Rattle.nvm_base.proofs.SplitLemmas.{list_all-weaker}
use Rattle.script_text.specs.Script.{is_blank}
use Rattle.questions.proofs.TextLemmas.{is_word}

byte-solid : (c : ℕ) → is_data_byte c ≡ true → not (is_blank c) ≡ true
byte-solid c e = search (rules, tests)

pub data_text-word : (bytes : List ℕ) → length bytes ≤ 65536 → ((k : ℕ) → get_or bytes k 0 < 256) → is_word (data_text bytes) ≡ true
data_text-word bytes most small = list_all-weaker is_data_byte (λ c. not (is_blank c)) byte-solid (data_text bytes) (data_text-bytes bytes (omega arith) small)
