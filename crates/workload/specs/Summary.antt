-- What a summary counts.
use Rattle.std.specs.Prelude.{ℕ, ◌+◌, ◌%◌, ◌^◌, ◌||◌, Bool, true, false, List, drop, length, sum, take, Option, option_map, unwrap_or, if◌then◌else◌, codes}
use Rattle.std.specs.Str.{bytes_eq}
use Rattle.nvm_base.specs.Counts.{raised}
use Rattle.nvm_base.specs.Data.{ByteRun, data_of, spelled}
use Rattle.workload.specs.declared.summary.Summary.{Summary}

-- the bytes begin with that word
abbrev pub begins : List ℕ → List ℕ → Bool
begins bytes word = bytes_eq (take (length word) bytes) word

-- the sum of the bytes that a text of DATA spells, None where it is none
abbrev pub total_of : List ℕ → Option ℕ
total_of text = option_map sum (data_of text)

-- the sum of the bytes of runs, as 64 bits keep it
abbrev pub wrapped : Option (List ByteRun) → Option ℕ
wrapped runs = option_map (λ rs. sum (spelled rs) % 2 ^ 64) runs

-- the count, one more where that holds
abbrev pub raised_if : Bool → ℕ → ℕ
raised_if true count = raised count
raised_if false count = count

-- the command is done
abbrev pub is_ok : List ℕ → Bool
is_ok reply = bytes_eq reply (codes "ok") || begins reply (codes "ok ")

-- it answered with bytes
abbrev pub is_read : List ℕ → Bool
is_read reply = begins reply (codes "data ")

-- the sum of the bytes that a reply tells; 0 where it tells none
unfoldable pub told : List ℕ → ℕ
told reply = if is_read reply then unwrap_or (total_of (drop 5 reply)) 0 else 0

-- the summary after one more line and its reply: each count stands still at its last value, and the sum wraps
abbrev pub added : Summary → List ℕ → List ℕ → Summary
added s line reply = record {
  commands = raised s.commands;
  oks = raised_if (is_ok reply) s.oks;
  reads = raised_if (is_read reply) s.reads;
  cuts = raised_if (bytes_eq line (codes "cut")) s.cuts;
  sum = (s.sum + told reply) % 2 ^ 64;
}
