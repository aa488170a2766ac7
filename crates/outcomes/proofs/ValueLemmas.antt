-- Whatever is done to pages, each word keeps a value.
use Rattle.std.proofs.Common.{◌≡◌, ℕ, ◌+◌, ◌≤◌, Bool, true, false, cond, Some, List, [], ◌∷◌, ◌++◌, length, replicate, slice_get, arith}
use Rattle.std.proofs.lemmas.List.{length-append}
use Rattle.line_device.specs.History.{latest, newest}
use Rattle.line_device.specs.Medium.{word_stored}
use Rattle.line_device.specs.Word.{reaches, word_over}
use Rattle.word_tables.specs.declared.geometry.Geometry.{Geometry}
use Rattle.nvm_model.specs.Cell.{Cell, flush_cell, put_cell}
use Rattle.nvm_model.specs.Numbered.{map_from}
use Rattle.nvm_model.specs.Page.{Page, fill, map_lines}
use Rattle.script_text.specs.Action.{Action}
use Rattle.script_text.specs.Action.Action.{FAtomic, FMulti, FWrite, Store, VStore}
use Rattle.machine_model.specs.Commands.{meaning}
use Rattle.durable.proofs.StepKinds.{volume_after}
use Rattle.outcomes.specs.Outcome.{HasValues, HaveValues}
use Rattle.outcomes.proofs.HistoryLemmas as History

-- a word has a value, whatever bytes are brought
abbrev pub HasValue : List ℕ → Type 0
HasValue history = 1 ≤ length history

abbrev pub AnyBytes : List ℕ → Type 0
AnyBytes bytes = Unit {0}

latest_has : (history : List ℕ) → HasValue history → HasValue (latest history)
latest_has [] some = some
latest_has (x ∷ []) some = omega arith
latest_has (x ∷ y ∷ ys) some = latest_has (y ∷ ys) (omega arith)

stored_has : (at : ℕ) (bytes : List ℕ) (p : ℕ) (history : List ℕ) → HasValue history → HasValue (word_stored at bytes p history)
stored_has at bytes p history some = by_test (reaches at (length bytes) p)
  where
    by_test : (b : Bool) → HasValue (cond b (history ++ word_over at bytes p (newest history) ∷ []) history)
    by_test true = omega (arith, length-append history (word_over at bytes p (newest history) ∷ []), some)
    by_test false = some

pub values_kept : History.Keeps HasValue AnyBytes
values_kept = record {
  zeros = omega arith;
  last = latest_has;
  stored = λ at bytes p history any some. stored_has at bytes p history some;
  durable = λ ranges bytes pages n w any. omega arith;
}

pub any_brought : (action : Action) → History.Brings AnyBytes action
any_brought (VStore offset bytes) = tt
any_brought (FWrite name offset bytes) = tt
any_brought (FAtomic name offset bytes) = tt
any_brought (FMulti name ranges bytes) = tt
any_brought (Store handle offset bytes) = tt
any_brought action = tt

pub zeros_have : (w count : ℕ) (history : List ℕ) → slice_get (replicate count (0 ∷ [])) w ≡ Some history → HasValue history
zeros_have = History.zeros_hold HasValue AnyBytes values_kept

pub stored_words : (at : ℕ) (bytes : List ℕ) (n : ℕ) (words : List (List ℕ)) → ((w : ℕ) (history : List ℕ) → slice_get words w ≡ Some history → HasValue history)
    → (w : ℕ) (history : List ℕ) → slice_get (map_from (word_stored at bytes) n words) w ≡ Some history → HasValue history
stored_words at bytes = History.stored_words HasValue AnyBytes values_kept at bytes tt

pub put_has : (at : ℕ) (bytes : List ℕ) (n : ℕ) (cell : Cell) → HasValues cell → HasValues (put_cell at bytes n cell)
put_has at bytes = History.put_holds HasValue AnyBytes values_kept at bytes tt

pub flushed_has : (touched : Bool) (cell : Cell) → HasValues cell → HasValues (cond touched (flush_cell cell) cell)
flushed_has = History.flushed_holds HasValue AnyBytes values_kept

pub fill_have : (at len : ℕ) (pages : List Page) → HaveValues pages → HaveValues (fill at len pages)
fill_have = History.fill_hold HasValue AnyBytes values_kept

-- lines changed one by one
pub all_map : (f : ℕ → Cell → Cell) (pages : List Page) → ((n : ℕ) (cell : Cell) → HasValues cell → HasValues (f n cell)) → HaveValues pages
    → HaveValues (map_from (map_lines f) 0 pages)
all_map = History.all_map HasValues

-- what a command makes of the volume, and what becomes of it
pub made_have : (geo : Geometry) (action : Action) (pages : List Page) → HaveValues pages → HaveValues ((meaning action).volume geo pages)
made_have geo action pages have = History.made_hold HasValue AnyBytes values_kept geo action pages (any_brought action) have

pub volume_have : (geo : Geometry) (action : Action) (pages : List Page) → HaveValues pages → HaveValues (volume_after geo action pages)
volume_have geo action pages have = History.volume_holds HasValue AnyBytes values_kept geo action pages (any_brought action) have
