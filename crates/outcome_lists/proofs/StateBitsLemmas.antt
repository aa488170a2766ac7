-- The states of a program have words of 64 bits, where the one that it begins in has.
use Rattle.std.proofs.Common.{◌≡◌, inl, inr, ℕ, zero, suc, ◌<◌, ◌^◌, ◌/◌, ◌%◌, ◌==◌, nat_lt, Bool, true, false, cond, Option, Some, None, List, [], ◌∷◌, ◌++◌, map, length, slice_get, refl, sym, subst}
use Rattle.std.specs.Prelude.{slice_index_or}
use Rattle.std.specs.List.{AllByRecursion, list_any}
use Rattle.line_device.specs.Word.{word_at}
use Rattle.nvm_model.specs.Cell.{Cell}
use Rattle.nvm_model.specs.Cell.Cell.{Bad, Kept}
use Rattle.nvm_model.specs.Listing.{file_name, file_of, is_named}
use Rattle.nvm_model.specs.Numbered.{list_from}
use Rattle.nvm_model.specs.Page.{Page, cell_of}
use Rattle.nvm_model.specs.Storage.{File}
use Rattle.reply_text.specs.Answer.{Answer}
use Rattle.script_text.specs.Action.{Action}
use Rattle.script_text.specs.Action.Action.{FAtomic, FMulti, FWrite, Store, VStore}
use Rattle.script_text.specs.Script.{Input}
use Rattle.script_text.specs.Script.Input.{Skipped, Malformed, Overlong, Asked}
use Rattle.explorer.specs.MachineModel.Machine.{Fate, Machine}
use Rattle.explorer.specs.MachineModel.Machine.Fate.{Gives, Works, Orders, Cuts, Restarts, Recovers}
use Rattle.explorer.specs.MachineModel.Commands.{fate, meaning, refusal, unless_refused}
use Rattle.explorer.specs.Durable.Durable.{BringBytes, BringsBytes}
use Rattle.explorer.proofs.Durable.StepKinds.{files_made, volume_after}
use Rattle.explorer.proofs.Durable.SuitLemmas.{Suits, suits}
use Rattle.explorer.specs.Outcomes.Stops.{led_to}
use Rattle.explorer.specs.AskedReads.declared.read.Read.{Read}
use Rattle.explorer.specs.AskedReads.declared.read.Read.TheVariants.{Volume, Blocks, File as OfFile}
use Rattle.explorer.specs.SightsSeen.Seeing.{or_zeros, seen}
use Rattle.explorer.specs.ValueTables.Left.{FileSide, file_side, side_of}
use Rattle.explorer.specs.ValueTables.Left.FileSide.{NoFile, PastEnd, OfLine}
use Rattle.explorer.specs.ValueTables.Values.{cells_of, history_of, values_with, with_all, with_one}
use Rattle.explorer.specs.Leading.{led_through}
use Rattle.explorer.specs.Starting.{AreDurable, HaveDurable}
use Rattle.outcome_lists.specs.Choices.{states, values_through}
use Rattle.explorer.proofs.Outcomes.FileHistoryLemmas.{FilesHold, files_after_hold, item_of}
use Rattle.explorer.proofs.Outcomes.HistoryLemmas.{AllHold, Brings, Holds, volume_holds, zero_holds}
use Rattle.outcome_lists.proofs.BitsLemmas.{Are64, AreSmall, bits_kept, word_of_bytes}
use Rattle.outcome_lists.proofs.PairLemmas.{all_joined}

-- a line, pages and files have them
abbrev HasBits : Cell → Type 0
HasBits cell = Holds Are64 cell

abbrev HaveBits : List Page → Type 0
HaveBits pages = AllHold Are64 pages

abbrev AllHaveBits : List File → Type 0
AllHaveBits files = FilesHold Are64 files

-- the bytes of a command are so
brought : (action : Action) → BringsBytes action → Brings AreSmall action
brought (VStore offset bytes) small = small
brought (FWrite name offset bytes) small = small
brought (FAtomic name offset bytes) small = small
brought (FMulti name ranges bytes) small = small
brought (Store handle offset bytes) small = small
brought action small = tt

-- a state has them
record StateHasBits (h : Machine) : Type 0 where
  volume : HaveBits h.volume
  files : AllHaveBits h.files

-- a command keeps them
module _ (h : Machine) (action : Action) (small : BringsBytes action) (has : StateHasBits h) where
  with_parts : (m : Machine) (pages : List Page) (files : List File) → HaveBits pages → AllHaveBits files → m.volume ≡ pages → m.files ≡ files → StateHasBits m
  with_parts m pages files page file volume_is files_is = record { volume = subst HaveBits (sym volume_is) page; files = subst AllHaveBits (sym files_is) file }

  made : (m : Machine) → m.volume ≡ volume_after h.geometry action h.volume → m.files ≡ files_made h.mappings action h.files → StateHasBits m
  made m volume_is files_is =
      with_parts m (volume_after h.geometry action h.volume) (files_made h.mappings action h.files)
      (volume_holds Are64 AreSmall bits_kept h.geometry action h.volume (brought action small) has.volume)
      (files_after_hold Are64 AreSmall bits_kept action h.mappings h.files (brought action small) has.files) volume_is files_is

  idle : (m : Machine) → m.volume ≡ h.volume → m.files ≡ h.files → StateHasBits m
  idle m volume_is files_is = with_parts m h.volume h.files has.volume has.files volume_is files_is

  by_fate : (to : Fate) → Suits h action to → StateHasBits (led_to h to)
  by_fate (Gives answer to) (inl is) = idle to is.1.volume is.1.files
  by_fate (Gives answer to) (inr is) = made to is.1.volume is.1.files
  by_fate (Works answer to) is = made to is.1.volume is.1.files
  by_fate (Orders order to) is = idle to is.1.volume is.1.files
  by_fate (Cuts to) is = idle to is.1.volume is.1.files
  by_fate (Restarts choice) is = has
  by_fate Recovers is = has

  next : StateHasBits (led_to h (fate h action))
  next = by_refusal (refusal h action)
    where
      by_refusal : (o : Option Answer) → StateHasBits (led_to h (unless_refused h o ((meaning action).comes h)))
      by_refusal None = by_fate ((meaning action).comes h) (suits h action)
      by_refusal (Some why) = has

states_have : (inputs : List Input) (h : Machine) → BringBytes inputs → StateHasBits h → AllByRecursion StateHasBits (states h inputs)
states_have [] h small has = (has, tt)
states_have (Skipped ∷ inputs) h small has = states_have inputs h small has
states_have (Malformed ∷ inputs) h small has = states_have inputs h small has
states_have (Overlong ∷ inputs) h small has = states_have inputs h small has
states_have (Asked action ∷ inputs) h small has = (has, states_have inputs (led_to h (fate h action)) small.1 (next h action small.0 has))

led_has : (inputs : List Input) (h : Machine) → BringBytes inputs → StateHasBits h → StateHasBits (led_through h inputs)
led_has [] h small has = has
led_has (Skipped ∷ inputs) h small has = led_has inputs h small has
led_has (Malformed ∷ inputs) h small has = led_has inputs h small has
led_has (Overlong ∷ inputs) h small has = led_has inputs h small has
led_has (Asked action ∷ inputs) h small has = led_has inputs (led_to h (fate h action)) small.1 (next h action small.0 has)

-- a word of a line that has them, as a list of its values
seen_bits : (pages : List Page) (n : ℕ) → HaveBits pages → HasBits (seen pages n)
seen_bits pages n have = by_line (cell_of pages n) refl
  where
    by_line : (o : Option Cell) → cell_of pages n ≡ o → HasBits (or_zeros o)
    by_line None is = zero_holds Are64 AreSmall bits_kept
    by_line (Some cell) is = have n cell is

history_bits : (w : ℕ) (cell : Cell) → HasBits cell → Are64 (history_of w cell)
history_bits w Bad has = tt
history_bits w (Kept weak words) has = in_words words w (has w)
  where
    in_words : (ws : List (List ℕ)) (k : ℕ) → ((history : List ℕ) → slice_get ws k ≡ Some history → Are64 history) → Are64 (slice_index_or ws k [])
    in_words [] k each = tt
    in_words (history ∷ ws) zero each = each history refl
    in_words (history ∷ ws) (suc k) each = in_words ws k each

one_bits : (found : List ℕ) (v : ℕ) → v < 2 ^ 64 → Are64 found → Are64 (with_one (λ a b. a == b) found v)
one_bits found v below all = by_test (list_any (λ b. v == b) found)
  where
    by_test : (b : Bool) → Are64 (cond b found (found ++ v ∷ []))
    by_test true = all
    by_test false = all_joined (λ u. u < 2 ^ 64) found (v ∷ []) all (below, tt)

all_bits : (found vs : List ℕ) → Are64 vs → Are64 found → Are64 (with_all (λ a b. a == b) found vs)
all_bits found [] of all = all
all_bits found (v ∷ vs) of all = all_bits (with_one (λ a b. a == b) found v) vs of.1 (one_bits found v of.0 all)

values_bits : (w : ℕ) (found : List ℕ) (cells : List Cell) → AllByRecursion HasBits cells → Are64 found → Are64 (values_with w found cells)
values_bits w found [] have all = all
values_bits w found (cell ∷ cells) have all =
    values_bits w (with_all (λ a b. a == b) found (history_of w cell)) cells have.1 (all_bits found (history_of w cell) (history_bits w cell have.0) all)

-- where a word of a file is sought
abbrev SideHasBits : FileSide → Type 0
SideHasBits NoFile = Unit {0}
SideHasBits PastEnd = Unit {0}
SideHasBits (OfLine cell) = HasBits cell

module _ (name : List ℕ) (p : ℕ) where
  side_bits : (files : List File) → AllHaveBits files → SideHasBits (file_side name p files)
  side_bits [] all = tt
  side_bits (x ∷ files) all = by_name (is_named file_name name x) (side_bits files all.1)
    where
      by_place : (b : Bool) → SideHasBits (cond b (OfLine (seen x.pages (p / 8))) PastEnd)
      by_place true = seen_bits x.pages (p / 8) all.0
      by_place false = tt

      by_name : (b : Bool) → SideHasBits (file_side name p files) → SideHasBits (side_of p (cond b (Some x) (file_of file_name name files)))
      by_name true rest = by_place (nat_lt (p / 512) (length x.pages))
      by_name false rest = rest

  sides_bits : (hs : List Machine) → AllByRecursion StateHasBits hs → AllByRecursion HasBits (cells_of (map (λ (h : Machine). file_side name p h.files) hs))
  sides_bits [] all = tt
  sides_bits (h ∷ hs) all = by_side (file_side name p h.files) (side_bits h.files all.0.files) (sides_bits hs all.1)
    where
      by_side : (side : FileSide) → SideHasBits side → AllByRecursion HasBits (cells_of (map (λ (m : Machine). file_side name p m.files) hs))
          → AllByRecursion HasBits (cells_of (side ∷ map (λ (m : Machine). file_side name p m.files) hs))
      by_side NoFile has rest = rest
      by_side PastEnd has rest = rest
      by_side (OfLine cell) has rest = (has, rest)

lines_bits : (n : ℕ) (hs : List Machine) → AllByRecursion StateHasBits hs → AllByRecursion HasBits (map (λ (h : Machine). seen h.volume n) hs)
lines_bits n [] all = tt
lines_bits n (h ∷ hs) all = (seen_bits h.volume n all.0.volume, lines_bits n hs all.1)

part_bits : (hs : List Machine) (part : Read) → AllByRecursion StateHasBits hs → Are64 (values_through part [] hs)
part_bits hs (Volume start len) all = values_bits (start / 8 % 8) [] (map (λ (h : Machine). seen h.volume (start / 64)) hs) (lines_bits (start / 64) hs all) tt
part_bits hs (Blocks first count) all = tt
part_bits hs (OfFile name start len) all =
    values_bits (start / 8 % 8) [] (cells_of (map (λ (h : Machine). file_side name (start / 8) h.files) hs)) (sides_bits name (start / 8) hs all) tt

parts_bits : (hs : List Machine) (parts : List Read) → AllByRecursion StateHasBits hs → AllByRecursion (λ part. Are64 (values_through part [] hs)) parts
parts_bits hs [] all = tt
parts_bits hs (part ∷ parts) all = (part_bits hs part all, parts_bits hs parts all)

-- where all is durable each word has one value, of eight bytes
words_of : (bytes : List ℕ) → AreSmall bytes → (w : ℕ) (history : List ℕ) → slice_get (list_from (λ k. word_at bytes k ∷ []) 0 8) w ≡ Some history → Are64 history
words_of bytes small w history is = let item = item_of (λ k. word_at bytes k ∷ []) 0 8 w history is in subst Are64 item.1 (word_of_bytes bytes item.0 small)

pages_begin : (pages : List Page) → AreDurable pages → HaveBits pages
pages_begin pages durable n cell is = by_cell cell is
  where
    by_cell : (c : Cell) → cell_of pages n ≡ Some c → HasBits c
    by_cell Bad is = tt
    by_cell (Kept weak words) is =
        let of = durable n weak words is in
        subst (λ (ws : List (List ℕ)). HasBits (Kept weak ws)) (sym of.are) (words_of of.bytes of.small)

files_begin : (files : List File) → HaveDurable files → AllHaveBits files
files_begin [] durable = tt
files_begin (file ∷ files) durable = (pages_begin file.pages durable.0, files_begin files durable.1)

pub of_64_bits : (h : Machine) (first program : List Input) (parts : List Read) → AreDurable h.volume → HaveDurable h.files → BringBytes first → BringBytes program
    → AllByRecursion (λ part. Are64 (values_through part [] (states (led_through h first) program))) parts
of_64_bits h first program parts volume files led small =
    let to = led_through h first in
    parts_bits (states to program) parts
    (states_have program to small (led_has first h led (record { volume = pages_begin h.volume volume; files = files_begin h.files files })))
