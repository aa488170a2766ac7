-- What reading a script's text may give.
use Rattle.std.specs.Prelude.{◌≡◌, ◌⊎◌, ℕ, true, ◌<◌, ◌≤◌, ◌^◌, List, [], ◌∷◌, length, Option, Some, None, Result, Ok, Err, codes, All, option_map, sum_by}
use Rattle.nvm_base.specs.declared.units.Span.{Span}
use Rattle.nvm_base.specs.Stock.{Stock}
use Rattle.nvm_base.specs.Names.{is_name}
use Rattle.line_device.specs.declared.line.Choice.{Choice}
use Rattle.line_device.specs.declared.line.Choice.TheVariants.{Firsts, Lasts, Seed}
use Rattle.script_text.specs.declared.command.Command.{Command}
use Rattle.script_text.specs.declared.parsing.LineFault.{LineFault}
use Rattle.script_text.specs.declared.parsing.LineFault.TheVariants.{Syntax, TooLong, Memory}
use Rattle.script_text.specs.Action.{Action, action_of}
use Rattle.script_text.specs.Action.Action.{BRead, BWrite, BDiscard, BDiscardIf, BExists, BScar, BAtomic, BMulti, VLoad, VStore, VSync, VRanges, VPSync, VDiscard, VDiscardIf, VExists, Create, Delete, Rename, Resize, ListFiles, FRead, FWrite, FAtomic, FMulti, FDiscard, FSync, Map, Unmap, Load, Store, Sync, Flush, FlushVerify, DeepFlush, NextEvent, CheckFile, PoisonBlock, PoisonVolume, PoisonFile, PoisonMeta, WeakenFile, WeakenVolume, ClearFile, ClearVolume, Cut, CutIn, FailIn, Restart, Recover, Attr, Evict}
use Rattle.std.specs.Borrow.{Bor}
use Rattle.script_text.specs.Operands.{fitting, ranges_of, spans_of, with_range}
use Rattle.script_text.specs.Script.{Input, words_of}
use Rattle.script_text.specs.Script.Input.{Skipped, Malformed, Overlong, Asked}

-- what came of words that ask for this
abbrev pub ParsesAs : {T : Type 0} → (T → Action) → Option Action → Result T LineFault → Type 0
ParsesAs of asks (Ok x) = asks ≡ Some (of x)
ParsesAs of asks (Err Syntax) = asks ≡ None
ParsesAs of asks (Err TooLong) = ⊥
ParsesAs of asks (Err Memory) = Unit {0}

-- what came of words that are pairs of numbers
abbrev pub ReadsSpans : Option (List Span) → Result (Stock Span) LineFault → Type 0
ReadsSpans asks (Ok spans) = asks ≡ Some spans.items
ReadsSpans asks (Err Syntax) = asks ≡ None
ReadsSpans asks (Err TooLong) = ⊥
ReadsSpans asks (Err Memory) = Unit {0}

-- what came of words that are pairs of a number and DATA
abbrev pub ReadsRanges : Option (List Span × List ℕ) → Result (Stock Span × Stock ℕ) LineFault → Type 0
ReadsRanges asks (Ok p) = asks ≡ Some (p.0.items, p.1.items)
ReadsRanges asks (Err Syntax) = asks ≡ None
ReadsRanges asks (Err TooLong) = ⊥
ReadsRanges asks (Err Memory) = Unit {0}

-- what came of a line that stands for this
abbrev pub Parses : Input → Result (Option Command) LineFault → Type 0
Parses input (Ok None) = input ≡ Skipped
Parses input (Ok (Some command)) = input ≡ Asked (action_of command)
Parses input (Err Syntax) = input ≡ Malformed
Parses input (Err TooLong) = input ≡ Overlong
Parses input (Err Memory) = Unit {0}

-- the name of a command that brings a list or a word of any length
abbrev pub IsLong : List ℕ → Type 0
IsLong name = (name ≡ codes "bwrite") ⊎ (name ≡ codes "vstore") ⊎ (name ≡ codes "bscar") ⊎ (name ≡ codes "batomic") ⊎ (name ≡ codes "bmulti") ⊎ (name ≡ codes "fwrite")
    ⊎ (name ≡ codes "fatomic") ⊎ (name ≡ codes "fmulti") ⊎ (name ≡ codes "store") ⊎ (name ≡ codes "flush") ⊎ (name ≡ codes "flushv") ⊎ (name ≡ codes "deepflush") ⊎ (name ≡ codes "attr")

-- the words are of such a command
abbrev pub BringsMore : List (List ℕ) → Type 0
BringsMore [] = ⊥
BringsMore (name ∷ words) = IsLong name

-- both numbers of a span are below 2 ^ 32
abbrev pub IsSmall : Span → Type 0
IsSmall span = (span.start < 2 ^ 32) × (span.len < 2 ^ 32)

-- a range begins below 2 ^ 32 and has 1 to 65,536 bytes
abbrev pub IsSmallRange : Span → Type 0
IsSmallRange range = (range.start < 2 ^ 32) × (1 ≤ range.len) × (range.len ≤ 65536)

-- there is such a range or more, and these bytes are theirs, 65,536 together at most
abbrev pub AreSmallRanges : List Span → List ℕ → Type 0
AreSmallRanges ranges bytes = (0 < length ranges) × All IsSmallRange ranges
    × (length bytes ≡ sum_by (λ (r : Span). r.len) ranges) × (length bytes ≤ 65536)

-- a seed is below 2 ^ 32
abbrev pub IsSmallChoice : Choice → Type 0
IsSmallChoice Firsts = Unit {0}
IsSmallChoice Lasts = Unit {0}
IsSmallChoice (Seed n) = n < 2 ^ 32

-- numbers are below 2 ^ 32, names of files are such names, an attribute's name and DATA have 1 to 65,536 bytes, of pairs there is one,
-- and ranges have as many bytes as they are long
abbrev pub InBounds : Action → Type 0
InBounds (BRead block count) = (block < 2 ^ 32) × (count < 2 ^ 32)
InBounds (BWrite block bytes) = (block < 2 ^ 32) × (0 < length bytes) × (length bytes ≤ 65536)
InBounds (BDiscard block count) = (block < 2 ^ 32) × (count < 2 ^ 32)
InBounds (BDiscardIf block count) = (block < 2 ^ 32) × (count < 2 ^ 32)
InBounds (BExists block) = block < 2 ^ 32
InBounds (BScar ranges) = (0 < length ranges) × All IsSmall ranges
InBounds (BAtomic block bytes) = (block < 2 ^ 32) × (0 < length bytes) × (length bytes ≤ 65536)
InBounds (BMulti ranges bytes) = AreSmallRanges ranges bytes
InBounds (VLoad offset len) = (offset < 2 ^ 32) × (len < 2 ^ 32)
InBounds (VStore offset bytes) = (offset < 2 ^ 32) × (0 < length bytes) × (length bytes ≤ 65536)
InBounds (VSync offset len) = (offset < 2 ^ 32) × (len < 2 ^ 32)
InBounds VRanges = Unit {0}
InBounds (VPSync address len) = (address < 2 ^ 32) × (len < 2 ^ 32)
InBounds (VDiscard page count) = (page < 2 ^ 32) × (count < 2 ^ 32)
InBounds (VDiscardIf page count) = (page < 2 ^ 32) × (count < 2 ^ 32)
InBounds (VExists page) = page < 2 ^ 32
InBounds (Create name pages) = (is_name name ≡ true) × (pages < 2 ^ 32)
InBounds (Delete name) = is_name name ≡ true
InBounds (Rename name to) = (is_name name ≡ true) × (is_name to ≡ true)
InBounds (Resize name pages) = (is_name name ≡ true) × (pages < 2 ^ 32)
InBounds ListFiles = Unit {0}
InBounds (FRead name offset len) = (is_name name ≡ true) × (offset < 2 ^ 32) × (len < 2 ^ 32)
InBounds (FWrite name offset bytes) = (is_name name ≡ true) × (offset < 2 ^ 32) × (0 < length bytes) × (length bytes ≤ 65536)
InBounds (FAtomic name offset bytes) = (is_name name ≡ true) × (offset < 2 ^ 32) × (0 < length bytes) × (length bytes ≤ 65536)
InBounds (FMulti name ranges bytes) = (is_name name ≡ true) × AreSmallRanges ranges bytes
InBounds (FDiscard name page count) = (is_name name ≡ true) × (page < 2 ^ 32) × (count < 2 ^ 32)
InBounds (FSync name) = is_name name ≡ true
InBounds (Map name span kind) = (is_name name ≡ true) × IsSmall span
InBounds (Unmap handle) = handle < 2 ^ 32
InBounds (Load handle offset len) = (handle < 2 ^ 32) × (offset < 2 ^ 32) × (len < 2 ^ 32)
InBounds (Store handle offset bytes) = (handle < 2 ^ 32) × (offset < 2 ^ 32) × (0 < length bytes) × (length bytes ≤ 65536)
InBounds (Sync handle offset len) = (handle < 2 ^ 32) × (offset < 2 ^ 32) × (len < 2 ^ 32)
InBounds (Flush handle spans) = (handle < 2 ^ 32) × (0 < length spans) × All IsSmall spans
InBounds (FlushVerify handle spans) = (handle < 2 ^ 32) × (0 < length spans) × All IsSmall spans
InBounds (DeepFlush handle spans) = (handle < 2 ^ 32) × (0 < length spans) × All IsSmall spans
InBounds NextEvent = Unit {0}
InBounds (CheckFile name offset len) = (is_name name ≡ true) × (offset < 2 ^ 32) × (len < 2 ^ 32)
InBounds (PoisonBlock block line) = (block < 2 ^ 32) × (line < 2 ^ 32)
InBounds (PoisonVolume offset) = offset < 2 ^ 32
InBounds (PoisonFile name offset) = (is_name name ≡ true) × (offset < 2 ^ 32)
InBounds (PoisonMeta line) = line < 2 ^ 32
InBounds (WeakenFile name offset) = (is_name name ≡ true) × (offset < 2 ^ 32)
InBounds (WeakenVolume offset) = offset < 2 ^ 32
InBounds (ClearFile name offset) = (is_name name ≡ true) × (offset < 2 ^ 32)
InBounds (ClearVolume offset) = offset < 2 ^ 32
InBounds Cut = Unit {0}
InBounds (CutIn calls) = calls < 2 ^ 32
InBounds (FailIn calls) = calls < 2 ^ 32
InBounds (Restart choice) = IsSmallChoice choice
InBounds Recover = Unit {0}
InBounds (Attr name) = (0 < length name) × (length name ≤ 65536)
InBounds (Evict lines) = lines < 2 ^ 32

-- the word where it is the only one
abbrev pub one_of : List (List ℕ) → Option (List ℕ)
one_of (a ∷ []) = Some a
one_of _ = None

-- the words where they are just two
abbrev pub two_of : List (List ℕ) → Option (List ℕ × List ℕ)
two_of (a ∷ b ∷ []) = Some (a, b)
two_of _ = None

-- what comes first of a text of pairs: one of them and a text with fewer words, or nothing, or no pair
abbrev pub FindsSpan : List ℕ → Result (Option (Span × Bor (List ℕ))) LineFault → Type 0
FindsSpan text (Ok None) = words_of text ≡ []
FindsSpan text (Ok (Some p)) = (length (words_of p.1.now) < length (words_of text))
    × (spans_of (words_of text) ≡ option_map (λ spans. p.0 ∷ spans) (spans_of (words_of p.1.now)))
FindsSpan text (Err Syntax) = spans_of (words_of text) ≡ None
FindsSpan text (Err TooLong) = ⊥
FindsSpan text (Err Memory) = ⊥

-- What comes first of a text of pairs with DATA, where there is room for so many bytes: one of them and a text with fewer
-- words, or nothing, or no pairs that fit.
abbrev pub FindsRange : ℕ → List ℕ → Result (Option (ℕ × Stock ℕ × Bor (List ℕ))) LineFault → Type 0
FindsRange room text (Ok None) = words_of text ≡ []
FindsRange room text (Ok (Some p)) = (length (words_of p.2.now) < length (words_of text)) × (length p.1.items ≤ room)
    × (ranges_of (words_of text) ≡ with_range (Some p.0) (Some p.1.items) (ranges_of (words_of p.2.now)))
FindsRange room text (Err Syntax) = fitting room (ranges_of (words_of text)) ≡ None
FindsRange room text (Err TooLong) = ⊥
FindsRange room text (Err Memory) = Unit {0}
