-- A script's bytes as lines, and a line as a command.
use Rattle.std.specs.Prelude.{◌==◌, ◌||◌, ℕ, Bool, false, List, [], ◌∷◌, length, filter, nat_lt, Option, Some, None, if◌then◌else◌, codes}
use Rattle.std.specs.List.{slice_split, onto_first}
use Rattle.std.specs.Str.{bytes_eq}
use Rattle.std.specs.Io.BufRead.{strip_last}
use Rattle.line_device.specs.declared.line.Choice.TheVariants.{Firsts, Lasts, Seed}
use Rattle.script_text.specs.Action.{Action}
use Rattle.script_text.specs.Action.Action.{BRead, BWrite, BDiscard, BDiscardIf, BExists, BScar, BAtomic, BMulti, VLoad, VStore, VSync, VRanges, VPSync, VDiscard, VDiscardIf, VExists, Create, Delete, Rename, Resize, ListFiles, FRead, FWrite, FAtomic, FMulti, FDiscard, FSync, Map, Unmap, Load, Store, Sync, Flush, FlushVerify, DeepFlush, NextEvent, CheckFile, PoisonBlock, PoisonVolume, PoisonFile, PoisonMeta, WeakenFile, WeakenVolume, ClearFile, ClearVolume, Cut, CutIn, FailIn, Restart, Recover, Attr, Evict}
use Rattle.script_text.specs.Operands.{bare_action, word_action, number_action, span_action, name_action, names_action, sized_action, data_action, named_action, numbered_action, kind_action, spans_action, ranges_action, placed_action}

-- a line: nothing to do, no command, longer than a line may be, or what it asks for
pub data Input : Type 0 where
  Skipped : Input
  Malformed : Input
  Overlong : Input
  Asked : Action → Input

-- the lines of a script: each ends at a newline, the last one also at the script's end
unfoldable pub lines_of : List ℕ → List (List ℕ)
lines_of [] = []
lines_of (c ∷ cs) = if c == 10 then [] ∷ lines_of cs else onto_first c (lines_of cs)

-- blanks are the space and the tab
abbrev pub is_blank : ℕ → Bool
is_blank c = (c == 32) || (c == 9)

-- the words between blanks
unfoldable pub words_of : List ℕ → List (List ℕ)
words_of line = filter (λ word. nat_lt 0 (length word)) (slice_split is_blank line)

abbrev pub cut_action : List (List ℕ) → Option Action
cut_action [] = Some Cut
cut_action (word ∷ words) = if bytes_eq word (codes "in") then number_action CutIn words else None

abbrev pub fail_action : List (List ℕ) → Option Action
fail_action [] = None
fail_action (word ∷ words) = if bytes_eq word (codes "in") then number_action FailIn words else None

abbrev pub restart_action : List (List ℕ) → Option Action
restart_action [] = None
restart_action (word ∷ words) =
    if bytes_eq word (codes "none") then bare_action (Restart Firsts) words
    else (if bytes_eq word (codes "all") then bare_action (Restart Lasts) words
    else (if bytes_eq word (codes "seed") then number_action (λ n. Restart (Seed n)) words else None))

abbrev pub poison_action : List (List ℕ) → Option Action
poison_action [] = None
poison_action (word ∷ words) =
    if bytes_eq word (codes "block") then span_action PoisonBlock words
    else (if bytes_eq word (codes "file") then sized_action PoisonFile words
    else (if bytes_eq word (codes "volume") then number_action PoisonVolume words
    else (if bytes_eq word (codes "meta") then number_action PoisonMeta words else None)))

-- the words after a mapped file's name
abbrev pub map_action : List ℕ → List (List ℕ) → Option Action
map_action file words = numbered_action (λ start. numbered_action (λ len. kind_action (Map file (record { start = start; len = len })))) words

-- What a command's name and words ask for, None where they are no command: of those on the power, of these and those on
-- bad and weak lines, of these and those on mappings and events, on files, and on the volume that bring no list, of all that
-- bring no list, of these and the flushes of a mapping, of these and a store to a mapping, of these and writes to a file, of all.
abbrev pub power_action : List ℕ → List (List ℕ) → Option Action
power_action name words =
    if bytes_eq name (codes "cut") then cut_action words
    else (if bytes_eq name (codes "fail") then fail_action words
    else (if bytes_eq name (codes "restart") then restart_action words
    else (if bytes_eq name (codes "recover") then bare_action Recover words
    else (if bytes_eq name (codes "evict") then number_action Evict words else None))))

abbrev pub media_action : List ℕ → List (List ℕ) → Option Action
media_action name words =
    if bytes_eq name (codes "poison") then poison_action words
    else (if bytes_eq name (codes "weaken") then placed_action WeakenFile WeakenVolume words
    else (if bytes_eq name (codes "clear") then placed_action ClearFile ClearVolume words
    else (if bytes_eq name (codes "check") then named_action (λ file. span_action (CheckFile file)) words else power_action name words)))

abbrev pub mapped_action : List ℕ → List (List ℕ) → Option Action
mapped_action name words =
    if bytes_eq name (codes "map") then named_action map_action words
    else (if bytes_eq name (codes "unmap") then number_action Unmap words
    else (if bytes_eq name (codes "load") then numbered_action (λ handle. span_action (Load handle)) words
    else (if bytes_eq name (codes "sync") then numbered_action (λ handle. span_action (Sync handle)) words
    else (if bytes_eq name (codes "event") then bare_action NextEvent words else media_action name words))))

abbrev pub files_action : List ℕ → List (List ℕ) → Option Action
files_action name words =
    if bytes_eq name (codes "create") then sized_action Create words
    else (if bytes_eq name (codes "delete") then name_action Delete words
    else (if bytes_eq name (codes "rename") then names_action Rename words
    else (if bytes_eq name (codes "resize") then sized_action Resize words
    else (if bytes_eq name (codes "list") then bare_action ListFiles words
    else (if bytes_eq name (codes "fread") then named_action (λ file. span_action (FRead file)) words
    else (if bytes_eq name (codes "fdiscard") then named_action (λ file. span_action (FDiscard file)) words
    else (if bytes_eq name (codes "fsync") then name_action FSync words else mapped_action name words)))))))

abbrev pub volume_action : List ℕ → List (List ℕ) → Option Action
volume_action name words =
    if bytes_eq name (codes "vload") then span_action VLoad words
    else (if bytes_eq name (codes "vsync") then span_action VSync words
    else (if bytes_eq name (codes "vpsync") then span_action VPSync words
    else (if bytes_eq name (codes "vdiscard") then span_action VDiscard words
    else (if bytes_eq name (codes "vdiscardif") then span_action VDiscardIf words
    else (if bytes_eq name (codes "vexists") then number_action VExists words
    else (if bytes_eq name (codes "vranges") then bare_action VRanges words else files_action name words))))))

abbrev pub plain_action : List ℕ → List (List ℕ) → Option Action
plain_action name words =
    if bytes_eq name (codes "bread") then span_action BRead words
    else (if bytes_eq name (codes "bdiscard") then span_action BDiscard words
    else (if bytes_eq name (codes "bdiscardif") then span_action BDiscardIf words
    else (if bytes_eq name (codes "bexists") then number_action BExists words else volume_action name words)))

abbrev pub flushing_action : List ℕ → List (List ℕ) → Option Action
flushing_action name words =
    if bytes_eq name (codes "flush") then numbered_action (λ handle. spans_action (Flush handle)) words
    else (if bytes_eq name (codes "flushv") then numbered_action (λ handle. spans_action (FlushVerify handle)) words
    else (if bytes_eq name (codes "deepflush") then numbered_action (λ handle. spans_action (DeepFlush handle)) words else plain_action name words))

abbrev pub storing_action : List ℕ → List (List ℕ) → Option Action
storing_action name words = if bytes_eq name (codes "store") then numbered_action (λ handle. data_action (Store handle)) words else flushing_action name words

abbrev pub writing_action : List ℕ → List (List ℕ) → Option Action
writing_action name words =
    if bytes_eq name (codes "fwrite") then named_action (λ file. data_action (FWrite file)) words
    else (if bytes_eq name (codes "fatomic") then named_action (λ file. data_action (FAtomic file)) words
    else (if bytes_eq name (codes "fmulti") then named_action (λ file. ranges_action (FMulti file)) words else storing_action name words))

unfoldable pub command_action : List ℕ → List (List ℕ) → Option Action
command_action name words =
    if bytes_eq name (codes "bwrite") then data_action BWrite words
    else (if bytes_eq name (codes "vstore") then data_action VStore words
    else (if bytes_eq name (codes "bscar") then spans_action BScar words
    else (if bytes_eq name (codes "batomic") then data_action BAtomic words
    else (if bytes_eq name (codes "bmulti") then ranges_action BMulti words
    else (if bytes_eq name (codes "attr") then word_action Attr words else writing_action name words)))))

abbrev pub asked : Option Action → Input
asked None = Malformed
asked (Some action) = Asked action

-- the word begins with `#`
abbrev pub is_comment : List ℕ → Bool
is_comment [] = false
is_comment (c ∷ cs) = c == 35

abbrev pub words_input : List (List ℕ) → Input
words_input [] = Skipped
words_input (name ∷ words) = if is_comment name then Skipped else asked (command_action name words)

-- A line of over 65,536 bytes is too long, whatever it has. One carriage return at its end is dropped.
unfoldable pub line_input : List ℕ → Input
line_input line = if nat_lt 65536 (length line) then Overlong else words_input (words_of (strip_last 13 line))

-- what lines ask for, one by one
abbrev pub inputs_of : List (List ℕ) → List Input
inputs_of [] = []
inputs_of (line ∷ lines) = line_input line ∷ inputs_of lines

-- what a script asks for
abbrev pub inputs : List ℕ → List Input
inputs script = inputs_of (lines_of script)
