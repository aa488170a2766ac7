-- What a script stores are bytes, and its new names are names.
use Rattle.std.proofs.Common.{◌≡◌, refl, ℕ, Bool, true, false, cond, Option, Some, None, option_map, option_and_then, Result, Ok, Err, List, [], ◌∷◌, ◌++◌, length, nat_lt, nat_le}
use Rattle.std.specs.Prelude.{codes}
use Rattle.std.specs.Io.BufRead.{strip_last}
use Rattle.std.specs.Str.{bytes_eq}
use Rattle.nvm_base.specs.declared.units.Span.{Span}
use Rattle.nvm_base.specs.declared.reading.TextFault.{TextFault}
use Rattle.line_device.specs.declared.line.Choice.TheVariants.{Firsts, Lasts, Seed}
use Rattle.nvm_base.specs.Data.{data_of, data_within}
use Rattle.nvm_base.specs.Numbers.{number_of}
use Rattle.nvm_base.specs.Names.{is_name, name_of}
use Rattle.nvm_base.specs.declared.files.Kind.{Kind}
use Rattle.script_text.specs.Action.{Action}
use Rattle.script_text.specs.Action.Action.{BRead, BWrite, BAtomic, BMulti, BDiscard, BDiscardIf, BExists, BScar, VLoad, VStore, VSync, VRanges, VPSync, VDiscard, VDiscardIf, VExists, Create, Delete, Rename, Resize, ListFiles, FRead, FWrite, FAtomic, FMulti, FDiscard, FSync, Map, Unmap, Load, Store, Sync, Flush, FlushVerify, DeepFlush, NextEvent, CheckFile, PoisonBlock, PoisonVolume, PoisonFile, PoisonMeta, WeakenFile, WeakenVolume, ClearFile, ClearVolume, CutIn, FailIn, Restart, Recover, Attr, Evict}
use Rattle.script_text.specs.Operands.{bare_action, data_action, fitting, placed_action, kind_action, kind_of, name_action, named_action, names_action, number_action, numbered_action, of_both, of_data, ranges_action, ranges_of, sized_action, span_action, spans_action, spans_of, with_range, word_action}
use Rattle.script_text.specs.Script.{Input, asked, command_action, cut_action, fail_action, files_action, inputs, inputs_of, is_comment, line_input, lines_of, media_action, plain_action, poison_action, power_action, restart_action, volume_action, words_input, words_of, map_action, mapped_action, flushing_action, storing_action, writing_action}
use Rattle.script_text.specs.Script.Input.{Skipped, Malformed, Overlong, Asked}
use Rattle.durable.specs.Durable.{BringBytes, BringsBytes}
use Rattle.durable.proofs.DataLemmas.{AllBytes, AreBytes, AreSomeBytes, bytes-append, bytes-at, data-bytes, some-bytes}

-- the data of a command that was read are bytes, and a new name is one
abbrev pub BringsRead : Action → Type 0
BringsRead (BWrite block bytes) = AllBytes bytes
BringsRead (BAtomic block bytes) = AllBytes bytes
BringsRead (BMulti ranges bytes) = AllBytes bytes
BringsRead (VStore offset bytes) = AllBytes bytes
BringsRead (Create name pages) = is_name name ≡ true
BringsRead (Rename name to) = is_name to ≡ true
BringsRead (FWrite name offset bytes) = AllBytes bytes
BringsRead (FAtomic name offset bytes) = AllBytes bytes
BringsRead (FMulti name ranges bytes) = AllBytes bytes
BringsRead (Store handle offset bytes) = AllBytes bytes
BringsRead other = Unit {0}

-- the same of all commands that are asked for
abbrev pub BringRead : List Input → Type 0
BringRead [] = Unit {0}
BringRead (Asked action ∷ inputs) = BringsRead action × BringRead inputs
BringRead (other ∷ inputs) = BringRead inputs

-- the action, if there is one, is as one that was read
abbrev Brings : Option Action → Type 0
Brings None = Unit {0}
Brings (Some action) = BringsRead action

brings-cond : (b : Bool) (x y : Option Action) → Brings x → Brings y → Brings (cond b x y)
brings-cond true x y first second = first
brings-cond false x y first second = second

brings-map : {A : Type 0} (make : A → Action) (o : Option A) → ((a : A) → BringsRead (make a)) → Brings (option_map make o)
brings-map make None each = tt
brings-map make (Some a) each = each a

brings-both : {A B : Type 0} (make : A → B → Action) (a : Option A) (b : Option B) → ((a : A) (b : B) → BringsRead (make a b)) → Brings (of_both make a b)
brings-both make None b each = tt
brings-both make (Some a) None each = tt
brings-both make (Some a) (Some b) each = each a b

brings-span : (make : ℕ → ℕ → Action) (words : List (List ℕ)) → ((a b : ℕ) → BringsRead (make a b)) → Brings (span_action make words)
brings-span make [] each = tt
brings-span make (x ∷ []) each = tt
brings-span make (x ∷ y ∷ []) each = brings-both make (number_of x) (number_of y) each
brings-span make (x ∷ y ∷ z ∷ more) each = tt

brings-number : (make : ℕ → Action) (words : List (List ℕ)) → ((a : ℕ) → BringsRead (make a)) → Brings (number_action make words)
brings-number make [] each = tt
brings-number make (x ∷ []) each = brings-map make (number_of x) each
brings-number make (x ∷ y ∷ more) each = tt

brings-word : (make : List ℕ → Action) (words : List (List ℕ)) → ((a : List ℕ) → BringsRead (make a)) → Brings (word_action make words)
brings-word make [] each = tt
brings-word make (x ∷ []) each = each x
brings-word make (x ∷ y ∷ more) each = tt

-- names that are there are right
brings-named_as : (make : List ℕ → Action) (x : List ℕ) → ((a : List ℕ) → is_name a ≡ true → BringsRead (make a)) → Brings (option_map make (name_of x))
brings-named_as make x each = by_test (is_name x) refl
  where
    by_test : (b : Bool) → is_name x ≡ b → Brings (option_map make (cond b (Some x) None))
    by_test true is = each x is
    by_test false is = tt

brings-name : (make : List ℕ → Action) (words : List (List ℕ)) → ((a : List ℕ) → is_name a ≡ true → BringsRead (make a)) → Brings (name_action make words)
brings-name make [] each = tt
brings-name make (x ∷ []) each = brings-named_as make x each
brings-name make (x ∷ y ∷ more) each = tt

brings-names : (make : List ℕ → List ℕ → Action) (words : List (List ℕ)) → ((a b : List ℕ) → is_name b ≡ true → BringsRead (make a b)) → Brings (names_action make words)
brings-names make [] each = tt
brings-names make (x ∷ []) each = tt
brings-names make (x ∷ y ∷ []) each = by_tests (name_of x) (is_name y) refl
  where
    by_tests : (o : Option (List ℕ)) (b : Bool) → is_name y ≡ b → Brings (of_both make o (cond b (Some y) None))
    by_tests None b is = tt
    by_tests (Some a) true is = each a y is
    by_tests (Some a) false is = tt
brings-names make (x ∷ y ∷ z ∷ more) each = tt

brings-sized : (make : List ℕ → ℕ → Action) (words : List (List ℕ)) → ((a : List ℕ) (b : ℕ) → is_name a ≡ true → BringsRead (make a b)) → Brings (sized_action make words)
brings-sized make [] each = tt
brings-sized make (x ∷ []) each = tt
brings-sized make (x ∷ y ∷ []) each = by_tests (is_name x) (number_of y) refl
  where
    by_tests : (b : Bool) (o : Option ℕ) → is_name x ≡ b → Brings (of_both make (cond b (Some x) None) o)
    by_tests true None is = tt
    by_tests true (Some n) is = each x n is
    by_tests false o is = tt
brings-sized make (x ∷ y ∷ z ∷ more) each = tt

abbrev BringsData : (ℕ → List ℕ → Action) → Type 0
BringsData make = (a : ℕ) (bytes : List ℕ) → AllBytes bytes → BringsRead (make a bytes)

brings-of_data : (make : ℕ → List ℕ → Action) (a : Option ℕ) (r : Result (List ℕ) TextFault) → BringsData make → AreBytes r → Brings (of_data make a r)
brings-of_data make None r each small = tt
brings-of_data make (Some a) (Err fault) each small = tt
brings-of_data make (Some a) (Ok bytes) each small = each a bytes small

brings-data : (make : ℕ → List ℕ → Action) (words : List (List ℕ)) → BringsData make → Brings (data_action make words)
brings-data make [] each = tt
brings-data make (x ∷ []) each = tt
brings-data make (x ∷ text ∷ []) each = brings-of_data make (number_of x) (data_within 65536 text) each (data-bytes 65536 text)
brings-data make (x ∷ text ∷ z ∷ more) each = tt

brings-named : (more : List ℕ → List (List ℕ) → Option Action) (words : List (List ℕ)) → ((name : List ℕ) (rest : List (List ℕ)) → Brings (more name rest))
    → Brings (named_action more words)
brings-named more [] each = tt
brings-named more (x ∷ words) each = by_name (name_of x)
  where
    by_name : (o : Option (List ℕ)) → Brings (option_and_then (λ name. more name words) o)
    by_name None = tt
    by_name (Some name) = each name words

brings-numbered : (more : ℕ → List (List ℕ) → Option Action) (words : List (List ℕ)) → ((n : ℕ) (rest : List (List ℕ)) → Brings (more n rest)) → Brings (numbered_action more words)
brings-numbered more [] each = tt
brings-numbered more (x ∷ words) each = by_number (number_of x)
  where
    by_number : (o : Option ℕ) → Brings (option_and_then (λ n. more n words) o)
    by_number None = tt
    by_number (Some n) = each n words

brings-kind : (make : Kind → Action) (words : List (List ℕ)) → ((kind : Kind) → BringsRead (make kind)) → Brings (kind_action make words)
brings-kind make [] each = tt
brings-kind make (x ∷ []) each = brings-map make (kind_of x) each
brings-kind make (x ∷ y ∷ words) each = tt

brings-shown : (name : List ℕ) (words : List (List ℕ)) → Brings (map_action name words)
brings-shown name words =
    brings-numbered (λ start. numbered_action (λ len. kind_action (Map name (record { start = start; len = len })))) words
    (λ start rest.
    brings-numbered (λ len. kind_action (Map name (record { start = start; len = len }))) rest
    (λ len last. brings-kind (Map name (record { start = start; len = len })) last (λ kind. tt)))

brings-spans : (make : List Span → Action) (words : List (List ℕ)) → ((spans : List Span) → BringsRead (make spans)) → Brings (spans_action make words)
brings-spans make [] each = tt
brings-spans make (x ∷ words) each = brings-map make (spans_of (x ∷ words)) each

abbrev BringsRanges : (List Span → List ℕ → Action) → Type 0
BringsRanges make = (ranges : List Span) (bytes : List ℕ) → AllBytes bytes → BringsRead (make ranges bytes)

-- ranges, and bytes
abbrev AreRangeBytes : Option (List Span × List ℕ) → Type 0
AreRangeBytes None = Unit {0}
AreRangeBytes (Some p) = AllBytes p.1

bytes-range : (a : Option ℕ) (text : Option (List ℕ)) (rest : Option (List Span × List ℕ)) → AreSomeBytes text → AreRangeBytes rest → AreRangeBytes (with_range a text rest)
bytes-range None text rest first more = tt
bytes-range (Some a) None rest first more = tt
bytes-range (Some a) (Some bytes) None first more = tt
bytes-range (Some a) (Some bytes) (Some p) first more = bytes-append bytes p.1 first more

bytes-ranges : (words : List (List ℕ)) → AreRangeBytes (ranges_of words)
bytes-ranges [] = tt
bytes-ranges (x ∷ []) = tt
bytes-ranges (x ∷ text ∷ words) = bytes-range (number_of x) (data_of text) (ranges_of words) (some-bytes text) (bytes-ranges words)

bytes-fitting : (room : ℕ) (o : Option (List Span × List ℕ)) → AreRangeBytes o → AreRangeBytes (fitting room o)
bytes-fitting room None small = tt
bytes-fitting room (Some p) small = by_room (nat_le (length p.1) room)
  where
    by_room : (b : Bool) → AreRangeBytes (cond b (Some p) None)
    by_room true = small
    by_room false = tt

brings-of_ranges : (make : List Span → List ℕ → Action) (o : Option (List Span × List ℕ)) → BringsRanges make → AreRangeBytes o → Brings (option_map (λ p. make p.0 p.1) o)
brings-of_ranges make None each small = tt
brings-of_ranges make (Some p) each small = each p.0 p.1 small

brings-ranges : (make : List Span → List ℕ → Action) (words : List (List ℕ)) → BringsRanges make → Brings (ranges_action make words)
brings-ranges make [] each = tt
brings-ranges make (x ∷ words) each =
    brings-of_ranges make (fitting 65536 (ranges_of (x ∷ words))) each (bytes-fitting 65536 (ranges_of (x ∷ words)) (bytes-ranges (x ∷ words)))

brings-cut : (words : List (List ℕ)) → Brings (cut_action words)
brings-cut [] = tt
brings-cut (x ∷ words) = brings-cond (bytes_eq x (codes "in")) (number_action CutIn words) None (brings-number CutIn words (λ a. tt)) tt

brings-fail : (words : List (List ℕ)) → Brings (fail_action words)
brings-fail [] = tt
brings-fail (x ∷ words) = brings-cond (bytes_eq x (codes "in")) (number_action FailIn words) None (brings-number FailIn words (λ a. tt)) tt

brings-bare : (action : Action) (words : List (List ℕ)) → BringsRead action → Brings (bare_action action words)
brings-bare action [] small = small
brings-bare action (x ∷ words) small = tt

brings-restart : (words : List (List ℕ)) → Brings (restart_action words)
brings-restart [] = tt
brings-restart (x ∷ words) =
    brings-cond (bytes_eq x (codes "none")) (bare_action (Restart Firsts) words) _ (brings-bare (Restart Firsts) words tt)
    (brings-cond (bytes_eq x (codes "all")) (bare_action (Restart Lasts) words) _ (brings-bare (Restart Lasts) words tt)
    (brings-cond (bytes_eq x (codes "seed")) (number_action (λ n. Restart (Seed n)) words) None (brings-number (λ n. Restart (Seed n)) words (λ n. tt)) tt))

brings-placed : (in_file : List ℕ → ℕ → Action) (in_volume : ℕ → Action) (words : List (List ℕ)) → ((a : List ℕ) (b : ℕ) → is_name a ≡ true → BringsRead (in_file a b))
    → ((a : ℕ) → BringsRead (in_volume a)) → Brings (placed_action in_file in_volume words)
brings-placed in_file in_volume [] file volume = tt
brings-placed in_file in_volume (x ∷ words) file volume =
    brings-cond (bytes_eq x (codes "file")) (sized_action in_file words) _ (brings-sized in_file words file)
    (brings-cond (bytes_eq x (codes "volume")) (number_action in_volume words) None (brings-number in_volume words volume) tt)

brings-poison : (words : List (List ℕ)) → Brings (poison_action words)
brings-poison [] = tt
brings-poison (x ∷ words) =
    brings-cond (bytes_eq x (codes "block")) (span_action PoisonBlock words) _ (brings-span PoisonBlock words (λ a b. tt))
    (brings-cond (bytes_eq x (codes "file")) (sized_action PoisonFile words) _ (brings-sized PoisonFile words (λ a b right. tt))
    (brings-cond (bytes_eq x (codes "volume")) (number_action PoisonVolume words) _ (brings-number PoisonVolume words (λ a. tt))
    (brings-cond (bytes_eq x (codes "meta")) (number_action PoisonMeta words) None (brings-number PoisonMeta words (λ a. tt)) tt)))

brings-power : (name : List ℕ) (words : List (List ℕ)) → Brings (power_action name words)
brings-power name words =
    brings-cond (bytes_eq name (codes "cut")) (cut_action words) _ (brings-cut words)
    (brings-cond (bytes_eq name (codes "fail")) (fail_action words) _ (brings-fail words)
    (brings-cond (bytes_eq name (codes "restart")) (restart_action words) _ (brings-restart words)
    (brings-cond (bytes_eq name (codes "recover")) (bare_action Recover words) _ (brings-bare Recover words tt)
    (brings-cond (bytes_eq name (codes "evict")) (number_action Evict words) None (brings-number Evict words (λ a. tt)) tt))))

brings-media : (name : List ℕ) (words : List (List ℕ)) → Brings (media_action name words)
brings-media name words =
    brings-cond (bytes_eq name (codes "poison")) (poison_action words) _ (brings-poison words)
    (brings-cond (bytes_eq name (codes "weaken")) (placed_action WeakenFile WeakenVolume words) _ (brings-placed WeakenFile WeakenVolume words (λ a b right. tt) (λ a. tt))
    (brings-cond (bytes_eq name (codes "clear")) (placed_action ClearFile ClearVolume words) _ (brings-placed ClearFile ClearVolume words (λ a b right. tt) (λ a. tt))
    (brings-cond (bytes_eq name (codes "check")) (named_action (λ file. span_action (CheckFile file)) words) _
    (brings-named (λ file. span_action (CheckFile file)) words (λ file rest. brings-span (CheckFile file) rest (λ a b. tt))) (brings-power name words))))

brings-mapped : (name : List ℕ) (words : List (List ℕ)) → Brings (mapped_action name words)
brings-mapped name words =
    brings-cond (bytes_eq name (codes "map")) (named_action map_action words) _ (brings-named map_action words brings-shown)
    (brings-cond (bytes_eq name (codes "unmap")) (number_action Unmap words) _ (brings-number Unmap words (λ a. tt))
    (brings-cond (bytes_eq name (codes "load")) (numbered_action (λ handle. span_action (Load handle)) words) _
    (brings-numbered (λ handle. span_action (Load handle)) words (λ handle rest. brings-span (Load handle) rest (λ a b. tt)))
    (brings-cond (bytes_eq name (codes "sync")) (numbered_action (λ handle. span_action (Sync handle)) words) _
    (brings-numbered (λ handle. span_action (Sync handle)) words (λ handle rest. brings-span (Sync handle) rest (λ a b. tt)))
    (brings-cond (bytes_eq name (codes "event")) (bare_action NextEvent words) _ (brings-bare NextEvent words tt) (brings-media name words)))))

brings-files : (name : List ℕ) (words : List (List ℕ)) → Brings (files_action name words)
brings-files name words =
    brings-cond (bytes_eq name (codes "create")) (sized_action Create words) _ (brings-sized Create words (λ a b right. right))
    (brings-cond (bytes_eq name (codes "delete")) (name_action Delete words) _ (brings-name Delete words (λ a right. tt))
    (brings-cond (bytes_eq name (codes "rename")) (names_action Rename words) _ (brings-names Rename words (λ a b right. right))
    (brings-cond (bytes_eq name (codes "resize")) (sized_action Resize words) _ (brings-sized Resize words (λ a b right. tt))
    (brings-cond (bytes_eq name (codes "list")) (bare_action ListFiles words) _ (brings-bare ListFiles words tt)
    (brings-cond (bytes_eq name (codes "fread")) (named_action (λ file. span_action (FRead file)) words) _
    (brings-named (λ file. span_action (FRead file)) words (λ file rest. brings-span (FRead file) rest (λ a b. tt)))
    (brings-cond (bytes_eq name (codes "fdiscard")) (named_action (λ file. span_action (FDiscard file)) words) _
    (brings-named (λ file. span_action (FDiscard file)) words (λ file rest. brings-span (FDiscard file) rest (λ a b. tt)))
    (brings-cond (bytes_eq name (codes "fsync")) (name_action FSync words) _ (brings-name FSync words (λ a right. tt)) (brings-mapped name words))))))))

brings-volume : (name : List ℕ) (words : List (List ℕ)) → Brings (volume_action name words)
brings-volume name words =
    brings-cond (bytes_eq name (codes "vload")) (span_action VLoad words) _ (brings-span VLoad words (λ a b. tt))
    (brings-cond (bytes_eq name (codes "vsync")) (span_action VSync words) _ (brings-span VSync words (λ a b. tt))
    (brings-cond (bytes_eq name (codes "vpsync")) (span_action VPSync words) _ (brings-span VPSync words (λ a b. tt))
    (brings-cond (bytes_eq name (codes "vdiscard")) (span_action VDiscard words) _ (brings-span VDiscard words (λ a b. tt))
    (brings-cond (bytes_eq name (codes "vdiscardif")) (span_action VDiscardIf words) _ (brings-span VDiscardIf words (λ a b. tt))
    (brings-cond (bytes_eq name (codes "vexists")) (number_action VExists words) _ (brings-number VExists words (λ a. tt))
    (brings-cond (bytes_eq name (codes "vranges")) (bare_action VRanges words) _ (brings-bare VRanges words tt) (brings-files name words)))))))

brings-plain : (name : List ℕ) (words : List (List ℕ)) → Brings (plain_action name words)
brings-plain name words =
    brings-cond (bytes_eq name (codes "bread")) (span_action BRead words) _ (brings-span BRead words (λ a b. tt))
    (brings-cond (bytes_eq name (codes "bdiscard")) (span_action BDiscard words) _ (brings-span BDiscard words (λ a b. tt))
    (brings-cond (bytes_eq name (codes "bdiscardif")) (span_action BDiscardIf words) _ (brings-span BDiscardIf words (λ a b. tt))
    (brings-cond (bytes_eq name (codes "bexists")) (number_action BExists words) _ (brings-number BExists words (λ a. tt)) (brings-volume name words))))

brings-flushing : (name : List ℕ) (words : List (List ℕ)) → Brings (flushing_action name words)
brings-flushing name words =
    brings-cond (bytes_eq name (codes "flush")) (numbered_action (λ handle. spans_action (Flush handle)) words) _
    (brings-numbered (λ handle. spans_action (Flush handle)) words (λ handle rest. brings-spans (Flush handle) rest (λ spans. tt)))
    (brings-cond (bytes_eq name (codes "flushv")) (numbered_action (λ handle. spans_action (FlushVerify handle)) words) _
    (brings-numbered (λ handle. spans_action (FlushVerify handle)) words (λ handle rest. brings-spans (FlushVerify handle) rest (λ spans. tt)))
    (brings-cond (bytes_eq name (codes "deepflush")) (numbered_action (λ handle. spans_action (DeepFlush handle)) words) _
    (brings-numbered (λ handle. spans_action (DeepFlush handle)) words (λ handle rest. brings-spans (DeepFlush handle) rest (λ spans. tt))) (brings-plain name words)))

brings-storing : (name : List ℕ) (words : List (List ℕ)) → Brings (storing_action name words)
brings-storing name words =
    brings-cond (bytes_eq name (codes "store")) (numbered_action (λ handle. data_action (Store handle)) words) _
    (brings-numbered (λ handle. data_action (Store handle)) words (λ handle rest. brings-data (Store handle) rest (λ a bytes small. small))) (brings-flushing name words)

brings-writing : (name : List ℕ) (words : List (List ℕ)) → Brings (writing_action name words)
brings-writing name words =
    brings-cond (bytes_eq name (codes "fwrite")) (named_action (λ file. data_action (FWrite file)) words) _
    (brings-named (λ file. data_action (FWrite file)) words (λ file rest. brings-data (FWrite file) rest (λ a bytes small. small)))
    (brings-cond (bytes_eq name (codes "fatomic")) (named_action (λ file. data_action (FAtomic file)) words) _
    (brings-named (λ file. data_action (FAtomic file)) words (λ file rest. brings-data (FAtomic file) rest (λ a bytes small. small)))
    (brings-cond (bytes_eq name (codes "fmulti")) (named_action (λ file. ranges_action (FMulti file)) words) _
    (brings-named (λ file. ranges_action (FMulti file)) words (λ file rest. brings-ranges (FMulti file) rest (λ ranges bytes small. small))) (brings-storing name words)))

brings-command : (name : List ℕ) (words : List (List ℕ)) → Brings (command_action name words)
unfolding command_action
brings-command name words =
    brings-cond (bytes_eq name (codes "bwrite")) (data_action BWrite words) _ (brings-data BWrite words (λ a bytes small. small))
    (brings-cond (bytes_eq name (codes "vstore")) (data_action VStore words) _ (brings-data VStore words (λ a bytes small. small))
    (brings-cond (bytes_eq name (codes "bscar")) (spans_action BScar words) _ (brings-spans BScar words (λ spans. tt))
    (brings-cond (bytes_eq name (codes "batomic")) (data_action BAtomic words) _ (brings-data BAtomic words (λ a bytes small. small))
    (brings-cond (bytes_eq name (codes "bmulti")) (ranges_action BMulti words) _ (brings-ranges BMulti words (λ ranges bytes small. small))
    (brings-cond (bytes_eq name (codes "attr")) (word_action Attr words) _ (brings-word Attr words (λ word. tt)) (brings-writing name words))))))

-- one input before others that do
bring-asked : (o : Option Action) (rest : List Input) → Brings o → BringRead rest → BringRead (asked o ∷ rest)
bring-asked None rest one more = more
bring-asked (Some action) rest one more = (one, more)

bring-words : (words : List (List ℕ)) (rest : List Input) → BringRead rest → BringRead (words_input words ∷ rest)
bring-words [] rest more = more
bring-words (name ∷ words) rest more = by_test (is_comment name)
  where
    by_test : (b : Bool) → BringRead (cond b Skipped (asked (command_action name words)) ∷ rest)
    by_test true = more
    by_test false = bring-asked (command_action name words) rest (brings-command name words) more

bring-line : (line : List ℕ) (rest : List Input) → BringRead rest → BringRead (line_input line ∷ rest)
unfolding line_input
bring-line line rest more = by_test (nat_lt 65536 (length line))
  where
    by_test : (b : Bool) → BringRead (cond b Overlong (words_input (words_of (strip_last 13 line))) ∷ rest)
    by_test true = more
    by_test false = bring-words (words_of (strip_last 13 line)) rest more

read-lines : (lines : List (List ℕ)) → BringRead (inputs_of lines)
read-lines [] = tt
read-lines (line ∷ lines) = bring-line line (inputs_of lines) (read-lines lines)

pub read-script : (script : List ℕ) → BringRead (inputs script)
read-script script = read-lines (lines_of script)

-- so what it stores are bytes
bytes-action : (action : Action) → BringsRead action → BringsBytes action
bytes-action (VStore offset bytes) small = bytes-at bytes small
bytes-action (FWrite name offset bytes) small = bytes-at bytes small
bytes-action (FAtomic name offset bytes) small = bytes-at bytes small
bytes-action (FMulti name ranges bytes) small = bytes-at bytes small
bytes-action (Store handle offset bytes) small = bytes-at bytes small
bytes-action other read = tt

bytes-inputs : (inputs : List Input) → BringRead inputs → BringBytes inputs
bytes-inputs [] read = tt
bytes-inputs (Asked action ∷ inputs) read = (bytes-action action read.0, bytes-inputs inputs read.1)
bytes-inputs (Skipped ∷ inputs) read = bytes-inputs inputs read
bytes-inputs (Malformed ∷ inputs) read = bytes-inputs inputs read
bytes-inputs (Overlong ∷ inputs) read = bytes-inputs inputs read

pub bring-lines : (lines : List (List ℕ)) → BringBytes (inputs_of lines)
bring-lines lines = bytes-inputs (inputs_of lines) (read-lines lines)

pub bring-script : (script : List ℕ) → BringBytes (inputs script)
bring-script script = bring-lines (lines_of script)

-- so do those that come after one of them
pub bring-rest : (before : List Input) (action : Action) (after : List Input) → BringBytes (before ++ Asked action ∷ after) → BringBytes after
bring-rest [] action after all = all.1
bring-rest (Skipped ∷ before) action after all = bring-rest before action after all
bring-rest (Malformed ∷ before) action after all = bring-rest before action after all
bring-rest (Overlong ∷ before) action after all = bring-rest before action after all
bring-rest (Asked first ∷ before) action after all = bring-rest before action after all.1
