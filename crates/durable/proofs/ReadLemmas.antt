-- What a read shows.
use Rattle.std.proofs.Common.{◌≡◌, ◌⊎◌, inl, inr, ℕ, ◌+◌, ◌-◌, ◌*◌, ◌/◌, ◌%◌, ◌<◌, ◌≤◌, Bool, true, Option, Some, None, option_map, List, [], ◌∷◌, slice_index_or, refl, sym, ap, subst, ◌∙◌, arith}
use Rattle.std.specs.Prelude.{◌≢◌, IfSome, slice_index}
use Rattle.std.proofs.lemmas.Bool.{both_ways}
use Rattle.std.proofs.lemmas.Bool.Decides.{nat_tests}
use Rattle.std.proofs.lemmas.Option.{get_or_from_slice_get, same_Some}
use Rattle.line_words.specs.declared.interruption.Interruption.{Interruption}
use Rattle.line_words.specs.declared.interruption.Interruption.TheVariants.{Failed, PowerLost as Lost}
use Rattle.nvm_model.specs.Blocks.{Obstacle, block_byte, byte_of_blocks, line_byte, look_blocks, nth}
use Rattle.nvm_model.specs.Blocks.Obstacle.{scar, bad_line}
use Rattle.nvm_model.specs.Cell.{Cell, cell_byte}
use Rattle.nvm_model.specs.Cell.Cell.{Bad, Kept}
use Rattle.nvm_model.specs.Numbered.{is_among, list_from}
use Rattle.nvm_model.specs.Page.{Page, byte_in, cell_of, look}
use Rattle.nvm_model.specs.Storage.{Block}
use Rattle.nvm_model.specs.Storage.Block.{Absent, Scarred, Data}
use Rattle.nvm_model.proofs.NumberedLemmas.{slice_get-list_from}
use Rattle.block_device.specs.Refusals.Refusal.{Unreadable}
use Rattle.reply_text.specs.Answer.{Answer}
use Rattle.reply_text.specs.Answer.Answer.{Bytes}
use Rattle.script_text.specs.Action.{Action}
use Rattle.script_text.specs.Action.Action.{BRead, FRead, Load, VLoad}
use Rattle.machine_model.specs.Machine.{Machine}
use Rattle.machine_model.specs.Machine.Fate.{Works}
use Rattle.machine_model.specs.Commands.{early_refusal, fate, meaning, refusal, unless_refused}
use Rattle.machine_model.specs.Interrupted.{interrupted_answer}
use Rattle.machine_model.specs.OnBlocks.{refusal_answer}
use Rattle.machine_model.specs.OnPages.{pages_named}
use Rattle.machine_model.specs.Run.{Takes, Transcript}
use Rattle.durable.specs.Place.{Place, block_has, byte_at_place, line_has}
use Rattle.durable.specs.Place.Place.{of_volume, of_blocks, of_file}
use Rattle.durable.specs.Naming.{Names, NamesLine, NamesLineOf, NamesObstacle, refused_before}
use Rattle.durable.specs.Durable.{Has, HasNothing, IsComplete, Reads, ReadsMapped, ReadsNamed}
use Rattle.machine_model.specs.declared.mode.Mode.TheVariants.{On}
use Rattle.machine_model.specs.declared.needs.Needs.TheVariants.{Usable}
use Rattle.durable.proofs.LineLemmas.{HasOrLost}
use Rattle.durable.proofs.RefusalLemmas.{is_on, refused_told, refuses_before}
use Rattle.durable.proofs.RefusedAnswerLemmas.{Refuses, is_refused, refuses_early}
use Rattle.durable.proofs.NamingLemmas.{load_comes, names_line, names_line_mapped, names_line_of_file, names_obstacle}

-- what a read shows
line_shown : (o : Option Cell) (i byte : ℕ) → line_has o i ≡ Some byte → elim o [ None ↦ 0 | Some cell ↦ cell_byte cell i ] ≡ byte
line_shown None i byte is = same_Some 0 byte is
line_shown (Some Bad) i byte is = cc is
line_shown (Some (Kept weak words)) i byte is = same_Some _ byte is

block_shown : (block : Block) (i byte : ℕ) → block_has block i ≡ Some byte → block_byte block i ≡ byte
block_shown Absent i byte is = same_Some 0 byte is
block_shown Scarred i byte is = cc is
block_shown (Data lines) i byte is = by_line (slice_index_or lines (i / 64) None) is
  where
    by_line : (o : Option (List ℕ)) → option_map (λ bytes. slice_index bytes (i % 64)) o ≡ Some byte → line_byte o (i % 64) ≡ byte
    by_line None same = cc same
    by_line (Some bytes) same = same_Some _ byte same

at_index : (f : ℕ → ℕ) (start count i byte : ℕ) → start ≤ i → i < start + count → f i ≡ byte → slice_index (list_from f start count) (i - start) ≡ byte
at_index f start count i byte from to is =
    let there : start + (i - start) ≡ i = omega arith in
    get_or_from_slice_get (list_from f start count) (i - start) (f (start + (i - start))) 0 (slice_get-list_from f start count (i - start) (omega arith))
    ∙ ap f there ∙ is

stop_bytes : (by : Interruption) (bytes : List ℕ) → Bytes bytes ≡ interrupted_answer by → ⊥
stop_bytes Failed bytes is = cc is
stop_bytes Lost bytes is = cc is

-- a command that reads, answered with bytes
read_bytes : (h : Machine) (action : Action) (shown bytes : List ℕ) (said : Transcript) (next : Machine) → (meaning action).comes h ≡ Works (Bytes shown) h
    → Takes h action (fate h action) said next → said.answers ≡ Bytes bytes ∷ [] → bytes ≡ shown
read_bytes h action shown bytes said next reads takes told = by_refusal (refusal h action) refl takes
  where
    by_refusal : (o : Option Answer) → refusal h action ≡ o → Takes h action (unless_refused h o ((meaning action).comes h)) said next → bytes ≡ shown
    by_refusal (Some answer) is took =
        let same : answer ≡ Bytes bytes = cc (ap (λ s. s.answers) took.0, told) in
        absurd (both_ways (is_refused answer) (ap is_refused same) (refused_told h action answer is))
    by_refusal None is took =
        let t = subst (λ f. Takes h action f said next) reads took in
        let same : t.0 ≡ Bytes bytes = cc (ap (λ s. s.answers) t.1, told) in
        elim t.2 as (λ _. bytes ≡ shown) [ inl end ↦ cc (same, end.0) | inr end ↦ absurd (stop_bytes end.0 bytes (sym same ∙ end.1)) ]

byte_looked : (pages : List Page) (offset len i byte : ℕ) → line_has (cell_of pages (i / 64)) (i % 64) ≡ Some byte → is_among offset len i ≡ true
    → slice_index (look pages offset len) (i - offset) ≡ byte
unfolding look
byte_looked pages offset len i byte is among = at_index (byte_in pages) offset len i byte from to (line_shown (cell_of pages (i / 64)) (i % 64) byte is)
  where
    from : offset ≤ i
    from = grind (arith, nat_tests)

    to : i < offset + len
    to = grind (arith, nat_tests)

reads_volume : (h : Machine) (i byte : ℕ) → byte_at_place h (of_volume i) ≡ Some byte → Reads h (of_volume i) byte
reads_volume h i byte is = λ offset len bytes said next heard told among.
    ap (λ xs. slice_index xs (i - offset)) (read_bytes h (VLoad offset len) (look h.volume offset len) bytes said next refl heard told)
    ∙ byte_looked h.volume offset len i byte is among

reads_named : (h : Machine) (name : List ℕ) (i byte : ℕ) → byte_at_place h (of_file name i) ≡ Some byte → ReadsNamed h name i byte
reads_named h name i byte is = λ offset len bytes said next heard told among.
    ap (λ xs. slice_index xs (i - offset)) (read_bytes h (FRead name offset len) (look (pages_named name h.files) offset len) bytes said next refl heard told)
    ∙ byte_looked (pages_named name h.files) offset len i byte is among

reads_mapped : (h : Machine) (name : List ℕ) (i byte : ℕ) → byte_at_place h (of_file name i) ≡ Some byte → ReadsMapped h name i byte
reads_mapped h name i byte is = λ handle offset len m bytes said next shows same heard told among.
    ap (λ xs. slice_index xs (i - (m.start + offset)))
    (read_bytes h (Load handle offset len) (look (pages_named m.name h.files) (m.start + offset) len) bytes said next (load_comes h handle offset len m shows) heard told)
    ∙ byte_looked (pages_named m.name h.files) (m.start + offset) len i byte (subst (λ text. byte_at_place h (of_file text i) ≡ Some byte) (sym same) is) among

reads_blocks : (h : Machine) (i byte : ℕ) → byte_at_place h (of_blocks i) ≡ Some byte → Reads h (of_blocks i) byte
unfolding look_blocks
reads_blocks h i byte is = λ block count bytes said next heard told among.
    ap (λ xs. slice_index xs (i - 512 * block)) (read_bytes h (BRead block count) (look_blocks h.blocks block count) bytes said next refl heard told)
    ∙ at_index (byte_of_blocks h.blocks) (512 * block) (512 * count) i byte (from block count among) (to block count among)
    (block_shown (nth h.blocks (i / 512)) (i % 512) byte is)
  where
    from : (block count : ℕ) → is_among block count (i / 512) ≡ true → 512 * block ≤ i
    from block count among = let low : block ≤ i / 512 = grind (arith, nat_tests) in omega arith

    to : (block count : ℕ) → is_among block count (i / 512) ≡ true → i < 512 * block + 512 * count
    to block count among = let high : i / 512 < block + count = grind (arith, nat_tests) in omega arith

reads : (h : Machine) (x : Place) (byte : ℕ) → byte_at_place h x ≡ Some byte → Reads h x byte
reads h (of_volume i) byte is = reads_volume h i byte is
reads h (of_blocks i) byte is = reads_blocks h i byte is
reads h (of_file name i) byte is = (reads_named h name i byte is, reads_mapped h name i byte is)

-- what names something gives no data
no_data : (early : Option Answer) (this : Answer → Type 0) (answers : List Answer) (bytes : List ℕ) → Refuses early → ((answer : Answer) → this answer → answer ≡ Bytes bytes → ⊥)
    → Names early this answers → answers ≡ Bytes bytes ∷ [] → ⊥
no_data (Some refused) this answers bytes un other names told =
    let same : refused ≡ Bytes bytes = cc (names, told) in both_ways (is_refused refused) (ap is_refused same) un
no_data None this answers bytes un other names told = other names.0 names.2 (cc (names.1, told))

obstacle_told : (obstacle : Obstacle) (bytes : List ℕ) → refusal_answer (Unreadable obstacle) ≡ Bytes bytes → ⊥
obstacle_told (scar block) bytes is = cc is
obstacle_told (bad_line block line) bytes is = cc is

reads_lost : (h : Machine) (x : Place) (byte : ℕ) → IsComplete h → byte_at_place h x ≡ None → Reads h x byte
reads_lost h (of_volume i) byte whole lost = λ offset len bytes said next heard told among.
    absurd (no_data (early_refusal h.mode h.bad_meta h.geometry (VLoad offset len)) (NamesLine h.volume offset len) said.answers bytes (refuses_early h.mode h.bad_meta h.geometry (VLoad offset len)) (λ answer names is. cc (names.2, is))
    (names_line h next offset len i said lost among heard) told)
reads_lost h (of_blocks i) byte whole lost = λ block count bytes said next heard told among.
    absurd (no_data (early_refusal h.mode h.bad_meta h.geometry (BRead block count)) (NamesObstacle h.blocks block count) said.answers bytes
    (refuses_early h.mode h.bad_meta h.geometry (BRead block count)) (λ answer names is. obstacle_told names.1 bytes (sym names.3 ∙ is)) (names_obstacle h next block count i said whole lost among heard) told)
reads_lost h (of_file name i) byte whole lost = (
  λ offset len bytes said next heard told among. absurd (no_data (refused_before h (FRead name offset len)) (NamesLineOf name (pages_named name h.files) offset len) said.answers bytes
      (refuses_before h (FRead name offset len)) (λ answer names is. cc (names.2, is)) (names_line_of_file h next name offset len i said lost among heard) told),
  λ handle offset len m bytes said next shows same heard told among.
      absurd (no_data (refused_before h (Load handle offset len)) (NamesLineOf m.name (pages_named m.name h.files) (m.start + offset) len) said.answers bytes
      (refuses_before h (Load handle offset len)) (λ answer names is. cc (names.2, is))
      (names_line_mapped h next handle offset len i m said shows (subst (λ text. byte_at_place h (of_file text i) ≡ None) (sym same) lost) among heard) told),
)

-- a command on the storage that was refused, since the machine is not on, gives no data
no_data_off : (h : Machine) (action : Action) (bytes : List ℕ) (said : Transcript) (next : Machine) → (meaning action).needs ≡ Usable → h.mode ≢ On
    → Takes h action (fate h action) said next → said.answers ≡ Bytes bytes ∷ [] → ⊥
no_data_off h action bytes said next needs off takes told = by_refusal (refusal h action) refl takes
  where
    by_refusal : (o : Option Answer) → refusal h action ≡ o → Takes h action (unless_refused h o ((meaning action).comes h)) said next → ⊥
    by_refusal (Some answer) is took =
        let same : answer ≡ Bytes bytes = cc (ap (λ s. s.answers) took.0, told) in
        both_ways (is_refused answer) (ap is_refused same) (refused_told h action answer is)
    by_refusal None is took = off (is_on h action needs is)

reads_nothing : (h : Machine) (x : Place) (byte : ℕ) → HasNothing h → Reads h x byte
reads_nothing h (of_volume i) byte nothing = λ offset len bytes said next heard told among.
    absurd (no_data_off h (VLoad offset len) bytes said next refl nothing.mode heard told)
reads_nothing h (of_blocks i) byte nothing = λ block count bytes said next heard told among.
    absurd (no_data_off h (BRead block count) bytes said next refl nothing.mode heard told)
reads_nothing h (of_file name i) byte nothing = (
  λ offset len bytes said next heard told among. absurd (no_data_off h (FRead name offset len) bytes said next refl nothing.mode heard told),
  λ handle offset len m bytes said next shows same heard told among. absurd (no_data_off h (Load handle offset len) bytes said next refl nothing.mode heard told),
)

-- a byte that is there or lost, or nothing is there
pub has : (harmed : Bool) (h : Machine) (x : Place) (v : Option ℕ) → IsComplete h → HasOrLost harmed (byte_at_place h x) v ⊎ HasNothing h → Has h x v
has harmed h x v whole (inl (inl is)) = record { kept = inl (inl is); shown = by_value v is }
  where
    by_value : (o : Option ℕ) → byte_at_place h x ≡ o → IfSome o (Reads h x)
    by_value None none = tt
    by_value (Some byte) some = reads h x byte some
has harmed h x v whole (inl (inr lost)) = record { kept = inl (inr lost.0); shown = by_value v }
  where
    by_value : (o : Option ℕ) → IfSome o (Reads h x)
    by_value None = tt
    by_value (Some byte) = reads_lost h x byte whole lost.0
has harmed h x v whole (inr nothing) = record { kept = inr nothing; shown = by_value v }
  where
    by_value : (o : Option ℕ) → IfSome o (Reads h x)
    by_value None = tt
    by_value (Some byte) = reads_nothing h x byte nothing
