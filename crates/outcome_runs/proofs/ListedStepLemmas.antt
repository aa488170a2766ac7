-- Files stay listed, whatever a command does to them that is not refused, and wherever it is interrupted.
use Rattle.std.proofs.Common.{◌≡◌, ℕ, ◌+◌, ◌-◌, ◌*◌, ◌/◌, ◌≤◌, ◌==◌, Bool, true, false, cond, Option, Some, None, option_map, List, [], ◌∷◌, length, nat_lt, replicate, take, refl, sym, ap, subst, ◌∙◌, if◌then◌else◌, arith}
use Rattle.std.proofs.lemmas.Bool.{both_ways, eq-eqb}
use Rattle.std.proofs.lemmas.Bool.Decides.{nat_tests}
use Rattle.std.proofs.lemmas.List.{length-append, length-replicate, length-take}
use Rattle.nvm_base.specs.declared.units.Span.{Span}
use Rattle.nvm_base.proofs.FirstLemmas.{not_mapped}
use Rattle.word_tables.specs.declared.geometry.Geometry.{Geometry}
use Rattle.nvm_model.specs.Blocks.{first_there}
use Rattle.nvm_model.specs.Cell.{Cell, clear_cell, lose_cell, weaken_cell}
use Rattle.nvm_model.specs.Files.{new_file, on_pages, with_pages}
use Rattle.nvm_model.specs.Listing.{file_name, has_file}
use Rattle.nvm_model.specs.Mappings.{is_shared, mapping_of}
use Rattle.nvm_model.specs.Page.{absent_touched, change_line, discard, fill, presence_of, put}
use Rattle.nvm_model.specs.Page.Page.{Absent}
use Rattle.nvm_model.specs.Storage.{File, Mapping}
use Rattle.nvm_model.specs.Touched.{persist_spans}
use Rattle.nvm_model.proofs.MediaLemmas.{length-change}
use Rattle.nvm_model.proofs.NumberedLemmas.{length-map_from}
use Rattle.nvm_model.proofs.PageLemmas.{length-discard, length-put_fill}
use Rattle.nvm_model.proofs.SeveralLemmas.{length-spans}
use Rattle.file_actions.specs.Refusals.{all_bytes, holes_touched}
use Rattle.file_actions.specs.Rewriting.{rewritten, rewritten_page}
use Rattle.file_pages.specs.Refusals.{PageRefusal, bytes_refusal, refused_if}
use Rattle.file_pages.specs.Refusals.PageRefusal.{Length, Range}
use Rattle.reply_text.specs.Answer.{Answer}
use Rattle.reply_text.specs.Answer.Answer.{Refused}
use Rattle.reply_text.specs.declared.reply.Why.TheVariants as because
use Rattle.script_text.specs.Action.{Action}
use Rattle.script_text.specs.Action.Action.{Create, Delete, Rename, Resize, FWrite, FAtomic, FMulti, FDiscard, FSync, Load, Store, Sync, Flush, FlushVerify, DeepFlush, PoisonFile, WeakenFile, ClearFile}
use Rattle.machine_model.specs.Commands.{meaning, refusal}
use Rattle.machine_model.specs.Machine.{Machine}
use Rattle.machine_model.specs.Meaning.{Reasons, mode_refusal, no_reasons, span_refusal}
use Rattle.machine_model.specs.OnFileActions.{written_together}
use Rattle.machine_model.specs.OnFileErrors.{marked_in}
use Rattle.machine_model.specs.OnFiles.{if_exists, if_mapped, if_missing}
use Rattle.machine_model.specs.OnFlushes.{all_moved, flush_file, flush_through, flush_with, nothing_done, synced_in}
use Rattle.machine_model.specs.OnMappings.{store_through, write_copy}
use Rattle.machine_model.specs.OnPages.{fwrite, if_full, page_answer, pages_named, pages_used, stored_in}
use Rattle.machine_model.specs.declared.look.Look.{Look}
use Rattle.machine_model.specs.declared.look.Look.TheVariants.{Once, Again}
use Rattle.machine_model.proofs.RefusalLemmas.{span_allowed}
use Rattle.durable.proofs.FileKeepLemmas.{load-leaves}
use Rattle.durable.proofs.RefusalLemmas.{first_none, places_none}
use Rattle.durable.proofs.StepKinds.{files_made}
use Rattle.outcome_runs.specs.Brings.{BringsRight}
use Rattle.outcome_runs.specs.Kept.{AreListed}
use Rattle.outcome_runs.proofs.CountLemmas.{all_used, no_pages, pages_are_used}
use Rattle.outcome_runs.proofs.ListedLemmas.{listed_changed, listed_fewer, used_one, used_room}
use Rattle.outcome_runs.proofs.NamedLemmas.{listed_put, listed_renamed, listed_without}
use Rattle.outcome_runs.proofs.PageUseLemmas.{used_change, used_discard, used_resized, used_rewritten, used_spans, used_stored}

-- why a command that is done is not refused
named_none : (h : Machine) (action : Action) → refusal h action ≡ None → ((meaning action).reasons h).named ≡ None
unfolding refusal
named_none h action none =
    let rest = (first_none (mode_refusal h.mode h.bad_meta (meaning action).needs) _ none).1 in
    (first_none ((meaning action).reasons h).named _ rest).0

full_none : (h : Machine) (action : Action) → refusal h action ≡ None → ((meaning action).reasons h).full ≡ None
unfolding refusal
full_none h action none =
    let r = (meaning action).reasons h in
    let rest = (first_none (mode_refusal h.mode h.bad_meta (meaning action).needs) _ none).1 in
    (first_none r.full _ (first_none r.places _ (first_none r.named _ rest).1).1).0

unset : (b : Bool) (answer : Answer) → cond b (Some answer) None ≡ None → b ≡ false
unset true answer none = cc none
unset false answer none = refl

empty_not : (b : Bool) (why : PageRefusal) → cond b (Some why) None ≡ None → b ≡ false
empty_not true why none = cc none
empty_not false why none = refl

some_bytes : (pages offset len : ℕ) → bytes_refusal pages offset len ≡ None → 1 ≤ len
some_bytes pages offset len none =
    let is : (len == 0) ≡ false = empty_not (len == 0) Length (first_none (refused_if (nat_lt (4096 * pages) (offset + len)) Range) (refused_if (len == 0) Length) none).1 in
    grind (arith, nat_tests)

room_left : (h : Machine) (holes : ℕ) → if_full h holes ≡ None → pages_used h.files + holes ≤ h.geometry.fpages
room_left h holes none =
    let is = unset (nat_lt (h.geometry.fpages - 16) (pages_used h.files + holes)) (Refused because.Full) none in
    let low : pages_used h.files + holes ≤ h.geometry.fpages - 16 = grind (arith, nat_tests) in
    omega (arith, low)

-- holes that are filled have room
stored_room : (h : Machine) (name : List ℕ) (at : ℕ) (bytes : List ℕ) → AreListed h.geometry h.files → 1 ≤ length bytes
    → if_full h (absent_touched at (length bytes) (presence_of (pages_named name h.files))) ≡ None → all_used (stored_in name at bytes h.files) ≤ h.geometry.fpages
stored_room h name at bytes listed some full =
    let room = room_left h (absent_touched at (length bytes) (presence_of (pages_named name h.files))) full in
    let one = used_one name (λ pages. put at bytes (fill at (length bytes) pages)) h.files listed.in_order in
    omega (arith, room, one, used_stored at bytes (pages_named name h.files) some, pages_are_used h.files)

written_room : (h : Machine) (name : List ℕ) (ranges : List Span) (bytes : List ℕ) → AreListed h.geometry h.files
    → if_full h (holes_touched ranges (presence_of (pages_named name h.files))) ≡ None → all_used (written_together name ranges bytes h.files) ≤ h.geometry.fpages
written_room h name ranges bytes listed full =
    let room = room_left h (holes_touched ranges (presence_of (pages_named name h.files))) full in
    let one = used_one name (rewritten ranges bytes) h.files listed.in_order in
    omega (arith, room, one, used_rewritten ranges bytes (pages_named name h.files), pages_are_used h.files)

-- the files with pages of one changed
listed_stored : (geo : Geometry) (name : List ℕ) (at : ℕ) (bytes : List ℕ) (files : List File) → AreListed geo files → all_used (stored_in name at bytes files) ≤ geo.fpages
    → AreListed geo (stored_in name at bytes files)
listed_stored geo name at bytes files listed room =
    listed_changed name (on_pages (λ pages. put at bytes (fill at (length bytes) pages))) (λ x. refl) geo files
    (λ x few. omega (arith, length-put_fill at (length bytes) bytes x.pages, few)) listed room

listed_written : (geo : Geometry) (name : List ℕ) (ranges : List Span) (bytes : List ℕ) (files : List File) → AreListed geo files
    → all_used (written_together name ranges bytes files) ≤ geo.fpages → AreListed geo (written_together name ranges bytes files)
unfolding rewritten
listed_written geo name ranges bytes files listed room =
    listed_changed name (on_pages (rewritten ranges bytes)) (λ x. refl) geo files
    (λ x few. omega (arith, length-map_from (rewritten_page ranges bytes x.pages) 0 x.pages, few)) listed room

listed_synced : (geo : Geometry) (name : List ℕ) (spans : List Span) (files : List File) → AreListed geo files → AreListed geo (synced_in name spans files)
listed_synced geo name spans files listed =
    listed_fewer name (on_pages (persist_spans spans)) (λ x. refl) geo files (λ x few. omega (arith, length-spans spans x.pages, few))
    (λ x. omega (arith, used_spans spans x.pages)) listed

listed_marked : (geo : Geometry) (mark : Cell → Cell) (name : List ℕ) (offset : ℕ) (files : List File) → AreListed geo files → AreListed geo (marked_in mark name offset files)
listed_marked geo mark name offset files listed =
    listed_fewer name (on_pages (change_line mark (offset / 64))) (λ x. refl) geo files (λ x few. omega (arith, length-change mark (offset / 64) x.pages, few))
    (λ x. omega (arith, used_change mark (offset / 64) x.pages)) listed

listed_flushed : (geo : Geometry) (look : Look) (handle : ℕ) (spans : List Span) (mappings : List Mapping) (files : List File) → AreListed geo files
    → AreListed geo ((flush_with look handle spans).files mappings files)
listed_flushed geo look handle spans mappings files listed = by_mapping (mapping_of handle mappings)
  where
    by_kind : (m : Mapping) (shared : Bool) → AreListed geo ((if shared then flush_file look m.name (all_moved m.start spans) else nothing_done).files mappings files)
    by_kind m true = listed_synced geo m.name (all_moved m.start spans) files listed
    by_kind m false = listed

    by_mapping : (o : Option Mapping) → AreListed geo (elim o [ None ↦ files | Some m ↦ (flush_through look spans m).files mappings files ])
    by_mapping None = listed
    by_mapping (Some m) = by_kind m (is_shared m.kind)

-- a store by a handle has room
abbrev handle_reasons : Machine → ℕ → ℕ → List ℕ → Option Mapping → Reasons
handle_reasons h handle offset bytes o =
    elim o as (λ _. Reasons) [ None ↦ record no_reasons { named = Some (Refused because.Handle) } | Some m ↦ (store_through handle offset bytes m).reasons h ]

handle_room : (h : Machine) (handle offset : ℕ) (bytes : List ℕ) → AreListed h.geometry h.files → refusal h (Store handle offset bytes) ≡ None
    → (m : Mapping) → mapping_of handle h.mappings ≡ Some m → is_shared m.kind ≡ true → all_used (stored_in m.name (m.start + offset) bytes h.files) ≤ h.geometry.fpages
handle_room h handle offset bytes listed none m is shared =
    stored_room h m.name (m.start + offset) bytes listed (span_allowed m.len offset (length bytes) (not_mapped Refused (span_refusal m.len offset (length bytes)) places)).0 full
  where
    places : option_map Refused (span_refusal m.len offset (length bytes)) ≡ None
    places = sym (ap (λ o. (handle_reasons h handle offset bytes o).places) is) ∙ places_none h (Store handle offset bytes) none

    full : if_full h (absent_touched (m.start + offset) (length bytes) (presence_of (pages_named m.name h.files))) ≡ None
    full =
        sym (ap (λ b. ((if b then fwrite m.name (m.start + offset) bytes else write_copy handle offset bytes).reasons h).full) shared)
        ∙ sym (ap (λ o. (handle_reasons h handle offset bytes o).full) is) ∙ full_none h (Store handle offset bytes) none

-- what a command makes of them
pub listed_made : (h : Machine) (action : Action) → AreListed h.geometry h.files → BringsRight action → refusal h action ≡ None → AreListed h.geometry ((meaning action).files h.mappings h.files)
listed_made h (Create name pages) listed right none =
    let missing = unset (has_file file_name name h.files) (Refused because.Exists) (named_none h (Create name pages) none) in
    let small = unset (nat_lt 256 pages) (Refused because.Limit) (places_none h (Create name pages) none) in
    let more = unset (length h.files == 64) (Refused because.Slots) (full_none h (Create name pages) none) in
    let few : pages ≤ 256 = grind (arith, nat_tests) in
    let other : length h.files ≡ 64 → ⊥ = λ is. both_ways (length h.files == 64) more (eq-eqb (length h.files) 64 is) in
    listed_put h.geometry (new_file name pages) h.files right (omega (arith, length-replicate pages Absent, few)) missing (omega (arith, listed.few, other))
    (omega (arith, no_pages pages, used_room h.geometry h.files listed)) listed.each listed.in_order
listed_made h (Delete name) listed right none = listed_without name h.geometry h.files listed
listed_made h (Rename name to) listed right none =
    let named = named_none h (Rename name to) none in
    let rest = (first_none (if_missing name h.files) (first_there (if_exists to h.files) (if_mapped name h.mappings)) named).1 in
    let missing = unset (has_file file_name to h.files) (Refused because.Exists) (first_none (if_exists to h.files) (if_mapped name h.mappings) rest).0 in
    listed_renamed name h.geometry to h.files right missing listed
listed_made h (Resize name pages) listed right none =
    let small = unset (nat_lt 256 pages) (Refused because.Limit) (places_none h (Resize name pages) none) in
    let few : pages ≤ 256 = grind (arith, nat_tests) in
    listed_fewer name (with_pages pages) (λ x. refl) h.geometry h.files
    (λ x was. omega (arith, few, length-append (take pages x.pages) (replicate (pages - length x.pages) Absent), length-take pages x.pages, length-replicate (pages - length x.pages) Absent))
    (λ x. used_resized pages x.pages) listed
listed_made h (FWrite name offset bytes) listed right none =
    let count = length (pages_named name h.files) in
    let allowed = not_mapped (page_answer name) (bytes_refusal count offset (length bytes)) (places_none h (FWrite name offset bytes) none) in
    let some = some_bytes count offset (length bytes) allowed in
    listed_stored h.geometry name offset bytes h.files listed (stored_room h name offset bytes listed some (full_none h (FWrite name offset bytes) none))
listed_made h (FAtomic name offset bytes) listed right none =
    let ranges : List Span = record { start = offset; len = length bytes } ∷ [] in
    listed_written h.geometry name ranges bytes h.files listed (written_room h name ranges bytes listed (full_none h (FAtomic name offset bytes) none))
listed_made h (FMulti name ranges bytes) listed right none =
    listed_written h.geometry name ranges bytes h.files listed (written_room h name ranges bytes listed (full_none h (FMulti name ranges bytes) none))
listed_made h (FDiscard name page count) listed right none =
    listed_fewer name (on_pages (discard page count)) (λ x. refl) h.geometry h.files (λ x few. omega (arith, length-discard page count x.pages, few))
    (λ x. used_discard page count x.pages) listed
listed_made h (FSync name) listed right none = listed_synced h.geometry name all_bytes h.files listed
listed_made h (Load handle offset len) listed right none = subst (AreListed h.geometry) {x = h.files} (sym (load-leaves handle offset len h.mappings h.files)) listed
listed_made h (Store handle offset bytes) listed right none = by_mapping (mapping_of handle h.mappings) (handle_room h handle offset bytes listed none)
  where
    by_kind : (m : Mapping) (shared : Bool) → (shared ≡ true → all_used (stored_in m.name (m.start + offset) bytes h.files) ≤ h.geometry.fpages)
        → AreListed h.geometry ((if shared then fwrite m.name (m.start + offset) bytes else write_copy handle offset bytes).files h.mappings h.files)
    by_kind m true room = listed_stored h.geometry m.name (m.start + offset) bytes h.files listed (room refl)
    by_kind m false room = listed

    by_mapping : (o : Option Mapping) → ((m : Mapping) → o ≡ Some m → is_shared m.kind ≡ true → all_used (stored_in m.name (m.start + offset) bytes h.files) ≤ h.geometry.fpages)
        → AreListed h.geometry (elim o [ None ↦ h.files | Some m ↦ (store_through handle offset bytes m).files h.mappings h.files ])
    by_mapping None room = listed
    by_mapping (Some m) room = by_kind m (is_shared m.kind) (room m refl)
listed_made h (Sync handle offset len) listed right none = listed_flushed h.geometry Once handle (record { start = offset; len = len } ∷ []) h.mappings h.files listed
listed_made h (Flush handle spans) listed right none = listed_flushed h.geometry Once handle spans h.mappings h.files listed
listed_made h (FlushVerify handle spans) listed right none = listed_flushed h.geometry Again handle spans h.mappings h.files listed
listed_made h (DeepFlush handle spans) listed right none = listed_flushed h.geometry Once handle spans h.mappings h.files listed
listed_made h (ClearFile name offset) listed right none = listed_marked h.geometry clear_cell name offset h.files listed
listed_made h action listed right none = listed

pub listed_after : (h : Machine) (action : Action) → AreListed h.geometry h.files → BringsRight action → refusal h action ≡ None → AreListed h.geometry (files_made h.mappings action h.files)
listed_after h (PoisonFile name offset) listed right none = listed_marked h.geometry lose_cell name offset h.files listed
listed_after h (WeakenFile name offset) listed right none = listed_marked h.geometry weaken_cell name offset h.files listed
listed_after h action listed right none = listed_made h action listed right none
