-- What a refusal is answered, and what is known where there is none.
use Rattle.std.proofs.Common.{◌≡◌, ◌+◌, ◌-◌, ◌*◌, ℕ, length, nat_lt, Bool, true, false, cond, Option, Some, None, option_map, List, [], ◌∷◌, refl, ◌∙◌, sym, ap, if◌then◌else◌}
use Rattle.nvm_base.specs.declared.units.Span.{Span}
use Rattle.nvm_model.specs.Blocks.{first_there, first_obstacle}
use Rattle.block_device.specs.Refusals.{Refusal}
use Rattle.pm_volume.specs.Refusals.{VolumeRefusal, physical_offset, poisoned_at}
use Rattle.nvm_model.specs.Page.{first_bad_line, first_uncovered_line}
use Rattle.reply_text.specs.declared.reply.Why.{Why}
use Rattle.reply_text.specs.Answer.{Answer}
use Rattle.reply_text.specs.Answer.Answer.{PoisonFile as PoisonedFile, Refused}
use Rattle.reply_text.specs.declared.reply.Why.TheVariants as because
use Rattle.script_text.specs.Action.{Action}
use Rattle.script_text.specs.Action.Action.{BRead, BWrite, BAtomic, BMulti, BDiscard, BDiscardIf, BExists, BScar, VLoad, VStore, VSync, VRanges, VPSync, VDiscard, VDiscardIf, VExists, Create, Delete, Rename, Resize, ListFiles, FRead, FWrite, FAtomic, FMulti, FDiscard, FSync, Map, Unmap, Load, Store, Sync, Flush, FlushVerify, DeepFlush, NextEvent, CheckFile, PoisonBlock, PoisonVolume, PoisonFile, PoisonMeta, WeakenFile, WeakenVolume, ClearFile, ClearVolume, Cut, CutIn, FailIn, Restart, Recover, Attr, Evict}
use Rattle.machine_model.specs.declared.look.Look.{Look}
use Rattle.machine_model.specs.declared.look.Look.TheVariants.{Once, Again}
use Rattle.machine_model.specs.declared.mode.Mode.{Mode}
use Rattle.machine_model.specs.declared.mode.Mode.TheVariants.{On, Off, Unsettled, Stopped}
use Rattle.machine_model.specs.Machine.{Machine}
use Rattle.machine_model.specs.Meaning.{Reasons, first_reason, metadata_refusal, mode_refusal, most_refusal, no_reasons, span_refusal}
use Rattle.machine_model.specs.declared.needs.Needs.TheVariants.{Usable, Unpowered}
use Rattle.marked_lines.specs.Refusals.{ScrubRefusal}
use Rattle.marked_lines.specs.Refusals.ScrubRefusal.{Range as Beyond}
use Rattle.machine_model.specs.OnMedia.{line_answer}
use Rattle.machine_model.specs.OnBlocks.{refusal_answer}
use Rattle.machine_model.specs.OnVolume.{volume_answer}
use Rattle.machine_model.specs.OnFiles.{if_exists, if_mapped, if_missing}
use Rattle.machine_model.specs.OnFlushes.{all_moved, flush_file, flush_through, flush_with, nothing_done, spans_refusal}
use Rattle.machine_model.specs.OnMappings.{if_full_of_mappings, load_through, read_copy, store_through, within_mapping, write_copy}
use Rattle.machine_model.specs.OnPages.{fread, fwrite, if_full, pages_named, pages_used}
use Rattle.nvm_model.specs.Mappings.{is_full, is_mapped, is_shared, mapping_of}
use Rattle.nvm_model.specs.Listing.{file_name, has_file}
use Rattle.nvm_model.specs.Storage.{Mapping}
use Rattle.file_actions.specs.Refusals.{ActionRefusal}
use Rattle.machine_model.specs.OnFileActions.{action_answer}
use Rattle.machine_model.specs.OnAttributes.{unknown}
use Rattle.attributes.specs.Attributes.{attribute}
use Rattle.machine_model.specs.Commands.{meaning, refusal}
use Rattle.durable.specs.Naming.{refused_before}
use Rattle.durable.proofs.RefusedAnswerLemmas.{Refuses, is_refused, refuses_actions, refuses_blocks, refuses_copy, refuses_first, refuses_line, refuses_metadata, refuses_mode, refuses_obstacle, refuses_pages, refuses_span, refuses_unless, refuses_volume, refuses_where, refuses_why}

record RefusingReasons (r : Reasons) : Type 0 where
  named : Refuses r.named
  places : Refuses r.places
  full : Refuses r.full
  unreadable : Refuses r.unreadable

blocks_reasons : (o : Option Refusal) → RefusingReasons (record { named = None; places = option_map refusal_answer o; full = None; changes_metadata = true; unreadable = None })
blocks_reasons o = record { named = tt; places = refuses_blocks o; full = tt; unreadable = tt }

why_reasons : (o : Option Why) → RefusingReasons (record { named = None; places = option_map Refused o; full = None; changes_metadata = false; unreadable = None })
why_reasons o = record { named = tt; places = refuses_why o; full = tt; unreadable = tt }

volume_reasons : (places poison : Option VolumeRefusal) (changes : Bool)
    → RefusingReasons (record { named = None; places = option_map volume_answer places; full = None; changes_metadata = changes; unreadable = option_map volume_answer poison })
volume_reasons places poison changes = record { named = tt; places = refuses_volume places; full = tt; unreadable = refuses_volume poison }

line_reasons : (o : Option ScrubRefusal) → RefusingReasons (record { named = None; places = option_map line_answer o; full = None; changes_metadata = false; unreadable = None })
line_reasons o = record { named = tt; places = refuses_line o; full = tt; unreadable = tt }

past_reasons : (b : Bool) → RefusingReasons (record { named = None; places = cond b None (Some (Refused because.Range)); full = None; changes_metadata = false; unreadable = None })
past_reasons b = record { named = tt; places = refuses_unless because.Range b; full = tt; unreadable = tt }

-- a change of a file that must be there, and of which there is no mapping
if_there_unmapped : (h : Machine) (name : List ℕ) → Refuses (first_there (if_missing name h.files) (if_mapped name h.mappings))
if_there_unmapped h name =
    refuses_first (if_missing name h.files) (if_mapped name h.mappings) (refuses_unless because.Missing (has_file file_name name h.files))
    (refuses_where because.Mapped (is_mapped name h.mappings))

refuses_poison : (name : List ℕ) (o : Option ℕ) → Refuses (option_map (λ n. PoisonedFile name (64 * n)) o)
refuses_poison name None = tt
refuses_poison name (Some n) = refl

refuses_unknown : (o : Option ℕ) → Refuses (unknown o)
refuses_unknown None = refl
refuses_unknown (Some value) = tt

-- a flush, and a command on a line of a file
flush_reasons : (h : Machine) (look : Look) (handle : ℕ) (spans : List Span) → RefusingReasons ((flush_with look handle spans).reasons h)
flush_reasons h look handle spans = by_mapping (mapping_of handle h.mappings)
  where
    by_kind : (m : Mapping) (shared : Bool)
        → RefusingReasons ((within_mapping (option_map Refused (spans_refusal m.len spans)) (if shared then flush_file look m.name (all_moved m.start spans) else nothing_done)).reasons h)
    by_kind m true = record { named = tt; places = refuses_why _; full = tt; unreadable = refuses_poison m.name _ }
    by_kind m false = record { named = tt; places = refuses_why _; full = tt; unreadable = tt }

    by_mapping : (o : Option Mapping) → RefusingReasons (elim o [ None ↦ record no_reasons { named = Some (Refused because.Handle) } | Some m ↦ (flush_through look spans m).reasons h ])
    by_mapping None = record { named = refl; places = tt; full = tt; unreadable = tt }
    by_mapping (Some m) = by_kind m (is_shared m.kind)

file_line_reasons : (h : Machine) (name : List ℕ) (o : Option ScrubRefusal)
    → RefusingReasons (record no_reasons { named = if_missing name h.files; places = option_map line_answer o })
file_line_reasons h name o = record { named = refuses_unless because.Missing (has_file file_name name h.files); places = refuses_line o; full = tt; unreadable = tt }

-- a write as a whole to pages of a file
together_reasons : (h : Machine) (name : List ℕ) (places unreadable : Option ActionRefusal) (holes : ℕ)
    → RefusingReasons (record no_reasons {
      named = if_missing name h.files;
      places = option_map (action_answer name) places;
      full = if_full h holes;
      changes_metadata = true;
      unreadable = option_map (action_answer name) unreadable;
    })
together_reasons h name places unreadable holes = record {
  named = refuses_unless because.Missing (has_file file_name name h.files);
  places = refuses_actions name places;
  full = refuses_where because.Full (nat_lt (h.geometry.fpages - 16) (pages_used h.files + holes));
  unreadable = refuses_actions name unreadable;
}

refusing_reasons : (h : Machine) (action : Action) → RefusingReasons ((meaning action).reasons h)
refusing_reasons h (BRead block count) =
    record { named = tt; places = refuses_why _; full = tt; unreadable = refuses_obstacle (first_obstacle h.blocks block count) }
refusing_reasons h (BWrite block bytes) = blocks_reasons _
refusing_reasons h (BAtomic block bytes) = blocks_reasons _
refusing_reasons h (BMulti ranges bytes) = blocks_reasons _
refusing_reasons h (BDiscard block count) = blocks_reasons _
refusing_reasons h (BDiscardIf block count) = blocks_reasons _
refusing_reasons h (BExists block) = past_reasons _
refusing_reasons h (BScar ranges) = blocks_reasons _
refusing_reasons h (VLoad offset len) =
    record { named = tt; places = refuses_why _; full = tt; unreadable = refuses_volume (poisoned_at (first_bad_line h.volume offset len)) }
refusing_reasons h (VStore offset bytes) = volume_reasons _ (poisoned_at (first_uncovered_line h.volume offset (length bytes))) _
refusing_reasons h (VSync offset len) = volume_reasons _ (poisoned_at (first_bad_line h.volume offset len)) false
refusing_reasons h VRanges = why_reasons None
refusing_reasons h (VPSync address len) = record {
  named = tt;
  places = refuses_volume _;
  full = tt;
  unreadable = refuses_span (λ offset. poisoned_at (first_bad_line h.volume offset len)) (physical_offset h.geometry address len);
}
refusing_reasons h (VDiscard page count) = volume_reasons _ None true
refusing_reasons h (VDiscardIf page count) = volume_reasons _ None true
refusing_reasons h (VExists page) = past_reasons _
refusing_reasons h (Create name pages) =
    record { named = refuses_where because.Exists _; places = refuses_where because.Limit _; full = refuses_where because.Slots _; unreadable = tt }
refusing_reasons h (Delete name) =
    record { named = if_there_unmapped h name; places = tt; full = tt; unreadable = tt }
refusing_reasons h (Rename name to) = record {
  named = refuses_first (if_missing name h.files) (first_there (if_exists to h.files) (if_mapped name h.mappings)) (refuses_unless because.Missing (has_file file_name name h.files))
      (refuses_first (if_exists to h.files) (if_mapped name h.mappings) (refuses_where because.Exists (has_file file_name to h.files)) (refuses_where because.Mapped (is_mapped name h.mappings)));
  places = tt;
  full = tt;
  unreadable = tt;
}
refusing_reasons h (Resize name pages) =
    record { named = if_there_unmapped h name; places = refuses_where because.Limit _; full = tt; unreadable = tt }
refusing_reasons h ListFiles = why_reasons None
refusing_reasons h (FRead name offset len) = record { named = refuses_unless because.Missing _; places = refuses_why _; full = tt; unreadable = refuses_pages name _ }
refusing_reasons h (FWrite name offset bytes) =
    record { named = refuses_unless because.Missing _; places = refuses_pages name _; full = refuses_where because.Full _; unreadable = refuses_pages name _ }
refusing_reasons h (FAtomic name offset bytes) = together_reasons h name _ _ _
refusing_reasons h (FMulti name ranges bytes) = together_reasons h name _ _ _
refusing_reasons h (FDiscard name page count) = record { named = refuses_unless because.Missing _; places = refuses_why _; full = tt; unreadable = tt }
refusing_reasons h (FSync name) = record { named = refuses_unless because.Missing _; places = tt; full = tt; unreadable = refuses_poison name _ }
refusing_reasons h (Map name span kind) = record {
  named = refuses_unless because.Missing _;
  places = refuses_first (option_map Refused (span_refusal (4096 * length (pages_named name h.files)) span.start span.len)) (if_full_of_mappings h)
      (refuses_why (span_refusal (4096 * length (pages_named name h.files)) span.start span.len)) (refuses_where because.Limit (is_full h.mappings h.next_handle));
  full = tt;
  unreadable = refuses_copy name (is_shared kind) _;
}
refusing_reasons h (Unmap handle) = record { named = refuses_where because.Handle _; places = tt; full = tt; unreadable = tt }
refusing_reasons h (Load handle offset len) = by_mapping (mapping_of handle h.mappings)
  where
    by_kind : (m : Mapping) (shared : Bool)
        → RefusingReasons ((within_mapping (option_map Refused (most_refusal 65536 m.len offset len)) (if shared then fread m.name (m.start + offset) len else read_copy m offset len)).reasons h)
    by_kind m true = record { named = tt; places = refuses_why _; full = tt; unreadable = refuses_pages m.name _ }
    by_kind m false = record { named = tt; places = refuses_why _; full = tt; unreadable = tt }

    by_mapping : (o : Option Mapping) → RefusingReasons (elim o [ None ↦ record no_reasons { named = Some (Refused because.Handle) } | Some m ↦ (load_through offset len m).reasons h ])
    by_mapping None = record { named = refl; places = tt; full = tt; unreadable = tt }
    by_mapping (Some m) = by_kind m (is_shared m.kind)
refusing_reasons h (Store handle offset bytes) = by_mapping (mapping_of handle h.mappings)
  where
    by_kind : (m : Mapping) (shared : Bool)
        → RefusingReasons ((within_mapping (option_map Refused (span_refusal m.len offset (length bytes))) (if shared then fwrite m.name (m.start + offset) bytes else write_copy handle offset bytes)).reasons h)
    by_kind m true = record { named = tt; places = refuses_why _; full = refuses_where because.Full _; unreadable = refuses_pages m.name _ }
    by_kind m false = record { named = tt; places = refuses_why _; full = tt; unreadable = tt }

    by_mapping : (o : Option Mapping) → RefusingReasons (elim o [ None ↦ record no_reasons { named = Some (Refused because.Handle) } | Some m ↦ (store_through handle offset bytes m).reasons h ])
    by_mapping None = record { named = refl; places = tt; full = tt; unreadable = tt }
    by_mapping (Some m) = by_kind m (is_shared m.kind)
refusing_reasons h (Sync handle offset len) = flush_reasons h Once handle (record { start = offset; len = len } ∷ [])
refusing_reasons h (Flush handle spans) = flush_reasons h Once handle spans
refusing_reasons h (FlushVerify handle spans) = flush_reasons h Again handle spans
refusing_reasons h (DeepFlush handle spans) = flush_reasons h Once handle spans
refusing_reasons h NextEvent = why_reasons None
refusing_reasons h (CheckFile name offset len) = record { named = refuses_unless because.Missing _; places = refuses_why _; full = tt; unreadable = tt }
refusing_reasons h (PoisonBlock block line) = line_reasons _
refusing_reasons h (PoisonVolume offset) = line_reasons _
refusing_reasons h (PoisonFile name offset) = file_line_reasons h name _
refusing_reasons h (PoisonMeta line) = why_reasons _
refusing_reasons h (WeakenFile name offset) = file_line_reasons h name _
refusing_reasons h (WeakenVolume offset) = line_reasons _
refusing_reasons h (ClearFile name offset) = file_line_reasons h name _
refusing_reasons h (ClearVolume offset) = line_reasons _
refusing_reasons h Cut = why_reasons None
refusing_reasons h (CutIn calls) = why_reasons _
refusing_reasons h (FailIn calls) = why_reasons _
refusing_reasons h (Restart choice) = why_reasons None
refusing_reasons h Recover = why_reasons None
refusing_reasons h (Attr name) = record { named = refuses_unknown (attribute name h.geometry h.unit); places = tt; full = tt; unreadable = tt }
refusing_reasons h (Evict lines) = why_reasons None

pub refuses_before : (h : Machine) (action : Action) → Refuses (refused_before h action)
refuses_before h action =
    let r = refusing_reasons h action in
    refuses_first _ _ (refuses_mode h.mode h.bad_meta (meaning action).needs) (refuses_first _ _ r.named r.places)

refuses : (mode : Option Answer) (bad_meta : List ℕ) (r : Reasons) → Refuses mode → RefusingReasons r → Refuses (first_reason mode bad_meta r)
refuses mode bad_meta r first parts =
    refuses_first _ _ first (refuses_first r.named _ parts.named (refuses_first r.places _ parts.places (refuses_first r.full _ parts.full
    (refuses_first _ r.unreadable (refuses_metadata r.changes_metadata bad_meta) parts.unreadable))))

pub refused_told : (h : Machine) (action : Action) (answer : Answer) → refusal h action ≡ Some answer → is_refused answer ≡ true
unfolding refusal
refused_told h action answer is =
    by_answer (first_reason (mode_refusal h.mode h.bad_meta (meaning action).needs) h.bad_meta ((meaning action).reasons h))
    (refuses (mode_refusal h.mode h.bad_meta (meaning action).needs) h.bad_meta ((meaning action).reasons h) (refuses_mode h.mode h.bad_meta (meaning action).needs)
    (refusing_reasons h action)) is
  where
    by_answer : (o : Option Answer) → Refuses o → o ≡ Some answer → is_refused answer ≡ true
    by_answer None un same = cc same
    by_answer (Some a) un same = let e : a ≡ answer = cc same in sym (ap is_refused e) ∙ un

-- what is not refused: its mode, and its places
pub first_none : {A : Type 0} (a b : Option A) → first_there a b ≡ None → (a ≡ None) × (b ≡ None)
first_none None b none = (refl, none)
first_none (Some x) b none = cc none

usable_on : (mode : Mode) (bad_meta : List ℕ) → mode_refusal mode bad_meta Usable ≡ None → mode ≡ On
usable_on On bad_meta none = refl
usable_on Off bad_meta none = cc none
usable_on Unsettled bad_meta none = cc none
usable_on Stopped bad_meta none = cc none

pub is_on : (h : Machine) (action : Action) → (meaning action).needs ≡ Usable → refusal h action ≡ None → h.mode ≡ On
unfolding refusal
is_on h action needs none = usable_on h.mode h.bad_meta (sym (ap (mode_refusal h.mode h.bad_meta) needs) ∙ (first_none _ _ none).0)

unpowered_off : (mode : Mode) (bad_meta : List ℕ) → mode_refusal mode bad_meta Unpowered ≡ None → mode ≡ Off
unpowered_off On bad_meta none = cc none
unpowered_off Off bad_meta none = refl
unpowered_off Unsettled bad_meta none = cc none
unpowered_off Stopped bad_meta none = cc none

pub is_off : (h : Machine) (action : Action) → (meaning action).needs ≡ Unpowered → refusal h action ≡ None → h.mode ≡ Off
unfolding refusal
is_off h action needs none = unpowered_off h.mode h.bad_meta (sym (ap (mode_refusal h.mode h.bad_meta) needs) ∙ (first_none _ _ none).0)

pub named_none : (h : Machine) (action : Action) → refusal h action ≡ None → ((meaning action).reasons h).named ≡ None
unfolding refusal
named_none h action none =
    (first_none ((meaning action).reasons h).named _ (first_none (mode_refusal h.mode h.bad_meta (meaning action).needs) _ none).1).0

pub places_none : (h : Machine) (action : Action) → refusal h action ≡ None → ((meaning action).reasons h).places ≡ None
unfolding refusal
places_none h action none =
    let rest = (first_none (mode_refusal h.mode h.bad_meta (meaning action).needs) _ none).1 in
    (first_none ((meaning action).reasons h).places _ (first_none ((meaning action).reasons h).named _ rest).1).0

pub unreadable_none : (h : Machine) (action : Action) → refusal h action ≡ None → ((meaning action).reasons h).unreadable ≡ None
unfolding refusal
unreadable_none h action none =
    let r = (meaning action).reasons h in
    let rest = (first_none (mode_refusal h.mode h.bad_meta (meaning action).needs) _ none).1 in
    let full = (first_none r.places _ (first_none r.named _ rest).1).1 in
    (first_none (metadata_refusal r.changes_metadata h.bad_meta) r.unreadable (first_none r.full _ full).1).1

-- a place of a line that is not refused
pub line_none : (o : Option ScrubRefusal) → option_map line_answer o ≡ None → o ≡ None
line_none None none = refl
line_none (Some why) none = cc none

pub within_none : (past : Bool) (o : Option ScrubRefusal) → cond past (Some Beyond) o ≡ None → (past ≡ false) × (o ≡ None)
within_none true o none = cc none
within_none false o none = (refl, none)
