-- The commands on mappings of files. A shared mapping shows its file: a load or a store through it is a read or a write of that
-- file, a stretch further on. A private one is a copy of its bytes, of which the device knows nothing.
use Rattle.std.specs.Prelude.{◌+◌, ◌*◌, ◌++◌, ℕ, true, List, [], ◌∷◌, length, take, drop, min, Option, Some, None, is_none, option_map, if◌then◌else◌}
use Rattle.nvm_base.specs.declared.files.Kind.{Kind}
use Rattle.nvm_base.specs.declared.units.Span.{Span}
use Rattle.nvm_model.specs.Blocks.{first_there}
use Rattle.nvm_model.specs.Mappings.{change_copy, is_full, is_shared, mapping_of, new_mapping, overwritten, without_mapping}
use Rattle.nvm_model.specs.Page.{first_bad_line}
use Rattle.nvm_model.specs.Storage.{Mapping}
use Rattle.file_pages.specs.Refusals.{poisoned_at}
use Rattle.mappings.specs.Costs.{map_calls}
use Rattle.mappings.specs.Refusals.{MapRefusal}
use Rattle.mappings.specs.Refusals.MapRefusal.{Missing, Handle, Range, Length, Limit, Poison}
use Rattle.reply_text.specs.declared.reply.Why.TheVariants as because
use Rattle.reply_text.specs.Answer.{Answer}
use Rattle.reply_text.specs.Answer.Answer.{Bytes, Done, Handle as HandleIs, PoisonFile, Refused}
use Rattle.machine_model.specs.Costs.{no_spending}
use Rattle.machine_model.specs.Machine.{Machine}
use Rattle.machine_model.specs.Machine.Fate.{Gives, Works}
use Rattle.machine_model.specs.Meaning.{Meaning, anywhere, most_refusal, no_reasons, quiet, span_refusal}
use Rattle.machine_model.specs.Meaning.FilesLeft.{Unchanged}
use Rattle.machine_model.specs.declared.needs.Needs.TheVariants.{Usable}
use Rattle.machine_model.specs.OnFiles.{if_missing}
use Rattle.machine_model.specs.OnPages.{fread, fwrite, page_answer, pages_named}

-- how a refusal by the mappings is answered
abbrev pub map_answer : List ℕ → MapRefusal → Answer
map_answer name Missing = Refused because.Missing
map_answer name Handle = Refused because.Handle
map_answer name Range = Refused because.Range
map_answer name Length = Refused because.Length
map_answer name Limit = Refused because.Limit
map_answer name (Poison offset) = PoisonFile name offset

-- the state with one mapping more, which a name, a stretch and a kind make
abbrev pub with_mapping : List ℕ → Span → Kind → Machine → Machine
with_mapping name span kind h = record h {
  mappings = h.mappings ++ new_mapping h.next_handle name span kind (pages_named name h.files) ∷ [];
  next_handle = h.next_handle + 1;
}

-- there are 256 mappings, or the handles are used up
abbrev pub if_full_of_mappings : Machine → Option Answer
if_full_of_mappings h = if is_full h.mappings h.next_handle then Some (Refused because.Limit) else None

-- a copy is refused for a bad line of its own
abbrev pub if_no_copy : List ℕ → Span → Kind → Machine → Option Answer
if_no_copy name span kind h =
    if is_shared kind then None else option_map (page_answer name) (poisoned_at (first_bad_line (pages_named name h.files) span.start span.len))

-- a copy is read from the device; to show a file needs no call
abbrev pub map_file : List ℕ → Span → Kind → Meaning
map_file name span kind = record (quiet Usable anywhere (λ h.
    if is_shared kind then Gives (HandleIs h.next_handle) (with_mapping name span kind h) else Works (HandleIs h.next_handle) (with_mapping name span kind h))) {
      reasons = λ h. record no_reasons {
        named = if_missing name h.files;
        places = first_there (option_map Refused (span_refusal (4096 * length (pages_named name h.files)) span.start span.len)) (if_full_of_mappings h);
        unreadable = if_no_copy name span kind h;
      };
      wants_memory = true;
      spends = λ h. record { calls = map_calls kind span; persists = 0 };
    }

-- no mapping has that handle
abbrev pub if_no_handle : ℕ → List Mapping → Option Answer
if_no_handle handle mappings = if is_none (mapping_of handle mappings) then Some (Refused because.Handle) else None

abbrev pub unmap : ℕ → Meaning
unmap handle = record (quiet Usable anywhere (λ h. Gives Done (record h { mappings = without_mapping handle h.mappings }))) {
  reasons = λ h. record no_reasons { named = if_no_handle handle h.mappings };
}

-- A command by handle is what it is on that mapping, and has a reply of so much room.
abbrev pub by_handle : ℕ → ℕ → (Mapping → Meaning) → Meaning
by_handle room handle of = record (quiet Usable anywhere (λ h. elim (mapping_of handle h.mappings) [ None ↦ Gives Done h | Some m ↦ (of m).comes h ])) {
  reasons = λ h. elim (mapping_of handle h.mappings) [ None ↦ record no_reasons { named = Some (Refused because.Handle) } | Some m ↦ (of m).reasons h ];
  files = λ mappings files. elim (mapping_of handle mappings) [ None ↦ files | Some m ↦ (of m).files mappings files ];
  files_left = λ mappings. elim (mapping_of handle mappings) [ None ↦ Unchanged | Some m ↦ (of m).files_left mappings ];
  spends = λ h. elim (mapping_of handle h.mappings) [ None ↦ no_spending | Some m ↦ (of m).spends h ];
  room = room;
}

-- It is refused for places of the mapping, and not of its file.
abbrev pub within_mapping : Option Answer → Meaning → Meaning
within_mapping places of = record of { reasons = λ h. record (of.reasons h) { named = None; places = places } }

-- the bytes of a copy, and others put there
abbrev pub read_copy : Mapping → ℕ → ℕ → Meaning
read_copy m offset len = quiet Usable anywhere (λ h. Gives (Bytes (take len (drop offset m.copy))) h)

abbrev pub write_copy : ℕ → ℕ → List ℕ → Meaning
write_copy handle offset bytes = quiet Usable anywhere (λ h. Gives Done (record h { mappings = change_copy handle (overwritten offset bytes) h.mappings }))

-- a load and a store, of the mapping that has the handle
abbrev pub load_through : ℕ → ℕ → Mapping → Meaning
load_through offset len m =
    within_mapping (option_map Refused (most_refusal 65536 m.len offset len))
    (if is_shared m.kind then fread m.name (m.start + offset) len else read_copy m offset len)

abbrev pub store_through : ℕ → ℕ → List ℕ → Mapping → Meaning
store_through handle offset bytes m =
    within_mapping (option_map Refused (span_refusal m.len offset (length bytes)))
    (if is_shared m.kind then fwrite m.name (m.start + offset) bytes else write_copy handle offset bytes)

abbrev pub load : ℕ → ℕ → ℕ → Meaning
load handle offset len = by_handle (72 + 3 * min len 65536) handle (load_through offset len)

abbrev pub store : ℕ → ℕ → List ℕ → Meaning
store handle offset bytes = by_handle 72 handle (store_through handle offset bytes)
