-- Each mapping lies within its file, in every state of a run.
use Rattle.std.proofs.Common.{◌≡◌, inl, inr, ℕ, ◌+◌, ◌*◌, ◌≤◌, ◌||◌, ◌==◌, Bool, true, false, not, cond, nat_lt, Option, Some, None, option_map, List, [], ◌∷◌, ◌++◌, length, map, refl, sym, ap, subst, ◌∙◌, arith, if◌then◌else◌}
use Rattle.std.specs.Bool.{Decides}
use Rattle.std.specs.Str.{bytes_eq}
use Rattle.std.proofs.lemmas.Bool.{both_ways, or_parts, or_right}
use Rattle.std.proofs.lemmas.Bool.Decides.{nat_tests}
use Rattle.std.proofs.lemmas.Slice.Eq.{bytes_eq-Decides}
use Rattle.nvm_base.specs.declared.files.FileEntry.{FileEntry}
use Rattle.nvm_model.specs.Blocks.{first_there}
use Rattle.nvm_model.specs.Files.{entry_of_file, new_file, with_name, with_pages}
use Rattle.nvm_model.specs.Listing.{change_file, file_name, file_of, has_file, is_named, put_file, rename_file, without_file}
use Rattle.nvm_model.specs.Mappings.{change_copy, has_handle, is_mapped, mapping_of, new_mapping, overwritten, without_mapping}
use Rattle.nvm_model.specs.Storage.{File, Mapping}
use Rattle.reply_text.specs.declared.reply.Why.TheVariants as because
use Rattle.reply_text.specs.Answer.{Answer}
use Rattle.reply_text.specs.Answer.Answer.{Refused}
use Rattle.script_text.specs.Action.{Action}
use Rattle.script_text.specs.Action.Action.{Create, Delete, Rename, Resize, FWrite, FAtomic, FMulti, FDiscard, FSync, Map, Unmap, Load, Store, Sync, Flush, FlushVerify, DeepFlush, PoisonFile, WeakenFile, ClearFile, Restart, Recover}
use Rattle.script_text.specs.Script.{Input}
use Rattle.script_text.specs.Script.Input.{Skipped, Malformed, Overlong, Asked}
use Rattle.machine_model.specs.declared.look.Look.TheVariants.{Once, Again}
use Rattle.machine_model.specs.Commands.{meaning, refusal, unless_refused}
use Rattle.machine_model.specs.Machine.{Fate, Machine}
use Rattle.machine_model.specs.Machine.Fate.{Gives, Works, Orders, Cuts, Restarts, Recovers}
use Rattle.machine_model.specs.Meaning.{span_refusal}
use Rattle.machine_model.specs.OnFiles.{if_exists, if_mapped, if_missing}
use Rattle.machine_model.specs.OnMappings.{if_full_of_mappings, with_mapping}
use Rattle.machine_model.specs.OnPages.{pages_named}
use Rattle.machine_model.specs.Run.{Hears, Run, Takes, Transcript}
use Rattle.durable.specs.Mapped.{AreWithin}
use Rattle.durable.proofs.EntryLemmas.{entries_made, synced_entries}
use Rattle.durable.proofs.HandleLemmas.{of_flush, of_load, of_map, of_store}
use Rattle.durable.proofs.MappedLemmas.{read-unmapped, recovered-unmapped}
use Rattle.durable.proofs.NamedPageLemmas.{named-change, named-put, named-rename, named-without, pages_in}
use Rattle.durable.proofs.RefusalLemmas.{first_none, named_none, places_none}

-- how many pages a listed file has
count_of : List ℕ → List FileEntry → ℕ
count_of name [] = 0
count_of name (entry ∷ entries) = cond (bytes_eq entry.name name) entry.pages (count_of name entries)

count_is : (name : List ℕ) (files : List File) → length (pages_named name files) ≡ count_of name (map entry_of_file files)
unfolding count_of
count_is name [] = refl
count_is name (x ∷ xs) = by_test (is_named file_name name x) (count_is name xs)
  where
    by_test : (b : Bool) → length (pages_named name xs) ≡ count_of name (map entry_of_file xs)
        → length (pages_in (cond b (Some x) (file_of file_name name xs))) ≡ cond b (length x.pages) (count_of name (map entry_of_file xs))
    by_test true rest = refl
    by_test false rest = rest

-- no file of a name has no pages
no_pages : (name : List ℕ) (files : List File) → has_file file_name name files ≡ false → length (pages_named name files) ≡ 0
no_pages name [] none = refl
no_pages name (x ∷ xs) none =
    let parts = or_parts (is_named file_name name x) (has_file file_name name xs) none in
    ap (λ b. length (pages_in (cond b (Some x) (file_of file_name name xs)))) parts.0 ∙ no_pages name xs parts.1

-- files of which those that are mapped are no shorter
within_grown : (mappings : List Mapping) (one other : List File)
    → ((name : List ℕ) → is_mapped name mappings ≡ true → length (pages_named name one) ≤ length (pages_named name other)) → AreWithin mappings one → AreWithin mappings other
within_grown [] one other grows within = tt
within_grown (m ∷ mappings) one other grows within =
    let own = grows m.name (ap (λ b. b || is_mapped m.name mappings) ((bytes_eq-Decides m.name m.name).1 refl)) in (
      omega (arith, within.0, own),
      within_grown mappings one other (λ name is. grows name (or_right (bytes_eq m.name name) (is_mapped name mappings) is)) within.1,
    )

-- files that are listed as before
within_listed : (mappings : List Mapping) (one other : List File) → map entry_of_file other ≡ map entry_of_file one → AreWithin mappings one → AreWithin mappings other
within_listed mappings one other same within = within_grown mappings one other (λ name is. as_long name) within
  where
    as_long : (name : List ℕ) → length (pages_named name one) ≤ length (pages_named name other)
    as_long name = let long = count_is name one ∙ ap (count_of name) (sym same) ∙ sym (count_is name other) in omega (arith, long)

-- a file that is mapped is none that may not be
apart : (text name : List ℕ) (mappings : List Mapping) → is_mapped text mappings ≡ false → is_mapped name mappings ≡ true → bytes_eq text name ≡ false
apart text name mappings free is = by_test (bytes_eq text name) (bytes_eq-Decides text name)
  where
    by_test : (b : Bool) → Decides b (text ≡ name) → b ≡ false
    by_test false tells = refl
    by_test true tells = absurd (both_ways (is_mapped name mappings) (ap (λ n. is_mapped n mappings) (sym (tells.0 refl)) ∙ free) is)

-- why a change of files is not refused
not_there : (name : List ℕ) (files : List File) → if_exists name files ≡ None → has_file file_name name files ≡ false
not_there name files none = by_test (has_file file_name name files) none
  where
    by_test : (b : Bool) → (if b then Some (Refused because.Exists) else None) ≡ None → b ≡ false
    by_test true is = cc is
    by_test false is = refl

unmapped : (name : List ℕ) (mappings : List Mapping) → if_mapped name mappings ≡ None → is_mapped name mappings ≡ false
unmapped name mappings none = by_test (is_mapped name mappings) none
  where
    by_test : (b : Bool) → (if b then Some (Refused because.Mapped) else None) ≡ None → b ≡ false
    by_test true is = cc is
    by_test false is = refl

-- a file is made, of a name that had none
within_created : (mappings : List Mapping) (text : List ℕ) (pages : ℕ) (files : List File) → has_file file_name text files ≡ false → AreWithin mappings files
    → AreWithin mappings (put_file file_name (new_file text pages) files)
within_created mappings text pages files none within = within_grown mappings files (put_file file_name (new_file text pages) files) (λ name is. by_name name (bytes_eq text name) refl) within
  where
    by_name : (name : List ℕ) (b : Bool) → bytes_eq text name ≡ b → length (pages_named name files) ≤ length (pages_named name (put_file file_name (new_file text pages) files))
    by_name name true same =
        let empty = ap (λ n. length (pages_named n files)) (sym ((bytes_eq-Decides text name).0 same)) ∙ no_pages text files none in omega (arith, empty)
    by_name name false other = let same = ap length (named-put name (new_file text pages) files other) in omega (arith, same)

within_deleted : (mappings : List Mapping) (text : List ℕ) (files : List File) → is_mapped text mappings ≡ false → AreWithin mappings files
    → AreWithin mappings (without_file file_name text files)
within_deleted mappings text files free within =
    within_grown mappings files (without_file file_name text files)
    (λ name is. let same = ap length (named-without name text (apart text name mappings free is) files) in omega (arith, same)) within

within_renamed : (mappings : List Mapping) (text to : List ℕ) (files : List File) → is_mapped text mappings ≡ false → has_file file_name to files ≡ false → AreWithin mappings files
    → AreWithin mappings (rename_file file_name text (with_name to) files)
within_renamed mappings text to files free none within =
    within_grown mappings files (rename_file file_name text (with_name to) files) (λ name is. by_name name (apart text name mappings free is) (bytes_eq to name) refl) within
  where
    by_name : (name : List ℕ) → bytes_eq text name ≡ false → (b : Bool) → bytes_eq to name ≡ b
        → length (pages_named name files) ≤ length (pages_named name (rename_file file_name text (with_name to) files))
    by_name name other true same =
        let empty = ap (λ n. length (pages_named n files)) (sym ((bytes_eq-Decides to name).0 same)) ∙ no_pages to files none in omega (arith, empty)
    by_name name other false differ = let same = ap length (named-rename name text other to (with_name to) (λ x. refl) differ files) in omega (arith, same)

within_resized : (mappings : List Mapping) (text : List ℕ) (pages : ℕ) (files : List File) → is_mapped text mappings ≡ false → AreWithin mappings files
    → AreWithin mappings (change_file file_name text (with_pages pages) files)
within_resized mappings text pages files free within =
    within_grown mappings files (change_file file_name text (with_pages pages) files)
    (λ name is. let same = ap length (named-change name text (apart text name mappings free is) (with_pages pages) (λ x. refl) files) in omega (arith, same)) within

-- a mapping is made, one is taken, and a copy is stored in
within_append : (mappings : List Mapping) (m : Mapping) (files : List File) → AreWithin mappings files → m.start + m.len ≤ 4096 * length (pages_named m.name files)
    → AreWithin (mappings ++ m ∷ []) files
within_append [] m files within own = (own, tt)
within_append (first ∷ mappings) m files within own = (within.0, within_append mappings m files within.1 own)

within_without : (handle : ℕ) (mappings : List Mapping) (files : List File) → AreWithin mappings files → AreWithin (without_mapping handle mappings) files
within_without handle [] files within = tt
within_without handle (m ∷ mappings) files within = by_test (not (has_handle handle m)) (within_without handle mappings files within.1)
  where
    by_test : (b : Bool) → AreWithin (without_mapping handle mappings) files → AreWithin (cond b (m ∷ without_mapping handle mappings) (without_mapping handle mappings)) files
    by_test true rest = (within.0, rest)
    by_test false rest = rest

within_copied : (handle : ℕ) (f : List ℕ → List ℕ) (mappings : List Mapping) (files : List File) → AreWithin mappings files → AreWithin (change_copy handle f mappings) files
within_copied handle f [] files within = tt
within_copied handle f (m ∷ mappings) files within = (within.0, within_copied handle f mappings files within.1)

-- a mapping that is not refused ends within its file
ends_within : (size start len : ℕ) (full : Option Answer) → first_there (option_map Refused (span_refusal size start len)) full ≡ None → start + len ≤ size
ends_within size start len full none = by_test (nat_lt size (start + len)) refl (first_none (option_map Refused (span_refusal size start len)) full none).0
  where
    by_test : (b : Bool) → nat_lt size (start + len) ≡ b → option_map Refused (if b then Some because.Range else (if len == 0 then Some because.Length else None)) ≡ None → start + len ≤ size
    by_test true is none_there = cc none_there
    by_test false is none_there = grind (arith, nat_tests)

-- what a command that is not refused comes to
abbrev Lies : Fate → Type 0
Lies (Gives good to) = AreWithin to.mappings to.files
Lies (Works good to) = AreWithin to.mappings to.files
Lies (Orders order to) = AreWithin to.mappings to.files
Lies (Cuts to) = AreWithin to.mappings to.files
Lies (Restarts choice) = Unit {0}
Lies Recovers = Unit {0}

lies : (h : Machine) (action : Action) → refusal h action ≡ None → AreWithin h.mappings h.files → Lies ((meaning action).comes h)
lies h (Create name pages) none within = within_created h.mappings name pages h.files (not_there name h.files (named_none h (Create name pages) none)) within
lies h (Delete name) none within =
    within_deleted h.mappings name h.files (unmapped name h.mappings (first_none (if_missing name h.files) (if_mapped name h.mappings) (named_none h (Delete name) none)).1) within
lies h (Rename name to) none within =
    let reasons = (first_none (if_missing name h.files) (first_there (if_exists to h.files) (if_mapped name h.mappings)) (named_none h (Rename name to) none)).1 in
    let both = first_none (if_exists to h.files) (if_mapped name h.mappings) reasons in
    within_renamed h.mappings name to h.files (unmapped name h.mappings both.1) (not_there to h.files both.0) within
lies h (Resize name pages) none within =
    within_resized h.mappings name pages h.files (unmapped name h.mappings (first_none (if_missing name h.files) (if_mapped name h.mappings) (named_none h (Resize name pages) none)).1) within
lies h (FWrite name offset bytes) none within = within_listed h.mappings h.files _ (entries_made (FWrite name offset bytes) h.mappings h.files refl) within
lies h (FAtomic name offset bytes) none within = within_listed h.mappings h.files _ (entries_made (FAtomic name offset bytes) h.mappings h.files refl) within
lies h (FMulti name ranges bytes) none within = within_listed h.mappings h.files _ (entries_made (FMulti name ranges bytes) h.mappings h.files refl) within
lies h (FDiscard name page count) none within = within_listed h.mappings h.files _ (entries_made (FDiscard name page count) h.mappings h.files refl) within
lies h (FSync name) none within = within_listed h.mappings h.files _ (entries_made (FSync name) h.mappings h.files refl) within
lies h (Map name span kind) none within = of_map Lies h name span kind made made
  where
    made : AreWithin (with_mapping name span kind h).mappings h.files
    made =
        within_append h.mappings (new_mapping h.next_handle name span kind (pages_named name h.files)) h.files within
        (ends_within (4096 * length (pages_named name h.files)) span.start span.len (if_full_of_mappings h) (places_none h (Map name span kind) none))
lies h (Unmap handle) none within = within_without handle h.mappings h.files within
lies h (Load handle offset len) none within = of_load Lies h handle offset len within (λ name place. within) (λ m. within)
lies h (Store handle offset bytes) none within =
    of_store Lies h handle offset bytes within (λ name place. within_listed h.mappings h.files _ (entries_made (FWrite name place bytes) h.mappings h.files refl) within)
    (within_copied handle (overwritten offset bytes) h.mappings h.files within)
lies h (Sync handle offset len) none within =
    of_flush Lies h Once handle (record { start = offset; len = len } ∷ []) within (λ name moved. within_listed h.mappings h.files _ (synced_entries name moved h.files) within)
lies h (Flush handle spans) none within = of_flush Lies h Once handle spans within (λ name moved. within_listed h.mappings h.files _ (synced_entries name moved h.files) within)
lies h (FlushVerify handle spans) none within = of_flush Lies h Again handle spans within (λ name moved. within_listed h.mappings h.files _ (synced_entries name moved h.files) within)
lies h (DeepFlush handle spans) none within = of_flush Lies h Once handle spans within (λ name moved. within_listed h.mappings h.files _ (synced_entries name moved h.files) within)
lies h (PoisonFile name offset) none within = within_listed h.mappings h.files _ (entries_made (PoisonFile name offset) h.mappings h.files refl) within
lies h (WeakenFile name offset) none within = within_listed h.mappings h.files _ (entries_made (WeakenFile name offset) h.mappings h.files refl) within
lies h (ClearFile name offset) none within = within_listed h.mappings h.files _ (entries_made (ClearFile name offset) h.mappings h.files refl) within
lies h (Restart choice) none within = tt
lies h Recover none within = tt
lies h action none within = within

within_as : (h next : Machine) → next.mappings ≡ h.mappings → next.files ≡ h.files → AreWithin h.mappings h.files → AreWithin next.mappings next.files
within_as h next mappings files within =
    subst (λ fs. AreWithin next.mappings fs) {x = h.files} (sym files) (subst (λ ms. AreWithin ms h.files) {x = h.mappings} (sym mappings) within)

none_mapped : (next : Machine) → next.mappings ≡ [] → AreWithin next.mappings next.files
none_mapped next none = subst (λ ms. AreWithin ms next.files) {x = []} (sym none) tt

by_fate : (h : Machine) (action : Action) (f : Fate) (said : Transcript) (next : Machine) → Lies f → AreWithin h.mappings h.files → Takes h action f said next → AreWithin next.mappings next.files
by_fate h action (Gives good to) said next made within takes = within_as to next (ap (λ m. m.mappings) takes.1) (ap (λ m. m.files) takes.1) made
by_fate h action (Works good to) said next made within takes = elim takes.2 as (λ _. AreWithin next.mappings next.files) [
  | inl end ↦ within_as to next (ap (λ m. m.mappings) end.1) (ap (λ m. m.files) end.1) made
  | inr end ↦ within_as h next (ap (λ m. m.mappings) end.2.state) (ap (λ m. m.files) end.2.state) within
]
by_fate h action (Orders order to) said next made within takes = within_as to next (ap (λ m. m.mappings) takes.1) (ap (λ m. m.files) takes.1) made
by_fate h action (Cuts to) said next made within takes = within_as to next (ap (λ m. m.mappings) takes.1) (ap (λ m. m.files) takes.1) made
by_fate h action (Restarts choice) said next made within takes = elim takes.5 as (λ _. AreWithin next.mappings next.files) [
  | inl end ↦ none_mapped next (ap (λ m. m.mappings) end.1 ∙ read-unmapped h.geometry takes.0.image)
  | inr end ↦ none_mapped next (ap (λ m. m.mappings) end.2.state ∙ read-unmapped h.geometry takes.0.image)
]
by_fate h action Recovers said next made within takes = elim takes.2 as (λ _. AreWithin next.mappings next.files) [
  | inl end ↦ none_mapped next (recovered-unmapped h next h.bad_meta end.1)
  | inr end ↦ within_as h next (ap (λ m. m.mappings) end.2.state) (ap (λ m. m.files) end.2.state) within
]

within_heard : (h next : Machine) (input : Input) (said : Transcript) → AreWithin h.mappings h.files → Hears h input said next → AreWithin next.mappings next.files
within_heard h next Skipped said within heard = subst (λ (m : Machine). AreWithin m.mappings m.files) (sym heard.1) within
within_heard h next Malformed said within heard = subst (λ (m : Machine). AreWithin m.mappings m.files) (sym heard.1) within
within_heard h next Overlong said within heard = subst (λ (m : Machine). AreWithin m.mappings m.files) (sym heard.1) within
within_heard h next (Asked action) said within heard = by_refusal (refusal h action) refl heard
  where
    by_refusal : (o : Option Answer) → refusal h action ≡ o → Takes h action (unless_refused h o ((meaning action).comes h)) said next → AreWithin next.mappings next.files
    by_refusal None none takes = by_fate h action ((meaning action).comes h) said next (lies h action none within) within takes
    by_refusal (Some answer) some takes = subst (λ (m : Machine). AreWithin m.mappings m.files) (sym takes.1) within

pub within_run : (h later : Machine) (inputs : List Input) (said : Transcript) → AreWithin h.mappings h.files → Run h inputs said later → AreWithin later.mappings later.files
within_run h later [] said within run = subst (λ (m : Machine). AreWithin m.mappings m.files) (sym run.1) within
within_run h later (input ∷ inputs) said within run = within_run run.2 later inputs run.1 (within_heard h run.2 input run.0 within run.4) run.5

-- the one that has a handle does
pub within_of : (handle : ℕ) (mappings : List Mapping) (files : List File) (m : Mapping) → mapping_of handle mappings ≡ Some m → AreWithin mappings files
    → m.start + m.len ≤ 4096 * length (pages_named m.name files)
within_of handle [] files m is within = cc is
within_of handle (first ∷ mappings) files m is within = by_test (has_handle handle first) is (λ rest. within_of handle mappings files m rest within.1)
  where
    by_test : (b : Bool) → cond b (Some first) (mapping_of handle mappings) ≡ Some m → (mapping_of handle mappings ≡ Some m → m.start + m.len ≤ 4096 * length (pages_named m.name files))
        → m.start + m.len ≤ 4096 * length (pages_named m.name files)
    by_test true same later = let at : first ≡ m = cc same in subst (λ (n : Mapping). n.start + n.len ≤ 4096 * length (pages_named n.name files)) at within.0
    by_test false rest later = later rest
