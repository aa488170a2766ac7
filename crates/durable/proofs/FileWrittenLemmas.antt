-- What was stored in a file is what it has while the power stays on, and what lasts once it is flushed.
use Rattle.std.proofs.Common.{◌≡◌, ◌⊎◌, inl, inr, ℕ, ◌+◌, ◌-◌, ◌*◌, ◌/◌, ◌%◌, ◌<◌, ◌≤◌, Bool, true, false, Option, Some, None, option_map, List, [], length, get_or, nat_lt, refl, ap, subst, ◌∙◌, arith, ◌==◌, if◌then◌else◌, sym}
use Rattle.std.specs.Prelude.{slice_index}
use Rattle.std.proofs.lemmas.Bool.{and_parts, both_ways}
use Rattle.std.proofs.lemmas.Bool.Decides.{nat_tests}
use Rattle.nvm_base.proofs.FirstLemmas.{not_mapped}
use Rattle.nvm_model.specs.Cell.{Cell, clear_cell, flush_cell, touches}
use Rattle.nvm_model.specs.Cell.Cell.{Bad, Kept}
use Rattle.nvm_model.specs.Numbered.{is_among}
use Rattle.nvm_model.specs.Page.{Page, cell_of, fill, first_uncovered_line, put}
use Rattle.file_pages.specs.Refusals.{bytes_refusal}
use Rattle.nvm_model.specs.Storage.{Mapping}
use Rattle.reply_text.specs.declared.reply.Why.TheVariants as because
use Rattle.reply_text.specs.Answer.Answer.{Done, Refused}
use Rattle.script_text.specs.Action.{Action}
use Rattle.script_text.specs.Action.Action.{ClearFile, FWrite, Store}
use Rattle.script_text.specs.Script.Input.{Asked}
use Rattle.machine_model.specs.Commands.{meaning, refusal}
use Rattle.machine_model.specs.Machine.Fate.{Gives}
use Rattle.machine_model.specs.Meaning.{Reasons, no_reasons, span_refusal}
use Rattle.machine_model.specs.OnMappings.{store_through, write_copy}
use Rattle.machine_model.specs.Machine.{Machine}
use Rattle.machine_model.specs.OnFileErrors.{marked_in}
use Rattle.machine_model.specs.OnPages.{fwrite, page_answer, pages_named, stored_in}
use Rattle.durable.specs.Place.{byte_at_place, is_weak_line, line_has}
use Rattle.durable.specs.Place.Place.{of_file}
use Rattle.durable.specs.Touching.{changes, is_made_durable, wears}
use Rattle.durable.specs.Durable.{BringsBytes, Does, Finishes, HaveLines, IsComplete, IsShown, KeepsByte, Lasts, LastsPowered}
use Rattle.durable.proofs.LineLemmas.{MayBe, flush_shown, zero_shown}
use Rattle.durable.proofs.FileLineLemmas.{LineFlushed}
use Rattle.durable.proofs.FileKeepLemmas.{in_line}
use Rattle.durable.proofs.CoverLemmas.{file-cleared, file_renewed, was_bad_in}
use Rattle.durable.proofs.FileThereLemmas.{lines-named}
use Rattle.durable.proofs.LawLemmas.{Came, covers_unharmed, done_by, durable, finished_durable, lasts_powered}
use Rattle.durable.proofs.NamedPageLemmas.{named-own}
use Rattle.durable.proofs.RefusalLemmas.{is_on, places_none, unreadable_none}
use Rattle.durable.proofs.KeepLemmas.{altered_place}
use Rattle.durable.proofs.SparedLemmas.{keeps_bytes}
use Rattle.durable.proofs.VolumeLemmas.{VolumeKeeps, byte-kept, there-kept}
use Rattle.durable.proofs.ThereLemmas.{lines-fill}
use Rattle.durable.proofs.WholeLemmas.{whole-heard}
use Rattle.durable.proofs.WithinLemmas.{within_of}
use Rattle.durable.specs.Mapped.{AreWithin}
use Rattle.durable.proofs.WrittenLemmas.{bad_covered, filled_there, stored_byte, works_done}

-- a store that is not refused ends within the file
within_pages : (pages at len : ℕ) → bytes_refusal pages at len ≡ None → at + len ≤ 4096 * pages
within_pages pages at len none = by_test (nat_lt (4096 * pages) (at + len)) refl none
  where
    by_test : (b : Bool) → nat_lt (4096 * pages) (at + len) ≡ b → bytes_refusal pages at len ≡ None → at + len ≤ 4096 * pages
    by_test true is none_there = cc (is, none_there)
    by_test false is none_there = grind (arith, nat_tests)

-- a byte of pages that were stored in
byte_put : (at i : ℕ) (bytes : List ℕ) (pages : List Page) → ((k : ℕ) → get_or bytes k 0 < 256) → is_among at (length bytes) i ≡ true → HaveLines pages
    → at + length bytes ≤ 4096 * length pages → first_uncovered_line pages at (length bytes) ≡ None
    → line_has (cell_of (put at bytes (fill at (length bytes) pages)) (i / 64)) (i % 64) ≡ Some (slice_index bytes (i - at))
byte_put at i bytes pages small among lines within none =
    let present = filled_there at (length bytes) i pages among (omega (arith, to, within)) in
    stored_byte at i bytes (fill at (length bytes) pages) small among (lines-fill at (length bytes) pages lines (i / 64) present)
    (bad_covered at (length bytes) (i / 64) pages lines (omega (arith, from, to)) none touched present)
  where
    from : at ≤ i
    from = grind (arith, nat_tests)

    to : i < at + length bytes
    to = grind (arith, nat_tests)

    touched : touches at (length bytes) (i / 64) ≡ true
    touched = grind (arith, nat_tests)

-- and of files
file_put : (h : Machine) (name : List ℕ) (at i : ℕ) (bytes : List ℕ) → ((k : ℕ) → get_or bytes k 0 < 256) → is_among at (length bytes) i ≡ true → IsComplete h
    → at + length bytes ≤ 4096 * length (pages_named name h.files) → first_uncovered_line (pages_named name h.files) at (length bytes) ≡ None
    → line_has (cell_of (pages_named name (stored_in name at bytes h.files)) (i / 64)) (i % 64) ≡ Some (slice_index bytes (i - at))
file_put h name at i bytes small among whole within good =
    ap (λ p. line_has (cell_of p (i / 64)) (i % 64)) (own (named-own name change h.files)) ∙ byte_put at i bytes old small among (lines-named name h.files whole.file_lines) within good
  where
    old : List Page
    old = pages_named name h.files

    change : List Page → List Page
    change pages = put at bytes (fill at (length bytes) pages)

    to : i < at + length bytes
    to = grind (arith, nat_tests)

    own : (pages_named name (stored_in name at bytes h.files) ≡ change old) ⊎ ((pages_named name (stored_in name at bytes h.files) ≡ old) × (old ≡ []))
        → pages_named name (stored_in name at bytes h.files) ≡ change old
    own (inl is) = is
    own (inr none) = let empty : length old ≡ 0 = ap length none.1 in absurd (omega (arith, to, within, empty))

-- what it made
stored_is : (h stored : Machine) (name : List ℕ) (at : ℕ) (bytes : List ℕ) → Does h (FWrite name at bytes) stored
    → (refusal h (FWrite name at bytes) ≡ None) × (stored ≡ record h { files = stored_in name at bytes h.files })
stored_is h stored name at bytes stores = works_done h (FWrite name at bytes) (record h { files = stored_in name at bytes h.files }) stored refl stores

stored_shown : (h stored : Machine) (name : List ℕ) (at i : ℕ) (bytes : List ℕ) → ((k : ℕ) → get_or bytes k 0 < 256) → Does h (FWrite name at bytes) stored
    → is_among at (length bytes) i ≡ true → byte_at_place stored (of_file name i) ≡ Some (slice_index bytes (i - at))
stored_shown h stored name at i bytes small stores among =
    let put_is = stored_is h stored name at bytes stores in
    let old : List Page = pages_named name h.files in
    let within = within_pages (length old) at (length bytes) (not_mapped (page_answer name) _ (places_none h (FWrite name at bytes) put_is.0)) in
    let good = not_mapped _ (first_uncovered_line old at (length bytes)) (not_mapped (page_answer name) _ (unreadable_none h (FWrite name at bytes) put_is.0)) in
    ap (λ m. byte_at_place m (of_file name i)) put_is.1 ∙ file_put h name at i bytes small among stores.whole within good

-- a store through a mapping that shows its file
store_comes : (h : Machine) (handle offset : ℕ) (bytes : List ℕ) (m : Mapping) → IsShown h handle m
    → (meaning (Store handle offset bytes)).comes h ≡ (fwrite m.name (m.start + offset) bytes).comes h
store_comes h handle offset bytes m shows =
    ap (λ (o : Option Mapping). elim o [ None ↦ Gives Done h | Some n ↦ (store_through handle offset bytes n).comes h ]) shows.is
    ∙ ap (λ b. (if b then fwrite m.name (m.start + offset) bytes else write_copy handle offset bytes).comes h) shows.shared

store_reasons : (h : Machine) (handle offset : ℕ) (bytes : List ℕ) (m : Mapping) → IsShown h handle m
    → (meaning (Store handle offset bytes)).reasons h
    ≡ record ((fwrite m.name (m.start + offset) bytes).reasons h) { named = None; places = option_map Refused (span_refusal m.len offset (length bytes)) }
store_reasons h handle offset bytes m shows =
    ap (λ (o : Option Mapping). elim o [ None ↦ record no_reasons { named = Some (Refused because.Handle) } | Some n ↦ (store_through handle offset bytes n).reasons h ]) shows.is
    ∙ ap (λ b. record ((if b then fwrite m.name (m.start + offset) bytes else write_copy handle offset bytes).reasons h) { named = None; places = option_map Refused (span_refusal m.len offset (length bytes)) }) shows.shared

-- one that is not refused ends within the mapping
within_mapping : (len offset count : ℕ) → option_map Refused (span_refusal len offset count) ≡ None → offset + count ≤ len
within_mapping len offset count none = by_test (nat_lt len (offset + count)) refl none
  where
    by_test : (b : Bool) → nat_lt len (offset + count) ≡ b → option_map Refused (if b then Some because.Range else (if count == 0 then Some because.Length else None)) ≡ None → offset + count ≤ len
    by_test true is none_there = cc none_there
    by_test false is none_there = grind (arith, nat_tests)

mapped_shown : (h stored : Machine) (handle offset i : ℕ) (bytes : List ℕ) (m : Mapping) → ((k : ℕ) → get_or bytes k 0 < 256) → IsShown h handle m
    → AreWithin h.mappings h.files → Does h (Store handle offset bytes) stored → is_among (m.start + offset) (length bytes) i ≡ true
    → byte_at_place stored (of_file m.name i) ≡ Some (slice_index bytes (i - (m.start + offset)))
mapped_shown h stored handle offset i bytes m small shows within stores among =
    let lies = within_of handle h.mappings h.files m shows.is within in
    let done = works_done h (Store handle offset bytes) (record h { files = stored_in m.name (m.start + offset) bytes h.files }) stored (store_comes h handle offset bytes m shows) stores in
    let reasons = store_reasons h handle offset bytes m shows in
    let inside = within_mapping m.len offset (length bytes) (sym (ap (λ (r : Reasons). r.places) reasons) ∙ places_none h (Store handle offset bytes) done.0) in
    let good = not_mapped _ (first_uncovered_line (pages_named m.name h.files) (m.start + offset) (length bytes))
    (not_mapped (page_answer m.name) _ (sym (ap (λ (r : Reasons). r.unreadable) reasons) ∙ unreadable_none h (Store handle offset bytes) done.0)) in
    ap (λ s. byte_at_place s (of_file m.name i)) done.1 ∙ file_put h m.name (m.start + offset) i bytes small among stores.whole (omega (arith, lies, inside)) good

pub stored_in_powered : (h stored : Machine) (name : List ℕ) (at i : ℕ) (bytes : List ℕ) → ((k : ℕ) → get_or bytes k 0 < 256) → Does h (FWrite name at bytes) stored
    → is_among at (length bytes) i ≡ true → is_weak_line (cell_of (pages_named name stored.files) (i / 64)) ≡ false
    → LastsPowered stored (of_file name i) (Some (slice_index bytes (i - at)))
stored_in_powered h stored name at i bytes small stores among strong =
    let put_is = stored_is h stored name at bytes stores in
    subst (LastsPowered stored (of_file name i)) (stored_shown h stored name at i bytes small stores among)
    (lasts_powered stored (of_file name i) (whole-heard h (Asked (FWrite name at bytes)) stores.said stored stores.whole stores.came)
    (ap (λ m. m.mode) put_is.1 ∙ is_on h (FWrite name at bytes) refl put_is.0) strong)

pub mapped_powered : (h stored : Machine) (handle offset i : ℕ) (bytes : List ℕ) (m : Mapping) → ((k : ℕ) → get_or bytes k 0 < 256) → IsShown h handle m → AreWithin h.mappings h.files
    → Does h (Store handle offset bytes) stored → is_among (m.start + offset) (length bytes) i ≡ true → is_weak_line (cell_of (pages_named m.name stored.files) (i / 64)) ≡ false
    → LastsPowered stored (of_file m.name i) (Some (slice_index bytes (i - (m.start + offset))))
mapped_powered h stored handle offset i bytes m small shows within stores among strong =
    let done = works_done h (Store handle offset bytes) (record h { files = stored_in m.name (m.start + offset) bytes h.files }) stored (store_comes h handle offset bytes m shows) stores in
    subst (LastsPowered stored (of_file m.name i)) (mapped_shown h stored handle offset i bytes m small shows within stores among)
    (lasts_powered stored (of_file m.name i) (whole-heard h (Asked (Store handle offset bytes)) stores.said stored stores.whole stores.came)
    (ap (λ s. s.mode) done.1 ∙ is_on h (Store handle offset bytes) refl done.0) strong)

-- a line that was flushed shows what it had
flushed_shown : (i byte : ℕ) (old new : List Page) → LineFlushed i old new → is_weak_line (cell_of old (i / 64)) ≡ false → line_has (cell_of old (i / 64)) (i % 64) ≡ Some byte
    → line_has (cell_of new (i / 64)) (i % 64) ≡ Some byte
flushed_shown i byte old new flushed strong has = ap (λ o. line_has o (i % 64)) flushed.line ∙ by_line (cell_of old (i / 64)) strong has
  where
    by_line : (o : Option Cell) → is_weak_line o ≡ false → line_has o (i % 64) ≡ Some byte → line_has (option_map flush_cell o) (i % 64) ≡ Some byte
    by_line None healthy shown = shown
    by_line (Some Bad) healthy shown = cc shown
    by_line (Some (Kept weak words)) healthy shown = flush_shown (Kept weak words) (i % 64) refl healthy ∙ shown

-- a byte that a command kept, as it made it durable anew
kept_anew : (h next : Machine) (action : Action) (name : List ℕ) (i : ℕ) (v : Option ℕ) → BringsBytes action → IsComplete h → byte_at_place h (of_file name i) ≡ v → Came h action next
    → is_made_durable h action (of_file name i) ≡ true → (wears h action (of_file name i) ≡ false) × (changes h.mappings action (of_file name i) ≡ false) → byte_at_place next (of_file name i) ≡ v
kept_anew h next action name i v small whole has came covered anew =
    elim (byte-kept since (pages_named name next.files) i v
    (altered_place since h action next (of_file name i) v came.to (record {
      change = anew.1;
      brings = small;
      poison = λ does. absurd (both_ways _ (covers_unharmed h action (of_file name i) covered) does);
      weaken = λ does. refl;
      cover = λ worn weak. absurd (both_ways _ anew.0 worn);
    }) (keeps_bytes h action came.none) old)) as (λ _. byte_at_place next (of_file name i) ≡ v) [
      | inl is ↦ is
      | inr lost ↦ cc lost.1
    ]
  where
    since : MayBe
    since = record { weak = true; lost = false; cut = false }

    old : VolumeKeeps since (pages_named name h.files) i v
    old = subst (VolumeKeeps since (pages_named name h.files) i) has (there-kept since (pages_named name h.files) i refl (λ weak. refl) (lines-named name h.files whole.file_lines))

-- a byte that was there, and then made durable
made_durable_as : (stored next : Machine) (name : List ℕ) (i byte : ℕ) (action : Action) → BringsBytes action → byte_at_place stored (of_file name i) ≡ Some byte
    → Finishes stored action next → is_made_durable stored action (of_file name i) ≡ true → KeepsByte stored action (of_file name i) → Lasts next (of_file name i) (Some byte)
made_durable_as stored next name i byte action brings has does covered keeps =
    subst (Lasts next (of_file name i)) (by_worn (wears stored action (of_file name i)) refl) (finished_durable stored next action (of_file name i) does covered)
  where
    came : Came stored action next
    came = done_by stored next action (of_file name i) does covered

    by_worn : (b : Bool) → wears stored action (of_file name i) ≡ b → byte_at_place next (of_file name i) ≡ Some byte
    by_worn true worn =
        elim (file_renewed stored action next name i covered came.none came.to) as (λ _. byte_at_place next (of_file name i) ≡ Some byte) [
          | inl (inl made) ↦ flushed_shown i byte (pages_named name stored.files) (pages_named name next.files) made (keeps.0 worn) has
          | inl (inr cleared) ↦ cc (ap (λ o. line_has o (i % 64)) cleared.bad, has)
          | inr anew ↦ absurd (both_ways _ anew.0 (and_parts _ _ worn).0)
        ]
    by_worn false anew = kept_anew stored next action name i (Some byte) brings does.whole has came covered (anew, keeps.1 anew)

-- so of one that was stored
pub flushed : (h stored next : Machine) (name : List ℕ) (at i : ℕ) (bytes : List ℕ) (action : Action) → ((k : ℕ) → get_or bytes k 0 < 256) → BringsBytes action
    → Does h (FWrite name at bytes) stored → Finishes stored action next → is_made_durable stored action (of_file name i) ≡ true → is_among at (length bytes) i ≡ true
    → KeepsByte stored action (of_file name i) → Lasts next (of_file name i) (Some (slice_index bytes (i - at)))
flushed h stored next name at i bytes action small brings stores does covered among keeps =
    made_durable_as stored next name i (slice_index bytes (i - at)) action brings (stored_shown h stored name at i bytes small stores among) does covered keeps

pub flushed_mapped : (h stored next : Machine) (handle offset i : ℕ) (bytes : List ℕ) (m : Mapping) (action : Action) → ((k : ℕ) → get_or bytes k 0 < 256) → BringsBytes action
    → IsShown h handle m → AreWithin h.mappings h.files → Does h (Store handle offset bytes) stored → Finishes stored action next
    → is_made_durable stored action (of_file m.name i) ≡ true → is_among (m.start + offset) (length bytes) i ≡ true → KeepsByte stored action (of_file m.name i)
    → Lasts next (of_file m.name i) (Some (slice_index bytes (i - (m.start + offset))))
flushed_mapped h stored next handle offset i bytes m action small brings shows lies stores does covered among keeps =
    made_durable_as stored next m.name i (slice_index bytes (i - (m.start + offset))) action brings (mapped_shown h stored handle offset i bytes m small shows lies stores among) does covered keeps

-- a line that is cleared has zeros
pub cleared_in_file : (h next : Machine) (name : List ℕ) (offset i : ℕ) → Does h (ClearFile name offset) next → i / 64 ≡ offset / 64 → Lasts next (of_file name i) (Some 0)
cleared_in_file h next name offset i does same =
    let done = works_done h (ClearFile name offset) (record h { files = marked_in clear_cell name offset h.files }) next refl does in
    let is : byte_at_place next (of_file name i) ≡ Some 0 =
    ap (λ m. byte_at_place m (of_file name i)) done.1 ∙ ap (λ o. line_has o (i % 64)) (file-cleared name offset i h.files same (was_bad_in h name offset done.0)).zeros
    ∙ zero_shown (i % 64) (omega arith) in
    subst (Lasts next (of_file name i)) is (durable h next (ClearFile name offset) (of_file name i) does (in_line name name i (offset / 64) refl same))
