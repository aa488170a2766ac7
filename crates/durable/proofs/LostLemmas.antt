-- What is lost, and that it stays lost.
use Rattle.std.proofs.Common.{◌≡◌, inl, inr, ℕ, ◌+◌, ◌*◌, ◌/◌, ◌%◌, ◌≤◌, true, false, nat_le, nat_lt, Option, Some, None, option_map, List, [], ◌∷◌, slice_index_or, refl, sym, ap, subst, ◌∙◌, arith}
use Rattle.std.specs.Prelude.{slice_index}
use Rattle.std.proofs.lemmas.Bool.{and_parts, both_ways, eqb-true, or_parts}
use Rattle.std.proofs.lemmas.Bool.Decides.{nat_tests}
use Rattle.nvm_model.specs.Blocks.{lose, lose_at, lose_line, nth}
use Rattle.nvm_model.specs.Cell.{Cell, flush_cell, lose_cell}
use Rattle.nvm_model.specs.Cell.Cell.{Bad, Kept}
use Rattle.nvm_model.specs.Page.{Page, cell_of, change_line, persist}
use Rattle.nvm_model.specs.Storage.{Block}
use Rattle.nvm_model.specs.Storage.Block.{Absent, Scarred, Data}
use Rattle.nvm_model.proofs.LostLemmas.{nth-lost}
use Rattle.nvm_model.proofs.MediaLemmas.{cell_of-changed}
use Rattle.marked_lines.specs.Refusals.{cell_refusal, unit_refusal}
use Rattle.reply_text.specs.Answer.{Answer}
use Rattle.reply_text.specs.Answer.Answer.{Done}
use Rattle.script_text.specs.Action.{Action}
use Rattle.script_text.specs.Action.Action.{PoisonBlock, PoisonFile, PoisonVolume, VSync, VPSync, Sync, Flush, FlushVerify, DeepFlush, ClearVolume}
use Rattle.machine_model.specs.declared.mode.Mode.TheVariants.{On}
use Rattle.machine_model.specs.Machine.{Machine}
use Rattle.machine_model.specs.Machine.Fate.{Gives}
use Rattle.machine_model.specs.Commands.{meaning, refusal, unless_refused}
use Rattle.machine_model.specs.OnFileErrors.{marked_in, with_poisoned}
use Rattle.machine_model.specs.OnPages.{pages_named}
use Rattle.machine_model.specs.OnVolume.{persist_at}
use Rattle.machine_model.specs.Run.{Takes}
use Rattle.pm_volume.specs.Refusals.{physical_offset}
use Rattle.durable.specs.Place.{Place, block_has, byte_at_place, is_weak_at, is_weak_line, line_has}
use Rattle.durable.specs.Place.Place.{of_volume, of_blocks, of_file}
use Rattle.durable.specs.Region.{touched_lines_at}
use Rattle.durable.specs.Touching.{is_made_durable, wears}
use Rattle.durable.specs.Durable.{Does, Finishes, IsComplete, Lasts}
use Rattle.durable.proofs.StepKinds.{volume_after}
use Rattle.durable.proofs.FileLineLemmas.{LineFlushed, named-marked, persist-flushed}
use Rattle.durable.proofs.SparedLemmas.{KeptBy, SparedBy}
use Rattle.durable.proofs.KeepLemmas.{PlaceKeeps}
use Rattle.durable.proofs.CoverLemmas.{file_renewed, no_volume, was_bad}
use Rattle.durable.proofs.LineLemmas.{MayBe, lost-kept}
use Rattle.durable.proofs.BlockLemmas.{lost_there}
use Rattle.durable.proofs.LawLemmas.{done_by, lasts}
use Rattle.durable.proofs.RefusalLemmas.{line_none, places_none, refused_told, within_none}
use Rattle.durable.proofs.RefusedAnswerLemmas.{is_refused}

pub stays_lost : (h : Machine) (x : Place) → IsComplete h → h.mode ≡ On → byte_at_place h x ≡ None → Lasts h x None
stays_lost h x whole on lost = lasts h x None whole (λ since. record {
  place = by_place since x lost;
  spared = subst (λ o. SparedBy since h.geometry h.mappings o x) (sym (whole.settled on)) tt;
  fine = subst (λ o. KeptBy o h.files) (sym (whole.settled on)) tt;
  settled = whole.settled;
})
  where
    by_place : (since : MayBe) (x : Place) → byte_at_place h x ≡ None → PlaceKeeps since h x None
    by_place since (of_volume i) none = inr (lost-kept since (cell_of h.volume (i / 64)) (i % 64) none)
    by_place since (of_blocks i) none = inl none
    by_place since (of_file name i) none = inr (lost-kept since (cell_of (pages_named name h.files) (i / 64)) (i % 64) none)

-- a command that needs no call of the device, and was done
gives_done : (h : Machine) (action : Action) (to next : Machine) → (meaning action).comes h ≡ Gives Done to → Does h action next → (refusal h action ≡ None) × (next ≡ to)
gives_done h action to next gives does = by_refusal (refusal h action) refl does.came
  where
    by_refusal : (o : Option Answer) → refusal h action ≡ o → Takes h action (unless_refused h o ((meaning action).comes h)) does.said next
        → (refusal h action ≡ None) × (next ≡ to)
    by_refusal (Some answer) is took =
        let same : answer ≡ Done = cc (ap (λ s. s.answers) took.0, does.done) in
        absurd (both_ways (is_refused answer) (ap is_refused same) (refused_told h action answer is))
    by_refusal None is took = let t = subst (λ f. Takes h action f does.said next) gives took in (is, t.1)

-- a line that is there is lost
lost_line : (o : Option Cell) (k : ℕ) → cell_refusal o ≡ None → line_has (option_map lose_cell o) k ≡ None
lost_line None k none = cc none
lost_line (Some cell) k none = refl

pub poisoned : (h next : Machine) (offset i : ℕ) → Does h (PoisonVolume offset) next → i / 64 ≡ offset / 64 → byte_at_place next (of_volume i) ≡ None
poisoned h next offset i does same =
    let done = gives_done h (PoisonVolume offset) (record h { volume = change_line lose_cell (offset / 64) h.volume }) next refl does in
    let there = (within_none _ (cell_refusal (cell_of h.volume (offset / 64))) (line_none _ (places_none h (PoisonVolume offset) done.0))).1 in
    ap (λ m. line_has (cell_of m.volume (i / 64)) (i % 64)) done.1
    ∙ ap (λ n. line_has (cell_of (change_line lose_cell (offset / 64) h.volume) n) (i % 64)) same
    ∙ ap (λ o. line_has o (i % 64)) (cell_of-changed lose_cell (offset / 64) h.volume)
    ∙ lost_line (cell_of h.volume (offset / 64)) (i % 64) there

pub poisoned_block : (h next : Machine) (block line i : ℕ) → Does h (PoisonBlock block line) next → i / 64 ≡ 8 * block + line → byte_at_place next (of_blocks i) ≡ None
poisoned_block h next block line i does same =
    let done = gives_done h (PoisonBlock block line) (record h { blocks = lose block line h.blocks }) next refl does in
    let places = within_none _ (unit_refusal (nth h.blocks block)) (line_none _ (places_none h (PoisonBlock block line) done.0)) in
    let small = (or_parts (nat_le h.geometry.blocks block) (nat_lt 7 line) places.0).1 in
    let few : line ≤ 7 = grind (arith, nat_tests) in
    let at : i / 512 ≡ block = omega (arith, same, few) in
    let which : (i % 512) / 64 ≡ line = omega (arith, same, few) in
    ap (λ m. block_has (nth m.blocks (i / 512)) (i % 512)) done.1
    ∙ ap (λ n. block_has (nth (lose block line h.blocks) n) (i % 512)) at
    ∙ ap (λ b. block_has b (i % 512)) (nth-lost block line h.blocks)
    ∙ by_block which (nth h.blocks block) places.1
  where
    by_block : (i % 512) / 64 ≡ line → (b : Block) → unit_refusal b ≡ None → block_has (lose_line line b) (i % 512) ≡ None
    by_block which Absent none = cc none
    by_block which Scarred none = refl
    by_block which (Data lines) none =
        ap (option_map (λ bytes. slice_index bytes (i % 512 % 64))) (ap (λ k. slice_index_or (lose_at line lines) k None) which ∙ lost_there line lines)

pub poisoned_in_file : (h next : Machine) (name : List ℕ) (offset i : ℕ) → Does h (PoisonFile name offset) next → i / 64 ≡ offset / 64 → byte_at_place next (of_file name i) ≡ None
poisoned_in_file h next name offset i does same =
    let done = gives_done h (PoisonFile name offset) (with_poisoned name offset h) next refl does in
    let there = (within_none _ (cell_refusal (cell_of (pages_named name h.files) (offset / 64))) (line_none _ (places_none h (PoisonFile name offset) done.0))).1 in
    ap (λ m. line_has (cell_of (pages_named name m.files) (i / 64)) (i % 64)) done.1
    ∙ ap (λ n. line_has (cell_of (pages_named name (marked_in lose_cell name offset h.files)) n) (i % 64)) same
    ∙ ap (λ o. line_has o (i % 64)) (named-marked lose_cell name offset h.files)
    ∙ lost_line (cell_of (pages_named name h.files) (offset / 64)) (i % 64) there

-- a weak line that was flushed
worn_line : (i : ℕ) (old new : List Page) → LineFlushed i old new → is_weak_line (cell_of old (i / 64)) ≡ true → line_has (cell_of new (i / 64)) (i % 64) ≡ None
worn_line i old new flushed weak = ap (λ o. line_has o (i % 64)) flushed.line ∙ by_line (cell_of old (i / 64)) weak
  where
    by_line : (o : Option Cell) → is_weak_line o ≡ true → line_has (option_map flush_cell o) (i % 64) ≡ None
    by_line None is = cc is
    by_line (Some Bad) is = refl
    by_line (Some (Kept true words)) is = refl
    by_line (Some (Kept false words)) is = cc is

worn_at : (o : Option ℕ) (len i : ℕ) (pages : List Page) → (touched_lines_at o len).volume i ≡ true → is_weak_line (cell_of pages (i / 64)) ≡ true
    → line_has (cell_of (persist_at o len pages) (i / 64)) (i % 64) ≡ None
worn_at None len i pages covered weak = cc covered
worn_at (Some start) len i pages covered weak = worn_line i pages (persist start len pages) (persist-flushed start len i pages covered) weak

worn_in_volume : (h next : Machine) (action : Action) (i : ℕ) → is_made_durable h action (of_volume i) ≡ true → is_weak_line (cell_of h.volume (i / 64)) ≡ true
    → refusal h action ≡ None → next.volume ≡ volume_after h.geometry action h.volume → byte_at_place next (of_volume i) ≡ None
worn_in_volume h next (VSync offset len) i covered weak none to =
    ap (λ p. line_has (cell_of p (i / 64)) (i % 64)) to ∙ worn_at (Some offset) len i h.volume covered weak
worn_in_volume h next (VPSync address len) i covered weak none to =
    ap (λ p. line_has (cell_of p (i / 64)) (i % 64)) to ∙ worn_at (physical_offset h.geometry address len) len i h.volume covered weak
worn_in_volume h next (ClearVolume offset) i covered weak none to =
    absurd (both_ways (is_weak_line (cell_of h.volume (i / 64)))
    (ap (λ n. is_weak_line (cell_of h.volume n)) (eqb-true (i / 64) (offset / 64) covered) ∙ ap is_weak_line (was_bad h offset none)) weak)
worn_in_volume h next (Sync handle offset len) i covered weak none to = absurd (no_volume h.mappings handle (record { start = offset; len = len } ∷ []) i covered)
worn_in_volume h next (Flush handle spans) i covered weak none to = absurd (no_volume h.mappings handle spans i covered)
worn_in_volume h next (FlushVerify handle spans) i covered weak none to = absurd (no_volume h.mappings handle spans i covered)
worn_in_volume h next (DeepFlush handle spans) i covered weak none to = absurd (no_volume h.mappings handle spans i covered)
worn_in_volume h next action i covered weak none to = cc covered

pub worn_out : (h next : Machine) (action : Action) (x : Place) → Finishes h action next → wears h action x ≡ true → is_weak_at h x ≡ true → byte_at_place next x ≡ None
worn_out h next action (of_volume i) does worn weak =
    let covered = (and_parts _ _ worn).1 in
    let came = done_by h next action (of_volume i) does covered in worn_in_volume h next action i covered weak came.none came.to.volume
worn_out h next action (of_blocks i) does worn weak = cc weak
worn_out h next action (of_file name i) does worn weak =
    let covered = (and_parts _ _ worn).1 in
    let came = done_by h next action (of_file name i) does covered in
    elim (file_renewed h action next name i covered came.none came.to) as (λ _. byte_at_place next (of_file name i) ≡ None) [
      | inl (inl flushed) ↦ worn_line i (pages_named name h.files) (pages_named name next.files) flushed weak
      | inl (inr cleared) ↦ absurd (both_ways (is_weak_line (cell_of (pages_named name h.files) (i / 64))) (ap is_weak_line cleared.bad) weak)
      | inr anew ↦ absurd (both_ways _ anew.0 (and_parts _ _ worn).0)
    ]
