-- Files as tables and device have them, and what is told of their bytes.
use Rattle.std.proofs.Common.{◌≡◌, ◌+◌, ◌*◌, ◌≤◌, ◌==◌, ◌∙◌, ℕ, false, List, [], ◌++◌, length, replicate, Option, Some, None, Result, Ok, Err, IsErrAnd, nat_lt, refl, sym, ap, subst, arith}
use Rattle.std.proofs.lemmas.Bool.{le-ltb, ne_eqb}
use Rattle.std.proofs.lemmas.List.{length-replicate}
use Rattle.std.specs.Option.{option_map}
use Rattle.line_device.specs.Panel.{Panel, Runs}
use Rattle.line_device.proofs.PanelLemmas.{runs_within}
use Rattle.nvm_base.specs.Units.{units_of}
use Rattle.page_lines.proofs.CountLemmas.{there_in_most}
use Rattle.file_journal.specs.Object.{JournalState}
use Rattle.file_pages.specs.Costs.{lines_there}
use Rattle.file_pages.specs.Object.{file_place}
use Rattle.line_words.specs.Told.{Answers, Told, outcome_by, refusal_of, told_outcome}
use Rattle.line_words.specs.Told.Told.{Refuses, Stops, Starves}
use Rattle.nvm_model.specs.Page.{Page, first_bad_line}
use Rattle.file_pages.specs.declared.fault.PageFault.{PageFault}
use Rattle.file_pages.specs.Refusals.{PageRefusal, page_says, poisoned_at, read_refusal}
use Rattle.mappings.specs.declared.fault.MapFault.{MapFault}
use Rattle.mappings.specs.Refusals.{load_refusal, map_says, told_of_load}
use Rattle.mappings.specs.Refusals.MapRefusal.{Poison}

told-refusal : (t : Told PageRefusal) → refusal_of (told_of_load t) ≡ option_map load_refusal (refusal_of t)
told-refusal (Refuses why) = refl
told-refusal (Stops stop) = refl
told-refusal Starves = refl

-- of bytes that a file has
pub reads-within : (pages : List Page) (start len : ℕ) → 1 ≤ len → start + len ≤ 4096 * length pages → read_refusal pages start len ≡ poisoned_at (first_bad_line pages start len)
reads-within pages start len some within =
    let in_range : nat_lt (4096 * length pages) (start + len) ≡ false = le-ltb (4096 * length pages) (start + len) within in
    let has : (len == 0) ≡ false = ne_eqb len 0 (λ e. omega arith) in
    rw (in_range, has) refl

-- why they are not loaded is why they are not copied
pub load-answers : {T : Type 0} (pages : List Page) (start len : ℕ) (f : PageFault) (r : Result T MapFault) → 1 ≤ len → start + len ≤ 4096 * length pages
    → IsErrAnd r (λ e. map_says e ≡ told_of_load (page_says f)) → Answers {T = Unit {0}} page_says (read_refusal pages start len) (Err f)
    → Answers map_says (option_map (λ n. Poison (64 * n)) (first_bad_line pages start len)) r
load-answers {T} pages start len f r some within is told = by (first_bad_line pages start len) r is (subst (λ o. Answers {T = Unit {0}} page_says o (Err f)) (reads-within pages start len some within) told)
  where
    by : (o : Option ℕ) (r : Result T MapFault) → IsErrAnd r (λ e. map_says e ≡ told_of_load (page_says f)) → Answers {T = Unit {0}} page_says (poisoned_at o) (Err f)
        → Answers map_says (option_map (λ n. Poison (64 * n)) o) r
    by o (Ok x) is told = absurd is
    by None (Err e) is told = ap refusal_of is ∙ told-refusal (page_says f) ∙ ap (option_map load_refusal) told
    by (Some n) (Err e) is told = ap refusal_of is ∙ told-refusal (page_says f) ∙ ap (option_map load_refusal) told

told-outcome : (t : Told PageRefusal) → told_outcome (told_of_load t) ≡ told_outcome t
told-outcome (Refuses why) = refl
told-outcome (Stops stop) = refl
told-outcome Starves = refl

-- and how it ended, as far as the device goes
pub load-runs : {T : Type 0} (f : PageFault) (r : Result T MapFault) (a b : ℕ) (p q : Panel) → IsErrAnd r (λ e. map_says e ≡ told_of_load (page_says f)) → a ≤ b
    → Runs a 0 (told_outcome (page_says f)) p q → Runs b 0 (outcome_by map_says r) p q
load-runs f (Ok x) a b p q is most runs = absurd is
load-runs f (Err e) a b p q is most runs =
    subst (λ o. Runs b 0 o p q) (sym (ap told_outcome is ∙ told-outcome (page_says f))) (runs_within a 0 b 0 (told_outcome (page_says f)) p q runs most (omega arith))

-- a buffer of zeros
pub zeros-long : (n : ℕ) (empty filled out : List ℕ) → empty ≡ [] → filled ≡ empty ++ replicate n 0 → out ≡ filled → length out ≡ n
zeros-long n empty filled out none is same = ap length (same ∙ is ∙ ap (λ xs. xs ++ replicate n 0) none) ∙ length-replicate n 0

-- a copy takes at most a call for each line
pub copy-calls : (s : JournalState) (inode start len n : ℕ) → n ≡ len → lines_there s inode start n ≤ (units_of 64 (record { start = start; len = len })).len
copy-calls s inode start len n same =
    subst (λ k. lines_there s inode start n ≤ (units_of 64 (record { start = start; len = k })).len) same
    (there_in_most (file_place s inode) (record { start = start; len = n }))
