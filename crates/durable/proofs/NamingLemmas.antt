-- What a read over a lost byte names.
use Rattle.std.proofs.Common.{◌≡◌, inl, inr, ℕ, zero, suc, ◌+◌, ◌-◌, ◌*◌, ◌/◌, ◌%◌, ◌<◌, ◌≤◌, Bool, true, false, cond, Option, Some, None, option_map, List, [], ◌∷◌, length, nat_lt, position, is_none, slice_index_or, refl, sym, ap, subst, ◌∙◌, arith, if◌then◌else◌}
use Rattle.std.specs.Prelude.{slice_index}
use Rattle.std.specs.List.{position_or_len, range_with_len}
use Rattle.std.proofs.lemmas.Bool.{both_ways, cases_Bool, cases_eq, ltb-false}
use Rattle.std.proofs.lemmas.Bool.Decides.{nat_tests}
use Rattle.std.proofs.lemmas.List.Sums.{fails_before_first}
use Rattle.std.proofs.lemmas.Option.{none-some}
use Rattle.line_words.proofs.PositionLemmas.{one_found}
use Rattle.nvm_model.specs.Blocks.{Obstacle, first_obstacle, first_there, nth, obstacle_in}
use Rattle.nvm_model.specs.Blocks.Obstacle.{bad_line}
use Rattle.nvm_model.specs.Cell.{Cell, lowest_touched, touches}
use Rattle.nvm_model.specs.Cell.Cell.{Bad, Kept}
use Rattle.nvm_model.specs.Numbered.{is_among}
use Rattle.nvm_model.specs.Page.{Page, cell_of, first_bad_line, is_bad_cell}
use Rattle.nvm_model.specs.Storage.{Block, Mapping}
use Rattle.nvm_model.specs.Storage.Block.{Absent, Scarred, Data}
use Rattle.page_lines.proofs.LoopLemmas.{touches-within, within-touches}
use Rattle.page_lines.proofs.SearchLemmas.{none_touched}
use Rattle.block_device.specs.Refusals.Refusal.{Unreadable}
use Rattle.pm_volume.specs.Refusals.{poisoned_at}
use Rattle.file_pages.specs.Refusals.{poisoned_at as poisoned_in_file}
use Rattle.reply_text.specs.declared.reply.Why.{Why}
use Rattle.reply_text.specs.declared.reply.Why.TheVariants as because
use Rattle.reply_text.specs.Answer.{Answer}
use Rattle.reply_text.specs.Answer.Answer.{Done, PoisonFile, PoisonVolume, Refused, RefusedMeta}
use Rattle.machine_model.specs.declared.mode.Mode.{Mode}
use Rattle.machine_model.specs.declared.mode.Mode.TheVariants.{Stopped}
use Rattle.machine_model.specs.declared.needs.Needs.{Needs}
use Rattle.machine_model.specs.declared.needs.Needs.TheVariants.{Usable}
use Rattle.machine_model.specs.Lines.{lowest}
use Rattle.script_text.specs.Action.{Action}
use Rattle.script_text.specs.Action.Action.{BRead, FRead, Load, VLoad}
use Rattle.script_text.specs.Script.Input.{Asked}
use Rattle.machine_model.specs.Machine.{Machine}
use Rattle.machine_model.specs.Machine.Fate.{Gives}
use Rattle.machine_model.specs.Commands.{early_refusal, meaning, refusal, unless_refused}
use Rattle.machine_model.specs.Meaning.{Reasons, first_reason, mode_refusal, most_refusal, no_reasons}
use Rattle.machine_model.specs.OnBlocks.{refusal_answer}
use Rattle.machine_model.specs.OnMappings.{load_through, read_copy}
use Rattle.machine_model.specs.OnPages.{fread, page_answer, pages_named}
use Rattle.machine_model.specs.OnVolume.{volume_answer}
use Rattle.machine_model.specs.Run.{Hears, Takes, Transcript}
use Rattle.durable.specs.Place.{block_has, byte_at_place, line_has}
use Rattle.durable.specs.Place.Place.{of_volume, of_blocks, of_file}
use Rattle.durable.specs.Naming.{IsLowestBad, IsLowestObstacle, Names, NamesLine, NamesLineOf, NamesObstacle, refused_before}
use Rattle.durable.specs.Durable.{HasEightLines, IsComplete, IsShown}

-- a read is refused by its mode, its span, or what can't be read
refused_by : (mode : Option Answer) (past : Option Why) (bad_meta : List ℕ) (unreadable : Option Answer)
    → first_reason mode bad_meta (record { named = None; places = option_map Refused past; full = None; changes_metadata = false; unreadable = unreadable })
    ≡ first_there (first_there mode (option_map Refused past)) unreadable
refused_by None None bad_meta unreadable = refl
refused_by None (Some why) bad_meta unreadable = refl
refused_by (Some answer) past bad_meta unreadable = refl

-- of a file its name refuses it as well
refused_of_file : (mode named places : Option Answer) (bad_meta : List ℕ) (unreadable : Option Answer)
    → first_reason mode bad_meta (record { named = named; places = places; full = None; changes_metadata = false; unreadable = unreadable })
    ≡ first_there (first_there mode (first_there named places)) unreadable
refused_of_file None None None bad_meta unreadable = refl
refused_of_file None None (Some answer) bad_meta unreadable = refl
refused_of_file None (Some answer) places bad_meta unreadable = refl
refused_of_file (Some answer) named places bad_meta unreadable = refl

-- what a refused command is answered
told : (h : Machine) (action : Action) (answer : Answer) (said : Transcript) (next : Machine) → refusal h action ≡ Some answer → Hears h (Asked action) said next
    → said.answers ≡ answer ∷ []
told h action answer said next some heard =
    let t = subst (λ o. Takes h action (unless_refused h o ((meaning action).comes h)) said next) some heard in ap (λ s. s.answers) t.0

-- so where something can't be read it is refused
named : (h : Machine) (action : Action) (early : Option Answer) (this : Answer → Type 0) (answer : Answer) (said : Transcript) (next : Machine)
    → refusal h action ≡ first_there early (Some answer) → this answer → Hears h (Asked action) said next → Names early this said.answers
named h action early this answer said next is names heard = by_early early is
  where
    by_early : (o : Option Answer) → refusal h action ≡ first_there o (Some answer) → Names o this said.answers
    by_early None some = (answer, told h action answer said next some heard, names)
    by_early (Some refused) some = told h action refused said next some heard

-- in mode Stopped the lowest bad line of metadata is named
stopped_refusal : (mode : Mode) (bad_meta : List ℕ) (needs : Needs) (r : Reasons) → mode ≡ Stopped → needs ≡ Usable
    → first_reason (mode_refusal mode bad_meta needs) bad_meta r ≡ Some (RefusedMeta (lowest bad_meta))
stopped_refusal mode bad_meta needs r stopped usable =
    ap (λ m. first_reason (mode_refusal m bad_meta needs) bad_meta r) stopped ∙ ap (λ n. first_reason (mode_refusal Stopped bad_meta n) bad_meta r) usable

pub names_metadata : (h next : Machine) (action : Action) (said : Transcript) → (meaning action).needs ≡ Usable → h.mode ≡ Stopped → Hears h (Asked action) said next
    → said.answers ≡ RefusedMeta (lowest h.bad_meta) ∷ []
unfolding refusal
names_metadata h next action said usable stopped heard =
    told h action (RefusedMeta (lowest h.bad_meta)) said next (stopped_refusal h.mode h.bad_meta (meaning action).needs ((meaning action).reasons h) stopped usable) heard

lost_line : (o : Option Cell) (i : ℕ) → line_has o i ≡ None → is_bad_cell o ≡ true
lost_line None i none = cc none
lost_line (Some Bad) i none = refl
lost_line (Some (Kept weak words)) i none = cc none

-- the lowest bad line of a span that has one
lowest_bad : (pages : List Page) (offset len i : ℕ) → is_among offset len i ≡ true → is_bad_cell (cell_of pages (i / 64)) ≡ true
    → (n : ℕ) × IsLowestBad pages offset len n × (first_bad_line pages offset len ≡ Some n)
unfolding first_bad_line
lowest_bad pages offset len i among bad = by_place (position p (range_with_len (offset / 64) ((offset + len - 1) / 64 + 1 - offset / 64))) refl
  where
    p : ℕ → Bool
    p = λ n. is_bad_cell (cell_of pages n)

    some : 1 ≤ len
    some = grind (arith, nat_tests)

    here : touches offset len (i / 64) ≡ true
    here = grind (arith, nat_tests)

    by_place : (o : Option ℕ) → position p (range_with_len (offset / 64) ((offset + len - 1) / 64 + 1 - offset / 64)) ≡ o
        → (n : ℕ) × IsLowestBad pages offset len n × (lowest_touched p offset len ≡ Some n)
    by_place None none =
        absurd (both_ways (p (i / 64)) (none_touched p offset len (i / 64) some (ap (option_map (λ k. offset / 64 + k)) none) here) bad)
    by_place (Some k) found =
        let first = one_found p (offset / 64) ((offset + len - 1) / 64 + 1 - offset / 64) k found in (
          offset / 64 + k,
          record {
            touched = touches-within offset len (offset / 64 + k) some (omega arith) (omega (arith, first.within));
            bad = first.here;
            before = λ m lt touched.
                let from = (within-touches offset len m some touched).0 in
                let back : offset / 64 + (m - offset / 64) ≡ m = omega (arith, from) in
                sym (ap p back) ∙ first.before (m - offset / 64) (omega (arith, from, lt));
          },
          ap (option_map (λ j. offset / 64 + j)) found,
        )

pub names_line : (h next : Machine) (offset len i : ℕ) (said : Transcript) → byte_at_place h (of_volume i) ≡ None → is_among offset len i ≡ true
    → Hears h (Asked (VLoad offset len)) said next → Names (early_refusal h.mode h.bad_meta h.geometry (VLoad offset len)) (NamesLine h.volume offset len) said.answers
unfolding refusal early_refusal
names_line h next offset len i said lost among heard =
    let bad = lowest_bad h.volume offset len i among (lost_line (cell_of h.volume (i / 64)) (i % 64) lost) in
    named h (VLoad offset len) (early_refusal h.mode h.bad_meta h.geometry (VLoad offset len)) (NamesLine h.volume offset len) (PoisonVolume (64 * bad.0)) said next
    (refused_by (mode_refusal h.mode h.bad_meta (meaning (VLoad offset len)).needs) ((meaning (VLoad offset len)).checked h.geometry) h.bad_meta
    (option_map volume_answer (poisoned_at (first_bad_line h.volume offset len)))
    ∙ ap (λ o. first_there (early_refusal h.mode h.bad_meta h.geometry (VLoad offset len)) (option_map volume_answer (poisoned_at o))) bad.2)
    (bad.0, bad.1, refl) heard

pub names_line_of_file : (h next : Machine) (name : List ℕ) (offset len i : ℕ) (said : Transcript) → byte_at_place h (of_file name i) ≡ None → is_among offset len i ≡ true
    → Hears h (Asked (FRead name offset len)) said next
    → Names (refused_before h (FRead name offset len)) (NamesLineOf name (pages_named name h.files) offset len) said.answers
unfolding refusal
names_line_of_file h next name offset len i said lost among heard =
    let pages = pages_named name h.files in
    let bad = lowest_bad pages offset len i among (lost_line (cell_of pages (i / 64)) (i % 64) lost) in
    let r = (meaning (FRead name offset len)).reasons h in
    named h (FRead name offset len) (refused_before h (FRead name offset len)) (NamesLineOf name pages offset len) (PoisonFile name (64 * bad.0)) said next
    (refused_of_file (mode_refusal h.mode h.bad_meta (meaning (FRead name offset len)).needs) r.named r.places h.bad_meta r.unreadable
    ∙ ap (λ o. first_there (refused_before h (FRead name offset len)) (option_map (page_answer name) (poisoned_in_file o))) bad.2)
    (bad.0, bad.1, refl) heard

-- what a load through a mapping that shows its file comes to
pub load_comes : (h : Machine) (handle offset len : ℕ) (m : Mapping) → IsShown h handle m
    → (meaning (Load handle offset len)).comes h ≡ (fread m.name (m.start + offset) len).comes h
load_comes h handle offset len m shows =
    ap (λ (o : Option Mapping). elim o [ None ↦ Gives Done h | Some n ↦ (load_through offset len n).comes h ]) shows.is
    ∙ ap (λ b. (if b then fread m.name (m.start + offset) len else read_copy m offset len).comes h) shows.shared

-- and why it is refused
load_reasons : (h : Machine) (handle offset len : ℕ) (m : Mapping) → IsShown h handle m
    → (meaning (Load handle offset len)).reasons h
    ≡ record ((fread m.name (m.start + offset) len).reasons h) { named = None; places = option_map Refused (most_refusal 65536 m.len offset len) }
load_reasons h handle offset len m shows =
    ap (λ (o : Option Mapping). elim o [ None ↦ record no_reasons { named = Some (Refused because.Handle) } | Some n ↦ (load_through offset len n).reasons h ]) shows.is
    ∙ ap (λ b. record ((if b then fread m.name (m.start + offset) len else read_copy m offset len).reasons h) { named = None; places = option_map Refused (most_refusal 65536 m.len offset len) }) shows.shared

pub names_line_mapped : (h next : Machine) (handle offset len i : ℕ) (m : Mapping) (said : Transcript) → IsShown h handle m → byte_at_place h (of_file m.name i) ≡ None
    → is_among (m.start + offset) len i ≡ true → Hears h (Asked (Load handle offset len)) said next
    → Names (refused_before h (Load handle offset len)) (NamesLineOf m.name (pages_named m.name h.files) (m.start + offset) len) said.answers
unfolding refusal
names_line_mapped h next handle offset len i m said shows lost among heard =
    let bad = lowest_bad pages (m.start + offset) len i among (lost_line (cell_of pages (i / 64)) (i % 64) lost) in
    let refused : refusal h (Load handle offset len) ≡ first_there (refused_before h (Load handle offset len)) (Some (PoisonFile m.name (64 * bad.0))) =
    subst (IsFirst (PoisonFile m.name (64 * bad.0))) (sym (load_reasons h handle offset len m shows))
    (refused_of_file mode None (option_map Refused (most_refusal 65536 m.len offset len)) h.bad_meta (option_map (page_answer m.name) (poisoned_in_file (first_bad_line pages (m.start + offset) len)))
    ∙ ap (λ o. first_there (first_there mode (first_there None (option_map Refused (most_refusal 65536 m.len offset len)))) (option_map (page_answer m.name) (poisoned_in_file o))) bad.2) in
    named h (Load handle offset len) (refused_before h (Load handle offset len)) (NamesLineOf m.name pages (m.start + offset) len) (PoisonFile m.name (64 * bad.0)) said next refused
    (bad.0, bad.1, refl) heard
  where
    pages : List Page
    pages = pages_named m.name h.files

    mode : Option Answer
    mode = mode_refusal h.mode h.bad_meta Usable

    IsFirst : Answer → Reasons → Type 0
    IsFirst answer r = first_reason mode h.bad_meta r ≡ first_there (first_there mode (first_there r.named r.places)) (Some answer)

-- the lowest of some blocks that can't be read
lowest_obstacle : (blocks : List Block) (at count n : ℕ) → is_among at count n ≡ true → (obstacle_in n (nth blocks n) ≡ None → ⊥)
    → (m : ℕ) × (obstacle : Obstacle) × IsLowestObstacle blocks at count m obstacle × (first_obstacle blocks at count ≡ Some obstacle)
lowest_obstacle blocks at zero n among lost = absurd (none_among among)
  where
    none_among : is_among at 0 n ≡ true → ⊥
    none_among is = grind (arith, nat_tests)
lowest_obstacle blocks at (suc count) n among lost = by_first (λ later. lowest_obstacle blocks (suc at) count n later lost) (obstacle_in at (nth blocks at)) refl
  where
    by_first : (is_among (suc at) count n ≡ true → (m : ℕ) × (obstacle : Obstacle) × IsLowestObstacle blocks (suc at) count m obstacle × (first_obstacle blocks (suc at) count ≡ Some obstacle)) → (o : Option Obstacle) → obstacle_in at (nth blocks at) ≡ o
        → (m : ℕ) × (obstacle : Obstacle) × IsLowestObstacle blocks at (suc count) m obstacle × (first_there o (first_obstacle blocks (suc at) count) ≡ Some obstacle)
    by_first rest_has (Some obstacle) is = (
      at,
      obstacle,
      record {
        among = here;
        here = is;
        before = λ m lt in_span. absurd (below m lt in_span);
      },
      refl,
    )
      where
        here : is_among at (suc count) at ≡ true
        here = grind (arith, nat_tests)

        below : (m : ℕ) → m < at → is_among at (suc count) m ≡ true → ⊥
        below m lt in_span = grind (arith, nat_tests)
    by_first rest_has None is =
        let rest = rest_has (later n among (λ same. lost (ap (λ k. obstacle_in k (nth blocks k)) same ∙ is))) in (
          rest.0,
          rest.1,
          record {
            among = earlier rest.0 rest.2.among;
            here = rest.2.here;
            before = λ m lt in_span. elim (cases_eq m at) as (λ _. obstacle_in m (nth blocks m) ≡ None) [
              | inl same ↦ ap (λ k. obstacle_in k (nth blocks k)) same ∙ is
              | inr other ↦ rest.2.before m lt (later m in_span other)
            ];
          },
          rest.3,
        )
      where
        later : (m : ℕ) → is_among at (suc count) m ≡ true → (m ≡ at → ⊥) → is_among (suc at) count m ≡ true
        later m in_span other = grind (arith, nat_tests)

        earlier : (m : ℕ) → is_among (suc at) count m ≡ true → is_among at (suc count) m ≡ true
        earlier m in_span = grind (arith, nat_tests)

-- a block that has lost a byte has an obstacle
none_lost : (lines : List (Option (List ℕ))) (k : ℕ) → k < length lines → position is_none lines ≡ None → is_none (slice_index_or lines k None) ≡ false
none_lost lines k below none =
    let found = position_or_len is_none lines in
    elim (cases_Bool (nat_lt found (length lines))) as (λ _. is_none (slice_index_or lines k None) ≡ false) [
      | inl here ↦ absurd (none-some found (sym none ∙ ap (λ b. cond b (Some found) None) here))
      | inr past ↦ fails_before_first is_none lines k None (omega (arith, below, ltb-false found (length lines) past))
    ]

lost_block : (n i : ℕ) (block : Block) → i < 512 → HasEightLines block → block_has block i ≡ None → obstacle_in n block ≡ None → ⊥
lost_block n i Absent lt eight lost none = cc lost
lost_block n i Scarred lt eight lost none = cc none
lost_block n i (Data lines) lt eight lost none =
    both_ways (is_none (slice_index_or lines (i / 64) None)) (none_lost lines (i / 64) (omega (arith, lt, eight)) (nothing_named (position is_none lines) none)) (gone (slice_index_or lines (i / 64) None) lost)
  where
    nothing_named : (o : Option ℕ) → option_map (bad_line n) o ≡ None → o ≡ None
    nothing_named None is = refl
    nothing_named (Some k) is = cc is

    gone : (o : Option (List ℕ)) → option_map (λ bytes. slice_index bytes (i % 64)) o ≡ None → is_none o ≡ true
    gone None is = refl
    gone (Some bytes) is = cc is

pub names_obstacle : (h next : Machine) (block count i : ℕ) (said : Transcript) → IsComplete h → byte_at_place h (of_blocks i) ≡ None → is_among block count (i / 512) ≡ true
    → Hears h (Asked (BRead block count)) said next → Names (early_refusal h.mode h.bad_meta h.geometry (BRead block count)) (NamesObstacle h.blocks block count) said.answers
unfolding refusal early_refusal
names_obstacle h next block count i said whole lost among heard =
    let found = lowest_obstacle h.blocks block count (i / 512) among (lost_block (i / 512) (i % 512) (nth h.blocks (i / 512)) (omega arith) (whole.eight (i / 512)) lost) in
    named h (BRead block count) (early_refusal h.mode h.bad_meta h.geometry (BRead block count)) (NamesObstacle h.blocks block count) (refusal_answer (Unreadable found.1)) said next
    (refused_by (mode_refusal h.mode h.bad_meta (meaning (BRead block count)).needs) ((meaning (BRead block count)).checked h.geometry) h.bad_meta
    (option_map (λ obstacle. refusal_answer (Unreadable obstacle)) (first_obstacle h.blocks block count))
    ∙ ap (λ o. first_there (early_refusal h.mode h.bad_meta h.geometry (BRead block count)) (option_map (λ obstacle. refusal_answer (Unreadable obstacle)) o)) found.3)
    (found.0, found.1, found.2, refl) heard
