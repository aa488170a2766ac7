-- What is known of a command that nothing refuses, and what comes of it.
use Rattle.std.proofs.Common.{◌≡◌, ℕ, ◌+◌, ◌≤◌, Bool, true, false, cond, ltb, eqb, ◌<◌, Option, Some, None, option_map, position, List, [], ◌∷◌, refl, sym, ap, subst, ◌∙◌, arith}
use Rattle.std.specs.List.{range_with_len}
use Rattle.std.proofs.lemmas.Option.{same_Some}
use Rattle.std.proofs.lemmas.Bool.{le-ltb, lt-ltb, ne_eqb}
use Rattle.std.proofs.lemmas.Bool.Decides.{nat_tests}
use Rattle.word_tables.specs.declared.geometry.Geometry.{Geometry}
use Rattle.nvm_model.specs.Blocks.{Obstacle, first_there, first_obstacle, look_blocks}
use Rattle.nvm_model.specs.Storage.{Block}
use Rattle.block_device.specs.Refusals.{Refusal}
use Rattle.block_device.specs.Refusals.Refusal.{Unreadable}
use Rattle.script_text.specs.Action.{Action}
use Rattle.script_text.specs.Action.Action.{BRead, BWrite, BAtomic, BMulti, BDiscard, BDiscardIf, BExists, BScar, VLoad, VStore, VSync, VRanges, VPSync, VDiscard, VDiscardIf, VExists, Create, Delete, Rename, Resize, ListFiles, FRead, FWrite, FAtomic, FMulti, FDiscard, FSync, Map, Unmap, Load, Store, Sync, Flush, FlushVerify, DeepFlush, NextEvent, CheckFile, PoisonBlock, PoisonVolume, PoisonFile, PoisonMeta, WeakenFile, WeakenVolume, ClearFile, ClearVolume, Cut, CutIn, FailIn, Restart, Recover, Attr, Evict}
use Rattle.reply_text.specs.declared.reply.Why.{Why}
use Rattle.reply_text.specs.declared.reply.Why.TheVariants.{Range, Length, Limit}
use Rattle.reply_text.specs.declared.reply.Why.TheVariants as because
use Rattle.reply_text.specs.Answer.{Answer, IsPrintable}
use Rattle.reply_text.specs.Answer.Answer.{Done, Bytes, Refused, RefusedMeta}
use Rattle.reply_text.specs.Room.{most_of}
use Rattle.machine_model.specs.declared.mode.Mode.{Mode}
use Rattle.machine_model.specs.declared.mode.Mode.TheVariants.{On, Off, Unsettled, Stopped}
use Rattle.machine_model.specs.declared.needs.Needs.{Needs}
use Rattle.machine_model.specs.declared.needs.Needs.TheVariants.{Usable, Anytime, Powered, Unpowered, Failed}
use Rattle.machine_model.specs.Interrupted.{stop_in}
use Rattle.machine_model.specs.Lines.{bad_metadata, lowest}
use Rattle.machine_model.specs.Machine.{Machine, Fate}
use Rattle.machine_model.specs.Machine.Fate.{Works}
use Rattle.machine_model.specs.Meaning.{BlocksLeft, Reasons, first_reason, metadata_refusal, mode_refusal, most_refusal, no_reasons, span_refusal}
use Rattle.machine_model.specs.OnBlocks.{changing_blocks, refusal_answer}
use Rattle.word_tables.specs.Layout.{meta_lines}
use Rattle.machine_model.specs.Commands.{early_refusal, fate, meaning, refusal, unless_refused}
use Rattle.machine_model.proofs.FirstLemmas.{head, searched}

-- the mode of what is not refused
needs_on : (mode : Mode) (bad_meta : List ℕ) (needs : Needs) → needs ≡ Usable → mode_refusal mode bad_meta needs ≡ None → mode ≡ On
needs_on On bad_meta needs is none = refl
needs_on Off bad_meta needs is none = cc (is, none)
needs_on Unsettled bad_meta needs is none = cc (is, none)
needs_on Stopped bad_meta needs is none = cc (is, none)

needs_off : (mode : Mode) (bad_meta : List ℕ) (needs : Needs) → needs ≡ Unpowered → mode_refusal mode bad_meta needs ≡ None → mode ≡ Off
needs_off On bad_meta needs is none = cc (is, none)
needs_off Off bad_meta needs is none = refl
needs_off Unsettled bad_meta needs is none = cc (is, none)
needs_off Stopped bad_meta needs is none = cc (is, none)

needs_power : (mode : Mode) (bad_meta : List ℕ) (needs : Needs) → needs ≡ Powered → mode_refusal mode bad_meta needs ≡ None → mode ≡ Off → ⊥
needs_power On bad_meta needs is none off = cc off
needs_power Off bad_meta needs is none off = cc (is, none)
needs_power Unsettled bad_meta needs is none off = cc off
needs_power Stopped bad_meta needs is none off = cc off

needs_failure : (mode : Mode) (bad_meta : List ℕ) (needs : Needs) → needs ≡ Failed → mode_refusal mode bad_meta needs ≡ None → mode ≡ Unsettled
needs_failure On bad_meta needs is none = cc (is, none)
needs_failure Off bad_meta needs is none = cc (is, none)
needs_failure Unsettled bad_meta needs is none = refl
needs_failure Stopped bad_meta needs is none = cc (is, none)

both_pass : (a : Option Answer) (b : Option Why) → first_there a (option_map Refused b) ≡ None → (a ≡ None) × (b ≡ None)
both_pass None None none = (refl, refl)
both_pass None (Some why) none = cc none
both_pass (Some answer) b none = cc none

module _ (mode : Mode) (bad_meta : List ℕ) (geo : Geometry) (action : Action) (none : early_refusal mode bad_meta geo action ≡ None) where
  passed : (mode_refusal mode bad_meta (meaning action).needs ≡ None) × ((meaning action).checked geo ≡ None)
  unfolding early_refusal
  passed = both_pass (mode_refusal mode bad_meta (meaning action).needs) ((meaning action).checked geo) none

  pub is_on : (meaning action).needs ≡ Usable → mode ≡ On
  is_on needs = needs_on mode bad_meta (meaning action).needs needs passed.0

  pub is_off : (meaning action).needs ≡ Unpowered → mode ≡ Off
  is_off needs = needs_off mode bad_meta (meaning action).needs needs passed.0

  pub is_powered : (meaning action).needs ≡ Powered → mode ≡ Off → ⊥
  is_powered needs = needs_power mode bad_meta (meaning action).needs needs passed.0

  pub is_unsettled : (meaning action).needs ≡ Failed → mode ≡ Unsettled
  is_unsettled needs = needs_failure mode bad_meta (meaning action).needs needs passed.0

  pub places_right : (meaning action).checked geo ≡ None
  places_right = passed.1

-- the places of what is not refused
pub span_allowed : (size offset len : ℕ) → span_refusal size offset len ≡ None → (1 ≤ len) × (offset + len ≤ size)
span_allowed size offset len = by_tests (ltb size (offset + len)) (eqb len 0) refl refl
  where
    by_tests : (past empty : Bool) → ltb size (offset + len) ≡ past → eqb len 0 ≡ empty
        → cond past (Some Range) (cond empty (Some Length) None) ≡ None → (1 ≤ len) × (offset + len ≤ size)
    by_tests true empty e f none = cc
    by_tests false true e f none = cc
    by_tests false false e f none = (grind (arith, nat_tests), grind (arith, nat_tests))

pub calls_some : (calls : ℕ) → cond (eqb calls 0) (Some Range) None ≡ None → 1 ≤ calls
calls_some calls = by_test (eqb calls 0) refl
  where
    by_test : (none : Bool) → eqb calls 0 ≡ none → cond none (Some Range) None ≡ None → 1 ≤ calls
    by_test true e none = cc
    by_test false e none = grind (arith, nat_tests)

pub line_within : (line lines : ℕ) → cond (ltb line lines) None (Some Range) ≡ None → line < lines
line_within line lines = by_test (ltb line lines) refl
  where
    by_test : (below : Bool) → ltb line lines ≡ below → cond below None (Some Range) ≡ None → line < lines
    by_test true e none = grind (arith, nat_tests)
    by_test false e none = cc

-- so of a read, which asks for no more than is read at once
pub read_within : (most size start len : ℕ) → most_refusal most size start len ≡ None → (1 ≤ len) × (start + len ≤ size) × (len ≤ most)
read_within most size start len none = by_span (span_refusal size start len) refl none
  where
    by_limit : (over : Bool) → ltb most len ≡ over → cond over (Some Limit) None ≡ None → len ≤ most
    by_limit true e none = cc
    by_limit false e none = grind (arith, nat_tests)

    by_span : (o : Option Why) → span_refusal size start len ≡ o → first_there o (cond (ltb most len) (Some Limit) None) ≡ None → (1 ≤ len) × (start + len ≤ size) × (len ≤ most)
    by_span None e none = let places = span_allowed size start len e in (places.0, places.1, by_limit (ltb most len) refl none)
    by_span (Some why) e none = cc

-- and places that are right
pub span_right : (size offset len : ℕ) → 1 ≤ len → offset + len ≤ size → span_refusal size offset len ≡ None
span_right size offset len some within =
    ap (λ b. cond b (Some Range) (cond (eqb len 0) (Some Length) None)) (le-ltb size (offset + len) within)
    ∙ ap (λ b. cond b (Some Length) None) (ne_eqb len 0 (λ e. omega arith))

pub calls_right : (calls : ℕ) → 1 ≤ calls → cond (eqb calls 0) (Some Range) None ≡ None
calls_right calls some = ap (λ b. cond b (Some Range) None) (ne_eqb calls 0 (λ e. omega arith))

pub line_right : (line lines : ℕ) → line < lines → cond (ltb line lines) None (Some Range) ≡ None
line_right line lines within = ap (λ b. cond b None (Some Range)) (lt-ltb line lines within)

pub read_right : (most size start len : ℕ) → 1 ≤ len → start + len ≤ size → len ≤ most → most_refusal most size start len ≡ None
read_right most size start len some within few =
    ap (λ o. first_there o (cond (ltb most len) (Some Limit) None)) (span_right size start len some within)
    ∙ ap (λ b. cond b (Some Limit) None) (le-ltb most len few)

pub first_alone : {A : Type 0} (o : Option A) → first_there o None ≡ o
first_alone None = refl
first_alone (Some x) = refl

-- the first of three reasons
pub first_assoc : {A : Type 0} (a b c : Option A) → first_there (first_there a b) c ≡ first_there a (first_there b c)
first_assoc None b c = refl
first_assoc (Some x) b c = refl

-- where the host finds wrong places, they are the reason
places_refused : (h : Machine) (action : Action) (why : Why) → (meaning action).checked h.geometry ≡ Some why
    → (((meaning action).reasons h).named ≡ None) × (((meaning action).reasons h).places ≡ Some (Refused why))
places_refused h (BRead block count) why is = (refl, ap (option_map Refused) is)
places_refused h (BWrite block bytes) why is = cc is
places_refused h (BAtomic block bytes) why is = cc is
places_refused h (BMulti ranges bytes) why is = cc is
places_refused h (BDiscard block count) why is = cc is
places_refused h (BDiscardIf block count) why is = cc is
places_refused h (BExists block) why is = cc is
places_refused h (BScar ranges) why is = cc is
places_refused h (VLoad offset len) why is = (refl, ap (option_map Refused) is)
places_refused h (VStore offset bytes) why is = cc is
places_refused h (VSync offset len) why is = cc is
places_refused h VRanges why is = cc is
places_refused h (VPSync address len) why is = cc is
places_refused h (VDiscard page count) why is = cc is
places_refused h (VDiscardIf page count) why is = cc is
places_refused h (VExists page) why is = cc is
places_refused h (Create name pages) why is = cc is
places_refused h (Delete name) why is = cc is
places_refused h (Rename name to) why is = cc is
places_refused h (Resize name pages) why is = cc is
places_refused h ListFiles why is = cc is
places_refused h (FRead name offset len) why is = cc is
places_refused h (FWrite name offset bytes) why is = cc is
places_refused h (FAtomic name offset bytes) why is = cc is
places_refused h (FMulti name ranges bytes) why is = cc is
places_refused h (FDiscard name page count) why is = cc is
places_refused h (FSync name) why is = cc is
places_refused h (Map name span kind) why is = cc is
places_refused h (Unmap handle) why is = cc is
places_refused h (Load handle offset len) why is = cc is
places_refused h (Store handle offset bytes) why is = cc is
places_refused h (Sync handle offset len) why is = cc is
places_refused h (Flush handle spans) why is = cc is
places_refused h (FlushVerify handle spans) why is = cc is
places_refused h (DeepFlush handle spans) why is = cc is
places_refused h NextEvent why is = cc is
places_refused h (CheckFile name offset len) why is = cc is
places_refused h (PoisonBlock block line) why is = cc is
places_refused h (PoisonVolume offset) why is = cc is
places_refused h (PoisonFile name offset) why is = cc is
places_refused h (PoisonMeta line) why is = (refl, ap (option_map Refused) is)
places_refused h (WeakenFile name offset) why is = cc is
places_refused h (WeakenVolume offset) why is = cc is
places_refused h (ClearFile name offset) why is = cc is
places_refused h (ClearVolume offset) why is = cc is
places_refused h Cut why is = cc is
places_refused h (CutIn calls) why is = (refl, ap (option_map Refused) is)
places_refused h (FailIn calls) why is = (refl, ap (option_map Refused) is)
places_refused h (Restart choice) why is = cc is
places_refused h Recover why is = cc is
places_refused h (Attr name) why is = cc is
places_refused h (Evict lines) why is = cc is

-- an answer that can be printed and tells of no interruption
pub record IsPlain (answer : Answer) : Type 0 where
  pub printable : IsPrintable answer
  pub short : most_of answer ≡ 72
  pub quiet : stop_in answer ≡ None

plain_refused : (why : Why) (answer : Answer) → Some (Refused why) ≡ Some answer → IsPlain answer
plain_refused why answer is = subst IsPlain (same_Some (Refused why) answer is) (record { printable = tt; short = refl; quiet = refl })

plain_meta : (line : ℕ) (answer : Answer) → Some (RefusedMeta line) ≡ Some answer → IsPlain answer
plain_meta line answer is = subst IsPlain (same_Some (RefusedMeta line) answer is) (record { printable = tt; short = refl; quiet = refl })

mode_plain : (mode : Mode) (bad_meta : List ℕ) (needs : Needs) (answer : Answer) → mode_refusal mode bad_meta needs ≡ Some answer → IsPlain answer
mode_plain On bad_meta Usable answer is = cc is
mode_plain On bad_meta Anytime answer is = cc is
mode_plain On bad_meta Powered answer is = cc is
mode_plain On bad_meta Unpowered answer is = plain_refused because.On answer is
mode_plain On bad_meta Failed answer is = plain_refused because.On answer is
mode_plain Off bad_meta Usable answer is = plain_refused because.Off answer is
mode_plain Off bad_meta Anytime answer is = cc is
mode_plain Off bad_meta Powered answer is = plain_refused because.Off answer is
mode_plain Off bad_meta Unpowered answer is = cc is
mode_plain Off bad_meta Failed answer is = plain_refused because.Off answer is
mode_plain Unsettled bad_meta Usable answer is = plain_refused because.Recover answer is
mode_plain Unsettled bad_meta Anytime answer is = cc is
mode_plain Unsettled bad_meta Powered answer is = cc is
mode_plain Unsettled bad_meta Unpowered answer is = plain_refused because.On answer is
mode_plain Unsettled bad_meta Failed answer is = cc is
mode_plain Stopped bad_meta Usable answer is = plain_meta (lowest bad_meta) answer is
mode_plain Stopped bad_meta Anytime answer is = cc is
mode_plain Stopped bad_meta Powered answer is = cc is
mode_plain Stopped bad_meta Unpowered answer is = plain_refused because.On answer is
mode_plain Stopped bad_meta Failed answer is = plain_meta (lowest bad_meta) answer is

pub early_plain : (mode : Mode) (bad_meta : List ℕ) (geo : Geometry) (action : Action) (answer : Answer) → early_refusal mode bad_meta geo action ≡ Some answer → IsPlain answer
unfolding early_refusal
early_plain mode bad_meta geo action answer = by_mode (mode_refusal mode bad_meta (meaning action).needs) refl
  where
    by_places : (o : Option Why) → option_map Refused o ≡ Some answer → IsPlain answer
    by_places None is = cc is
    by_places (Some why) is = plain_refused why answer is

    by_mode : (o : Option Answer) → mode_refusal mode bad_meta (meaning action).needs ≡ o → first_there o (option_map Refused ((meaning action).checked geo)) ≡ Some answer → IsPlain answer
    by_mode None refused is = by_places ((meaning action).checked geo) is
    by_mode (Some first) refused is = mode_plain mode bad_meta (meaning action).needs answer (refused ∙ is)

-- so what the host refuses by itself, the machine refuses for the same reason
pub early_first : (h : Machine) (action : Action) (answer : Answer) → early_refusal h.mode h.bad_meta h.geometry action ≡ Some answer → refusal h action ≡ Some answer
unfolding early_refusal refusal
early_first h action answer = by_mode (mode_refusal h.mode h.bad_meta (meaning action).needs)
  where
    r : Reasons
    r = (meaning action).reasons h

    by_places : (o : Option Why) → (meaning action).checked h.geometry ≡ o → option_map Refused o ≡ Some answer → first_reason None h.bad_meta r ≡ Some answer
    by_places None checked is = cc is
    by_places (Some why) checked is =
        let wrong = places_refused h action why checked in
        ap (λ n. first_reason None h.bad_meta (record r { named = n })) wrong.0 ∙ ap (λ p. first_reason None h.bad_meta (record r { named = None; places = p })) wrong.1 ∙ is

    by_mode : (o : Option Answer) → first_there o (option_map Refused ((meaning action).checked h.geometry)) ≡ Some answer → first_reason o h.bad_meta r ≡ Some answer
    by_mode None is = by_places ((meaning action).checked h.geometry) refl is
    by_mode (Some first) is = is

-- What comes of a command whose places the host looks at, where mode and places are right.
pub fate_placed : (h : Machine) (action : Action) → mode_refusal h.mode h.bad_meta (meaning action).needs ≡ None
    → (meaning action).reasons h ≡ record no_reasons { places = option_map Refused ((meaning action).checked h.geometry) } → (meaning action).checked h.geometry ≡ None
    → fate h action ≡ (meaning action).comes h
unfolding refusal
fate_placed h action mode reasons places =
    let comes = (meaning action).comes h in
    ap (λ m. unless_refused h (first_reason m h.bad_meta ((meaning action).reasons h)) comes) mode
    ∙ ap (λ r. unless_refused h (first_reason None h.bad_meta r) comes) reasons
    ∙ ap (λ o. unless_refused h (first_reason None h.bad_meta (record no_reasons { places = option_map Refused o })) comes) places

pub power_allows : (mode : Mode) (bad_meta : List ℕ) → (mode ≡ Off → ⊥) → mode_refusal mode bad_meta Powered ≡ None
power_allows On bad_meta powered = refl
power_allows Off bad_meta powered = absurd (powered refl)
power_allows Unsettled bad_meta powered = refl
power_allows Stopped bad_meta powered = refl

pub always_allowed : (mode : Mode) (bad_meta : List ℕ) → mode_refusal mode bad_meta Anytime ≡ None
always_allowed On bad_meta = refl
always_allowed Off bad_meta = refl
always_allowed Unsettled bad_meta = refl
always_allowed Stopped bad_meta = refl

pub usable_on : (mode : Mode) → mode ≡ On → (bad_meta : List ℕ) → mode_refusal mode bad_meta Usable ≡ None
usable_on mode on bad_meta = ap (λ m. mode_refusal m bad_meta Usable) on

-- the first of reasons, as it is answered
pub mapped_first : {R : Type 0} (answer : R → Answer) (a b : Option R) → first_there (option_map answer a) (option_map answer b) ≡ option_map answer (first_there a b)
mapped_first answer None b = refl
mapped_first answer (Some w) b = refl

-- the lowest bad line of metadata, as a part of storage finds it
pub meta_refused : {R : Type 0} (refusal : ℕ → R) (answer : R → Answer) → ((n : ℕ) → answer (refusal n) ≡ RefusedMeta n) → (geo : Geometry) (is_bad : ℕ → Bool)
    → metadata_refusal true (bad_metadata geo is_bad) ≡ option_map answer (option_map refusal (position is_bad (range_with_len 0 (meta_lines geo))))
meta_refused refusal answer is geo is_bad = by_list (bad_metadata geo is_bad) ∙ ap (λ o. option_map answer (option_map refusal o)) (sym (searched is_bad (meta_lines geo)))
  where
    by_list : (lines : List ℕ) → metadata_refusal true lines ≡ option_map answer (option_map refusal (head lines))
    by_list [] = refl
    by_list (line ∷ lines) = ap Some (sym (is line))

-- and of a change of the blocks, with the power on
pub fate_changing : (h : Machine) (action : Action) (places : ℕ → Option Refusal) (to : List Block → List Block) (left : BlocksLeft) (calls persists : ℕ)
    → meaning action ≡ changing_blocks places to left calls persists → h.mode ≡ On
    → fate h action ≡ unless_refused h (first_there (option_map refusal_answer (places h.geometry.blocks)) (metadata_refusal true h.bad_meta)) (Works Done (record h { blocks = to h.blocks }))
unfolding refusal
fate_changing h action places to left calls persists row on =
    let row_of = changing_blocks places to left calls persists in
    let comes : Fate = Works Done (record h { blocks = to h.blocks }) in
    ap (λ m. unless_refused h (first_reason (mode_refusal h.mode h.bad_meta m.needs) h.bad_meta (m.reasons h)) (m.comes h)) row
    ∙ ap (λ mode. unless_refused h (first_reason (mode_refusal mode h.bad_meta Usable) h.bad_meta (row_of.reasons h)) comes) on
    ∙ ap (λ o. unless_refused h (first_there (option_map refusal_answer (places h.geometry.blocks)) o) comes) (first_alone (metadata_refusal true h.bad_meta))

-- a read of blocks that are there is refused by what can't be read alone
pub fate_read : (h : Machine) (block count : ℕ) → h.mode ≡ On → 1 ≤ count → block + count ≤ h.geometry.blocks → count ≤ 128
    → fate h (BRead block count) ≡ unless_refused h (option_map refusal_answer (option_map Unreadable (first_obstacle h.blocks block count))) (Works (Bytes (look_blocks h.blocks block count)) h)
unfolding refusal
fate_read h block count on some within few =
    let r = (meaning (BRead block count)).reasons h in
    let comes : Fate = Works (Bytes (look_blocks h.blocks block count)) h in
    ap (λ mode. unless_refused h (first_reason (mode_refusal mode h.bad_meta Usable) h.bad_meta r) comes) on
    ∙ ap (λ o. unless_refused h (first_reason None h.bad_meta (record r { places = option_map Refused o })) comes) (read_right 128 h.geometry.blocks block count some within few)
    ∙ ap (λ o. unless_refused h o comes) (mapped_twice (first_obstacle h.blocks block count))
  where
    mapped_twice : (o : Option Obstacle) → option_map (λ obstacle. refusal_answer (Unreadable obstacle)) o ≡ option_map refusal_answer (option_map Unreadable o)
    mapped_twice None = refl
    mapped_twice (Some obstacle) = refl

-- What comes of a command on storage, with the power on: the reasons of its row, kind by kind.
pub fate_usable : (h : Machine) (action : Action) → (meaning action).needs ≡ Usable → h.mode ≡ On
    → fate h action ≡ unless_refused h (first_reason None h.bad_meta ((meaning action).reasons h)) ((meaning action).comes h)
unfolding refusal
fate_usable h action needs on =
    ap (λ m. unless_refused h (first_reason m h.bad_meta ((meaning action).reasons h)) ((meaning action).comes h))
    (ap (mode_refusal h.mode h.bad_meta) needs ∙ ap (λ mode. mode_refusal mode h.bad_meta Usable) on)

-- and of one that names nothing and fills nothing: places first
pub fate_worked : (h : Machine) (action : Action) → (meaning action).needs ≡ Usable → h.mode ≡ On → ((meaning action).reasons h).named ≡ None → ((meaning action).reasons h).full ≡ None
    → fate h action
    ≡ unless_refused h (first_there ((meaning action).reasons h).places (first_there (metadata_refusal ((meaning action).reasons h).changes_metadata h.bad_meta) ((meaning action).reasons h).unreadable)) ((meaning action).comes h)
fate_worked h action needs on named full =
    let r = (meaning action).reasons h in
    let comes = (meaning action).comes h in
    fate_usable h action needs on
    ∙ ap (λ o. unless_refused h (first_there o (first_there r.places (first_there r.full (first_there (metadata_refusal r.changes_metadata h.bad_meta) r.unreadable)))) comes) named
    ∙ ap (λ o. unless_refused h (first_there r.places (first_there o (first_there (metadata_refusal r.changes_metadata h.bad_meta) r.unreadable))) comes) full
