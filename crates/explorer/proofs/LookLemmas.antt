-- What the device tells of one line of the volume.
use Rattle.std.proofs.Common.{◌≡◌, inl, inr, ℕ, zero, suc, ◌+◌, ◌-◌, ◌*◌, ◌/◌, ◌%◌, ◌<◌, ◌≤◌, Bool, true, false, Option, Some, None, option_map, List, [], ◌∷◌, ◌++◌, drop, get_or, length, position, take, replicate, slice_index_or, IsTrue, refl, sym, ap, subst, ◌∙◌, arith}
use Rattle.std.specs.Prelude.{slice_index}
use Rattle.std.specs.Int.{byte_at}
use Rattle.std.specs.List.{list_all, range_with_len}
use Rattle.std.proofs.lemmas.Bool.{and_parts}
use Rattle.std.proofs.lemmas.List.{append_assoc, get_or-replicate, length-take-le, map-append}
use Rattle.std.proofs.lemmas.Option.{get_or_from_slice_get}
use Rattle.line_device.specs.Device.{Device}
use Rattle.line_device.specs.History.{newest}
use Rattle.line_device.specs.Medium.{Medium, IsSound}
use Rattle.line_device.specs.Word.{word_at, word_from}
use Rattle.line_words.proofs.PositionLemmas.{none_found, one_found}
use Rattle.word_tables.specs.Layout.{volume_line}
use Rattle.nvm_model.specs.Blocks.{first_there}
use Rattle.nvm_model.specs.Cell.{Cell, cell_byte}
use Rattle.nvm_model.specs.Cell.Cell.{Bad, Kept}
use Rattle.nvm_model.specs.Numbered.{list_from}
use Rattle.nvm_model.specs.Page.{Page, PagesStand, byte_in, cell_of, first_bad_line, is_bad_cell, look, presence_of}
use Rattle.nvm_model.proofs.LineLemmas.{byte_spelled}
use Rattle.nvm_model.proofs.NumberedLemmas.{length-list_from, list_from-is, slice_get-list_from}
use Rattle.pm_volume.specs.Refusals.{poisoned_at}
use Rattle.reply_text.specs.Answer.{Answer}
use Rattle.reply_text.specs.Answer.Answer.{Bytes, Yes, No, PoisonVolume as Poisoned, Refused as IsRefused}
use Rattle.reply_text.specs.declared.reply.Why.{Why}
use Rattle.script_text.specs.Action.{Action}
use Rattle.script_text.specs.Action.Action.{VExists, VLoad}
use Rattle.cut_places.specs.MachineModel.declared.mode.Mode.TheVariants.{On}
use Rattle.cut_places.specs.MachineModel.declared.needs.Needs.TheVariants.{Usable}
use Rattle.cut_places.specs.MachineModel.Machine.{Machine, Fate}
use Rattle.cut_places.specs.MachineModel.Machine.Fate.{Gives, Works, Orders, Cuts, Restarts, Recovers}
use Rattle.cut_places.specs.MachineModel.Commands.{fate, meaning, refusal, unless_refused, while_interrupted}
use Rattle.cut_places.specs.MachineModel.Meaning.{mode_refusal, most_refusal}
use Rattle.cut_places.specs.MachineModel.OnVolume.{volume_answer, yes_or_no}
use Rattle.cut_places.specs.MachineModel.Run.{Ends, Takes, Transcript}
use Rattle.machine_host.specs.Stands.{Comes, HostServes, HostState, Stands}
use Rattle.cut_places.specs.Durable.Durable.{HaveLines, IsLineThere}
use Rattle.cut_places.specs.Durable.Place.{is_line_present}
use Rattle.cut_places.proofs.Durable.PresenceLemmas.{absent_line}
use Rattle.cut_places.specs.Outcomes.Pages.{PageRead, all_lines_read, lines_read}
use Rattle.cut_places.specs.Outcomes.Stops.{is_of_program}
use Rattle.cut_places.specs.AskedReads.declared.reads.PageRead.{PageRead as AskedPages}
use Rattle.cut_places.specs.AskedReads.Reads.{page_read, page_reply, pages_asked}
use Rattle.explorer.specs.declared.came.Came.TheVariants.{Done}
use Rattle.cut_places.specs.SightsSeen.declared.line_seen.LineSeen.{LineSeen}
use Rattle.explorer.specs.Coming.{came_of}
use Rattle.nvm_model.specs.Events.{is_weak_cell}
use Rattle.cut_places.specs.SightsSeen.Seeing.{or_zeros, seen}
use Rattle.explorer.specs.Starting.{AreDurable, AreOfBytes, Begins}
use Rattle.cut_places.specs.SightsSeen.Units.{AreLines, line_numbers}
use Rattle.explorer.proofs.ComesLemmas.{came_to, was_done, was_refused}
use Rattle.cut_places.proofs.SightsSeen.VolumeChangeLemmas.{none_second}
use Rattle.explorer.proofs.BlockLookLemmas.{same_answer, stop_came}

-- it was answered as what comes of it is
abbrev pub GaveIt : Fate → Answer → Machine → Type 0
GaveIt (Gives good to) answer next = (answer ≡ good) × (next ≡ to)
GaveIt (Works good to) answer next = (answer ≡ good) × (next ≡ to)
GaveIt (Orders order to) answer next = Unit {0}
GaveIt (Cuts to) answer next = Unit {0}
GaveIt (Restarts choice) answer next = Unit {0}
GaveIt Recovers answer next = Unit {0}

pub told_done : (host : HostState) (h : Machine) (action : Action) (answer : Answer) (old new : Device) → IsTrue (is_of_program action)
    → (comes : Comes h action (fate h action) answer host old new) → came_of answer ≡ Done
    → (refusal h action ≡ None) × GaveIt ((meaning action).comes h) answer comes.next
told_done host h action answer old new program comes is = (
  allowed,
  by_fate ((meaning action).comes h) (subst (λ o. Takes h action (unless_refused h o ((meaning action).comes h)) comes.said comes.next) allowed comes.takes),
)
  where
    allowed : refusal h action ≡ None
    allowed = (was_done h action answer comes.next (came_to host h action answer old new program comes) (sym is)).0

    told : (given : Answer) → comes.said.answers ≡ given ∷ [] → answer ≡ given
    told given at = same_answer answer given (sym comes.answers ∙ at)

    by_fate : (to : Fate) → Takes h action to comes.said comes.next → GaveIt to answer comes.next
    by_fate (Gives good to) took = (told good (ap (λ (t : Transcript). t.answers) took.0), took.1)
    by_fate (Works good to) took = by_end took.2
      where
        given : answer ≡ took.0
        given = told took.0 (ap (λ (t : Transcript). t.answers) took.1)

        by_end : Ends good to (while_interrupted h action) took.0 comes.next → GaveIt (Works good to) answer comes.next
        by_end (inl end) = (given ∙ end.0, end.1)
        by_end (inr end) = cc (sym is ∙ (ap came_of (given ∙ end.1) ∙ stop_came end.0))
    by_fate (Orders order to) took = tt
    by_fate (Cuts to) took = tt
    by_fate (Restarts choice) took = tt
    by_fate Recovers took = tt

-- the mark of a line that is there, and that of one that isn't
weak_there : (m : Medium) (place : ℕ → ℕ) (pages : List Page) (n : ℕ) → IsSound m → PagesStand place m pages → HaveLines pages
    → is_line_present pages n ≡ true → m.is_weak (place n) ≡ is_weak_cell (seen pages n)
weak_there m place pages n sound stand lines there = by_cell (cell_of pages n) refl (lines n there)
  where
    by_cell : (o : Option Cell) → cell_of pages n ≡ o → IsLineThere o → m.is_weak (place n) ≡ is_weak_cell (or_zeros (cell_of pages n))
    by_cell None is here = absurd here
    by_cell (Some Bad) is here = sound.unmarked (place n) (stand.lines n Bad is) ∙ sym (ap (λ o. is_weak_cell (or_zeros o)) is)
    by_cell (Some (Kept weak words)) is here = (stand.lines n (Kept weak words) is).1 ∙ sym (ap (λ o. is_weak_cell (or_zeros o)) is)

yes_there : (b : Bool) → Yes ≡ yes_or_no b → b ≡ true
yes_there true is = refl
yes_there false is = cc is

no_absent : (b : Bool) → No ≡ yes_or_no b → b ≡ false
no_absent true is = cc is
no_absent false is = refl

module _ (host : HostState) (h : Machine) (n : ℕ) (answer : Answer) (old new : Device) (begins : Begins h) where
  pub told_yes : IsSound new.medium → HostServes host new → (comes : Comes h (VExists (n / 64)) (fate h (VExists (n / 64))) answer host old new) → answer ≡ Yes
      → (new.medium.is_weak (volume_line host.geometry n) ≡ is_weak_cell (seen h.volume n)) × Stands host new h
  told_yes sound serves comes is =
      let gave = (told_done host h (VExists (n / 64)) answer old new refl comes (ap came_of is)).1 in
      let there = yes_there (slice_index_or (presence_of h.volume) (n / 64) false) (sym is ∙ gave.0) in
      let stands : Stands host new h = subst (Stands host new) gave.1 comes.stands in
      let on : host.mode ≡ On = stands.mode ∙ begins.ready.mode in (
        subst (λ g. new.medium.is_weak (volume_line g n) ≡ is_weak_cell (seen h.volume n)) (serves.mounted on).volume_geometry
            (weak_there new.medium (volume_line host.volume.geo) h.volume n sound (stands.volume on).stand begins.ready.whole.lines there),
        stands,
      )

  pub told_no : (comes : Comes h (VExists (n / 64)) (fate h (VExists (n / 64))) answer host old new) → answer ≡ No
      → (false ≡ is_weak_cell (seen h.volume n)) × Stands host new h
  told_no comes is =
      let gave = (told_done host h (VExists (n / 64)) answer old new refl comes (ap came_of is)).1 in
      let absent = no_absent (slice_index_or (presence_of h.volume) (n / 64) false) (sym is ∙ gave.0) in
      (sym (ap (λ o. is_weak_cell (or_zeros o)) (absent_line h.volume n absent)), subst (Stands host new) gave.1 comes.stands)

-- a byte of a line
byte_of : (pages : List Page) (n k : ℕ) → k < 64 → (o : Option Cell) → cell_of pages n ≡ o → byte_in pages (64 * n + k) ≡ elim o [ None ↦ 0 | Some cell ↦ cell_byte cell k ]
byte_of pages n k lt o is =
    let line : (64 * n + k) / 64 ≡ n = omega (arith, lt) in
    let place : (64 * n + k) % 64 ≡ k = omega (arith, lt) in
    ap (λ m. elim (cell_of pages m) [ None ↦ 0 | Some cell ↦ cell_byte cell ((64 * n + k) % 64) ]) line
    ∙ ap (λ j. elim (cell_of pages n) [ None ↦ 0 | Some cell ↦ cell_byte cell j ]) place
    ∙ ap (λ (c : Option Cell). elim c [ None ↦ 0 | Some cell ↦ cell_byte cell k ]) is

durable_byte : (mark : Bool) (words : List (List ℕ)) (k : ℕ) → k < 64 → (of : AreOfBytes words) → slice_index of.bytes k ≡ cell_byte (Kept mark words) k
durable_byte mark words k lt of =
    let word : slice_index_or (list_from (λ w. word_at of.bytes w ∷ []) 0 8) (k / 8) [] ≡ word_at of.bytes (0 + k / 8) ∷ [] =
    get_or_from_slice_get (list_from (λ w. word_at of.bytes w ∷ []) 0 8) (k / 8) (word_at of.bytes (0 + k / 8) ∷ []) []
    (slice_get-list_from (λ w. word_at of.bytes w ∷ []) 0 8 (k / 8) (omega (arith, lt))) in
    let from_zero : 0 + k / 8 ≡ k / 8 = omega arith in
    sym (ap (λ ws. byte_at (k % 8) (newest (slice_index_or ws (k / 8) []))) of.are ∙ ap (λ (v : List ℕ). byte_at (k % 8) (newest v)) word
    ∙ ap (λ w. byte_at (k % 8) (word_at of.bytes w)) from_zero ∙ byte_spelled of.bytes k of.small)

look_is : (pages : List Page) (n : ℕ) (bytes : List ℕ) → length bytes ≡ 64 → ((k : ℕ) → k < 64 → slice_index bytes k ≡ byte_in pages (64 * n + k)) → look pages (64 * n) 64 ≡ bytes
unfolding look
look_is pages n bytes size each =
    sym (list_from-is (byte_in pages) (64 * n) bytes (λ k lt. each k (omega (arith, lt, size))) ∙ ap (list_from (byte_in pages) (64 * n)) size)

pub length-look : (pages : List Page) (at count : ℕ) → length (look pages at count) ≡ count
unfolding look
length-look pages at count = length-list_from (byte_in pages) at count

-- a line that is read alone
module _ (pages : List Page) (n : ℕ) where
  line_good : first_bad_line pages (64 * n) 64 ≡ None → is_bad_cell (cell_of pages n) ≡ false
  unfolding first_bad_line
  line_good none = by_place (position (λ m. is_bad_cell (cell_of pages m)) (range_with_len (64 * n / 64) ((64 * n + 64 - 1) / 64 + 1 - 64 * n / 64))) refl none
    where
      by_place : (o : Option ℕ) → position (λ m. is_bad_cell (cell_of pages m)) (range_with_len (64 * n / 64) ((64 * n + 64 - 1) / 64 + 1 - 64 * n / 64)) ≡ o
          → option_map (λ k. 64 * n / 64 + k) o ≡ None → is_bad_cell (cell_of pages n) ≡ false
      by_place None is none =
          let there : 64 * n / 64 + 0 ≡ n = omega arith in
          sym (ap (λ m. is_bad_cell (cell_of pages m)) there)
          ∙ none_found (λ m. is_bad_cell (cell_of pages m)) (64 * n / 64) ((64 * n + 64 - 1) / 64 + 1 - 64 * n / 64) 0 is (omega arith)
      by_place (Some k) is none = cc none

  pub line_bad : (m : ℕ) → first_bad_line pages (64 * n) 64 ≡ Some m → is_bad_cell (cell_of pages n) ≡ true
  unfolding first_bad_line
  line_bad m found = by_place (position (λ m. is_bad_cell (cell_of pages m)) (range_with_len (64 * n / 64) ((64 * n + 64 - 1) / 64 + 1 - 64 * n / 64))) refl found
    where
      by_place : (o : Option ℕ) → position (λ m. is_bad_cell (cell_of pages m)) (range_with_len (64 * n / 64) ((64 * n + 64 - 1) / 64 + 1 - 64 * n / 64)) ≡ o
          → option_map (λ k. 64 * n / 64 + k) o ≡ Some m → is_bad_cell (cell_of pages n) ≡ true
      by_place None is found = cc found
      by_place (Some k) is found =
          let one = one_found (λ m. is_bad_cell (cell_of pages m)) (64 * n / 64) ((64 * n + 64 - 1) / 64 + 1 - 64 * n / 64) k is in
          let below : k < (64 * n + 64 - 1) / 64 + 1 - 64 * n / 64 = one.within in
          let there : 64 * n / 64 + k ≡ n = omega (arith, below) in
          sym (ap (λ m. is_bad_cell (cell_of pages m)) there) ∙ one.here

zero_words : list_from (λ w. word_at (replicate 64 0) w ∷ []) 0 8 ≡ replicate 8 (0 ∷ [])
unfolding word_from
zero_words = refl

-- a line that is shown is of the bytes that are read of it
pub shown_line : (pages : List Page) (n : ℕ) (weak : Bool) → AreDurable pages → first_bad_line pages (64 * n) 64 ≡ None → weak ≡ is_weak_cell (seen pages n)
    → Kept weak (list_from (λ w. word_at (look pages (64 * n) 64) w ∷ []) 0 8) ≡ seen pages n
shown_line pages n weak durable none marked = by_cell (cell_of pages n) refl
  where
    mark_of : (o : Option Cell) → cell_of pages n ≡ o → weak ≡ is_weak_cell (or_zeros o)
    mark_of o is = marked ∙ ap (λ c. is_weak_cell (or_zeros c)) is

    of_bytes : List ℕ → Cell
    of_bytes bytes = Kept weak (list_from (λ w. word_at bytes w ∷ []) 0 8)

    by_cell : (o : Option Cell) → cell_of pages n ≡ o → of_bytes (look pages (64 * n) 64) ≡ or_zeros (cell_of pages n)
    by_cell None is =
        let zeros : (k : ℕ) → k < 64 → slice_index (replicate 64 0) k ≡ byte_in pages (64 * n + k) = λ k lt. get_or-replicate 64 k 0 0 lt ∙ sym (byte_of pages n k lt None is) in
        ap of_bytes (look_is pages n (replicate 64 0) refl zeros) ∙ ap (Kept weak) zero_words ∙ ap (λ b. Kept b (replicate 8 (0 ∷ []))) (mark_of None is) ∙ sym (ap or_zeros is)
    by_cell (Some Bad) is = cc (sym (line_good pages n none) ∙ ap is_bad_cell is)
    by_cell (Some (Kept mark words)) is =
        let of = durable n mark words is in
        let each : (k : ℕ) → k < 64 → slice_index of.bytes k ≡ byte_in pages (64 * n + k) = λ k lt. durable_byte mark words k lt of ∙ sym (byte_of pages n k lt (Some (Kept mark words)) is) in
        ap of_bytes (look_is pages n of.bytes of.size each) ∙ ap (Kept weak) (sym of.are) ∙ ap (λ b. Kept b words) (mark_of (Some (Kept mark words)) is) ∙ sym (ap or_zeros is)

-- why a load is refused
none_unreadable : (l : Option ℕ) → option_map volume_answer (poisoned_at l) ≡ None → l ≡ None
none_unreadable None is = refl
none_unreadable (Some n) is = cc is

shown_good : (h : Machine) (at len : ℕ) → refusal h (VLoad at len) ≡ None → first_bad_line h.volume at len ≡ None
unfolding refusal
shown_good h at len allowed =
    let unreadable : Option Answer = option_map volume_answer (poisoned_at (first_bad_line h.volume at len)) in
    let placed : Option Answer = option_map IsRefused (most_refusal 65536 (4096 * h.geometry.vpages) at len) in
    none_unreadable (first_bad_line h.volume at len) (none_second placed unreadable (none_second (mode_refusal h.mode h.bad_meta Usable) (first_there placed unreadable) allowed))

bad_named : (why : Option Why) (l : Option ℕ) (offset : ℕ) → first_there (option_map IsRefused why) (option_map volume_answer (poisoned_at l)) ≡ Some (Poisoned offset)
    → (m : ℕ) × (l ≡ Some m)
bad_named (Some why) l offset is = cc is
bad_named None None offset is = cc is
bad_named None (Some m) offset is = (m, refl)

poisoned_bad : (h : Machine) (at len offset : ℕ) → h.mode ≡ On → refusal h (VLoad at len) ≡ Some (Poisoned offset) → (m : ℕ) × (first_bad_line h.volume at len ≡ Some m)
unfolding refusal
poisoned_bad h at len offset on is =
    let unreadable : Option Answer = option_map volume_answer (poisoned_at (first_bad_line h.volume at len)) in
    let placed : Option Answer = option_map IsRefused (most_refusal 65536 (4096 * h.geometry.vpages) at len) in
    let usable : mode_refusal h.mode h.bad_meta Usable ≡ None = ap (λ mode. mode_refusal mode h.bad_meta Usable) on in
    bad_named (most_refusal 65536 (4096 * h.geometry.vpages) at len) (first_bad_line h.volume at len) offset
    (sym (ap (λ o. first_there o (first_there placed unreadable)) usable) ∙ is)

pub bad_seen : (pages : List Page) (n : ℕ) → is_bad_cell (cell_of pages n) ≡ true → Bad ≡ seen pages n
bad_seen pages n = by_cell (cell_of pages n)
  where
    by_cell : (o : Option Cell) → is_bad_cell o ≡ true → Bad ≡ or_zeros o
    by_cell None is = cc is
    by_cell (Some Bad) is = refl
    by_cell (Some (Kept weak words)) is = cc is

pub same_bytes : (a b : List ℕ) → Bytes a ≡ Bytes b → a ≡ b
same_bytes a b is = cc is

-- so many bytes stand at the head of the buffer
pub head_of : (work bytes : List ℕ) (k size : ℕ) → k ≤ length work → take k work ≡ bytes → length bytes ≡ size → take size work ≡ bytes
head_of work bytes k size within is long =
    let count : k ≡ size = sym (length-take-le k work within) ∙ ap (λ (b : List ℕ). length b) is ∙ long in
    ap (λ i. take i work) (sym count) ∙ is

module _ (host : HostState) (h : Machine) (n : ℕ) (answer : Answer) (old new : Device) (begins : Begins h)
    (comes : Comes h (VLoad (64 * n) 64) (fate h (VLoad (64 * n) 64)) answer host old new) where
  pub told_read : (weak : Bool) (work : List ℕ) (k : ℕ) → weak ≡ is_weak_cell (seen h.volume n) → answer ≡ Bytes (take k work) → k ≤ length work
      → (Kept weak (list_from (λ w. word_at (take 64 work) w ∷ []) 0 8) ≡ seen h.volume n) × Stands host new h
  told_read weak work k marked is within =
      let told = told_done host h (VLoad (64 * n) 64) answer old new refl comes (ap came_of is) in
      let bytes : take k work ≡ look h.volume (64 * n) 64 = same_bytes (take k work) (look h.volume (64 * n) 64) (sym is ∙ told.1.0) in
      let head : take 64 work ≡ look h.volume (64 * n) 64 = head_of work (look h.volume (64 * n) 64) k 64 within bytes (length-look h.volume (64 * n) 64) in (
        ap (λ (b : List ℕ). Kept weak (list_from (λ w. word_at b w ∷ []) 0 8)) head ∙ shown_line h.volume n weak begins.durable (shown_good h (64 * n) 64 told.0) marked,
        subst (Stands host new) told.1.1 comes.stands,
      )

  pub told_poison : (offset : ℕ) → answer ≡ Poisoned offset → (Bad ≡ seen h.volume n) × Stands host new h
  told_poison offset is =
      let told = was_refused h (VLoad (64 * n) 64) answer comes.next (came_to host h (VLoad (64 * n) 64) answer old new refl comes) (sym (ap came_of is)) in
      let found = poisoned_bad h (64 * n) 64 offset begins.ready.mode (told.0 ∙ ap Some is) in
      (bad_seen h.volume n (line_bad h.volume n found.0 found.1), subst (Stands host new) told.1 comes.stands)

-- one line more
pub are_more : (f : ℕ → Cell) (lines : List LineSeen) (s : LineSeen) → AreLines f lines → s.line ≡ f s.number → AreLines f (lines ++ s ∷ [])
are_more f [] s are is = (is, tt)
are_more f (x ∷ lines) s are is = (are.0, are_more f lines s are.1 is)

range_suc : (n a : ℕ) → range_with_len a (suc n) ≡ range_with_len a n ++ (a + n) ∷ []
range_suc zero a = let e : a ≡ a + 0 = omega arith in ap (λ x. x ∷ []) e
range_suc (suc n) a =
    let e : a + 1 + n ≡ a + suc n = omega arith in ap (λ l. a ∷ l) (range_suc n (a + 1) ∙ ap (λ x. range_with_len (a + 1) n ++ x ∷ []) e)

range_more : (from n : ℕ) → from ≤ n → range_with_len from (n + 1 - from) ≡ range_with_len from (n - from) ++ n ∷ []
range_more from n low =
    let more : n + 1 - from ≡ suc (n - from) = omega (arith, low) in
    let last : from + (n - from) ≡ n = omega (arith, low) in
    ap (range_with_len from) more ∙ range_suc (n - from) from ∙ ap (λ x. range_with_len from (n - from) ++ x ∷ []) last

pub numbers_more : (from n : ℕ) (ns : List ℕ) (lines : List LineSeen) (s : LineSeen) → from ≤ n → line_numbers lines ≡ ns ++ range_with_len from (n - from) → s.number ≡ n
    → line_numbers (lines ++ s ∷ []) ≡ ns ++ range_with_len from (n + 1 - from)
numbers_more from n ns lines s low are is =
    map-append (λ (seen : LineSeen). seen.number) lines (s ∷ []) ∙ ap (λ ms. ms ++ s.number ∷ []) are
    ∙ ap (λ k. (ns ++ range_with_len from (n - from)) ++ k ∷ []) is
    ∙ append_assoc ns (range_with_len from (n - from)) (n ∷ []) ∙ ap (λ ms. ns ++ ms) (sym (range_more from n low))

-- one read more
split_at : (reads : List AskedPages) (i : ℕ) (r : AskedPages) → i < length reads → r ≡ get_or reads i r → drop i reads ≡ r ∷ drop (suc i) reads
split_at [] i r lt is = absurd (omega arith)
split_at (x ∷ reads) zero r lt is = ap (λ y. y ∷ reads) (sym is)
split_at (x ∷ reads) (suc i) r lt is = split_at reads i r (omega arith) is

pub reads_more : (reads : List AskedPages) (i : ℕ) (r : AskedPages) (ns ms : List ℕ) → i < length reads → r ≡ get_or reads i r
    → ns ++ all_lines_read (pages_asked (drop i reads)) ≡ all_lines_read (pages_asked reads) → ms ≡ ns ++ lines_read r.start r.len (page_reply r.reply)
    → ms ++ all_lines_read (pages_asked (drop (i + 1) reads)) ≡ all_lines_read (pages_asked reads)
reads_more reads i r ns ms lt is before more =
    let next : i + 1 ≡ suc i = omega arith in
    ap (λ k. ms ++ all_lines_read (pages_asked (drop k reads))) next
    ∙ ap (λ xs. xs ++ all_lines_read (pages_asked (drop (suc i) reads))) more
    ∙ append_assoc ns (lines_read r.start r.len (page_reply r.reply)) (all_lines_read (pages_asked (drop (suc i) reads)))
    ∙ ap (λ xs. ns ++ all_lines_read (pages_asked xs)) (sym (split_at reads i r lt is)) ∙ before

pub reply_at : (f : PageRead → Bool) (reads : List AskedPages) (i : ℕ) (r : AskedPages) → list_all f (pages_asked reads) ≡ true → i < length reads → r ≡ get_or reads i r
    → f (page_read r) ≡ true
reply_at f [] i r all lt is = absurd (omega arith)
reply_at f (x ∷ reads) zero r all lt is = ap (λ y. f (page_read y)) is ∙ (and_parts (f (page_read x)) (list_all f (pages_asked reads)) all).0
reply_at f (x ∷ reads) (suc i) r all lt is = reply_at f reads i r (and_parts (f (page_read x)) (list_all f (pages_asked reads)) all).1 (omega arith) is
