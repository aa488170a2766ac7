-- No outcome stands twice in a list.
use Rattle.std.proofs.Common.{◌≡◌, ℕ, ◌<◌, ◌^◌, ◌==◌, ◌*◌, ◌/◌, ◌%◌, true, Option, Some, None, List, [], ◌∷◌, ◌++◌, map, refl, sym, ap, ◌∙◌, arith}
use Rattle.std.specs.Int.{w64, to_le_bytes, from_le_bytes}
use Rattle.std.specs.List.{AllByRecursion}
use Rattle.std.proofs.lemmas.List.{same_from_push}
use Rattle.std.proofs.lemmas.Nat.{from_le_bytes-to_le_bytes_8}
use Rattle.std.proofs.lemmas.Slice.Eq.{bytes_eq-Decides}
use Rattle.reply_text.specs.declared.reply.Why.{Why}
use Rattle.reply_text.specs.declared.reply.Why.TheVariants.{Missing, Range}
use Rattle.nvm_model.specs.Blocks.{nth}
use Rattle.nvm_model.specs.Cell.{Cell}
use Rattle.block_sights.specs.Sights.{Sight, sight}
use Rattle.block_sights.specs.Sights.Sight.{Whole, Scar, BadLine}
use Rattle.explorer.specs.SightsSeen.BlockTelling.{same_sight}
use Rattle.explorer.specs.SightsSeen.Seeing.{seen}
use Rattle.script_text.specs.Script.{Input}
use Rattle.explorer.specs.MachineModel.Machine.{Machine}
use Rattle.explorer.specs.Outcomes.Blocks.{BlockRead}
use Rattle.explorer.specs.Outcomes.Files.{FileRead}
use Rattle.explorer.specs.Outcomes.Pages.{PageRead, PageReply}
use Rattle.explorer.specs.Outcomes.Pages.PageReply.{Poison, Refuses, Shows}
use Rattle.explorer.specs.Outcomes.Seen.{Seen, block_reads, file_reads, volume_reads}
use Rattle.explorer.specs.Outcomes.Seen.Seen.{of_blocks, of_file, of_volume}
use Rattle.explorer.specs.AskedReads.declared.read.Read.{Read}
use Rattle.explorer.specs.AskedReads.declared.read.Read.TheVariants.{Volume, Blocks, File}
use Rattle.explorer.specs.CutPlaces.declared.place.CutPlace.{CutPlace}
use Rattle.explorer.specs.CutPlaces.Places.{cut_places}
use Rattle.explorer.specs.ValueTables.Left.{file_side}
use Rattle.explorer.specs.ValueTables.Listed.{reply_of}
use Rattle.explorer.specs.ValueTables.Values.{cells_of, history_of, values_with, with_all}
use Rattle.outcome_lists.specs.Choices.{Choice, block_choice, choices, file_choices, head, sights_through, states, value_choice, values_through, word_choices}
use Rattle.outcome_lists.specs.Listing.{Pairwise, StandOnce}
use Rattle.outcome_lists.specs.Outcomes.{Asked, Outcome, and_seen, begun, grown, if_found, look_of, nothing, outcomes_from, outcomes_of, place_of, with_choice, with_choices}
use Rattle.outcome_lists.proofs.BitsLemmas.{Are64}
use Rattle.outcome_lists.proofs.StateBitsLemmas.{of_64_bits}
use Rattle.explorer.specs.Durable.Durable.{BringBytes}
use Rattle.explorer.specs.Leading.{led_through}
use Rattle.explorer.specs.Starting.{AreDurable, HaveDurable}
use Rattle.outcome_lists.proofs.LookLemmas.{blocks_back, files_back, volume_back}
use Rattle.outcome_lists.proofs.PairLemmas.{Differ, all_joined, all_made, all_once, pairs_joined, pairs_made, pairs_told}

is_itself : (n : ℕ) → (n == n) ≡ true
is_itself n = grind arith

sight_itself : (s : Sight) → same_sight s s ≡ true
sight_itself (Whole bytes) = (bytes_eq-Decides bytes bytes).1 refl
sight_itself Scar = refl
sight_itself (BadLine line) = is_itself line

-- so values of a word are listed once, and sights of a block
values_once : (w : ℕ) (found : List ℕ) (cells : List Cell) → Pairwise Differ found → Pairwise Differ (values_with w found cells)
values_once w found [] once = once
values_once w found (cell ∷ cells) once =
    let more : List ℕ = with_all (λ a b. a == b) found (history_of w cell) in
    values_once w more cells (all_once (λ a b. a == b) is_itself found (history_of w cell) once)

-- numbers of 64 bits that have the same bytes are the same
same_bytes : (v u : ℕ) → v < 2 ^ 64 → u < 2 ^ 64 → to_le_bytes w64 v ≡ to_le_bytes w64 u → v ≡ u
same_bytes v u small little is =
    sym (from_le_bytes-to_le_bytes_8 v small) ∙ ap (λ (bytes : List ℕ). from_le_bytes w64 bytes) is ∙ from_le_bytes-to_le_bytes_8 u little

-- two choices that tell of different finds
abbrev TellApart : Choice → Choice → Type 0
TellApart c d = Differ c.seen d.seen

module _ (before : List ℕ) (read : PageReply → Seen) (exact : (r s : PageReply) → read r ≡ read s → r ≡ s) where
  values_apart : (values : List ℕ) → Are64 values → Pairwise Differ values → Pairwise TellApart (map (value_choice before read) values)
  values_apart values small once =
      pairs_made TellApart (λ v. v < 2 ^ 64) Differ (value_choice before read)
      (λ v u below under differ same. differ (same_bytes v u below under (cc (exact (Shows (to_le_bytes w64 v)) (Shows (to_le_bytes w64 u)) same)))) values small once

  beside_values : (r : PageReply) → ((bytes : List ℕ) → r ≡ Shows bytes → ⊥) → (values : List ℕ)
      → AllByRecursion (λ (d : Choice). Differ (read r) d.seen) (map (value_choice before read) values)
  beside_values r other values =
      all_made (λ (d : Choice). Differ (read r) d.seen) (value_choice before read) (λ v same. other (to_le_bytes w64 v) (exact r (Shows (to_le_bytes w64 v)) same)) values

  words_apart : (start : ℕ) (values : List ℕ) → Are64 values → Pairwise Differ values → Pairwise TellApart (word_choices before read start values)
  words_apart start values small once = (beside_values (Poison (64 * (start / 64))) (λ bytes is. cc is) values, values_apart values small once)

  refused_beside : (why : Why) (start : ℕ) (values : List ℕ) → AllByRecursion (λ (d : Choice). Differ (read (Refuses why)) d.seen) (word_choices before read start values)
  refused_beside why start values =
      ((λ same. cc (exact (Refuses why) (Poison (64 * (start / 64))) same)), beside_values (Refuses why) (λ bytes is. cc is) values)

  file_apart : (start : ℕ) (values : List ℕ) → Are64 values → Pairwise Differ values → Pairwise TellApart (file_choices before read start values)
  file_apart start values small once =
      (((λ same. cc (exact (Refuses Missing) (Refuses Range) same)), refused_beside Missing start values), (refused_beside Range start values, words_apart start values small once))

-- reads that are the same, of one kind
same_volume : {r o : PageRead} → of_volume r ≡ of_volume o → r ≡ o
same_volume is = cc is

same_blocks : {r o : BlockRead} → of_blocks r ≡ of_blocks o → r ≡ o
same_blocks is = cc is

same_file : {r o : FileRead} → of_file r ≡ of_file o → r ≡ o
same_file is = cc is

same_reply : (b : ℕ) (s t : Sight) → reply_of b s ≡ reply_of b t → s ≡ t
same_reply b (Whole bytes) (Whole others) is = cc is
same_reply b (Whole bytes) Scar is = cc is
same_reply b (Whole bytes) (BadLine line) is = cc is
same_reply b Scar (Whole others) is = cc is
same_reply b Scar Scar is = refl
same_reply b Scar (BadLine line) is = cc is
same_reply b (BadLine line) (Whole others) is = cc is
same_reply b (BadLine line) Scar is = cc is
same_reply b (BadLine line) (BadLine other) is = cc is

blocks_apart : (before : List ℕ) (b : ℕ) (sights : List Sight) → Pairwise Differ sights → Pairwise TellApart (map (block_choice before b) sights)
blocks_apart before b sights once =
    pairs_made TellApart (λ s. Unit {0}) Differ (block_choice before b)
    (λ s t _ _ differ same. differ (same_reply b s t (ap (λ (r : BlockRead). r.reply) (same_blocks same)))) sights (all_of sights) once
  where
    all_of : (ss : List Sight) → AllByRecursion (λ s. Unit {0}) ss
    all_of [] = tt
    all_of (s ∷ ss) = (tt, all_of ss)

-- no two choices of a part tell the same
choices_apart : (hs : List Machine) (part : Read) → Are64 (values_through part [] hs) → Pairwise TellApart (choices hs part)
choices_apart hs (Volume start len) small =
    words_apart (head (Volume start len)) (λ reply. of_volume (record { start = start; len = len; reply = reply }))
    (λ r s same. ap (λ (r : PageRead). r.reply) (same_volume same)) start
    (values_through (Volume start len) [] hs) small (values_once (start / 8 % 8) [] (map (λ (h : Machine). seen h.volume (start / 64)) hs) tt)
choices_apart hs (Blocks first count) small =
    blocks_apart (head (Blocks first count)) first (sights_through (Blocks first count) [] hs)
    (all_once same_sight sight_itself [] (map (λ (h : Machine). sight (nth h.blocks first)) hs) tt)
choices_apart hs (File name start len) small =
    file_apart (head (File name start len)) (λ reply. of_file (record { name = name; pages = record { start = start; len = len; reply = reply } }))
    (λ r s same. ap (λ (r : FileRead). r.pages.reply) (same_file same)) start
    (values_through (File name start len) [] hs) small (values_once (start / 8 % 8) [] (cells_of (map (λ (h : Machine). file_side name (start / 8) h.files) hs)) tt)

-- of which kind a read is: those of a part are of one kind
abbrev kind : Seen → ℕ
kind (of_volume r) = 0
kind (of_blocks r) = 1
kind (of_file r) = 2

abbrev kind_of_part : Read → ℕ
kind_of_part (Volume start len) = 0
kind_of_part (Blocks first count) = 1
kind_of_part (File name start len) = 2

abbrev IsOfKind : ℕ → Choice → Type 0
IsOfKind k c = kind c.seen ≡ k

choices_kind : (hs : List Machine) (part : Read) → AllByRecursion (IsOfKind (kind_of_part part)) (choices hs part)
choices_kind hs (Volume start len) = (
  refl,
  all_made (IsOfKind 0) (value_choice (head (Volume start len)) (λ reply. of_volume (record { start = start; len = len; reply = reply })))
      (λ v. refl) (values_through (Volume start len) [] hs),
)
choices_kind hs (Blocks first count) = all_made (IsOfKind 1) (block_choice (head (Blocks first count)) first) (λ s. refl) (sights_through (Blocks first count) [] hs)
choices_kind hs (File name start len) = (
  refl,
  (
    refl,
    (
      refl,
      all_made (IsOfKind 2) (value_choice (head (File name start len))
          (λ reply. of_file (record { name = name; pages = record { start = start; len = len; reply = reply } })))
          (λ v. refl) (values_through (File name start len) [] hs),
    ),
  ),
)

-- the reads that a look is of
same_asked : (a b : Asked) → a.volume ≡ b.volume → a.blocks ≡ b.blocks → a.files ≡ b.files → a ≡ b
same_asked a b volume blocks files =
    ap (λ rs. record { volume = rs; blocks = a.blocks; files = a.files }) volume ∙ ap (λ rs. record { volume = b.volume; blocks = rs; files = a.files }) blocks
    ∙ ap (λ rs. record { volume = b.volume; blocks = b.blocks; files = rs }) files

same_look : (a b : Asked) → look_of a ≡ look_of b → a ≡ b
same_look a b is =
    same_asked a b (sym (volume_back a) ∙ ap volume_reads is ∙ volume_back b) (sym (blocks_back a) ∙ ap block_reads is ∙ blocks_back b)
    (sym (files_back a) ∙ ap file_reads is ∙ files_back b)

-- what was there before a read of that kind, and the read
parted : (a b : Asked) (s t : Seen) → kind s ≡ kind t → and_seen a s ≡ and_seen b t → (a ≡ b) × (s ≡ t)
parted a b (of_volume r) (of_volume o) kind is =
    let last = same_from_push a.volume b.volume r o (ap (λ (c : Asked). c.volume) is) in
    (same_asked a b last.0 (ap (λ (c : Asked). c.blocks) is) (ap (λ (c : Asked). c.files) is), ap of_volume last.1)
parted a b (of_volume r) (of_blocks o) kind is = cc kind
parted a b (of_volume r) (of_file o) kind is = cc kind
parted a b (of_blocks r) (of_volume o) kind is = cc kind
parted a b (of_blocks r) (of_blocks o) kind is =
    let last = same_from_push a.blocks b.blocks r o (ap (λ (c : Asked). c.blocks) is) in
    (same_asked a b (ap (λ (c : Asked). c.volume) is) last.0 (ap (λ (c : Asked). c.files) is), ap of_blocks last.1)
parted a b (of_blocks r) (of_file o) kind is = cc kind
parted a b (of_file r) (of_volume o) kind is = cc kind
parted a b (of_file r) (of_blocks o) kind is = cc kind
parted a b (of_file r) (of_file o) kind is =
    let last = same_from_push a.files b.files r o (ap (λ (c : Asked). c.files) is) in
    (same_asked a b (ap (λ (c : Asked). c.volume) is) (ap (λ (c : Asked). c.blocks) is) last.0, ap of_file last.1)

-- two outcomes of which other things are asked
abbrev AskApart : Outcome → Outcome → Type 0
AskApart o other = Differ o.asked other.asked

-- an outcome is one with one read more, of that kind
abbrev IsFrom : ℕ → Asked → Outcome → Type 0
IsFrom k a x = (s : Seen) × (kind s ≡ k) × (x.asked ≡ and_seen a s)

module _ (at : List Seen → Option CutPlace) where
  all_found : (P : Outcome → Type 0) (asked : Asked) (text : List ℕ) (found : Option CutPlace) → ((place : CutPlace) → P (record { asked = asked; text = text; place = place }))
      → AllByRecursion P (if_found asked text found)
  all_found P asked text None so = tt
  all_found P asked text (Some place) so = (so place, tt)

  one_found : (asked : Asked) (text : List ℕ) (found : Option CutPlace) → Pairwise AskApart (if_found asked text found)
  one_found asked text None = tt
  one_found asked text (Some place) = (tt, tt)

  -- outcomes that come of one outcome: by one choice, and by each of some
  of_one : (P : Outcome → Type 0) (o : Outcome) (c : Choice) → ((x : Outcome) → x.asked ≡ and_seen o.asked c.seen → P x) → AllByRecursion P (with_choice at o c)
  of_one P o c so =
      let asked : Asked = and_seen o.asked c.seen in
      all_found P asked (o.text ++ c.text) (at (look_of asked)) (λ place. so (record { asked = asked; text = o.text ++ c.text; place = place }) refl)

  of_each : (P : Outcome → Type 0) (Q : Choice → Type 0) (o : Outcome) (cs : List Choice) → ((c : Choice) (x : Outcome) → Q c → x.asked ≡ and_seen o.asked c.seen → P x)
      → AllByRecursion Q cs → AllByRecursion P (with_choices at o cs)
  of_each P Q o [] so all = tt
  of_each P Q o (c ∷ cs) so all =
      all_joined P (with_choice at o c) (with_choices at o cs) (of_one P o c (λ x is. so c x all.0 is)) (of_each P Q o cs so all.1)

  module _ (k : ℕ) where
    -- of one choice and of those behind it
    other_choices : (o : Outcome) (c : Choice) → IsOfKind k c → (cs : List Choice) → AllByRecursion (IsOfKind k) cs → AllByRecursion (TellApart c) cs
        → (x : Outcome) → x.asked ≡ and_seen o.asked c.seen → AllByRecursion (AskApart x) (with_choices at o cs)
    other_choices o c is [] all apart x of = tt
    other_choices o c is (d ∷ cs) all apart x of =
        all_joined (AskApart x) (with_choice at o d) (with_choices at o cs)
        (of_one (AskApart x) o d (λ y by same. apart.0 (parted o.asked o.asked c.seen d.seen (is ∙ sym all.0) (sym of ∙ same ∙ by)).1))
        (other_choices o c is cs all.1 apart.1 x of)

    choices_once : (o : Outcome) (cs : List Choice) → AllByRecursion (IsOfKind k) cs → Pairwise TellApart cs → Pairwise AskApart (with_choices at o cs)
    choices_once o [] all apart = tt
    choices_once o (c ∷ cs) all apart =
        pairs_joined AskApart (with_choice at o c) (with_choices at o cs) (one_found (and_seen o.asked c.seen) (o.text ++ c.text) (at (look_of (and_seen o.asked c.seen))))
        (choices_once o cs all.1 apart.1) (of_one (λ x. AllByRecursion (AskApart x) (with_choices at o cs)) o c (other_choices o c all.0 cs all.1 apart.0))

    -- of one outcome and of those behind it
    others_grown : (a : Asked) (cs : List Choice) → AllByRecursion (IsOfKind k) cs → (os : List Outcome) → AllByRecursion (λ (o : Outcome). Differ a o.asked) os
        → (x : Outcome) → IsFrom k a x → AllByRecursion (AskApart x) (grown at os cs)
    others_grown a cs all [] apart x of = tt
    others_grown a cs all (o ∷ os) apart x of =
        all_joined (AskApart x) (with_choices at o cs) (grown at os cs)
        (of_each (AskApart x) (IsOfKind k) o cs (λ d y is by same. apart.0 (parted a o.asked of.0 d.seen (of.1 ∙ sym is) (sym of.2 ∙ same ∙ by)).0) all)
        (others_grown a cs all os apart.1 x of)

    grown_once : (os : List Outcome) (cs : List Choice) → AllByRecursion (IsOfKind k) cs → Pairwise TellApart cs → Pairwise AskApart os → Pairwise AskApart (grown at os cs)
    grown_once [] cs all apart once = tt
    grown_once (o ∷ os) cs all apart once =
        pairs_joined AskApart (with_choices at o cs) (grown at os cs) (choices_once o cs all apart) (grown_once os cs all apart once.1)
        (of_each (λ x. AllByRecursion (AskApart x) (grown at os cs)) (IsOfKind k) o cs (λ c x is of. others_grown o.asked cs all os once.0 x (c.seen, is, of)) all)

  all_parts_once : (hs : List Machine) (parts : List Read) (os : List Outcome) → AllByRecursion (λ part. Are64 (values_through part [] hs)) parts
      → Pairwise AskApart os → Pairwise AskApart (outcomes_from at (choices hs) os parts)
  all_parts_once hs [] os small once = once
  all_parts_once hs (part ∷ parts) os small once =
      all_parts_once hs parts (grown at os (choices hs part)) small.1
      (grown_once (kind_of_part part) os (choices hs part) (choices_kind hs part) (choices_apart hs part small.0) once)

pub stand_once : (h : Machine) (first program : List Input) (parts : List Read) → AreDurable h.volume → HaveDurable h.files → BringBytes first → BringBytes program
    → StandOnce (outcomes_of (led_through h first) program parts)
stand_once h first program parts volume files led small =
    let to = led_through h first in
    let at = place_of (cut_places 1 to program) in
    pairs_told AskApart (λ o other. Differ (look_of o.asked) (look_of other.asked)) (λ o other apart same. apart (same_look o.asked other.asked same)) (outcomes_of to program parts)
    (all_parts_once at (states to program) parts (begun at) (of_64_bits h first program parts volume files led small) (one_found at nothing [] (at (look_of nothing))))
