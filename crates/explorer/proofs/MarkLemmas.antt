-- What is kept of lines and of blocks is marked as their rows in a table are.
use Rattle.std.proofs.Common.{◌≡◌, inl, inr, ℕ, zero, suc, ◌+◌, ◌*◌, ◌/◌, ◌%◌, ◌<◌, ◌≤◌, ◌||◌, nat_lt, not, Bool, true, false, cond, Option, Some, None, List, [], ◌∷◌, length, map, refl, sym, ap, subst, ◌∙◌, arith, eq-eqb}
use Rattle.std.specs.List.{list_any}
use Rattle.std.specs.Option.{option_and_then}
use Rattle.std.proofs.lemmas.Slice.Eq.{bytes_eq-Decides}
use Rattle.word_tables.specs.declared.geometry.Geometry.{Geometry}
use Rattle.nvm_model.specs.Cell.{Cell}
use Rattle.nvm_model.specs.Numbered.{list_from}
use Rattle.block_sights.specs.Sights.{Sight}
use Rattle.block_sights.specs.Sights.Sight.{Whole, Scar, BadLine}
use Rattle.script_text.specs.Action.{Action}
use Rattle.cut_places.specs.MachineModel.Machine.{Machine}
use Rattle.cut_places.specs.Outcomes.Blocks.{BlockRead}
use Rattle.cut_places.specs.Outcomes.Pages.{PageRead}
use Rattle.cut_places.specs.AskedReads.Fitting.{cell_fits}
use Rattle.cut_places.specs.SightsSeen.BlockTelling.{same_sight}
use Rattle.cut_places.specs.SightsSeen.Changing.{volume_change}
use Rattle.cut_places.specs.SightsSeen.declared.block_seen.BlockSeen.{BlockSeen}
use Rattle.cut_places.specs.SightsSeen.declared.line_seen.LineSeen.{LineSeen}
use Rattle.cut_places.specs.SightsSeen.declared.way.Way.{Way}
use Rattle.cut_places.specs.SightsSeen.Units.{block_numbers, line_numbers}
use Rattle.cut_places.specs.SightsSeen.Ways.{blocks_way, lines_way}
use Rattle.cut_places.proofs.SightsSeen.PassLemmas.{EachUnit}
use Rattle.value_tables.specs.declared.shown.Shown.TheVariants.{Block, Word}
use Rattle.value_tables.specs.Left.{block_left, line_left}
use Rattle.value_tables.specs.Left.FileSide.{OfLine}
use Rattle.value_tables.specs.Listed.{HasWords}
use Rattle.value_tables.specs.Sides.{AreBlocksLeft, AreLeft, where_mixed}
use Rattle.value_tables.specs.Values.{block_values, cells_of, is_missing, is_past}
use Rattle.value_tables.proofs.HistoryLemmas.{changed_has}
use Rattle.witnesses.specs.declared.block_kept.BlockKept.{BlockKept}
use Rattle.witnesses.specs.declared.line_kept.LineKept.{LineKept}
use Rattle.witnesses.specs.declared.line_kept.LineLeft.{LineLeft}
use Rattle.witnesses.specs.Blocks.{block_kept, block_made}
use Rattle.witnesses.specs.Leaving.{mixing, stays, unit_left}
use Rattle.witnesses.specs.Lines.{left_of, line_kept, line_made, line_mixed, may_differ, line_left as line_as_left}
use Rattle.witnesses.proofs.ListLemmas.{IsAmong, any_map}
use Rattle.explorer.specs.Choosing.{has_choice, line_choices, one_if, side_count, word_count}
use Rattle.explorer.proofs.ChoiceLemmas.{kept_choice, side_differs}
use Rattle.value_tables.proofs.OnceLemmas.{same_is}
use Rattle.witnesses.proofs.FilesReadLemmas.{map_among as maps_same}

-- lists that are made alike
pub list_same : {A : Type 0} (f g : ℕ → A) (first count : ℕ) → ((k : ℕ) → first ≤ k → k < first + count → f k ≡ g k) → list_from f first count ≡ list_from g first count
list_same f g first zero same = refl
list_same f g first (suc count) same =
    ap (λ x. x ∷ list_from f (suc first) count) (same first (omega arith) (omega arith))
    ∙ ap (λ xs. g first ∷ xs) (list_same f g (suc first) count (λ k from to. same k (omega (arith, from)) (omega (arith, to))))

pub maps_joined : {A B C : Type 0} (f : B → C) (g : A → B) (xs : List A) → map f (map g xs) ≡ map (λ x. f (g x)) xs
maps_joined f g [] = refl
maps_joined f g (x ∷ xs) = ap (λ ys. f (g x) ∷ ys) (maps_joined f g xs)

-- the old one, or both, as the way has it
abbrev pub by_way : {A : Type 0} → Option Way → A → A → List A
by_way None old new = old ∷ []
by_way (Some way) old new = old ∷ new ∷ []

once : (b : Bool) → (b || b) ≡ (b || false)
once true = refl
once false = refl

or_zero : (a b : Bool) → (a || b) ≡ (a || (b || false))
or_zero true b = refl
or_zero false true = refl
or_zero false false = refl

-- the lines of a word of the volume, among no other sides
module _ (w : ℕ) where
  lines_of : (cells : List Cell) → cells_of (map OfLine cells) ≡ cells
  lines_of [] = refl
  lines_of (cell ∷ cells) = ap (λ cs. cell ∷ cs) (lines_of cells)

  none_missing : (cells : List Cell) → list_any is_missing (map OfLine cells) ≡ false
  none_missing [] = refl
  none_missing (cell ∷ cells) = none_missing cells

  none_past : (cells : List Cell) → list_any is_past (map OfLine cells) ≡ false
  none_past [] = refl
  none_past (cell ∷ cells) = none_past cells

  counted : (cells : List Cell) → side_count w (map OfLine cells) ≡ word_count w cells
  counted cells =
      let nothing : 0 + (0 + word_count w cells) ≡ word_count w cells = omega arith in
      ap (λ b. one_if b + (one_if (list_any is_past (map OfLine cells)) + word_count w (cells_of (map OfLine cells)))) (none_missing cells)
      ∙ ap (λ b. 0 + (one_if b + word_count w (cells_of (map OfLine cells)))) (none_past cells)
      ∙ ap (λ cs. 0 + (0 + word_count w cs)) (lines_of cells) ∙ nothing

  word_choice : (reads : List PageRead) (n : ℕ) → w < 8 → (cells : List Cell) (cell : Cell) → IsAmong cell cells → cell_fits reads n cell ≡ true → EachUnit HasWords cells
      → list_any (λ c. may_differ c w (left_of reads n cell)) cells ≡ nat_lt 1 (word_count w cells)
  word_choice reads n word cells cell among fits have =
      sym (any_map (side_differs w (left_of reads n cell)) OfLine cells)
      ∙ kept_choice reads n w word (map OfLine cells) cell (subst (IsAmong cell) (sym (lines_of cells)) among) fits (subst (EachUnit HasWords) (sym (lines_of cells)) have)
      ∙ ap (nat_lt 1) (counted cells)

-- the lines that may be left, by those that are looked at; and a line as it is left is one of them
module _ (made : LineSeen → LineSeen) where
  lines_at : (f : ℕ → List Cell) (way : Option Way) (lines : List LineSeen) → AreLeft f lines (where_mixed way (map made lines)) → (s : LineSeen) → IsAmong s lines
      → f s.number ≡ by_way way s.line (made s).line
  lines_at f way [] are s is = absurd is
  lines_at f None (t ∷ lines) are s (inl same) = subst (λ (u : LineSeen). f u.number ≡ u.line ∷ []) (sym same) are.0
  lines_at f None (t ∷ lines) are s (inr later) = lines_at f None lines (rest lines are.1) s later
    where
      rest : (lines : List LineSeen) → AreLeft f lines [] → AreLeft f lines []
      rest lines are = are
  lines_at f (Some way) (t ∷ lines) are s (inl same) = subst (λ (u : LineSeen). f u.number ≡ u.line ∷ (made u).line ∷ []) (sym same) are.0
  lines_at f (Some way) (t ∷ lines) are s (inr later) = lines_at f (Some way) lines are.1 s later

  line_among : (way : Option Way) (now : LineSeen → Bool) (page : LineSeen → ℕ) (lines : List LineSeen) (s : LineSeen) → IsAmong (unit_left way now made page lines s).line (by_way way s.line (made s).line)
  line_among None now page lines s = inl refl
  line_among (Some way) now page lines s = by_stay (stays (Some way) now page lines s)
    where
      by_stay : (b : Bool) → IsAmong (cond b s (made s)).line (s.line ∷ (made s).line ∷ [])
      by_stay true = inl refl
      by_stay false = inr (inl refl)

module _ (geo : Geometry) (inside : Option Action) (reads : List PageRead) (lines : List LineSeen) (off : Machine)
    (left : AreLeft (line_left off) lines (where_mixed (option_and_then lines_way inside) (map (line_made geo inside) lines)))
    (fits : (s : LineSeen) → IsAmong s lines → cell_fits reads s.number (line_as_left geo inside reads lines s).line ≡ true)
    (have : (s : LineSeen) → IsAmong s lines → HasWords s.line) where
  abbrev way : Option Way
  way = option_and_then lines_way inside

  made_has : (o : Option Action) (s : LineSeen) → HasWords s.line → HasWords (line_made geo o s).line
  made_has None s has = has
  made_has (Some action) s has = changed_has (volume_change geo action) s.number s.line has

  all_have : (o : Option Way) (old new : Cell) → HasWords old → HasWords new → EachUnit HasWords (by_way o old new)
  all_have None old new has had = (has, tt)
  all_have (Some w) old new has had = (has, (had, tt))

  -- a word could be otherwise where one of the lines is
  differs : (s : LineSeen) (w : ℕ) (kept : LineLeft) (o : Option Way)
      → (may_differ s.line w kept || may_differ (line_made geo (mixing o inside) s).line w kept) ≡ list_any (λ c. may_differ c w kept) (by_way o s.line (line_made geo inside s).line)
  differs s w kept None = once (may_differ s.line w kept)
  differs s w kept (Some way) = or_zero (may_differ s.line w kept) (may_differ (line_made geo inside s).line w kept)

  line_free : (s : LineSeen) → IsAmong s lines → (line_kept geo inside reads lines s).free ≡ line_choices off s.number
  line_free s is =
      let n = s.number in
      let kept = left_of reads n (line_as_left geo inside reads lines s).line in
      list_same (λ w. may_differ s.line w kept || may_differ (line_mixed geo inside s).line w kept) (λ w. has_choice off (Word (8 * n + w))) 0 8
      (λ w from to.
      let word : w < 8 = omega (arith, to) in
      let line : (8 * n + w) / 8 ≡ n = omega (arith, word) in
      let place : (8 * n + w) % 8 ≡ w = omega (arith, word) in
      differs s w kept way
      ∙ word_choice w reads n word (by_way way s.line (line_made geo inside s).line) (line_as_left geo inside reads lines s).line
      (line_among (line_made geo inside) way (λ (t : LineSeen). cell_fits reads t.number t.line) (λ (t : LineSeen). t.number / 64) lines s) (fits s is)
      (all_have way s.line (line_made geo inside s).line (have s is) (made_has inside s (have s is)))
      ∙ ap (λ cells. nat_lt 1 (word_count w cells)) (sym (lines_at (line_made geo inside) (line_left off) way lines left s is))
      ∙ ap (λ m. nat_lt 1 (word_count w (line_left off m))) (sym line)
      ∙ ap (λ k. nat_lt 1 (word_count k (line_left off ((8 * n + w) / 8)))) (sym place))

  -- the words of each line are marked so
  pub lines_marked : map (λ (k : LineKept). k.free) (map (line_kept geo inside reads lines) lines) ≡ map (line_choices off) (line_numbers lines)
  lines_marked =
      maps_joined (λ (k : LineKept). k.free) (line_kept geo inside reads lines) lines
      ∙ maps_same (λ s. (line_kept geo inside reads lines s).free) (λ s. line_choices off s.number) lines line_free
      ∙ sym (maps_joined (line_choices off) (λ (s : LineSeen). s.number) lines)

-- so it is of blocks
same_self : (sight : Sight) → same_sight sight sight ≡ true
same_self (Whole bytes) = (bytes_eq-Decides bytes bytes).1 refl
same_self Scar = refl
same_self (BadLine line) = eq-eqb line line refl

turned : (a b : Sight) → same_sight a b ≡ same_sight b a
turned a b = by_tests (same_sight a b) (same_sight b a) refl refl
  where
    by_tests : (s t : Bool) → same_sight a b ≡ s → same_sight b a ≡ t → s ≡ t
    by_tests true true one other = refl
    by_tests true false one other = sym (ap (same_sight b) (same_is a b one) ∙ same_self b) ∙ other
    by_tests false true one other = sym one ∙ (ap (same_sight a) (same_is b a other) ∙ same_self a)
    by_tests false false one other = refl

module _ (made : BlockSeen → BlockSeen) where
  blocks_at : (f : ℕ → List Sight) (way : Option Way) (blocks : List BlockSeen) → AreBlocksLeft f blocks (where_mixed way (map made blocks)) → (s : BlockSeen) → IsAmong s blocks
      → f s.number ≡ by_way way s.block (made s).block
  blocks_at f way [] are s is = absurd is
  blocks_at f None (t ∷ blocks) are s (inl same) = subst (λ (u : BlockSeen). f u.number ≡ u.block ∷ []) (sym same) are.0
  blocks_at f None (t ∷ blocks) are s (inr later) = blocks_at f None blocks are.1 s later
  blocks_at f (Some way) (t ∷ blocks) are s (inl same) = subst (λ (u : BlockSeen). f u.number ≡ u.block ∷ (made u).block ∷ []) (sym same) are.0
  blocks_at f (Some way) (t ∷ blocks) are s (inr later) = blocks_at f (Some way) blocks are.1 s later

module _ (geo : Geometry) (inside : Option Action) (reads : List BlockRead) (blocks : List BlockSeen) (off : Machine)
    (left : AreBlocksLeft (block_left off) blocks (where_mixed (option_and_then blocks_way inside) (map (block_made geo inside) blocks))) where
  two_sights : (a b : Sight) → not (same_sight a b) ≡ nat_lt 1 (length (block_values (a ∷ b ∷ [])))
  two_sights a b = ap not (turned a b) ∙ by_test (same_sight b a)
    where
      by_test : (t : Bool) → not t ≡ nat_lt 1 (length (cond (t || false) (a ∷ []) (a ∷ b ∷ [])))
      by_test true = refl
      by_test false = refl

  differ : (s : BlockSeen) (o : Option Way) → not (same_sight s.block (block_made geo (mixing o inside) s).block) ≡ nat_lt 1 (length (block_values (by_way o s.block (block_made geo inside s).block)))
  differ s None = ap not (same_self s.block)
  differ s (Some way) = two_sights s.block (block_made geo inside s).block

  block_free : (s : BlockSeen) → IsAmong s blocks → (block_kept geo inside reads blocks s).free ≡ has_choice off (Block s.number)
  block_free s is =
      differ s (option_and_then blocks_way inside)
      ∙ ap (λ sights. nat_lt 1 (length (block_values sights))) (sym (blocks_at (block_made geo inside) (block_left off) (option_and_then blocks_way inside) blocks left s is))

  pub blocks_marked : map (λ (k : BlockKept). k.free) (map (block_kept geo inside reads blocks) blocks) ≡ map (λ b. has_choice off (Block b)) (block_numbers blocks)
  blocks_marked =
      maps_joined (λ (k : BlockKept). k.free) (block_kept geo inside reads blocks) blocks
      ∙ maps_same (λ s. (block_kept geo inside reads blocks s).free) (λ s. has_choice off (Block s.number)) blocks block_free
      ∙ sym (maps_joined (λ b. has_choice off (Block b)) (λ (s : BlockSeen). s.number) blocks)
