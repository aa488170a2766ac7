-- Blocks of a map, as what their units' lines are.
use Rattle.std.proofs.Common.{◌≡◌, ◌+◌, ◌-◌, ◌*◌, ◌/◌, ◌%◌, ◌<◌, ◌≤◌, ℕ, Bool, false, List, ◌++◌, ◌⊎◌, length, get_or, slice_get, take, drop, cond, is_none, position, if◌then◌else◌, Option, Some, None, option_map, OnOk, Result, Ok, Err, inl, inr, refl, sym, ap, ap₂, ◌∙◌, subst, append-nil, arith}
use borrow.Rule.Slice.PartMut.{put_mid}
use Rattle.std.specs.List.{position_or_len, range_with_len}
use Rattle.std.proofs.lemmas.Bool.{cases_lt, lt-ltb}
use Rattle.std.proofs.lemmas.Option.{get_or_from_slice_get, slice_get-map, none-some}
use Rattle.std.proofs.lemmas.List.{drop_all}
use Rattle.std.proofs.lemmas.List.Sums.{fails_before_first}
use Rattle.line_device.specs.Medium.{Medium, last_image}
use Rattle.word_tables.specs.declared.geometry.Geometry.{Geometry}
use Rattle.word_tables.specs.Layout.{block_line}
use Rattle.word_log.specs.declared.area.LogArea.{LogArea}
use Rattle.block_map.specs.declared.state.BlockState.{BlockState}
use Rattle.block_map.specs.declared.state.BlockState.TheVariants as state
use Rattle.block_map.specs.States.{IsAt}
use Rattle.nvm_model.specs.Numbered.{list_from}
use Rattle.nvm_model.specs.Storage.{Block}
use Rattle.nvm_model.specs.Storage.Block.{Absent, Data}
use Rattle.nvm_model.specs.Blocks.{nth, block_byte, line_byte, byte_of_blocks, look_blocks, obstacle_in}
use Rattle.nvm_model.specs.Blocks.Obstacle.{bad_line}
use Rattle.nvm_model.proofs.NumberedLemmas.{list_from-is, list_from-append, length-list_from}
use Rattle.block_device.specs.declared.fault.BlockFault.{BlockFault}
use Rattle.block_device.specs.Reading.{byte_of, bytes_read, line_read, block_read, map_read}
use Rattle.block_device.specs.Object.{BlocksState, BlocksServe, IsKept, blocks_of}
use Rattle.block_device.specs.Refusals.{Obstructs}
use Rattle.block_device.specs.Refusals.Refusal.{Unreadable}
use Rattle.block_device.proofs.AreaLemmas.{unit_within}
use Rattle.block_device.proofs.PositionLemmas.{found_made, get_or-list_from}
use Rattle.block_device.proofs.BufferLemmas.{is_none-line_read, mid_is, part_more}

-- the block of a state
pub nth-map_read : (geo : Geometry) (bad : ℕ → Bool) (word : ℕ → ℕ) (states : List BlockState) (block : ℕ) (st : BlockState)
    → slice_get states block ≡ Some st → nth (map_read geo bad word states) block ≡ block_read geo bad word st
nth-map_read geo bad word states block st found =
    get_or_from_slice_get (map_read geo bad word states) block (block_read geo bad word st) Absent
    (slice_get-map (block_read geo bad word) states block ∙ ap (option_map (block_read geo bad word)) found)

-- the unit of a block is one of the device's
pub unit_of_block : (s : BlocksState) (log : LogArea) (block unit : ℕ) → IsKept s log → IsAt s.map block unit → unit < s.geo.blocks + 64
unit_of_block s log block unit kept at = omega (arith, kept.is_map.within block unit at, kept.all)

pub unit_lines : (s : BlocksState) (log : LogArea) (m : Medium) (block unit first : ℕ) → IsKept s log → BlocksServe s m → IsAt s.map block unit
    → first ≡ block_line s.geo unit → first + 8 ≤ m.count
unit_lines s log m block unit first kept serves at is = omega (arith, unit_within s.geo unit (unit_of_block s log block unit kept at), serves.count)

-- what keeps a block from being read, by its state
pub obstructs : (s : BlocksState) (m : Medium) (block : ℕ) (st : BlockState) (o : Option BlockFault) → slice_get s.map block ≡ Some st
    → Obstructs (option_map Unreadable (obstacle_in block (block_read s.geo m.is_bad (last_image m) st))) o
    → Obstructs (option_map Unreadable (obstacle_in block (nth (blocks_of s m) block))) o
obstructs s m block st o found h =
    subst (λ b. Obstructs (option_map Unreadable (obstacle_in block b)) o) (sym (nth-map_read s.geo m.is_bad (last_image m) s.map block st found)) h

pub unit_obstructs : (s : BlocksState) (m : Medium) (block unit first : ℕ) (k : Option ℕ) (o : Option BlockFault) → IsAt s.map block unit → first ≡ block_line s.geo unit
    → k ≡ position is_none (list_from (line_read m.is_bad (last_image m)) first 8) → Obstructs (option_map Unreadable (option_map (bad_line block) k)) o
    → Obstructs (option_map Unreadable (obstacle_in block (nth (blocks_of s m) block))) o
unit_obstructs s m block unit first k o at is bad h =
    obstructs s m block (state.At unit) o at
    (subst (λ (p : Option ℕ). Obstructs (option_map Unreadable (option_map (bad_line block) p)) o)
    (bad ∙ ap (λ n. position is_none (list_from (line_read m.is_bad (last_image m)) n 8)) is) h)

-- where no line is bad, each is good
good_lines : (bad : ℕ → Bool) (word : ℕ → ℕ) (first n : ℕ) → position is_none (list_from (line_read bad word) first n) ≡ None → (k : ℕ) → k < n → bad (first + k) ≡ false
good_lines bad word first n none k within =
    let lines = list_from (line_read bad word) first n in
    let size = length-list_from (line_read bad word) first n in
    let at = position_or_len is_none lines in
    let past : length lines ≤ at = elim (cases_lt at (length lines)) [
      | inl some ↦ absurd (none-some at (sym none ∙ ap (λ b. cond b (Some at) None) (lt-ltb at (length lines) some)))
      | inr past ↦ past
    ] in
    sym (is_none-line_read bad word (first + k))
    ∙ ap is_none (sym (get_or-list_from (line_read bad word) first n k None within))
    ∙ fails_before_first is_none lines k None (omega arith)

unmapped : {A B : Type 0} (f : A → B) (o : Option A) → option_map f o ≡ None → o ≡ None
unmapped f None none = refl
unmapped f (Some x) none = absurd (none-some (f x) (sym none))

pub unit_good : (s : BlocksState) (m : Medium) (block unit first : ℕ) → IsAt s.map block unit → first ≡ block_line s.geo unit
    → obstacle_in block (nth (blocks_of s m) block) ≡ None → (k : ℕ) → k < 8 → m.is_bad (first + k) ≡ false
unit_good s m block unit first at is none k within =
    let read = ap (obstacle_in block) (nth-map_read s.geo m.is_bad (last_image m) s.map block (state.At unit) at) in
    let lines = unmapped (bad_line block) (position is_none (list_from (line_read m.is_bad (last_image m)) (block_line s.geo unit) 8)) (sym read ∙ none) in
    ap (λ n. m.is_bad (n + k)) is ∙ good_lines m.is_bad (last_image m) (block_line s.geo unit) 8 lines k within

-- the bytes of one block
pub look_block : (blocks : List Block) (block n : ℕ) (bytes : List ℕ) → n ≡ 512 * 1 → length bytes ≡ n
    → ((k : ℕ) → k < 512 → get_or bytes k 0 ≡ block_byte (nth blocks block) k) → bytes ≡ look_blocks blocks block 1
unfolding look_blocks
look_block blocks block n bytes is size each =
    list_from-is (byte_of_blocks blocks) (512 * block) bytes
    (λ k lt.
    let b : block ≡ (512 * block + k) / 512 = omega arith in
    let r : k ≡ (512 * block + k) % 512 = omega arith in
    each k (omega arith) ∙ ap₂ (λ i j. block_byte (nth blocks i) j) b r)
    ∙ ap (list_from (byte_of_blocks blocks) (512 * block)) (size ∙ is)

line_good : (bad : ℕ → Bool) (word : ℕ → ℕ) (n i : ℕ) → bad n ≡ false → i < 64 → line_byte (line_read bad word n) i ≡ byte_of word (64 * n + i)
line_good bad word n i good within =
    ap (λ b. line_byte (if b then None else Some (list_from (byte_of word) (64 * n) 64)) i) good ∙ get_or-list_from (byte_of word) (64 * n) 64 i 0 within

unit_byte : (bad : ℕ → Bool) (word : ℕ → ℕ) (first k : ℕ) → ((j : ℕ) → j < 8 → bad (first + j) ≡ false) → k < 512
    → byte_of word (64 * first + k) ≡ block_byte (Data (list_from (line_read bad word) first 8)) k
unit_byte bad word first k good within =
    let line = first + k / 64 in
    let at : 64 * line + k % 64 ≡ 64 * first + k = omega arith in
    sym (ap (λ (l : Option (List ℕ)). line_byte l (k % 64)) (get_or-list_from (line_read bad word) first 8 (k / 64) None (omega arith))
    ∙ line_good bad word line (k % 64) (good (k / 64) (omega arith)) (omega arith)
    ∙ ap (byte_of word) at)

pub unit_read : (s : BlocksState) (m : Medium) (block unit first : ℕ) → IsAt s.map block unit → first ≡ block_line s.geo unit
    → ((k : ℕ) → k < 8 → m.is_bad (first + k) ≡ false) → bytes_read (last_image m) (64 * first) 512 ≡ look_blocks (blocks_of s m) block 1
unfolding bytes_read
unit_read s m block unit first at is good =
    look_block (blocks_of s m) block 512 (list_from (byte_of (last_image m)) (64 * first) 512) (omega arith) (length-list_from (byte_of (last_image m)) (64 * first) 512)
    (λ k lt.
    get_or-list_from (byte_of (last_image m)) (64 * first) 512 k 0 lt
    ∙ unit_byte m.is_bad (last_image m) first k good lt
    ∙ ap (λ n. block_byte (Data (list_from (line_read m.is_bad (last_image m)) n 8)) k) is
    ∙ ap (λ b. block_byte b k) (sym (nth-map_read s.geo m.is_bad (last_image m) s.map block (state.At unit) at)))

-- the bytes of one block put in the middle of a buffer
pub block_put : {T E : Type 0} (r : Result T E) (blocks : List Block) (block at : ℕ) (s ys read : List ℕ) → at + 512 ≤ length s → OnOk r (ys ≡ read) → read ≡ look_blocks blocks block 1
    → OnOk r (put_mid at (at + 512 - at) s ys ≡ take at s ++ look_blocks blocks block 1 ++ drop (at + 512) s)
block_put (Err e) blocks block at s ys read within is whole = tt
block_put (Ok x) blocks block at s ys read within is whole =
    mid_is at (at + 512 - at) (at + 512) s ys (omega arith) ∙ ap (λ bytes. take at s ++ bytes ++ drop (at + 512) s) (is ∙ whole)

-- a block that has no bytes reads as zeros
bare_byte : (geo : Geometry) (bad : ℕ → Bool) (word : ℕ → ℕ) (st : BlockState) (k : ℕ) → (st ≡ state.Absent) ⊎ (st ≡ state.Scarred) → block_byte (block_read geo bad word st) k ≡ 0
bare_byte geo bad word st k bare =
    elim bare [
      | inl is ↦ ap (λ t. block_byte (block_read geo bad word t) k) is
      | inr is ↦ ap (λ t. block_byte (block_read geo bad word t) k) is
    ]

pub zeros_put : (s : BlocksState) (m : Medium) (block at : ℕ) (st : BlockState) (out ys : List ℕ) → at + 512 ≤ length out → slice_get s.map block ≡ Some st
    → (st ≡ state.Absent) ⊎ (st ≡ state.Scarred) → length ys ≡ 512 → ((k : ℕ) → k < length ys → get_or ys k 0 ≡ 0)
    → put_mid at (at + 512 - at) out ys ≡ take at out ++ look_blocks (blocks_of s m) block 1 ++ drop (at + 512) out
zeros_put s m block at st out ys within found bare size zeros =
    mid_is at (at + 512 - at) (at + 512) out ys (omega arith)
    ∙ ap (λ bytes. take at out ++ bytes ++ drop (at + 512) out)
    (look_block (blocks_of s m) block 512 ys (omega arith) size
    (λ k lt. zeros k (omega arith) ∙ sym (ap (λ b. block_byte b k) (nth-map_read s.geo m.is_bad (last_image m) s.map block st found) ∙ bare_byte s.geo m.is_bad (last_image m) st k bare)))

-- blocks read one by one into a buffer
length-look : (blocks : List Block) (at count : ℕ) → length (look_blocks blocks at count) ≡ 512 * count
unfolding look_blocks
length-look blocks at count = length-list_from (byte_of_blocks blocks) (512 * at) (512 * count)

look_more : (blocks : List Block) (at k : ℕ) → look_blocks blocks at (k + 1) ≡ look_blocks blocks at k ++ look_blocks blocks (at + k) 1
unfolding look_blocks
look_more blocks at k =
    let count : 512 * (k + 1) ≡ 512 * k + 512 * 1 = omega arith in
    let start : 512 * at + 512 * k ≡ 512 * (at + k) = omega arith in
    ap (list_from (byte_of_blocks blocks) (512 * at)) count
    ∙ list_from-append (byte_of_blocks blocks) (512 * at) (512 * k) (512 * 1)
    ∙ ap (λ n. list_from (byte_of_blocks blocks) (512 * at) (512 * k) ++ list_from (byte_of_blocks blocks) n (512 * 1)) start

pub looked_none : (blocks : List Block) (at : ℕ) (s : List ℕ) → s ≡ look_blocks blocks at 0 ++ drop (512 * 0) s
unfolding look_blocks
looked_none blocks at s = refl

pub looked_more : (blocks : List Block) (at k : ℕ) (s a b : List ℕ) → a ≡ look_blocks blocks at k ++ drop (512 * k) s
    → b ≡ take (512 * k) a ++ look_blocks blocks (at + k) 1 ++ drop (512 * k + 512) a → b ≡ look_blocks blocks at (k + 1) ++ drop (512 * (k + 1)) s
looked_more blocks at k s a b before now =
    let count : 512 * k + 512 ≡ 512 * (k + 1) = omega arith in
    part_more (look_blocks blocks at k) (look_blocks blocks (at + k) 1) (512 * k) 512 s a b (length-look blocks at k) before now
    ∙ ap₂ (λ x n. x ++ drop n s) (sym (look_more blocks at k)) count

pub looked_all : (blocks : List Block) (at k count : ℕ) (s a : List ℕ) → a ≡ look_blocks blocks at k ++ drop (512 * k) s → k ≡ count → length s ≡ 512 * count
    → a ≡ look_blocks blocks at count
looked_all blocks at k count s a before is size =
    before ∙ ap (λ n. look_blocks blocks at n ++ drop (512 * n) s) is ∙ ap (λ x. look_blocks blocks at count ++ x) (drop_all (512 * count) s (omega arith)) ∙ append-nil (look_blocks blocks at count)

-- the first bad line of a unit
pub unit_bad : (m : Medium) (first : ℕ) (o : Option ℕ) → o ≡ position m.is_bad (range_with_len first 8) → o ≡ position is_none (list_from (line_read m.is_bad (last_image m)) first 8)
unit_bad m first o is = found_made (line_read m.is_bad (last_image m)) is_none m.is_bad first 8 o (is_none-line_read m.is_bad (last_image m)) is
