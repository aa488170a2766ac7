-- What a read that is stopped leaves in a buffer.
use Rattle.std.proofs.Common.{◌≡◌, ◌+◌, ◌-◌, ◌*◌, ◌≤◌, ℕ, List, ◌++◌, length, take, drop, length-take, length-drop, Result, Ok, Err, IsErrAnd, OnErr, refl, sym, ap, ◌∙◌, subst, arith}
use borrow.Rule.Slice.PartMut.{put_mid}
use Rattle.std.proofs.lemmas.List.{take-append-drop}
use Rattle.nvm_model.specs.Blocks.{byte_of_blocks, look_blocks}
use Rattle.nvm_model.specs.Numbered.{AreMixed}
use Rattle.nvm_model.specs.Storage.{Block}
use Rattle.nvm_model.proofs.MixedLemmas.{mixed-between, mixed-filled, mixed-part}
use Rattle.line_device.specs.Device.{Device}
use Rattle.line_device.specs.Medium.{WritesBack}
use Rattle.line_device.specs.Panel.{Runs}
use Rattle.line_words.specs.declared.interruption.Interruption.{Interruption}
use Rattle.line_words.specs.Ending.{ended, stop_outcome}
use Rattle.block_device.specs.Calls.{FillsBuffer}
use Rattle.block_device.specs.Reading.{byte_of, bytes_read}
use Rattle.block_device.proofs.BlockLemmas.{looked_more}
use Rattle.block_device.proofs.BufferLemmas.{length-bytes_read, mid_is}

-- a call that was stopped while it filled a buffer
pub fills_stopped : (before after : Device) (old new : List ℕ) (r : Result (Unit {0}) Interruption) (stop : Interruption) (bytes : List ℕ) (calls : ℕ) → IsErrAnd r (λ e. e ≡ stop) → AreMixed ℕ old bytes new → WritesBack before.medium after.medium → Runs calls 0 (stop_outcome stop) before.panel after.panel
    → FillsBuffer before after old new r (ended r) bytes calls
fills_stopped before after old new (Ok x) stop bytes calls is mixed lines runs = absurd is
fills_stopped before after old new (Err e) stop bytes calls is mixed lines runs = record {
  ok = tt;
  err = mixed;
  lines = lines;
  runs = subst (λ o. Runs calls 0 (stop_outcome o) before.panel after.panel) (sym is) runs;
}

-- the buffer with the piece that it had
mid_was : (at k : ℕ) (s : List ℕ) → put_mid at k s (take k (drop at s)) ≡ s
mid_was at k s = ap (λ xs. take at s ++ xs) (take-append-drop k (drop at s)) ∙ take-append-drop at s

-- a line that was not read
pub line_kept : {T E : Type 0} (r : Result T E) (at k : ℕ) (s piece : List ℕ) → OnErr r (piece ≡ take k (drop at s)) → OnErr r (put_mid at k s piece ≡ s)
line_kept (Ok x) at k s piece same = tt
line_kept (Err e) at k s piece same = ap (put_mid at k s) same ∙ mid_was at k s

-- a unit of which some lines were read
pub unit_part : (word : ℕ → ℕ) (start n : ℕ) (s a : List ℕ) → n ≤ 512 → length s ≡ 512 → a ≡ bytes_read word start n ++ drop n s → AreMixed ℕ s (bytes_read word start 512) a
unfolding bytes_read
unit_part word start n s a few size is = mixed-filled (byte_of word) start n 512 s a few size is

-- such a unit in the middle of a buffer
pub unit_part_put : {T E : Type 0} (r : Result T E) (word : ℕ → ℕ) (blocks : List Block) (block start at : ℕ) (s ys : List ℕ) → at + 512 ≤ length s
    → OnErr r (AreMixed ℕ (take (at + 512 - at) (drop at s)) (bytes_read word start 512) ys) → bytes_read word start 512 ≡ look_blocks blocks block 1
    → OnErr r (AreMixed ℕ s (take at s ++ look_blocks blocks block 1 ++ drop (at + 512) s) (put_mid at (at + 512 - at) s ys))
unit_part_put (Ok x) word blocks block start at s ys within mixed whole = tt
unit_part_put (Err e) word blocks block start at s ys within mixed whole =
    let k = at + 512 - at in
    let read = bytes_read word start 512 in
    let size : length read ≡ length (take k (drop at s)) = omega (arith, length-bytes_read word start 512, length-take {A = ℕ}, length-drop {A = ℕ}, within) in
    let put : put_mid at k s read ≡ take at s ++ look_blocks blocks block 1 ++ drop (at + 512) s =
    mid_is at k (at + 512) s read (omega arith) ∙ ap (λ bytes. take at s ++ bytes ++ drop (at + 512) s) whole in
    subst (λ xs. AreMixed ℕ xs (take at s ++ look_blocks blocks block 1 ++ drop (at + 512) s) (put_mid at k s ys)) (mid_was at k s)
    (subst (λ xs. AreMixed ℕ (put_mid at k s (take k (drop at s))) xs (put_mid at k s ys)) put
    (mixed-part (take at s) (take k (drop at s)) read ys (drop k (drop at s)) size mixed))

-- blocks of which some were read
looked_part : (blocks : List Block) (at k count : ℕ) (s a : List ℕ) → k ≤ count → length s ≡ 512 * count → a ≡ look_blocks blocks at k ++ drop (512 * k) s
    → AreMixed ℕ s (look_blocks blocks at count) a
unfolding look_blocks
looked_part blocks at k count s a few size is = mixed-filled (byte_of_blocks blocks) (512 * at) (512 * k) (512 * count) s a (omega (arith, few)) size is

-- blocks of which one was read in part
pub looked_stopped : (blocks : List Block) (at k count : ℕ) (s a b : List ℕ) → k + 1 ≤ count → length s ≡ 512 * count → a ≡ look_blocks blocks at k ++ drop (512 * k) s
    → AreMixed ℕ a (take (512 * k) a ++ look_blocks blocks (at + k) 1 ++ drop (512 * k + 512) a) b → AreMixed ℕ s (look_blocks blocks at count) b
looked_stopped blocks at k count s a b few size before mixed =
    let more = take (512 * k) a ++ look_blocks blocks (at + k) 1 ++ drop (512 * k + 512) a in
    mixed-between s (look_blocks blocks at count) a more b
    (looked_part blocks at k count s a (omega (arith, few)) size before)
    (looked_part blocks at (k + 1) count s more few size (looked_more blocks at k s a more before refl))
    mixed
