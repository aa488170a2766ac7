-- Bytes of lines read into a buffer.
use Rattle.std.proofs.Common.{◌≡◌, ◌+◌, ◌-◌, ◌*◌, ◌<◌, ◌≤◌, ℕ, Bool, true, false, List, ◌++◌, Some, None, is_none, if◌then◌else◌, length, get_or, take, drop, Result, Ok, Err, OnOk, lit<, inl, inr, refl, sym, ap, ap₂, ◌∙◌, subst, append-nil, arith}
use borrow.Rule.Slice.PartMut.{put_mid, post_of}
use Rattle.std.proofs.lemmas.Bool.{cases_lt}
use Rattle.std.proofs.lemmas.List.{append_assoc, get_or_past, get_or-append-add, get_or_append_left, drop-drop, take-append-le, drop-append-le, take_all, drop_all}
use Rattle.line_device.specs.Medium.{Medium, IsLine, last_image}
use Rattle.nvm_model.specs.Numbered.{list_from}
use Rattle.nvm_model.proofs.NumberedLemmas.{list_from-append, length-list_from}
use Rattle.nvm_model.proofs.LineLemmas.{line_shown}
use Rattle.block_device.specs.Reading.{byte_of, bytes_read, line_read}

-- bytes put in the middle of a list are small where all of the list are
mid_small : (at k : ℕ) (s ys : List ℕ) → at ≤ length s → ((i : ℕ) → get_or (put_mid at k s ys) i 0 < 256) → (i : ℕ) → get_or ys i 0 < 256
mid_small at k s ys within small i =
    elim (cases_lt i (length ys)) [
      | inl inside ↦
          subst (λ n. n < 256)
          (get_or-append-add (take at s) (ys ++ post_of at k s) i 0 ∙ get_or_append_left ys (post_of at k s) 0 i inside)
          (small (length (take at s) + i))
      | inr past ↦ subst (λ n. n < 256) (sym (get_or_past ys i 0 past)) (lit< tt)
    ]

pub mid_is : (at k n : ℕ) (s ys : List ℕ) → at + k ≡ n → put_mid at k s ys ≡ take at s ++ ys ++ drop n s
mid_is at k n s ys end =
    ap (λ rest. take at s ++ (ys ++ rest)) (drop-drop k at s ∙ ap (λ j. drop j s) (omega arith))
    ∙ sym (append_assoc (take at s) ys (drop n s))

-- a line read into the middle of a buffer
pub line_put : {T E : Type 0} (r : Result T E) (m : Medium) (line at : ℕ) (s new : List ℕ) → at + 64 ≤ length s
    → ((i : ℕ) → get_or (put_mid at (at + 64 - at) s new) i 0 < 256) → OnOk r (IsLine m line new)
    → OnOk r (put_mid at (at + 64 - at) s new ≡ take at s ++ bytes_read (last_image m) (64 * line) 64 ++ drop (at + 64) s)
unfolding bytes_read
line_put (Err e) m line at s new within small is = tt
line_put (Ok x) m line at s new within small is =
    let bytes = line_shown m line new is (mid_small at (at + 64 - at) s new (omega arith) small) in
    mid_is at (at + 64 - at) (at + 64) s new (omega arith) ∙ ap (λ ys. take at s ++ ys ++ drop (at + 64) s) bytes

-- the bytes after those that are read already
pub bytes_read-append : (word : ℕ → ℕ) (start a b : ℕ) → bytes_read word start (a + b) ≡ bytes_read word start a ++ bytes_read word (start + a) b
unfolding bytes_read
bytes_read-append word start a b = list_from-append (byte_of word) start a b

pub length-bytes_read : (word : ℕ → ℕ) (start n : ℕ) → length (bytes_read word start n) ≡ n
unfolding bytes_read
length-bytes_read word start n = length-list_from (byte_of word) start n

-- a buffer that is read in part, and one line more
pub read_none : (word : ℕ → ℕ) (start n : ℕ) (s : List ℕ) → n ≡ 0 → s ≡ bytes_read word start n ++ drop n s
unfolding bytes_read
read_none word start n s none = subst (λ k. s ≡ list_from (byte_of word) start k ++ drop k s) (sym none) refl

pub part_more : (done piece : List ℕ) (n len : ℕ) (s a b : List ℕ) → length done ≡ n → a ≡ done ++ drop n s
    → b ≡ take n a ++ piece ++ drop (n + len) a → b ≡ done ++ piece ++ drop (n + len) s
part_more done piece n len s a b size before now =
    let front : take n a ≡ done = ap (take n) before ∙ take-append-le n done (drop n s) (omega arith) ∙ take_all n done (omega arith) in
    let back : drop (n + len) a ≡ drop (n + len) s =
    ap (drop (n + len)) before ∙ sym (drop-drop len n _)
    ∙ ap (drop len) (drop-append-le n done (drop n s) (omega arith) ∙ ap (λ x. x ++ drop n s) (drop_all n done (omega arith))) ∙ drop-drop len n s in
    now ∙ ap₂ (λ x y. x ++ piece ++ y) front back

pub read_more : (word : ℕ → ℕ) (start n len more : ℕ) (s a b : List ℕ) → a ≡ bytes_read word start n ++ drop n s
    → b ≡ take n a ++ bytes_read word (start + n) len ++ drop (n + len) a → n + len ≡ more → b ≡ bytes_read word start more ++ drop more s
read_more word start n len more s a b before now is =
    subst (λ k. b ≡ bytes_read word start k ++ drop k s) is
    (part_more (bytes_read word start n) (bytes_read word (start + n) len) n len s a b (length-bytes_read word start n) before now
    ∙ ap (λ x. x ++ drop (n + len) s) (sym (bytes_read-append word start n len)))

-- what one line more gave, in the words before any of them
pub read_at : (v w : ℕ → ℕ) (at line start : ℕ) (a b : List ℕ) → w ≡ v → 64 * line ≡ start
    → b ≡ take at a ++ bytes_read w (64 * line) 64 ++ drop (at + 64) a → b ≡ take at a ++ bytes_read v start 64 ++ drop (at + 64) a
read_at v w at line start a b same is now = now ∙ ap₂ (λ (f : ℕ → ℕ) (n : ℕ). take at a ++ bytes_read f n 64 ++ drop (at + 64) a) same is

-- the whole buffer
pub read_all : (word : ℕ → ℕ) (start n len : ℕ) (s a : List ℕ) → a ≡ bytes_read word start n ++ drop n s → n ≡ len → length s ≡ len → a ≡ bytes_read word start len
read_all word start n len s a before is size =
    before ∙ ap (λ k. bytes_read word start k ++ drop k s) is ∙ ap (λ x. bytes_read word start len ++ x) (drop_all len s (omega arith)) ∙ append-nil (bytes_read word start len)

-- a line is None where it is bad
pub is_none-line_read : (bad : ℕ → Bool) (word : ℕ → ℕ) (n : ℕ) → is_none (line_read bad word n) ≡ bad n
is_none-line_read bad word n = elim (bad n) as (λ b. is_none (if b then None else Some (list_from (byte_of word) (64 * n) 64)) ≡ b) [ true ↦ refl | false ↦ refl ]
