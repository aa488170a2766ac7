-- What a cut may keep of a word: each byte is that byte of one of its values.
use Rattle.std.proofs.Common.{◌≡◌, ◌⊎◌, ◌↔◌, inl, inr, ◌+◌, ◌/◌, ◌%◌, ◌^◌, ◌<◌, ◌≤◌, ◌==◌, ℕ, zero, suc, Bool, true, false, List, [], ◌∷◌, refl, sym, ◌∙◌, ap, arith}
use Rattle.std.specs.Int.{byte_at}
use Rattle.std.proofs.Math.Nat.{div-div-eq-div-mul, div-eq_of_lt, pow-le-pow_right, pow-succ'}
use Rattle.std.proofs.lemmas.Bool.{cases_lt}
use Rattle.line_device.specs.History.{latest, newest, IsIn, IsPart, IsTorn, MayKeep, may_keep_by, WordWritesBack}
use Rattle.line_device.proofs.HistoryLemmas.{is_in-latest, is_in-one, is_in-part}

-- a member may be kept
pub torn-in : (v : ℕ) (h : List ℕ) → IsIn v h → IsTorn v h
unfolding IsTorn
torn-in v h at k = (v, at, refl)

-- what may be kept once values were forgotten might have been before
pub torn-part : (v : ℕ) (part whole : List ℕ) → IsPart part whole → IsTorn v part → IsTorn v whole
unfolding IsTorn
torn-part v part whole p torn k = let x = torn k in (x.0, is_in-part x.0 part whole p x.1, x.2)

pub torn-word_write_back : (weak : Bool) (v : ℕ) (a b : List ℕ) → WordWritesBack weak a b → IsTorn v b → IsTorn v a
torn-word_write_back weak v a b p = torn-part v b a p.part

-- the next byte is that of the number without its lowest byte
byte_at-next : (k n : ℕ) → byte_at (suc k) n ≡ byte_at k (n / 256)
byte_at-next zero n = refl
byte_at-next (suc k) n = ap (λ p. n / p % 256) (pow-succ' 256 (suc k)) ∙ ap (λ m. m % 256) (sym (div-div-eq-div-mul n 256 (256 ^ suc k)))

-- numbers of the same bytes are the same
same_bytes_by : (most a b : ℕ) → a + b ≤ most → ((k : ℕ) → byte_at k a ≡ byte_at k b) → a ≡ b
same_bytes_by zero a b few same = omega (arith, few)
same_bytes_by (suc most) a b few same =
    let first : a % 256 ≡ b % 256 = same 0 in
    let rest : a / 256 ≡ b / 256 = same_bytes_by most (a / 256) (b / 256) (omega (arith, few)) (λ k. sym (byte_at-next k a) ∙ same (suc k) ∙ byte_at-next k b) in
    omega (arith, first, rest)

same_bytes : (a b : ℕ) → ((k : ℕ) → byte_at k a ≡ byte_at k b) → a ≡ b
same_bytes a b same = same_bytes_by (a + b) a b (omega arith) same

-- of a word that has one value only that value is kept
pub torn-only : (v w : ℕ) (h : List ℕ) → ((x : ℕ) → IsIn x h → x ≡ v) → IsTorn w h → w ≡ v
unfolding IsTorn
torn-only v w h only torn = same_bytes w v (λ k. let x = torn k in x.2 ∙ ap (byte_at k) (only x.0 x.1))

pub torn-one : (v w : ℕ) → IsTorn w (v ∷ []) → w ≡ v
torn-one v w torn = torn-only v w (v ∷ []) (λ x at. is_in-one x v at) torn

-- 0 and 1 differ in one byte
one-next : (k : ℕ) → byte_at (suc k) 1 ≡ byte_at (suc k) 0
one-next k = byte_at-next k 1 ∙ sym (byte_at-next k 0)

-- so a word that is 0 or 1 is never torn
pub torn-bit : (w : ℕ) (h : List ℕ) → ((x : ℕ) → IsIn x h → (x ≡ 0) ⊎ (x ≡ 1)) → IsTorn w h → (w ≡ 0) ⊎ (w ≡ 1)
unfolding IsTorn
torn-bit w h bits torn =
    let x = torn 0 in
    elim (bits x.0 x.1) as (λ _. (w ≡ 0) ⊎ (w ≡ 1)) [
      | inl closed_ ↦ inl (same_bytes w 0 (as_closed (x.2 ∙ ap (byte_at 0) closed_)))
      | inr open_ ↦ inr (same_bytes w 1 (as_open (x.2 ∙ ap (byte_at 0) open_)))
    ]
  where
    next : (k : ℕ) → byte_at (suc k) w ≡ byte_at (suc k) 0
    next k =
        let x = torn (suc k) in
        elim (bits x.0 x.1) as (λ _. byte_at (suc k) w ≡ byte_at (suc k) 0) [
          | inl is ↦ x.2 ∙ ap (byte_at (suc k)) is
          | inr is ↦ x.2 ∙ ap (byte_at (suc k)) is ∙ one-next k
        ]

    as_closed : byte_at 0 w ≡ byte_at 0 0 → (k : ℕ) → byte_at k w ≡ byte_at k 0
    as_closed first zero = first
    as_closed first (suc k) = next k

    as_open : byte_at 0 w ≡ byte_at 0 1 → (k : ℕ) → byte_at k w ≡ byte_at k 1
    as_open first zero = first
    as_open first (suc k) = next k ∙ sym (one-next k)

-- a number of 64 bits has eight bytes
byte_at-none : (k n : ℕ) → 8 ≤ k → n < 2 ^ 64 → byte_at k n ≡ 0
byte_at-none zero n high small = absurd (omega (arith, high))
byte_at-none (suc k) n high small =
    let top : ℕ = 256 ^ suc k in
    let reach : 256 ^ 8 ≤ top = pow-le-pow_right {n = 256} (omega arith) {i = 8} {j = suc k} high in
    let below : n < top = omega (arith, reach, small) in
    ap (λ m. m % 256) (div-eq_of_lt {n = n} {m = top} below)

-- so what holds of these holds of all
of_eight : (v : ℕ) (h : List ℕ) → v < 2 ^ 64 → ((x : ℕ) → IsIn x h → x < 2 ^ 64) → ((k : ℕ) → k < 8 → (x : ℕ) × IsIn x h × (byte_at k v ≡ byte_at k x)) → (k : ℕ) → (x : ℕ) × IsIn x h × (byte_at k v ≡ byte_at k x)
of_eight v h small all eight k =
    elim (cases_lt k 8) as (λ _. (x : ℕ) × IsIn x h × (byte_at k v ≡ byte_at k x)) [
      | inl low ↦ eight k low
      | inr high ↦
          let x = eight 0 (omega arith) in
          (x.0, x.1, byte_at-none k v high small ∙ sym (byte_at-none k x.0 high (all x.0 x.1)))
    ]

-- of values of 64 bits torn speaks of the eight bytes alone
pub torn-eight : (v : ℕ) (h : List ℕ) → v < 2 ^ 64 → ((x : ℕ) → IsIn x h → x < 2 ^ 64) → (IsTorn v h ↔ ((k : ℕ) → k < 8 → (x : ℕ) × IsIn x h × (byte_at k v ≡ byte_at k x)))
unfolding IsTorn
torn-eight v h small all = (λ torn k _. torn k, of_eight v h small all)

-- a device of any unit may keep a value that a word had, and keeps no more than torn ones
pub may_keep-in : (unit v : ℕ) (h : List ℕ) → IsIn v h → MayKeep unit v h
may_keep-in unit v h at = by_unit (unit == 1)
  where
    by_unit : (b : Bool) → may_keep_by b v h
    by_unit true = torn-in v h at
    by_unit false = at

pub may_keep-torn : (unit v : ℕ) (h : List ℕ) → MayKeep unit v h → IsTorn v h
may_keep-torn unit v h keeps = by_unit (unit == 1) keeps
  where
    by_unit : (b : Bool) → may_keep_by b v h → IsTorn v h
    by_unit true torn = torn
    by_unit false at = torn-in v h at

pub may_keep-part : (unit v : ℕ) (part whole : List ℕ) → IsPart part whole → MayKeep unit v part → MayKeep unit v whole
may_keep-part unit v part whole p keeps = by_unit (unit == 1) keeps
  where
    by_unit : (b : Bool) → may_keep_by b v part → may_keep_by b v whole
    by_unit true torn = torn-part v part whole p torn
    by_unit false at = is_in-part v part whole p at

-- of a durable word its last value is kept
pub may_keep-latest : (unit v : ℕ) (h : List ℕ) → MayKeep unit v (latest h) → v ≡ newest h
may_keep-latest unit v h keeps = torn-only (newest h) v (latest h) (λ x at. is_in-latest x h at) (may_keep-torn unit v (latest h) keeps)

-- and of a word of one value this one
pub may_keep-one : (unit v x : ℕ) → MayKeep unit v (x ∷ []) → v ≡ x
may_keep-one unit v x keeps = torn-one x v (may_keep-torn unit v (x ∷ []) keeps)

pub may_keep-only : (unit v w : ℕ) (h : List ℕ) → ((x : ℕ) → IsIn x h → x ≡ v) → MayKeep unit w h → w ≡ v
may_keep-only unit v w h only keeps = torn-only v w h only (may_keep-torn unit w h keeps)

-- each byte of what is kept is that byte of a value
pub may_keep-byte : (unit v : ℕ) (h : List ℕ) (k : ℕ) → MayKeep unit v h → (x : ℕ) × IsIn x h × (byte_at k v ≡ byte_at k x)
unfolding IsTorn
may_keep-byte unit v h k keeps = may_keep-torn unit v h keeps k
