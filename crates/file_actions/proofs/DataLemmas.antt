-- The bytes of ranges that are laid over others, one range after the other.
use Rattle.std.proofs.Common.{◌++◌, drop-cons, drop-drop, get_or-take, get_or-drop, length-take, length-drop, max, min, ◌≡◌, ℕ, zero, suc, ◌+◌, ◌-◌, ◌*◌, ◌<◌, ◌≤◌, ◌||◌, true, false, not, List, [], ◌∷◌, length, take, drop, get_or, slice_index, nat_le, nat_lt, if◌then◌else◌, inl, inr, refl, sym, ap, ap₂, subst, ◌∙◌, arith}
use Rattle.std.specs.List.{list_any}
use Rattle.std.proofs.lemmas.Bool.{and_from, and_parts, cases_Bool, cases_lt, false≢true, leb-true, le-leb, ltb-true, lt-ltb, not-true, or_parts}
use Rattle.std.proofs.lemmas.List.{get_or_append_left, get_or-append_right}
use borrow.Rule.Slice.PartMut.{put_mid}
use Rattle.nvm_base.specs.declared.units.Span.{Span}
use Rattle.nvm_base.specs.Units.{overlap}
use Rattle.nvm_model.specs.Cell.{covers}
use Rattle.nvm_model.specs.Numbered.{is_among}
use Rattle.range_sets.specs.Ranges.{is_disjoint}
use Rattle.file_actions.specs.Rewriting.{covers_any, byte_laid}

abbrev among_bounds : (start len at : ℕ) → is_among start len at ≡ true → (start ≤ at) × (at < start + len)
among_bounds start len at is = let p = and_parts (nat_le start at) (nat_lt at (start + len)) is in (leb-true start at p.0, ltb-true at (start + len) p.1)

-- a byte that a range has is none of one that does not overlap it
pub apart-among : (r q : Span) (at : ℕ) → overlap r q ≡ false → is_among r.start r.len at ≡ true → is_among q.start q.len at ≡ false
apart-among r q at apart here =
    elim (cases_Bool (is_among q.start q.len at)) as (λ _. is_among q.start q.len at ≡ false) [
      | inl both ↦
          let a = among_bounds r.start r.len at here in
          let b = among_bounds q.start q.len at both in
          absurd (false≢true (sym apart ∙ and_from _ _ (lt-ltb r.start (q.start + q.len) (omega (arith, a.0, b.1))) (lt-ltb q.start (r.start + r.len) (omega (arith, b.0, a.1)))))
      | inr out ↦ out
    ]

-- so later ranges leave it
pub byte_laid-apart : (r : Span) (ranges : List Span) (bytes : List ℕ) (at old : ℕ) → list_any (overlap r) ranges ≡ false → is_among r.start r.len at ≡ true → byte_laid ranges bytes at old ≡ old
byte_laid-apart r [] bytes at old apart here = refl
byte_laid-apart r (q ∷ qs) bytes at old apart here =
    let parts = or_parts (overlap r q) (list_any (overlap r) qs) apart in
    ap (λ b. if b then slice_index bytes (at - q.start) else byte_laid qs (drop q.len bytes) at old) (apart-among r q at parts.0 here)
    ∙ byte_laid-apart r qs (drop q.len bytes) at old parts.1 here

-- what lies under a line that one range covers is nothing to its bytes
pub byte_laid-covered : (ranges : List Span) (bytes : List ℕ) (n at a b : ℕ) → covers_any ranges n ≡ true → 64 * n ≤ at → at < 64 * n + 64 → byte_laid ranges bytes at a ≡ byte_laid ranges bytes at b
byte_laid-covered [] bytes n at a b covered from to = absurd (false≢true covered)
byte_laid-covered (r ∷ rs) bytes n at a b covered from to =
    elim (cases_Bool (covers r.start r.len n)) as (λ _. byte_laid (r ∷ rs) bytes at a ≡ byte_laid (r ∷ rs) bytes at b) [
      | inl here ↦
          let p = and_parts (nat_le r.start (64 * n)) (nat_le (64 * n + 64) (r.start + r.len)) here in
          let among : is_among r.start r.len at ≡ true = and_from _ _ (le-leb r.start at (omega (arith, leb-true _ _ p.0, from))) (lt-ltb at (r.start + r.len) (omega (arith, leb-true _ _ p.1, to))) in
          ap (λ t. if t then slice_index bytes (at - r.start) else byte_laid rs (drop r.len bytes) at a) among
          ∙ sym (ap (λ t. if t then slice_index bytes (at - r.start) else byte_laid rs (drop r.len bytes) at b) among)
      | inr not_ ↦
          let rest = byte_laid-covered rs (drop r.len bytes) n at a b (sym (ap (λ t. t || covers_any rs n) not_) ∙ covered) from to in
          ap (λ v. if is_among r.start r.len at then slice_index bytes (at - r.start) else v) rest
    ]

-- the ranges from one on are apart
pub disjoint_from : (ranges : List Span) (i : ℕ) → is_disjoint ranges ≡ true → is_disjoint (drop i ranges) ≡ true
disjoint_from ranges zero is = is
disjoint_from [] (suc i) is = refl
disjoint_from (r ∷ rs) (suc i) is = disjoint_from rs i (and_parts (not (list_any (overlap r) rs)) (is_disjoint rs) is).1

-- once one range was laid, the others make of the bytes what all make of those before
pub laid-next : (r : Span) (rs : List Span) (bytes : List ℕ) (at was now : ℕ) → is_disjoint (r ∷ rs) ≡ true → now ≡ (if is_among r.start r.len at then slice_index bytes (at - r.start) else was)
    → byte_laid rs (drop r.len bytes) at now ≡ byte_laid (r ∷ rs) bytes at was
laid-next r rs bytes at was now apart is =
    elim (cases_Bool (is_among r.start r.len at)) as (λ _. byte_laid rs (drop r.len bytes) at now ≡ byte_laid (r ∷ rs) bytes at was) [
      | inl here ↦
          let new = is ∙ ap (λ b. if b then slice_index bytes (at - r.start) else was) here in
          let none = not-true _ (and_parts (not (list_any (overlap r) rs)) (is_disjoint rs) apart).0 in
          byte_laid-apart r rs (drop r.len bytes) at now none here ∙ new ∙ sym (ap (λ b. if b then slice_index bytes (at - r.start) else byte_laid rs (drop r.len bytes) at was) here)
      | inr out ↦
          let new = is ∙ ap (λ b. if b then slice_index bytes (at - r.start) else was) out in
          ap (byte_laid rs (drop r.len bytes) at) new ∙ sym (ap (λ b. if b then slice_index bytes (at - r.start) else byte_laid rs (drop r.len bytes) at was) out)
    ]

-- an item of a list of which a stretch was exchanged
module _ (a k : ℕ) (xs ys : List ℕ) (size : length ys ≡ k) (fits : a + k ≤ length xs) where
  front : length (take a xs) ≡ a
  front = omega (arith, length-take {A = ℕ}, fits)

  pub put_before : (i : ℕ) → i < a → get_or (put_mid a k xs ys) i 0 ≡ get_or xs i 0
  put_before i before = get_or_append_left (take a xs) (ys ++ drop k (drop a xs)) 0 i (omega (arith, front, before)) ∙ get_or-take a xs i 0 before

  pub put_here : (i : ℕ) → a ≤ i → i < a + k → get_or (put_mid a k xs ys) i 0 ≡ get_or ys (i - a) 0
  put_here i from to =
      get_or-append_right (take a xs) (ys ++ drop k (drop a xs)) a i 0 front from
      ∙ get_or_append_left ys (drop k (drop a xs)) 0 (i - a) (omega (arith, size, from, to))

  pub put_behind : (i : ℕ) → a + k ≤ i → get_or (put_mid a k xs ys) i 0 ≡ get_or xs i 0
  put_behind i past =
      let back : a + (k + (i - a - k)) ≡ i = omega (arith, past) in
      get_or-append_right (take a xs) (ys ++ drop k (drop a xs)) a i 0 front (omega (arith, past))
      ∙ get_or-append_right ys (drop k (drop a xs)) k (i - a) 0 size (omega (arith, past))
      ∙ get_or-drop k (drop a xs) (i - a - k) 0
      ∙ get_or-drop a xs (k + (i - a - k)) 0
      ∙ ap (λ j. get_or xs j 0) back

among-true : (start len at : ℕ) → start ≤ at → at < start + len → is_among start len at ≡ true
among-true start len at from to = and_from _ _ (le-leb start at from) (lt-ltb at (start + len) to)

among-false : (start len at : ℕ) → (start ≤ at → at < start + len → ⊥) → is_among start len at ≡ false
among-false start len at out =
    elim (cases_Bool (is_among start len at)) as (λ _. is_among start len at ≡ false) [
      | inl is ↦ let b = among_bounds start len at is in absurd (out b.0 b.1)
      | inr not_ ↦ not_
    ]

abbrev pub laid : Span → List ℕ → ℕ → ℕ → ℕ
laid r bytes at old = if is_among r.start r.len at then slice_index bytes (at - r.start) else old

-- the bytes of a range that reach a buffer, laid over those of it
pub laid_over : (r : Span) (bytes : List ℕ) (offset : ℕ) (out part : List ℕ) (start end : ℕ) → start ≡ max r.start offset → end ≡ min (r.start + r.len) (offset + length out) → start < end → length bytes ≡ r.len
    → part ≡ take (end - r.start - (start - r.start)) (drop (start - r.start) bytes) → (i : ℕ) → i < length out
    → get_or (put_mid (start - offset) (end - offset - (start - offset)) out part) i 0 ≡ laid r bytes (offset + i) (get_or out i 0)
laid_over r bytes offset out part start end is_start is_end some size is i within =
    elim (cases_lt i a) as (λ _. get_or (put_mid a k out part) i 0 ≡ laid r bytes (offset + i) (get_or out i 0)) [
      | inl before ↦ put_before a k out part long fits i before ∙ sym (outside (λ from to. absurd (omega (arith, is_start, is_end, some, before, from))))
      | inr from ↦ elim (cases_lt i (a + k)) as (λ _. get_or (put_mid a k out part) i 0 ≡ laid r bytes (offset + i) (get_or out i 0)) [
        | inl to ↦
            let place : start - r.start + (i - a) ≡ offset + i - r.start = omega (arith, is_start, is_end, some, from) in
            put_here a k out part long fits i from to
            ∙ ap (λ xs. get_or xs (i - a) 0) is
            ∙ get_or-take (end - r.start - (start - r.start)) (drop (start - r.start) bytes) (i - a) 0 (omega (arith, is_start, is_end, some, from, to))
            ∙ get_or-drop (start - r.start) bytes (i - a) 0
            ∙ ap (λ j. get_or bytes j 0) place
            ∙ sym (ap (λ t. if t then slice_index bytes (offset + i - r.start) else get_or out i 0) (among-true r.start r.len (offset + i) (omega (arith, is_start, some, from)) (omega (arith, is_start, is_end, some, from, to))))
        | inr past ↦ put_behind a k out part long fits i past ∙ sym (outside (λ from to. absurd (omega (arith, is_start, is_end, some, past, to, within))))
      ]
    ]
  where
    a : ℕ
    a = start - offset

    k : ℕ
    k = end - offset - (start - offset)

    fits : a + k ≤ length out
    fits = omega (arith, is_start, is_end, some)

    long : length part ≡ k
    long = ap length is ∙ (omega (arith, length-take {A = ℕ}, length-drop {A = ℕ}, is_start, is_end, some, size))

    outside : (r.start ≤ offset + i → offset + i < r.start + r.len → ⊥) → laid r bytes (offset + i) (get_or out i 0) ≡ get_or out i 0
    outside out_of = ap (λ t. if t then slice_index bytes (offset + i - r.start) else get_or out i 0) (among-false r.start r.len (offset + i) out_of)

-- one range more
pub laid-more : (ranges : List Span) (bytes : List ℕ) (k at : ℕ) (d : Span) (place was now : ℕ) → k < length ranges → is_disjoint ranges ≡ true
    → now ≡ laid (get_or ranges k d) (take (at + (get_or ranges k d).len - at) (drop at bytes)) place was
    → byte_laid (drop (k + 1) ranges) (drop (at + (get_or ranges k d).len) bytes) place now ≡ byte_laid (drop k ranges) (drop at bytes) place was
laid-more ranges bytes k at d place was now within apart is =
    ap₂ (λ rs xs. byte_laid rs xs place now) next rest
    ∙ laid-next r (drop (suc k) ranges) (drop at bytes) place was now (subst (λ rs. is_disjoint rs ≡ true) here (disjoint_from ranges k apart)) (is ∙ part)
    ∙ sym (ap (λ rs. byte_laid rs (drop at bytes) place was) here)
  where
    r : Span
    r = get_or ranges k d

    here : drop k ranges ≡ r ∷ drop (suc k) ranges
    here = drop-cons ranges k d within

    next : drop (k + 1) ranges ≡ drop (suc k) ranges
    next = let e : k + 1 ≡ suc k = omega arith in ap (λ n. drop n ranges) e

    rest : drop (at + r.len) bytes ≡ drop r.len (drop at bytes)
    rest = sym (drop-drop r.len at bytes ∙ ap (λ n. drop n bytes) (omega arith))

    part : laid r (take (at + r.len - at) (drop at bytes)) place was ≡ laid r (drop at bytes) place was
    part = elim (cases_Bool (is_among r.start r.len place)) as (λ _. laid r (take (at + r.len - at) (drop at bytes)) place was ≡ laid r (drop at bytes) place was) [
      | inl among ↦
          let b = among_bounds r.start r.len place among in
          ap (λ v. if is_among r.start r.len place then v else was) (get_or-take (at + r.len - at) (drop at bytes) (place - r.start) 0 (omega (arith, b.0, b.1)))
      | inr out ↦
          ap (λ t. if t then slice_index (take (at + r.len - at) (drop at bytes)) (place - r.start) else was) out
          ∙ sym (ap (λ t. if t then slice_index (drop at bytes) (place - r.start) else was) out)
    ]
