-- What a valid log has.
use Rattle.std.proofs.Common.{◌≡◌, ◌⊎◌, inl, inr, ℕ, zero, suc, Bool, true, false, not, ◌&&◌, ◌||◌, ◌+◌, ◌<◌, ◌≤◌, ◌==◌, nat_lt, nat_le, List, [], ◌∷◌, ◌++◌, length, Some, None, if◌then◌else◌, IsTrue, refl, sym, ◌∙◌, ap, subst, arith}
use Rattle.std.proofs.lemmas.Bool.{cases_eq, eq-eqb, eqb-true, ne_eqb, false≢true}
use Rattle.std.proofs.lemmas.Bool.Decides.{nat_tests}
use Rattle.line_device.specs.Medium.{Medium, last_image}
use Rattle.word_log.specs.declared.area.LogArea.{LogArea}
use Rattle.word_log.specs.Area.{gate_place, count_place, entry_place, IsHome, is_home, IsOf, Fits}
use Rattle.word_log.specs.Changes.{changed, lists, IsDistinct, MayCommit}
use Rattle.word_log.specs.Replay.{entries, listed, wrong_entry, wrong_open, wrong_at, first_wrong, replayed}
use Rattle.word_log.specs.Rest.{IsAtRest}
use Rattle.line_words.specs.Words.{IsOnly}
use Rattle.word_log.specs.Protocol.{AwaitsReplay, IsOpen}
use Rattle.word_log.proofs.ChangeLemmas.{listed_or, lists_not, lists-push}
use Rattle.word_log.proofs.EntryLemmas.{length-entries}
use Rattle.word_log.proofs.StepLemmas.{behind_gate-entries}
use Rattle.word_log.proofs.PhaseLemmas.{behind_gate_of}
use Rattle.word_log.proofs.ReadLemmas.{first_wrong-gate, listed-closed, listed-open}

-- entries in which nothing is wrong
pub record InOrder (a : LogArea) (before cs : List (ℕ × ℕ)) : Type 0 where
  pub home : (p : ℕ) → IsTrue (lists cs p) → IsHome a p
  pub distinct : IsDistinct cs
  pub fresh : (p : ℕ) → IsTrue (lists cs p) → lists before p ≡ false

-- a listed word is the first change's, or listed later
lists-first : (c : ℕ × ℕ) (cs : List (ℕ × ℕ)) (p : ℕ) → IsTrue (lists (c ∷ cs) p) → (c.0 ≡ p) ⊎ IsTrue (lists cs p)
lists-first c cs p h =
    elim (cases_eq c.0 p) as (λ _. (c.0 ≡ p) ⊎ IsTrue (lists cs p)) [
      | inl is ↦ inl is
      | inr other ↦ inr (sym (ap (λ b. b || lists cs p) (ne_eqb c.0 p other)) ∙ h)
    ]

pub is_home-from : (a : LogArea) (p : ℕ) → is_home a p ≡ true → IsHome a p
is_home-from a p h = (from a.home.start p (a.home.start + a.home.len) h, to a.home.start p (a.home.start + a.home.len) h)
  where
    from : (low p high : ℕ) → (nat_le low p && nat_lt p high) ≡ true → low ≤ p
    from low p high h = grind (arith, nat_tests)

    to : (low p high : ℕ) → (nat_le low p && nat_lt p high) ≡ true → p < high
    to low p high h = grind (arith, nat_tests)

or_first : (b c : Bool) → (b || c) ≡ false → b ≡ false
or_first true c h = h
or_first false c h = refl

in_order-more : (a : LogArea) (before : List (ℕ × ℕ)) (c : ℕ × ℕ) (cs : List (ℕ × ℕ)) → is_home a c.0 ≡ true → lists before c.0 ≡ false → InOrder a (before ++ c ∷ []) cs → InOrder a before (c ∷ cs)
in_order-more a before c cs is_home_ unseen rest = record {
  home = λ p h.
      elim (lists-first c cs p h) as (λ _. IsHome a p) [
        | inl is ↦ subst (IsHome a) is (is_home-from a c.0 is_home_)
        | inr later ↦ rest.home p later
      ];
  distinct = (
    elim (listed_or (lists cs c.0)) as (λ _. lists cs c.0 ≡ false) [
      | inl twice ↦
          let seen : lists (before ++ c ∷ []) c.0 ≡ (lists before c.0 || true) = lists-push before c c.0 ∙ ap (λ b. lists before c.0 || b) (eq-eqb c.0 c.0 refl) in
          let yes_ : (lists before c.0 || true) ≡ true = ap (λ b. b || true) unseen in
          absurd (lists_not (lists (before ++ c ∷ []) c.0) (rest.fresh c.0 twice) (seen ∙ yes_))
      | inr once ↦ once
    ],
    rest.distinct,
  );
  fresh = λ p h.
      elim (lists-first c cs p h) as (λ _. lists before p ≡ false) [
        | inl is ↦ subst (λ q. lists before q ≡ false) is unseen
        | inr later ↦ or_first (lists before p) (c.0 == p) (sym (lists-push before c p) ∙ rest.fresh p later)
      ];
}

pub in_order-from : (a : LogArea) (at : ℕ) (before cs : List (ℕ × ℕ)) → wrong_entry a at before cs ≡ None → InOrder a before cs
in_order-from a at before [] h = record { home = λ p none. absurd (false≢true none); distinct = tt; fresh = λ p none. absurd (false≢true none) }
in_order-from a at before (c ∷ cs) h =
    let rest = wrong_entry a (at + 2) (before ++ c ∷ []) cs in
    elim (listed_or (is_home a c.0)) as (λ _. InOrder a before (c ∷ cs)) [
      | inl home ↦
          elim (listed_or (lists before c.0)) as (λ _. InOrder a before (c ∷ cs)) [
            | inl seen ↦
                let wrong : Some at ≡ None = sym (ap (λ b. if b && not (lists before c.0) then rest else Some at) home ∙ ap (λ b. if not b then rest else Some at) seen) ∙ h in
                absurd (cc)
            | inr unseen ↦
                in_order-more a before c cs home unseen
                (in_order-from a (at + 2) (before ++ c ∷ []) cs (sym (ap (λ b. if b && not (lists before c.0) then rest else Some at) home ∙ ap (λ b. if not b then rest else Some at) unseen) ∙ h))
          ]
      | inr out ↦
          let wrong : Some at ≡ None = sym (ap (λ b. if b && not (lists before c.0) then rest else Some at) out) ∙ h in
          absurd (cc)
    ]

-- an open log that is valid
pub record ValidOpen (a : LogArea) (words : ℕ → ℕ) : Type 0 where
  pub gate : words (gate_place a) ≡ 1
  pub taken : MayCommit a (listed a words)
  pub count : length (listed a words) ≡ words (count_place a)

valid_open : (a : LogArea) (words : ℕ → ℕ) → words (gate_place a) ≡ 1 → wrong_at 1 a words ≡ None → ValidOpen a words
valid_open a words gate valid =
    let n = words (count_place a) in
    let at = entry_place a 0 in
    let es = entries words at n in
    elim (listed_or (nat_lt 0 n && nat_le n a.cap)) as (λ _. ValidOpen a words) [
      | inl fits ↦
          let order = in_order-from a at [] es (sym (ap (λ b. wrong_open b a words) fits) ∙ valid) in
          let long : length es ≡ n = length-entries words at n in
          let taken : MayCommit a es = record { some = omega (arith, some n a.cap fits, long); few = omega (arith, few n a.cap fits, long); home = order.home; distinct = order.distinct } in
          record {
            gate = gate;
            taken = subst (MayCommit a) (sym (listed-open a words gate)) taken;
            count = ap length (listed-open a words gate) ∙ long;
          }
      | inr out ↦
          let wrong : Some (count_place a) ≡ None = sym (ap (λ b. wrong_open b a words) out) ∙ valid in
          absurd (cc)
    ]
  where
    some : (n cap : ℕ) → (nat_lt 0 n && nat_le n cap) ≡ true → 0 < n
    some n cap h = grind (arith, nat_tests)

    few : (n cap : ℕ) → (nat_lt 0 n && nat_le n cap) ≡ true → n ≤ cap
    few n cap h = grind (arith, nat_tests)

valid_at : (a : LogArea) (words : ℕ → ℕ) (gate : ℕ) → words (gate_place a) ≡ gate → wrong_at gate a words ≡ None → (words (gate_place a) ≡ 0) ⊎ ValidOpen a words
valid_at a words zero is valid = inl is
valid_at a words (suc zero) is valid = inr (valid_open a words is valid)
valid_at a words (suc (suc n)) is valid = absurd (cc)

-- a valid log is closed, or open with changes that it takes
pub valid_cases : (a : LogArea) (words : ℕ → ℕ) → first_wrong a words ≡ None → (words (gate_place a) ≡ 0) ⊎ ValidOpen a words
valid_cases a words valid = valid_at a words (words (gate_place a)) refl (sym (first_wrong-gate a words (words (gate_place a)) refl) ∙ valid)

-- a durable log that is valid and open
pub durable_open : (a : LogArea) (m : Medium) → Fits a m → ((p : ℕ) → IsOf a p → IsOnly (last_image m p) (m.history p)) → ValidOpen a (last_image m) → IsOpen a (listed a (last_image m)) (last_image m) m
durable_open a m fits durable open_ =
    let words = last_image m in
    let cs = listed a words in
    record {
      written = record {
        fits = fits;
        taken = open_.taken;
        recorded = record {
          count = subst (λ v. IsOnly v (m.history (count_place a))) (sym open_.count) (durable (count_place a) (inl (omega arith, omega (arith, fits.shape.len))));
          entries = ap (entries words (entry_place a 0)) open_.count ∙ sym (listed-open a words open_.gate);
          durable = λ p from to. durable p (inl (behind_gate_of a p (behind_gate-entries a cs m p fits open_.taken.few from to)));
        };
      };
      gate = subst (λ v. IsOnly v (m.history (gate_place a))) open_.gate (durable (gate_place a) (inl (omega arith, omega (arith, fits.shape.len))));
      home = λ p in_home _. durable p (inr in_home);
    }

-- a durable log that is closed
pub durable_closed : (a : LogArea) (m : Medium) → Fits a m → ((p : ℕ) → IsOf a p → IsOnly (last_image m p) (m.history p)) → last_image m (gate_place a) ≡ 0 → IsAtRest a m (replayed a (last_image m))
durable_closed a m fits durable gate = record {
  gate = subst (λ v. IsOnly v (m.history (gate_place a))) gate (durable (gate_place a) (inl (omega arith, omega (arith, fits.shape.len))));
  home = λ p in_home.
      subst (λ v. IsOnly v (m.history p)) (sym (ap (λ cs. changed cs (last_image m) p) (listed-closed a (last_image m) gate))) (durable p (inr in_home));
}

pub empty_closed : (a : LogArea) (words : ℕ → ℕ) → first_wrong a words ≡ None → length (listed a words) ≡ 0 → words (gate_place a) ≡ 0
empty_closed a words valid none =
    elim (valid_cases a words valid) as (λ _. words (gate_place a) ≡ 0) [ inl closed_ ↦ closed_ | inr open_ ↦ absurd (omega (arith, open_.taken.some)) ]

pub some_open : (a : LogArea) (words : ℕ → ℕ) → first_wrong a words ≡ None → 0 < length (listed a words) → ValidOpen a words
some_open a words valid some =
    elim (valid_cases a words valid) as (λ _. ValidOpen a words) [
      | inl closed_ ↦ let none : length (listed a words) ≡ 0 = ap length (listed-closed a words closed_) in absurd (omega arith)
      | inr open_ ↦ open_
    ]

-- a durable log that lists nothing is at rest, and one that lists something is open
pub durable_empty : (a : LogArea) (m : Medium) (cs : List (ℕ × ℕ)) → Fits a m → AwaitsReplay a cs m → (length cs == 0) ≡ true → IsAtRest a m (replayed a (last_image m))
durable_empty a m cs fits awaits none =
    durable_closed a m fits awaits.durable (empty_closed a (last_image m) awaits.valid (ap length (sym awaits.listed) ∙ eqb-true (length cs) 0 none))

pub durable_some : (a : LogArea) (m : Medium) (cs : List (ℕ × ℕ)) → Fits a m → AwaitsReplay a cs m → (length cs == 0) ≡ false → IsOpen a cs (last_image m) m
durable_some a m cs fits awaits some =
    let more : 0 < length (listed a (last_image m)) = subst (λ es. 0 < length es) awaits.listed (at_least (length cs) some) in
    subst (λ es. IsOpen a es (last_image m) m) (sym awaits.listed) (durable_open a m fits awaits.durable (some_open a (last_image m) awaits.valid more))
  where
    at_least : (n : ℕ) → (n == 0) ≡ false → 0 < n
    at_least n h = grind (arith, nat_tests)

-- a log that lists something is not closed
pub listed-not_closed : (a : LogArea) (words : ℕ → ℕ) (cs : List (ℕ × ℕ)) → cs ≡ listed a words → (length cs == 0) ≡ false → words (gate_place a) ≡ 0 → ⊥
listed-not_closed a words cs is some closed_ =
    let none : length cs ≡ 0 = ap length (is ∙ listed-closed a words closed_) in
    false≢true (sym some ∙ eq-eqb (length cs) 0 none)
