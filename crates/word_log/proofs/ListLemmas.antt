-- A log and its home as lists.
use Rattle.std.proofs.Common.{◌≡◌, inl, inr, ℕ, zero, suc, false, None, ◌+◌, ◌-◌, ◌*◌, ◌<◌, ◌≤◌, List, [], ◌∷◌, ◌++◌, length, take, get_or, set, if◌then◌else◌, refl, sym, ◌∙◌, ap, subst, arith, get_or-set_other, get_or-set_same}
use Rattle.std.proofs.lemmas.Bool.{cases_eq}
use Rattle.word_log.specs.declared.area.LogArea.{LogArea}
use Rattle.word_log.specs.Area.{gate_place, count_place, entry_place, IsHome, IsLog, IsShaped, is_home}
use Rattle.word_log.specs.Changes.{changed, lists, MayCommit}
use Rattle.word_log.specs.Replay.{entries, listed, first_wrong, replayed}
use Rattle.word_log.specs.Lists.{on_lists}
use Rattle.word_log.proofs.ChangeLemmas.{listed_or, lists-at, distinct_at, changed-push_at, changed-push_other}
use Rattle.word_log.proofs.EntryLemmas.{length-entries, entries-push}
use Rattle.word_log.proofs.ReplayLemmas.{is_home-true}
use Rattle.word_log.proofs.ValidLemmas.{is_home-from, valid_cases}
use Rattle.word_log.proofs.ReadLemmas.{listed-open, listed-closed}

pub get_or-entries : (w : ℕ → ℕ) (at n k : ℕ) (d : ℕ × ℕ) → k < n → get_or (entries w at n) k d ≡ (w (at + 2 * k), w (at + 2 * k + 1))
get_or-entries w at zero k d below = absurd (omega arith)
get_or-entries w at (suc n) zero d below =
    let e : at ≡ at + 2 * 0 = omega arith in
    ap (λ p. (w p, w (p + 1))) e
get_or-entries w at (suc n) (suc k) d below =
    let e : (at + 2) + 2 * k ≡ at + 2 * suc k = omega arith in
    get_or-entries w (at + 2) n k d (omega arith) ∙ ap (λ p. (w p, w (p + 1))) e

pub take-entries : (w : ℕ → ℕ) (at n k : ℕ) → k ≤ n → take k (entries w at n) ≡ entries w at k
take-entries w at n zero few = refl
take-entries w at zero (suc k) few = absurd (omega arith)
take-entries w at (suc n) (suc k) few = ap (λ es. (w at, w (at + 1)) ∷ es) (take-entries w (at + 2) n k (omega arith))

pub on_lists-home : (a : LogArea) (log home : List ℕ) (j : ℕ) → j < a.home.len → on_lists a log home (a.home.start + j) ≡ get_or home j 0
on_lists-home a log home j below =
    let p = a.home.start + j in
    let e : p - a.home.start ≡ j = omega arith in
    ap (λ b. if b then get_or home (p - a.home.start) 0 else get_or log (p - 8 * a.log.start) 0) (is_home-true a p (omega arith, omega arith))
    ∙ ap (λ i. get_or home i 0) e

pub on_lists-log : (a : LogArea) (log home : List ℕ) (p i : ℕ) → IsShaped a → IsLog a p → p ≡ 8 * a.log.start + i → on_lists a log home p ≡ get_or log i 0
on_lists-log a log home p i shape in_log is =
    let e : p - 8 * a.log.start ≡ i = omega arith in
    let out : is_home a p ≡ false =
    elim (listed_or (is_home a p)) as (λ _. is_home a p ≡ false) [ inl in_home ↦ absurd (shape.apart p in_log (is_home-from a p in_home)) | inr not_home ↦ not_home ] in
    ap (λ b. if b then get_or home (p - a.home.start) 0 else get_or log (p - 8 * a.log.start) 0) out
    ∙ ap (λ k. get_or log k 0) e

-- entry k of a log that is a list
pub record EntryIs (a : LogArea) (log home : List ℕ) (k : ℕ) : Type 0 where
  pub place : on_lists a log home (entry_place a 0 + 2 * k) ≡ get_or log (8 + 2 * k) 0
  pub value : on_lists a log home (entry_place a 0 + 2 * k + 1) ≡ get_or log (8 + 2 * k + 1) 0

pub entry_is : (a : LogArea) (log home : List ℕ) (n k : ℕ) → IsShaped a → length log ≡ 8 * a.log.len → 8 + 2 * n ≤ length log → k < n → EntryIs a log home k
entry_is a log home n k shape whole room below = record {
  place = on_lists-log a log home (entry_place a 0 + 2 * k) (8 + 2 * k) shape (omega arith, omega arith) (omega arith);
  value = on_lists-log a log home (entry_place a 0 + 2 * k + 1) (8 + 2 * k + 1) shape (omega arith, omega arith) (omega arith);
}

-- an entry that counts is of a home word
pub entry_home : (a : LogArea) (log home : List ℕ) (n k : ℕ) → IsShaped a → length log ≡ 8 * a.log.len → 8 + 2 * n ≤ length log → k < n → MayCommit a (entries (on_lists a log home) (entry_place a 0) n) → IsHome a (get_or log (8 + 2 * k) 0)
entry_home a log home n k shape whole room below taken =
    let w = on_lists a log home in
    let es = entries w (entry_place a 0) n in
    let at = get_or-entries w (entry_place a 0) n k (0, 0) below in
    let in_home = taken.home (get_or es k (0, 0)).0 (lists-at es k (0, 0) (omega (arith, length-entries w (entry_place a 0) n))) in
    subst (IsHome a) (ap (λ e. e.0) at ∙ (entry_is a log home n k shape whole room below).place) in_home

-- one home word more has its value
pub home-more : (a : LogArea) (log old home : List ℕ) (n k : ℕ) → IsShaped a → length log ≡ 8 * a.log.len → 8 + 2 * n ≤ length log → k < n → length home ≡ a.home.len → MayCommit a (entries (on_lists a log old) (entry_place a 0) n) → ((j : ℕ) → j < a.home.len → get_or home j 0 ≡ changed (entries (on_lists a log old) (entry_place a 0) k) (on_lists a log old) (a.home.start + j)) → (j : ℕ) → j < a.home.len → get_or (set home (get_or log (8 + 2 * k) 0 - a.home.start) (get_or log (8 + 2 * k + 1) 0)) j 0 ≡ changed (entries (on_lists a log old) (entry_place a 0) (k + 1)) (on_lists a log old) (a.home.start + j)
home-more a log old home n k shape whole room below long taken before j in_home =
    let w = on_lists a log old in
    let at = entry_place a 0 in
    let is = entry_is a log old n k shape whole room below in
    let place = get_or log (8 + 2 * k) 0 in
    let value = get_or log (8 + 2 * k + 1) 0 in
    let of_home = entry_home a log old n k shape whole room below taken in
    let c : ℕ × ℕ = (place, value) in
    let front = entries w at k in
    let pushed : entries w at (k + 1) ≡ front ++ c ∷ [] =
    entries-push w at k
    ∙ ap (λ p. front ++ (p, w (at + 2 * k + 1)) ∷ []) is.place
    ∙ ap (λ v. front ++ (place, v) ∷ []) is.value in
    let fresh : lists front place ≡ false =
    subst (λ p. lists front p ≡ false) (ap (λ e. e.0) (get_or-entries w at n k (0, 0) below) ∙ is.place)
    (subst (λ es. lists es (get_or (entries w at n) k (0, 0)).0 ≡ false) (take-entries w at n k (omega arith))
    (distinct_at (entries w at n) k (0, 0) taken.distinct (omega (arith, length-entries w at n)))) in
    let i = place - a.home.start in
    elim (cases_eq j i) as (λ _. get_or (set home i value) j 0 ≡ changed (entries w at (k + 1)) w (a.home.start + j)) [
      | inl same ↦
          let p_is : a.home.start + j ≡ place = omega (arith, of_home) in
          let lt : i < length home = omega (arith, of_home) in
          ap (λ x. get_or (set home i value) x 0) same
          ∙ get_or-set_same home i value 0 lt
          ∙ sym (changed-push_at front c w fresh)
          ∙ ap (λ p. changed (front ++ c ∷ []) w p) (sym p_is)
          ∙ ap (λ es. changed es w (a.home.start + j)) (sym pushed)
      | inr other ↦
          let out : a.home.start + j ≡ place → ⊥ = λ e. other (omega arith) in
          get_or-set_other home i j value 0 other
          ∙ before j in_home
          ∙ sym (changed-push_other front c w (a.home.start + j) out)
          ∙ ap (λ es. changed es w (a.home.start + j)) (sym pushed)
    ]

-- a valid log with an open gate, as lists
pub record OpenLists (a : LogArea) (log home : List ℕ) : Type 0 where
  pub room : 8 + 2 * get_or log 1 0 ≤ length log
  pub taken : MayCommit a (entries (on_lists a log home) (entry_place a 0) (get_or log 1 0))
  pub listed : listed a (on_lists a log home) ≡ entries (on_lists a log home) (entry_place a 0) (get_or log 1 0)

gate_is : (a : LogArea) (log home : List ℕ) → IsShaped a → on_lists a log home (gate_place a) ≡ get_or log 0 0
gate_is a log home shape = on_lists-log a log home (gate_place a) 0 shape (omega arith, omega (arith, shape.len)) (omega arith)

pub open_lists : (a : LogArea) (log home : List ℕ) → IsShaped a → length log ≡ 8 * a.log.len → first_wrong a (on_lists a log home) ≡ None → get_or log 0 0 ≡ 1 → OpenLists a log home
open_lists a log home shape whole valid gate =
    let w = on_lists a log home in
    let count : w (count_place a) ≡ get_or log 1 0 = on_lists-log a log home (count_place a) 1 shape (omega arith, omega (arith, shape.len)) (omega arith) in
    elim (valid_cases a w valid) as (λ _. OpenLists a log home) [
      | inl closed_ ↦ absurd (omega (arith, gate_is a log home shape, closed_))
      | inr open_ ↦
          let is : listed a w ≡ entries w (entry_place a 0) (get_or log 1 0) = listed-open a w open_.gate ∙ ap (entries w (entry_place a 0)) count in
          record {
            room = omega (arith, shape.len, shape.whole, open_.taken.few, open_.count, count);
            taken = subst (MayCommit a) is open_.taken;
            listed = is;
          }
    ]

-- a valid log whose gate is not open leaves the home as it is
pub closed_lists : (a : LogArea) (log home : List ℕ) → IsShaped a → first_wrong a (on_lists a log home) ≡ None → (get_or log 0 0 ≡ 1 → ⊥) → (j : ℕ) → j < a.home.len → get_or home j 0 ≡ replayed a (on_lists a log home) (a.home.start + j)
closed_lists a log home shape valid not_open j in_home =
    let w = on_lists a log home in
    elim (valid_cases a w valid) as (λ _. get_or home j 0 ≡ replayed a w (a.home.start + j)) [
      | inl closed_ ↦ sym (ap (λ cs. changed cs w (a.home.start + j)) (listed-closed a w closed_) ∙ on_lists-home a log home j in_home)
      | inr open_ ↦ absurd (not_open (sym (gate_is a log home shape) ∙ open_.gate))
    ]
