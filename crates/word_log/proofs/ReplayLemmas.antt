-- Which logs are valid, and what they replay to.
use Rattle.std.proofs.Common.{◌≡◌, inl, inr, ℕ, true, false, not, ◌&&◌, ◌||◌, ◌+◌, ◌<◌, ◌≤◌, ◌==◌, nat_lt, nat_le, List, [], ◌∷◌, ◌++◌, length, Some, None, if◌then◌else◌, IsTrue, refl, sym, ◌∙◌, ap, subst, arith}
use Rattle.std.proofs.lemmas.Bool.{eq-eqb, ne_eqb}
use Rattle.std.proofs.lemmas.Bool.Decides.{nat_tests}
use Rattle.word_log.specs.declared.area.LogArea.{LogArea}
use Rattle.word_log.specs.Area.{gate_place, count_place, entry_place, IsHome, is_home}
use Rattle.word_log.specs.Changes.{changed, lists, IsDistinct, MayCommit}
use Rattle.word_log.specs.Replay.{entries, listed, listed_if, wrong_entry, wrong_open, wrong_at, first_wrong, Replays}
use Rattle.word_log.proofs.ChangeLemmas.{listed_or, lists_not, lists-push, changed-cong, changed-listed}

pub is_home-true : (a : LogArea) (p : ℕ) → IsHome a p → is_home a p ≡ true
is_home-true a p home = grind (arith, nat_tests)

-- entries of home words, none twice and none listed before, are in order
pub wrong_entry-none : (a : LogArea) (at : ℕ) (before cs : List (ℕ × ℕ)) → ((p : ℕ) → IsTrue (lists cs p) → IsHome a p) → IsDistinct cs → ((p : ℕ) → IsTrue (lists cs p) → lists before p ≡ false) → wrong_entry a at before cs ≡ None
wrong_entry-none a at before [] home distinct fresh = refl
wrong_entry-none a at before (c ∷ cs) home distinct fresh =
    let rest = wrong_entry a (at + 2) (before ++ c ∷ []) cs in
    let first : IsTrue (lists (c ∷ cs) c.0) = first_listed c cs in
    let later : (p : ℕ) → IsTrue (lists cs p) → IsTrue (lists (c ∷ cs) p) = λ p h. listed_later c cs p h in
    ap (λ b. if b && not (lists before c.0) then rest else Some at) (is_home-true a c.0 (home c.0 first))
    ∙ ap (λ b. if not b then rest else Some at) (fresh c.0 first)
    ∙ wrong_entry-none a (at + 2) (before ++ c ∷ []) cs (λ p h. home p (later p h)) distinct.1
    (λ p h. lists-push before c p ∙ ap (λ b. b || c.0 == p) (fresh p (later p h)) ∙ ne_eqb c.0 p (λ e. lists_not (lists cs c.0) distinct.0 (subst (λ q. IsTrue (lists cs q)) (sym e) h)))
  where
    first_listed : (c : ℕ × ℕ) (cs : List (ℕ × ℕ)) → IsTrue (lists (c ∷ cs) c.0)
    first_listed c cs = ap (λ b. b || lists cs c.0) (eq-eqb c.0 c.0 refl)

    listed_later : (c : ℕ × ℕ) (cs : List (ℕ × ℕ)) (p : ℕ) → IsTrue (lists cs p) → IsTrue (lists (c ∷ cs) p)
    listed_later c cs p h = elim (c.0 == p) as (λ b. IsTrue (b || lists cs p)) [ true ↦ refl | false ↦ h ]

-- behind a gate of 0 no entry counts
pub replays_closed : (a : LogArea) (image words : ℕ → ℕ) → image (gate_place a) ≡ 0 → ((p : ℕ) → IsHome a p → image p ≡ words p) → Replays a image words
unfolding first_wrong listed
replays_closed a image words gate home = record {
  valid = ap (λ g. wrong_at g a image) gate;
  home = λ p in_home. ap (λ g. changed (listed_if (g == 1) a image) image p) gate ∙ home p in_home;
}

-- behind a gate of 1 all do
pub replays_open : (a : LogArea) (cs : List (ℕ × ℕ)) (image words : ℕ → ℕ) → image (gate_place a) ≡ 1 → image (count_place a) ≡ length cs → entries image (entry_place a 0) (length cs) ≡ cs → MayCommit a cs → ((p : ℕ) → IsHome a p → lists cs p ≡ false → image p ≡ words p) → Replays a image (changed cs words)
unfolding first_wrong listed
replays_open a cs image words gate count same taken home =
    let counted : entries image (entry_place a 0) (image (count_place a)) ≡ cs = ap (entries image (entry_place a 0)) count ∙ same in
    let in_order : (nat_lt 0 (length cs) && nat_le (length cs) a.cap) ≡ true = in_order_at (length cs) a.cap taken.some taken.few in
    record {
      valid =
          ap (λ g. wrong_at g a image) gate
          ∙ ap (λ n. wrong_open (nat_lt 0 n && nat_le n a.cap) a image) count
          ∙ ap (λ b. wrong_open b a image) in_order
          ∙ ap (wrong_entry a (entry_place a 0) []) counted
          ∙ wrong_entry-none a (entry_place a 0) [] cs taken.home taken.distinct (λ p h. refl);
      home = λ p in_home.
          ap (λ g. changed (listed_if (g == 1) a image) image p) gate
          ∙ ap (λ es. changed es image p) counted
          ∙ elim (listed_or (lists cs p)) as (λ _. changed cs image p ≡ changed cs words p) [
            | inl is ↦ changed-listed cs image words p is
            | inr out ↦ changed-cong cs image words p (home p in_home out)
          ];
    }
  where
    in_order_at : (n cap : ℕ) → 0 < n → n ≤ cap → (nat_lt 0 n && nat_le n cap) ≡ true
    in_order_at n cap some few = grind (arith, nat_tests)
