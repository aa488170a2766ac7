-- What is wrong with a log, as far as it was read.
use Rattle.std.proofs.Common.{◌≡◌, ℕ, zero, suc, true, ◌&&◌, ◌<◌, ◌≤◌, ◌==◌, nat_lt, nat_le, List, [], Some, sym, ◌∙◌, ap, arith}
use Rattle.std.proofs.lemmas.Bool.Decides.{nat_tests}
use Rattle.word_log.specs.declared.area.LogArea.{LogArea}
use Rattle.word_log.specs.Area.{gate_place, count_place, entry_place}
use Rattle.word_log.specs.Replay.{entries, listed, listed_if, wrong_entry, wrong_open, wrong_at, first_wrong}
use Rattle.word_log.proofs.EntryLemmas.{entries-cong}

-- the count is in order, and these are the entries
pub record Counted (a : LogArea) (words : ℕ → ℕ) (items : List (ℕ × ℕ)) : Type 0 where
  pub wrong : wrong_at 1 a words ≡ wrong_entry a (entry_place a 0) [] items
  pub read : items ≡ entries words (entry_place a 0) (words (count_place a))

pub counted : (a : LogArea) (words later : ℕ → ℕ) (n : ℕ) (items : List (ℕ × ℕ)) → 0 < n → n ≤ a.cap → n ≡ words (count_place a) → ((p : ℕ) → later p ≡ words p) → items ≡ entries later (entry_place a 0) n → Counted a words items
counted a words later n items some few is same read =
    let all : items ≡ entries words (entry_place a 0) (words (count_place a)) =
    read ∙ entries-cong later words (entry_place a 0) n (λ p _ _. same p) ∙ ap (entries words (entry_place a 0)) is in
    record {
      wrong =
          ap (λ k. wrong_open (nat_lt 0 k && nat_le k a.cap) a words) (sym is)
          ∙ ap (λ b. wrong_open b a words) (in_order n a.cap some few)
          ∙ ap (wrong_entry a (entry_place a 0) []) (sym all);
      read = all;
    }
  where
    in_order : (n cap : ℕ) → 0 < n → n ≤ cap → (nat_lt 0 n && nat_le n cap) ≡ true
    in_order n cap some few = grind (arith, nat_tests)

pub first_wrong-gate : (a : LogArea) (words : ℕ → ℕ) (gate : ℕ) → words (gate_place a) ≡ gate → first_wrong a words ≡ wrong_at gate a words
unfolding first_wrong
first_wrong-gate a words gate is = ap (λ g. wrong_at g a words) is

pub wrong_at-other : (a : LogArea) (words : ℕ → ℕ) (gate : ℕ) → (gate ≡ 0 → ⊥) → (gate ≡ 1 → ⊥) → wrong_at gate a words ≡ Some (gate_place a)
wrong_at-other a words zero not_closed not_open = absurd (not_closed (λ _. 0))
wrong_at-other a words (suc zero) not_closed not_open = absurd (not_open (λ _. 1))
wrong_at-other a words (suc (suc n)) not_closed not_open = λ _. Some (gate_place a)

pub listed-closed : (a : LogArea) (words : ℕ → ℕ) → words (gate_place a) ≡ 0 → listed a words ≡ []
unfolding listed
listed-closed a words is = ap (λ g. listed_if (g == 1) a words) is

pub listed-open : (a : LogArea) (words : ℕ → ℕ) → words (gate_place a) ≡ 1 → listed a words ≡ entries words (entry_place a 0) (words (count_place a))
unfolding listed
listed-open a words is = ap (λ g. listed_if (g == 1) a words) is
