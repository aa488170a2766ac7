-- Lists of changes.
use Rattle.std.proofs.Common.{◌≡◌, ◌⊎◌, inl, inr, ℕ, zero, suc, Bool, true, false, ◌<◌, ◌==◌, ◌||◌, List, [], ◌∷◌, ◌++◌, length, take, get_or, if◌then◌else◌, IsTrue, refl, sym, ◌∙◌, ap, subst, arith}
use Rattle.std.proofs.lemmas.Bool.{cases_eq, eq-eqb, ne_eqb}
use Rattle.word_log.specs.Changes.{changed, lists, IsDistinct}

-- each word is listed or not
pub listed_or : (b : Bool) → IsTrue b ⊎ (b ≡ false)
listed_or true = inl refl
listed_or false = inr refl

pub lists_not : (b : Bool) → b ≡ false → IsTrue b → ⊥
lists_not b out in_ = cc

pub lists-push : (cs : List (ℕ × ℕ)) (c : ℕ × ℕ) (p : ℕ) → lists (cs ++ c ∷ []) p ≡ (lists cs p || c.0 == p)
lists-push [] c p = elim (c.0 == p) as (λ b. (b || false) ≡ b) [ true ↦ refl | false ↦ refl ]
lists-push (d ∷ cs) c p =
    elim (d.0 == p) as (λ b. (b || lists (cs ++ c ∷ []) p) ≡ ((b || lists cs p) || c.0 == p)) [ true ↦ refl | false ↦ lists-push cs c p ]

-- a listed word was listed before the last change, or is the last one's
pub lists-more : (cs : List (ℕ × ℕ)) (c : ℕ × ℕ) (p : ℕ) → IsTrue (lists (cs ++ c ∷ []) p) → IsTrue (lists cs p) ⊎ (p ≡ c.0)
lists-more cs c p h =
    elim (cases_eq c.0 p) as (λ _. IsTrue (lists cs p) ⊎ (p ≡ c.0)) [
      | inl is ↦ inr (sym is)
      | inr other ↦
          let e : (lists cs p || c.0 == p) ≡ lists cs p = ap (λ b. lists cs p || b) (ne_eqb c.0 p other) ∙ or_false (lists cs p) in
          inl (sym (lists-push cs c p ∙ e) ∙ h)
    ]
  where
    or_false : (b : Bool) → (b || false) ≡ b
    or_false true = refl
    or_false false = refl

-- each of the changes is listed
pub lists-at : (cs : List (ℕ × ℕ)) (i : ℕ) (d : ℕ × ℕ) → i < length cs → IsTrue (lists cs (get_or cs i d).0)
lists-at [] i d below = absurd (omega arith)
lists-at (c ∷ cs) zero d below = ap (λ b. b || lists cs c.0) (eq-eqb c.0 c.0 refl)
lists-at (c ∷ cs) (suc i) d below =
    let later = lists-at cs i d (omega arith) in
    elim (c.0 == (get_or cs i d).0) as (λ b. IsTrue (b || lists cs (get_or cs i d).0)) [ true ↦ refl | false ↦ later ]

pub changed-cong : (cs : List (ℕ × ℕ)) (v w : ℕ → ℕ) (p : ℕ) → v p ≡ w p → changed cs v p ≡ changed cs w p
changed-cong [] v w p same = same
changed-cong (c ∷ cs) v w p same = ap (λ x. if c.0 == p then c.1 else x) (changed-cong cs v w p same)

-- a listed word gets its value whatever it was
pub changed-listed : (cs : List (ℕ × ℕ)) (v w : ℕ → ℕ) (p : ℕ) → IsTrue (lists cs p) → changed cs v p ≡ changed cs w p
changed-listed [] v w p h = absurd (lists_not false refl h)
changed-listed (c ∷ cs) v w p h =
    (elim (c.0 == p) as (λ b. IsTrue (b || lists cs p) → (if b then c.1 else changed cs v p) ≡ (if b then c.1 else changed cs w p)) [
      | true ↦ λ _. refl
      | false ↦ λ later. changed-listed cs v w p later
    ]) h

pub changed-unlisted : (cs : List (ℕ × ℕ)) (w : ℕ → ℕ) (p : ℕ) → lists cs p ≡ false → changed cs w p ≡ w p
changed-unlisted [] w p h = refl
changed-unlisted (c ∷ cs) w p h =
    (elim (c.0 == p) as (λ b. (b || lists cs p) ≡ false → (if b then c.1 else changed cs w p) ≡ w p) [
      | true ↦ λ e. absurd (lists_not true e refl)
      | false ↦ λ later. changed-unlisted cs w p later
    ]) h

-- one change more, of a word that was not listed
pub changed-push_at : (cs : List (ℕ × ℕ)) (c : ℕ × ℕ) (w : ℕ → ℕ) → lists cs c.0 ≡ false → changed (cs ++ c ∷ []) w c.0 ≡ c.1
changed-push_at [] c w h = ap (λ b. if b then c.1 else w c.0) (eq-eqb c.0 c.0 refl)
changed-push_at (d ∷ cs) c w h =
    (elim (d.0 == c.0) as (λ b. (b || lists cs c.0) ≡ false → (if b then d.1 else changed (cs ++ c ∷ []) w c.0) ≡ c.1) [
      | true ↦ λ e. absurd (lists_not true e refl)
      | false ↦ λ later. changed-push_at cs c w later
    ]) h

pub changed-push_other : (cs : List (ℕ × ℕ)) (c : ℕ × ℕ) (w : ℕ → ℕ) (p : ℕ) → (p ≡ c.0 → ⊥) → changed (cs ++ c ∷ []) w p ≡ changed cs w p
changed-push_other [] c w p other = ap (λ b. if b then c.1 else w p) (ne_eqb c.0 p (λ e. other (sym e)))
changed-push_other (d ∷ cs) c w p other = ap (λ x. if d.0 == p then d.1 else x) (changed-push_other cs c w p other)

-- no word is listed before its own change
pub distinct_at : (cs : List (ℕ × ℕ)) (i : ℕ) (d : ℕ × ℕ) → IsDistinct cs → i < length cs → lists (take i cs) (get_or cs i d).0 ≡ false
distinct_at [] i d h below = absurd (omega arith)
distinct_at (c ∷ cs) zero d h below = refl
distinct_at (c ∷ cs) (suc i) d h below =
    let place = (get_or cs i d).0 in
    elim (cases_eq c.0 place) as (λ _. (c.0 == place || lists (take i cs) place) ≡ false) [
      | inl is ↦ absurd (lists_not (lists cs c.0) h.0 (subst (λ p. IsTrue (lists cs p)) (sym is) (lists-at cs i d (omega arith))))
      | inr other ↦ ap (λ b. b || lists (take i cs) place) (ne_eqb c.0 place other) ∙ distinct_at cs i d h.1 (omega arith)
    ]
