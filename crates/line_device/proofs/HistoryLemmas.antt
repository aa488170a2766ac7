-- What stays of a word's values when some are forgotten, and when one comes to them.
use Rattle.std.proofs.Common.{◌≡◌, ◌⊎◌, inl, inr, ℕ, Bool, true, false, List, [], ◌∷◌, ◌++◌, take, refl, sym, ◌∙◌, ap, subst}
use Rattle.line_device.specs.History.{latest, newest, IsIn, IsPart, WordWritesBack}

pub is_part-refl : (xs : List ℕ) → IsPart xs xs
is_part-refl [] = tt
is_part-refl (x ∷ xs) = inl (refl, is_part-refl xs)

pub is_part-trans : (a b c : List ℕ) → IsPart a b → IsPart b c → IsPart a c
is_part-trans [] b c p q = tt
is_part-trans (x ∷ xs) [] c p q = absurd p
is_part-trans (x ∷ xs) (y ∷ ys) [] p q = absurd q
is_part-trans (x ∷ xs) (y ∷ ys) (z ∷ zs) p q =
    elim q as (λ _. IsPart (x ∷ xs) (z ∷ zs)) [
      | inl q' ↦
          elim p as (λ _. IsPart (x ∷ xs) (z ∷ zs)) [ inl p' ↦ inl (p'.0 ∙ q'.0, is_part-trans xs ys zs p'.1 q'.1) | inr later ↦ inr (is_part-trans (x ∷ xs) ys zs later q'.1) ]
      | inr later ↦ inr (is_part-trans (x ∷ xs) (y ∷ ys) zs p later)
    ]

pub is_part-append : (a b c : List ℕ) → IsPart a b → IsPart (a ++ c) (b ++ c)
is_part-append [] [] c p = is_part-refl c
is_part-append [] (y ∷ ys) [] p = tt
is_part-append [] (y ∷ ys) (z ∷ zs) p = inr (is_part-append [] ys (z ∷ zs) tt)
is_part-append (x ∷ xs) [] c p = absurd p
is_part-append (x ∷ xs) (y ∷ ys) c p =
    elim p as (λ _. IsPart (x ∷ xs ++ c) (y ∷ ys ++ c)) [ inl p' ↦ inl (p'.0, is_part-append xs ys c p'.1) | inr later ↦ inr (is_part-append (x ∷ xs) ys c later) ]

-- a value that is left was there
pub is_in-part : (v : ℕ) (part whole : List ℕ) → IsPart part whole → IsIn v part → IsIn v whole
is_in-part v [] whole p at = absurd at
is_in-part v (x ∷ xs) [] p at = absurd p
is_in-part v (x ∷ xs) (y ∷ ys) p at =
    elim p as (λ _. IsIn v (y ∷ ys)) [
      | inl p' ↦ elim at as (λ _. IsIn v (y ∷ ys)) [ inl is ↦ inl (is ∙ p'.0) | inr later ↦ inr (is_in-part v xs ys p'.1 later) ]
      | inr later ↦ inr (is_in-part v (x ∷ xs) ys later at)
    ]

pub is_in-newest : (x : ℕ) (xs : List ℕ) → IsIn (newest (x ∷ xs)) (x ∷ xs)
is_in-newest x [] = inl refl
is_in-newest x (y ∷ ys) = inr (is_in-newest y ys)

pub is_in-one : (v x : ℕ) → IsIn v (x ∷ []) → v ≡ x
is_in-one v x at = elim at as (λ _. v ≡ x) [ inl is ↦ is | inr none ↦ absurd none ]

pub latest-cons : (x : ℕ) (xs : List ℕ) → latest (x ∷ xs) ≡ newest (x ∷ xs) ∷ []
latest-cons x [] = refl
latest-cons x (y ∷ ys) = latest-cons y ys

pub latest-latest : (xs : List ℕ) → latest (latest xs) ≡ latest xs
latest-latest [] = refl
latest-latest (x ∷ xs) = ap latest (latest-cons x xs) ∙ sym (latest-cons x xs)

pub newest-latest : (xs : List ℕ) → newest (latest xs) ≡ newest xs
newest-latest [] = refl
newest-latest (x ∷ xs) = ap newest (latest-cons x xs)

-- equal last values, as lists, are equal as numbers
pub newest_same : (a b : List ℕ) → latest a ≡ latest b → newest a ≡ newest b
newest_same a b same = sym (newest-latest a) ∙ ap newest same ∙ newest-latest b

pub latest-push : (xs : List ℕ) (v : ℕ) → latest (xs ++ v ∷ []) ≡ v ∷ []
latest-push [] v = refl
latest-push (x ∷ []) v = refl
latest-push (x ∷ y ∷ ys) v = latest-push (y ∷ ys) v

pub newest-push : (xs : List ℕ) (v : ℕ) → newest (xs ++ v ∷ []) ≡ v
newest-push [] v = refl
newest-push (x ∷ []) v = refl
newest-push (x ∷ y ∷ ys) v = newest-push (y ∷ ys) v

pub is_in-push : (v w : ℕ) (xs : List ℕ) → IsIn v (xs ++ w ∷ []) → IsIn v xs ⊎ (v ≡ w)
is_in-push v w [] at = inr (is_in-one v w at)
is_in-push v w (x ∷ xs) at =
    elim at as (λ _. IsIn v (x ∷ xs) ⊎ (v ≡ w)) [
      | inl is ↦ inl (inl is)
      | inr later ↦ elim (is_in-push v w xs later) as (λ _. IsIn v (x ∷ xs) ⊎ (v ≡ w)) [ inl old ↦ inl (inr old) | inr is ↦ inr is ]
    ]

pub is_part-latest : (xs : List ℕ) → IsPart (latest xs) xs
is_part-latest [] = tt
is_part-latest (x ∷ []) = inl (refl, tt)
is_part-latest (x ∷ y ∷ ys) = subst (λ l. IsPart l (x ∷ y ∷ ys)) (sym (latest-cons y ys)) (inr (subst (λ l. IsPart l (y ∷ ys)) (latest-cons y ys) (is_part-latest (y ∷ ys))))

pub word_write_back-refl : (weak : Bool) (xs : List ℕ) → WordWritesBack weak xs xs
word_write_back-refl weak xs = record { part = is_part-refl xs; last = refl; first = λ _. refl }

pub word_write_back-trans : (weak : Bool) (a b c : List ℕ) → WordWritesBack weak a b → WordWritesBack weak b c → WordWritesBack weak a c
word_write_back-trans weak a b c p q = record {
  part = is_part-trans c b a q.part p.part;
  last = q.last ∙ p.last;
  first = λ w. q.first w ∙ p.first w;
}

-- what may be written back of a weak word may of any
pub word_write_back-any : (weak : Bool) (a b : List ℕ) → WordWritesBack true a b → WordWritesBack weak a b
word_write_back-any weak a b p = record { part = p.part; last = p.last; first = λ _. p.first refl }

-- write-back of all
pub word_write_back-latest : (weak : Bool) (xs : List ℕ) → weak ≡ false → WordWritesBack weak xs (latest xs)
word_write_back-latest weak xs strong = record {
  part = is_part-latest xs;
  last = latest-latest xs;
  first = λ w. cc;
}

-- a word of one value keeps it
pub word_write_back-one : (weak : Bool) (x : ℕ) (new : List ℕ) → WordWritesBack weak (x ∷ []) new → new ≡ x ∷ []
word_write_back-one weak x [] p = p.last
word_write_back-one weak x (y ∷ []) p = p.last
word_write_back-one weak x (y ∷ z ∷ zs) p =
    absurd (elim p.part as (λ _. ⊥) [ inl q ↦ q.1 | inr none ↦ none ])

pub word_write_back-none : (weak : Bool) (new : List ℕ) → WordWritesBack weak [] new → new ≡ []
word_write_back-none weak [] p = refl
word_write_back-none weak (y ∷ ys) p = absurd p.part

pub newest-word_write_back : (weak : Bool) (a b : List ℕ) → WordWritesBack weak a b → newest b ≡ newest a
newest-word_write_back weak a b p = newest_same b a p.last

pub is_in-word_write_back : (weak : Bool) (v : ℕ) (a b : List ℕ) → WordWritesBack weak a b → IsIn v b → IsIn v a
is_in-word_write_back weak v a b p at = is_in-part v b a p.part at

-- two words that end alike are both empty or neither
take_first-push : (v : ℕ) (a b : List ℕ) → latest b ≡ latest a → take 1 b ≡ take 1 a → take 1 (b ++ v ∷ []) ≡ take 1 (a ++ v ∷ [])
take_first-push v [] [] last first = refl
take_first-push v [] (y ∷ ys) last first = cc
take_first-push v (x ∷ xs) [] last first = cc
take_first-push v (x ∷ xs) (y ∷ ys) last first = first

-- one value more at the end of both
pub word_write_back-push : (weak : Bool) (a b : List ℕ) (v : ℕ) → WordWritesBack weak a b → WordWritesBack weak (a ++ v ∷ []) (b ++ v ∷ [])
word_write_back-push weak a b v p = record {
  part = is_part-append b a (v ∷ []) p.part;
  last = latest-push b v ∙ sym (latest-push a v);
  first = λ w. take_first-push v a b p.last (p.first w);
}

pub word_write_back-latest_both : (weak : Bool) (a b : List ℕ) → WordWritesBack weak a b → WordWritesBack weak (latest a) (latest b)
word_write_back-latest_both weak a b p = subst (WordWritesBack weak (latest a)) (sym p.last) (word_write_back-refl weak (latest a))

pub is_in-latest : (v : ℕ) (xs : List ℕ) → IsIn v (latest xs) → v ≡ newest xs
is_in-latest v [] at = absurd at
is_in-latest v (x ∷ xs) at = is_in-one v (newest (x ∷ xs)) (subst (IsIn v) (latest-cons x xs) at)
