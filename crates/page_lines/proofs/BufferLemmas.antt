-- A buffer that is filled from its front on.
use Rattle.std.proofs.Common.{◌≡◌, ◌+◌, ℕ, List, ◌++◌, length, take, drop, refl, sym, ap, ap₂, ◌∙◌, subst, arith}
use borrow.Rule.Slice.PartMut.{put_mid}
use Rattle.std.proofs.lemmas.List.{append_assoc, drop-drop, take-append-le, drop-append-le, take-append-drop, take_all, drop_all}
use Rattle.nvm_model.specs.Numbered.{list_from}
use Rattle.nvm_model.proofs.NumberedLemmas.{list_from-append, length-list_from}

-- so many bytes of it are there
abbrev pub IsFilled : (ℕ → ℕ) → ℕ → ℕ → List ℕ → List ℕ → Type 0
IsFilled f start n s a = a ≡ list_from f start n ++ drop n s

pub filled_none : (f : ℕ → ℕ) (start n : ℕ) (s : List ℕ) → n ≡ 0 → IsFilled f start n s s
filled_none f start n s none = subst (λ k. IsFilled f start k s s) (sym none) refl

-- a piece that is as before
pub put_back : (at k : ℕ) (s piece : List ℕ) → piece ≡ take k (drop at s) → put_mid at k s piece ≡ s
put_back at k s piece same = ap (put_mid at k s) same ∙ ap (λ xs. take at s ++ xs) (take-append-drop k (drop at s)) ∙ take-append-drop at s

-- a piece more
pub filled_more : (f : ℕ → ℕ) (start n at from len size more : ℕ) (s a piece : List ℕ) → IsFilled f start n s a → piece ≡ list_from f from len
    → at ≡ n → from ≡ start + n → size ≡ len → n + len ≡ more → IsFilled f start more s (put_mid at size a piece)
filled_more f start n at from len size more s a piece before is here place same total =
    subst (λ i. IsFilled f start more s (put_mid i size a piece)) (sym here)
    (subst (λ k. IsFilled f start k s (put_mid n size a piece)) total next)
  where
    done : List ℕ
    done = list_from f start n

    long : length done ≡ n
    long = length-list_from f start n

    front : take n a ≡ done
    front = ap (take n) before ∙ take-append-le n done (drop n s) (omega (arith, long)) ∙ take_all n done (omega (arith, long))

    past : drop n a ≡ drop n s
    past = ap (drop n) before ∙ drop-append-le n done (drop n s) (omega (arith, long)) ∙ ap (λ x. x ++ drop n s) (drop_all n done (omega (arith, long)))

    back : drop size (drop n a) ≡ drop (n + len) s
    back = ap (drop size) past ∙ drop-drop size n s ∙ ap (λ k. drop k s) (omega (arith, same))

    next : IsFilled f start (n + len) s (put_mid n size a piece)
    next =
        ap₂ (λ x y. x ++ (piece ++ y)) front back
        ∙ ap (λ x. done ++ (x ++ drop (n + len) s)) (is ∙ ap (λ i. list_from f i len) place)
        ∙ sym (append_assoc done (list_from f (start + n) len) (drop (n + len) s))
        ∙ ap (λ x. x ++ drop (n + len) s) (sym (list_from-append f start n len))
