-- Texts that are appended one behind the other.
use Rattle.std.proofs.Common.{◌≡◌, ◌+◌, ◌<◌, ℕ, suc, Bool, List, [], ◌∷◌, ◌++◌, Result, Ok, Err, flat_map, length, take, drop, get_or, sym, ap, ◌∙◌, arith, append-nil, append_assoc}
use Rattle.std.specs.List.{range_with_len}
use Rattle.std.specs.Result.{OnOk}
use Rattle.std.proofs.Math.Seq.{drop-cons}
use Rattle.std.proofs.lemmas.Grind.{flat_map-append}
use Rattle.std.proofs.lemmas.List.{take_more}
use Rattle.nvm_model.proofs.RangeLemmas.{range-split}
use Rattle.witnesses.specs.Texts.{texts_once, unless_told}

-- what follows from what is so at Ok is so there
pub ok_more : {T E P Q : Type 0} (r : Result T E) → (P → Q) → OnOk r P → OnOk r Q
ok_more (Ok x) more is = more is
ok_more (Err e) more is = tt

pub two : {A : Type 0} (old x y a b : List A) → x ≡ old ++ a → y ≡ x ++ b → y ≡ old ++ (a ++ b)
two old x y a b first second = second ∙ ap (λ l. l ++ b) first ∙ append_assoc old a b

pub three : {A : Type 0} (old x y z a b c : List A) → x ≡ old ++ a → y ≡ x ++ b → z ≡ y ++ c → z ≡ old ++ (a ++ (b ++ c))
three old x y z a b c first second third = third ∙ ap (λ l. l ++ c) (two old x y a b first second) ∙ append_assoc old (a ++ b) c ∙ ap (λ l. old ++ l) (append_assoc a b c)

pub four : {A : Type 0} (old w x y z a b c d : List A) → w ≡ old ++ a → x ≡ w ++ b → y ≡ x ++ c → z ≡ y ++ d → z ≡ old ++ (a ++ (b ++ (c ++ d)))
four old w x y z a b c d first second third fourth =
    fourth ∙ ap (λ l. l ++ d) (three old w x y a b c first second third) ∙ append_assoc old (a ++ (b ++ c)) d
    ∙ ap (λ l. old ++ l) (append_assoc a (b ++ c) d ∙ ap (λ l. a ++ l) (append_assoc b c d))

-- one item of a list goes from those that are left to those that are told
pub told_next : {A : Type 0} (same : A → A → Bool) (text : A → List ℕ) (xs : List A) (i : ℕ) (x : A) (before new old : List ℕ) → i < length xs → x ≡ get_or xs i x
    → new ≡ before ++ unless_told same text (take i xs) x → before ++ texts_once same text (take i xs) (drop i xs) ≡ old
    → new ++ texts_once same text (take (i + 1) xs) (drop (i + 1) xs) ≡ old
told_next same text xs i x before new old lt is more was =
    let rest = texts_once same text (take i xs ++ x ∷ []) (drop (suc i) xs) in
    let next : i + 1 ≡ suc i = omega arith in
    ap (λ told. new ++ texts_once same text told (drop (i + 1) xs)) (take_more xs i x lt ∙ ap (λ z. take i xs ++ z ∷ []) (sym is))
    ∙ ap (λ k. new ++ texts_once same text (take i xs ++ x ∷ []) (drop k xs)) next
    ∙ ap (λ l. l ++ rest) more ∙ append_assoc before (unless_told same text (take i xs) x) rest
    ∙ ap (λ left. before ++ texts_once same text (take i xs) left) (sym (drop-cons xs i x lt ∙ ap (λ z. z ∷ drop (suc i) xs) (sym is)))
    ∙ was

-- one more number of a range
pub one_more : (text : ℕ → List ℕ) (n : ℕ) (old mid new : List ℕ) → mid ≡ old ++ flat_map text (range_with_len 0 n) → new ≡ mid ++ text n → new ≡ old ++ flat_map text (range_with_len 0 (n + 1))
one_more text n old mid new was more =
    two old mid new (flat_map text (range_with_len 0 n)) (text n) was more
    ∙ ap (λ l. old ++ l) (sym (ap (flat_map text) (range-split 0 n 1) ∙ flat_map-append text (range_with_len 0 n) (range_with_len (0 + n) 1)
    ∙ ap (λ l. flat_map text (range_with_len 0 n) ++ l) (append-nil (text (0 + n)) ∙ ap text (omega arith))))

pub more_of_range : {A : Type 0} (f : ℕ → List A) (start k : ℕ) (first old new : List A) → old ≡ first ++ flat_map f (range_with_len start k) → new ≡ old ++ f (start + k)
    → new ≡ first ++ flat_map f (range_with_len start (k + 1))
more_of_range f start k first old new was more =
    two first old new (flat_map f (range_with_len start k)) (f (start + k)) was more
    ∙ ap (λ l. first ++ l)
    (sym (ap (flat_map f) (range-split start k 1) ∙ flat_map-append f (range_with_len start k) (range_with_len (start + k) 1)
    ∙ ap (λ l. flat_map f (range_with_len start k) ++ l) (append-nil (f (start + k)))))
