-- Files of slots in order of name, as one slot changes.
use Rattle.std.proofs.Common.{◌≡◌, ℕ, zero, suc, false, List, [], ◌∷◌, Option, Some, None, option_map, slice_get, slice_set, refl, sym, ap, subst, ◌∙◌, arith}
use Rattle.nvm_model.specs.Listing.{put_file, in_order, has_file, file_of, without_file, change_file, put_some, rename_file, MayTake}
use Rattle.nvm_model.proofs.OrderLemmas.{put-put}
use Rattle.nvm_model.proofs.FileLemmas.{has_file-put, file_of-put, file_of-none, without-put, change-put}

may_take-rest : {A : Type 0} (name : A → List ℕ) (slot : Option A) (slots : List (Option A)) (i : ℕ) (text : List ℕ)
    → MayTake name (slot ∷ slots) (suc i) text → MayTake name slots i text
may_take-rest name slot slots i text may j x is same = let e : suc j ≡ suc i = may (suc j) x is same in omega (arith, e)

none_first : {A : Type 0} (name : A → List ℕ) (y : A) (slots : List (Option A)) (i : ℕ) (text : List ℕ)
    → MayTake name (Some y ∷ slots) (suc i) text → name y ≡ text → ⊥
none_first name y slots i text may same = let e : zero ≡ suc i = may zero y refl same in omega (arith, e)

-- a file in a slot, and the others
pub in_order-out : {A : Type 0} (name : A → List ℕ) (slots : List (Option A)) (i : ℕ) (x : A) → slice_get slots i ≡ Some (Some x)
    → MayTake name slots i (name x) → in_order name slots ≡ put_file name x (in_order name (slice_set slots i None))
in_order-out name [] i x is may = cc
in_order-out name (None ∷ slots) zero x is may = cc
in_order-out name (Some y ∷ slots) zero x is may = let e : y ≡ x = cc in ap (λ z. put_file name z (in_order name slots)) e
in_order-out name (None ∷ slots) (suc i) x is may = in_order-out name slots i x is (may_take-rest name None slots i (name x) may)
in_order-out name (Some y ∷ slots) (suc i) x is may =
    ap (put_file name y) (in_order-out name slots i x is (may_take-rest name (Some y) slots i (name x) may))
    ∙ put-put name y x (in_order name (slice_set slots i None)) (none_first name y slots i (name x) may)

-- a slot made a file
pub in_order-set : {A : Type 0} (name : A → List ℕ) (slots : List (Option A)) (i : ℕ) (old : Option A) (x : A) → slice_get slots i ≡ Some old
    → MayTake name slots i (name x) → in_order name (slice_set slots i (Some x)) ≡ put_file name x (in_order name (slice_set slots i None))
in_order-set name [] i old x is may = cc
in_order-set name (slot ∷ slots) zero old x is may = refl
in_order-set name (None ∷ slots) (suc i) old x is may = in_order-set name slots i old x is (may_take-rest name None slots i (name x) may)
in_order-set name (Some y ∷ slots) (suc i) old x is may =
    ap (put_file name y) (in_order-set name slots i old x is (may_take-rest name (Some y) slots i (name x) may))
    ∙ put-put name y x (in_order name (slice_set slots i None)) (none_first name y slots i (name x) may)

-- a slot that is free already
set-free : {A : Type 0} (slots : List (Option A)) (i : ℕ) → slice_get slots i ≡ Some None → slice_set slots i None ≡ slots
set-free [] i is = cc
set-free (slot ∷ slots) zero is = let e : slot ≡ None = cc in ap (λ s. s ∷ slots) (sym e)
set-free (slot ∷ slots) (suc i) is = ap (λ l. slot ∷ l) (set-free slots i is)

pub has_file-none : {A : Type 0} (name : A → List ℕ) (text : List ℕ) (slots : List (Option A))
    → ((j : ℕ) (x : A) → slice_get slots j ≡ Some (Some x) → name x ≡ text → ⊥) → has_file name text (in_order name slots) ≡ false
has_file-none name text [] none = refl
has_file-none name text (None ∷ slots) none = has_file-none name text slots (λ j x is. none (suc j) x is)
has_file-none name text (Some y ∷ slots) none =
    has_file-put name text y (in_order name slots) (none zero y refl) (has_file-none name text slots (λ j x is. none (suc j) x is))

-- no slot has the name of one that was freed
freed : {A : Type 0} (name : A → List ℕ) (slots : List (Option A)) (i : ℕ) (text : List ℕ) → MayTake name slots i text
    → (j : ℕ) (x : A) → slice_get (slice_set slots i None) j ≡ Some (Some x) → name x ≡ text → ⊥
freed name [] i text may j x is same = cc
freed name (slot ∷ slots) zero text may zero x is same = cc
freed name (slot ∷ slots) zero text may (suc j) x is same = let e : suc j ≡ zero = may (suc j) x is same in omega (arith, e)
freed name (slot ∷ slots) (suc i) text may zero x is same = let e : zero ≡ suc i = may zero x is same in omega (arith, e)
freed name (slot ∷ slots) (suc i) text may (suc j) x is same = freed name slots i text (may_take-rest name slot slots i text may) j x is same

pub has_file-freed : {A : Type 0} (name : A → List ℕ) (slots : List (Option A)) (i : ℕ) (text : List ℕ) → MayTake name slots i text
    → has_file name text (in_order name (slice_set slots i None)) ≡ false
has_file-freed name slots i text may = has_file-none name text (slice_set slots i None) (freed name slots i text may)

-- a free slot that becomes a file
pub in_order-created : {A : Type 0} (name : A → List ℕ) (slots : List (Option A)) (i : ℕ) (x : A) → slice_get slots i ≡ Some None
    → MayTake name slots i (name x) → in_order name (slice_set slots i (Some x)) ≡ put_file name x (in_order name slots)
in_order-created name slots i x is may =
    in_order-set name slots i None x is may ∙ ap (λ l. put_file name x (in_order name l)) (set-free slots i is)

-- a file's slot that becomes free, or another file, or the same one changed
pub in_order-deleted : {A : Type 0} (name : A → List ℕ) (slots : List (Option A)) (i : ℕ) (x : A) → slice_get slots i ≡ Some (Some x)
    → MayTake name slots i (name x) → in_order name (slice_set slots i None) ≡ without_file name (name x) (in_order name slots)
in_order-deleted name slots i x is may =
    sym (ap (without_file name (name x)) (in_order-out name slots i x is may)
    ∙ without-put name (name x) x (in_order name (slice_set slots i None)) refl (has_file-freed name slots i (name x) may))

pub in_order-replaced : {A : Type 0} (name : A → List ℕ) (slots : List (Option A)) (i : ℕ) (x y : A) → slice_get slots i ≡ Some (Some x)
    → MayTake name slots i (name x) → MayTake name slots i (name y)
    → in_order name (slice_set slots i (Some y)) ≡ put_file name y (without_file name (name x) (in_order name slots))
in_order-replaced name slots i x y is had may =
    in_order-set name slots i (Some x) y is may ∙ ap (put_file name y) (in_order-deleted name slots i x is had)

pub in_order-changed : {A : Type 0} (name : A → List ℕ) (slots : List (Option A)) (i : ℕ) (x : A) (f : A → A) → slice_get slots i ≡ Some (Some x)
    → MayTake name slots i (name x) → name (f x) ≡ name x
    → in_order name (slice_set slots i (Some (f x))) ≡ change_file name (name x) f (in_order name slots)
in_order-changed name slots i x f is may keeps =
    in_order-set name slots i (Some x) (f x) is (subst (MayTake name slots i) (sym keeps) may)
    ∙ sym (ap (change_file name (name x) f) (in_order-out name slots i x is may)
    ∙ change-put name (name x) f x (in_order name (slice_set slots i None)) refl keeps (has_file-freed name slots i (name x) may))

-- a file of a slot is found by its name
pub file_of-in_order : {A : Type 0} (name : A → List ℕ) (slots : List (Option A)) (i : ℕ) (x : A) → slice_get slots i ≡ Some (Some x)
    → MayTake name slots i (name x) → file_of name (name x) (in_order name slots) ≡ Some x
file_of-in_order name slots i x is may =
    ap (file_of name (name x)) (in_order-out name slots i x is may)
    ∙ file_of-put name (name x) x (in_order name (slice_set slots i None)) refl (has_file-freed name slots i (name x) may)

pub file_of-missing : {A : Type 0} (name : A → List ℕ) (slots : List (Option A)) (text : List ℕ)
    → ((j : ℕ) (x : A) → slice_get slots j ≡ Some (Some x) → name x ≡ text → ⊥) → file_of name text (in_order name slots) ≡ None
file_of-missing name slots text none = file_of-none name text (in_order name slots) (has_file-none name text slots none)

pub in_order-renamed : {A : Type 0} (name : A → List ℕ) (slots : List (Option A)) (i : ℕ) (x : A) (f : A → A) → slice_get slots i ≡ Some (Some x)
    → MayTake name slots i (name x) → MayTake name slots i (name (f x))
    → in_order name (slice_set slots i (Some (f x))) ≡ rename_file name (name x) f (in_order name slots)
in_order-renamed name slots i x f is had may =
    in_order-replaced name slots i x (f x) is had may
    ∙ sym (ap (λ o. put_some name (option_map f o) (without_file name (name x) (in_order name slots))) (file_of-in_order name slots i x is had))
