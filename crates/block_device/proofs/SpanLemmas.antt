-- The blocks of spans, each with the same state.
use Rattle.std.proofs.Common.{◌≡◌, ℕ, zero, suc, ◌+◌, ◌-◌, ◌<◌, ◌≤◌, List, [], ◌∷◌, ◌++◌, length, get_or, take, refl, sym, ◌∙◌, ap, ap₂, subst, arith, sum_by, append_assoc, length-append}
use Rattle.std.proofs.lemmas.List.{take_more}
use Rattle.std.proofs.lemmas.List.Sums.{sum_by-cons, sum_by_more_le}
use Rattle.nvm_base.specs.declared.units.Span.{Span}
use Rattle.nvm_model.specs.Numbered.{list_from}
use Rattle.nvm_model.proofs.NumberedLemmas.{length-list_from}
use Rattle.block_map.specs.declared.state.BlockState.{BlockState}
use Rattle.block_device.specs.declared.change.Change.{Change}
use Rattle.block_device.specs.Changes.{changes_in}

pub list_from-push : {A : Type 0} (f : ℕ → A) (n count : ℕ) → list_from f n (count + 1) ≡ list_from f n count ++ f (n + count) ∷ []
list_from-push f n count = subst (λ k. list_from f n k ≡ list_from f n count ++ f (n + count) ∷ []) (next count) (from f n count)
  where
    next : (n : ℕ) → suc n ≡ n + 1
    next n = omega arith

    from : {A : Type 0} (f : ℕ → A) (n count : ℕ) → list_from f n (suc count) ≡ list_from f n count ++ f (n + count) ∷ []
    from f n zero = let e : n ≡ n + 0 = omega arith in ap (λ k. f k ∷ []) e
    from f n (suc count) =
        let e : suc n + count ≡ n + suc count = omega arith in
        ap (λ xs. f n ∷ xs) (from f (suc n) count ∙ ap (λ k. list_from f (suc n) count ++ f k ∷ []) e)

-- the change of a block to that state
abbrev pub change_to : BlockState → ℕ → Change
change_to state block = record { block = block; state = state }

-- one block of a span more
pub items_more : (items before : List Change) (state : BlockState) (start block : ℕ) → start ≤ block → items ≡ before ++ list_from (change_to state) start (block - start) → items ++ change_to state block ∷ [] ≡ before ++ list_from (change_to state) start (block + 1 - start)
items_more items before state start block from is =
    let count = block - start in
    let one : block + 1 - start ≡ count + 1 = omega arith in
    let at : start + count ≡ block = omega arith in
    let f = change_to state in
    ap (λ xs. xs ++ f block ∷ []) is
    ∙ append_assoc before (list_from f start count) (f block ∷ [])
    ∙ ap (λ xs. before ++ xs) (ap (λ k. list_from f start count ++ f k ∷ []) (sym at) ∙ sym (list_from-push f start count) ∙ ap (list_from f start) (sym one))

pub items_len : (items before : List Change) (f : ℕ → Change) (start count : ℕ) → items ≡ before ++ list_from f start count → length items ≡ length before + count
items_len items before f start count is =
    ap length is ∙ length-append before (list_from f start count) ∙ ap (λ n. length before + n) (length-list_from f start count)

pub changes_in-append : (xs ys : List Span) (state : BlockState) → changes_in (xs ++ ys) state ≡ changes_in xs state ++ changes_in ys state
changes_in-append [] ys state = refl
changes_in-append (x ∷ xs) ys state =
    ap (λ cs. list_from (change_to state) x.start x.len ++ cs) (changes_in-append xs ys state)
    ∙ sym (append_assoc (list_from (change_to state) x.start x.len) (changes_in xs state) (changes_in ys state))

pub length-changes_in : (spans : List Span) (state : BlockState) → length (changes_in spans state) ≡ sum_by (λ (s : Span). s.len) spans
length-changes_in [] state = refl
length-changes_in (x ∷ xs) state =
    length-append (list_from (change_to state) x.start x.len) (changes_in xs state)
    ∙ ap₂ ◌+◌ (length-list_from (change_to state) x.start x.len) (length-changes_in xs state)
    ∙ sym (sum_by-cons (λ (s : Span). s.len) x xs)

pub changes_in-more : (spans : List Span) (state : BlockState) (i : ℕ) (d : Span) → i < length spans → changes_in (take i spans) state ++ changes_in (get_or spans i d ∷ []) state ≡ changes_in (take (i + 1) spans) state
changes_in-more spans state i d below =
    sym (changes_in-append (take i spans) (get_or spans i d ∷ []) state) ∙ ap (λ xs. changes_in xs state) (sym (take_more spans i d below))

-- what is left of the room
pub room_left : (spans : List Span) (state : BlockState) (i : ℕ) (d : Span) (items : List Change) → items ≡ changes_in (take i spans) state → i < length spans → sum_by (λ (s : Span). s.len) spans ≤ 64 → length items + (get_or spans i d).len ≤ 64
room_left spans state i d items is below few =
    let made = ap length is ∙ length-changes_in (take i spans) state in
    let sums = sum_by_more_le (λ (s : Span). s.len) spans i d below in
    omega arith
