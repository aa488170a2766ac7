-- How large the words after a command's name can be.
use Rattle.std.proofs.Common.{◌≡◌, ◌&&◌, ℕ, ◌^◌, ◌<◌, ◌≤◌, Bool, true, false, nat_lt, nat_le, List, [], ◌∷◌, length, Option, Some, None, Result, Ok, Err, option_map, option_and_then, if◌then◌else◌, refl, sym, ◌∙◌, subst, ap, rules, tests}
use Rattle.nvm_base.specs.Numbers.{digits_after, number_of}
use Rattle.nvm_base.specs.Names.{is_name, name_of}
use Rattle.nvm_base.specs.declared.files.Kind.{Kind}
use Rattle.nvm_base.specs.declared.reading.TextFault.{TextFault}
use Rattle.nvm_base.specs.Data.{data_within}
use Rattle.script_text.proofs.DataLemmas.{data_of-some, data_within-ok}
use Rattle.script_text.specs.Action.{Action}
use Rattle.script_text.specs.Operands.{of_both, of_data, bare_action, number_action, span_action, name_action, names_action, sized_action, data_action, named_action, numbered_action, kind_of, kind_action, placed_action}
use Rattle.script_text.specs.Parsing.{InBounds}

-- what is asked for is in bounds
abbrev pub Keeps : Option Action → Type 0
Keeps asks = (action : Action) → asks ≡ Some action → InBounds action

pub Keeps-none : Keeps None
Keeps-none action e = absurd (cc)

-- one or the other
pub Keeps-cond : (b : Bool) (o p : Option Action) → Keeps o → Keeps p → Keeps (if b then o else p)
Keeps-cond true o p left right = left
Keeps-cond false o p left right = right

-- a number is below 2 ^ 32
pub number_of-below : (text : List ℕ) (n : ℕ) → number_of text ≡ Some n → n < 2 ^ 32
unfolding number_of
number_of-below text n e = go (nat_le 1 (length text) && nat_le (length text) 10) (digits_after 0 text) e
  where
    fits : (m : ℕ) (b : Bool) → nat_lt m (2 ^ 32) ≡ b → (if b then Some m else None) ≡ Some n → n < 2 ^ 32
    fits m true t e = let same : m ≡ n = cc in search (rules, tests)
    fits m false t e = absurd (cc)

    go : (b : Bool) (o : Option ℕ) → elim b [ true ↦ option_and_then (λ m. if nat_lt m (2 ^ 32) then Some m else None) o | false ↦ None ] ≡ Some n → n < 2 ^ 32
    go true None e = absurd (cc)
    go true (Some m) e = fits m (nat_lt m (2 ^ 32)) refl e
    go false o e = absurd (cc)

-- two numbers or names of text
of_both-bounds : {A B : Type 0} (P : A → Type 0) (Q : B → Type 0) (make : A → B → Action) → ((a : A) (b : B) → P a → Q b → InBounds (make a b)) → (m : Option A) (n : Option B) (action : Action) → ((a : A) → m ≡ Some a → P a) → ((b : B) → n ≡ Some b → Q b) → of_both make m n ≡ Some action → InBounds action
of_both-bounds P Q make small None n action left right e = absurd (cc)
of_both-bounds P Q make small (Some a) None action left right e = absurd (cc)
of_both-bounds P Q make small (Some a) (Some b) action left right e =
    let same : make a b ≡ action = cc in
    subst InBounds same (small a b (left a refl) (right b refl))

abbrev IsBelow : ℕ → Type 0
IsBelow n = n < 2 ^ 32

pub span_action-bounds : (make : ℕ → ℕ → Action) → ((a b : ℕ) → a < 2 ^ 32 → b < 2 ^ 32 → InBounds (make a b)) → (words : List (List ℕ)) (action : Action) → span_action make words ≡ Some action → InBounds action
span_action-bounds make small [] action e = absurd (cc)
span_action-bounds make small (x ∷ []) action e = absurd (cc)
span_action-bounds make small (x ∷ y ∷ []) action e = of_both-bounds IsBelow IsBelow make small (number_of x) (number_of y) action (number_of-below x) (number_of-below y) e
span_action-bounds make small (x ∷ y ∷ z ∷ more) action e = absurd (cc)

-- a name is a name of a file
abbrev pub IsName : List ℕ → Type 0
IsName name = is_name name ≡ true

name_of-name : (text name : List ℕ) → name_of text ≡ Some name → IsName name
name_of-name text name e = go (is_name text) refl e
  where
    go : (b : Bool) → is_name text ≡ b → (if b then Some text else None) ≡ Some name → IsName name
    go true good e = let same : text ≡ name = cc in subst IsName same good
    go false good e = absurd (cc)

-- one name, two, a name and a number
pub name_action-bounds : (make : List ℕ → Action) → ((a : List ℕ) → IsName a → InBounds (make a)) → (words : List (List ℕ)) (action : Action) → name_action make words ≡ Some action → InBounds action
name_action-bounds make good [] action e = absurd (cc)
name_action-bounds make good (x ∷ []) action e = go (name_of x) (name_of-name x) e
  where
    go : (m : Option (List ℕ)) → ((a : List ℕ) → m ≡ Some a → IsName a) → option_map make m ≡ Some action → InBounds action
    go None is e = absurd (cc)
    go (Some a) is e = let same : make a ≡ action = cc in subst InBounds same (good a (is a refl))
name_action-bounds make good (x ∷ y ∷ more) action e = absurd (cc)

pub names_action-bounds : (make : List ℕ → List ℕ → Action) → ((a b : List ℕ) → IsName a → IsName b → InBounds (make a b)) → (words : List (List ℕ)) (action : Action) → names_action make words ≡ Some action → InBounds action
names_action-bounds make good [] action e = absurd (cc)
names_action-bounds make good (x ∷ []) action e = absurd (cc)
names_action-bounds make good (x ∷ y ∷ []) action e = of_both-bounds IsName IsName make good (name_of x) (name_of y) action (name_of-name x) (name_of-name y) e
names_action-bounds make good (x ∷ y ∷ z ∷ more) action e = absurd (cc)

pub sized_action-bounds : (make : List ℕ → ℕ → Action) → ((a : List ℕ) (b : ℕ) → IsName a → b < 2 ^ 32 → InBounds (make a b)) → (words : List (List ℕ)) (action : Action) → sized_action make words ≡ Some action → InBounds action
sized_action-bounds make small [] action e = absurd (cc)
sized_action-bounds make small (x ∷ []) action e = absurd (cc)
sized_action-bounds make small (x ∷ y ∷ []) action e = of_both-bounds IsName IsBelow make small (name_of x) (number_of y) action (name_of-name x) (number_of-below y) e
sized_action-bounds make small (x ∷ y ∷ z ∷ more) action e = absurd (cc)

-- a number and DATA
abbrev pub DataInBounds : (ℕ → List ℕ → Action) → Type 0
DataInBounds make = (a : ℕ) (bytes : List ℕ) → a < 2 ^ 32 → 0 < length bytes → length bytes ≤ 65536 → InBounds (make a bytes)

of_data-bounds : (make : ℕ → List ℕ → Action) → DataInBounds make → (x text : List ℕ) (action : Action) → of_data make (number_of x) (data_within 65536 text) ≡ Some action → InBounds action
of_data-bounds make small x text action e = go (number_of x) (data_within 65536 text) refl refl e
  where
    go : (m : Option ℕ) (r : Result (List ℕ) TextFault) → number_of x ≡ m → data_within 65536 text ≡ r → of_data make m r ≡ Some action → InBounds action
    go None r is also e = absurd (cc)
    go (Some a) (Err fault) is also e = absurd (cc)
    go (Some a) (Ok bytes) is also e =
        let same : make a bytes ≡ action = cc in
        let read = data_within-ok 65536 text bytes also in
        subst InBounds same (small a bytes (number_of-below x a is) (data_of-some text bytes read.0) read.1)

pub data_action-bounds : (make : ℕ → List ℕ → Action) → DataInBounds make → (words : List (List ℕ)) (action : Action) → data_action make words ≡ Some action → InBounds action
data_action-bounds make small [] action e = absurd (cc)
data_action-bounds make small (x ∷ []) action e = absurd (cc)
data_action-bounds make small (x ∷ text ∷ []) action e = of_data-bounds make small x text action e
data_action-bounds make small (x ∷ text ∷ z ∷ more) action e = absurd (cc)

-- nothing
pub bare_action-bounds : (asked : Action) → InBounds asked → (words : List (List ℕ)) (action : Action) → bare_action asked words ≡ Some action → InBounds action
bare_action-bounds asked small [] action e = let same : asked ≡ action = cc in subst InBounds same small
bare_action-bounds asked small (x ∷ words) action e = absurd (cc)

-- one number
pub number_action-bounds : (make : ℕ → Action) → ((a : ℕ) → a < 2 ^ 32 → InBounds (make a)) → (words : List (List ℕ)) (action : Action) → number_action make words ≡ Some action → InBounds action
number_action-bounds make small [] action e = absurd (cc)
number_action-bounds make small (x ∷ []) action e = go (number_of x) refl e
  where
    go : (m : Option ℕ) → number_of x ≡ m → option_map make m ≡ Some action → InBounds action
    go None is e = absurd (cc)
    go (Some a) is e = let same : make a ≡ action = cc in subst InBounds same (small a (number_of-below x a is))
number_action-bounds make small (x ∷ y ∷ more) action e = absurd (cc)

-- a name, and what the words after it ask for
pub named_action-bounds : (more : List ℕ → List (List ℕ) → Option Action) → ((name : List ℕ) (words : List (List ℕ)) → IsName name → Keeps (more name words)) → (words : List (List ℕ)) → Keeps (named_action more words)
named_action-bounds more small [] action e = absurd (cc)
named_action-bounds more small (x ∷ words) action e = go (name_of x) (name_of-name x) e
  where
    go : (m : Option (List ℕ)) → ((a : List ℕ) → m ≡ Some a → IsName a) → option_and_then (λ name. more name words) m ≡ Some action → InBounds action
    go None is e = absurd (cc)
    go (Some a) is e = small a words (is a refl) action e

-- a number, and what the words after it ask for
pub numbered_action-bounds : (more : ℕ → List (List ℕ) → Option Action) → ((n : ℕ) (words : List (List ℕ)) → n < 2 ^ 32 → Keeps (more n words)) → (words : List (List ℕ)) → Keeps (numbered_action more words)
numbered_action-bounds more small [] action e = absurd (cc)
numbered_action-bounds more small (x ∷ words) action e = go (number_of x) (number_of-below x) e
  where
    go : (m : Option ℕ) → ((a : ℕ) → m ≡ Some a → a < 2 ^ 32) → option_and_then (λ n. more n words) m ≡ Some action → InBounds action
    go None is e = absurd (cc)
    go (Some a) is e = small a words (is a refl) action e

-- a mapping's kind
pub kind_action-bounds : (make : Kind → Action) → ((kind : Kind) → InBounds (make kind)) → (words : List (List ℕ)) → Keeps (kind_action make words)
kind_action-bounds make small [] action e = absurd (cc)
kind_action-bounds make small (x ∷ []) action e = go (kind_of x) e
  where
    go : (m : Option Kind) → option_map make m ≡ Some action → InBounds action
    go None e = absurd (cc)
    go (Some kind) e = let same : make kind ≡ action = cc in subst InBounds same (small kind)
kind_action-bounds make small (x ∷ y ∷ more) action e = absurd (cc)

-- a byte of a file or of the volume
pub placed_action-bounds : (in_file : List ℕ → ℕ → Action) (in_volume : ℕ → Action) → ((a : List ℕ) (b : ℕ) → IsName a → b < 2 ^ 32 → InBounds (in_file a b))
    → ((a : ℕ) → a < 2 ^ 32 → InBounds (in_volume a)) → (words : List (List ℕ)) → Keeps (placed_action in_file in_volume words)
placed_action-bounds in_file in_volume named small [] = Keeps-none
placed_action-bounds in_file in_volume named small (x ∷ words) =
    Keeps-cond _ _ _ (sized_action-bounds in_file named words) (Keeps-cond _ _ _ (number_action-bounds in_volume small words) Keeps-none)

-- the first word is this name, or this number
pub named_action-first : (more : List ℕ → List (List ℕ) → Option Action) (words : List (List ℕ)) (x : List ℕ) (rest : List (List ℕ)) (name : List ℕ) → words ≡ x ∷ rest → Some name ≡ name_of x → named_action more words ≡ more name rest
named_action-first more words x rest name first is = ap (named_action more) first ∙ ap (option_and_then (λ a. more a rest)) (sym is)

pub numbered_action-first : (more : ℕ → List (List ℕ) → Option Action) (words : List (List ℕ)) (x : List ℕ) (rest : List (List ℕ)) (n : ℕ) → words ≡ x ∷ rest → Some n ≡ number_of x → numbered_action more words ≡ more n rest
numbered_action-first more words x rest n first is = ap (numbered_action more) first ∙ ap (option_and_then (λ a. more a rest)) (sym is)
