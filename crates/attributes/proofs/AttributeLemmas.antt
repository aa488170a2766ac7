-- Attributes in a table that is made of parts.
use Rattle.std.proofs.Common.{◌≡◌, ℕ, List, [], ◌∷◌, ◌++◌, Option, Some, true, false, Bool, if◌then◌else◌, refl, sym, ap, ◌∙◌}
use Rattle.std.specs.Option.{option_or}
use Rattle.std.specs.Str.{bytes_eq}
use Rattle.attributes.specs.Attributes.{Attribute, value_in}

or_else : (b : Bool) (value : ℕ) (rest other : Option ℕ) → (if b then Some value else option_or rest other) ≡ option_or (if b then Some value else rest) other
or_else true value rest other = refl
or_else false value rest other = refl

pub value_in-append : (xs ys : List Attribute) (name : List ℕ) → value_in (xs ++ ys) name ≡ option_or (value_in xs name) (value_in ys name)
value_in-append [] ys name = refl
value_in-append (x ∷ xs) ys name =
    ap (λ rest. if bytes_eq name x.name then Some x.value else rest) (value_in-append xs ys name)
    ∙ or_else (bytes_eq name x.name) x.value (value_in xs name) (value_in ys name)

-- a table of one more part
pub value_in-parts : (xs ys : List Attribute) (name : List ℕ) (first second both : Option ℕ) → first ≡ value_in xs name → second ≡ value_in ys name → both ≡ option_or first second → both ≡ value_in (xs ++ ys) name
value_in-parts xs ys name first second both p q r =
    r ∙ ap (λ o. option_or o second) p ∙ ap (option_or (value_in xs name)) q ∙ sym (value_in-append xs ys name)
