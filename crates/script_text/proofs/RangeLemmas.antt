-- Ranges that are read one after another, and their bytes.
use Rattle.std.proofs.Common.{◌≡◌, ℕ, ◌-◌, ◌<◌, ◌≤◌, Bool, true, false, nat_le, List, [], ◌∷◌, ◌++◌, length, Option, Some, None, option_map, if◌then◌else◌, refl, arith, rules, tests, append-nil, append_assoc, length-append}
use Rattle.nvm_base.specs.declared.units.Span.{Span}
use Rattle.script_text.specs.Operands.{fitting, with_range}

-- ranges and bytes before others
abbrev pub before : List Span → List ℕ → Option (List Span × List ℕ) → Option (List Span × List ℕ)
before ranges bytes more = option_map (λ p. (ranges ++ p.0, bytes ++ p.1)) more

-- one range more was read
pub before-more : (ranges : List Span) (bytes more : List ℕ) (start : ℕ) (rest : Option (List Span × List ℕ)) → before ranges bytes (with_range (Some start) (Some more) rest) ≡ before (ranges ++ record { start = start; len = length more } ∷ []) (bytes ++ more) rest
before-more ranges bytes more start None = refl
before-more ranges bytes more start (Some p) =
    let spans = append_assoc ranges (record { start = start; len = length more } ∷ []) p.0 in
    let all = append_assoc bytes more p.1 in
    rw (spans, all) refl

-- all were read
pub before-all : (ranges : List Span) (bytes : List ℕ) → length bytes ≤ 65536 → fitting 65536 (before ranges bytes (Some ([], []))) ≡ Some (ranges, bytes)
before-all ranges bytes most =
    let fits : nat_le (length bytes) 65536 ≡ true = search (rules, tests) in
    rw (append-nil ranges, append-nil bytes, fits) refl

-- the others do not fit behind those that were read
pub before-over : (ranges : List Span) (bytes : List ℕ) (more : Option (List Span × List ℕ)) → length bytes ≤ 65536 → fitting (65536 - length bytes) more ≡ None → fitting 65536 (before ranges bytes more) ≡ None
before-over ranges bytes None most e = refl
before-over ranges bytes (Some p) most e = go (nat_le (length p.1) (65536 - length bytes)) refl e
  where
    go : (b : Bool) → nat_le (length p.1) (65536 - length bytes) ≡ b → (if b then Some p else None) ≡ None → fitting 65536 (before ranges bytes (Some p)) ≡ None
    go true t e = absurd (cc)
    go false t e =
        let over : 65536 - length bytes < length p.1 = search (rules, tests) in
        let count : 65536 < length (bytes ++ p.1) = omega (arith, length-append bytes p.1) in
        let no : nat_le (length (bytes ++ p.1)) 65536 ≡ false = search (rules, tests) in
        rw no refl
