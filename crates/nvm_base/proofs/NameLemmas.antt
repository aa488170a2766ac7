-- How names are kept.
use Rattle.std.proofs.Common.{◌≡◌, ◌==◌, ◌&&◌, ℕ, zero, suc, true, List, [], ◌∷◌, Some, None, ◌++◌, length, take, drop, replicate, position, cond, not, refl, if◌then◌else◌, sym, ap, ◌∙◌, inl, inr}
use Rattle.std.specs.List.{position_or_len}
use Rattle.std.proofs.lemmas.List.{drop-replicate, take_all}
use Rattle.std.proofs.lemmas.Bool.{cases_lt, cases_Bool, lt-ltb, le-ltb, and_parts}
use Rattle.std.proofs.lemmas.Option.{same_Some}
use Rattle.std.proofs.Math.Seq.{take-append_seam}
use Rattle.std.proofs.lemmas.List.Sums.{take_while-cons}
use Rattle.std.proofs.lemmas.Slice.Eq.{bytes_eq-Decides}
use Rattle.std.proofs.Math.Dec.{eqb-suc-zero}
use Rattle.std.specs.List.{list_all}
use Rattle.std.specs.Str.{bytes_eq}
use Rattle.nvm_base.specs.Names.{is_name, is_name_byte, padded, text_in, name_in, KeepsName}

pub keeps_name : (text : List ℕ) → is_name text ≡ true → KeepsName (text ++ drop (length text) (replicate 32 0)) (length text)
keeps_name text good =
    let whole = take-append_seam text (drop (length text) (replicate 32 0)) in
    record {
      name = ap is_name whole ∙ good;
      size = ap length whole;
      zeros = ap padded whole ∙ ap (λ rest. text ++ rest) (sym (drop-replicate (length text) 32 0));
    }

module _ (bytes : List ℕ) where
  pub text-before : (len : ℕ) → position (λ c. c == 0) bytes ≡ Some len → take len bytes ≡ text_in bytes
  text-before len is =
      elim (cases_lt (position_or_len (λ c. c == 0) bytes) (length bytes)) [
        | inl low ↦
            let found = ap (λ b. cond b (Some (position_or_len (λ c. c == 0) bytes)) None) (lt-ltb _ _ low) in
            ap (λ n. take n bytes) (same_Some _ _ (sym is ∙ found))
        | inr high ↦
            let none = ap (λ b. cond b (Some (position_or_len (λ c. c == 0) bytes)) None) (le-ltb _ _ high) in
            absurd (some_none (sym is ∙ none))
      ]
    where
      some_none : {n : ℕ} → Some n ≡ None → ⊥
      some_none same = cc

  pub text-whole : position (λ c. c == 0) bytes ≡ None → bytes ≡ text_in bytes
  text-whole is =
      elim (cases_lt (position_or_len (λ c. c == 0) bytes) (length bytes)) [
        | inl low ↦
            let found = ap (λ b. cond b (Some (position_or_len (λ c. c == 0) bytes)) None) (lt-ltb _ _ low) in
            absurd (none_some (sym is ∙ found))
        | inr high ↦ sym (take_all _ bytes high)
      ]
    where
      none_some : {n : ℕ} → None ≡ Some n → ⊥
      none_some same = cc

no_zero : (c : ℕ) → is_name_byte c ≡ true → not (c == 0) ≡ true
no_zero zero good = cc
no_zero (suc c) good = ap not (eqb-suc-zero c)

text_in-zeros : (n : ℕ) → text_in (replicate n 0) ≡ []
text_in-zeros zero = refl
text_in-zeros (suc n) = take_while-cons (λ c. not (c == 0)) 0 (replicate n 0)

text_in-append : (text : List ℕ) (n : ℕ) → list_all is_name_byte text ≡ true → text_in (text ++ replicate n 0) ≡ text
text_in-append [] n good = text_in-zeros n
text_in-append (c ∷ text) n good =
    take_while-cons (λ c. not (c == 0)) c (text ++ replicate n 0)
    ∙ ap (λ b. cond b (c ∷ text_in (text ++ replicate n 0)) []) (no_zero c (and_parts _ _ good).0)
    ∙ ap (λ t. c ∷ t) (text_in-append text n (and_parts _ _ good).1)

-- a padded name is read back
pub name_in-padded : (text : List ℕ) → is_name text ≡ true → name_in (padded text) ≡ Some text
name_in-padded text good =
    ap (λ t. if is_name t && bytes_eq (padded t) (padded text) then Some t else None) (text_in-append text _ (and_parts _ _ good).1)
    ∙ ap (λ b. if b && bytes_eq (padded text) (padded text) then Some text else None) good
    ∙ ap (λ b. if b then Some text else None) ((bytes_eq-Decides (padded text) (padded text)).1 refl)

-- a name that is read is padded to these bytes
pub padded-name_in : (bytes name : List ℕ) → name_in bytes ≡ Some name → (padded name ≡ bytes) × (is_name name ≡ true)
padded-name_in bytes name found =
    elim (cases_Bool (is_name (text_in bytes) && bytes_eq (padded (text_in bytes)) bytes)) [
      | inl right ↦
          let same : text_in bytes ≡ name = same_Some _ _ (sym (ap (λ b. if b then Some (text_in bytes) else None) right) ∙ found) in
          let parts = and_parts _ _ right in
          (ap padded (sym same) ∙ (bytes_eq-Decides (padded (text_in bytes)) bytes).0 parts.1, ap is_name (sym same) ∙ parts.0)
      | inr wrong ↦ absurd (none_some (sym (ap (λ b. if b then Some (text_in bytes) else None) wrong) ∙ found))
    ]
  where
    none_some : {A : Type 0} {x : A} → None ≡ Some x → ⊥
    none_some same = cc
