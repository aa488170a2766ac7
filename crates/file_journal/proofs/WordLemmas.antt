-- The words of changes, and what they make of others.
use Rattle.std.proofs.Common.{◌≡◌, ◌⊎◌, inl, inr, ℕ, zero, suc, ◌+◌, ◌<◌, ◌≤◌, ◌==◌, ◌||◌, Bool, true, false, List, [], ◌∷◌, ◌++◌, Option, Some, None, IsTrue, length, get_or, if◌then◌else◌, refl, sym, ◌∙◌, ap, ap₂, arith}
use Rattle.std.proofs.lemmas.Bool.{cases_eq, eq-eqb, ne_eqb}
use Rattle.std.proofs.lemmas.List.{length-append, length-map}
use Rattle.word_tables.specs.declared.geometry.Geometry.{Geometry}
use Rattle.word_tables.specs.Words.{place, of_file_page, of_inode}
use Rattle.word_log.specs.Changes.{changed, lists, IsDistinct}
use Rattle.word_log.proofs.ChangeLemmas.{lists_not}
use Rattle.page_table.specs.Pages.{word_of}
use Rattle.nvm_base.specs.declared.files.FileEntry.{FileEntry}
use Rattle.file_journal.specs.Changes.{change_words, numbered, slot_words, switch_words, unit_for}

pub changed-append : (xs ys : List (ℕ × ℕ)) (w : ℕ → ℕ) (p : ℕ) → changed (xs ++ ys) w p ≡ changed xs (changed ys w) p
changed-append [] ys w p = refl
changed-append (x ∷ xs) ys w p = ap (λ v. if x.0 == p then x.1 else v) (changed-append xs ys w p)

pub lists-append : (xs ys : List (ℕ × ℕ)) (p : ℕ) → lists (xs ++ ys) p ≡ (lists xs p || lists ys p)
lists-append [] ys p = refl
lists-append (x ∷ xs) ys p =
    elim (x.0 == p) as (λ b. (b || lists (xs ++ ys) p) ≡ ((b || lists xs p) || lists ys p)) [ true ↦ refl | false ↦ lists-append xs ys p ]

-- a word that is listed in two lists together is listed in one of them
or_true : (a b : Bool) → IsTrue (a || b) → IsTrue a ⊎ IsTrue b
or_true true b h = inl refl
or_true false b h = inr h

pub listed_in : (xs ys : List (ℕ × ℕ)) (p : ℕ) → IsTrue (lists (xs ++ ys) p) → IsTrue (lists xs p) ⊎ IsTrue (lists ys p)
listed_in xs ys p h = or_true (lists xs p) (lists ys p) (sym (lists-append xs ys p) ∙ h)

-- two lists that list no word both
pub distinct-append : (xs ys : List (ℕ × ℕ)) → IsDistinct xs → IsDistinct ys → ((p : ℕ) → IsTrue (lists xs p) → lists ys p ≡ false) → IsDistinct (xs ++ ys)
distinct-append [] ys one other apart = other
distinct-append (x ∷ xs) ys one other apart = (
  lists-append xs ys x.0 ∙ ap₂ ◌||◌ one.0 (apart x.0 (ap (λ b. b || lists xs x.0) (eq-eqb x.0 x.0 refl))),
  distinct-append xs ys one.1 other (λ p h. apart p (listed_later x xs p h)),
)
  where
    listed_later : (x : ℕ × ℕ) (xs : List (ℕ × ℕ)) (p : ℕ) → IsTrue (lists xs p) → IsTrue (x.0 == p || lists xs p)
    listed_later x xs p h = elim (x.0 == p) as (λ b. IsTrue (b || lists xs p)) [ true ↦ refl | false ↦ h ]

-- words that follow each other
pub numbered-out : (p : ℕ) (vs : List ℕ) (q : ℕ) → (q < p) ⊎ (p + length vs ≤ q) → lists (numbered p vs) q ≡ false
numbered-out p [] q out = refl
numbered-out p (v ∷ vs) q out =
    let ne : p ≡ q → ⊥ = λ same. elim out as (λ _. ⊥) [ inl low ↦ omega arith | inr high ↦ omega arith ] in
    let later : (q < suc p) ⊎ (suc p + length vs ≤ q) = elim out [ inl low ↦ inl (omega arith) | inr high ↦ inr (omega arith) ] in
    ap (λ b. b || lists (numbered (suc p) vs) q) (ne_eqb p q ne) ∙ numbered-out (suc p) vs q later

pub numbered-within : (p : ℕ) (vs : List ℕ) (q : ℕ) → IsTrue (lists (numbered p vs) q) → (p ≤ q) × (q < p + length vs)
numbered-within p [] q h = absurd (lists_not false refl h)
numbered-within p (v ∷ vs) q h =
    elim (cases_eq p q) as (λ _. (p ≤ q) × (q < p + length (v ∷ vs))) [
      | inl same ↦ (omega arith, omega arith)
      | inr other ↦
          let later = numbered-within (suc p) vs q (sym (ap (λ b. b || lists (numbered (suc p) vs) q) (ne_eqb p q other)) ∙ h) in
          (omega arith, omega arith)
    ]

pub numbered-distinct : (p : ℕ) (vs : List ℕ) → IsDistinct (numbered p vs)
numbered-distinct p [] = tt
numbered-distinct p (v ∷ vs) = (numbered-out (suc p) vs p (inl (omega arith)), numbered-distinct (suc p) vs)

pub numbered-at : (p : ℕ) (vs : List ℕ) (w : ℕ → ℕ) (k : ℕ) → k < length vs → changed (numbered p vs) w (p + k) ≡ get_or vs k 0
numbered-at p [] w k below = absurd (omega arith)
numbered-at p (v ∷ vs) w zero below =
    let e : p ≡ p + zero = omega arith in
    ap (λ b. if b then v else changed (numbered (suc p) vs) w (p + zero)) (eq-eqb p (p + zero) e)
numbered-at p (v ∷ vs) w (suc k) below =
    let ne : p ≡ p + suc k → ⊥ = λ same. omega arith in
    let e : p + suc k ≡ suc p + k = omega arith in
    ap (λ b. if b then v else changed (numbered (suc p) vs) w (p + suc k)) (ne_eqb p (p + suc k) ne)
    ∙ ap (changed (numbered (suc p) vs) w) e
    ∙ numbered-at (suc p) vs w k (omega arith)

pub length-numbered : (p : ℕ) (vs : List ℕ) → length (numbered p vs) ≡ length vs
length-numbered p [] = refl
length-numbered p (v ∷ vs) = ap suc (length-numbered (suc p) vs)

pub numbered-append : (p q : ℕ) (xs ys : List ℕ) → p + length xs ≡ q → numbered p (xs ++ ys) ≡ numbered p xs ++ numbered q ys
numbered-append p q [] ys at = let e : p ≡ q = omega arith in ap (λ n. numbered n ys) e
numbered-append p q (x ∷ xs) ys at = ap (λ cs. (p, x) ∷ cs) (numbered-append (suc p) q xs ys (omega arith))

-- words of switches
module _ (geo : Geometry) (inode : ℕ) where
  same_place : (a b : ℕ) → (place geo (of_file_page inode a) == place geo (of_file_page inode b)) ≡ (a == b)
  same_place a b =
      elim (cases_eq a b) as (λ _. (place geo (of_file_page inode a) == place geo (of_file_page inode b)) ≡ (a == b)) [
        | inl same ↦ eq-eqb _ _ (ap (λ k. place geo (of_file_page inode k)) same) ∙ sym (eq-eqb a b same)
        | inr other ↦ ne_eqb _ _ (λ e. other (omega arith)) ∙ sym (ne_eqb a b other)
      ]

  pub switch-at : (switches : List (ℕ × Option ℕ)) (w : ℕ → ℕ) (page : ℕ) (old : Option ℕ) → w (place geo (of_file_page inode page)) ≡ word_of old → changed (switch_words geo inode switches) w (place geo (of_file_page inode page)) ≡ word_of (unit_for switches page old)
  switch-at [] w page old was = was
  switch-at (c ∷ cs) w page old was =
      let p = place geo (of_file_page inode page) in
      ap (λ b. if b then word_of c.1 else changed (switch_words geo inode cs) w p) (same_place c.0 page)
      ∙ elim (c.0 == page) as (λ b. (if b then word_of c.1 else changed (switch_words geo inode cs) w p) ≡ word_of (if b then c.1 else unit_for cs page old)) [
        | true ↦ refl
        | false ↦ switch-at cs w page old was
      ]

  -- each of the listed words is that of a page that is switched
  pub switch-listed : (switches : List (ℕ × Option ℕ)) (p : ℕ) → IsTrue (lists (switch_words geo inode switches) p) → (i : ℕ) × (i < length switches) × (p ≡ place geo (of_file_page inode (get_or switches i (0, None)).0))
  switch-listed [] p h = absurd (lists_not false refl h)
  switch-listed (c ∷ cs) p h =
      elim (cases_eq (place geo (of_file_page inode c.0)) p) as (λ _. (i : ℕ) × (i < suc (length cs)) × (p ≡ place geo (of_file_page inode (get_or (c ∷ cs) i (0, None)).0))) [
        | inl same ↦ (0, omega arith, sym same)
        | inr other ↦
            let later = switch-listed cs p (sym (ap (λ b. b || lists (switch_words geo inode cs) p) (ne_eqb _ _ other)) ∙ h) in
            (suc later.0, omega (arith, later.1), later.2)
      ]

-- the words of a slot are few
pub slot_words_few : (slot : Option FileEntry) → (1 ≤ length (slot_words slot)) × (length (slot_words slot) ≤ 5)
slot_words_few None = (omega arith, omega arith)
slot_words_few (Some file) = (omega arith, omega arith)

pub change_words_few : (geo : Geometry) (inode : ℕ) (slot : Option FileEntry) (switches : List (ℕ × Option ℕ)) (words : List (ℕ × ℕ)) → words ≡ change_words geo inode slot switches → length words ≤ 5 + length switches
change_words_few geo inode slot switches words is =
    let p = place geo (of_inode inode 0) in
    let more = switch_words geo inode switches in
    let two : length more ≡ length switches = length-map switches _ in
    omega (arith, ap length is, length-append (numbered p (slot_words slot)) more, length-numbered p (slot_words slot), (slot_words_few slot).1, two)
