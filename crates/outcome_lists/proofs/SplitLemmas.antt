-- Tests of reads of all kinds are tests of each kind, where none goes together with one of another kind.
use Rattle.std.proofs.Common.{◌≡◌, ◌&&◌, ◌||◌, not, Bool, true, false, List, [], ◌∷◌, map, refl, sym, ap, ap₂, ◌∙◌}
use Rattle.std.specs.List.{list_all}
use Rattle.std.proofs.lemmas.List.Folds.{list_all-map}
use Rattle.explorer.specs.Outcomes.Blocks.{BlockRead}
use Rattle.explorer.specs.Outcomes.Files.{FileRead}
use Rattle.explorer.specs.Outcomes.Pages.{PageRead}
use Rattle.explorer.specs.Outcomes.Seen.{Seen, block_reads, file_reads, volume_reads}
use Rattle.explorer.specs.Outcomes.Seen.Seen.{of_blocks, of_file, of_volume}
use Rattle.explorer.proofs.Witnesses.ListLemmas.{IsAmong}
use Rattle.outcome_lists.specs.Apart.{grouped}
use Rattle.outcome_lists.specs.Mixing.{same_kind}
use Rattle.outcome_lists.proofs.ApartLemmas.{all_both}
use Rattle.outcome_lists.proofs.ApartBlocksLemmas.{all_groups, all_same, and_true}
use Rattle.outcome_lists.proofs.PickedLemmas.{part_of}

-- tests that are the same, two or three at once
pub both_same : {a b c d : Bool} → a ≡ c → b ≡ d → (a && b) ≡ (c && d)
both_same one other = ap₂ (λ x y. x && y) one other

either_same : {a b c d : Bool} → a ≡ c → b ≡ d → (a || b) ≡ (c || d)
either_same one other = ap₂ (λ x y. x || y) one other

pub three_same : {a b c d e f : Bool} → a ≡ d → b ≡ e → c ≡ f → (a && (b && c)) ≡ (d && (e && f))
three_same one other third = both_same one (both_same other third)

-- Groups, item by item.
module _ {A : Type 0} where
  -- of items that are made of others
  pub grouped_map : {B : Type 0} (f : B → A) (together : A → A → Bool) (old new : A → Bool) (xs : List B)
      → grouped together old new (map f xs) ≡ grouped (λ x y. together (f x) (f y)) (λ x. old (f x)) (λ x. new (f x)) xs
  grouped_map f together old new xs =
      list_all-map (λ x. list_all (λ y. not (together x y) || old y) (map f xs) || list_all (λ y. not (together x y) || new y) (map f xs)) f xs
      ∙ all_same (λ x. list_all (λ y. not (together (f x) y) || old y) (map f xs) || list_all (λ y. not (together (f x) y) || new y) (map f xs))
      (λ x. list_all (λ y. not (together (f x) (f y)) || old (f y)) xs || list_all (λ y. not (together (f x) (f y)) || new (f y)) xs) xs
      (λ x is. either_same (list_all-map (λ y. not (together (f x) y) || old y) f xs) (list_all-map (λ y. not (together (f x) y) || new y) f xs))

  -- by tests that are the same
  pub grouped_alike : (together with : A → A → Bool) (old new was now : A → Bool) (xs : List A) → ((x y : A) → together x y ≡ with x y)
      → ((x : A) → IsAmong x xs → old x ≡ was x) → ((x : A) → IsAmong x xs → new x ≡ now x) → grouped together old new xs ≡ grouped with was now xs
  grouped_alike together with old new was now xs same olds news =
      all_same (λ x. list_all (λ y. not (together x y) || old y) xs || list_all (λ y. not (together x y) || new y) xs)
      (λ x. list_all (λ y. not (with x y) || was y) xs || list_all (λ y. not (with x y) || now y) xs) xs
      (λ x is. either_same
      (all_same (λ y. not (together x y) || old y) (λ y. not (with x y) || was y) xs (λ y among. either_same (ap not (same x y)) (olds y among)))
      (all_same (λ y. not (together x y) || new y) (λ y. not (with x y) || now y) xs (λ y among. either_same (ap not (same x y)) (news y among))))

  -- what each item passes, with the groups or in them
  module _ (together : A → A → Bool) (own : (x : A) → together x x ≡ true) (first : A → Bool) (xs : List A) where
    abbrev group : (A → Bool) → A → Bool
    group f x = list_all (λ y. not (together x y) || f y) xs

    spread : (a b c : Bool) → (not a || (b && c)) ≡ ((not a || b) && (not a || c))
    spread true b c = refl
    spread false b c = refl

    joined : (a b c : Bool) → ((a && b) || (a && c)) ≡ (a && (b || c))
    joined true b c = refl
    joined false b c = refl

    group_both : (f : A → Bool) (x : A) → group (λ y. first y && f y) x ≡ (group first x && group f x)
    group_both f x =
        all_same (λ y. not (together x y) || (first y && f y)) (λ y. (not (together x y) || first y) && (not (together x y) || f y)) xs
        (λ y is. spread (together x y) (first y) (f y))
        ∙ all_both (λ y. not (together x y) || first y) (λ y. not (together x y) || f y) xs

    pub grouped_both : (old new : A → Bool) → (list_all first xs && grouped together old new xs) ≡ grouped together (λ x. first x && old x) (λ x. first x && new x) xs
    grouped_both old new =
        ap (λ b. b && grouped together old new xs) (sym (all_groups together own first xs))
        ∙ sym (all_both (group first) (λ x. group old x || group new x) xs)
        ∙ all_same (λ x. group first x && (group old x || group new x)) (λ x. group (λ y. first y && old y) x || group (λ y. first y && new y) x) xs
        (λ x is. sym (joined (group first x) (group old x) (group new x)) ∙ sym (either_same (group_both old x) (group_both new x)))

-- a test of reads, kind by kind
to_first : (x a b : Bool) → (x && (a && b)) ≡ ((x && a) && b)
to_first true a b = refl
to_first false a b = refl

to_second : (x a b c : Bool) → (x && (a && (b && c))) ≡ (a && ((x && b) && c))
to_second true a b c = refl
to_second false true b c = refl
to_second false false b c = refl

to_third : (x a b c : Bool) → (x && (a && (b && c))) ≡ (a && (b && (x && c)))
to_third true a b c = refl
to_third false true true c = refl
to_third false true false c = refl
to_third false false b c = refl

module _ (f : Seen → Bool) where
  abbrev of_words : List PageRead → Bool
  of_words rs = list_all (λ r. f (of_volume r)) rs

  abbrev of_each_block : List BlockRead → Bool
  of_each_block rs = list_all (λ r. f (of_blocks r)) rs

  abbrev of_file_words : List FileRead → Bool
  of_file_words rs = list_all (λ r. f (of_file r)) rs

  pub by_kinds : (ss : List Seen) → list_all f ss ≡ (of_words (volume_reads ss) && (of_each_block (block_reads ss) && of_file_words (file_reads ss)))
  by_kinds [] = refl
  by_kinds (of_volume r ∷ ss) =
      ap (λ b. f (of_volume r) && b) (by_kinds ss) ∙ to_first (f (of_volume r)) (of_words (volume_reads ss)) (of_each_block (block_reads ss) && of_file_words (file_reads ss))
  by_kinds (of_blocks r ∷ ss) =
      ap (λ b. f (of_blocks r) && b) (by_kinds ss) ∙ to_second (f (of_blocks r)) (of_words (volume_reads ss)) (of_each_block (block_reads ss)) (of_file_words (file_reads ss))
  by_kinds (of_file r ∷ ss) =
      ap (λ b. f (of_file r) && b) (by_kinds ss) ∙ to_third (f (of_file r)) (of_words (volume_reads ss)) (of_each_block (block_reads ss)) (of_file_words (file_reads ss))

-- groups of reads, kind by kind
module _ (together : Seen → Seen → Bool) (beside : (s t : Seen) → same_kind (part_of s) (part_of t) ≡ false → together s t ≡ false) where
  abbrev goes : (Seen → Bool) → Seen → Seen → Bool
  goes f s t = not (together s t) || f t

  -- of reads of another kind none is in a group
  none_of : {A : Type 0} (read : A → Seen) (s : Seen) → ((x : A) → same_kind (part_of s) (part_of (read x)) ≡ false) → (f : Seen → Bool) (xs : List A)
      → list_all (λ x. goes f s (read x)) xs ≡ true
  none_of read s other f [] = refl
  none_of read s other f (x ∷ xs) =
      ap (λ b. (not b || f (read x)) && list_all (λ y. goes f s (read y)) xs) (beside s (read x) (other x)) ∙ none_of read s other f xs

  module _ (ss : List Seen) where
    word_group : (f : Seen → Bool) (r : PageRead) → list_all (goes f (of_volume r)) ss ≡ list_all (λ q. goes f (of_volume r) (of_volume q)) (volume_reads ss)
    word_group f r =
        by_kinds (goes f (of_volume r)) ss
        ∙ three_same refl (none_of of_blocks (of_volume r) (λ x. refl) f (block_reads ss)) (none_of of_file (of_volume r) (λ x. refl) f (file_reads ss))
        ∙ and_true (list_all (λ q. goes f (of_volume r) (of_volume q)) (volume_reads ss))

    block_group : (f : Seen → Bool) (r : BlockRead) → list_all (goes f (of_blocks r)) ss ≡ list_all (λ q. goes f (of_blocks r) (of_blocks q)) (block_reads ss)
    block_group f r =
        by_kinds (goes f (of_blocks r)) ss
        ∙ three_same (none_of of_volume (of_blocks r) (λ x. refl) f (volume_reads ss)) refl (none_of of_file (of_blocks r) (λ x. refl) f (file_reads ss))
        ∙ and_true (list_all (λ q. goes f (of_blocks r) (of_blocks q)) (block_reads ss))

    file_group : (f : Seen → Bool) (r : FileRead) → list_all (goes f (of_file r)) ss ≡ list_all (λ q. goes f (of_file r) (of_file q)) (file_reads ss)
    file_group f r =
        by_kinds (goes f (of_file r)) ss
        ∙ three_same (none_of of_volume (of_file r) (λ x. refl) f (volume_reads ss)) (none_of of_blocks (of_file r) (λ x. refl) f (block_reads ss)) refl

    -- so the groups of each kind are grouped for themselves
    pub grouped_by_kinds : (old new : Seen → Bool) → grouped together old new ss
        ≡ (grouped (λ r q. together (of_volume r) (of_volume q)) (λ r. old (of_volume r)) (λ r. new (of_volume r)) (volume_reads ss)
        && (grouped (λ r q. together (of_blocks r) (of_blocks q)) (λ r. old (of_blocks r)) (λ r. new (of_blocks r)) (block_reads ss)
        && grouped (λ r q. together (of_file r) (of_file q)) (λ r. old (of_file r)) (λ r. new (of_file r)) (file_reads ss)))
    grouped_by_kinds old new =
        by_kinds (λ s. list_all (goes old s) ss || list_all (goes new s) ss) ss
        ∙ three_same
        (all_same (λ r. list_all (goes old (of_volume r)) ss || list_all (goes new (of_volume r)) ss)
        (λ r. list_all (λ q. goes old (of_volume r) (of_volume q)) (volume_reads ss) || list_all (λ q. goes new (of_volume r) (of_volume q)) (volume_reads ss)) (volume_reads ss)
        (λ r is. either_same (word_group old r) (word_group new r)))
        (all_same (λ r. list_all (goes old (of_blocks r)) ss || list_all (goes new (of_blocks r)) ss)
        (λ r. list_all (λ q. goes old (of_blocks r) (of_blocks q)) (block_reads ss) || list_all (λ q. goes new (of_blocks r) (of_blocks q)) (block_reads ss)) (block_reads ss)
        (λ r is. either_same (block_group old r) (block_group new r)))
        (all_same (λ r. list_all (goes old (of_file r)) ss || list_all (goes new (of_file r)) ss)
        (λ r. list_all (λ q. goes old (of_file r) (of_file q)) (file_reads ss) || list_all (λ q. goes new (of_file r) (of_file q)) (file_reads ss)) (file_reads ss)
        (λ r is. either_same (file_group old r) (file_group new r)))
