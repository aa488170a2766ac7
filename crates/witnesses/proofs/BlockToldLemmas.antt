-- What is told of blocks: what fits it fits the question too, and what is kept fits it.
use Rattle.std.proofs.Common.{◌≡◌, ℕ, ◌+◌, ◌-◌, ◌*◌, ◌%◌, ◌<◌, ◌≤◌, ◌==◌, ◌&&◌, ◌||◌, nat_le, nat_lt, Bool, true, false, cond, not, List, ◌++◌, map, is_none, slice_index, refl, sym, ap, ◌∙◌, arith, eq-eqb}
use Rattle.std.specs.List.{list_all}
use Rattle.std.proofs.lemmas.Bool.{and_from, eqb-false, eqb-true, le-leb, le-ltb, leb-true, lt-ltb, ltb-true}
use Rattle.std.proofs.lemmas.List.Folds.{list_all-append, list_all-map}
use Rattle.nvm_model.specs.Numbered.{is_among}
use Rattle.nvm_model.specs.Storage.{Block}
use Rattle.block_sights.specs.Sights.{Sight, obstacle_seen, sight}
use Rattle.block_sights.specs.Sights.Sight.{Whole, Scar, BadLine}
use Rattle.cut_places.specs.Outcomes.Blocks.{BlockRead, BlockReply, block_fits, is_bad_line, is_scar}
use Rattle.cut_places.specs.Outcomes.Blocks.BlockReply.{Shows, Scar as AsksScar, BadLine as AsksBadLine, Refuses}
use Rattle.cut_places.specs.AskedReads.Fitting.{sight_allows, sight_fits, sight_has}
use Rattle.cut_places.specs.SightsSeen.declared.block_seen.BlockSeen.{BlockSeen}
use Rattle.cut_places.proofs.SightsSeen.ShowLemmas.{block_seen}
use Rattle.witnesses.specs.Telling.{block_reply}
use Rattle.witnesses.proofs.ListLemmas.{IsAmong, all_from, all_of, range_all, range_each}

-- a block, told as one of which reads see this
abbrev pub told_as : (BlockSeen → Sight) → BlockSeen → BlockRead
told_as seen s = record { first = s.number; count = 1; reply = block_reply s.number (seen s) }

-- block b is the only one of a read of it
pub among_own : (b : ℕ) → is_among b 1 b ≡ true
among_own b = ap (λ t. t && nat_lt b (b + 1)) (le-leb b b (omega arith)) ∙ lt-ltb b (b + 1) (omega arith)

among_other : (a b : ℕ) → (a ≡ b → ⊥) → is_among a 1 b ≡ false
among_other a b other = by_tests (nat_le a b) (nat_lt b (a + 1)) refl refl
  where
    by_tests : (s t : Bool) → nat_le a b ≡ s → nat_lt b (a + 1) ≡ t → (s && t) ≡ false
    by_tests true true low high = absurd (other (omega (arith, leb-true _ _ low, ltb-true _ _ high)))
    by_tests true false low high = refl
    by_tests false t low high = refl

module _ (b : ℕ) where
  not_lower : nat_lt b b ≡ false
  not_lower = le-ltb b b (omega arith)

  same_place : (i : ℕ) → 512 * b ≤ i → i < 512 * b + 512 → i - 512 * b ≡ i % 512
  same_place i from to = omega (arith, from, to)

  -- a block is told as it is
  tells_own : (o : Sight) → sight_allows b o b (block_reply b o) ≡ true
  tells_own (Whole bytes) =
      range_all (λ i. slice_index bytes (i - 512 * b) == slice_index bytes (i % 512)) (512 * b) 512 (λ i from to. eq-eqb _ _ (ap (slice_index bytes) (same_place i from to)))
  tells_own Scar = ap (λ t. cond t false (not (b == b) || true)) not_lower ∙ ap (λ t. not t || true) (eq-eqb b b refl)
  tells_own (BadLine line) = ap (λ t. cond t false (not (b == b) || (line == line))) not_lower ∙ ap (λ t. not t || (line == line)) (eq-eqb b b refl) ∙ eq-eqb line line refl

  -- what another block may be seen as where this one is told, any read allows that allows this one
  whole_same : (bytes others : List ℕ) → sight_has b bytes b (Whole others) ≡ true → (first : ℕ) (asked : List ℕ) → sight_has first asked b (Whole bytes) ≡ true
      → sight_has first asked b (Whole others) ≡ true
  whole_same bytes others told first asked has =
      range_all (λ i. slice_index asked (i - 512 * first) == slice_index others (i % 512)) (512 * b) 512
      (λ i from to.
      eq-eqb _ _ (eqb-true _ _ (range_each (λ i. slice_index asked (i - 512 * first) == slice_index bytes (i % 512)) (512 * b) 512 has i from to)
      ∙ sym (ap (slice_index bytes) (same_place i from to))
      ∙ eqb-true _ _ (range_each (λ i. slice_index bytes (i - 512 * b) == slice_index others (i % 512)) (512 * b) 512 told i from to)))

  is_scarred : (o : Sight) → sight_allows b o b (AsksScar b) ≡ true → o ≡ Scar
  is_scarred o allowed = by_sight o (sym (ap (λ t. cond t (is_none (obstacle_seen b o)) (not (b == b) || is_scar (obstacle_seen b o))) not_lower ∙ ap (λ t. not t || is_scar (obstacle_seen b o)) (eq-eqb b b refl)) ∙ allowed)
    where
      by_sight : (o : Sight) → is_scar (obstacle_seen b o) ≡ true → o ≡ Scar
      by_sight (Whole bytes) is = cc is
      by_sight Scar is = refl
      by_sight (BadLine line) is = cc is

  is_lost : (line : ℕ) (o : Sight) → sight_allows b o b (AsksBadLine b line) ≡ true → o ≡ BadLine line
  is_lost line o allowed =
      by_sight o (sym (ap (λ t. cond t (is_none (obstacle_seen b o)) (not (b == b) || is_bad_line line (obstacle_seen b o))) not_lower ∙ ap (λ t. not t || is_bad_line line (obstacle_seen b o)) (eq-eqb b b refl)) ∙ allowed)
    where
      by_sight : (o : Sight) → is_bad_line line (obstacle_seen b o) ≡ true → o ≡ BadLine line
      by_sight (Whole bytes) is = cc is
      by_sight Scar is = cc is
      by_sight (BadLine other) is = ap BadLine (eqb-true other line is)

  told_allows : (kept o : Sight) → sight_allows b o b (block_reply b kept) ≡ true → (first : ℕ) (reply : BlockReply) → sight_allows b kept first reply ≡ true → sight_allows b o first reply ≡ true
  told_allows (Whole bytes) (Whole others) told first (Shows asked) allowed = whole_same bytes others told first asked allowed
  told_allows (Whole bytes) (Whole others) told first (AsksScar named) allowed = allowed
  told_allows (Whole bytes) (Whole others) told first (AsksBadLine named line) allowed = allowed
  told_allows (Whole bytes) (Whole others) told first (Refuses why) allowed = refl
  told_allows (Whole bytes) Scar told first reply allowed = cc told
  told_allows (Whole bytes) (BadLine line) told first reply allowed = cc told
  told_allows Scar o told first reply allowed = ap (λ o. sight_allows b o first reply) (is_scarred o told) ∙ allowed
  told_allows (BadLine line) o told first reply allowed = ap (λ o. sight_allows b o first reply) (is_lost line o told) ∙ allowed

module _ (reads : List BlockRead) (units : List BlockSeen) (seen : BlockSeen → Sight) (fits : (s : BlockSeen) → IsAmong s units → sight_fits reads s.number (seen s) ≡ true)
    (alike : (s t : BlockSeen) → IsAmong s units → IsAmong t units → s.number ≡ t.number → seen s ≡ seen t) where
  -- all that is told
  abbrev pub tale : List BlockRead
  tale = map (told_as seen) units

  module _ (s : BlockSeen) (is : IsAmong s units) where
    abbrev allows : Sight → BlockRead → Bool
    allows o r = not (is_among r.first r.count s.number) || sight_allows s.number o r.first r.reply

    -- what is kept of a block fits all that is told
    pub kept_fits : sight_fits tale s.number (seen s) ≡ true
    kept_fits =
        list_all-map (allows (seen s)) (told_as seen) units
        ∙ all_from (λ t. allows (seen s) (told_as seen t)) units (λ t among. by_number t among (t.number == s.number) refl)
      where
        by_number : (t : BlockSeen) → IsAmong t units → (same : Bool) → (t.number == s.number) ≡ same → allows (seen s) (told_as seen t) ≡ true
        by_number t among true at =
            let number = eqb-true t.number s.number at in
            ap (λ n. not (is_among n 1 s.number) || sight_allows s.number (seen s) n (block_reply n (seen t))) number
            ∙ ap (λ o. not (is_among s.number 1 s.number) || sight_allows s.number (seen s) s.number (block_reply s.number o)) (alike t s among is number)
            ∙ ap (λ u. not u || sight_allows s.number (seen s) s.number (block_reply s.number (seen s))) (among_own s.number)
            ∙ tells_own s.number (seen s)
        by_number t among false at =
            ap (λ u. not u || sight_allows s.number (seen s) t.number (block_reply t.number (seen t))) (among_other t.number s.number (eqb-false t.number s.number at))

    -- what fits all that is told fits the question and all that is told
    as_told : (o : Sight) → sight_fits tale s.number o ≡ true → sight_fits (reads ++ tale) s.number o ≡ true
    as_told o told =
        list_all-append (allows o) reads tale
        ∙ and_from (list_all (allows o) reads) (list_all (allows o) tale)
        (all_from (allows o) reads (λ r among. by_read r (is_among r.first r.count s.number) (all_of (allows (seen s)) r reads (fits s is) among))) told
      where
        own : sight_allows s.number o s.number (block_reply s.number (seen s)) ≡ true
        own =
            sym (ap (λ u. not u || sight_allows s.number o s.number (block_reply s.number (seen s))) (among_own s.number))
            ∙ all_of (λ t. allows o (told_as seen t)) s units (sym (list_all-map (allows o) (told_as seen) units) ∙ told) is

        by_read : (r : BlockRead) (among : Bool) → (not among || sight_allows s.number (seen s) r.first r.reply) ≡ true → (not among || sight_allows s.number o r.first r.reply) ≡ true
        by_read r true allowed = told_allows s.number (seen s) o own r.first r.reply allowed
        by_read r false allowed = refl

    pub told_fits : (block : Block) → block_fits tale s.number block ≡ true → block_fits (reads ++ tale) s.number block ≡ true
    told_fits block told = block_seen s.number block (reads ++ tale) ∙ as_told (sight block) (sym (block_seen s.number block tale) ∙ told)
