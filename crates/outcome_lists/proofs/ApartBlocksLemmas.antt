-- A look of several blocks is shown where each of them alone is, or each group of them old together or new together.
use Rattle.std.proofs.Common.{◌≡◌, inl, inr, ℕ, ◌+◌, ◌==◌, ◌&&◌, ◌||◌, nat_le, nat_lt, Bool, true, false, not, Option, Some, None, List, [], ◌∷◌, ◌++◌, refl, sym, ap, subst, ◌∙◌, arith}
use Rattle.std.specs.List.{list_all, range_with_len}
use Rattle.std.proofs.lemmas.Bool.{and_from, and_parts, eq-eqb, eqb-true, leb-true, ltb-true, or_right}
use Rattle.nvm_model.specs.Blocks.{nth}
use Rattle.nvm_model.specs.Numbered.{is_among}
use Rattle.nvm_model.specs.Storage.{Block}
use Rattle.script_text.specs.Action.{Action}
use Rattle.explorer.specs.MachineModel.Commands.{meaning}
use Rattle.explorer.specs.MachineModel.Meaning.{BlocksLeft}
use Rattle.explorer.specs.MachineModel.Meaning.BlocksLeft.{Same, Either, Mixed}
use Rattle.explorer.specs.Outcomes.Blocks.{BlockRead, BlockReply, all_numbers_read, allows, block_fits, numbers_read}
use Rattle.explorer.specs.Outcomes.Blocks.BlockReply.{Shows, Scar, BadLine, Refuses}
use Rattle.explorer.specs.Outcomes.Left.{blocks_may_pass, blocks_pass}
use Rattle.explorer.proofs.CutPlaces.AllLemmas.{same_test}
use Rattle.explorer.proofs.Witnesses.ListLemmas.{IsAmong, all_from, all_of}
use Rattle.outcome_lists.specs.Apart.{grouped}
use Rattle.outcome_lists.specs.ApartBlocks.{AreDistinctBlocks, AreOfOneBlock, IsOfOneBlock, IsSight, blocks_apart, blocks_shown_apart, is_same_block, shows_block}

-- tests that each item passes alike
pub all_same : {A : Type 0} (f g : A → Bool) (xs : List A) → ((x : A) → IsAmong x xs → f x ≡ g x) → list_all f xs ≡ list_all g xs
all_same f g [] same = refl
all_same f g (x ∷ xs) same = ap (λ b. b && list_all f xs) (same x (inl refl)) ∙ ap (λ b. g x && b) (all_same f g xs (λ y is. same y (inr is)))

pub or_same : (b : Bool) → (b || b) ≡ b
or_same true = refl
or_same false = refl

pub and_true : (b : Bool) → (b && true) ≡ b
and_true true = refl
and_true false = refl

-- what follows where the first of two is true
pub then_so : (a b : Bool) → a ≡ true → (not a || b) ≡ true → b ≡ true
then_so true b is so = so
then_so false b is so = cc is

-- and where it follows
pub where_so : (a b : Bool) → (a ≡ true → b ≡ true) → (not a || b) ≡ true
where_so true b so = so refl
where_so false b so = refl

-- groups of items, each in its own
module _ {A : Type 0} (together : A → A → Bool) (own : (x : A) → together x x ≡ true) where
  -- all groups pass where all items do
  pub all_groups : (f : A → Bool) (xs : List A) → list_all (λ x. list_all (λ y. not (together x y) || f y) xs) xs ≡ list_all f xs
  all_groups f xs =
      same_test (list_all (λ x. list_all (λ y. not (together x y) || f y) xs) xs) (list_all f xs)
      (λ all. all_from f xs (λ x is. then_so (together x x) (f x) (own x) (all_of (λ y. not (together x y) || f y) x xs (all_of (λ z. list_all (λ y. not (together z y) || f y) xs) x xs all is) is)))
      (λ all. all_from (λ x. list_all (λ y. not (together x y) || f y) xs) xs
      (λ x is. all_from (λ y. not (together x y) || f y) xs (λ y among. or_right (not (together x y)) (f y) (all_of f y xs all among))))

  -- where old and new are the same
  pub grouped_same : (f : A → Bool) (xs : List A) → grouped together f f xs ≡ list_all f xs
  grouped_same f xs =
      all_same (λ x. list_all (λ y. not (together x y) || f y) xs || list_all (λ y. not (together x y) || f y) xs) (λ x. list_all (λ y. not (together x y) || f y) xs) xs
      (λ x is. or_same (list_all (λ y. not (together x y) || f y) xs))
      ∙ all_groups f xs

-- where all go together
pub grouped_whole : {A : Type 0} (old new : A → Bool) (xs : List A) → grouped (λ x y. true) old new xs ≡ (list_all old xs || list_all new xs)
grouped_whole old new [] = refl
grouped_whole old new (x ∷ xs) = by_group (list_all old (x ∷ xs) || list_all new (x ∷ xs)) refl
  where
    by_group : (b : Bool) → (list_all old (x ∷ xs) || list_all new (x ∷ xs)) ≡ b → (b && list_all (λ y. list_all old (x ∷ xs) || list_all new (x ∷ xs)) xs) ≡ b
    by_group true is = all_from (λ y. list_all old (x ∷ xs) || list_all new (x ∷ xs)) xs (λ y among. is)
    by_group false is = refl

-- a range of one block has that block
among_one : (first n : ℕ) → is_among first 1 n ≡ (n == first)
among_one first n =
    same_test (is_among first 1 n) (n == first)
    (λ is. let parts = and_parts (nat_le first n) (nat_lt n (first + 1)) is in
    eq-eqb n first (omega (arith, leb-true first n parts.0, ltb-true n (first + 1) parts.1)))
    (λ is. and_from (nat_le first n) (nat_lt n (first + 1)) (grind (arith, eqb-true n first is)) (grind (arith, eqb-true n first is)))

-- a read of one block looks at that block
one_number : (first count : ℕ) (reply : BlockReply) → count ≡ 1 → IsSight reply → numbers_read first count reply ≡ first ∷ []
one_number first count (Shows bytes) one is = ap (range_with_len first) one
one_number first count (Scar block) one is = ap (range_with_len first) one
one_number first count (BadLine block line) one is = ap (range_with_len first) one
one_number first count (Refuses why) one is = absurd is

-- the blocks that are looked at are those of the reads, one of each
numbers_apart : (f : ℕ → Bool) (reads : List BlockRead) → AreOfOneBlock reads → list_all f (all_numbers_read reads) ≡ list_all (λ (r : BlockRead). f r.first) reads
numbers_apart f [] are = refl
numbers_apart f (r ∷ reads) are =
    ap (λ ns. list_all f (ns ++ all_numbers_read reads)) (one_number r.first r.count r.reply are.0.0 are.0.1)
    ∙ ap (λ b. f r.first && b) (numbers_apart f reads are.1)

-- each of them is of one block
each_is : (reads : List BlockRead) → AreOfOneBlock reads → (r : BlockRead) → IsAmong r reads → IsOfOneBlock r
each_is [] are r is = absurd is
each_is (q ∷ reads) are r (inl same) = subst IsOfOneBlock (sym same) are.0
each_is (q ∷ reads) are r (inr later) = each_is reads are.1 r later

module _ (blocks : List Block) where
  abbrev allowed : ℕ → BlockRead → Bool
  allowed n r = allows n (nth blocks n) r.first r.reply

  -- a read alone is shown where its block may be so
  alone : (r : BlockRead) → IsOfOneBlock r → shows_block blocks r ≡ allowed r.first r
  alone r is =
      numbers_apart (λ n. block_fits (r ∷ []) n (nth blocks n)) (r ∷ []) (is, tt)
      ∙ and_true (block_fits (r ∷ []) r.first (nth blocks r.first))
      ∙ and_true (not (is_among r.first r.count r.first) || allowed r.first r)
      ∙ ap (λ count. not (is_among r.first count r.first) || allowed r.first r) is.0
      ∙ ap (λ b. not b || allowed r.first r) (among_one r.first r.first ∙ eq-eqb r.first r.first refl)

  -- a read with others asks of a block what it asks alone, if it is of that block
  asks : (n : ℕ) (r : BlockRead) → IsOfOneBlock r → (not (is_among r.first r.count n) || allowed n r) ≡ (not (n == r.first) || shows_block blocks r)
  asks n r is =
      ap (λ count. not (is_among r.first count n) || allowed n r) is.0
      ∙ ap (λ b. not b || allowed n r) (among_one r.first n)
      ∙ by_number (n == r.first) refl
    where
      by_number : (b : Bool) → (n == r.first) ≡ b → (not b || allowed n r) ≡ (not b || shows_block blocks r)
      by_number true same = ap (λ m. allowed m r) (eqb-true n r.first same) ∙ sym (alone r is)
      by_number false other = refl

  -- a block fits reads where each of them that is of it is shown alone
  block_apart : (reads : List BlockRead) → AreOfOneBlock reads → (n : ℕ) → block_fits reads n (nth blocks n) ≡ list_all (λ (r : BlockRead). not (n == r.first) || shows_block blocks r) reads
  block_apart reads are n =
      all_same (λ (r : BlockRead). not (is_among r.first r.count n) || allowed n r) (λ (r : BlockRead). not (n == r.first) || shows_block blocks r) reads
      (λ r is. asks n r (each_is reads are r is))

-- each read goes together with itself
own_block : (r : BlockRead) → is_same_block r r ≡ true
own_block r = eq-eqb r.first r.first refl

module _ (reads : List BlockRead) (are : AreOfOneBlock reads) where
  -- blocks in one state
  whole_apart : (blocks : List Block) → blocks_may_pass None (block_fits reads) blocks (all_numbers_read reads) ≡ list_all (shows_block blocks) reads
  whole_apart blocks =
      numbers_apart (λ n. block_fits reads n (nth blocks n)) reads are
      ∙ all_same (λ (r : BlockRead). block_fits reads r.first (nth blocks r.first)) (λ r. list_all (λ s. not (is_same_block r s) || shows_block blocks s) reads) reads
      (λ r is. block_apart blocks reads are r.first)
      ∙ all_groups is_same_block own_block (shows_block blocks) reads

  -- blocks of which each is old or new
  mixed_apart : (old new : List Block) → blocks_pass Mixed (block_fits reads) old new (all_numbers_read reads) ≡ grouped is_same_block (shows_block old) (shows_block new) reads
  mixed_apart old new =
      numbers_apart (λ n. block_fits reads n (nth old n) || block_fits reads n (nth new n)) reads are
      ∙ all_same (λ (r : BlockRead). block_fits reads r.first (nth old r.first) || block_fits reads r.first (nth new r.first))
      (λ r. list_all (λ s. not (is_same_block r s) || shows_block old s) reads || list_all (λ s. not (is_same_block r s) || shows_block new s) reads) reads
      (λ r is.
      ap (λ b. b || block_fits reads r.first (nth new r.first)) (block_apart old reads are r.first)
      ∙ ap (λ b. list_all (λ s. not (is_same_block r s) || shows_block old s) reads || b) (block_apart new reads are r.first))

  -- in each way that they may be left
  left_apart : (left : BlocksLeft) (old new : List Block) → blocks_pass left (block_fits reads) old new (all_numbers_read reads) ≡ blocks_apart left (shows_block old) (shows_block new) reads
  left_apart Same old new = whole_apart old
  left_apart Either old new =
      ap (λ b. b || blocks_may_pass None (block_fits reads) new (all_numbers_read reads)) (whole_apart old) ∙ ap (λ b. list_all (shows_block old) reads || b) (whole_apart new)
  left_apart Mixed old new = mixed_apart old new

  -- where such an action was interrupted, or none
  pub blocks_pass_apart : (o : Option Action) (blocks : List Block) → blocks_may_pass o (block_fits reads) blocks (all_numbers_read reads) ≡ blocks_shown_apart o blocks reads
  blocks_pass_apart None blocks = whole_apart blocks
  blocks_pass_apart (Some action) blocks = left_apart (meaning action).blocks_left blocks ((meaning action).blocks blocks)

-- where no two go together, each is old or new for itself
module _ {A : Type 0} (together : A → A → Bool) (own : (x : A) → together x x ≡ true) (xs : List A) (apart : (x y : A) → IsAmong x xs → IsAmong y xs → together x y ≡ true → x ≡ y) where
  abbrev group : (A → Bool) → A → Bool
  group f x = list_all (λ y. not (together x y) || f y) xs

  -- the group of one is that one
  only : (f : A → Bool) (x : A) → IsAmong x xs → group f x ≡ f x
  only f x is =
      same_test (group f x) (f x) (λ all. then_so (together x x) (f x) (own x) (all_of (λ y. not (together x y) || f y) x xs all is))
      (λ so. all_from (λ y. not (together x y) || f y) xs (λ y among. where_so (together x y) (f y) (λ with. sym (ap f (apart x y is among with)) ∙ so)))

  pub grouped_alone : (old new : A → Bool) → grouped together old new xs ≡ list_all (λ x. old x || new x) xs
  grouped_alone old new =
      all_same (λ x. group old x || group new x) (λ x. old x || new x) xs (λ x is. ap (λ b. b || group new x) (only old x is) ∙ ap (λ b. old x || b) (only new x is))

-- a test that is passed and not
both_ways : (b : Bool) → b ≡ true → not b ≡ true → ⊥
both_ways true is not_so = cc not_so
both_ways false is not_so = cc is

-- two of distinct blocks are one read where they are of one block
distinct_alone : (reads : List BlockRead) → AreDistinctBlocks reads → (r s : BlockRead) → IsAmong r reads → IsAmong s reads → is_same_block r s ≡ true → r ≡ s
distinct_alone [] are r s is among same = absurd is
distinct_alone (q ∷ reads) are r s (inl one) (inl other) same = one ∙ sym other
distinct_alone (q ∷ reads) are r s (inl one) (inr other) same =
    absurd (both_ways (is_same_block q s) (ap (λ t. is_same_block t s) (sym one) ∙ same) (all_of (λ t. not (is_same_block q t)) s reads are.0 other))
distinct_alone (q ∷ reads) are r s (inr one) (inl other) same =
    let turned : q.first ≡ r.first = ap (λ (t : BlockRead). t.first) (sym other) ∙ sym (eqb-true r.first s.first same) in
    absurd (both_ways (is_same_block q r) (eq-eqb q.first r.first turned) (all_of (λ t. not (is_same_block q t)) r reads are.0 one))
distinct_alone (q ∷ reads) are r s (inr one) (inr other) same = distinct_alone reads are.1 r s one other same

-- so each of distinct blocks is old or new for itself
pub distinct_blocks_apart : (reads : List BlockRead) → AreDistinctBlocks reads → (old new : BlockRead → Bool) → grouped is_same_block old new reads ≡ list_all (λ r. old r || new r) reads
distinct_blocks_apart reads are old new = grouped_alone is_same_block own_block reads (distinct_alone reads are) old new
