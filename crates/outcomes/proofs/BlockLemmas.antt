-- What reads of blocks are answered, and that the blocks fit it.
use Rattle.std.proofs.Common.{◌≡◌, ◌⊎◌, inl, inr, ℕ, zero, suc, ◌+◌, ◌-◌, ◌*◌, ◌/◌, ◌%◌, ◌<◌, ◌≤◌, ◌==◌, Bool, true, false, cond, not, ◌||◌, nat_lt, is_none, Option, Some, None, option_map, List, [], ◌∷◌, length, refl, sym, ap, ◌∙◌, arith}
use Rattle.std.specs.Prelude.{position, slice_index}
use Rattle.std.specs.List.{list_all}
use Rattle.std.proofs.lemmas.Bool.{and_from, cases_eq, eq-eqb, eqb-true, or_left, or_right}
use Rattle.std.proofs.lemmas.Bool.Decides.{nat_tests}
use Rattle.std.proofs.lemmas.Option.{get_or_from_slice_get}
use Rattle.std.proofs.lemmas.Slice.Eq.{bytes_eq-Decides}
use Rattle.nvm_model.specs.Blocks.{Obstacle, block_byte, byte_of_blocks, first_obstacle, first_there, look_blocks, nth, obstacle_in}
use Rattle.nvm_model.specs.Blocks.Obstacle.{bad_line, scar}
use Rattle.nvm_model.specs.Numbered.{is_among, list_from}
use Rattle.nvm_model.specs.Storage.{Block}
use Rattle.nvm_model.specs.Storage.Block.{Absent, Scarred, Data}
use Rattle.nvm_model.proofs.NumberedLemmas.{length-list_from, slice_get-list_from}
use Rattle.block_device.specs.Refusals.Refusal.{Unreadable}
use Rattle.reply_text.specs.Answer.{Answer, why_text}
use Rattle.reply_text.specs.Answer.Answer.{Bytes, Refused}
use Rattle.reply_text.specs.declared.reply.Why.{Why}
use Rattle.script_text.specs.Action.{Action}
use Rattle.machine_model.specs.Commands.{LeavesBlocks, MayLeaveBlocks, meaning}
use Rattle.machine_model.specs.Meaning.{BlocksLeft, most_refusal}
use Rattle.machine_model.specs.Meaning.BlocksLeft.{Same, Either, Mixed}
use Rattle.machine_model.specs.OnBlocks.{refusal_answer}
use Rattle.durable.specs.Naming.{IsLowestObstacle}
use Rattle.outcomes.specs.Blocks.{BlockRead, BlockReply, allows, block_fits, has_bytes, is_bad_line, is_block_reply, is_block_reply_by, is_scar}
use Rattle.outcomes.specs.Blocks.BlockReply.{Shows, Scar, BadLine, Refuses}
use Rattle.outcomes.specs.Left.{blocks_may_pass, blocks_pass}
use Rattle.outcomes.specs.Seen.{block_answer}
use Rattle.outcomes.proofs.TestLemmas.{each_all, range_all}

-- how an obstacle is told
abbrev pub told_of : Obstacle → BlockReply
told_of (scar b) = Scar b
told_of (bad_line b k) = BadLine b k

-- what a read of blocks is answered: why it is refused, what keeps the lowest block from being read, or the bytes
pub data Answered (size : ℕ) (blocks : List Block) (r : BlockRead) : Type 0 where
  refused : (why : Why) → most_refusal 128 size r.first r.count ≡ Some why → r.reply ≡ Refuses why → Answered size blocks r
  kept : (o : Obstacle) → most_refusal 128 size r.first r.count ≡ None → first_obstacle blocks r.first r.count ≡ Some o → r.reply ≡ told_of o → Answered size blocks r
  shown : most_refusal 128 size r.first r.count ≡ None → first_obstacle blocks r.first r.count ≡ None → r.reply ≡ Shows (look_blocks blocks r.first r.count) → Answered size blocks r

abbrev pub AllAnswered : ℕ → List Block → List BlockRead → Type 0
AllAnswered size blocks [] = Unit {0}
AllAnswered size blocks (r ∷ reads) = Answered size blocks r × AllAnswered size blocks reads

-- a block of a span is its first, or one of the others
pub later : (at count m : ℕ) → is_among at (suc count) m ≡ true → (m ≡ at → ⊥) → is_among (suc at) count m ≡ true
later at count m among other = grind (arith, nat_tests)

pub earlier : (at count m : ℕ) → is_among (suc at) count m ≡ true → is_among at (suc count) m ≡ true
earlier at count m among = grind (arith, nat_tests)

pub first_among : (at count : ℕ) → is_among at (suc count) at ≡ true
first_among at count = grind (arith, nat_tests)

pub none_below : (at count m : ℕ) → m < at → is_among at (suc count) m ≡ true → ⊥
none_below at count m lt among = grind (arith, nat_tests)

none_among : (at n : ℕ) → is_among at 0 n ≡ true → ⊥
none_among at n among = grind (arith, nat_tests)

-- the obstacle that a search finds is the lowest
pub found_obstacle : (blocks : List Block) (at count : ℕ) (o : Obstacle) → first_obstacle blocks at count ≡ Some o → (m : ℕ) × IsLowestObstacle blocks at count m o
found_obstacle blocks at zero o is = cc is
found_obstacle blocks at (suc count) o is = by_first (found_obstacle blocks (suc at) count o) (obstacle_in at (nth blocks at)) refl is
  where
    by_first : (first_obstacle blocks (suc at) count ≡ Some o → (m : ℕ) × IsLowestObstacle blocks (suc at) count m o) → (x : Option Obstacle) → obstacle_in at (nth blocks at) ≡ x
        → first_there x (first_obstacle blocks (suc at) count) ≡ Some o → (m : ℕ) × IsLowestObstacle blocks at (suc count) m o
    by_first found (Some first) here same = (
      at,
      record { among = first_among at count; here = here ∙ same; before = λ m lt among. absurd (none_below at count m lt among) },
    )
    by_first found None here same =
        let rest = found same in (
          rest.0,
          record {
            among = earlier at count rest.0 rest.1.among;
            here = rest.1.here;
            before = λ m lt among. elim (cases_eq m at) as (λ _. obstacle_in m (nth blocks m) ≡ None) [
              | inl first ↦ ap (λ k. obstacle_in k (nth blocks k)) first ∙ here
              | inr other ↦ rest.1.before m lt (later at count m among other)
            ];
          },
        )

no_obstacle : (blocks : List Block) (at count : ℕ) → first_obstacle blocks at count ≡ None → (m : ℕ) → is_among at count m ≡ true → obstacle_in m (nth blocks m) ≡ None
no_obstacle blocks at zero none m among = absurd (none_among at m among)
no_obstacle blocks at (suc count) none m among = by_first (no_obstacle blocks (suc at) count) (obstacle_in at (nth blocks at)) refl none
  where
    by_first : (first_obstacle blocks (suc at) count ≡ None → (k : ℕ) → is_among (suc at) count k ≡ true → obstacle_in k (nth blocks k) ≡ None) → (x : Option Obstacle) → obstacle_in at (nth blocks at) ≡ x
        → first_there x (first_obstacle blocks (suc at) count) ≡ None → obstacle_in m (nth blocks m) ≡ None
    by_first others (Some first) here same = cc same
    by_first others None here same = elim (cases_eq m at) as (λ _. obstacle_in m (nth blocks m) ≡ None) [
      | inl first ↦ ap (λ k. obstacle_in k (nth blocks k)) first ∙ here
      | inr other ↦ others same m (later at count m among other)
    ]

-- an obstacle names its block
pub names_block : (n : ℕ) (block : Block) (b : ℕ) → obstacle_in n block ≡ Some (scar b) → n ≡ b
names_block n Absent b is = cc is
names_block n Scarred b is = cc is
names_block n (Data lines) b is = by_line (position is_none lines) is
  where
    by_line : (o : Option ℕ) → option_map (bad_line n) o ≡ Some (scar b) → n ≡ b
    by_line None same = cc same
    by_line (Some k) same = cc same

pub names_line : (n : ℕ) (block : Block) (b k : ℕ) → obstacle_in n block ≡ Some (bad_line b k) → n ≡ b
names_line n Absent b k is = cc is
names_line n Scarred b k is = cc is
names_line n (Data lines) b k is = by_line (position is_none lines) is
  where
    by_line : (o : Option ℕ) → option_map (bad_line n) o ≡ Some (bad_line b k) → n ≡ b
    by_line None same = cc same
    by_line (Some j) same = cc same

-- which block the lowest obstacle is of
told_place : (m : ℕ) (block : Block) (o : Obstacle) → obstacle_in m block ≡ Some o → (o ≡ scar m) ⊎ ((k : ℕ) × (o ≡ bad_line m k))
told_place m block (scar b) is = inl (ap scar (sym (names_block m block b is)))
told_place m block (bad_line b k) is = inr (k, ap (λ n. bad_line n k) (sym (names_line m block b k is)))

module _ (size : ℕ) (blocks : List Block) where
  byte_shown : (first count b k : ℕ) → is_among first count b ≡ true → k < 512
      → slice_index (look_blocks blocks first count) (512 * b + k - 512 * first) ≡ block_byte (nth blocks b) ((512 * b + k) % 512)
  unfolding look_blocks
  byte_shown first count b k among lt =
      let from : first ≤ b = grind (arith, nat_tests) in
      let to : b < first + count = grind (arith, nat_tests) in
      let there : 512 * first + (512 * b + k - 512 * first) ≡ 512 * b + k = omega (arith, from) in
      let number : (512 * b + k) / 512 ≡ b = omega (arith, lt) in
      get_or_from_slice_get (list_from (byte_of_blocks blocks) (512 * first) (512 * count)) (512 * b + k - 512 * first)
      (byte_of_blocks blocks (512 * first + (512 * b + k - 512 * first))) 0
      (slice_get-list_from (byte_of_blocks blocks) (512 * first) (512 * count) (512 * b + k - 512 * first) (omega (arith, from, to, lt)))
      ∙ ap (byte_of_blocks blocks) there ∙ ap (λ n. block_byte (nth blocks n) ((512 * b + k) % 512)) number

  -- what a reply tells of the lowest block that can't be read, of those before it, and of those behind
  allows_kept : (m b first : ℕ) (o : Obstacle) → obstacle_in m (nth blocks m) ≡ Some o → (b < m → obstacle_in b (nth blocks b) ≡ None)
      → allows b (nth blocks b) first (told_of o) ≡ true
  allows_kept m b first o here before = elim (told_place m (nth blocks m) o here) as (λ _. allows b (nth blocks b) first (told_of o) ≡ true) [
    | inl is ↦ ap (λ x. allows b (nth blocks b) first (told_of x)) is ∙ by_order is_scar (λ at. ap is_scar (at_place at ∙ ap Some is)) (nat_lt b m) refl
    | inr is ↦ ap (λ x. allows b (nth blocks b) first (told_of x)) is.1 ∙ by_order (is_bad_line is.0) (λ at. ap (is_bad_line is.0) (at_place at ∙ ap Some is.1) ∙ eq-eqb is.0 is.0 refl) (nat_lt b m) refl
  ]
    where
      at_place : b ≡ m → obstacle_in b (nth blocks b) ≡ Some o
      at_place at = ap (λ k. obstacle_in k (nth blocks k)) at ∙ here

      by_order : (test : Option Obstacle → Bool) → (b ≡ m → test (obstacle_in b (nth blocks b)) ≡ true) → (less : Bool) → nat_lt b m ≡ less
          → cond less (is_none (obstacle_in b (nth blocks b))) (not (b == m) || test (obstacle_in b (nth blocks b))) ≡ true
      by_order test there true lt = let below : b < m = grind (arith, nat_tests) in ap is_none (before below)
      by_order test there false lt = by_same (b == m) refl
        where
          by_same : (s : Bool) → (b == m) ≡ s → (not s || test (obstacle_in b (nth blocks b))) ≡ true
          by_same false other = refl
          by_same true same = there (eqb-true b m same)

  allowed : (b : ℕ) (r : BlockRead) → is_among r.first r.count b ≡ true → Answered size blocks r → allows b (nth blocks b) r.first r.reply ≡ true
  allowed b r among (refused why right is) = ap (allows b (nth blocks b) r.first) is
  allowed b r among (kept o right found is) =
      let lowest = found_obstacle blocks r.first r.count o found in
      ap (allows b (nth blocks b) r.first) is ∙ allows_kept lowest.0 b r.first o lowest.1.here (λ lt. lowest.1.before b lt among)
  allowed b r among (shown right none is) =
      ap (allows b (nth blocks b) r.first) is
      ∙ and_from (is_none (obstacle_in b (nth blocks b))) (has_bytes r.first (look_blocks blocks r.first r.count) b (nth blocks b))
      (ap is_none (no_obstacle blocks r.first r.count none b among))
      (range_all (λ i. slice_index (look_blocks blocks r.first r.count) (i - 512 * r.first) == block_byte (nth blocks b) (i % 512)) (512 * b) 512
      (λ k lt. eq-eqb _ _ (byte_shown r.first r.count b k among lt)))

  pub block_fits_reads : (reads : List BlockRead) (b : ℕ) → AllAnswered size blocks reads → block_fits reads b (nth blocks b) ≡ true
  block_fits_reads [] b all = refl
  block_fits_reads (r ∷ reads) b all = and_from (not (is_among r.first r.count b) || allows b (nth blocks b) r.first r.reply) (block_fits reads b (nth blocks b))
      (by_among (is_among r.first r.count b) refl) (block_fits_reads reads b all.1)
    where
      by_among : (s : Bool) → is_among r.first r.count b ≡ s → (not s || allows b (nth blocks b) r.first r.reply) ≡ true
      by_among false out = refl
      by_among true among = allowed b r among all.0

  shown_length : (first count : ℕ) → length (look_blocks blocks first count) ≡ 512 * count
  unfolding look_blocks
  shown_length first count = length-list_from (byte_of_blocks blocks) (512 * first) (512 * count)

  kept_right : (r : BlockRead) (o : Obstacle) → first_obstacle blocks r.first r.count ≡ Some o → is_block_reply_by None r.first r.count (told_of o) ≡ true
  kept_right r o found =
      let lowest = found_obstacle blocks r.first r.count o found in
      elim (told_place lowest.0 (nth blocks lowest.0) o lowest.1.here) as (λ _. is_block_reply_by None r.first r.count (told_of o) ≡ true) [
        | inl is ↦ ap (λ x. is_block_reply_by None r.first r.count (told_of x)) is ∙ lowest.1.among
        | inr is ↦ ap (λ x. is_block_reply_by None r.first r.count (told_of x)) is.1 ∙ lowest.1.among
      ]

  pub block_reply_right : (r : BlockRead) → Answered size blocks r → is_block_reply size r ≡ true
  block_reply_right r (refused why right is) =
      ap (λ o. is_block_reply_by o r.first r.count r.reply) right ∙ ap (λ reply. is_block_reply_by (Some why) r.first r.count reply) is
      ∙ (bytes_eq-Decides (why_text why) (why_text why)).1 refl
  block_reply_right r (kept o right found is) =
      ap (λ w. is_block_reply_by w r.first r.count r.reply) right ∙ ap (λ reply. is_block_reply_by None r.first r.count reply) is ∙ kept_right r o found
  block_reply_right r (shown right none is) =
      ap (λ o. is_block_reply_by o r.first r.count r.reply) right ∙ ap (λ reply. is_block_reply_by None r.first r.count reply) is
      ∙ eq-eqb (length (look_blocks blocks r.first r.count)) (512 * r.count) (shown_length r.first r.count)

-- replies that are answered alike
reply_is : (a b : BlockReply) → block_answer a ≡ block_answer b → a ≡ b
reply_is (Shows x) (Shows y) is = let e : x ≡ y = cc is in ap Shows e
reply_is (Shows x) (Scar c) is = cc is
reply_is (Shows x) (BadLine c k) is = cc is
reply_is (Shows x) (Refuses why) is = cc is
reply_is (Scar b) (Shows y) is = cc is
reply_is (Scar b) (Scar c) is = let e : b ≡ c = cc is in ap Scar e
reply_is (Scar b) (BadLine c k) is = cc is
reply_is (Scar b) (Refuses why) is = cc is
reply_is (BadLine b j) (Shows y) is = cc is
reply_is (BadLine b j) (Scar c) is = cc is
reply_is (BadLine b j) (BadLine c k) is = let e : b ≡ c = cc is in let f : j ≡ k = cc is in ap (λ x. BadLine x j) e ∙ ap (BadLine c) f
reply_is (BadLine b j) (Refuses why) is = cc is
reply_is (Refuses why) (Shows y) is = cc is
reply_is (Refuses why) (Scar c) is = cc is
reply_is (Refuses why) (BadLine c k) is = cc is
reply_is (Refuses why) (Refuses other) is = let e : why ≡ other = cc is in ap Refuses e

pub obstacle_answer : (o : Obstacle) → refusal_answer (Unreadable o) ≡ block_answer (told_of o)
obstacle_answer (scar b) = refl
obstacle_answer (bad_line b k) = refl

-- what a read of blocks is answered, by why it is refused and what keeps a block from being read
pub answered : (size : ℕ) (blocks : List Block) (r : BlockRead) (refusal : Option Answer)
    → refusal ≡ first_there (option_map Refused (most_refusal 128 size r.first r.count)) (option_map (λ o. refusal_answer (Unreadable o)) (first_obstacle blocks r.first r.count))
    → (refusal ≡ Some (block_answer r.reply)) ⊎ ((refusal ≡ None) × (block_answer r.reply ≡ Bytes (look_blocks blocks r.first r.count))) → Answered size blocks r
answered size blocks r refusal is told = by_why (most_refusal 128 size r.first r.count) refl (first_obstacle blocks r.first r.count) refl
  where
    by_why : (o : Option Why) → most_refusal 128 size r.first r.count ≡ o → (x : Option Obstacle) → first_obstacle blocks r.first r.count ≡ x → Answered size blocks r
    by_why (Some why) right x at =
        let here : refusal ≡ Some (Refused why) =
        is ∙ ap (λ o. first_there (option_map Refused o) (option_map (λ k. refusal_answer (Unreadable k)) (first_obstacle blocks r.first r.count))) right in
        elim told as (λ _. Answered size blocks r) [
          | inl same ↦ refused why right (reply_is r.reply (Refuses why) (cc (sym same ∙ here)))
          | inr none ↦ absurd (cc (sym none.0 ∙ here))
        ]
    by_why None right (Some o) at =
        let here : refusal ≡ Some (block_answer (told_of o)) =
        is ∙ ap (λ w. first_there (option_map Refused w) (option_map (λ k. refusal_answer (Unreadable k)) (first_obstacle blocks r.first r.count))) right
        ∙ ap (option_map (λ k. refusal_answer (Unreadable k))) at ∙ ap Some (obstacle_answer o) in
        elim told as (λ _. Answered size blocks r) [
          | inl same ↦ kept o right at (reply_is r.reply (told_of o) (cc (sym same ∙ here)))
          | inr none ↦ absurd (cc (sym none.0 ∙ here))
        ]
    by_why None right None at =
        let here : refusal ≡ None =
        is ∙ ap (λ w. first_there (option_map Refused w) (option_map (λ k. refusal_answer (Unreadable k)) (first_obstacle blocks r.first r.count))) right
        ∙ ap (option_map (λ k. refusal_answer (Unreadable k))) at in
        elim told as (λ _. Answered size blocks r) [
          | inl same ↦ absurd (cc (sym same ∙ here))
          | inr none ↦ shown right at (reply_is r.reply (Shows (look_blocks blocks r.first r.count)) none.1)
        ]

-- what an interruption leaves of blocks
module _ (reads : List BlockRead) (old to left : List Block) (fit : (b : ℕ) → block_fits reads b (nth left b) ≡ true) (numbers : List ℕ) where
  as_one : (one : List Block) → left ≡ one → list_all (λ n. block_fits reads n (nth one n)) numbers ≡ true
  as_one one is = each_all (λ n. block_fits reads n (nth one n)) numbers (λ n. sym (ap (λ p. block_fits reads n (nth p n)) is) ∙ fit n)

  leaves_pass : (kind : BlocksLeft) → LeavesBlocks kind old to left → blocks_pass kind (block_fits reads) old to numbers ≡ true
  leaves_pass Same is = as_one old is
  leaves_pass Either (inl is) = or_left _ _ (as_one old is)
  leaves_pass Either (inr is) = or_right (list_all (λ n. block_fits reads n (nth old n)) numbers) _ (as_one to is)
  leaves_pass Mixed are = each_all (λ n. block_fits reads n (nth old n) || block_fits reads n (nth to n)) numbers (λ n.
      elim (are.each n) as (λ _. (block_fits reads n (nth old n) || block_fits reads n (nth to n)) ≡ true) [
        | inl same ↦ or_left _ _ (sym (ap (block_fits reads n) same) ∙ fit n)
        | inr same ↦ or_right _ _ (sym (ap (block_fits reads n) same) ∙ fit n)
      ])

pub left_passes : (reads : List BlockRead) (o : Option Action) (old left : List Block) → MayLeaveBlocks o old left → ((b : ℕ) → block_fits reads b (nth left b) ≡ true)
    → (numbers : List ℕ) → blocks_may_pass o (block_fits reads) old numbers ≡ true
left_passes reads None old left is fit numbers = as_one reads old old left fit numbers old is
left_passes reads (Some action) old left may fit numbers = leaves_pass reads old ((meaning action).blocks old) left fit numbers (meaning action).blocks_left may
