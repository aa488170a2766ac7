-- Blocks that fit the reads are read so, and where a test of what may be left of blocks passes there are such.
use Rattle.std.proofs.Common.{◌≡◌, ◌⊎◌, inl, inr, ℕ, zero, suc, ◌+◌, ◌-◌, ◌*◌, ◌/◌, ◌%◌, ◌<◌, ◌≤◌, ◌==◌, Bool, true, false, cond, not, ◌||◌, nat_lt, is_none, Option, Some, None, List, [], ◌∷◌, length, slice_get, refl, sym, ap, subst, ◌∙◌, arith}
use Rattle.std.specs.Prelude.{slice_index}
use Rattle.std.specs.List.{list_all, range_with_len}
use Rattle.std.proofs.lemmas.Bool.{and_parts, cases_eq, eq-eqb, eqb-true, lt-ltb}
use Rattle.std.proofs.lemmas.Bool.Decides.{nat_tests}
use Rattle.nvm_model.specs.Blocks.{IsMixed, Obstacle, block_byte, byte_of_blocks, first_obstacle, first_there, look_blocks, nth, obstacle_in}
use Rattle.nvm_model.specs.Blocks.Obstacle.{bad_line, scar}
use Rattle.nvm_model.specs.Numbered.{is_among, list_from}
use Rattle.nvm_model.specs.Storage.{Block}
use Rattle.nvm_model.specs.Storage.Block.{Absent}
use Rattle.nvm_model.proofs.NumberedLemmas.{list_from-is}
use Rattle.reply_text.specs.declared.reply.Why.{Why}
use Rattle.script_text.specs.Action.{Action}
use Rattle.machine_model.specs.Commands.{LeavesBlocks, MayLeaveBlocks, meaning}
use Rattle.machine_model.specs.Meaning.{BlocksLeft, most_refusal}
use Rattle.machine_model.specs.Meaning.BlocksLeft.{Same, Either, Mixed}
use Rattle.durable.proofs.WholeLemmas.{length-made}
use Rattle.outcomes.specs.Blocks.{BlockRead, BlockReply, all_numbers_read, allows, block_fits, has_bytes, is_bad_line, is_block_refusal, is_block_reply, is_block_reply_by, is_read_of_blocks, is_scar, numbers_read}
use Rattle.outcomes.specs.Blocks.BlockReply.{Shows, Scar, BadLine, Refuses}
use Rattle.outcomes.specs.Left.{blocks_may_pass, blocks_pass}
use Rattle.outcomes.specs.Ways.{all_pass}
use Rattle.outcomes.proofs.AmongLemmas.{IsAmong, all_of, among_back, among_front, among_range}
use Rattle.outcomes.proofs.BlockLemmas.{earlier, first_among, later, names_block, names_line, told_of}
use Rattle.outcomes.proofs.ChooseLemmas.{either, length-mix, mix, mix_each, mix_first, mix_second, within}
use Rattle.outcomes.proofs.LeftLemmas.{get_or_is, or_default}
use Rattle.outcomes.proofs.TestLemmas.{range_each}
use Rattle.outcomes.proofs.WordLemmas.{same_word}

-- what a reply tells, by why the read is refused and what keeps a block from being read
abbrev pub Matches : List Block → BlockRead → Option Why → Option Obstacle → Type 0
Matches blocks r (Some why) o = r.reply ≡ Refuses why
Matches blocks r None (Some o) = r.reply ≡ told_of o
Matches blocks r None None = r.reply ≡ Shows (look_blocks blocks r.first r.count)

pub record IsRead (size : ℕ) (blocks : List Block) (r : BlockRead) : Type 0 where
  pub why : Option Why
  pub obstacle : Option Obstacle
  pub refusal : most_refusal 128 size r.first r.count ≡ why
  pub kept : first_obstacle blocks r.first r.count ≡ obstacle
  pub matches : Matches blocks r why obstacle

-- blocks that all can be read, and the lowest that can't
none_found : (blocks : List Block) (at count : ℕ) → ((b : ℕ) → is_among at count b ≡ true → obstacle_in b (nth blocks b) ≡ None) → first_obstacle blocks at count ≡ None
none_found blocks at zero each = refl
none_found blocks at (suc count) each =
    ap (λ o. first_there o (first_obstacle blocks (suc at) count)) (each at (first_among at count))
    ∙ none_found blocks (suc at) count (λ b among. each b (earlier at count b among))

none_in : (at m : ℕ) → is_among at 0 m ≡ true → ⊥
none_in at m among = grind (arith, nat_tests)

lowest_found : (blocks : List Block) (at count m : ℕ) (o : Obstacle) → is_among at count m ≡ true → obstacle_in m (nth blocks m) ≡ Some o
    → ((b : ℕ) → b < m → is_among at count b ≡ true → obstacle_in b (nth blocks b) ≡ None) → first_obstacle blocks at count ≡ Some o
lowest_found blocks at zero m o among here before = absurd (none_in at m among)
lowest_found blocks at (suc count) m o among here before = by_first (λ other rest. lowest_found blocks (suc at) count m o (later at count m among other) here rest) (cases_eq m at)
  where
    at_least : at ≤ m
    at_least = grind (arith, nat_tests)

    by_first : ((m ≡ at → ⊥) → ((b : ℕ) → b < m → is_among (suc at) count b ≡ true → obstacle_in b (nth blocks b) ≡ None) → first_obstacle blocks (suc at) count ≡ Some o)
        → (m ≡ at) ⊎ (m ≡ at → ⊥) → first_there (obstacle_in at (nth blocks at)) (first_obstacle blocks (suc at) count) ≡ Some o
    by_first rest (inl same) = ap (λ x. first_there x (first_obstacle blocks (suc at) count)) (sym (ap (λ k. obstacle_in k (nth blocks k)) same) ∙ here)
    by_first rest (inr other) =
        let lt : at < m = ne_below at m other at_least in
        ap (λ x. first_there x (first_obstacle blocks (suc at) count)) (before at lt (first_among at count))
        ∙ rest other (λ b less among_rest. before b less (earlier at count b among_rest))
      where
        ne_below : (a b : ℕ) → (b ≡ a → ⊥) → a ≤ b → a < b
        ne_below a b differ le = omega (arith, differ, le)

-- a test that tells what keeps a block from being read
scar_of : (b : ℕ) (block : Block) → is_scar (obstacle_in b block) ≡ true → obstacle_in b block ≡ Some (scar b)
scar_of b block is = by_obstacle (obstacle_in b block) refl is
  where
    by_obstacle : (o : Option Obstacle) → obstacle_in b block ≡ o → is_scar o ≡ true → obstacle_in b block ≡ Some (scar b)
    by_obstacle None at test = cc test
    by_obstacle (Some (scar c)) at test = at ∙ ap (λ k. Some (scar k)) (sym (names_block b block c at))
    by_obstacle (Some (bad_line c k)) at test = cc test

line_of : (b line : ℕ) (block : Block) → is_bad_line line (obstacle_in b block) ≡ true → obstacle_in b block ≡ Some (bad_line b line)
line_of b line block is = by_obstacle (obstacle_in b block) refl is
  where
    by_obstacle : (o : Option Obstacle) → obstacle_in b block ≡ o → is_bad_line line o ≡ true → obstacle_in b block ≡ Some (bad_line b line)
    by_obstacle None at test = cc test
    by_obstacle (Some (scar c)) at test = cc test
    by_obstacle (Some (bad_line c k)) at test =
        at ∙ ap (λ n. Some (bad_line n k)) (sym (names_line b block c k at)) ∙ ap (λ j. Some (bad_line b j)) (eqb-true k line test)

is_none_at : (o : Option Obstacle) → is_none o ≡ true → o ≡ None
is_none_at None is = refl
is_none_at (Some o) is = cc is

refused_right : (why : Why) (reply : BlockReply) → is_block_refusal why reply ≡ true → reply ≡ Refuses why
refused_right why (Shows bytes) right = cc right
refused_right why (Scar b) right = cc right
refused_right why (BadLine b k) right = cc right
refused_right why (Refuses other) right = ap Refuses (same_word other why right)

module _ (reads : List BlockRead) (blocks : List Block) (fit : (b : ℕ) → IsAmong b (all_numbers_read reads) → block_fits reads b (nth blocks b) ≡ true) where
  looked_at : (some : List BlockRead) (r : BlockRead) (b : ℕ) → IsAmong r some → IsAmong b (numbers_read r.first r.count r.reply) → IsAmong b (all_numbers_read some)
  looked_at [] r b is at = absurd is
  looked_at (x ∷ some) r b (inl same) at =
      among_front b (numbers_read x.first x.count x.reply) (all_numbers_read some) (subst (λ (y : BlockRead). IsAmong b (numbers_read y.first y.count y.reply)) same at)
  looked_at (x ∷ some) r b (inr rest) at = among_back b (numbers_read x.first x.count x.reply) (all_numbers_read some) (looked_at some r b rest at)

  -- what a read allows of each block of its span
  allowed : (r : BlockRead) (b : ℕ) (reply : BlockReply) → r.reply ≡ reply → numbers_read r.first r.count reply ≡ range_with_len r.first r.count → IsAmong r reads
      → is_among r.first r.count b ≡ true → allows b (nth blocks b) r.first reply ≡ true
  allowed r b reply is range among inside =
      let from : r.first ≤ b = grind (arith, nat_tests) in
      let to : b < r.first + r.count = grind (arith, nat_tests) in
      let at : IsAmong b (numbers_read r.first r.count r.reply) = subst (IsAmong b) (sym (ap (numbers_read r.first r.count) is ∙ range)) (among_range b r.first r.count from to) in
      sym (ap (allows b (nth blocks b) r.first) is)
      ∙ within (is_among r.first r.count b) (allows b (nth blocks b) r.first r.reply)
      (all_of (λ (x : BlockRead). not (is_among x.first x.count b) || allows b (nth blocks b) x.first x.reply) r reads (fit b (looked_at reads r b among at)) among) inside

  bytes_read : (r : BlockRead) (bytes : List ℕ) → r.reply ≡ Shows bytes → length bytes ≡ 512 * r.count → IsAmong r reads → bytes ≡ look_blocks blocks r.first r.count
  unfolding look_blocks
  bytes_read r bytes is long among =
      list_from-is (byte_of_blocks blocks) (512 * r.first) bytes each ∙ ap (list_from (byte_of_blocks blocks) (512 * r.first)) long
    where
      at_byte : (k i b : ℕ) → k < length bytes → i ≡ 512 * r.first + k → b ≡ i / 512 → slice_index bytes k ≡ block_byte (nth blocks b) (i % 512)
      at_byte k i b lt at_i at_b =
          let inside : is_among r.first r.count b ≡ true = grind (arith, nat_tests, at_i, at_b, lt, long) in
          let allows_it = allowed r b (Shows bytes) is refl among inside in
          let parts = and_parts (is_none (obstacle_in b (nth blocks b))) (has_bytes r.first bytes b (nth blocks b)) allows_it in
          let tested = range_each (λ j. slice_index bytes (j - 512 * r.first) == block_byte (nth blocks b) (j % 512)) (512 * b) 512 parts.1 i (omega (arith, at_b)) (omega (arith, at_b)) in
          let index : i - 512 * r.first ≡ k = omega (arith, at_i) in
          sym (ap (slice_index bytes) index) ∙ eqb-true (slice_index bytes (i - 512 * r.first)) (block_byte (nth blocks b) (i % 512)) tested

      each : (k : ℕ) → k < length bytes → slice_index bytes k ≡ byte_of_blocks blocks (512 * r.first + k)
      each k lt = at_byte k (512 * r.first + k) ((512 * r.first + k) / 512) lt refl refl

  none_kept : (r : BlockRead) (bytes : List ℕ) → r.reply ≡ Shows bytes → IsAmong r reads → first_obstacle blocks r.first r.count ≡ None
  none_kept r bytes is among = none_found blocks r.first r.count (λ b inside.
      is_none_at (obstacle_in b (nth blocks b)) (and_parts (is_none (obstacle_in b (nth blocks b))) (has_bytes r.first bytes b (nth blocks b)) (allowed r b (Shows bytes) is refl among inside)).0)

  -- a test of a block that a reply names, and of those before it
  named_here : (named : ℕ) (test : Option Obstacle → Bool)
      → cond (nat_lt named named) (is_none (obstacle_in named (nth blocks named))) (not (named == named) || test (obstacle_in named (nth blocks named))) ≡ true
      → test (obstacle_in named (nth blocks named)) ≡ true
  named_here named test allows_it =
      within (named == named) (test (obstacle_in named (nth blocks named)))
      (sym (ap (λ b. cond b (is_none (obstacle_in named (nth blocks named))) (not (named == named) || test (obstacle_in named (nth blocks named)))) (not_less named)) ∙ allows_it)
      (eq-eqb named named refl)
    where
      not_less : (n : ℕ) → nat_lt n n ≡ false
      not_less n = grind (arith, nat_tests)

  named_before : (b named : ℕ) (rest : Bool) → b < named → cond (nat_lt b named) (is_none (obstacle_in b (nth blocks b))) rest ≡ true → obstacle_in b (nth blocks b) ≡ None
  named_before b named rest lt allows_it =
      is_none_at (obstacle_in b (nth blocks b)) (sym (ap (λ t. cond t (is_none (obstacle_in b (nth blocks b))) rest) (lt-ltb b named lt)) ∙ allows_it)

  pub is_read : (size : ℕ) (r : BlockRead) → IsAmong r reads → is_block_reply size r ≡ true → IsRead size blocks r
  is_read size r among right = by_why (most_refusal 128 size r.first r.count) refl right
    where
      by_reply : (reply : BlockReply) → most_refusal 128 size r.first r.count ≡ None → r.reply ≡ reply → is_read_of_blocks r.first r.count reply ≡ true → IsRead size blocks r
      by_reply (Shows bytes) allows_it is given = record {
        why = None;
        obstacle = None;
        refusal = allows_it;
        kept = none_kept r bytes is among;
        matches = is ∙ ap Shows (bytes_read r bytes is (eqb-true (length bytes) (512 * r.count) given) among);
      }
      by_reply (Scar named) allows_it is given = record {
        why = None;
        obstacle = Some (scar named);
        refusal = allows_it;
        kept = lowest_found blocks r.first r.count named (scar named) given
            (scar_of named (nth blocks named) (named_here named is_scar (allowed r named (Scar named) is refl among given)))
            (λ b lt inside. named_before b named _ lt (allowed r b (Scar named) is refl among inside));
        matches = is;
      }
      by_reply (BadLine named line) allows_it is given = record {
        why = None;
        obstacle = Some (bad_line named line);
        refusal = allows_it;
        kept = lowest_found blocks r.first r.count named (bad_line named line) given
            (line_of named line (nth blocks named) (named_here named (is_bad_line line) (allowed r named (BadLine named line) is refl among given)))
            (λ b lt inside. named_before b named _ lt (allowed r b (BadLine named line) is refl among inside));
        matches = is;
      }
      by_reply (Refuses why) allows_it is given = cc given

      by_why : (o : Option Why) → most_refusal 128 size r.first r.count ≡ o → is_block_reply_by o r.first r.count r.reply ≡ true → IsRead size blocks r
      by_why (Some why) refused reply = record {
        why = Some why;
        obstacle = first_obstacle blocks r.first r.count;
        refusal = refused;
        kept = refl;
        matches = refused_right why r.reply reply;
      }
      by_why None allows_it reply = by_reply r.reply allows_it refl reply

-- blocks that may be left, and that fit
pub record Leaves (reads : List BlockRead) (numbers : List ℕ) (May : List Block → Type 0) : Type 0 where
  pub left : List Block
  pub may : May left
  pub fit : (b : ℕ) → IsAmong b numbers → block_fits reads b (nth left b) ≡ true

module _ (reads : List BlockRead) (numbers : List ℕ) where
  as_it_is : (May : List Block → Type 0) (blocks : List Block) → May blocks → all_pass (block_fits reads) (nth blocks) numbers ≡ true → Leaves reads numbers May
  as_it_is May blocks may passes = record { left = blocks; may = may; fit = λ b among. all_of (λ k. block_fits reads k (nth blocks k)) b numbers passes among }

  mixed : (old to : List Block) → length to ≡ length old → list_all (λ n. block_fits reads n (nth old n) || block_fits reads n (nth to n)) numbers ≡ true → Leaves reads numbers (IsMixed old to)
  mixed old to size passes = record {
    left = mix chosen 0 old to;
    may = record { length = length-mix chosen 0 old to; each = λ i. from_either i (mix_each chosen 0 old to i) };
    fit = λ b among. by_choice b (chosen b) refl (all_of (λ n. block_fits reads n (nth old n) || block_fits reads n (nth to n)) b numbers passes among);
  }
    where
      chosen : ℕ → Bool
      chosen b = block_fits reads b (nth old b)

      same_nth : (xs ys : List Block) (i : ℕ) → slice_get xs i ≡ slice_get ys i → nth xs i ≡ nth ys i
      same_nth xs ys i same = get_or_is xs i Absent ∙ ap (or_default Absent) same ∙ sym (get_or_is ys i Absent)

      from_either : (i : ℕ) → (slice_get (mix chosen 0 old to) i ≡ slice_get old i) ⊎ (slice_get (mix chosen 0 old to) i ≡ slice_get to i)
          → (nth (mix chosen 0 old to) i ≡ nth old i) ⊎ (nth (mix chosen 0 old to) i ≡ nth to i)
      from_either i (inl same) = inl (same_nth (mix chosen 0 old to) old i same)
      from_either i (inr same) = inr (same_nth (mix chosen 0 old to) to i same)

      by_choice : (b : ℕ) (c : Bool) → chosen b ≡ c → (chosen b || block_fits reads b (nth to b)) ≡ true → block_fits reads b (nth (mix chosen 0 old to) b) ≡ true
      by_choice b true is passes_it =
          let at : 0 + b ≡ b = omega arith in
          ap (block_fits reads b) (same_nth (mix chosen 0 old to) old b (mix_first chosen 0 old to b (ap chosen at ∙ is))) ∙ is
      by_choice b false is passes_it =
          let at : 0 + b ≡ b = omega arith in
          ap (block_fits reads b) (same_nth (mix chosen 0 old to) to b (mix_second chosen 0 old to b size (ap chosen at ∙ is)))
          ∙ sym (ap (λ t. t || block_fits reads b (nth to b)) is) ∙ passes_it

  by_kind : (kind : BlocksLeft) (old to : List Block) → length to ≡ length old → blocks_pass kind (block_fits reads) old to numbers ≡ true → Leaves reads numbers (LeavesBlocks kind old to)
  by_kind Same old to size passes = as_it_is (λ left. left ≡ old) old refl passes
  by_kind Either old to size passes =
      elim (either (all_pass (block_fits reads) (nth old) numbers) (all_pass (block_fits reads) (nth to) numbers) passes) as (λ _. Leaves reads numbers (LeavesBlocks Either old to)) [
        | inl none ↦ as_it_is (LeavesBlocks Either old to) old (inl refl) none
        | inr all ↦ as_it_is (LeavesBlocks Either old to) to (inr refl) all
      ]
  by_kind Mixed old to size passes = mixed old to size passes

  pub blocks_left : (o : Option Action) (old : List Block) → blocks_may_pass o (block_fits reads) old numbers ≡ true → Leaves reads numbers (MayLeaveBlocks o old)
  blocks_left None old passes = as_it_is (λ left. left ≡ old) old refl passes
  blocks_left (Some action) old passes = by_kind (meaning action).blocks_left old ((meaning action).blocks old) (length-made action old) passes
