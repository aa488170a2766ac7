-- What a read of one block is answered, and what that tells of the block.
use Rattle.std.proofs.Common.{◌≡◌, ◌≢◌, ◌<◌, ◌≤◌, ◌+◌, ◌-◌, ◌++◌, ℕ, Bool, true, false, Option, Some, None, option_map, List, [], ◌∷◌, length, get_or, take, min, nat_lt, if◌then◌else◌, inl, inr, refl, sym, ap, subst, ◌∙◌, arith}
use Rattle.std.proofs.lemmas.Bool.{le-ltb}
use Rattle.std.proofs.lemmas.List.{append_assoc, append-nil, length-take, take_more}
use Rattle.std.proofs.lemmas.List.Folds.{list_all-map, list_all_at}
use Rattle.line_device.specs.Device.{Device}
use Rattle.nvm_model.specs.Blocks.{Obstacle, first_obstacle, first_there, look_blocks, nth, obstacle_in}
use Rattle.nvm_model.specs.Storage.{Block}
use Rattle.nvm_model.specs.Storage.Block.{Absent, Scarred as Scar_kept, Data}
use Rattle.nvm_model.specs.Blocks.Obstacle.{scar, bad_line}
use Rattle.block_sights.specs.Sights.{Sight, obstacle_seen, sight, sight_of_lines}
use Rattle.block_sights.specs.Sights.Sight.{BadLine, Scar, Whole}
use Rattle.block_sights.proofs.SeenLemmas.{read_seen, seen_size}
use Rattle.block_device.specs.Refusals.Refusal.{Unreadable}
use Rattle.reply_text.specs.declared.reply.Why.TheVariants as because
use Rattle.reply_text.specs.Answer.{Answer}
use Rattle.reply_text.specs.Answer.Answer.{Bytes, PoisonBlock, Refused, Scarred}
use Rattle.script_text.specs.Action.{Action}
use Rattle.script_text.specs.Action.Action.{BRead}
use Rattle.cut_places.specs.MachineModel.Machine.{Machine}
use Rattle.cut_places.specs.MachineModel.Machine.Fate.{Works}
use Rattle.cut_places.specs.MachineModel.Commands.{fate, meaning, refusal, unless_refused, while_interrupted}
use Rattle.cut_places.specs.MachineModel.Meaning.{first_reason, mode_refusal, most_refusal}
use Rattle.cut_places.specs.MachineModel.OnBlocks.{refusal_answer}
use Rattle.line_words.specs.declared.interruption.Interruption.{Interruption}
use Rattle.line_words.specs.declared.interruption.Interruption.TheVariants.{Failed, PowerLost as Lost}
use Rattle.cut_places.specs.MachineModel.Interrupted.{interrupted_answer}
use Rattle.cut_places.specs.MachineModel.Run.{Ends, Takes, Transcript}
use Rattle.machine_host.specs.Stands.{Comes, HostState, Stands}
use Rattle.cut_places.specs.Outcomes.Finds.{IsReady}
use Rattle.explorer.specs.declared.came.Came.TheVariants.{Stopped}
use Rattle.explorer.specs.Coming.{came_of}
use Rattle.std.specs.List.{list_all, range_with_len}
use Rattle.cut_places.specs.Outcomes.Blocks.{all_numbers_read, is_block_reply, numbers_read}
use Rattle.cut_places.specs.AskedReads.Reads.{block_read, block_reply, blocks_asked}
use Rattle.cut_places.specs.AskedReads.declared.reads.BlockRead.{BlockRead as Asked}
use Rattle.nvm_model.proofs.RangeLemmas.{range-split}
use Rattle.cut_places.specs.SightsSeen.declared.block_seen.BlockSeen.{BlockSeen}
use Rattle.cut_places.specs.SightsSeen.Units.{AreBlocks, block_numbers}
use Rattle.explorer.proofs.ComesLemmas.{CameTo, came_to, done, refused, stopped}

-- the head of what was read, of one block
pub head_bytes : (work bytes : List ℕ) (n : ℕ) → length work ≡ 65536 → length bytes ≡ 512 → Bytes (take n work) ≡ Bytes bytes → take 512 work ≡ bytes
head_bytes work bytes n wide size same =
    let these : take n work ≡ bytes = cc same in
    let least : min n (length work) ≡ 512 = sym (length-take n work) ∙ ap length these ∙ size in
    let number : 512 ≡ n = omega (arith, least, wide) in
    ap (λ k. take k work) number ∙ these

-- a block tells by what is seen of it what keeps it from being read
obstacle_told : (b : ℕ) (block : Block) → obstacle_in b block ≡ obstacle_seen b (sight block)
obstacle_told b Absent = refl
obstacle_told b Scar_kept = refl
obstacle_told b (Data lines) = by_line _
  where
    by_line : (o : Option ℕ) → option_map (bad_line b) o ≡ obstacle_seen b (sight_of_lines lines o)
    by_line None = refl
    by_line (Some k) = refl

told_alone : (o : Option Obstacle) → option_map (λ obstacle. refusal_answer (Unreadable obstacle)) (first_there o None) ≡ option_map (λ obstacle. refusal_answer (Unreadable obstacle)) o
told_alone None = refl
told_alone (Some obstacle) = refl

none_past : (blocks b : ℕ) → b < blocks → most_refusal 128 blocks b 1 ≡ None
none_past blocks b lt =
    let past : nat_lt blocks (b + 1) ≡ false = le-ltb blocks (b + 1) (omega (arith, lt)) in
    ap (λ t. first_there (if t then Some because.Range else None) None) past

pub stop_came : (by : Interruption) → came_of (interrupted_answer by) ≡ Stopped
stop_came Failed = refl
stop_came Lost = refl

pub same_answer : (a b : Answer) → a ∷ [] ≡ b ∷ [] → a ≡ b
same_answer a b is = cc is

-- What a read of block b was answered, in h: its bytes, or what keeps it from being read; or the device stopped it.
pub data Tells (h : Machine) (b : ℕ) (answer : Answer) (next : Machine) : Type 0 where
  bytes : next ≡ h → answer ≡ Bytes (look_blocks h.blocks b 1) → sight (nth h.blocks b) ≡ Whole (look_blocks h.blocks b 1) → Tells h b answer next
  scarred : next ≡ h → answer ≡ Scarred b → sight (nth h.blocks b) ≡ Scar → Tells h b answer next
  bad : (line : ℕ) → next ≡ h → answer ≡ PoisonBlock b line → sight (nth h.blocks b) ≡ BadLine line → Tells h b answer next
  none : came_of answer ≡ Stopped → Tells h b answer next

module _ (h : Machine) (b : ℕ) (ready : IsReady h) (within : b < h.geometry.blocks) where
  abbrev action : Action
  action = BRead b 1

  abbrev answered_so : Option Obstacle → Option Answer
  answered_so o = option_map (λ obstacle. refusal_answer (Unreadable obstacle)) o

  -- it is refused only where the block can't be read
  refused_so : refusal h action ≡ answered_so (obstacle_in b (nth h.blocks b))
  unfolding refusal
  refused_so =
      ap (λ mode. first_reason (mode_refusal mode h.bad_meta (meaning action).needs) h.bad_meta ((meaning action).reasons h)) ready.mode
      ∙ ap (λ past. first_there (option_map Refused past) (answered_so (first_obstacle h.blocks b 1))) (none_past h.geometry.blocks b within)
      ∙ told_alone (obstacle_in b (nth h.blocks b))

  pub tells : (host : HostState) (answer : Answer) (old new : Device) (comes : Comes h action (fate h action) answer host old new) → Tells h b answer comes.next
  tells host answer old new comes = by_sight (sight (nth h.blocks b)) refl
    where
      told : (given : Answer) → comes.said.answers ≡ given ∷ [] → answer ≡ given
      told given is = same_answer answer given (sym comes.answers ∙ is)

      takes : (o : Option Obstacle) → obstacle_in b (nth h.blocks b) ≡ o → Takes h action (unless_refused h (answered_so o) (Works (Bytes (look_blocks h.blocks b 1)) h)) comes.said comes.next
      takes o is = subst (λ r. Takes h action (unless_refused h r (Works (Bytes (look_blocks h.blocks b 1)) h)) comes.said comes.next) (refused_so ∙ ap answered_so is) comes.takes

      by_end : (given : Answer) → answer ≡ given → obstacle_in b (nth h.blocks b) ≡ None → Ends (Bytes (look_blocks h.blocks b 1)) h (while_interrupted h action) given comes.next → Tells h b answer comes.next
      by_end given is free (inl end) = bytes end.1 (is ∙ end.0) (read_seen b h.blocks free)
      by_end given is free (inr end) = none (ap came_of (is ∙ end.1) ∙ stop_came end.0)

      by_sight : (seen : Sight) → sight (nth h.blocks b) ≡ seen → Tells h b answer comes.next
      by_sight (Whole xs) is =
          let free : obstacle_in b (nth h.blocks b) ≡ None = obstacle_told b (nth h.blocks b) ∙ ap (obstacle_seen b) is in
          let took = takes None free in
          by_end took.0 (told took.0 (ap (λ (t : Transcript). t.answers) took.1)) free took.2
      by_sight Scar is =
          let took = takes (Some (scar b)) (obstacle_told b (nth h.blocks b) ∙ ap (obstacle_seen b) is) in
          scarred took.1 (told (Scarred b) (ap (λ (t : Transcript). t.answers) took.0)) is
      by_sight (BadLine line) is =
          let took = takes (Some (bad_line b line)) (obstacle_told b (nth h.blocks b) ∙ ap (obstacle_seen b) is) in
          bad line took.1 (told (PoisonBlock b line) (ap (λ (t : Transcript). t.answers) took.0)) is

-- where the device did not stop it, the state is as it was
pub stays : (h : Machine) (b : ℕ) (host : HostState) (answer : Answer) (old new : Device) (comes : Comes h (BRead b 1) (fate h (BRead b 1)) answer host old new)
    → came_of answer ≢ Stopped → comes.next ≡ h
stays h b host answer old new comes some = by_case (came_to host h (BRead b 1) answer old new refl comes)
  where
    by_case : CameTo h (BRead b 1) answer comes.next → comes.next ≡ h
    by_case (refused is why same) = same
    by_case (done is allowed same) = same
    by_case (stopped by is) = absurd (some (ap came_of is ∙ stop_came by))

-- so host and device stand for it again
pub stands_again : (h : Machine) (b : ℕ) (host : HostState) (answer : Answer) (old new : Device) → Comes h (BRead b 1) (fate h (BRead b 1)) answer host old new
    → came_of answer ≢ Stopped → Stands host new h
stands_again h b host answer old new comes some = subst (Stands host new) (stays h b host answer old new comes some) comes.stands

-- the block that such a read told
pub sees : (h : Machine) (b : ℕ) (answer : Answer) (next : Machine) (block : Sight) → Tells h b answer next → came_of answer ≢ Stopped
    → ((bytes : List ℕ) → answer ≡ Bytes bytes → length bytes ≡ 512 → block ≡ Whole bytes) → ((k : ℕ) → answer ≡ Scarred k → block ≡ Scar)
    → ((k line : ℕ) → answer ≡ PoisonBlock k line → block ≡ BadLine line) → block ≡ sight (nth h.blocks b)
sees h b answer next block (bytes same is seen) some whole scarred_so bad_so = whole (look_blocks h.blocks b 1) is (seen_size (nth h.blocks b) _ seen) ∙ sym seen
sees h b answer next block (scarred same is seen) some whole scarred_so bad_so = scarred_so b is ∙ sym seen
sees h b answer next block (bad line same is seen) some whole scarred_so bad_so = bad_so b line is ∙ sym seen
sees h b answer next block (none is) some whole scarred_so bad_so = absurd (some is)

-- what a block was put behind has it
pub put_behind : (old new : List BlockSeen) (seen : BlockSeen) (put : Bool) → new ≡ (if put then old ++ seen ∷ [] else old) → true ≡ put → new ≡ old ++ seen ∷ []
put_behind old new seen put is so = is ∙ ap (λ t. if t then old ++ seen ∷ [] else old) (sym so)

-- one more block that is looked at
pub one_more : (f : ℕ → Sight) (seen : BlockSeen) (blocks : List BlockSeen) → AreBlocks f blocks → seen.block ≡ f seen.number → AreBlocks f (blocks ++ seen ∷ [])
one_more f seen [] are is = (is, tt)
one_more f seen (first ∷ blocks) are is = (are.0, one_more f seen blocks are.1 is)

pub number_more : (seen : BlockSeen) (blocks : List BlockSeen) → block_numbers (blocks ++ seen ∷ []) ≡ block_numbers blocks ++ seen.number ∷ []
number_more seen [] = refl
number_more seen (first ∷ blocks) = ap (λ xs. first.number ∷ xs) (number_more seen blocks)

pub range_more : (a n : ℕ) → range_with_len a (n + 1) ≡ range_with_len a n ++ (a + n) ∷ []
range_more a n = range-split a n 1

-- the numbers of one more, behind those of a range
pub numbers_more : (old : List ℕ) (first b : ℕ) (seen : BlockSeen) (blocks : List BlockSeen) → first ≤ b → seen.number ≡ b
    → block_numbers blocks ≡ old ++ range_with_len first (b - first) → block_numbers (blocks ++ seen ∷ []) ≡ old ++ range_with_len first (b + 1 - first)
numbers_more old first b seen blocks le number are =
    let further : b - first + 1 ≡ b + 1 - first = omega (arith, le) in
    let at : seen.number ≡ first + (b - first) = omega (arith, le, number) in
    number_more seen blocks ∙ ap (λ xs. xs ++ seen.number ∷ []) are ∙ append_assoc old (range_with_len first (b - first)) (seen.number ∷ [])
    ∙ ap (λ n. old ++ (range_with_len first (b - first) ++ n ∷ [])) at ∙ ap (λ xs. old ++ xs) (sym (range_more first (b - first)) ∙ ap (range_with_len first) further)

-- the numbers of one more read, behind those before it
all_numbers-append : (reads : List Asked) (r : Asked)
    → all_numbers_read (blocks_asked (reads ++ r ∷ [])) ≡ all_numbers_read (blocks_asked reads) ++ numbers_read r.first r.count (block_reply r.reply)
all_numbers-append [] r = append-nil _
all_numbers-append (first ∷ reads) r =
    let numbers = numbers_read first.first first.count (block_reply first.reply) in
    ap (λ xs. numbers ++ xs) (all_numbers-append reads r) ∙ sym (append_assoc numbers (all_numbers_read (blocks_asked reads)) (numbers_read r.first r.count (block_reply r.reply)))

all_numbers-more : (reads : List Asked) (i : ℕ) (r : Asked) → i < length reads → r ≡ get_or reads i r
    → all_numbers_read (blocks_asked (take i reads)) ++ numbers_read r.first r.count (block_reply r.reply) ≡ all_numbers_read (blocks_asked (take (i + 1) reads))
all_numbers-more reads i r lt is =
    sym (ap (λ xs. all_numbers_read (blocks_asked xs)) (take_more reads i r lt ∙ ap (λ x. take i reads ++ x ∷ []) (sym is)) ∙ all_numbers-append (take i reads) r)

-- numbers that one more read was put behind
pub read_behind : (reads : List Asked) (i : ℕ) (r : Asked) (old new : List ℕ) → i < length reads → r ≡ get_or reads i r
    → new ≡ old ++ numbers_read r.first r.count (block_reply r.reply) → old ≡ all_numbers_read (blocks_asked (take i reads)) → new ≡ all_numbers_read (blocks_asked (take (i + 1) reads))
read_behind reads i r old new lt is more before =
    more ∙ ap (λ xs. xs ++ numbers_read r.first r.count (block_reply r.reply)) before ∙ all_numbers-more reads i r lt is

-- each reply is one that a read has
pub reply_at : (blocks : ℕ) (reads : List Asked) (i : ℕ) (r : Asked) → i < length reads → r ≡ get_or reads i r
    → list_all (is_block_reply blocks) (blocks_asked reads) ≡ true → is_block_reply blocks (block_read r) ≡ true
reply_at blocks reads i r lt is all = by_test (is_block_reply blocks (block_read r)) refl
  where
    by_test : (t : Bool) → is_block_reply blocks (block_read r) ≡ t → t ≡ true
    by_test true so = refl
    by_test false so =
        let none : list_all (λ x. is_block_reply blocks (block_read x)) reads ≡ false =
        list_all_at (λ x. is_block_reply blocks (block_read x)) reads i r lt (ap (λ x. is_block_reply blocks (block_read x)) (sym is) ∙ so) in
        sym none ∙ sym (list_all-map (is_block_reply blocks) block_read reads) ∙ all
