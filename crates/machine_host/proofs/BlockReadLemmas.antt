-- What a host and its device stand for, after a read of blocks.
use Rattle.std.proofs.Common.{◌≡◌, ◌≢◌, ℕ, ◌+◌, ◌*◌, ◌/◌, ◌%◌, ◌==◌, ◌||◌, ◌≤◌, true, false, not, Some, None, option_map, Result, Ok, Err, OnOk, List, length, nat_lt, refl, sym, ap, subst, ◌∙◌, arith}
use Rattle.std.proofs.lemmas.Bool.{le-ltb, ne_eqb}
use Rattle.line_device.specs.Medium.{WritesBack}
use Rattle.line_device.specs.Panel.{Runs}
use Rattle.line_device.specs.Device.{Device}
use Rattle.line_words.proofs.BesideLemmas.{beside-write_back}
use Rattle.nvm_model.specs.Storage.{Block}
use Rattle.nvm_model.specs.Blocks.{first_there, first_obstacle, look_blocks}
use Rattle.nvm_model.proofs.NumberedLemmas.{length-list_from}
use Rattle.block_device.specs.Area.{IsBlockLine}
use Rattle.block_device.specs.Object.{BlocksState, HasGoodMetadata, blocks_of}
use Rattle.block_device.specs.Object.{BlocksServe as ServesBlocks}
use Rattle.block_device.specs.Images.{EachReads}
use Rattle.block_device.specs.Refusals.{told, Answers, OnRefused, OnWorked, block_outcome, bytes_refusal, read_refusal, where_}
use Rattle.line_words.specs.Told.{is_done}
use Rattle.block_device.specs.Refusals.Refusal.{Range, Length, Unreadable}
use Rattle.block_device.specs.declared.fault.BlockFault.{BlockFault}
use Rattle.block_device.specs.declared.fault.BlockFault.TheVariants as fault
use Rattle.block_device.proofs.ReadLemmas.{map_read-write_back}
use Rattle.block_device.proofs.FrameLemmas.{each_reads-write_back}
use Rattle.block_device.proofs.ImageLemmas.{each_reads-then, served_reads}
use Rattle.script_text.specs.Action.Action.{BRead}
use Rattle.reply_text.specs.Answer.{Answer, IsPrintable}
use Rattle.reply_text.specs.Answer.Answer.{Bytes}
use Rattle.machine_model.specs.declared.mode.Mode.TheVariants.{On}
use Rattle.machine_model.specs.Machine.{Machine}
use Rattle.machine_model.specs.Commands.{MayLeaveBlocks, fate, longest}
use Rattle.machine_host.specs.Lines.{HasLayout}
use Rattle.machine_host.specs.Stands.{HostState, HostServes, Stands, Comes}
use Rattle.machine_model.proofs.RefusalLemmas.{fate_read}
use Rattle.machine_host.specs.Faults.{answer_after, fault_answer, mode_after}
use Rattle.machine_model.specs.OnBlocks.{refusal_answer}
use Rattle.machine_host.specs.Responding.{Answered}
use Rattle.reply_text.specs.Room.{most_of}
use Rattle.machine_host.proofs.BlockLemmas.{Called, host_after, blocks_part, change_serves, change_comes, same_host}
use Rattle.machine_host.proofs.CallLemmas.{printable_told, short_told}
use Rattle.block_device.specs.Refusals.{block_says}
use Rattle.machine_host.specs.Keeping.{is_refusal}
use Rattle.machine_host.proofs.KeepLemmas.{AnswersCall, keeps_called, keeps_inside}

-- a fault that refuses leaves the object settled
refused_done : (f : BlockFault) → told f ≢ None → is_done (block_outcome {T = Unit {0}} (Err f)) ≡ true
refused_done fault.Range told = refl
refused_done fault.Length told = refl
refused_done fault.Limit told = refl
refused_done fault.Overlap told = refl
refused_done (fault.Meta line) told = refl
refused_done (fault.Scarred block) told = refl
refused_done (fault.Poison block line) told = refl
refused_done fault.Device told = absurd (told refl)
refused_done fault.PowerLost told = absurd (told refl)

-- so many whole blocks that are there
pub length-look : (blocks : List Block) (at count : ℕ) → length (look_blocks blocks at count) ≡ 512 * count
unfolding look_blocks
length-look blocks at count = length-list_from _ (512 * at) (512 * count)

whole_blocks : (blocks block count : ℕ) → 1 ≤ count → block + count ≤ blocks → bytes_refusal blocks block (512 * count) ≡ None
whole_blocks blocks block count some within =
    let touched : (512 * count + 511) / 512 ≡ count = omega arith in
    let inside : nat_lt blocks (block + (512 * count + 511) / 512) ≡ false = le-ltb blocks (block + (512 * count + 511) / 512) (omega (arith, touched)) in
    let rest : (512 * count) % 512 ≡ 0 = omega arith in
    ap (λ b. first_there (where_ b Range) (where_ (512 * count == 0 || not ((512 * count) % 512 == 0)) Length)) inside
    ∙ ap (λ b. where_ (b || not ((512 * count) % 512 == 0)) Length) (nonzero (512 * count) (omega arith))
    ∙ ap (λ n. where_ (not (n == 0)) Length) rest
  where
    nonzero : (n : ℕ) → 1 ≤ n → (n == 0) ≡ false
    nonzero n some = ne_eqb n 0 (λ e. omega arith)

module _ (now host after : HostState) (s : BlocksState) (r : Result (Unit {0}) BlockFault) (block count len calls : ℕ) (Q : Type 0) (old new : Device)
    (inside : host ≡ now) (state : after ≡ host_after host s (mode_after block_says r)) (on : now.mode ≡ On) (serves : HostServes now old) (few : calls ≤ 8 * count) (size : len ≡ 512 * count)
    (untouched : OnRefused r (Q × (new ≡ old))) (lines : WritesBack old.medium new.medium) (served : ServesBlocks s new.medium)
    (object : s ≡ record host.blocks { settled = is_done (block_outcome r) }) (runs : Runs calls 0 (block_outcome r) old.panel new.panel) where
  settled_was : host.blocks.settled ≡ true
  settled_was = ap (λ k. k.blocks.settled) inside ∙ (serves.mounted on).settled

  geo_was : now.geometry ≡ host.blocks.geo
  geo_was = sym (serves.mounted on).geometry ∙ sym (ap (λ k. k.blocks.geo) inside)

  same_object : (q : Result (Unit {0}) BlockFault) → OnRefused q (Q × (new ≡ old)) → s ≡ record host.blocks { settled = is_done (block_outcome q) } → OnRefused q ((s ≡ host.blocks) × (new ≡ old))
  same_object (Ok x) left is = tt
  same_object (Err f) left is = λ told. (is ∙ ap (λ b. record host.blocks { settled = b }) (refused_done f told ∙ sym settled_was), (left told).1)

  on_worked : {P : Type 0} (q : Result (Unit {0}) BlockFault) → P → OnWorked q P
  on_worked (Ok x) p = p
  on_worked (Err f) p = λ told. p

  -- a read leaves the blocks
  abbrev may : List Block → Type 0
  may = MayLeaveBlocks (Some (BRead block count)) (blocks_of host.blocks old.medium)

  reads : HasGoodMetadata host.blocks.geo old.medium → EachReads host.blocks.geo new.medium may
  reads good =
      let layout = subst (λ g. HasLayout g old.medium) geo_was serves.layout in
      let served_was = subst (λ k. ServesBlocks k.blocks old.medium) (sym inside) (serves.mounted on).serves in
      each_reads-write_back host.blocks.geo old.medium new.medium may layout.valid lines
      (each_reads-then host.blocks.geo old.medium (λ bs. bs ≡ blocks_of host.blocks old.medium) may (λ bs e. e)
      (served_reads host.blocks old.medium good served_was))

  call : Called host s r may calls 0 old new
  call = record {
    untouched = same_object r untouched object;
    images = λ good. on_worked r (reads good);
    outside = beside-write_back (IsBlockLine host.blocks.geo) old.medium new.medium lines;
    marks = λ n below. lines.bad n;
    serves = λ _. served;
    object = (ap (λ k. k.geo) object, ap (λ k. k.settled) object);
    runs = runs;
  }

  blocks_stay : blocks_of s new.medium ≡ blocks_of host.blocks old.medium
  blocks_stay = ap (λ k. blocks_of k new.medium) object ∙ map_read-write_back host.blocks.geo host.blocks.map old.medium new.medium lines

  on_ok : {P : Type 0} (q : Result (Unit {0}) BlockFault) → P → OnOk q P
  on_ok (Ok x) p = p
  on_ok (Err f) p = tt

  read_comes : (h : Machine) (answer : Answer) → Stands now old h → 1 ≤ count → count ≤ 128 → block + count ≤ now.geometry.blocks
      → Answers (read_refusal host.blocks old.medium block len) r → (blocks_of host.blocks old.medium ≡ h.blocks → answer ≡ answer_after block_says refusal_answer (Bytes (look_blocks h.blocks block count)) r)
      → Comes h (BRead block count) (fate h (BRead block count)) answer after old new
  read_comes h answer stands some most within refused answer_is =
      let stays : blocks_of host.blocks old.medium ≡ h.blocks = ap (λ k. blocks_of k.blocks old.medium) inside ∙ stands.blocks on in
      let many : 512 * count / 512 ≡ count = omega arith in
      let none : bytes_refusal host.blocks.geo.blocks block (512 * count) ≡ None = whole_blocks host.blocks.geo.blocks block count some (subst (λ g. block + count ≤ g.blocks) geo_was within) in
      let why : read_refusal host.blocks old.medium block (512 * count) ≡ option_map Unreadable (first_obstacle h.blocks block count) =
      ap (λ o. first_there o (option_map Unreadable (first_obstacle (blocks_of host.blocks old.medium) block (512 * count / 512)))) none
      ∙ ap (λ n. option_map Unreadable (first_obstacle (blocks_of host.blocks old.medium) block n)) many
      ∙ ap (λ bs. option_map Unreadable (first_obstacle bs block count)) stays in
      change_comes now host after s r calls 0 old new inside state on serves (BRead block count) (λ _. few) (λ _. omega arith) call h (Bytes (look_blocks h.blocks block count)) answer
      (option_map Unreadable (first_obstacle h.blocks block count)) (λ bs. bs) refl stands refl
      (λ serves stands on. fate_read h block count (sym stands.mode ∙ on) some (subst (λ g. block + count ≤ g.blocks) (sym (ap (λ k. k.geometry) inside) ∙ stands.geometry) within) most)
      (subst (λ o. Answers o r) why (subst (λ n. Answers (read_refusal host.blocks old.medium block n) r) size refused)) (on_ok r blocks_stay) (answer_is stays)

  pub read_answered : (answer : Answer) → 1 ≤ count → count ≤ 128 → block + count ≤ now.geometry.blocks → Answers (read_refusal host.blocks old.medium block len) r
      → ((h : Machine) → blocks_of host.blocks old.medium ≡ h.blocks → answer ≡ answer_after block_says refusal_answer (Bytes (look_blocks h.blocks block count)) r) → AnswersCall block_says refusal_answer r answer → most_of answer ≤ longest (BRead block count) → IsPrintable answer
      → Answered (BRead block count) answer now after old new
  read_answered answer some most within refused answer_is told room printable = record {
    keeps = keeps_inside (is_refusal answer) (BRead block count) now host after (host_after host s (mode_after block_says r)) old new inside state
        (keeps_called block_says refusal_answer r answer told (BRead block count) host (host_after host s) old new (ap (λ k. k.mode) inside ∙ on) (same_host host s r old new call.untouched) lines);
    printable = printable;
    step = λ h stands. read_comes h answer stands some most within refused (answer_is h);
    room = room;
    serves = change_serves now host after s r calls 0 old new inside state on serves (BRead block count) (λ _. few) (λ _. omega arith) call;
  }

-- the answer of a fault is short
pub room_of_fault : (f : BlockFault) (answer : Answer) (count : ℕ) → answer ≡ fault_answer f → most_of answer ≤ 72 + 3 * (512 * count)
room_of_fault f answer count is = let short = subst (λ a. most_of a ≤ 72) (sym is) (short_told refusal_answer blocks_part.short (block_says f)) in omega (arith, short)

pub printable_fault : (f : BlockFault) (answer : Answer) → answer ≡ fault_answer f → IsPrintable answer
printable_fault f answer is = subst IsPrintable (sym is) (printable_told refusal_answer blocks_part.printable (block_says f))
