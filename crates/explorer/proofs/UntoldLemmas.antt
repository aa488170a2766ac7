-- Where a look is told nothing of a line or of a block, the device stopped it.
use Rattle.std.proofs.Common.{◌≡◌, ◌≢◌, ◌+◌, ◌*◌, ◌/◌, ◌<◌, if◌then◌else◌, ℕ, Bool, true, false, nat_lt, Option, Some, None, option_map, List, slice_index_or, refl, sym, ap, ◌∙◌, arith}
use Rattle.std.proofs.lemmas.Bool.{le-ltb, lt-ltb}
use Rattle.line_device.specs.Device.{Device}
use Rattle.nvm_base.specs.Stock.{Stock}
use Rattle.nvm_base.specs.declared.files.FileEntry.{FileEntry}
use Rattle.nvm_model.specs.Blocks.{first_there, look_blocks}
use Rattle.nvm_model.specs.Page.{first_bad_line, look, presence_of}
use Rattle.pm_volume.specs.Refusals.{poisoned_at}
use Rattle.reply_text.specs.Answer.{Answer, answer_of}
use Rattle.reply_text.specs.Answer.Answer.{Bytes, Files, No, PoisonBlock, PoisonFile, PoisonVolume, Refused as IsRefused, Scarred, Yes}
use Rattle.reply_text.specs.declared.reply.Reply.{Reply}
use Rattle.reply_text.specs.declared.reply.Reply.TheVariants as reply
use Rattle.reply_text.specs.declared.reply.Why.TheVariants as because
use Rattle.script_text.specs.Action.Action.{BRead, VExists, VLoad}
use Rattle.cut_places.specs.MachineModel.declared.mode.Mode.TheVariants.{On}
use Rattle.cut_places.specs.MachineModel.declared.needs.Needs.TheVariants.{Usable}
use Rattle.machine_host.specs.declared.outcome.Outcome.{Outcome}
use Rattle.machine_host.specs.declared.outcome.Outcome.TheVariants.{Read, Reply as Replied}
use Rattle.cut_places.specs.MachineModel.Machine.{Machine}
use Rattle.cut_places.specs.MachineModel.Commands.{fate, meaning, refusal}
use Rattle.cut_places.specs.MachineModel.Meaning.{first_reason, mode_refusal}
use Rattle.cut_places.specs.MachineModel.OnVolume.{volume_answer, yes_or_no}
use Rattle.machine_host.specs.Responding.{outcome_answer}
use Rattle.machine_host.specs.Stands.{Comes, HostState}
use Rattle.cut_places.specs.Outcomes.Finds.{IsReady}
use Rattle.explorer.specs.Stopping.{DeviceStopped, TellsNoBlock}
use Rattle.explorer.proofs.BlockLookLemmas.{Tells, bad, bytes, none, scarred, tells}
use Rattle.explorer.proofs.CauseLemmas.{by_answer, cut_off_unless_done, was_cut_off}
use Rattle.explorer.proofs.ComesLemmas.{CameTo, came_to, done, refused, stopped}
use Rattle.explorer.proofs.LookLemmas.{told_done}

-- what no outcome is, no answer is
pub not_yes : (work : List ℕ) (o : Outcome) → o ≢ Replied reply.Yes → outcome_answer work o ≢ Yes
not_yes work (Read n) other is = cc is
not_yes work (Replied r) other is = other (ap Replied (by_reply r is))
  where
    by_reply : (r : Reply) → answer_of r ≡ Yes → r ≡ reply.Yes
    by_reply reply.Yes is = refl
    by_reply some is = cc is

pub not_no : (work : List ℕ) (o : Outcome) → o ≢ Replied reply.No → outcome_answer work o ≢ No
not_no work (Read n) other is = cc is
not_no work (Replied r) other is = other (ap Replied (by_reply r is))
  where
    by_reply : (r : Reply) → answer_of r ≡ No → r ≡ reply.No
    by_reply reply.No is = refl
    by_reply some is = cc is

pub not_bytes : (work : List ℕ) (o : Outcome) → ((n : ℕ) → o ≢ Read n) → (read : List ℕ) → outcome_answer work o ≢ Bytes read
not_bytes work (Read n) other read is = other n refl
not_bytes work (Replied r) other read is = by_reply r is
  where
    by_reply : (r : Reply) → answer_of r ≢ Bytes read
    by_reply reply.Done is = cc is
    by_reply some is = cc is

pub not_poison : (work : List ℕ) (o : Outcome) → ((n : ℕ) → o ≢ Replied (reply.PoisonVolume n)) → (n : ℕ) → outcome_answer work o ≢ PoisonVolume n
not_poison work (Read k) other n is = cc is
not_poison work (Replied r) other n is = other n (ap Replied (by_reply r is))
  where
    by_reply : (r : Reply) → answer_of r ≡ PoisonVolume n → r ≡ reply.PoisonVolume n
    by_reply (reply.PoisonVolume k) is = let same : k ≡ n = cc is in ap reply.PoisonVolume same
    by_reply some is = cc is

pub not_file_poison : (work : List ℕ) (o : Outcome) → ((name : List ℕ) (n : ℕ) → o ≢ Replied (reply.PoisonFile name n)) → (name : List ℕ) (n : ℕ) → outcome_answer work o ≢ PoisonFile name n
not_file_poison work (Read k) other name n is = cc is
not_file_poison work (Replied r) other name n is = other name n (ap Replied (by_reply r is))
  where
    by_reply : (r : Reply) → answer_of r ≡ PoisonFile name n → r ≡ reply.PoisonFile name n
    by_reply (reply.PoisonFile text k) is =
        let same : text ≡ name = cc is in
        let offset : k ≡ n = cc is in
        ap (λ x. reply.PoisonFile x k) same ∙ ap (reply.PoisonFile name) offset
    by_reply some is = cc is

pub not_listed : (work : List ℕ) (o : Outcome) → ((files : Stock FileEntry) → o ≢ Replied (reply.Files files)) → (entries : List FileEntry) → outcome_answer work o ≢ Files entries
not_listed work (Read k) other entries is = cc is
not_listed work (Replied r) other entries is = by_reply r refl is
  where
    by_reply : (some : Reply) → some ≡ r → answer_of some ≢ Files entries
    by_reply (reply.Files files) same is = other files (ap Replied (sym same))
    by_reply some same is = cc is

not_scarred : (work : List ℕ) (o : Outcome) → ((b : ℕ) → o ≢ Replied (reply.Scarred b)) → (b : ℕ) → outcome_answer work o ≢ Scarred b
not_scarred work (Read k) other b is = cc is
not_scarred work (Replied r) other b is = other b (ap Replied (by_reply r is))
  where
    by_reply : (r : Reply) → answer_of r ≡ Scarred b → r ≡ reply.Scarred b
    by_reply (reply.Scarred k) is = let same : k ≡ b = cc is in ap reply.Scarred same
    by_reply some is = cc is

not_bad : (work : List ℕ) (o : Outcome) → ((b n : ℕ) → o ≢ Replied (reply.PoisonBlock b n)) → (b n : ℕ) → outcome_answer work o ≢ PoisonBlock b n
not_bad work (Read k) other b n is = cc is
not_bad work (Replied r) other b n is = other b n (ap Replied (by_reply r is))
  where
    by_reply : (r : Reply) → answer_of r ≡ PoisonBlock b n → r ≡ reply.PoisonBlock b n
    by_reply (reply.PoisonBlock k m) is =
        let same : k ≡ b = cc is in
        let line : m ≡ n = cc is in
        ap (λ x. reply.PoisonBlock x m) same ∙ ap (reply.PoisonBlock b) line
    by_reply some is = cc is

pub no_block_in : (work : List ℕ) (o : Outcome) → ((n : ℕ) → o ≢ Read n) → ((b : ℕ) → o ≢ Replied (reply.Scarred b)) → ((b n : ℕ) → o ≢ Replied (reply.PoisonBlock b n))
    → TellsNoBlock (outcome_answer work o)
no_block_in work o read scar line = record { bytes = not_bytes work o read; scarred = not_scarred work o scar; bad_line = not_bad work o line }

-- a page is told of that the volume has
exists_allowed : (h : Machine) (page : ℕ) → h.mode ≡ On → page < h.geometry.vpages → refusal h (VExists page) ≡ None
unfolding refusal
exists_allowed h page on lt =
    ap (λ mode. first_reason (mode_refusal mode h.bad_meta Usable) h.bad_meta ((meaning (VExists page)).reasons h)) on
    ∙ ap (λ there. first_there (if there then None else Some (IsRefused because.Range)) None) (lt-ltb page h.geometry.vpages lt)

-- and a load of a line that it has is refused only where the line is bad
load_refused : (h : Machine) (n : ℕ) → h.mode ≡ On → n < 64 * h.geometry.vpages
    → refusal h (VLoad (64 * n) 64) ≡ option_map volume_answer (poisoned_at (first_bad_line h.volume (64 * n) 64))
unfolding refusal
load_refused h n on lt =
    let past : nat_lt (4096 * h.geometry.vpages) (64 * n + 64) ≡ false = le-ltb (4096 * h.geometry.vpages) (64 * n + 64) (omega (arith, lt)) in
    ap (λ mode. first_reason (mode_refusal mode h.bad_meta Usable) h.bad_meta ((meaning (VLoad (64 * n) 64)).reasons h)) on
    ∙ ap (λ over. first_there (option_map IsRefused (first_there (if over then Some because.Range else None) None)) (option_map volume_answer (poisoned_at (first_bad_line h.volume (64 * n) 64)))) past

no_word : (b : Bool) (answer : Answer) → answer ≡ yes_or_no b → answer ≢ Yes → answer ≢ No → ⊥
no_word true answer is some other = some is
no_word false answer is some other = other is

no_poison : (l : Option ℕ) (answer : Answer) → option_map volume_answer (poisoned_at l) ≡ Some answer → ((offset : ℕ) → answer ≢ PoisonVolume offset) → ⊥
no_poison None answer is other = cc is
no_poison (Some m) answer is other = other (64 * m) (cc is)

module _ (host : HostState) (h : Machine) (answer : Answer) (old new : Device) (ready : IsReady h) where
  module _ (n : ℕ) (within : n < 64 * h.geometry.vpages) where
    pub no_page_told : Comes h (VExists (n / 64)) (fate h (VExists (n / 64))) answer host old new → answer ≢ Yes → answer ≢ No → DeviceStopped old.panel new.panel
    no_page_told comes some other =
        cut_off_unless_done host h (VExists (n / 64)) answer old new comes refl (exists_allowed h (n / 64) ready.mode (omega (arith, within)))
        (λ is. no_word (slice_index_or (presence_of h.volume) (n / 64) false) answer (told_done host h (VExists (n / 64)) answer old new refl comes is).1.0 some other)

    pub no_line_told : Comes h (VLoad (64 * n) 64) (fate h (VLoad (64 * n) 64)) answer host old new → ((read : List ℕ) → answer ≢ Bytes read)
        → ((offset : ℕ) → answer ≢ PoisonVolume offset) → DeviceStopped old.panel new.panel
    no_line_told comes unread other = by_case (came_to host h (VLoad (64 * n) 64) answer old new refl comes)
      where
        by_case : CameTo h (VLoad (64 * n) 64) answer comes.next → DeviceStopped old.panel new.panel
        by_case (refused is why same) =
            absurd (no_poison (first_bad_line h.volume (64 * n) 64) answer (sym (load_refused h n ready.mode within) ∙ why) other)
        by_case (done is allowed same) =
            absurd (unread (look h.volume (64 * n) 64) (told_done host h (VLoad (64 * n) 64) answer old new refl comes is).1.0)
        by_case (stopped by is) = by_answer host h (VLoad (64 * n) 64) answer old new comes by is

  pub no_block_told : (b : ℕ) → b < h.geometry.blocks → Comes h (BRead b 1) (fate h (BRead b 1)) answer host old new → TellsNoBlock answer → DeviceStopped old.panel new.panel
  no_block_told b within comes untold = by_case (tells h b ready within host answer old new comes)
    where
      by_case : Tells h b answer comes.next → DeviceStopped old.panel new.panel
      by_case (bytes same is seen) = absurd (untold.bytes (look_blocks h.blocks b 1) is)
      by_case (scarred same is seen) = absurd (untold.scarred b is)
      by_case (bad line same is seen) = absurd (untold.bad_line b line is)
      by_case (none is) = was_cut_off host h (BRead b 1) answer old new comes refl (sym is)
