-- What a form does or fails at, as a whole.
use Rattle.std.proofs.Common.{◌≡◌, ◌⊎◌, inl, inr, ℕ, ◌≤◌, ◌≢◌, List, [], ◌++◌, Option, Some, None, Result, Ok, Err, refl, sym, ap, ap₂, subst, ◌∙◌, append-nil, arith}
use Rattle.std.specs.Prelude.{⊤, codes, decimal, IfSome}
use Rattle.std.specs.Io.KnownBytes.{Appends}
use Rattle.nvm_base.specs.Counts.{Rose, raised}
use Rattle.command_line.specs.Words.{Form}
use Rattle.command_line.specs.Words.Form.{of_bench, of_check, of_new, of_run}
use Rattle.command_line.specs.declared.fault.WordsFault.{WordsFault}
use Rattle.command_line.specs.declared.fault.WordsFault.TheVariants as words
use Rattle.host_io.specs.Images.{CountsReplace, Held, KeepsHeld}
use Rattle.host_io.specs.declared.images.ImageCounts.{ImageCounts}
use Rattle.host_io.specs.declared.sink.WriteFault.{WriteFault}
use Rattle.host_io.specs.declared.sink.WriteFault.TheVariants as write
use Rattle.line_device.specs.Device.{Device}
use Rattle.line_device.specs.Medium.{IsSound}
use Rattle.line_device.specs.Panel.{IsUnit, KeepsPower, Panel, SetsUp, after_disarm}
use Rattle.line_device.specs.Panel.Outcome.{went}
use Rattle.word_tables.specs.declared.geometry.Geometry.{Geometry}
use Rattle.machine_model.specs.declared.mode.Mode.TheVariants as modes
use Rattle.machine_host.specs.Machine.{Machine, bad_of}
use Rattle.machine_host.specs.Restarting.{reading}
use Rattle.machine_host.specs.Run.{Run}
use Rattle.script_text.specs.Script.{inputs_of, lines_of}
use Rattle.machine_host.specs.Settling.{Settled}
use Rattle.machine_host.specs.Stands.{HostServes, HostState, Stands}
use Rattle.machine_host.proofs.CostLemmas.{opens-none}
use Rattle.machine_host.proofs.RunLemmas.{tells_then}
use Rattle.host_program.specs.Bench.{IsUnstarted}
use Rattle.program_base.specs.Ending.{numbered_line, of_words, of_write}
use Rattle.host_program.specs.Forms.{Fails, FailsToCreate, IsCaused, IsUnwritten, Outcome, checked_text, created_text}
use Rattle.image_file.specs.Text.{Snapshot}
use Rattle.image_file.specs.declared.Units.TheVariants.{All}
use Rattle.durable.proofs.StepLemmas.{unit_run}
use Rattle.program_base.specs.Begins.{Begins}
use Rattle.program_base.specs.Opening.{CountsOpening, FailsToOpen, IsReady, StaysClosed, opened, opening}
use Rattle.host_program.specs.Running.{Performs}
use Rattle.host_program.specs.Storing.{HoldsOn, IsReadAgain, NotReadOut, Stores}
use Rattle.program_base.specs.Writing.{WritesFront}
use Rattle.host_program.specs.Whole.{ComesToRest, IsRun}
use Rattle.program_base.specs.World.{World}
use Rattle.program_base.specs.declared.ending.Ending.{Ending}
use Rattle.program_base.specs.declared.ending.Ending.TheVariants.{Memory, Read, Script, Usage, Write}
use Rattle.host_program.proofs.AgainLemmas.{is_read_again}
use Rattle.program_base.proofs.BytesLemmas.{appends-none}
use Rattle.program_base.proofs.OpenLemmas.{on_opened}
use Rattle.host_program.proofs.RestLemmas.{rests-settled, stands-read_out, unit_settles}
use Rattle.host_program.proofs.RunLemmas.{halts-unstored, is_run-opened}
use Rattle.host_program.proofs.StoreLemmas.{last-write_back}
use Rattle.host_program.proofs.UnarmedLemmas.{performs_unarmed}

keeps-same : (held : Option Held) → KeepsHeld (λ _. ⊤) held held
keeps-same None = tt
keeps-same (Some look) = λ name _. refl

-- why a line or an image was not written
pub unwritten : (fault : WriteFault) (old new : World) → (fault ≡ write.Failed → Rose old.writes new.writes ⊎ Rose old.images.replace_faults new.images.replace_faults)
    → IsUnwritten (of_write fault) old new
unwritten write.Failed old new cause = cause refl
unwritten write.Memory old new cause = tt

-- `new` that came to no end: its line was not written, or the image was not replaced
pub untold : (name : List ℕ) (geo : Geometry) (fault : WriteFault) (old new : World) → WritesFront (created_text geo) old.written new.written → (fault ≡ write.Failed → Rose old.writes new.writes)
    → new.held ≡ old.held → new.images ≡ old.images → new.device ≡ old.device → new.left ≡ old.left → new.reads ≡ old.reads → FailsToCreate name geo (of_write fault) old new
untold name geo fault old new wrote cause held images device left reads = record {
  cause = unwritten fault old new (λ is. inl (cause is));
  wrote = wrote;
  replaced = inl (ap (λ c. c.replaces) images);
  holds = inl (subst (KeepsHeld (λ _. ⊤) old.held) (sym held) (keeps-same old.held));
  counts = record {
    fetches = ap (λ c. c.fetches) images;
    fetch_faults = ap (λ c. c.fetch_faults) images;
    replaces = inl (ap (λ c. c.replaces) images);
    replace_faults = omega (arith, ap (λ c. c.replace_faults) images);
  };
  device = device;
  script = record { left = left; reads = reads };
}

pub unreplaced : (name : List ℕ) (geo : Geometry) (fault : WriteFault) (old new : World) → Appends old.written new.written (created_text geo)
    → (fault ≡ write.Memory → KeepsHeld (λ _. ⊤) old.held new.held) → KeepsHeld (λ other. other ≢ name) old.held new.held
    → (failed : Type 0) → (fault ≡ write.Failed → failed) → CountsReplace failed old.images new.images
    → new.device ≡ old.device → new.left ≡ old.left → new.reads ≡ old.reads → FailsToCreate name geo (of_write fault) old new
unreplaced name geo fault old new wrote memory others failed is_failed counts device left reads = record {
  cause = unwritten fault old new (λ is. inr (counts.cause (is_failed is)));
  wrote = record { part = created_text geo; front = record { rest = []; joined = append-nil (created_text geo) }; wrote = wrote };
  replaced = inr wrote;
  holds = by_fault fault memory (λ is. counts.cause (is_failed is));
  counts = record { fetches = counts.fetches; fetch_faults = counts.fetch_faults; replaces = inr counts.replaces; replace_faults = counts.later };
  device = device;
  script = record { left = left; reads = reads };
}
  where
    by_fault : (f : WriteFault) → (f ≡ write.Memory → KeepsHeld (λ _. ⊤) old.held new.held) → (f ≡ write.Failed → Rose old.images.replace_faults new.images.replace_faults) → HoldsOn name old.held new.held old.images new.images
    by_fault write.Failed memory rose = inr (rose refl, others)
    by_fault write.Memory memory rose = inl (memory refl)

-- what `check` is answered, where the host counted the bad lines of what was opened
pub checked_ready : (name : List ℕ) (held : Option Held) (host : HostState) (old new : Device) (ready : IsReady All name held host old new) (count bad : ℕ) → count ≡ new.medium.count
    → ((h : Machine) → Stands host new h → bad ≡ bad_of h) → codes "ok " ++ decimal count ++ numbered_line (codes " bad ") bad ≡ checked_text ready.image
checked_ready name held host old new ready count bad is counted =
    ap₂ (λ n bad. codes "ok " ++ decimal n ++ numbered_line (codes " bad ") bad) (is ∙ ready.mounted.count) (counted ready.mounted.begin ready.mounted.stands ∙ ap (λ (h : Machine). bad_of h) ready.mounted.begins.state)

-- a host that opened an image is on
pub on_ready : (name : List ℕ) (held : Option Held) (host : HostState) (old new : Device) → IsReady All name held host old new → host.mode ≡ modes.On
on_ready name held host old new ready = ready.mounted.stands.mode ∙ ap (λ (h : Machine). h.mode) ready.mounted.begins.state ∙ on_opened ready.image ready.mounted.right

-- what is held, held on for a while
keeps-then : (which : List ℕ → Type 0) (a b c : Option Held) → KeepsHeld (λ _. ⊤) a b → KeepsHeld which b c → KeepsHeld which a c
keeps-then which None b c x y = tt
keeps-then which (Some f) None c x y = absurd x
keeps-then which (Some f) (Some g) None x y = y
keeps-then which (Some f) (Some g) (Some h) x y = λ name of. y name of ∙ x name tt

holds-then : (name : List ℕ) (a b c : Option Held) (before counted counts : ImageCounts) → KeepsHeld (λ _. ⊤) a b → counted.replace_faults ≡ before.replace_faults → HoldsOn name b c counted counts
    → HoldsOn name a c before counts
holds-then name a b c before counted counts x same (inl y) = inl (keeps-then (λ _. ⊤) a b c x y)
holds-then name a b c before counted counts x same (inr y) = inr (subst (λ n. Rose n counts.replace_faults) same y.0, keeps-then (λ other. other ≢ name) a b c x y.1)

-- why an image was not stored
unstored : (e : Ending) (old new : World) (counted : ImageCounts) (rest : Panel) (read_out : Type 0) → old.device.panel.counts.setups ≤ rest.counts.setups → counted.replace_faults ≡ old.images.replace_faults
    → NotReadOut e rest new.device.panel ⊎ ((e ≡ Write) × read_out × Rose counted.replace_faults new.images.replace_faults) → IsCaused e old new
unstored e old new counted rest read_out later same (inl (inl is)) = subst (λ e. IsCaused e old new) (sym is) tt
unstored e old new counted rest read_out later same (inl (inr read)) =
    subst (λ e. IsCaused e old new) (sym read.0) (let rose = read.1 in omega (arith, rose, later))
unstored e old new counted rest read_out later same (inr stored) = subst (λ e. IsCaused e old new) (sym stored.0) (inr (subst (λ n. Rose n new.images.replace_faults) same stored.2))

-- the unit of an image is that of the state which is read there
unit_begun : (image : Snapshot) (p : Panel) (begin : Machine) → Begins (opened image) p begin → begin.unit ≡ image.unit
unfolding reading
unit_begun image p begin begins = ap (λ (h : Machine). h.unit) begins.state

-- host and device that were brought to rest go on, and the host's unit is still that of the image
pub unit_settled : (name : List ℕ) (held : Option Held) (host after settled : HostState) (left_old left written answered : Option (List ℕ)) (old opened_as ran rest : Device) → IsReady All name held host old opened_as
    → Performs host after (Ok tt) left_old left written answered opened_as ran → ((h : Machine) → Stands after ran h → Settled h settled (after_disarm ran.panel) rest) → IsUnit settled.unit
unit_settled name held host after settled left_old left written answered old opened_as ran rest ready performs settles =
    let says = performs.says ready.mounted.begin ready.mounted.stands in
    let comes = settles says.end says.outcome.stands in
    subst IsUnit
    (sym (comes.stands.unit ∙ unit_settles says.end.mode says.end comes.next comes.starts comes.comes ∙ unit_run (inputs_of says.lines) ready.mounted.begin says.end says.said says.run
    ∙ unit_begun ready.image old.panel ready.mounted.begin ready.mounted.begins))
    ready.held_there.right.unit

pub served_settled : (name : List ℕ) (held : Option Held) (host after settled : HostState) (left_old left written answered : Option (List ℕ)) (old opened_as ran rest : Device) → IsReady All name held host old opened_as
    → Performs host after (Ok tt) left_old left written answered opened_as ran → ((h : Machine) → Stands after ran h → Settled h settled (after_disarm ran.panel) rest) → HostServes settled rest
served_settled name held host after settled left_old left written answered old opened_as ran rest ready performs settles =
    let says = performs.says ready.mounted.begin ready.mounted.stands in (settles says.end says.outcome.stands).serves

-- A script that was performed to its end: host and device were brought to rest, and the image was stored or not.
pub run_over : (from to : List ℕ) (unit : ℕ) (host after settled : HostState) (opened_as ran rest : Device) (held : Option Held) (counted : ImageCounts) (r : Result (Unit {0}) Ending) (old new : World)
    → unit ≡ settled.unit → IsReady All from old.held host old.device opened_as → Performs host after (Ok tt) old.left new.left old.written new.written opened_as ran
    → ((h : Machine) → Stands after ran h → Settled h settled (after_disarm ran.panel) rest) → IsSound rest.medium
    → KeepsHeld (λ _. ⊤) old.held held → CountsOpening old.images counted → Stores unit to r held new.held counted new.images rest new.device → Outcome (of_run from to) r old new
run_over from to unit host after settled opened_as ran rest held counted (Ok x) old new same ready performs settles sound kept counts stores =
    let says = performs.says ready.mounted.begin ready.mounted.stands in
    let comes = settles says.end says.outcome.stands in
    let done = stores.outcome in
    let text = done.3 in
    let stands = comes.stands.device in
    let now : unit ≡ comes.next.unit = same ∙ comes.stands.unit in
    record {
      image = ready.image;
      there = ready.held_there;
      right = ready.mounted.right;
      script = says.script;
      said = says.said;
      last = comes.next;
      read = says.read;
      ended = says.outcome.ended;
      short = says.outcome.short;
      ran = record {
        end = says.end;
        run = subst (λ ls. IsRun (opened ready.image) old.device.panel ls says.said says.end) (sym (says.split ∙ ap (λ ls. says.lines ++ ls) says.outcome.none_left ∙ append-nil says.lines))
            (is_run-opened ready.image old.device.panel says.lines says.said ready.mounted.begin says.end ready.mounted.begins says.run);
        starts = comes.starts;
        comes = comes.comes;
        settled = record {
          ran = ran.panel;
          tells = tells_then opening says.said old.device.panel opened_as.panel ran.panel ready.mounted.tells says.outcome.tells;
          rest = rest.panel;
          asks = comes.asks;
          restarts = comes.restarts;
          read_out = subst (λ end. SetsUp end rest.panel new.device.panel) done.0 stores.sets_up;
        };
        stands = stands-read_out comes.next rest new.device stands stores.wrote (subst (λ end. SetsUp end rest.panel new.device.panel) done.0 stores.sets_up)
            (subst (λ end. KeepsPower end rest.panel new.device.panel) done.0 stores.power) (sym stands.cut_armed ∙ comes.asks.cut_armed) (sym stands.fail_armed ∙ comes.asks.fail_armed);
      };
      unarmed = λ cut fail arm.
          let all : lines_of says.script ≡ says.lines = says.split ∙ ap (λ ls. says.lines ++ ls) says.outcome.none_left ∙ append-nil says.lines in
          performs_unarmed ready.image old.device.panel (inputs_of (lines_of says.script)) says.said ready.mounted.begin says.end ready.mounted.begins
          (subst (λ ls. Run ready.mounted.begin (inputs_of ls) says.said says.end) (sym all) says.run) cut fail arm;
      wrote = subst (Appends old.written new.written) says.outcome.all says.wrote;
      stored = record {
        image = record { unit = unit; lines = text.lines };
        last = last-write_back rest.medium new.device.medium text.lines stores.wrote text.last;
        right = text.right;
        holds = record {
          text = subst (λ t. IfSome new.held (λ look. look to ≡ Some t)) text.is done.4;
          others = keeps-then (λ other. other ≢ to) old.held held new.held kept done.5;
        };
        again =
            subst (λ u. IsReadAgain (record { unit = u; lines = text.lines }) comes.next) (sym now)
            (is_read_again comes.next rest.medium text.lines sound text.last stands.metadata stands.blocks stands.volume stands.files);
      };
      unit =
          now ∙ unit_settles says.end.mode says.end comes.next comes.starts comes.comes ∙ unit_run (inputs_of says.lines) ready.mounted.begin says.end says.said says.run
          ∙ unit_begun ready.image old.device.panel ready.mounted.begin ready.mounted.begins;
      fetches = stores.fetches ∙ counts.fetches;
      replaces = done.1 ∙ ap raised counts.replaces;
    }
run_over from to unit host after settled opened_as ran rest held counted (Err e) old new same ready performs settles sound kept counts stores =
    let says = performs.says ready.mounted.begin ready.mounted.stands in
    let comes = settles says.end says.outcome.stands in
    let left = stores.outcome in
    inr (halts-unstored from to e host after opened_as ran old new ready performs
    (rests-settled says.end.mode says.end comes.next comes.starts stores.end ran.panel rest.panel new.device.panel comes.comes comes.asks comes.restarts stores.sets_up)
    (λ by. not_source left.0 by) (λ is end stands. at_rest end (settles end stands) (was_read left.0 is))
    (unstored e old new counted rest.panel (stores.end ≡ went) (omega (arith, ready.mounted.tells.setups, says.outcome.tells.setups, comes.asks.setups)) counts.replace_faults left.0)
    (replaced left.2) (stores.fetches ∙ counts.fetches) (holds-then to old.held held new.held old.images counted new.images kept counts.replace_faults left.1))
  where
    not_source : NotReadOut e rest.panel new.device.panel ⊎ ((e ≡ Write) × (stores.end ≡ went) × Rose counted.replace_faults new.images.replace_faults) → (e ≡ Read) ⊎ (e ≡ Script) → ⊥
    not_source (inl (inl is)) (inl by) = cc (is, by)
    not_source (inl (inl is)) (inr by) = cc (is, by)
    not_source (inl (inr is)) (inl by) = let at = is.0 in cc (at, by)
    not_source (inl (inr is)) (inr by) = let at = is.0 in cc (at, by)
    not_source (inr is) (inl by) = let at = is.0 in cc (at, by)
    not_source (inr is) (inr by) = let at = is.0 in cc (at, by)

    was_read : NotReadOut e rest.panel new.device.panel ⊎ ((e ≡ Write) × (stores.end ≡ went) × Rose counted.replace_faults new.images.replace_faults) → e ≡ Write → stores.end ≡ went
    was_read (inl (inl is)) by = cc (is, by)
    was_read (inl (inr is)) by = let at = is.0 in cc (at, by)
    was_read (inr is) by = is.1

    at_rest : (end : Machine) → Settled end settled (after_disarm ran.panel) rest → stores.end ≡ went → ComesToRest end new.device
    at_rest end comes read =
        let stands = comes.stands.device in
        record {
          starts = comes.starts;
          last = comes.next;
          comes = comes.comes;
          stands = stands-read_out comes.next rest new.device stands stores.wrote (subst (λ end. SetsUp end rest.panel new.device.panel) read stores.sets_up)
              (subst (λ end. KeepsPower end rest.panel new.device.panel) read stores.power) (sym stands.cut_armed ∙ comes.asks.cut_armed) (sym stands.fail_armed ∙ comes.asks.fail_armed);
        }

    replaced : (new.images.replaces ≡ counted.replaces) ⊎ (new.images.replaces ≡ raised counted.replaces) → (new.images.replaces ≡ old.images.replaces) ⊎ (new.images.replaces ≡ raised old.images.replaces)
    replaced (inl none) = inl (none ∙ counts.replaces)
    replaced (inr one) = inr (one ∙ ap raised counts.replaces)

-- nothing was done for want of memory
closed : (name : List ℕ) (old : World) → FailsToOpen All name Memory old old
closed name old = record {
  cause = tt;
  opens = opens-none old.device.panel;
  held = keeps-same old.held;
  counts = inl refl;
  written = refl;
  script = record { left = refl; reads = refl };
}

pub unread : (fault : WordsFault) (form : Form) (old : World) → (fault ≡ words.Usage → ⊥) → Fails form (of_words fault) old old
unread words.Usage form old used = absurd (used refl)
unread words.Memory (of_new unit name geo) old used =
    untold name geo write.Memory old old (record { part = []; front = record { rest = created_text geo; joined = refl }; wrote = appends-none old.written }) (λ is. cc is) refl refl refl refl refl
unread words.Memory (of_run from to) old used = inl (closed from old)
unread words.Memory (of_check name) old used = inl (closed name old)
unread words.Memory (of_bench seed count) old used = inl (record {
  cause = tt;
  opens = opens-none old.device.panel;
  written = refl;
  aside = record { held = refl; images = refl; script = record { left = refl; reads = refl } };
})

-- a form that was read is not taken for none
pub never_new : (unit : ℕ) (name : List ℕ) (geo : Geometry) (r : Result (Unit {0}) Ending) (old new : World) → Outcome (of_new unit name geo) r old new → r ≡ Err Usage → ⊥
never_new unit name geo (Ok x) old new outcome is = cc is
never_new unit name geo (Err e) old new outcome is = let same : e ≡ Usage = cc is in subst (λ e. IsUnwritten e old new) same outcome.cause

pub never_check : (name : List ℕ) (r : Result (Unit {0}) Ending) (old new : World) → Outcome (of_check name) r old new → r ≡ Err Usage → ⊥
never_check name (Ok x) old new outcome is = cc is
never_check name (Err e) old new (inl closed) is =
    let same : e ≡ Usage = cc is in subst (λ e. StaysClosed All name old.held e old.images new.images old.device.panel new.device.panel) same closed.cause
never_check name (Err e) old new (inr untold) is = let same : e ≡ Usage = cc is in subst (λ e. IsUnwritten e old new) same untold.cause

pub never_bench : (seed count : ℕ) (r : Result (Unit {0}) Ending) (old new : World) → Outcome (of_bench seed count) r old new → r ≡ Err Usage → ⊥
never_bench seed count (Ok x) old new outcome is = cc is
never_bench seed count (Err e) old new (inl unstarted) is =
    let same : e ≡ Usage = cc is in subst (λ e. IsUnstarted e old.device.panel new.device.panel) same unstarted.cause
never_bench seed count (Err e) old new (inr broken) is = let same : e ≡ Usage = cc is in subst (λ e. IsUnwritten e old new) same broken.cause
