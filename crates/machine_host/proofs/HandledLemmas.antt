-- What commands by handle come to where the device is not asked.
use Rattle.std.proofs.Common.{◌≡◌, ◌≤◌, ◌∙◌, ℕ, Bool, true, false, not, cond, Option, Some, None, option_map, List, [], ◌∷◌, refl, sym, ap, ap₂, subst, arith}
use Rattle.line_device.specs.Device.{Device}
use Rattle.nvm_base.specs.declared.files.FileEntry.{FileEntry}
use Rattle.nvm_model.specs.Blocks.{first_there}
use Rattle.nvm_model.specs.Mappings.{change_copy, has_handle, mapping_of, without_mapping}
use Rattle.nvm_model.specs.Storage.{Mapping}
use Rattle.file_journal.specs.Standing.{EachReadsFiles}
use Rattle.mappings.specs.Object.{MappingsState}
use Rattle.reply_text.specs.declared.reply.Why.{Why}
use Rattle.reply_text.specs.declared.reply.Why.TheVariants as because
use Rattle.reply_text.specs.Answer.{Answer, IsPrintable}
use Rattle.reply_text.specs.Answer.Answer.{Done, Refused}
use Rattle.reply_text.specs.Room.{most_of}
use Rattle.script_text.specs.Action.{Action}
use Rattle.machine_model.specs.declared.mode.Mode.TheVariants.{On}
use Rattle.machine_model.specs.declared.needs.Needs.TheVariants.{Usable}
use Rattle.machine_model.specs.Commands.{MayLeaveFiles, fate, longest, meaning, unless_refused}
use Rattle.machine_model.specs.Interrupted.{stop_in}
use Rattle.machine_model.specs.Machine.{Machine}
use Rattle.machine_model.specs.Machine.Fate.{Gives}
use Rattle.machine_model.specs.Meaning.{Meaning, Reasons, first_reason, metadata_refusal, no_reasons}
use Rattle.machine_model.specs.OnMappings.{by_handle, within_mapping}
use Rattle.machine_host.specs.Responding.{Answered}
use Rattle.machine_model.specs.Run.{answered}
use Rattle.machine_host.specs.Stands.{Comes, EachMapping, HostServes, HostState, IsOnFile, Stands}
use Rattle.machine_host.proofs.ExistsLemmas.{same_state}
use Rattle.machine_model.proofs.RefusalLemmas.{fate_usable, first_assoc}
use Rattle.machine_host.proofs.TellingLemmas.{tells_nothing}
use Rattle.machine_host.proofs.RoomLemmas.{room_still}
use Rattle.machine_host.specs.Keeping.{Changes, is_refusal, reach}
use Rattle.machine_host.proofs.KeepLemmas.{keeps_refused}

-- A command that is refused for what it names or for its places.
pub refused_answered : (now : HostState) (d : Device) (action : Action) (answer : Answer) → now.mode ≡ On → HostServes now d → (meaning action).needs ≡ Usable → stop_in answer ≡ None → is_refusal answer ≡ true → IsPrintable answer
    → most_of answer ≤ longest action → ((h : Machine) → Stands now d h → first_there ((meaning action).reasons h).named ((meaning action).reasons h).places ≡ Some answer) → Answered action answer now now d d
refused_answered now d action answer on serves needs quiet refuses printable room why = record {
  step = λ h stands.
      let r = (meaning action).reasons h in
      let rest = first_there r.full (first_there (metadata_refusal r.changes_metadata h.bad_meta) r.unreadable) in
      subst (λ f. Comes h action f answer now d d)
      (sym (fate_usable h action needs (sym stands.mode ∙ on)
      ∙ ap (λ o. unless_refused h o ((meaning action).comes h)) (sym (first_assoc r.named r.places rest) ∙ ap (λ o. first_there o rest) (why h stands))))
      (same_state now d h action answer quiet stands);
  keeps = keeps_refused answer action now d refuses;
  printable = printable;
  room = room;
  serves = serves;
}

-- other mappings, while nothing is interrupted
pub stands_mapped : (host : HostState) (d : Device) (h : Machine) (ms : MappingsState) → h.interrupted ≡ None → Stands host d h
    → Stands (record host { files = record host.files { mappings = ms } }) d (record h { mappings = ms.mappings; next_handle = ms.next })
stands_mapped host d h ms none stands = record {
  geometry = stands.geometry;
  unit = stands.unit;
  mode = stands.mode;
  blocks = stands.blocks;
  volume = stands.volume;
  files = stands.files;
  mappings = λ _. refl;
  events = stands.events;
  device = record {
    unit = stands.device.unit;
    metadata = stands.device.metadata;
    blocks = stands.device.blocks;
    volume = stands.device.volume;
    files = λ good.
        subst (λ (o : Option Action). EachReadsFiles h.geometry d.medium (MayLeaveFiles ms.mappings o h.files)) (sym none)
        (subst (λ (o : Option Action). EachReadsFiles h.geometry d.medium (MayLeaveFiles h.mappings o h.files)) none (stands.device.files good));
    power = stands.device.power;
    cut_armed = stands.device.cut_armed;
    fail_armed = stands.device.fail_armed;
    whole = stands.device.whole;
    stopped = stands.device.stopped;
  };
}

-- and a host that has them, each on its file
pub serves_mapped : (host : HostState) (d : Device) (ms : MappingsState) → HostServes host d → (host.mode ≡ On → EachMapping (IsOnFile host.files.pages.journal.tables.files) ms.mappings)
    → HostServes (record host { files = record host.files { mappings = ms } }) d
serves_mapped host d ms serves mapped = record {
  layout = serves.layout;
  readable = serves.readable;
  power = serves.power;
  mounted = λ on. let was = serves.mounted on in record {
    geometry = was.geometry;
    settled = was.settled;
    serves = was.serves;
    volume_geometry = was.volume_geometry;
    volume_settled = was.volume_settled;
    volume_serves = was.volume_serves;
    journal_geometry = was.journal_geometry;
    journal_settled = was.journal_settled;
    journal_serves = was.journal_serves;
    journal_right = was.journal_right;
    journal_held = was.journal_held;
    pages_settled = was.pages_settled;
    mapped = mapped on;
    room = room_still host.files (record host.files { mappings = ms }) d.medium d.medium (λ files stand. stand) (omega arith) was.room;
  };
  stopped = serves.stopped;
}

-- A command that changes mappings alone is done.
pub remapped_answered : (host : HostState) (d : Device) (action : Action) (ms : MappingsState) → host.mode ≡ On → HostServes host d → 72 ≤ longest action → Changes (reach action) d d
    → EachMapping (IsOnFile host.files.pages.journal.tables.files) ms.mappings
    → ((h : Machine) → Stands host d h → fate h action ≡ Gives Done (record h { mappings = ms.mappings; next_handle = ms.next }))
    → Answered action Done host (record host { files = record host.files { mappings = ms } }) d d
remapped_answered host d action ms on serves room changes mapped fate_is = record {
  step = λ h stands.
      subst (λ f. Comes h action f Done host_now d d) (sym (fate_is h stands)) (record {
        said = answered Done;
        next = record h { mappings = ms.mappings; next_handle = ms.next };
        answers = refl;
        takes = (refl, refl);
        tells = tells_nothing Done refl d.panel;
        stands = stands_mapped host d h ms (stands.device.whole (sym stands.mode ∙ on)) stands;
      });
  keeps = changes;
  printable = tt;
  room = room;
  serves = serves_mapped host d ms serves (λ _. mapped);
}
  where
    host_now : HostState
    host_now = record host { files = record host.files { mappings = ms } }

-- what holds of all mappings holds of fewer, and of those with another copy
pub all-without : (slots : List (Option FileEntry)) (handle : ℕ) (ms : List Mapping) → EachMapping (IsOnFile slots) ms → EachMapping (IsOnFile slots) (without_mapping handle ms)
all-without slots handle [] all = tt
all-without slots handle (m ∷ ms) all = by_test (has_handle handle m) (all-without slots handle ms all.1)
  where
    by_test : (b : Bool) → EachMapping (IsOnFile slots) (without_mapping handle ms) → EachMapping (IsOnFile slots) (cond (not b) (m ∷ without_mapping handle ms) (without_mapping handle ms))
    by_test true rest = rest
    by_test false rest = (all.0, rest)

pub all-recopied : (slots : List (Option FileEntry)) (handle : ℕ) (f : List ℕ → List ℕ) (ms : List Mapping) → EachMapping (IsOnFile slots) ms → EachMapping (IsOnFile slots) (change_copy handle f ms)
all-recopied slots handle f [] all = tt
all-recopied slots handle f (m ∷ ms) all = (record { inode = all.0.inode; found = all.0.found; within = all.0.within }, all-recopied slots handle f ms all.1)

-- Of a command by handle.
module _ (now : HostState) (d : Device) (on : now.mode ≡ On) (serves : HostServes now d) (b : Action) (handle room : ℕ) (of : Mapping → Meaning) (row : meaning b ≡ by_handle room handle of) where
  module _ (o : Option Mapping) (is : mapping_of handle now.files.mappings.mappings ≡ o) (h : Machine) (stands : Stands now d h) where
    pub seen : mapping_of handle h.mappings ≡ o
    seen = ap (λ (s : MappingsState). mapping_of handle s.mappings) (sym (stands.mappings on)) ∙ is

    pub reasons_are : (meaning b).reasons h ≡ elim o [ None ↦ record no_reasons { named = Some (Refused because.Handle) } | Some m ↦ (of m).reasons h ]
    reasons_are =
        ap (λ (x : Meaning). x.reasons h) row ∙ ap (λ (p : Option Mapping). elim p [ None ↦ record no_reasons { named = Some (Refused because.Handle) } | Some m ↦ (of m).reasons h ]) seen

    pub comes_is : (meaning b).comes h ≡ elim o [ None ↦ Gives Done h | Some m ↦ (of m).comes h ]
    comes_is = ap (λ (x : Meaning). x.comes h) row ∙ ap (λ (p : Option Mapping). elim p [ None ↦ Gives Done h | Some m ↦ (of m).comes h ]) seen

  pub no_handle_answered : mapping_of handle now.files.mappings.mappings ≡ None → 72 ≤ room → Answered b (Refused because.Handle) now now d d
  no_handle_answered is roomy =
      refused_answered now d b (Refused because.Handle) on serves (ap (λ (x : Meaning). x.needs) row) refl refl tt (subst (λ (x : Meaning). 72 ≤ x.room) (sym row) roomy)
      (λ h stands. ap (λ (r : Reasons). first_there r.named r.places) (reasons_are None is h stands))

  pub no_place_answered : (m : Mapping) → mapping_of handle now.files.mappings.mappings ≡ Some m → (places : Option Why) (why : Why) → places ≡ Some why → (inner : Meaning)
      → of m ≡ within_mapping (option_map Refused places) inner → 72 ≤ room → Answered b (Refused why) now now d d
  no_place_answered m is places why some inner shows roomy =
      refused_answered now d b (Refused why) on serves (ap (λ (x : Meaning). x.needs) row) refl refl tt (subst (λ (x : Meaning). 72 ≤ x.room) (sym row) roomy)
      (λ h stands. ap (λ (r : Reasons). first_there r.named r.places) (reasons_are (Some m) is h stands ∙ ap (λ (x : Meaning). x.reasons h) shows) ∙ ap (option_map Refused) some)

  -- where it gives at once and nothing refuses it
  pub fate_given : (m : Mapping) → mapping_of handle now.files.mappings.mappings ≡ Some m → (places : Option Why) → places ≡ None → (inner : Meaning) → of m ≡ within_mapping (option_map Refused places) inner
      → (h : Machine) → Stands now d h → (inner.reasons h).full ≡ None → (inner.reasons h).changes_metadata ≡ false → (inner.reasons h).unreadable ≡ None → fate h b ≡ inner.comes h
  fate_given m is places none inner shows h stands full changes unreadable =
      let r : (meaning b).reasons h ≡ no_reasons =
      reasons_are (Some m) is h stands ∙ ap (λ (x : Meaning). x.reasons h) shows
      ∙ ap (λ (o : Option Why). let q : Reasons = record (inner.reasons h) { named = None; places = option_map Refused o } in q) none
      ∙ ap₂ (λ (f : Option Answer) (u : Option Answer). let q : Reasons = record no_reasons { full = f; changes_metadata = (inner.reasons h).changes_metadata; unreadable = u } in q) full unreadable
      ∙ ap (λ (c : Bool). let q : Reasons = record no_reasons { changes_metadata = c } in q) changes in
      fate_usable h b (ap (λ (x : Meaning). x.needs) row) (sym stands.mode ∙ on)
      ∙ ap₂ (λ (q : Reasons) c. unless_refused h (first_reason None h.bad_meta q) c) r (comes_is (Some m) is h stands ∙ ap (λ (x : Meaning). x.comes h) shows)
