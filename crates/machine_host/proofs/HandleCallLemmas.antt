-- What loads, stores and ends of mappings come to.
use Rattle.std.proofs.Common.{◌≡◌, ◌↔◌, ◌+◌, ◌*◌, ◌^◌, ◌≤◌, ◌∙◌, ℕ, suc, Bool, true, false, cond, Option, Some, None, option_map, IfSome, IsErr, OnErr, OnOk, Result, Ok, Err, is_err, List, [], ◌∷◌, All, length, take, drop, min, refl, sym, ap, subst, arith, is_none, option_and_then, if◌then◌else◌}
use Rattle.std.proofs.lemmas.List.{length-take}
use Rattle.std.proofs.Math.Nat.{min-le_left}
use Rattle.std.proofs.lemmas.Option.{same_Some}
use Rattle.line_device.specs.Device.{Device}
use Rattle.nvm_base.specs.declared.files.Kind.TheVariants.{Shared, Private}
use Rattle.nvm_model.specs.Blocks.{first_there}
use Rattle.nvm_model.specs.Mappings.{change_copy, copy_of, has_handle, is_shared, mapping_of, overwritten, own_bytes, without_mapping}
use Rattle.nvm_model.specs.Storage.{Mapping}
use Rattle.file_journal.specs.Tables.{AreTables}
use Rattle.mappings.specs.Object.{AreMappings, IsMapping, MappingsState, info_of}
use Rattle.mappings.specs.declared.info.MapInfo.{MapInfo}
use Rattle.reply_text.specs.declared.reply.Why.{Why}
use Rattle.reply_text.specs.declared.reply.Why.TheVariants as because
use Rattle.reply_text.specs.Answer.{Answer}
use Rattle.reply_text.specs.Answer.Answer.{Bytes, Done, Refused}
use Rattle.script_text.specs.Action.Action.{FRead, FWrite, Load, Store, Unmap}
use Rattle.machine_model.specs.declared.mode.Mode.TheVariants.{On}
use Rattle.machine_model.specs.Commands.{unless_refused}
use Rattle.machine_model.specs.Machine.{Machine}
use Rattle.machine_model.specs.Machine.Fate.{Gives}
use Rattle.machine_model.specs.Meaning.{most_refusal, span_refusal}
use Rattle.machine_model.specs.OnMappings.{load_through, read_copy, store_through, within_mapping, write_copy}
use Rattle.machine_model.specs.OnPages.{fread, fwrite}
use Rattle.machine_host.specs.Responding.{Answered, ComesTo, outcome_answer}
use Rattle.machine_host.specs.declared.outcome.Outcome.{Outcome}
use Rattle.machine_host.specs.Stands.{Comes, HostServes, HostState, IsOnFile, Stands}
use Rattle.machine_host.proofs.AsLemmas.{IsAs, answered_as}
use Rattle.machine_host.proofs.ExistsLemmas.{same_state}
use Rattle.machine_host.proofs.HandleLemmas.{load_as, store_as}
use Rattle.machine_host.proofs.HandledLemmas.{all-recopied, all-without, fate_given, no_handle_answered, no_place_answered, refused_answered, remapped_answered}
use Rattle.machine_host.proofs.MapFateLemmas.{has-found}
use Rattle.machine_host.proofs.MappedLemmas.{IsAmong, among-of, held_by}
use Rattle.machine_model.proofs.RefusalLemmas.{fate_usable, read_within}
use Rattle.line_device.proofs.WriteBackLemmas.{write_back-refl}

-- what is true of all mappings is true of the one with a handle
reach_of : (P : Mapping → Type 0) (handle : ℕ) (ms : List Mapping) (m : Mapping) → mapping_of handle ms ≡ Some m → All P ms → P m
reach_of P handle [] m found all = cc found
reach_of P handle (x ∷ xs) m found all = by_test (has_handle handle x) found (λ later. reach_of P handle xs m later (λ k d below. all (suc k) d (omega (arith, below))))
  where
    by_test : (b : Bool) → cond b (Some x) (mapping_of handle xs) ≡ Some m → (mapping_of handle xs ≡ Some m → P m) → P m
    by_test true is later = subst P (same_Some _ _ is) (all 0 x (omega arith))
    by_test false is later = later is

-- the mapping that is told of
pub record Told (ms : List Mapping) (handle : ℕ) (info : MapInfo) : Type 0 where
  pub mapping : Mapping
  pub is : mapping_of handle ms ≡ Some mapping
  pub same : info_of mapping ≡ info

pub told_of : (ms : List Mapping) (handle : ℕ) (info : MapInfo) → Some info ≡ option_map info_of (mapping_of handle ms) → Told ms handle info
told_of ms handle info some = by_mapping (mapping_of handle ms) refl some
  where
    by_mapping : (o : Option Mapping) → mapping_of handle ms ≡ o → Some info ≡ option_map info_of o → Told ms handle info
    by_mapping None is some = cc some
    by_mapping (Some m) is some = record { mapping = m; is = is; same = sym (same_Some _ _ some) }

pub told_none : (ms : List Mapping) (handle : ℕ) → None ≡ option_map info_of (mapping_of handle ms) → mapping_of handle ms ≡ None
told_none ms handle none = by_mapping (mapping_of handle ms) refl none
  where
    by_mapping : (o : Option Mapping) → mapping_of handle ms ≡ o → None ≡ option_map info_of o → mapping_of handle ms ≡ None
    by_mapping None is none = is
    by_mapping (Some m) is none = cc none

-- it ends where a file may
pub told_reach : (s : MappingsState) (handle : ℕ) (info : MapInfo) → AreMappings s → Told s.mappings handle info → info.span.start + info.span.len ≤ 2 ^ 40
told_reach s handle info are told =
    subst (λ (i : MapInfo). i.span.start + i.span.len ≤ 2 ^ 40) told.same (reach_of IsMapping handle s.mappings told.mapping told.is are.each).span.within

-- a private one has its bytes
pub told_copy : (s : MappingsState) (handle : ℕ) (info : MapInfo) → AreMappings s → (told : Told s.mappings handle info) → info.kind ≡ Private
    → (copy_of handle s.mappings ≡ Some told.mapping.copy) × (length told.mapping.copy ≡ info.span.len)
told_copy s handle info are told private = (
  ap (λ (o : Option Mapping). option_and_then own_bytes o) told.is ∙ ap (λ b. if b then None else Some told.mapping.copy) own,
  (reach_of IsMapping handle s.mappings told.mapping told.is are.each).copy ∙ ap (λ b. if b then 0 else told.mapping.len) own ∙ ap (λ (i : MapInfo). i.span.len) told.same,
)
  where
    own : is_shared told.mapping.kind ≡ false
    own = ap (λ (i : MapInfo). is_shared i.kind) told.same ∙ ap is_shared private

module _ (now : HostState) (old : Device) (on : now.mode ≡ On) (serves : HostServes now old) (handle : ℕ) where
  right : AreTables now.files.pages.journal.geo.fpages now.files.pages.journal.tables
  right = let was = serves.mounted on in subst (λ g. AreTables g.fpages now.files.pages.journal.tables) (sym was.journal_geometry) was.journal_right

  seen_of : (o : Option Mapping) → mapping_of handle now.files.mappings.mappings ≡ o → (h : Machine) → Stands now old h → mapping_of handle h.mappings ≡ o
  seen_of o is h stands = ap (λ (s : MappingsState). mapping_of handle s.mappings) (sym (stands.mappings on)) ∙ is

  -- the file of a mapping, in each state that they stand for
  pub file_under : (m : Mapping) → mapping_of handle now.files.mappings.mappings ≡ Some m → (h : Machine) → Stands now old h → IsAmong h.files m
  file_under m is h stands =
      among-of now.files.pages.journal old.medium right h.files (stands.files on) m (held_by (IsOnFile now.files.pages.journal.tables.files) handle now.files.mappings.mappings m is (serves.mounted on).mapped)

  -- the end of a mapping
  pub unmap_refused : mapping_of handle now.files.mappings.mappings ≡ None → Answered (Unmap handle) (Refused because.Handle) now now old old
  unmap_refused is =
      refused_answered now old (Unmap handle) (Refused because.Handle) on serves refl refl refl tt (omega arith)
      (λ h stands. ap (λ (o : Option Mapping). first_there (if is_none o then Some (Refused because.Handle) else None) None) (seen_of None is h stands))

  pub unmap_answered : (m : Mapping) → mapping_of handle now.files.mappings.mappings ≡ Some m
      → Answered (Unmap handle) Done now (record now { files = record now.files { mappings = record now.files.mappings { mappings = without_mapping handle now.files.mappings.mappings } } }) old old
  unmap_answered m is =
      remapped_answered now old (Unmap handle) (record now.files.mappings { mappings = without_mapping handle now.files.mappings.mappings }) on serves (omega arith) (write_back-refl old.medium)
      (all-without now.files.pages.journal.tables.files handle now.files.mappings.mappings (serves.mounted on).mapped)
      (λ h stands.
      fate_usable h (Unmap handle) refl (sym stands.mode ∙ on)
      ∙ ap (λ (o : Option Mapping). unless_refused h (first_there (if is_none o then Some (Refused because.Handle) else None) None) (Gives Done (record h { mappings = without_mapping handle h.mappings }))) (seen_of (Some m) is h stands)
      ∙ ap (λ (s : MappingsState). Gives Done (let k : Machine = record h { mappings = without_mapping handle s.mappings; next_handle = s.next } in k)) (sym (stands.mappings on)))

  -- a load
  pub load_missing : (offset len : ℕ) → mapping_of handle now.files.mappings.mappings ≡ None → Answered (Load handle offset len) (Refused because.Handle) now now old old
  load_missing offset len is = no_handle_answered now old on serves (Load handle offset len) handle (72 + 3 * min len 65536) (load_through offset len) refl is (omega arith)

  pub load_misplaced : (offset len : ℕ) (why : Why) (info : MapInfo) (told : Told now.files.mappings.mappings handle info) → Some why ≡ most_refusal 65536 info.span.len offset len
      → Answered (Load handle offset len) (Refused why) now now old old
  load_misplaced offset len why info told is =
      no_place_answered now old on serves (Load handle offset len) handle (72 + 3 * min len 65536) (load_through offset len) refl told.mapping told.is (most_refusal 65536 told.mapping.len offset len) why
      (ap (λ (i : MapInfo). most_refusal 65536 i.span.len offset len) told.same ∙ sym is)
      (if is_shared told.mapping.kind then fread told.mapping.name (told.mapping.start + offset) len else read_copy told.mapping offset len) refl (omega arith)

  pub load_shared : (offset len : ℕ) (info : MapInfo) (told : Told now.files.mappings.mappings handle info) → info.kind ≡ Shared → None ≡ most_refusal 65536 info.span.len offset len
      → (work : List ℕ) (outcome : Outcome) (after : HostState) (new : Device) → ComesTo (FRead info.name (info.span.start + offset) len) work outcome now after old new → ComesTo (Load handle offset len) work outcome now after old new
  load_shared offset len info told shared none work outcome after new comes =
      let was = subst (λ (i : MapInfo). Answered (FRead i.name (i.span.start + offset) len) (outcome_answer work outcome) now after old new) (sym told.same) comes.0 in
      (answered_as (FRead m.name (m.start + offset) len) (Load handle offset len) (outcome_answer work outcome) now after old new alike (omega arith) refl was, comes.1)
    where
      m : Mapping
      m = told.mapping

      alike : (h : Machine) → Stands now old h → IsAs h (FRead m.name (m.start + offset) len) (Load handle offset len)
      alike h stands =
          let file = file_under m told.is h stands in
          load_as h (sym stands.mode ∙ on) handle m (seen_of (Some m) told.is h stands) (ap (λ (i : MapInfo). is_shared i.kind) told.same ∙ ap is_shared shared) file.file
          (has-found m.name h.files file.file file.found) file.found file.within offset len (ap (λ (i : MapInfo). most_refusal 65536 i.span.len offset len) told.same ∙ sym none)

  pub load_private : (offset len : ℕ) (info : MapInfo) (told : Told now.files.mappings.mappings handle info) → info.kind ≡ Private → None ≡ most_refusal 65536 info.span.len offset len
      → AreMappings now.files.mappings → (answer : Answer) → IfSome (copy_of handle now.files.mappings.mappings) (λ copy. answer ≡ Bytes (take len (drop offset copy)))
      → Answered (Load handle offset len) answer now now old old
  load_private offset len info told private none are answer is =
      let m = told.mapping in
      let copy = told_copy now.files.mappings handle info are told private in
      let own : is_shared m.kind ≡ false = ap (λ (i : MapInfo). is_shared i.kind) told.same ∙ ap is_shared private in
      let bytes : answer ≡ Bytes (take len (drop offset m.copy)) = subst (λ o. IfSome o (λ copy. answer ≡ Bytes (take len (drop offset copy)))) copy.0 is in
      let within = read_within 65536 info.span.len offset len (sym none) in
      subst (λ a. Answered (Load handle offset len) a now now old old) (sym bytes) (record {
        step = λ h stands.
            subst (λ f. Comes h (Load handle offset len) f (Bytes (take len (drop offset m.copy))) now old old)
            (sym (fate_given now old on serves (Load handle offset len) handle (72 + 3 * min len 65536) (load_through offset len) refl m told.is (most_refusal 65536 m.len offset len)
            (ap (λ (i : MapInfo). most_refusal 65536 i.span.len offset len) told.same ∙ sym none) (read_copy m offset len)
            (ap (λ b. within_mapping (option_map Refused (most_refusal 65536 m.len offset len)) (if b then fread m.name (m.start + offset) len else read_copy m offset len)) own)
            h stands refl refl refl))
            (same_state now old h (Load handle offset len) (Bytes (take len (drop offset m.copy))) refl stands);
        keeps = write_back-refl old.medium;
        printable = tt;
        room = let few : length (take len (drop offset m.copy)) ≤ len = subst (λ n. n ≤ len) (sym (length-take len (drop offset m.copy))) (min-le_left len (length (drop offset m.copy))) in omega (arith, few, within.2);
        serves = serves;
      })

  -- and a store
  pub store_missing : (offset : ℕ) (bytes : List ℕ) → mapping_of handle now.files.mappings.mappings ≡ None → Answered (Store handle offset bytes) (Refused because.Handle) now now old old
  store_missing offset bytes is = no_handle_answered now old on serves (Store handle offset bytes) handle 72 (store_through handle offset bytes) refl is (omega arith)

  pub store_misplaced : (offset : ℕ) (bytes : List ℕ) (why : Why) (info : MapInfo) (told : Told now.files.mappings.mappings handle info) → Some why ≡ span_refusal info.span.len offset (length bytes)
      → Answered (Store handle offset bytes) (Refused why) now now old old
  store_misplaced offset bytes why info told is =
      no_place_answered now old on serves (Store handle offset bytes) handle 72 (store_through handle offset bytes) refl told.mapping told.is (span_refusal told.mapping.len offset (length bytes)) why
      (ap (λ (i : MapInfo). span_refusal i.span.len offset (length bytes)) told.same ∙ sym is)
      (if is_shared told.mapping.kind then fwrite told.mapping.name (told.mapping.start + offset) bytes else write_copy handle offset bytes) refl (omega arith)

  pub store_shared : (offset : ℕ) (bytes : List ℕ) (info : MapInfo) (told : Told now.files.mappings.mappings handle info) → info.kind ≡ Shared → None ≡ span_refusal info.span.len offset (length bytes)
      → (answer : Answer) (after : HostState) (new : Device) → Answered (FWrite info.name (info.span.start + offset) bytes) answer now after old new → Answered (Store handle offset bytes) answer now after old new
  store_shared offset bytes info told shared none answer after new was =
      answered_as (FWrite m.name (m.start + offset) bytes) (Store handle offset bytes) answer now after old new alike (omega arith) refl
      (subst (λ (i : MapInfo). Answered (FWrite i.name (i.span.start + offset) bytes) answer now after old new) (sym told.same) was)
    where
      m : Mapping
      m = told.mapping

      alike : (h : Machine) → Stands now old h → IsAs h (FWrite m.name (m.start + offset) bytes) (Store handle offset bytes)
      alike h stands =
          let file = file_under m told.is h stands in
          store_as h (sym stands.mode ∙ on) handle m (seen_of (Some m) told.is h stands) (ap (λ (i : MapInfo). is_shared i.kind) told.same ∙ ap is_shared shared) file.file
          (has-found m.name h.files file.file file.found) file.found file.within offset bytes (ap (λ (i : MapInfo). span_refusal i.span.len offset (length bytes)) told.same ∙ sym none)

  pub store_private : (offset : ℕ) (bytes : List ℕ) (info : MapInfo) (told : Told now.files.mappings.mappings handle info) → info.kind ≡ Private → None ≡ span_refusal info.span.len offset (length bytes)
      → Answered (Store handle offset bytes) Done now
      (record now { files = record now.files { mappings = record now.files.mappings { mappings = change_copy handle (overwritten offset bytes) now.files.mappings.mappings } } }) old old
  store_private offset bytes info told private none =
      let m = told.mapping in
      let own : is_shared m.kind ≡ false = ap (λ (i : MapInfo). is_shared i.kind) told.same ∙ ap is_shared private in
      remapped_answered now old (Store handle offset bytes) (record now.files.mappings { mappings = change_copy handle (overwritten offset bytes) now.files.mappings.mappings }) on serves (omega arith) tt
      (all-recopied now.files.pages.journal.tables.files handle (overwritten offset bytes) now.files.mappings.mappings (serves.mounted on).mapped)
      (λ h stands.
      fate_given now old on serves (Store handle offset bytes) handle 72 (store_through handle offset bytes) refl m told.is (span_refusal m.len offset (length bytes))
      (ap (λ (i : MapInfo). span_refusal i.span.len offset (length bytes)) told.same ∙ sym none) (write_copy handle offset bytes)
      (ap (λ b. within_mapping (option_map Refused (span_refusal m.len offset (length bytes))) (if b then fwrite m.name (m.start + offset) bytes else write_copy handle offset bytes)) own)
      h stands refl refl refl
      ∙ ap (λ (s : MappingsState). Gives Done (let k : Machine = record h { mappings = change_copy handle (overwritten offset bytes) s.mappings; next_handle = s.next } in k)) (sym (stands.mappings on)))

never : false ≡ true → ⊥
never e = cc e

-- The end of a mapping, by what the mappings say. Of a host behind a reference `host` is what is inside `now`.
pub unmap_stopped : {E : Type 0} (now host : HostState) (ms : MappingsState) (old : Device) → now.mode ≡ On → HostServes now old → (handle : ℕ) (r : Result (Unit {0}) E) → host ≡ now
    → (IsErr r ↔ (mapping_of handle host.files.mappings.mappings ≡ None)) → OnErr r (ms ≡ host.files.mappings) → is_err r ≡ true
    → Answered (Unmap handle) (Refused because.Handle) now (record host { files = record host.files { mappings = ms } }) old old
unmap_stopped now host ms old on serves handle (Ok x) inside refused same failed = absurd (never failed)
unmap_stopped now host ms old on serves handle (Err e) inside refused same failed =
    let after : record host { files = record host.files { mappings = ms } } ≡ now = ap (λ (s : MappingsState). let k : HostState = record host { files = record host.files { mappings = s } } in k) same ∙ inside in
    subst (λ k. Answered (Unmap handle) (Refused because.Handle) now k old old) (sym after)
    (unmap_refused now old on serves handle (ap (λ (k : HostState). mapping_of handle k.files.mappings.mappings) (sym inside) ∙ refused.0 refl))

pub unmap_done : {E : Type 0} (now host : HostState) (ms : MappingsState) (old : Device) → now.mode ≡ On → HostServes now old → (handle : ℕ) (r : Result (Unit {0}) E) → host ≡ now
    → (IsErr r ↔ (mapping_of handle host.files.mappings.mappings ≡ None)) → OnOk r (ms ≡ record host.files.mappings { mappings = without_mapping handle host.files.mappings.mappings }) → is_err r ≡ false
    → Answered (Unmap handle) Done now (record host { files = record host.files { mappings = ms } }) old old
unmap_done now host ms old on serves handle (Err e) inside refused is went = absurd (never (sym went))
unmap_done now host ms old on serves handle (Ok x) inside refused is went = by_mapping (mapping_of handle now.files.mappings.mappings) refl
  where
    after : record host { files = record host.files { mappings = ms } } ≡ record now { files = record now.files { mappings = record now.files.mappings { mappings = without_mapping handle now.files.mappings.mappings } } }
    after =
        ap (λ (s : MappingsState). let k : HostState = record host { files = record host.files { mappings = s } } in k) is
        ∙ ap (λ (k : HostState). let j : HostState = record k { files = record k.files { mappings = record k.files.mappings { mappings = without_mapping handle k.files.mappings.mappings } } } in j) inside

    by_mapping : (o : Option Mapping) → mapping_of handle now.files.mappings.mappings ≡ o → Answered (Unmap handle) Done now (record host { files = record host.files { mappings = ms } }) old old
    by_mapping None none = let failed = refused.1 (ap (λ (k : HostState). mapping_of handle k.files.mappings.mappings) inside ∙ none) in absurd (never failed)
    by_mapping (Some m) some = subst (λ k. Answered (Unmap handle) Done now k old old) (sym after) (unmap_answered now old on serves handle m some)

-- bytes that a mapping has are its copy's
pub copy_within : (s : MappingsState) (handle : ℕ) (info : MapInfo) → AreMappings s → (told : Told s.mappings handle info) → info.kind ≡ Private → (offset len : ℕ) → offset + len ≤ info.span.len
    → IfSome (copy_of handle s.mappings) (λ copy. offset + len ≤ length copy)
copy_within s handle info are told private offset len within =
    let copy = told_copy s handle info are told private in
    subst (λ o. IfSome o (λ bytes. offset + len ≤ length bytes)) (sym copy.0) (subst (λ n. offset + len ≤ n) (sym copy.1) within)

-- A store to a copy. Of a host behind a reference `host` is what is inside `now`.
pub store_own : (now host : HostState) (ms : MappingsState) (old : Device) → now.mode ≡ On → HostServes now old → (handle offset : ℕ) (bytes : List ℕ) (info : MapInfo)
    (told : Told now.files.mappings.mappings handle info) → info.kind ≡ Private → None ≡ span_refusal info.span.len offset (length bytes) → host ≡ now
    → ms ≡ record host.files.mappings { mappings = change_copy handle (overwritten offset bytes) host.files.mappings.mappings }
    → Answered (Store handle offset bytes) Done now (record host { files = record host.files { mappings = ms } }) old old
store_own now host ms old on serves handle offset bytes info told private none inside is =
    subst (λ k. Answered (Store handle offset bytes) Done now k old old) (sym after) (store_private now old on serves handle offset bytes info told private none)
  where
    after : record host { files = record host.files { mappings = ms } } ≡ record now { files = record now.files { mappings = record now.files.mappings { mappings = change_copy handle (overwritten offset bytes) now.files.mappings.mappings } } }
    after =
        ap (λ (s : MappingsState). let k : HostState = record host { files = record host.files { mappings = s } } in k) is
        ∙ ap (λ (k : HostState). let j : HostState = record k { files = record k.files { mappings = record k.files.mappings { mappings = change_copy handle (overwritten offset bytes) k.files.mappings.mappings } } } in j) inside
