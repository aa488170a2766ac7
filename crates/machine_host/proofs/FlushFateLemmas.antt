-- What comes of a flush through a shared mapping, by what the pages of its file refuse.
use Rattle.std.proofs.Common.{◌≡◌, ◌+◌, ◌*◌, ◌==◌, ◌||◌, ◌≤◌, ◌++◌, ◌∙◌, ℕ, Bool, true, false, Option, Some, None, option_map, List, [], ◌∷◌, length, nat_lt, if◌then◌else◌, refl, sym, ap, ap₂, subst, arith}
use Rattle.std.proofs.lemmas.Bool.{le-ltb, or_from, or_parts}
use Rattle.std.proofs.lemmas.Bool.Decides.{nat_tests}
use Rattle.std.proofs.lemmas.List.{length-map}
use Rattle.std.specs.List.{list_any}
use Rattle.line_device.specs.Device.{Device}
use Rattle.nvm_base.specs.declared.units.Span.{Span}
use Rattle.nvm_model.specs.Blocks.{first_there}
use Rattle.nvm_model.specs.Mappings.{is_shared, mapping_of}
use Rattle.nvm_model.specs.Page.{Page}
use Rattle.nvm_model.specs.Storage.{Mapping}
use Rattle.nvm_model.specs.Touched.{next_bad_touched}
use Rattle.flush_engine.specs.Refusals.{flush_refusal, limit_refusal, poison_refusal, refused_if}
use Rattle.flush_engine.specs.Refusals.FlushRefusal.{Length, Limit, Range}
use Rattle.reply_text.specs.declared.reply.Why.{Why}
use Rattle.reply_text.specs.declared.reply.Why.TheVariants as because
use Rattle.reply_text.specs.Answer.{Answer}
use Rattle.reply_text.specs.Answer.Answer.{Done, PoisonFile, Refused}
use Rattle.script_text.specs.Action.{Action}
use Rattle.machine_model.specs.declared.look.Look.{Look}
use Rattle.machine_model.specs.declared.mode.Mode.TheVariants.{On}
use Rattle.machine_model.specs.Commands.{fate, meaning, unless_refused}
use Rattle.machine_host.specs.Faults.{flush_answer}
use Rattle.machine_model.specs.Machine.{Machine}
use Rattle.machine_model.specs.Machine.Fate.{Works}
use Rattle.machine_model.specs.Meaning.{Meaning, Reasons, first_reason, no_reasons}
use Rattle.machine_model.specs.OnFlushes.{all_moved, flush_file, flush_through, flush_with, flushed_answer, moved, nothing_done, spans_refusal, synced_in}
use Rattle.machine_model.specs.OnMappings.{within_mapping}
use Rattle.machine_model.specs.OnPages.{pages_named}
use Rattle.machine_host.specs.Responding.{Answered}
use Rattle.machine_host.specs.Stands.{Comes, HostServes, HostState, Stands}
use Rattle.machine_host.proofs.ExistsLemmas.{same_state}
use Rattle.machine_host.proofs.HandledLemmas.{comes_is, fate_given, reasons_are}
use Rattle.machine_model.proofs.RefusalLemmas.{fate_usable}
use Rattle.machine_model.specs.OnEvents.{lost_events}
use Rattle.machine_host.specs.Keeping.{Changes, Reach, reach}
use Rattle.machine_host.specs.Keeping.Reach.{AnyLine}

-- spans of a mapping are some, at most 8, have bytes, and end where it does
pub record AreRight (size : ℕ) (spans : List Span) : Type 0 where
  pub past : list_any (λ (s : Span). nat_lt size (s.start + s.len)) spans ≡ false
  pub empty : list_any (λ (s : Span). s.len == 0) spans ≡ false
  pub count : (length spans == 0 || nat_lt 8 (length spans)) ≡ false

pub spans_right : (size : ℕ) (spans : List Span) → spans_refusal size spans ≡ None → AreRight size spans
spans_right size spans = by_tests (list_any (λ (s : Span). nat_lt size (s.start + s.len)) spans) (list_any (λ (s : Span). s.len == 0) spans) (length spans == 0 || nat_lt 8 (length spans)) refl refl refl
  where
    by_tests : (a b c : Bool) → list_any (λ (s : Span). nat_lt size (s.start + s.len)) spans ≡ a → list_any (λ (s : Span). s.len == 0) spans ≡ b → (length spans == 0 || nat_lt 8 (length spans)) ≡ c
        → first_there (if a then Some because.Range else None) (first_there (if b then Some because.Length else None) (if c then Some because.Limit else None)) ≡ None → AreRight size spans
    by_tests true b c x y z none = cc none
    by_tests false true c x y z none = cc none
    by_tests false false true x y z none = cc none
    by_tests false false false x y z none = record { past = x; empty = y; count = z }

pub few_spans : (size : ℕ) (spans : List Span) → AreRight size spans → length spans ≤ 8
few_spans size spans right = let few = (or_parts (length spans == 0) (nat_lt 8 (length spans)) right.count).1 in grind (arith, nat_tests)

-- so they are spans of the file
module _ (size start whole : ℕ) (within : start + size ≤ whole) where
  none_past : (spans : List Span) → list_any (λ (s : Span). nat_lt size (s.start + s.len)) spans ≡ false → list_any (λ (s : Span). nat_lt whole (s.start + s.len)) (all_moved start spans) ≡ false
  none_past [] none = refl
  none_past (s ∷ ss) none =
      let parts = or_parts (nat_lt size (s.start + s.len)) (list_any (λ (s : Span). nat_lt size (s.start + s.len)) ss) none in
      or_from (nat_lt whole (start + s.start + s.len)) (list_any (λ (s : Span). nat_lt whole (s.start + s.len)) (all_moved start ss))
      (le-ltb whole (start + s.start + s.len) (let near : s.start + s.len ≤ size = (let e = parts.0 in grind (arith, nat_tests)) in omega (arith, near, within))) (none_past ss parts.1)

  none_empty : (spans : List Span) → list_any (λ (s : Span). s.len == 0) (all_moved start spans) ≡ list_any (λ (s : Span). s.len == 0) spans
  none_empty [] = refl
  none_empty (s ∷ ss) = ap (λ b. s.len == 0 || b) (none_empty ss)

moved_refusal : (name : List ℕ) (m : Mapping) (pages : List Page) (spans : List Span) → m.start + m.len ≤ 4096 * length pages → AreRight m.len spans
    → option_map (λ n. PoisonFile name (64 * n)) (next_bad_touched (all_moved m.start spans) pages 0) ≡ option_map (flush_answer name) (flush_refusal pages (all_moved m.start spans))
moved_refusal name m pages spans within right =
    let to = all_moved m.start spans in
    mapped_poison (next_bad_touched to pages 0)
    ∙ sym (ap (option_map (flush_answer name))
    (ap₂ (λ (a b : Bool). first_there (first_there (refused_if a Range) (refused_if b Length)) (first_there (limit_refusal to) (poison_refusal (next_bad_touched to pages 0))))
    (none_past m.len m.start (4096 * length pages) within spans right.past) (none_empty m.len m.start (4096 * length pages) within spans ∙ right.empty)
    ∙ ap (λ (b : Bool). first_there (refused_if b Limit) (poison_refusal (next_bad_touched to pages 0))) (ap (λ n. n == 0 || nat_lt 8 n) (length-map spans (moved m.start)) ∙ right.count)))
  where
    mapped_poison : (o : Option ℕ) → option_map (λ n. PoisonFile name (64 * n)) o ≡ option_map (flush_answer name) (poison_refusal o)
    mapped_poison None = refl
    mapped_poison (Some n) = refl

module _ (now : HostState) (d : Device) (on : now.mode ≡ On) (serves : HostServes now d) (action : Action) (handle : ℕ) (look : Look) (spans : List Span) (row : meaning action ≡ flush_with look handle spans)
    (m : Mapping) (is : mapping_of handle now.files.mappings.mappings ≡ Some m) (shared : is_shared m.kind ≡ true) (right : spans_refusal m.len spans ≡ None) where
  abbrev to : List Span
  to = all_moved m.start spans

  abbrev inner : Meaning
  inner = flush_file look m.name to

  pub shows : flush_through look spans m ≡ within_mapping (option_map Refused (spans_refusal m.len spans)) inner
  shows = ap (λ b. within_mapping (option_map Refused (spans_refusal m.len spans)) (if b then inner else nothing_done)) shared

  -- it is the flush of its file, refused for its bad lines alone
  pub fate_flush : (h : Machine) → Stands now d h → (pages : List Page) → pages_named m.name h.files ≡ pages → m.start + m.len ≤ 4096 * length pages
      → fate h action ≡ unless_refused h (option_map (flush_answer m.name) (flush_refusal pages to)) (Works (flushed_answer look m.name to pages)
      (record h { files = synced_in m.name to h.files; events = h.events ++ lost_events h.mappings m.name to pages }))
  fate_flush h stands pages named within =
      let of = flush_through look spans in
      let reasons : (meaning action).reasons h ≡ record no_reasons { unreadable = option_map (λ n. PoisonFile m.name (64 * n)) (next_bad_touched to (pages_named m.name h.files) 0) } =
      reasons_are now d on serves action handle 72 of row (Some m) is h stands ∙ ap (λ (x : Meaning). x.reasons h) shows
      ∙ ap (λ (o : Option Why). let q : Reasons = record (inner.reasons h) { named = None; places = option_map Refused o } in q) right in
      fate_usable h action (ap (λ (x : Meaning). x.needs) row) (sym stands.mode ∙ on)
      ∙ ap₂ (λ (q : Reasons) c. unless_refused h (first_reason None h.bad_meta q) c) reasons (comes_is now d on serves action handle 72 of row (Some m) is h stands ∙ ap (λ (x : Meaning). x.comes h) shows)
      ∙ ap₂ (λ (o : Option Answer) (p : List Page). unless_refused h o (Works (flushed_answer look m.name to p) (record h { files = synced_in m.name to h.files; events = h.events ++ lost_events h.mappings m.name to p })))
      (ap (λ p. option_map (λ n. PoisonFile m.name (64 * n)) (next_bad_touched to p 0)) named ∙ moved_refusal m.name m pages spans within (spans_right m.len spans right)) named

-- through a private one nothing is to be done
pub private_answered : (now : HostState) (d : Device) → now.mode ≡ On → HostServes now d → (action : Action) (handle : ℕ) (look : Look) (spans : List Span) → meaning action ≡ flush_with look handle spans
    → (m : Mapping) → mapping_of handle now.files.mappings.mappings ≡ Some m → is_shared m.kind ≡ false → spans_refusal m.len spans ≡ None → reach action ≡ AnyLine → Answered action Done now now d d
private_answered now d on serves action handle look spans row m is own right wide = record {
  step = λ h stands.
      subst (λ f. Comes h action f Done now d d)
      (sym (fate_given now d on serves action handle 72 (flush_through look spans) row m is (spans_refusal m.len spans) right nothing_done
      (ap (λ b. within_mapping (option_map Refused (spans_refusal m.len spans)) (if b then flush_file look m.name (all_moved m.start spans) else nothing_done)) own) h stands refl refl refl))
      (same_state now d h action Done refl stands);
  keeps = subst (λ (k : Reach). Changes k d d) (sym wide) tt;
  printable = tt;
  room = subst (λ (x : Meaning). 72 ≤ x.room) (sym row) (omega arith);
  serves = serves;
}
