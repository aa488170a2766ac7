use Rattle.std.proofs.Common.{◌∙◌, option_map, ap, refl, sym, arith, if◌then◌else◌}
use Rattle.mappings.specs.Object.{info_of}
use Rattle.mappings.specs.declared.info.MapInfo.{MapInfo}
use Rattle.nvm_model.specs.Mappings.{is_shared, mapping_of}
use Rattle.machine_model.specs.OnFlushes.{flush_file, all_moved, flush_through, nothing_done, spans_refusal}
use Rattle.machine_host.specs.Stands.{HostState}
use Rattle.machine_host.proofs.FlushFateLemmas.{private_answered}
use Rattle.machine_host.proofs.HandleCallLemmas.{told_none, told_of, told_reach}
use Rattle.machine_host.proofs.HandledLemmas.{no_handle_answered, no_place_answered}
use Rattle.machine_host.proofs.host.Performer.flush.Goals as goal

pub returns-in_default : goal.returns-in_default
returns-in_default g c = λ action row wide.
    no_handle_answered c.args.self.now _ c.requires.on c.requires.serves action c.args.handle 72 (flush_through c.args.look c.args.spans.now) row
    (ap (λ (k : HostState). mapping_of c.args.handle k.files.mappings.mappings) (sym c.self.view_is) ∙ told_none c.self.inside.files.mappings.mappings c.args.handle c.in_default.ensures.info) (omega arith)

pub returns-in-Some-spans_refusal : goal.returns-in-Some-spans_refusal
returns-in-Some-spans_refusal g c = λ action row wide.
    let told = told_of c.args.self.now.files.mappings.mappings c.args.handle c.in-Some.info (c.in-Some.ensures.info ∙ ap (λ (k : HostState). option_map info_of (mapping_of c.args.handle k.files.mappings.mappings)) c.self.view_is) in
    let m = told.mapping in
    let spans = c.args.spans.now in
    no_place_answered c.args.self.now _ c.requires.on c.requires.serves action c.args.handle 72 (flush_through c.args.look spans) row m told.is (spans_refusal m.len spans) c.in-Some-spans_refusal.why
    (ap (λ (i : MapInfo). spans_refusal i.span.len spans) told.same ∙ sym c.in-Some-spans_refusal.ensures)
    (if is_shared m.kind then flush_file c.args.look m.name (all_moved m.start spans) else nothing_done) refl (omega arith)

pub flush_shared-requires-clause-reach : goal.flush_shared-requires-clause-reach
flush_shared-requires-clause-reach g c =
    let told = told_of c.self.inside.files.mappings.mappings c.args.handle c.in-Some.info c.in-Some.ensures.info in
    let reach = told_reach c.self.inside.files.mappings c.args.handle c.in-Some.info c.in-Some.ensures.mappings told in
    omega (arith, reach)

pub flush_shared-requires-clause-told : goal.flush_shared-requires-clause-told
flush_shared-requires-clause-told g c = c.in-Some.ensures.info ∙ ap (λ (k : HostState). option_map info_of (mapping_of c.args.handle k.files.mappings.mappings)) c.self.view_is

pub returns-in-Private : goal.returns-in-Private
returns-in-Private g c = λ action row wide.
    let told = told_of c.args.self.now.files.mappings.mappings c.args.handle c.in-Some.info (c.in-Some.ensures.info ∙ ap (λ (k : HostState). option_map info_of (mapping_of c.args.handle k.files.mappings.mappings)) c.self.view_is) in
    private_answered c.args.self.now _ c.requires.on c.requires.serves action c.args.handle c.args.look c.args.spans.now row told.mapping told.is
    (ap (λ (i : MapInfo). is_shared i.kind) told.same ∙ ap is_shared c.in-Private.is) (ap (λ (i : MapInfo). spans_refusal i.span.len c.args.spans.now) told.same ∙ sym c.in_default-spans_refusal.ensures) wide
