use Rattle.std.proofs.Common.{◌∙◌, option_map, length, ap, sym, arith}
use Rattle.mappings.specs.Object.{info_of}
use Rattle.nvm_model.specs.Mappings.{mapping_of}
use Rattle.machine_host.specs.Stands.{HostState}
use Rattle.machine_host.proofs.HandleCallLemmas.{copy_within, store_misplaced, store_missing, store_own, store_shared, told_none, told_of, told_reach}
use Rattle.machine_model.proofs.RefusalLemmas.{span_allowed}
use Rattle.machine_host.proofs.host.Performer.store.Goals as goal

pub returns-in_default : goal.returns-in_default
returns-in_default g c =
    store_missing c.args.self.now _ c.requires.on c.requires.serves c.args.handle c.args.offset c.args.bytes.now
    (ap (λ (k : HostState). mapping_of c.args.handle k.files.mappings.mappings) (sym c.self.view_is) ∙ told_none c.self.inside.files.mappings.mappings c.args.handle c.in_default.ensures.info)

pub returns-in-Some-span_refusal : goal.returns-in-Some-span_refusal
returns-in-Some-span_refusal g c =
    let told = told_of c.args.self.now.files.mappings.mappings c.args.handle c.in-Some.info (c.in-Some.ensures.info ∙ ap (λ (k : HostState). option_map info_of (mapping_of c.args.handle k.files.mappings.mappings)) c.self.view_is) in
    store_misplaced c.args.self.now _ c.requires.on c.requires.serves c.args.handle c.args.offset c.args.bytes.now c.in-Some-span_refusal.why c.in-Some.info told c.in-Some-span_refusal.ensures

pub overflow_add-info : goal.overflow_add-info
overflow_add-info g c =
    let told = told_of c.self.inside.files.mappings.mappings c.args.handle c.in-Some.info c.in-Some.ensures.info in
    let reach = told_reach c.self.inside.files.mappings c.args.handle c.in-Some.info c.in-Some.ensures.mappings told in
    omega (arith, reach, c.requires.small)

pub overwrite-requires-clause-within : goal.overwrite-requires-clause-within
overwrite-requires-clause-within g c =
    let told = told_of c.self.inside.files.mappings.mappings c.args.handle c.in-Some.info c.in-Some.ensures.info in
    copy_within c.self.inside.files.mappings c.args.handle c.in-Some.info c.in-Some.ensures.mappings told c.in-Private.is c.args.offset (length c.args.bytes.now)
    (span_allowed c.in-Some.info.span.len c.args.offset (length c.args.bytes.now) (sym c.in_default-span_refusal.ensures)).1

pub returns-in-Shared : goal.returns-in-Shared
returns-in-Shared g c =
    let told = told_of c.args.self.now.files.mappings.mappings c.args.handle c.in-Some.info (c.in-Some.ensures.info ∙ ap (λ (k : HostState). option_map info_of (mapping_of c.args.handle k.files.mappings.mappings)) c.self.view_is) in
    store_shared c.args.self.now _ c.requires.on c.requires.serves c.args.handle c.args.offset c.args.bytes.now c.in-Some.info told c.in-Shared.is c.in_default-span_refusal.ensures _ _ _ c.fwrite.ensures

pub returns-in-Private : goal.returns-in-Private
returns-in-Private g c =
    let told = told_of c.args.self.now.files.mappings.mappings c.args.handle c.in-Some.info (c.in-Some.ensures.info ∙ ap (λ (k : HostState). option_map info_of (mapping_of c.args.handle k.files.mappings.mappings)) c.self.view_is) in
    store_own c.args.self.now _ _ _ c.requires.on c.requires.serves c.args.handle c.args.offset c.args.bytes.now c.in-Some.info told c.in-Private.is c.in_default-span_refusal.ensures c.self.view_is c.overwrite.ensures
