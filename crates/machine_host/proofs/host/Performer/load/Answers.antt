use Rattle.std.proofs.Common.{◌∙◌, option_map, ap, sym, subst, arith}
use Rattle.mappings.specs.Object.{AreMappings, info_of}
use Rattle.nvm_model.specs.Mappings.{mapping_of}
use Rattle.machine_host.specs.Stands.{HostState}
use Rattle.machine_host.proofs.HandleCallLemmas.{copy_within, load_misplaced, load_missing, load_private, load_shared, told_none, told_of, told_reach}
use Rattle.machine_model.proofs.RefusalLemmas.{read_within}
use Rattle.machine_host.proofs.host.Performer.load.Goals as goal

pub returns-in_default : goal.returns-in_default
returns-in_default g c = (
  load_missing c.args.self.now _ c.requires.on c.requires.serves c.args.handle c.args.offset c.args.len
      (ap (λ (k : HostState). mapping_of c.args.handle k.files.mappings.mappings) (sym c.self.view_is) ∙ told_none c.self.inside.files.mappings.mappings c.args.handle c.in_default.ensures.info),
  tt,
)

pub returns-in-Some-most_refusal : goal.returns-in-Some-most_refusal
returns-in-Some-most_refusal g c =
    let told = told_of c.args.self.now.files.mappings.mappings c.args.handle c.in-Some.info (c.in-Some.ensures.info ∙ ap (λ (k : HostState). option_map info_of (mapping_of c.args.handle k.files.mappings.mappings)) c.self.view_is) in
    (load_misplaced c.args.self.now _ c.requires.on c.requires.serves c.args.handle c.args.offset c.args.len c.in-Some-most_refusal.why c.in-Some.info told c.in-Some-most_refusal.ensures, tt)

pub overflow_add-info : goal.overflow_add-info
overflow_add-info g c =
    let told = told_of c.self.inside.files.mappings.mappings c.args.handle c.in-Some.info c.in-Some.ensures.info in
    let reach = told_reach c.self.inside.files.mappings c.args.handle c.in-Some.info c.in-Some.ensures.mappings told in
    omega (arith, reach, c.requires.small)

pub fread-requires-clause-small : goal.fread-requires-clause-small
fread-requires-clause-small g c =
    let told = told_of c.self.inside.files.mappings.mappings c.args.handle c.in-Some.info c.in-Some.ensures.info in
    let reach = told_reach c.self.inside.files.mappings c.args.handle c.in-Some.info c.in-Some.ensures.mappings told in
    omega (arith, reach, c.requires.small)

pub load_copy-requires-clause-within : goal.load_copy-requires-clause-within
load_copy-requires-clause-within g c =
    let told = told_of c.args.self.now.files.mappings.mappings c.args.handle c.in-Some.info (c.in-Some.ensures.info ∙ ap (λ (k : HostState). option_map info_of (mapping_of c.args.handle k.files.mappings.mappings)) c.self.view_is) in
    let are = c.in-Some.ensures.mappings in
    copy_within c.args.self.now.files.mappings c.args.handle c.in-Some.info (subst (λ (k : HostState). AreMappings k.files.mappings) c.self.view_is are) told c.in-Private.is c.args.offset c.args.len
    (read_within 65536 c.in-Some.info.span.len c.args.offset c.args.len (sym c.in_default-most_refusal.ensures)).1

pub load_copy-requires-clause-few : goal.load_copy-requires-clause-few
load_copy-requires-clause-few g c = (read_within 65536 c.in-Some.info.span.len c.args.offset c.args.len (sym c.in_default-most_refusal.ensures)).2

pub returns-in-Shared : goal.returns-in-Shared
returns-in-Shared g c =
    let told = told_of c.args.self.now.files.mappings.mappings c.args.handle c.in-Some.info (c.in-Some.ensures.info ∙ ap (λ (k : HostState). option_map info_of (mapping_of c.args.handle k.files.mappings.mappings)) c.self.view_is) in
    load_shared c.args.self.now _ c.requires.on c.requires.serves c.args.handle c.args.offset c.args.len c.in-Some.info told c.in-Shared.is c.in_default-most_refusal.ensures _ c.fread.result _ _ c.fread.ensures

pub returns-in-Private : goal.returns-in-Private
returns-in-Private g c =
    let told = told_of c.args.self.now.files.mappings.mappings c.args.handle c.in-Some.info (c.in-Some.ensures.info ∙ ap (λ (k : HostState). option_map info_of (mapping_of c.args.handle k.files.mappings.mappings)) c.self.view_is) in (
      load_private c.args.self.now (g.D.Lines.state c.args.device.now) c.requires.on c.requires.serves c.args.handle c.args.offset c.args.len c.in-Some.info told c.in-Private.is c.in_default-most_refusal.ensures
          (subst (λ (k : HostState). AreMappings k.files.mappings) c.self.view_is c.in-Some.ensures.mappings) _
          c.load_copy.ensures.bytes,
      c.load_copy.ensures.within,
    )
