use Rattle.machine_host.proofs.BadLineLemmas.{meta_there}
use Rattle.machine_host.proofs.PoisonLemmas.{poison_meta_answered}
use Rattle.machine_host.proofs.host.Performer.poison_meta.Goals as goal

pub poison-requires : goal.poison-requires
poison-requires g c = meta_there c.args.self.now.geometry _ c.requires.serves.layout c.args.line c.requires.within

pub returns : goal.returns
returns g c = poison_meta_answered c.args.self.now _ _ c.args.line c.requires.serves c.requires.within c.poison.ensures.lines c.poison.ensures.panel
