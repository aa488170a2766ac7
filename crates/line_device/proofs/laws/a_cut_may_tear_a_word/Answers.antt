use Rattle.line_device.proofs.TornLemmas.{torn-in, torn-part, torn-one, torn-bit, torn-eight}
use Rattle.line_device.proofs.laws.a_cut_may_tear_a_word.Goals as goal

pub returns-clause-whole : goal.returns-clause-whole
returns-clause-whole c = torn-in

pub returns-clause-fewer : goal.returns-clause-fewer
returns-clause-fewer c = torn-part

pub returns-clause-one : goal.returns-clause-one
returns-clause-one c v x = torn-one x v

pub returns-clause-gate : goal.returns-clause-gate
returns-clause-gate c = torn-bit

pub returns-clause-eight : goal.returns-clause-eight
returns-clause-eight c = torn-eight
