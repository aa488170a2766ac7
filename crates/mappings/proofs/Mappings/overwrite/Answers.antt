-- The mappings, once bytes were put into the copy of one.
use Rattle.std.proofs.Common.{◌+◌, ◌-◌, refl, ap, arith, length}
use Rattle.mappings.specs.Object.{MappingsState}
use Rattle.mappings.proofs.OverwriteLemmas.{overwritten-put}
use Rattle.mappings.proofs.Mappings.overwrite.Goals as goal

pub returns : goal.returns
returns c =
    ap (λ ms. let s : MappingsState = record { mappings = ms; next = c.args.self.now.next } in s)
    (overwritten-put c.args.handle c.args.self.now.next c.args.offset (c.args.offset + length c.args.bytes.now - c.args.offset) c.args.bytes.now c.bytes_mut.result.now c.copy_from_slice.new.self _ c.args.self.now.mappings
    c.get-maps.ensures.mappings.rise c.bytes_mut.ensures.value c.copy_from_slice.ensures.after (omega arith) c.requires.within refl)
