use Rattle.std.proofs.Common.{arith, ◌≡◌, min, length, take, drop}
use Rattle.std.proofs.lemmas.Grind.{common_steps}
use Rattle.host_io.proofs.SourceLemmas.{given, ended}
use Rattle.host_io.proofs.mem_source.MemSourceSource.read.Goals as goal

pub returns-clause-bytes : goal.returns-clause-bytes
returns-clause-bytes c =
    let s = c.self.inside in
    let n = c.min-n.result in
    let left : c.as_slice.result.now ≡ s.bytes.items = c.as_slice.ensures in
    let out : c.copy_from_slice.new.self ≡ take n (drop s.at s.bytes.items) = grind (arith, common_steps, c.copy_from_slice.ensures.after) in
    let bound : n ≡ min (min s.piece (length c.args.buf.now)) (length (drop s.at s.bytes.items)) = grind (arith, common_steps) in (
      rw (← c.self.view_is) (given s.bytes.items c.args.buf.now c.copy_from_slice.new.self s.at n out (omega arith)),
      λ none room. ended s.bytes.items c.args.buf.now c.copy_from_slice.new.self s.at n s.piece bound c.self.invariant.1 none room out,
    )
