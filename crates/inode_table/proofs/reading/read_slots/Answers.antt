use Rattle.std.proofs.Common.{◌≡◌, ◌+◌, ◌<◌, ap, sym, subst, ◌∙◌, arith}
use Rattle.inode_table.specs.Words.{inode_words, slot_of}
use Rattle.inode_table.specs.Wrong.{AreRight, IsFirstWrong}
use Rattle.inode_table.proofs.ReadLemmas.{HasRead, all_read, first_wrong_is, has_read_more}
use Rattle.inode_table.proofs.reading.read_slots.Goals as goal

pub returns-in-Err-clause-err : goal.returns-in-Err-clause-err
returns-in-Err-clause-err c =
    let within : c.loop-inode.inode < 64 = omega arith in
    first_wrong_is c.args.words.now c.loop-inode.inode c.loop-inode.slots.items c.loop-inode.invariant c.in-Err.word within
    (subst (λ before. IsFirstWrong before (inode_words c.args.words.now c.loop-inode.inode) c.in-Err.word) c.as_slice.ensures.value
    (subst (λ inode. IsFirstWrong c.as_slice.result.now inode c.in-Err.word) c.inode_words.ensures.words c.in-Err.ensures.err))

pub loop-inode-preserved : goal.loop-inode-preserved
loop-inode-preserved c =
    let within : c.loop-inode.inode < 64 = omega arith in
    subst (HasRead c.args.words.now (c.loop-inode.inode + 1)) (sym c.in_ok-add-in-Ok.ensures)
    (has_read_more c.args.words.now c.loop-inode.inode c.loop-inode.slots.items c.loop-inode.invariant c.in-Ok.slot within
    (c.in-Ok.ensures.ok ∙ ap slot_of c.inode_words.ensures.words)
    (subst (λ before. AreRight before (inode_words c.args.words.now c.loop-inode.inode)) c.as_slice.ensures.value
    (subst (AreRight c.as_slice.result.now) c.inode_words.ensures.words c.in-Ok.ensures.right)))

pub returns-clause-ok : goal.returns-clause-ok
returns-clause-ok c =
    let done : c.loop-inode.inode ≡ 64 = omega arith in
    (all_read c.args.words.now c.loop-inode.slots.items (subst (λ n. HasRead c.args.words.now n c.loop-inode.slots.items) done c.loop-inode.invariant)).0

pub returns-clause-right : goal.returns-clause-right
returns-clause-right c =
    let done : c.loop-inode.inode ≡ 64 = omega arith in
    (all_read c.args.words.now c.loop-inode.slots.items (subst (λ n. HasRead c.args.words.now n c.loop-inode.slots.items) done c.loop-inode.invariant)).1
