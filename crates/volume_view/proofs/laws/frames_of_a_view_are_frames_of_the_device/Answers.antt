use Rattle.std.proofs.Common.{IsTrue}
use Rattle.volume_view.proofs.ShownLemmas.{shown-write_back}
use Rattle.volume_view.proofs.FrameLemmas.{write_back-behind, beside-behind, beside-shown}
use Rattle.volume_view.proofs.laws.frames_of_a_view_are_frames_of_the_device.Goals as goal

pub returns-clause-write_back : goal.returns-clause-write_back
returns-clause-write_back c ranges old new lent count = (shown-write_back ranges old new, write_back-behind ranges old new lent count)

pub returns-clause-beside : goal.returns-clause-beside
returns-clause-beside c ranges lines old new lent count =
    (beside-shown (λ n. IsTrue (lines n)) ranges old new lent, beside-behind (λ n. IsTrue (lines n)) ranges old new lent count)
