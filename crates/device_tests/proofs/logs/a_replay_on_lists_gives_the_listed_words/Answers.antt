use Rattle.std.proofs.Common.{refl}
use Rattle.word_log.specs.Replay.{first_wrong}
use Rattle.device_tests.proofs.logs.a_replay_on_lists_gives_the_listed_words.Goals as goal

pub replay-requires-clause-valid : goal.replay-requires-clause-valid
unfolding first_wrong
replay-requires-clause-valid g c = refl
