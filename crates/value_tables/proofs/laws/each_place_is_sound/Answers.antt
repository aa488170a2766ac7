use Rattle.value_tables.proofs.SoundLemmas.{places_sound}
use Rattle.value_tables.proofs.laws.each_place_is_sound.Goals as goal

pub returns : goal.returns
returns c = λ n h inputs ready sound program. places_sound inputs n h ready sound program
