use Rattle.line_device.proofs.WriteBackLemmas.{is_image-write_back, writes_back-persisted}
use Rattle.line_device.proofs.laws.write_back_leaves_fewer_images.Goals as goal

pub returns-clause-images : goal.returns-clause-images
returns-clause-images c = is_image-write_back

pub returns-clause-persist : goal.returns-clause-persist
returns-clause-persist c = writes_back-persisted
